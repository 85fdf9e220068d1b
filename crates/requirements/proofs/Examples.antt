-- Worked rows of the definitions.
use Rattle.std.proofs.Common.{◌≡◌, [], ◌∷◌, Some, Ok, Err, refl}
use Rattle.std.specs.Prelude.{codes}
use Rattle.requirements.specs.declared.sentence.Sentence.TheVariants.{Order, Mixed, Never}
use Rattle.requirements.specs.declared.reading.GroupKind.TheVariants.{Parts}
use Rattle.requirements.specs.Requirements.{requirements_of}

-- a group, a requirement with a carriage return before its end, and one whose line lacks its end; a comment and empty lines say nothing
three : requirements_of (codes "parts g a.b # c\n\nR t order 2\r\nS u never")
    ≡ Ok (record {
      groups = record { kind = Parts; name = record { text = codes "g"; at = 6 }; members = record { text = codes "a.b"; at = 8 } ∷ [] } ∷ [];
      requirements =
          record { name = record { text = codes "R"; at = 17 }; target = record { text = codes "t"; at = 19 }; sentence = Order 2 [] }
          ∷ record { name = record { text = codes "S"; at = 30 }; target = record { text = codes "u"; at = 32 }; sentence = Never } ∷ [];
    })
three = refl

-- exceptions
except : requirements_of (codes "R t order 2 except e f")
    ≡ Ok (record {
      groups = [];
      requirements =
          record {
            name = record { text = codes "R"; at = 0 };
            target = record { text = codes "t"; at = 2 };
            sentence = Order 2 (record { text = codes "e"; at = 19 } ∷ record { text = codes "f"; at = 21 } ∷ []);
          } ∷ [];
    })
except = refl

-- a `#` within a word is one of its bytes, and a group and a number may follow `mixed`
mixed : requirements_of (codes "R t#u mixed g 3")
    ≡ Ok (record {
      groups = [];
      requirements = record { name = record { text = codes "R"; at = 0 }; target = record { text = codes "t#u"; at = 2 }; sentence = Mixed (record { text = codes "g"; at = 12 }) (Some 3) } ∷ [];
    })
mixed = refl

-- a text without a word has no requirement
none : requirements_of (codes "\n# nothing\n \t\r\n") ≡ Ok (record { groups = []; requirements = [] })
none = refl

-- the places of words that are wrong, or behind which one lacks
lacks_target : requirements_of (codes "a b possible\nR") ≡ Err 13
lacks_target = refl

lacks_number : requirements_of (codes "R t order") ≡ Err 4
lacks_number = refl

no_number : requirements_of (codes "R t order 1x") ≡ Err 10
no_number = refl

too_long : requirements_of (codes "R t order 1234567890") ≡ Err 10
too_long = refl

no_sentence : requirements_of (codes "R t sometimes") ≡ Err 4
no_sentence = refl

one_too_many : requirements_of (codes "R t never e") ≡ Err 10
one_too_many = refl

no_hours : requirements_of (codes "R t probability 1e-9 days 10") ≡ Err 21
no_hours = refl

-- a probability of 1 or more asks nothing, and neither do no hours
too_probable : requirements_of (codes "R t probability 1e9 hours 10") ≡ Err 16
too_probable = refl

no_time : requirements_of (codes "R t probability 1e-9 hours 0.0") ≡ Err 27
no_time = refl

no_member : requirements_of (codes "events g") ≡ Err 7
no_member = refl
