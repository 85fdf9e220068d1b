-- What holds of each command, by a test of all.
use Rattle.std.proofs.Common.{◌≡◌, ℕ, Bool, true, false, if◌then◌else◌, List, [], ◌∷◌, Some, refl, sym, ap, ◌∙◌, rules}
use Rattle.std.specs.Prelude.{Contains}
use Rattle.std.specs.List.{AllByRecursion, list_all}
use Rattle.clap.proofs.WalkLemmas.{both}
use Rattle.fta_words.specs.declared.kind.Kind.{Kind}
use Rattle.fta_words.specs.declared.kind.TheConstants.{KINDS}
use Rattle.plain_values.specs.Name.{is_same_text}
use Rattle.fta_words.specs.Table.{kind_among, kind_named, name_of, place_of}
use Rattle.fta_words.proofs.Names.{text-is}
use Rattle.fta_words.proofs.Places.{each_of}

-- a test of all items is one of each
pub all_true : {X : Type 0} (test : X → Bool) (xs : List X) → list_all test xs ≡ true → AllByRecursion (λ x. test x ≡ true) xs
all_true test [] all = tt
all_true test (x ∷ xs) all = let two = both (test x) (list_all test xs) all in (two.0, all_true test xs two.1)

-- each command stands in the list
listed : (k : Kind) → Contains KINDS k
listed k = (place_of k, search rules, search rules)

-- what a test finds of all commands is so of each
pub every_kind : (test : Kind → Bool) → list_all test KINDS ≡ true → (k : Kind) → test k ≡ true
every_kind test all k = each_of (λ x. test x ≡ true) KINDS k (all_true test KINDS all) (listed k)

-- a command is found by its name
pub named_again : (k : Kind) → kind_named (name_of k) ≡ Some k
named_again k = search rules

-- commands of one name are one
pub same_kind : (a b : Kind) → name_of a ≡ name_of b → a ≡ b
same_kind a b same = let found : Some a ≡ Some b = sym (named_again a) ∙ ap kind_named same ∙ named_again b in cc (found)

-- and what is found by a name has it
named_among : (kinds : List Kind) (name : List ℕ) (k : Kind) → kind_among kinds name ≡ Some k → name ≡ name_of k
named_among [] name k is = cc
named_among (first ∷ kinds) name k is = go (is_same_text (name_of first) name) refl (named_among kinds name k) is
  where
    go : (t : Bool) → is_same_text (name_of first) name ≡ t → (kind_among kinds name ≡ Some k → name ≡ name_of k) → (if t then Some first else kind_among kinds name) ≡ Some k → name ≡ name_of k
    go true same rest found = let one : first ≡ k = cc (found) in sym (text-is (name_of first) name same) ∙ ap name_of one
    go false same rest found = rest found

pub named_so : (name : List ℕ) (k : Kind) → kind_named name ≡ Some k → name ≡ name_of k
named_so name k is = named_among KINDS name k is
