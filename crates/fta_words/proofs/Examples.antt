-- Small command lines, worked.
use Rattle.std.proofs.Common.{◌≡◌, ℕ, List, [], ◌∷◌, Some, None, true, codes, refl, subst, arith}
use Rattle.plain_values.specs.declared.name.Root.{Root}
use Rattle.fta_words.specs.declared.kind.Kind.TheVariants as kind
use Rattle.fta_words.specs.declared.command.Options.{Options}
use Rattle.fta_words.proofs.AllKinds.{ascii_text, name_is_plain}
use Rattle.fta_words.proofs.Identifiers.{word_of}
use Rattle.fta_words.proofs.Places.{first_of, none_of}
use Rattle.fta_words.specs.Table.{name_of}
use Rattle.fta_words.specs.Words.{Alone, Apart, AreDifferent, Attached, Given, IsInFull, IsNumberText, IsPlainWord, IsRequest, Request, before_options, file_words, in_full, is_given, option_words, value_of, with_colons}

-- a root
joined : with_colons (codes "p" ∷ codes "q" ∷ codes "s" ∷ []) ≡ codes "p::q::s"
joined = refl

-- leading zeros count as digits
number : IsNumberText (codes "007") 7
number =
    record { some_digit = omega arith; at_most_nine = omega arith; digits = ((omega arith, omega arith), ((omega arith, omega arith), ((omega arith, omega arith), tt))); number_is = refl }

-- an option in each spelling
limit : Given
limit = record { name = codes "limit"; spelling = Attached (codes "5") }

after : Given
after = record { name = codes "after"; spelling = Apart (codes "a=b") }

all : Given
all = record { name = codes "all"; spelling = Alone }

spelled_so : option_words (limit ∷ after ∷ all ∷ []) ≡ codes "--limit=5" ∷ codes "--after" ∷ codes "a=b" ∷ codes "--all" ∷ []
unfolding limit after all
spelled_so = refl

said : value_of (codes "after") (limit ∷ after ∷ all ∷ []) ≡ Some (codes "a=b")
unfolding limit after all
said = refl

not_said : value_of (codes "max-order") (limit ∷ after ∷ all ∷ []) ≡ None
unfolding limit after all
not_said = refl

flag : is_given (codes "all") (limit ∷ after ∷ all ∷ []) ≡ true
unfolding limit after all
flag = refl

-- no option stands twice
twice : AreDifferent (codes "limit" ∷ codes "limit" ∷ []) → ⊥
twice differ = differ.0.0 refl

-- the words that name files stand behind the root or the target, and before the options
files_of_check : file_words (codes "check" ∷ codes "p::s" ∷ codes "a" ∷ codes "b" ∷ codes "--all" ∷ codes "c" ∷ []) ≡ codes "a" ∷ codes "b" ∷ []
files_of_check = refl

files_of_cuts : file_words (codes "cuts" ∷ codes "p::s" ∷ codes "t" ∷ codes "a" ∷ codes "--limit" ∷ codes "5" ∷ []) ≡ codes "a" ∷ []
files_of_cuts = refl

-- options before the plain words leave no plain word
options_first : before_options (codes "--limit" ∷ codes "5" ∷ codes "cuts" ∷ []) ≡ []
options_first = refl

-- a whole request: the letters of root, target and set are folded, and what is not given says nothing
abbrev root : Root
root = record { names = codes "p" ∷ codes "s" ∷ []; item = None }

abbrev set_alone : Options
set_alone =
    record { paging = record { limit = None; after = None; max_order = None }; set = codes "e"; hours = None; form = record { format = []; gates = []; unrated = []; profile = [] }; chosen = []; flags = [] }

abbrev asked : Request
asked = record { kind = kind.Why; root = root; target = codes "t"; number = 0; of = None; files = codes "f" ∷ []; options = set_alone }

why_line : IsRequest [] (codes "why" ∷ codes "P::S" ∷ codes "T" ∷ codes "f" ∷ codes "--set=E" ∷ []) asked
why_line =
    record {
      plain = codes "P::S" ∷ codes "T" ∷ codes "f" ∷ [];
      given = record { name = codes "set"; spelling = Attached (codes "E") } ∷ [];
      words_are = refl;
      plain_words =
          ((λ same. absurd (omega (arith, same)), ascii_text (codes "P::S") refl), ((λ same. absurd (omega (arith, same)), ascii_text (codes "T") refl), ((λ same. absurd (omega (arith, same)), ascii_text (codes "f") refl), tt)));
      options =
          record {
            allowed = ((first_of (codes "set") (codes "profile" ∷ []), (λ same. absurd (omega (arith, same)), ascii_text (codes "E") refl)), tt);
            once = (tt, tt);
          };
      required = (refl, tt);
      fit = refl;
      asked = (
        codes "P::S",
        codes "T",
        refl,
        record {
          root_is =
              record { text_is = refl; at_least_two = omega arith; identifiers = (word_of 112 [] refl refl, (word_of 115 [] refl refl, tt)); item_identifier = tt };
          some_file = omega arith;
        },
        refl,
        refl,
        refl,
      );
      said =
          record {
            limit = tt;
            after = tt;
            max_order = tt;
            set = refl;
            hours = tt;
            form = record { format = refl; gates = refl; unrated = refl; profile = refl };
            chosen = record { rise = tt; chosen_are = λ place. (λ has. absurd (none_of place has), λ less. absurd (omega (arith, less))) };
            flags = refl;
          };
    }

-- short forms in full
help_alone : in_full (codes "-h" ∷ []) ≡ codes "help" ∷ []
help_alone = refl

version_alone : in_full (codes "--version" ∷ []) ≡ codes "version" ∷ []
version_alone = refl

help_of_cuts : in_full (codes "cuts" ∷ codes "--help" ∷ []) ≡ codes "help" ∷ codes "cuts" ∷ []
help_of_cuts = refl

-- what is no command has none, and neither has a command with more words
help_of_none : in_full (codes "cut" ∷ codes "--help" ∷ []) ≡ codes "cut" ∷ codes "--help" ∷ []
help_of_none = refl

help_of_more : in_full (codes "check" ∷ codes "p::s" ∷ codes "--help" ∷ []) ≡ codes "check" ∷ codes "p::s" ∷ codes "--help" ∷ []
help_of_more = refl

-- no request in full begins with an option
no_option_first : (reports : List (List ℕ)) (bytes : List ℕ) (words : List (List ℕ)) (request : Request) → IsInFull reports ((45 ∷ bytes) ∷ words) request → ⊥
no_option_first reports bytes words request is =
    let name : name_of request.kind ≡ 45 ∷ bytes = cc (is.words_are) in
    (subst IsPlainWord name (name_is_plain request.kind)).0 refl
