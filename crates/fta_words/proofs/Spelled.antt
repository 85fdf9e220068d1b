-- Options as they stand in words: one reading, and what stands first.
use Rattle.std.proofs.Common.{◌≡◌, ◌≢◌, ◌≤◌, ℕ, Bool, true, false, not, ◌&&◌, ◌||◌, ◌==◌, List, [], ◌∷◌, ◌++◌, length, map, refl, sym, ap, subst, ◌∙◌, inl, inr}
use Rattle.std.specs.Prelude.{Contains}
use Rattle.std.specs.List.{AllByRecursion, list_all, list_any}
use Rattle.std.proofs.lemmas.Bool.{false≢true}
use Rattle.clap.proofs.WalkLemmas.{both}
use Rattle.plain_values.specs.Name.{is_same_text}
use Rattle.fta_words.specs.declared.kind.Kind.{Kind}
use Rattle.fta_words.specs.Table.{all_flags, flags_of, is_among, valued_of}
use Rattle.fta_words.specs.inner.Parsed.{all_valued}
use Rattle.fta_words.specs.Words.{Alone, Apart, AreDifferent, Attached, Given, IsAllowed, IsPlainWord, Spelling, is_given, option_words, spelled}
use Rattle.fta_words.specs.inner.Reading.{Allowed, HaveOptions, NoneStandsFirst, StandsFirst}
use Rattle.fta_words.specs.inner.Naming.{Without}
use Rattle.fta_words.proofs.EachKind.{every_kind}
use Rattle.fta_words.proofs.Names.{name_has, text-is, text-same}
use Rattle.fta_words.proofs.Places.{each_of, none_of, one_of}
use Rattle.fta_words.proofs.Roots.{none_there, one_cut, same_cut}

-- No name of an option holds a `=`, and no flag is an option with a value.
pub record AreApart (flags valued : List (List ℕ)) : Type 0 where
  pub flag_names : (name : List ℕ) → Contains flags name → Without 61 name
  pub valued_names : (name : List ℕ) → Contains valued name → Without 61 name
  pub apart : (name : List ℕ) → Contains flags name → Contains valued name → ⊥

-- the parts of a text test
test_first : (a b : Bool) → (a || b) ≡ false → a ≡ false
test_first true b h = h
test_first false b h = refl

test_second : (a b : Bool) → (a || b) ≡ false → b ≡ false
test_second true b h = absurd (false≢true (sym h))
test_second false b h = h

is_not : (byte : ℕ) → (byte == 61) ≡ false → byte ≡ 61 → ⊥
is_not byte differs same = false≢true (sym differs ∙ ap (λ b. b == 61) same)

without : (bytes : List ℕ) → list_any (λ byte. byte == 61) bytes ≡ false → Without 61 bytes
without [] none = tt
without (byte ∷ bytes) none =
    (is_not byte (test_first (byte == 61) (list_any (λ b. b == 61) bytes) none), without bytes (test_second (byte == 61) (list_any (λ b. b == 61) bytes) none))

no_equals : (names : List (List ℕ)) → AllByRecursion (λ name. list_any (λ byte. byte == 61) name ≡ false) names → (name : List ℕ) → Contains names name → Without 61 name
no_equals [] all name has = absurd (none_of name has)
no_equals (first ∷ names) all name has = elim (one_of first name names has) [
  | inl same ↦ subst (Without 61) same (without first all.0)
  | inr there ↦ no_equals names all.1 name there
]

-- a test of two lists for that
abbrev are_apart : List (List ℕ) → List (List ℕ) → Bool
are_apart flags valued =
    list_all (λ name. not (list_any (λ byte. byte == 61) name)) flags
    && (list_all (λ name. not (list_any (λ byte. byte == 61) name)) valued && list_all (λ name. not (is_among valued name)) flags)

not_true : (t : Bool) → not t ≡ true → t ≡ false
not_true true is = absurd (false≢true is)
not_true false is = refl

all_not : (test : List ℕ → Bool) (names : List (List ℕ)) → list_all (λ name. not (test name)) names ≡ true → AllByRecursion (λ name. test name ≡ false) names
all_not test [] all = tt
all_not test (name ∷ names) all =
    let two = both (not (test name)) (list_all (λ n. not (test n)) names) all in (not_true (test name) two.0, all_not test names two.1)

tested_apart : (flags valued : List (List ℕ)) → are_apart flags valued ≡ true → AreApart flags valued
tested_apart flags valued is =
    let has_equals = λ (name : List ℕ). list_any (λ byte. byte == 61) name in
    let first = both (list_all (λ name. not (has_equals name)) flags) (list_all (λ name. not (has_equals name)) valued && list_all (λ name. not (is_among valued name)) flags) is in
    let second = both (list_all (λ name. not (has_equals name)) valued) (list_all (λ name. not (is_among valued name)) flags) first.1 in
    let others = all_not (is_among valued) flags second.1 in
    record {
      flag_names = no_equals flags (all_not has_equals flags first.0);
      valued_names = no_equals valued (all_not has_equals valued second.0);
      apart = λ name has other. false≢true (sym (each_of (λ n. is_among valued n ≡ false) flags name others has) ∙ name_has valued name other);
    }

pub kinds_apart : (k : Kind) → AreApart (flags_of k) (valued_of k)
kinds_apart k = tested_apart (flags_of k) (valued_of k) (every_kind (λ j. are_apart (flags_of j) (valued_of j)) refl k)

pub all_apart : AreApart all_flags all_valued
all_apart = tested_apart all_flags all_valued refl

-- ---- one reading

-- the name behind `--` in equal words
name_is : (a b : List ℕ) (xs ys : List (List ℕ)) → ◌≡◌ {A = List (List ℕ)} ((45 ∷ 45 ∷ a) ∷ xs) ((45 ∷ 45 ∷ b) ∷ ys) → (a ≡ b) × (xs ≡ ys)
name_is a b xs ys same = (cc (same), cc (same))

-- what stands first in words stands there in one way
pub one_next : (flags valued : List (List ℕ)) → AreApart flags valued → (n m : List ℕ) (s t : Spelling) (xs ys : List (List ℕ)) → spelled n s ++ xs ≡ spelled m t ++ ys
    → IsAllowed flags valued n s → IsAllowed flags valued m t → (n ≡ m) × (s ≡ t) × (xs ≡ ys)
one_next flags valued apart n m Alone Alone xs ys same a b =
    let is = name_is n m xs ys same in (is.0, refl, is.1)
one_next flags valued apart n m Alone (Attached v) xs ys same a b =
    let is = name_is n (m ++ (61 ∷ v)) xs ys same in absurd (none_there 61 m v (subst (Without 61) is.0 (apart.flag_names n a)))
one_next flags valued apart n m Alone (Apart v) xs ys same a b =
    let is = name_is n m xs (v ∷ ys) same in absurd (apart.apart m (subst (Contains flags) is.0 a) b.0)
one_next flags valued apart n m (Attached v) Alone xs ys same a b =
    let is = name_is (n ++ (61 ∷ v)) m xs ys same in absurd (none_there 61 n v (subst (Without 61) (sym is.0) (apart.flag_names m b)))
one_next flags valued apart n m (Attached v) (Attached w) xs ys same a b =
    let is = name_is (n ++ (61 ∷ v)) (m ++ (61 ∷ w)) xs ys same in
    let cut = same_cut 61 n v m w (apart.valued_names n a.0) (apart.valued_names m b.0) is.0 in
    (cut.0, ap (λ l. Attached l) cut.1, is.1)
one_next flags valued apart n m (Attached v) (Apart w) xs ys same a b =
    let is = name_is (n ++ (61 ∷ v)) m xs (w ∷ ys) same in absurd (none_there 61 n v (subst (Without 61) (sym is.0) (apart.valued_names m b.0)))
one_next flags valued apart n m (Apart v) Alone xs ys same a b =
    let is = name_is n m (v ∷ xs) ys same in absurd (apart.apart m b (subst (Contains valued) is.0 a.0))
one_next flags valued apart n m (Apart v) (Attached w) xs ys same a b =
    let is = name_is n (m ++ (61 ∷ w)) (v ∷ xs) ys same in absurd (none_there 61 m w (subst (Without 61) is.0 (apart.valued_names n a.0)))
one_next flags valued apart n m (Apart v) (Apart w) xs ys same a b =
    let is = name_is n m (v ∷ xs) (w ∷ ys) same in
    let value : v ≡ w = cc (is.1) in
    let rest : xs ≡ ys = cc (is.1) in
    (is.0, ap (λ l. Apart l) value, rest)

same_given : (a b : Given) → a.name ≡ b.name → a.spelling ≡ b.spelling → a ≡ b
same_given a b n s =
    let first : ◌≡◌ {A = Given} a (record { name = b.name; spelling = a.spelling }) = ap (λ (l : List ℕ). record { name = l; spelling = a.spelling }) n in
    let second : ◌≡◌ {A = Given} (record { name = b.name; spelling = a.spelling }) b = ap (λ (t : Spelling). record { name = b.name; spelling = t }) s in
    first ∙ second

some_words : (name : List ℕ) (spelling : Spelling) (rest : List (List ℕ)) → [] ≡ spelled name spelling ++ rest → ⊥
some_words name Alone rest same = cc
some_words name (Attached value) rest same = cc
some_words name (Apart value) rest same = cc

-- words are options in one way
pub one_given : (flags valued : List (List ℕ)) → AreApart flags valued → (a b : List Given) → Allowed flags valued a → Allowed flags valued b → option_words a ≡ option_words b → a ≡ b
one_given flags valued apart [] [] x y same = refl
one_given flags valued apart [] (m ∷ b) x y same = absurd (some_words m.name m.spelling (option_words b) same)
one_given flags valued apart (n ∷ a) [] x y same = absurd (some_words n.name n.spelling (option_words a) (sym same))
one_given flags valued apart (n ∷ a) (m ∷ b) x y same =
    let is = one_next flags valued apart n.name m.name n.spelling m.spelling (option_words a) (option_words b) same x.0 y.0 in
    let first : n ≡ m = same_given n m is.0 is.1 in
    let others : a ≡ b = one_given flags valued apart a b x.1 y.1 is.2 in
    cc (first, others)

-- ---- what stands first

-- the first of options that stand in words is the one that was found
pub first_is : (flags valued : List (List ℕ)) → AreApart flags valued → (words : List (List ℕ)) (name : List ℕ) (rest : List (List ℕ)) → StandsFirst flags valued words name rest
    → (given : List Given) → words ≡ option_words given → Allowed flags valued given
    → (option : Given) × (others : List Given) × (given ≡ option ∷ others) × (option.name ≡ name) × (rest ≡ option_words others) × Allowed flags valued others
first_is flags valued apart words name rest first [] same allowed = absurd (some_words name first.spelling rest (sym same ∙ first.words_are))
first_is flags valued apart words name rest first (option ∷ others) same allowed =
    let is = one_next flags valued apart option.name name option.spelling first.spelling (option_words others) rest (sym same ∙ first.words_are) allowed.0 first.allowed in
    (option, others, refl, is.0, sym is.2, allowed.1)

-- where none stands first there are none
pub none_given : (flags valued words : List (List ℕ)) → NoneStandsFirst flags valued words → (given : List Given) → words ≡ option_words given → Allowed flags valued given → given ≡ []
none_given flags valued words none [] same allowed = refl
none_given flags valued words none (option ∷ others) same allowed = absurd (none option.name option.spelling (option_words others) same allowed.0)

-- the name is followed by `=` and a text that is no value
pub none_attached : (flags valued : List (List ℕ)) → AreApart flags valued → (name value : List ℕ) (rest : List (List ℕ))
    → ((front back : List ℕ) → name ++ (61 ∷ value) ≡ front ++ (61 ∷ back) → length name ≤ length front)
    → (Contains valued name → IsPlainWord value → ⊥) → NoneStandsFirst flags valued ((45 ∷ 45 ∷ name ++ (61 ∷ value)) ∷ rest)
none_attached flags valued apart name value rest first none n Alone later same allowed =
    let is = name_is (name ++ (61 ∷ value)) n rest later same in none_there 61 name value (subst (Without 61) (sym is.0) (apart.flag_names n allowed))
none_attached flags valued apart name value rest first none n (Attached v) later same allowed =
    let is = name_is (name ++ (61 ∷ value)) (n ++ (61 ∷ v)) rest later same in
    let cut = one_cut 61 n v name value (apart.valued_names n allowed.0) (sym is.0) (first n v is.0) in
    none (subst (Contains valued) cut.0 allowed.0) (subst IsPlainWord cut.1 allowed.1)
none_attached flags valued apart name value rest first none n (Apart v) later same allowed =
    let is = name_is (name ++ (61 ∷ value)) n rest (v ∷ later) same in none_there 61 name value (subst (Without 61) (sym is.0) (apart.valued_names n allowed.0))

-- the name is no flag's, and no value stands behind it
pub none_apart : (flags valued : List (List ℕ)) (name : List ℕ) (rest : List (List ℕ))
    → ((front back : List ℕ) → name ≡ front ++ (61 ∷ back) → ⊥) → (Contains flags name → ⊥)
    → ((value : List ℕ) (later : List (List ℕ)) → rest ≡ value ∷ later → Contains valued name → IsPlainWord value → ⊥) → NoneStandsFirst flags valued ((45 ∷ 45 ∷ name) ∷ rest)
none_apart flags valued name rest no_equals no_flag none n Alone later same allowed =
    let is = name_is name n rest later same in no_flag (subst (Contains flags) (sym is.0) allowed)
none_apart flags valued name rest no_equals no_flag none n (Attached v) later same allowed =
    let is = name_is name (n ++ (61 ∷ v)) rest later same in no_equals n v is.0
none_apart flags valued name rest no_equals no_flag none n (Apart v) later same allowed =
    let is = name_is name n rest (v ∷ later) same in none v later is.1 (subst (Contains valued) (sym is.0) allowed.0) allowed.1

-- words that do not begin with `--` begin with no option
pub none_here : (flags valued : List (List ℕ)) (word : List ℕ) (rest : List (List ℕ)) → ((text : List ℕ) → word ≡ 45 ∷ 45 ∷ text → ⊥) → NoneStandsFirst flags valued (word ∷ rest)
none_here flags valued word rest none name Alone later same allowed = none name cc
none_here flags valued word rest none name (Attached v) later same allowed = none (name ++ (61 ∷ v)) cc
none_here flags valued word rest none name (Apart v) later same allowed = none name cc

-- ---- names that differ

-- an option of a name is given exactly where one of the names is it
pub differs_from_all : (name : List ℕ) (given : List Given) → is_given name given ≡ false → AllByRecursion (λ other. name ≢ other) (map (λ option. option.name) given)
differs_from_all name [] none = tt
differs_from_all name (option ∷ given) none =
    (λ same. false≢true (sym (test_first (is_same_text name option.name) (is_given name given) none) ∙ text-same name option.name same), differs_from_all name given (test_second (is_same_text name option.name) (is_given name given) none))

other_name : (name : List ℕ) (others : Bool) (other : List ℕ) → name ≢ other → others ≡ false → (is_same_text name other || others) ≡ false
other_name name others other differs none = go (is_same_text name other) refl
  where
    go : (t : Bool) → is_same_text name other ≡ t → (t || others) ≡ false
    go true is = absurd (differs (text-is name other is))
    go false is = none

pub not_among : (name : List ℕ) (given : List Given) → AllByRecursion (λ other. name ≢ other) (map (λ option. option.name) given) → is_given name given ≡ false
not_among name [] differ = refl
not_among name (option ∷ given) differ = other_name name (is_given name given) option.name differ.0 (not_among name given differ.1)

pub said_here : (name : List ℕ) (given : List Given) (option : Given) (others : List Given) → given ≡ option ∷ others → is_same_text name option.name ≡ true → is_given name given ≡ true
said_here name given option others is same = ap (is_given name) is ∙ ap (λ t. t || is_given name others) same

pub said_later : (name : List ℕ) (given : List Given) (option : Given) (others : List Given) → given ≡ option ∷ others → is_same_text name option.name ≡ false → is_given name given ≡ is_given name others
said_later name given option others is differs = ap (is_given name) is ∙ ap (λ t. t || is_given name others) differs

-- What a test for an option of a name tells.
abbrev pub TellsSaid : List (List ℕ) → List (List ℕ) → List (List ℕ) → List ℕ → Bool → Type 0
TellsSaid flags valued words name said = (given : List Given) → words ≡ option_words given → Allowed flags valued given → said ≡ is_given name given

-- an option and those that follow it, which have other names
pub options_more : (flags valued words : List (List ℕ)) (name : List ℕ) (rest : List (List ℕ)) → StandsFirst flags valued words name rest
    → (said : Bool) → TellsSaid flags valued rest name said → said ≡ false → HaveOptions flags valued rest → HaveOptions flags valued words
options_more flags valued words name rest first said tells none more =
    let option : Given = record { name = name; spelling = first.spelling } in (
      option ∷ more.0,
      first.words_are ∙ ap (λ l. spelled name first.spelling ++ l) more.1,
      record { allowed = (first.allowed, more.2.allowed); once = (differs_from_all name more.0 (sym (tells more.0 more.1 more.2.allowed) ∙ none), more.2.once) },
    )

-- and back
pub options_fewer : (flags valued : List (List ℕ)) → AreApart flags valued → (words : List (List ℕ)) (name : List ℕ) (rest : List (List ℕ)) → StandsFirst flags valued words name rest
    → (said : Bool) → TellsSaid flags valued rest name said → HaveOptions flags valued words → (said ≡ false) × HaveOptions flags valued rest
options_fewer flags valued apart words name rest first said tells all =
    let is = first_is flags valued apart words name rest first all.0 all.1 all.2.allowed in
    let once = subst (λ (given : List Given). AreDifferent (map (λ option. option.name) given)) is.2 all.2.once in
    let differ = subst (λ (n : List ℕ). AllByRecursion (λ other. n ≢ other) (map (λ option. option.name) is.1)) is.3 once.0 in
    (tells is.1 is.4 is.5 ∙ not_among name is.1 differ, (is.1, is.4, record { allowed = is.5; once = once.1 }))
