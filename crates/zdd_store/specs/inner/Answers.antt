-- What the store remembers: questions on its families, each with a right answer; and what is known of families.
use Rattle.std.specs.Prelude.{ℕ, ◌<◌, ◌≤◌, ◌≡◌, Bool, List, length, filter, min, IsTrue, ◌==◌, ◌&&◌, ◌||◌, nat_le, All, Option, Some}
use Rattle.std.specs.List.{AllByRecursion}
use Rattle.zdd_store.specs.inner.Family.{Family, branch, covers, least_number, sets_without, IsAntichain}
use Rattle.zdd_store.specs.inner.Store.{Families, family_at}
use Rattle.zdd_store.specs.declared.question.Operation.{Operation}
use Rattle.zdd_store.specs.declared.question.Operation.TheVariants.{Minimal, MinUnion, MinProduct, Without, UpToSize, OfSize, Union, Meet}
use Rattle.zdd_store.specs.declared.question.Question.{Question}
use Rattle.zdd_store.specs.declared.question.Known.{Known}
use Rattle.zdd_store.specs.declared.shapes.Shape.{Shape}

-- The family has exactly the minimal ones of the sets that pass a test which each larger set passes too: it covers
-- what passes, and none of its sets is within another.
pub record IsLeastFamily (test : List ℕ → Bool) (family : Family) : Type 0 where
  pub covering : (set : List ℕ) → covers family set ≡ test set
  pub apart : IsAntichain family

-- of a family, the sets of at most so many numbers
unfoldable pub sets_up_to : ℕ → Family → Family
sets_up_to most family = filter (λ set. nat_le (length set) most) family

-- of a family, the sets of exactly so many numbers
unfoldable pub sets_of : ℕ → Family → Family
sets_of size family = filter (λ set. length set == size) family

-- each set of the family has at least so many numbers
abbrev pub HasAtLeast : ℕ → Family → Type 0
HasAtLeast size family = AllByRecursion (λ set. size ≤ length set) family

-- each set of the family has at most so many numbers; 2 ^ 32 - 1 says nothing
abbrev pub HasAtMost : ℕ → Family → Type 0
HasAtMost size family = size < 4294967295 → AllByRecursion (λ set. length set ≤ size) family

-- the family's sets with its first variable, which is taken from them, cover what those without it cover
abbrev pub IsWide : Family → Type 0
IsWide family =
    (var : ℕ) (lo hi : Family) → family ≡ branch var lo hi → var ≡ least_number family → var < least_number lo → var < least_number hi
    → (set : List ℕ) → IsTrue (covers lo set) → IsTrue (covers hi set)

-- what is known of a family: between how many and how many numbers its sets have, that none of them is within another, and that
-- those with the first variable cover what the others do
pub record HasShape (family : Family) (shape : Shape) : Type 0 where
  pub least : HasAtLeast shape.least family
  pub greatest : HasAtMost shape.greatest family
  pub apart : IsTrue shape.apart → IsAntichain family
  pub wide : IsTrue shape.wide → IsWide family

-- a set is asked for: it has at most so many numbers; where these are 2 ^ 32 - 1 each set is
abbrev pub IsAsked : ℕ → List ℕ → Type 0
IsAsked most set = most < 4294967295 → length set ≤ most

-- Of the sets that are asked for the family covers those that pass a test which each larger set passes too, and none of
-- its sets is within another.
pub record IsLeastUpTo (most : ℕ) (test : List ℕ → Bool) (family : Family) : Type 0 where
  pub covering : (set : List ℕ) → IsAsked most set → covers family set ≡ test set
  pub apart : IsAntichain family

-- as far as sets are asked for, the family has the minimal unions of a set of the one and a set of the other family, and no
-- number that is less than all of theirs
pub record IsProductUpTo (most : ℕ) (a b family : Family) : Type 0 where
  pub least : min (least_number a) (least_number b) ≤ least_number family
  pub right : IsLeastUpTo most (λ set. covers a set && covers b set) family

-- the family covers what passes a test, and has no number that is less than `low`
pub record IsCovering (low : ℕ) (test : List ℕ → Bool) (family : Family) : Type 0 where
  pub least : low ≤ least_number family
  pub covering : (set : List ℕ) → covers family set ≡ test set

-- the family covers what one of two families covers, or what both do, and has no number that is less than all of theirs
abbrev pub IsUnionOf : Family → Family → Family → Type 0
IsUnionOf a b = IsCovering (min (least_number a) (least_number b)) (λ set. covers a set || covers b set)

abbrev pub IsMeetOf : Family → Family → Family → Type 0
IsMeetOf a b = IsCovering (min (least_number a) (least_number b)) (λ set. covers a set && covers b set)

-- the three positions are in the store, and the answer is right for their families
pub record AnswersTwo (store : Families) (IsRight : Family → Family → Family → Type 0) (first second answer : ℕ) : Type 0 where
  pub first_in : first < length store
  pub second_in : second < length store
  pub answer_in : answer < length store
  pub right : IsRight (family_at store first) (family_at store second) (family_at store answer)

-- the two positions are in the store, and the answer is right for their families
pub record AnswersOne (store : Families) (IsRight : Family → Family → Type 0) (first answer : ℕ) : Type 0 where
  pub first_in : first < length store
  pub answer_in : answer < length store
  pub right : IsRight (family_at store first) (family_at store answer)

-- the answer to an operation on the family at `first`, and at `second` or with the size `second`, for sets of at most so
-- many numbers, is right
abbrev pub IsAnswerOf : Families → Operation → ℕ → ℕ → ℕ → ℕ → Type 0
IsAnswerOf store Minimal first second most answer = AnswersOne store (λ a r. IsLeastFamily (covers a) r) first answer
IsAnswerOf store MinUnion first second most answer = AnswersTwo store (λ a b r. IsLeastFamily (λ set. covers a set || covers b set) r) first second answer
IsAnswerOf store MinProduct first second most answer = AnswersTwo store (IsProductUpTo most) first second answer
IsAnswerOf store Without first second most answer = AnswersTwo store (λ a b r. r ≡ sets_without a b) first second answer
IsAnswerOf store UpToSize first second most answer = AnswersOne store (λ a r. r ≡ sets_up_to second a) first answer
IsAnswerOf store OfSize first second most answer = AnswersOne store (λ a r. r ≡ sets_of second a) first answer
IsAnswerOf store Union first second most answer = AnswersTwo store IsUnionOf first second answer
IsAnswerOf store Meet first second most answer = AnswersTwo store IsMeetOf first second answer

-- the answer to a question is right
abbrev pub IsAnswer : Families → Question → ℕ → Type 0
IsAnswer store question answer =
    IsAnswerOf store question.operation question.first.position question.second question.most answer

-- each answer of a table is right
abbrev pub AreRight : Families → List Known → Type 0
AreRight store table = All (λ known. IsAnswer store known.question known.answer) table

-- each answer that is known is right
abbrev pub KnowsRight : Families → (Question → Option ℕ) → Type 0
KnowsRight store known = (question : Question) (answer : ℕ) → known question ≡ Some answer → IsAnswer store question answer
