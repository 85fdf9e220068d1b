-- Inputs in order, each once, and what stands for them.
use Rattle.std.proofs.Common.{ℕ, ◌+◌, ◌≡◌, ◌≢◌, ◌||◌, ◌&&◌, Bool, true, false, cond, not, List, [], ◌∷◌, Option, Some, None, length, map, slice_get, unwrap_or, nat_le, ap, ◌∙◌, sym, subst, refl, arith, set}
use Rattle.std.proofs.lemmas.Bool.{false≢true, eqb-true, ltb-true, lt-ltb, and_parts}
use Rattle.std.proofs.lemmas.List.Sums.{sum_by-cons}
use Rattle.std.proofs.lemmas.List.Sorted.{list_any-IsPermutation, sum_by-IsPermutation}
use Rattle.std.specs.List.{AllByRecursion, list_all, list_any, sum_by}
use Rattle.std.specs.List.Sorted.{IsPermutation}
use Rattle.fault_system.specs.Truth.{NumberSet, count_true}
use Rattle.round_gates.specs.declared.node.GateKind.{GateKind}
use Rattle.round_gates.specs.declared.node.GateKind.TheVariants as kinds
use Rattle.round_gates.specs.declared.tree.Input.{Input}
use Rattle.round_gates.specs.declared.tree.Input.TheVariants as inputs
use Rattle.round_gates.specs.Trees.{InputsOnce}
use Rattle.round_gates.specs.Truths.{kind_true}
use Rattle.round_gates.specs.inner.Trees.{input_true}
use Rattle.round_gates.proofs.Basics.{all-map}
use Rattle.merged_gates.specs.Merged.{InputsRise, comes_before, same_input}
use Rattle.merged_gates.specs.inner.Solutions.{AreStands, HasSameInputs, IsJoin, once_from, stand_of}
use Rattle.merged_gates.specs.inner.Tests.{rises_from}

-- ---- two inputs

pub same-is : (a b : Input) → same_input a b ≡ true → a ≡ b
same-is (inputs.Event m) (inputs.Event n) h = ap inputs.Event (eqb-true m n h)
same-is (inputs.Event m) (inputs.Gate n) h = absurd (false≢true h)
same-is (inputs.Gate m) (inputs.Event n) h = absurd (false≢true h)
same-is (inputs.Gate m) (inputs.Gate n) h = ap inputs.Gate (eqb-true m n h)

before-then : (a b c : Input) → comes_before a b ≡ true → comes_before b c ≡ true → comes_before a c ≡ true
before-then (inputs.Event m) (inputs.Event n) (inputs.Event k) h g = let x = ltb-true m n h in let y = ltb-true n k g in lt-ltb m k (omega arith)
before-then (inputs.Event m) (inputs.Event n) (inputs.Gate k) h g = refl
before-then (inputs.Event m) (inputs.Gate n) (inputs.Event k) h g = absurd (false≢true g)
before-then (inputs.Event m) (inputs.Gate n) (inputs.Gate k) h g = refl
before-then (inputs.Gate m) (inputs.Event n) c h g = absurd (false≢true h)
before-then (inputs.Gate m) (inputs.Gate n) (inputs.Event k) h g = absurd (false≢true g)
before-then (inputs.Gate m) (inputs.Gate n) (inputs.Gate k) h g = let x = ltb-true m n h in let y = ltb-true n k g in lt-ltb m k (omega arith)

not-before : (a : Input) → comes_before a a ≡ true → ⊥
not-before (inputs.Event m) h = let x = ltb-true m m h in absurd (omega arith)
not-before (inputs.Gate m) h = let x = ltb-true m m h in absurd (omega arith)

-- ---- rising lists

all-behind : (a : Input) (ins : List Input) → rises_from (Some a) ins ≡ true → AllByRecursion (λ other. comes_before a other ≡ true) ins
all-behind a [] h = tt
all-behind a (b ∷ ins) h =
    let p = and_parts (comes_before a b) (rises_from (Some b) ins) h in
    (p.0, all-map (λ x. comes_before b x ≡ true) (λ x. comes_before a x ≡ true) (λ x bx. before-then a b x p.0 bx) ins (all-behind b ins p.1))

without-first : (a : Input) (ins : List Input) → rises_from (Some a) ins ≡ true → rises_from None ins ≡ true
without-first a [] h = refl
without-first a (b ∷ ins) h = (and_parts (comes_before a b) (rises_from (Some b) ins) h).1

pub rise-all : (ins : List Input) → rises_from None ins ≡ true → InputsRise ins
rise-all [] h = tt
rise-all (a ∷ ins) h = (all-behind a ins h, rise-all ins (without-first a ins h))

pub rise-once : (ins : List Input) → InputsRise ins → InputsOnce ins
rise-once [] h = tt
rise-once (a ∷ ins) h =
    (all-map (λ x. comes_before a x ≡ true) (λ x. a ≢ x) (λ x ax same. not-before a (subst (λ (y : Input). comes_before a y ≡ true) (sym same) ax)) ins h.0, rise-once ins h.1)

-- ---- each once

and-again : (b c : Bool) → b && (b && c) ≡ b && c
and-again true c = refl
and-again false c = refl

or-again : (b c : Bool) → b || (b || c) ≡ b || c
or-again true c = refl
or-again false c = refl

-- what a test says of the last input, for all and for one
abbrev last_all : (Input → Bool) → Option Input → Bool
last_all test None = true
last_all test (Some last) = test last

abbrev last_any : (Input → Bool) → Option Input → Bool
last_any test None = false
last_any test (Some last) = test last

once-all : (test : Input → Bool) (last : Option Input) (ins : List Input) → last_all test last && list_all test (once_from last ins) ≡ last_all test last && list_all test ins
once-all test last [] = refl
once-all test None (x ∷ ins) = once-all test (Some x) ins
once-all test (Some y) (x ∷ ins) = by-case (same_input y x) refl (once-all test (Some x) ins)
  where
    by-case : (b : Bool) → same_input y x ≡ b → test x && list_all test (once_from (Some x) ins) ≡ test x && list_all test ins
        → test y && list_all test (cond b (once_from (Some x) ins) (x ∷ once_from (Some x) ins)) ≡ test y && (test x && list_all test ins)
    by-case true e more =
        subst (λ (z : Input). test z && list_all test (once_from (Some x) ins) ≡ test z && (test x && list_all test ins)) (sym (same-is y x e)) (more ∙ sym (and-again (test x) (list_all test ins)))
    by-case false e more = ap (λ b. test y && b) more

once-any : (test : Input → Bool) (last : Option Input) (ins : List Input) → last_any test last || list_any test (once_from last ins) ≡ last_any test last || list_any test ins
once-any test last [] = refl
once-any test None (x ∷ ins) = once-any test (Some x) ins
once-any test (Some y) (x ∷ ins) = by-case (same_input y x) refl (once-any test (Some x) ins)
  where
    by-case : (b : Bool) → same_input y x ≡ b → test x || list_any test (once_from (Some x) ins) ≡ test x || list_any test ins
        → test y || list_any test (cond b (once_from (Some x) ins) (x ∷ once_from (Some x) ins)) ≡ test y || (test x || list_any test ins)
    by-case true e more =
        subst (λ (z : Input). test z || list_any test (once_from (Some x) ins) ≡ test z || (test x || list_any test ins)) (sym (same-is y x e)) (more ∙ sym (or-again (test x) (list_any test ins)))
    by-case false e more = ap (λ b. test y || b) more

not-and : (b c : Bool) → b && not c ≡ not (not b || c)
not-and true c = refl
not-and false c = refl

all-not : (test : Input → Bool) (ins : List Input) → list_all test ins ≡ not (list_any (λ x. not (test x)) ins)
all-not test [] = refl
all-not test (x ∷ ins) = ap (λ b. test x && b) (all-not test ins) ∙ not-and (test x) (list_any (λ y. not (test y)) ins)

all-order : (test : Input → Bool) (xs ys : List Input) → IsPermutation xs ys → list_all test xs ≡ list_all test ys
all-order test xs ys h = all-not test xs ∙ ap not (list_any-IsPermutation (λ x. not (test x)) xs ys h) ∙ sym (all-not test ys)

-- the inputs in another order, each once, are the same inputs
pub same-sorted : (xs ys zs : List Input) → IsPermutation xs ys → zs ≡ once_from None ys → HasSameInputs xs zs
same-sorted xs ys zs order once = record {
  all = λ test. ap (list_all test) once ∙ once-all test None ys ∙ sym (all-order test xs ys order);
  any = λ test. ap (list_any test) once ∙ once-any test None ys ∙ sym (list_any-IsPermutation test xs ys order);
}

-- ---- kinds

pub all-of : (f : Input → Bool) (xs : List Input) → list_all (λ b. b) (map f xs) ≡ list_all f xs
all-of f [] = refl
all-of f (x ∷ xs) = ap (λ b. f x && b) (all-of f xs)

pub any-of : (f : Input → Bool) (xs : List Input) → list_any (λ b. b) (map f xs) ≡ list_any f xs
any-of f [] = refl
any-of f (x ∷ xs) = ap (λ b. f x || b) (any-of f xs)

-- a gate that does not count is as true over the same inputs
pub kind-same : (kind : GateKind) → IsJoin kind → (xs ys : List Input) → HasSameInputs xs ys → (f : Input → Bool) → kind_true kind (map f ys) ≡ kind_true kind (map f xs)
kind-same kinds.And is xs ys h f = all-of f ys ∙ h.all f ∙ sym (all-of f xs)
kind-same kinds.Or is xs ys h f = any-of f ys ∙ h.any f ∙ sym (any-of f xs)
kind-same (kinds.AtLeast k) is xs ys h f = absurd is

one-count : (b : Bool) (n : ℕ) → cond b (n + 1) n ≡ cond b 1 0 + n
one-count true n = let h : n + 1 ≡ 1 + n = omega arith in h
one-count false n = let h : n ≡ 0 + n = omega arith in h

count-sum : (f : Input → Bool) (xs : List Input) → count_true (map f xs) ≡ sum_by (λ x. cond (f x) 1 0) xs
count-sum f [] = refl
count-sum f (x ∷ xs) =
    one-count (f x) (count_true (map f xs)) ∙ ap (λ n. cond (f x) 1 0 + n) (count-sum f xs) ∙ sym (sum_by-cons (λ y. cond (f y) 1 0) x xs)

-- a gate that counts is as true over its inputs in another order
pub count-order : (k : ℕ) (xs ys : List Input) → IsPermutation xs ys → (f : Input → Bool) → kind_true (kinds.AtLeast k) (map f ys) ≡ kind_true (kinds.AtLeast k) (map f xs)
count-order k xs ys h f =
    ap (nat_le k) (count-sum f ys ∙ sum_by-IsPermutation (λ x. cond (f x) 1 0) xs ys h ∙ sym (count-sum f xs))

and-false : (b : Bool) → b && true ≡ b
and-false true = refl
and-false false = refl

or-false : (b : Bool) → b || false ≡ b
or-false true = refl
or-false false = refl

-- over one input a gate that does not count is an `or`
pub kind-one : (kind : GateKind) → IsJoin kind → (f : Input → Bool) (xs : List Input) → length xs ≡ 1 → kind_true kinds.Or (map f xs) ≡ kind_true kind (map f xs)
kind-one kind is f [] h = absurd (omega arith)
kind-one kinds.And is f (x ∷ []) h = or-false (f x) ∙ sym (and-false (f x))
kind-one kinds.Or is f (x ∷ []) h = refl
kind-one (kinds.AtLeast k) is f (x ∷ []) h = absurd is
kind-one kind is f (x ∷ y ∷ xs) h = absurd (omega arith)

-- ---- what stands for an input

unwrapped : (events set : NumberSet) (stands : List Input) → AreStands events set stands → (n : ℕ) (found : Option Input) → slice_get stands n ≡ found → input_true events set (unwrap_or found (inputs.Gate n)) ≡ set n
unwrapped events set stands h n None at = refl
unwrapped events set stands h n (Some input) at = h n input at

pub stand-true : (events set : NumberSet) (stands : List Input) → AreStands events set stands → (input : Input) → input_true events set (stand_of stands input) ≡ input_true events set input
stand-true events set stands h (inputs.Event n) = refl
stand-true events set stands h (inputs.Gate n) = unwrapped events set stands h n (slice_get stands n) refl

pub stands-true : (events set : NumberSet) (stands : List Input) → AreStands events set stands → (ins : List Input) → map (input_true events set) (map (stand_of stands) ins) ≡ map (input_true events set) ins
stands-true events set stands h [] = refl
stands-true events set stands h (x ∷ ins) =
    ap (λ b. b ∷ map (input_true events set) (map (stand_of stands) ins)) (stand-true events set stands h x) ∙ ap (λ bs. input_true events set x ∷ bs) (stands-true events set stands h ins)
