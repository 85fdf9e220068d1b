-- Rows of marks, set one after the other.
use Rattle.std.proofs.Common.{ℕ, ◌+◌, ◌≡◌, ◌<◌, Bool, true, false, ◌||◌, List, [], ◌∷◌, ◌++◌, length, drop, get_or, slice_index_or, refl, sym, ap, ◌∙◌, subst, suc, add-one, drop-cons, arith, Option}
use Rattle.plain_values.specs.declared.refusal.Refusal.{Refusal}
use Rattle.noted_refusals.specs.inner.Noted.{Noted, noting}
use Rattle.noted_refusals.proofs.Laws.{noted-more}
use Rattle.plain_values.specs.Numbered.{numbered_from}
use Rattle.used_sets.specs.inner.Marks.{Marked}

or-assoc : (a b c : Bool) → ((a || b) || c) ≡ (a || (b || c))
or-assoc true b c = refl
or-assoc false b c = refl

or-none : (a : Bool) → (a || false) ≡ a
or-none true = refl
or-none false = refl

-- no mark
pub marked-none : (marks : List Bool) → Marked marks marks (λ number. false)
marked-none marks = record { long = refl; marked = λ number within. sym (or-none (slice_index_or marks number false)) }

-- marks, and then more
pub marked-then : (before middle after : List Bool) (p q : ℕ → Bool) → Marked before middle p → Marked middle after q → Marked before after (λ number. p number || q number)
marked-then before middle after p q one two = record {
  long = two.long ∙ one.long;
  marked = λ number within. two.marked number (subst (λ n. number < n) (sym one.long) within) ∙ ap (λ b. b || q number) (one.marked number within) ∙ or-assoc (slice_index_or before number false) (p number) (q number);
}

-- the same marks by another test
pub marked-same : (before after : List Bool) (p q : ℕ → Bool) → Marked before after p → ((number : ℕ) → p number ≡ q number) → Marked before after q
marked-same before after p q marked same = record { long = marked.long; marked = λ number within. marked.marked number within ∙ ap (λ b. slice_index_or before number false || b) (same number) }

-- parts that give the same at each number that there is
pub numbered-same : {Part Row : Type 0} (f g : ℕ → Part → List Row) (number : ℕ) (parts : List Part) → ((n : ℕ) (part : Part) → n < number + length parts → f n part ≡ g n part) → numbered_from f number parts ≡ numbered_from g number parts
numbered-same f g number [] same = refl
numbered-same f g number (part ∷ parts) same =
    let here : number < number + suc (length parts) = omega arith in
    (λ i. same number part here i ++ numbered_from f (number + 1) parts)
    ∙ ap (λ rest. g number part ++ rest) (numbered-same f g (number + 1) parts (λ n each within. same n each (let more : n < number + suc (length parts) = omega (arith, within) in more)))

-- the refusals of the numbered parts that are left, with one part less
pub numbered-noting : {Part : Type 0} (f : ℕ → Part → List Refusal) (parts : List Part) (i : ℕ) (part : Part) (first next goal : Noted) → i < length parts → part ≡ get_or parts i part
    → next ≡ noting first (f i part) → noting first (numbered_from f i (drop i parts)) ≡ goal → noting next (numbered_from f (i + 1) (drop (i + 1) parts)) ≡ goal
numbered-noting f parts i part first next goal within is noted before =
    let left : drop i parts ≡ part ∷ drop (i + 1) parts = drop-cons parts i part within ∙ ap (λ t. t ∷ drop (suc i) parts) (sym is) ∙ ap (λ n. part ∷ drop n parts) (sym (add-one i)) in
    noted-more first next (f i part) (numbered_from f (i + 1) (drop (i + 1) parts)) noted ∙ ap (λ all. noting first (numbered_from f i all)) (sym left) ∙ before
