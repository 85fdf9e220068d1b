-- How gates are used, gate by gate.
use Rattle.std.proofs.Common.{ℕ, zero, suc, ◌+◌, ◌≡◌, ◌<◌, ◌==◌, Bool, true, false, cond, ◌||◌, List, [], ◌∷◌, ◌++◌, length, filter, take, get_or, replicate, inl, ⊎_elim, ap, ◌∙◌, sym, refl, arith}
use Rattle.std.specs.List.{list_any, range_with_len}
use Rattle.std.specs.Bool.{if◌then◌else◌}
use Rattle.std.proofs.lemmas.Bool.{eq-eqb, eqb-true}
use Rattle.std.proofs.lemmas.List.{ext_get_or, get_or-replicate}
use Rattle.std.proofs.lemmas.List.Elements.{filter-append}
use Rattle.std.proofs.lemmas.List.FromFn.{get_or-map-range_with_len, length-map-range_with_len}
use Rattle.fault_system.proofs.Elements.{In, In-filter}
use Rattle.round_gates.specs.declared.tree.Gate.{Gate}
use Rattle.round_gates.specs.declared.tree.Input.{Input}
use Rattle.round_gates.specs.Trees.{has_gate, is_gate}
use Rattle.dot_writer.specs.declared.usages.Usage.{Usage}
use Rattle.dot_writer.specs.declared.usages.Usage.TheVariants.{Unused, Once, Shared}
use Rattle.dot_writer.specs.TreePicture.{usage_of, usages_of, users, uses}
use Rattle.dot_writer.specs.inner.DotText.{noted, used_by}

-- ---- a gate that has an input twice is noted once

used-again : (gate : ℕ) (usage : Usage) → used_by gate (used_by gate usage) ≡ used_by gate usage
used-again gate Unused = ap (λ b. if b then Once gate else Shared gate) (eq-eqb gate gate refl)
used-again gate (Once first) = by (first == gate) refl
  where
    by : (b : Bool) → (first == gate) ≡ b → used_by gate (if b then Once first else Shared first) ≡ (if b then Once first else Shared first)
    by true e = ap (λ b. if b then Once first else Shared first) e
    by false e = refl
used-again gate (Shared first) = refl

noted-or : (gate : ℕ) (a b : Bool) (usage : Usage) → noted gate (a || b) usage ≡ noted gate b (noted gate a usage)
noted-or gate true true usage = sym (used-again gate usage)
noted-or gate true false usage = refl
noted-or gate false b usage = refl

or-none : (b : Bool) → b || false ≡ b
or-none true = refl
or-none false = refl

any-more : {X : Type 0} (p : X → Bool) (xs : List X) (i : ℕ) (d : X) → i < length xs → list_any p (take (suc i) xs) ≡ list_any p (take i xs) || p (get_or xs i d)
any-more p [] i d less = absurd (omega arith)
any-more p (x ∷ xs) zero d less = or-none (p x)
any-more p (x ∷ xs) (suc i) d less = ap (λ b. p x || b) (any-more p xs i d (omega arith)) ∙ assoc (p x) (list_any p (take i xs)) (p (get_or xs i d))
  where
    assoc : (a b c : Bool) → a || (b || c) ≡ (a || b) || c
    assoc true b c = refl
    assoc false b c = refl

-- one input more
pub noted-more : (gate : ℕ) (ins : List Input) (i : ℕ) (d : Input) (n : ℕ) (usage : Usage) → i < length ins
    → noted gate (is_gate n (get_or ins i d)) (noted gate (has_gate (take i ins) n) usage) ≡ noted gate (has_gate (take (i + 1) ins) n) usage
noted-more gate ins i d n usage less =
    let next : suc i ≡ i + 1 = omega arith in
    sym (noted-or gate (has_gate (take i ins) n) (is_gate n (get_or ins i d)) usage)
    ∙ ap (λ b. noted gate b usage) (sym (any-more (is_gate n) ins i d less) ∙ ap (λ k. has_gate (take k ins) n) next)

-- ---- one gate more

range-more : (low n : ℕ) → range_with_len low (suc n) ≡ range_with_len low n ++ (low + n) ∷ []
range-more low zero = let same : low ≡ low + 0 = omega arith in ap (λ k. k ∷ []) same
range-more low (suc n) = let same : (low + 1) + n ≡ low + suc n = omega arith in ap (λ t. low ∷ t) (range-more (low + 1) n ∙ ap (λ k. range_with_len (low + 1) n ++ k ∷ []) same)

range-below : (n low count : ℕ) → In n (range_with_len low count) → n < low + count
range-below n low zero i = absurd i
range-below n low (suc count) i = ⊎_elim (λ (e : low ≡ n). omega arith) (λ later. let rest = range-below n (low + 1) count later in omega arith) i

users-below : (gates : List Gate) (count input : ℕ) (user : ℕ) → In user (users gates count input) → user < count
users-below gates count input user i = let below = range-below user 0 count (In-filter (λ position. uses gates position input) user (range_with_len 0 count) i).0 in omega arith

users-more : (gates : List Gate) (count input : ℕ) → users gates (count + 1) input ≡ users gates count input ++ cond (uses gates count input) (count ∷ []) []
users-more gates count input =
    let next : count + 1 ≡ suc count = omega arith in
    let here : 0 + count ≡ count = omega arith in
    ap (λ k. users gates k input) next
    ∙ ap (filter (λ position. uses gates position input)) (range-more 0 count ∙ ap (λ k. range_with_len 0 count ++ k ∷ []) here)
    ∙ filter-append (λ position. uses gates position input) (range_with_len 0 count) (count ∷ [])

usage-more : (gate : ℕ) (us : List ℕ) (b : Bool) → ((user : ℕ) → In user us → user < gate) → noted gate b (usage_of us) ≡ usage_of (us ++ cond b (gate ∷ []) [])
usage-more gate us false below = ap usage_of (none us)
  where
    none : (xs : List ℕ) → xs ≡ xs ++ []
    none [] = refl
    none (x ∷ xs) = ap (λ t. x ∷ t) (none xs)
usage-more gate [] true below = refl
usage-more gate (x ∷ []) true below = by (x == gate) refl
  where
    by : (b : Bool) → (x == gate) ≡ b → (if b then Once x else Shared x) ≡ Shared x
    by true e = let same : x ≡ gate = eqb-true x gate e in let less = below x (inl refl) in absurd (omega arith)
    by false e = refl
usage-more gate (x ∷ y ∷ rest) true below = refl

pub gate-more : (gates : List Gate) (count input : ℕ) → noted count (uses gates count input) (usage_of (users gates count input)) ≡ usage_of (users gates (count + 1) input)
gate-more gates count input =
    usage-more count (users gates count input) (uses gates count input) (users-below gates count input) ∙ ap usage_of (sym (users-more gates count input))

-- ---- all gates

pub none-yet : (count n : ℕ) (usages : List Usage) → usages ≡ replicate count Unused → n < count → get_or usages n Unused ≡ Unused
none-yet count n usages are less = ap (λ us. get_or us n Unused) are ∙ get_or-replicate count n Unused Unused less

pub all-noted : (gates : List Gate) (usages : List Usage) → length usages ≡ length gates → ((n : ℕ) → n < length gates → get_or usages n Unused ≡ usage_of (users gates (length gates) n)) → usages ≡ usages_of gates
all-noted gates usages long each =
    let of : ℕ → Usage = λ input. usage_of (users gates (length gates) input) in
    ext_get_or Unused usages (usages_of gates) (long ∙ sym (length-map-range_with_len of 0 (length gates)))
    (λ i less. let inside : i < length gates = omega arith in let same : 0 + i ≡ i = omega arith in each i inside ∙ sym (get_or-map-range_with_len of 0 (length gates) i i Unused inside same))
