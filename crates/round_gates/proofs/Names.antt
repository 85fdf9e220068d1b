-- Names of gates in order, and their positions.
use Rattle.std.proofs.Common.{ℕ, zero, suc, ◌+◌, ◌≡◌, ◌<◌, Bool, true, false, cond, not, ◌||◌, nat_lt, List, [], ◌∷◌, length, get_or, Some, None, unwrap_or, ⊎_elim, ap, ◌∙◌, sym, subst, refl, arith, rules, tests}
use Rattle.std.proofs.lemmas.Bool.{false≢true, cases_order}
use Rattle.std.proofs.lemmas.Cmp.{nat_cmp_total, on_total, then_total}
use Rattle.std.proofs.lemmas.List.Folds.{list_any_at}
use Rattle.std.proofs.lemmas.Map.Lookups.{CmpEqualImpliesEq, exact_pairs, exact_unsigned}
use Rattle.std.specs.Cmp.{IsTotalOrder}
use Rattle.std.specs.List.{list_any, position_or_len, IsDistinct, AllByRecursion}
use Rattle.std.specs.List.Sorted.{IsSorted}
use Rattle.std.specs.Ordering.{nat_cmp, ordering_then, ordering_reverse, is_lt}
use Rattle.std.specs.declared.cmp.Ordering.{Ordering}
use Rattle.std.specs.declared.cmp.Ordering.TheVariants.{Less, Equal, Greater}
use Rattle.round_gates.specs.declared.node.GateKey.{GateKey}
use Rattle.round_gates.specs.contracts.node.GateKeyPartialEq.TheImpl.{eq-value as key_eq}
use Rattle.round_gates.specs.contracts.node.GateKeyOrd.TheImpl.{cmp-value}
use Rattle.round_gates.specs.Nodes.{same_key}
use Rattle.round_gates.specs.inner.Reached.{has_key}
use Rattle.round_gates.specs.Trees.{key_cmp, NamesRise}
use Rattle.round_gates.specs.inner.Trees.{place_of}
use Rattle.round_gates.proofs.Basics.{key_same}
use Rattle.round_gates.proofs.Rules.{key_exact}

pub keys_total : IsTotalOrder key_cmp
keys_total = then_total (on_total (λ (k : GateKey). k.fact) nat_cmp_total) (then_total (on_total (λ (k : GateKey). k.stage) nat_cmp_total) (on_total (λ (k : GateKey). k.place) nat_cmp_total))

abbrev triple : GateKey → ℕ × (ℕ × ℕ)
triple k = (k.fact, (k.stage, k.place))

abbrev key : ℕ × (ℕ × ℕ) → GateKey
key p = record { fact = p.0; stage = p.1.0; place = p.1.1 }

keys_exact : CmpEqualImpliesEq key_cmp
keys_exact a b h = ap key (exact_pairs nat_cmp (λ (x y : ℕ × ℕ). ordering_then (nat_cmp x.0 y.0) (nat_cmp x.1 y.1)) exact_unsigned (exact_pairs nat_cmp nat_cmp exact_unsigned exact_unsigned) (triple a) (triple b) h)

pub distinct-at : {X : Type 0} (e : X → X → Bool) (xs : List X) → IsDistinct e xs → (i j : ℕ) (d : X) → i < j → j < length xs → e (get_or xs i d) (get_or xs j d) ≡ false
unfolding IsDistinct
distinct-at e [] h i j d less fits = absurd (omega arith)
distinct-at e (x ∷ xs) h i zero d less fits = absurd (omega arith)
distinct-at {X} e (x ∷ xs) h zero (suc j) d less fits = all_at xs h.0 j (omega arith)
  where
    all_at : (ys : List X) → AllByRecursion (λ y. e x y ≡ false) ys → (k : ℕ) → k < length ys → e x (get_or ys k d) ≡ false
    all_at [] a k l = absurd (omega arith)
    all_at (y ∷ ys) a zero l = a.0
    all_at (y ∷ ys) a (suc k) l = all_at ys a.1 k (omega arith)
distinct-at e (x ∷ xs) h (suc i) (suc j) d less fits = distinct-at e xs h.1 i j d (omega arith) (omega arith)

-- sorted names that differ rise
pub names-rise : (keys : List GateKey) → IsSorted key_cmp keys → IsDistinct same_key keys → NamesRise keys
names-rise keys sorted distinct n d fits =
    by (key_cmp (get_or keys (n + 1) d) (get_or keys n d)) refl (sorted n d (omega arith) fits)
  where
    by : (o : Ordering) → key_cmp (get_or keys (n + 1) d) (get_or keys n d) ≡ o → is_lt o ≡ false → key_cmp (get_or keys n d) (get_or keys (n + 1) d) ≡ Less
    by Less e h = absurd (false≢true (sym h))
    by Equal e h =
        let same : get_or keys n d ≡ get_or keys (n + 1) d = sym (keys_exact _ _ e) in
        absurd (false≢true (sym (distinct-at same_key keys distinct n (n + 1) d (omega arith) fits) ∙ ap (same_key (get_or keys n d)) (sym same) ∙ key_same (get_or keys n d)))
    by Greater e h = keys_total.antisymm (get_or keys n d) (get_or keys (n + 1) d) ∙ ap ordering_reverse e

position-in : {X : Type 0} (p : X → Bool) (xs : List X) (d : X) → list_any p xs ≡ true → (position_or_len p xs < length xs) × (p (get_or xs (position_or_len p xs) d) ≡ true)
position-in p [] d e = absurd (false≢true e)
position-in {X} p (x ∷ xs) d e = by (p x) refl e (position-in p xs d)
  where
    by : (b : Bool) → p x ≡ b → b || list_any p xs ≡ true → (list_any p xs ≡ true → (position_or_len p xs < length xs) × (p (get_or xs (position_or_len p xs) d) ≡ true))
        → (cond (not b) (1 + position_or_len p xs) 0 < length (x ∷ xs)) × (p (get_or (x ∷ xs) (cond (not b) (1 + position_or_len p xs) 0) d) ≡ true)
    by true is found rest = (omega arith, is)
    by false is found rest =
        let r = rest found in
        let next : 1 + position_or_len p xs ≡ suc (position_or_len p xs) = omega arith in
        (omega (arith, r.0), ap (λ (n : ℕ). p (get_or (x ∷ xs) n d)) next ∙ r.1)

-- a name that is there stands at its position
pub place-in : (keys : List GateKey) (key : GateKey) (d : GateKey) → has_key keys key ≡ true → (place_of keys key < length keys) × (get_or keys (place_of keys key) d ≡ key)
place-in keys key d has =
    let r = position-in (λ other. same_key key other) keys d has in
    let is : place_of keys key ≡ position_or_len (λ other. same_key key other) keys = ap (λ b. unwrap_or (cond b (Some (position_or_len (λ other. same_key key other) keys)) None) 0) (below _ _ r.0) in
    (subst (λ (n : ℕ). n < length keys) (sym is) r.0, ap (λ (n : ℕ). get_or keys n d) is ∙ sym (key_exact key _ r.1))
  where
    below : (a b : ℕ) → a < b → nat_lt a b ≡ true
    below a b h = search (rules, tests)

pub has-at : (keys : List GateKey) (n : ℕ) (d : GateKey) → n < length keys → has_key keys (get_or keys n d) ≡ true
has-at keys n d fits = list_any_at (λ other. same_key (get_or keys n d) other) keys n d fits (key_same (get_or keys n d))

-- the position of a name that differs from all others is where it stands
pub place-at : (keys : List GateKey) → IsDistinct same_key keys → (n : ℕ) (d : GateKey) → n < length keys → place_of keys (get_or keys n d) ≡ n
place-at keys distinct n d fits =
    let r = place-in keys (get_or keys n d) d (has-at keys n d fits) in
    ⊎_elim (λ e. e) (λ apart. ⊎_elim
    (λ less. absurd (false≢true (sym (distinct-at same_key keys distinct _ n d less fits) ∙ ap (λ (k : GateKey). same_key k (get_or keys n d)) r.1 ∙ key_same (get_or keys n d))))
    (λ more. absurd (false≢true (sym (distinct-at same_key keys distinct n _ d more r.0) ∙ ap (same_key (get_or keys n d)) r.1 ∙ key_same (get_or keys n d))))
    apart)
    (cases_order (place_of keys (get_or keys n d)) n)

pub cmp-is : (a b : GateKey) → cmp-value.it a b ≡ key_cmp a b
cmp-is a b = refl

pub eq-is : (a b : GateKey) → key_eq.it a b ≡ same_key a b
eq-is a b = refl
