-- The order of rows: a list in it is determined by its elements.
use Rattle.std.proofs.Common.{◌≡◌, ◌<◌, ◌⊎◌, List, [], ◌∷◌, ◌++◌, inl, inr, ⊎_elim, ◌∙◌, sym, refl, subst, arith, eqb, ltb, eqb-true, eq-eqb, ltb-true, lt-ltb}
use Rattle.std.proofs.lemmas.Bool.{and_from, and_parts, or_cases, or_left, or_right}
use Rattle.std.specs.List.{AllByRecursion}
use Rattle.std.specs.Prelude.{IsTrue}
use Rattle.fault_system.proofs.Elements.{In, In-append, each-at, each-made}
use Rattle.fmea_rows.specs.inner.Rows.{IsInRowOrder, is_row_before}
use Rattle.fmea_rows.specs.declared.row.Row.{Row}

abbrev pub IsBefore : Row → Row → Type 0
IsBefore a b = IsTrue (is_row_before a b)

-- the order by cases
abbrev Before : Row → Row → Type 0
Before a b = (a.event < b.event) ⊎ ((a.event ≡ b.event) × (a.effect < b.effect))

before_cases : (a b : Row) → IsBefore a b → Before a b
before_cases a b e = ⊎_elim (λ l. inl (ltb-true a.event b.event l))
    (λ r. let both = and_parts (eqb a.event b.event) (ltb a.effect b.effect) r in inr (eqb-true a.event b.event both.0, ltb-true a.effect b.effect both.1))
    (or_cases _ _ e)

pub before_event : (a b : Row) → a.event < b.event → IsBefore a b
before_event a b h = or_left _ _ (lt-ltb a.event b.event h)

pub before_effect : (a b : Row) → a.event ≡ b.event → a.effect < b.effect → IsBefore a b
before_effect a b e h = or_right (ltb a.event b.event) _ (and_from _ _ (eq-eqb a.event b.event e) (lt-ltb a.effect b.effect h))

not_both_before : (a b : Row) → IsBefore a b → IsBefore b a → ⊥
not_both_before a b e f = ⊎_elim
    (λ h. ⊎_elim (λ k. omega arith) (λ k. omega (arith, k.0)) (before_cases b a f))
    (λ h. ⊎_elim (λ k. omega (arith, h.0)) (λ k. omega (arith, h.1, k.1)) (before_cases b a f)) (before_cases a b e)

pub order-append : (us vs : List Row) → IsInRowOrder us → IsInRowOrder vs → ((a b : Row) → In a us → In b vs → IsBefore a b) → IsInRowOrder (us ++ vs)
order-append [] vs o q h = q
order-append (a ∷ rest) vs o q h = (
  each-made (IsBefore a) (rest ++ vs) (λ c i. ⊎_elim (λ l. each-at (IsBefore a) c rest o.0 l) (λ r. h a c (inl refl) r) (In-append c rest vs i)),
  order-append rest vs o.1 q (λ c d i j. h c d (inr i) j),
)

-- lists in order with the same elements are the same
order_rest : (a b : Row) (us vs : List Row) → a ≡ b → AllByRecursion (IsBefore a) us → ((s : Row) → In s (a ∷ us) → In s (b ∷ vs)) → (s : Row) → In s us → In s vs
order_rest a b us vs e before h s i = ⊎_elim
    (λ is. let after : IsBefore a s = each-at (IsBefore a) s us before i in
    let self : IsBefore a a = subst (IsBefore a) (sym is ∙ sym e) after in absurd (not_both_before a a self self))
    (λ r. r) (h s (inr i))

pub one_order : (us vs : List Row) → IsInRowOrder us → IsInRowOrder vs → ((s : Row) → In s us → In s vs) → ((s : Row) → In s vs → In s us) → us ≡ vs
one_order [] [] o q f g = refl
one_order [] (b ∷ vs) o q f g = absurd (g b (inl refl))
one_order (a ∷ us) [] o q f g = absurd (f a (inl refl))
one_order (a ∷ us) (b ∷ vs) o q f g =
    let heads : a ≡ b = ⊎_elim (λ e. sym e) (λ i. ⊎_elim (λ e. e)
    (λ j. absurd (not_both_before a b (each-at (IsBefore a) b us o.0 j) (each-at (IsBefore b) a vs q.0 i))) (g b (inl refl))) (f a (inl refl)) in
    let tails : us ≡ vs = one_order us vs o.1 q.1 (order_rest a b us vs heads o.0 f) (order_rest b a vs us (sym heads) q.0 g) in
    λ i. heads i ∷ tails i
