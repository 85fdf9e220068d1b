use Rattle.std.proofs.Common.{◌≡◌, ◌<◌, ◌-◌, List, [], ◌∷◌, ℕ, length, take, drop, slice_index_or, refl, sym, ap, subst, ◌∙◌, eq-eqb, arith}
use Rattle.std.proofs.lemmas.Bool.{false≢true}
use Rattle.zdd_store.specs.inner.Family.{IsRising, least_of}
use Rattle.std.proofs.Math.Seq.{take-length}
use Rattle.family_renaming.proofs.by_listing.first_of.Goals as goal

parts_of : (set : List ℕ) → (length set ≡ 0 → ⊥) → IsRising set
    → (set ≡ slice_index_or set 0 0 ∷ take (length set - 1) (drop 1 set)) × (IsRising (take (length set - 1) (drop 1 set)) × (slice_index_or set 0 0 < least_of (take (length set - 1) (drop 1 set))))
unfolding IsRising
parts_of [] some up = absurd (some refl)
parts_of (n ∷ ns) some up =
    let all : take (length (n ∷ ns) - 1) ns ≡ ns = ap (λ k. take k ns) (let less : length (n ∷ ns) - 1 ≡ length ns = omega arith in less) ∙ take-length ns in
    (ap (λ rest. n ∷ rest) (sym all), (subst IsRising (sym all) up.1, subst (λ rest. n < least_of rest) (sym all) up.0))

pub returns-clause-some : goal.returns-clause-some
returns-clause-some c = parts_of c.args.set.now (λ none. false≢true (sym c.if-is_empty.false ∙ c.is_empty.ensures ∙ eq-eqb (length c.args.set.now) 0 none)) c.requires
