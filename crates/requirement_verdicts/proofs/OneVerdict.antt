-- There is one verdict on a requirement.
use Rattle.std.proofs.Common.{ℕ, ◌≡◌, List, [], ◌∷◌, ◌++◌, ⊎_elim, refl, sym, ap, subst, ◌∙◌}
use Rattle.std.specs.List.{AllByRecursion}
use Rattle.fault_system.specs.Systems.{System}
use Rattle.fault_system.specs.CutSets.{IsCutSet}
use Rattle.fault_system.proofs.Orders.{not_both_before}
use Rattle.requirement_names.specs.declared.named.SetSentence.{SetSentence}
use Rattle.requirement_names.specs.declared.named.SetSentence.TheVariants.{Order, Mixed, Without, Possible, Never}
use Rattle.requirement_verdicts.specs.declared.verdict.Verdict.{Verdict}
use Rattle.requirement_verdicts.specs.declared.verdict.Verdict.TheVariants.{Met, Vacuous, Broken, Stale}
use Rattle.requirement_verdicts.proofs.Cutting.{forbidden-clash}
use Rattle.requirement_verdicts.specs.Meanings.{HoldsAnyway, IsFresh, IsKept, IsMet, MayHold}
use Rattle.requirement_verdicts.specs.Verdicts.{HasStale, IsBroken, IsStale, IsVacuous, IsVerdict}

-- ---- the first stale exception

fresh-at : (Fresh : List ℕ → Type 0) (front rest : List (List ℕ)) (set : List ℕ) → AllByRecursion Fresh (front ++ set ∷ rest) → Fresh set
fresh-at Fresh [] rest set all = all.0
fresh-at Fresh (one ∷ front) rest set all = fresh-at Fresh front rest set all.1

first_or : List ℕ → List (List ℕ) → List ℕ
first_or d [] = d
first_or d (x ∷ xs) = x

rest_of : List (List ℕ) → List (List ℕ)
rest_of [] = []
rest_of (x ∷ xs) = xs

head-is : (a b : List ℕ) (xs ys : List (List ℕ)) → a ∷ xs ≡ b ∷ ys → a ≡ b
unfolding first_or
head-is a b xs ys e = ap (first_or a) e

tail-is : (a b : List ℕ) (xs ys : List (List ℕ)) → a ∷ xs ≡ b ∷ ys → xs ≡ ys
unfolding rest_of
tail-is a b xs ys e = ap rest_of e

one-stale : (Fresh : List ℕ → Type 0) (front other : List (List ℕ)) (rest more : List (List ℕ)) (a b : List ℕ) → front ++ a ∷ rest ≡ other ++ b ∷ more
    → AllByRecursion Fresh front → AllByRecursion Fresh other → (Fresh a → ⊥) → (Fresh b → ⊥) → a ≡ b
one-stale Fresh [] [] rest more a b e fresh fresh_too stale stale_too = head-is a b rest more e
one-stale Fresh [] (y ∷ other) rest more a b e fresh fresh_too stale stale_too = absurd (stale (subst Fresh (sym (head-is a y rest (other ++ b ∷ more) e)) fresh_too.0))
one-stale Fresh (x ∷ front) [] rest more a b e fresh fresh_too stale stale_too = absurd (stale_too (subst Fresh (head-is x b (front ++ a ∷ rest) more e) fresh.0))
one-stale Fresh (x ∷ front) (y ∷ other) rest more a b e fresh fresh_too stale stale_too =
    one-stale Fresh front other rest more a b (tail-is x y (front ++ a ∷ rest) (other ++ b ∷ more) e) fresh.1 fresh_too.1 stale stale_too

module _ (system : System) (target : ℕ) where
  -- ---- what is kept, and what breaks

  broken-clash : (sentence : SetSentence) (set : List ℕ) → IsBroken system target sentence set → (HoldsAnyway system target → ⊥) → IsKept system target sentence → ⊥
  broken-clash sentence set broken not_anyway kept =
      ⊎_elim (λ none. not_anyway (subst (IsCutSet system target) none broken.minimal.0)) (λ forbidden. forbidden-clash system target sentence set broken.minimal forbidden kept) broken.such

  -- ---- pairs of verdicts

  met-vacuous : (sentence : SetSentence) → IsMet system target sentence → IsVacuous system target sentence → ⊥
  met-vacuous (Order least except) met never = never met.may_hold
  met-vacuous (Mixed group most) met never = never met.may_hold
  met-vacuous (Without event) met never = never met.may_hold
  met-vacuous Possible met never = never met.may_hold
  met-vacuous Never met never = never

  met-broken : (sentence : SetSentence) (set : List ℕ) → IsMet system target sentence → IsBroken system target sentence set → ⊥
  met-broken (Order least except) set met broken = broken-clash (Order least except) set broken met.not_anyway met.kept
  met-broken (Mixed group most) set met broken = broken-clash (Mixed group most) set broken met.not_anyway met.kept
  met-broken (Without event) set met broken = broken-clash (Without event) set broken met.not_anyway met.kept
  met-broken Possible set met broken = broken-clash Possible set broken met.not_anyway met.kept
  met-broken Never set met broken = met (set, broken.minimal.0)

  met-stale : (sentence : SetSentence) (set : List ℕ) → IsMet system target sentence → IsStale system target sentence set → ⊥
  met-stale (Order least except) set met stale =
      let first = stale.has in
      first.stale (fresh-at (IsFresh system target least) first.front first.rest set (subst (AllByRecursion (IsFresh system target least)) first.whole met.fresh))
  met-stale (Mixed group most) set met stale = stale.has
  met-stale (Without event) set met stale = stale.has
  met-stale Possible set met stale = stale.has
  met-stale Never set met stale = stale.has

  vacuous-may : (sentence : SetSentence) → IsVacuous system target sentence → MayHold system target → ⊥
  vacuous-may (Order least except) never may = never may
  vacuous-may (Mixed group most) never may = never may
  vacuous-may (Without event) never may = never may
  vacuous-may Possible never may = never may
  vacuous-may Never never may = never

  one-broken : (sentence : SetSentence) (a b : List ℕ) → IsBroken system target sentence a → IsBroken system target sentence b → a ≡ b
  one-broken sentence a b x y =
      ⊎_elim (λ same. sym same) (λ before. ⊎_elim (λ same. same) (λ after. absurd (not_both_before a b before after)) (y.first a x.minimal x.such)) (x.first b y.minimal y.such)

  two-stale : (sentence : SetSentence) (a b : List ℕ) → HasStale system target sentence a → HasStale system target sentence b → a ≡ b
  two-stale (Order least except) a b x y = one-stale (IsFresh system target least) x.front y.front x.rest y.rest a b (sym x.whole ∙ y.whole) x.fresh y.fresh x.stale y.stale
  two-stale (Mixed group most) a b x y = absurd x
  two-stale (Without event) a b x y = absurd x
  two-stale Possible a b x y = absurd x
  two-stale Never a b x y = absurd x

pub one-verdict : (system : System) (target : ℕ) (sentence : SetSentence) (a b : Verdict) → IsVerdict system target sentence a → IsVerdict system target sentence b → a ≡ b
one-verdict system target sentence Met Met x y = refl
one-verdict system target sentence Met Vacuous x y = absurd (met-vacuous system target sentence x y)
one-verdict system target sentence Met (Broken b) x y = absurd (met-broken system target sentence b x y)
one-verdict system target sentence Met (Stale b) x y = absurd (met-stale system target sentence b x y)
one-verdict system target sentence Vacuous Met x y = absurd (met-vacuous system target sentence y x)
one-verdict system target sentence Vacuous Vacuous x y = refl
one-verdict system target sentence Vacuous (Broken b) x y = absurd (vacuous-may system target sentence x (b, y.minimal.0))
one-verdict system target sentence Vacuous (Stale b) x y = absurd (vacuous-may system target sentence x y.may_hold)
one-verdict system target sentence (Broken a) Met x y = absurd (met-broken system target sentence a y x)
one-verdict system target sentence (Broken a) Vacuous x y = absurd (vacuous-may system target sentence y (a, x.minimal.0))
one-verdict system target sentence (Broken a) (Broken b) x y = ap Broken (one-broken system target sentence a b x y)
one-verdict system target sentence (Broken a) (Stale b) x y = absurd (broken-clash system target sentence a x y.not_anyway y.kept)
one-verdict system target sentence (Stale a) Met x y = absurd (met-stale system target sentence a y x)
one-verdict system target sentence (Stale a) Vacuous x y = absurd (vacuous-may system target sentence y x.may_hold)
one-verdict system target sentence (Stale a) (Broken b) x y = absurd (broken-clash system target sentence b y x.not_anyway x.kept)
one-verdict system target sentence (Stale a) (Stale b) x y = ap Stale (two-stale system target sentence a b x.has y.has)
