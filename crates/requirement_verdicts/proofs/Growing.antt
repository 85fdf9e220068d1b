-- What is met stays met where less is required.
use Rattle.std.proofs.Common.{ℕ, ◌≤◌, List, Contains, Some, None, Option, arith}
use Rattle.std.specs.List.{AllByRecursion}
use Rattle.fault_system.specs.Systems.{System}
use Rattle.fault_system.specs.CutSets.{IsSubset}
use Rattle.requirement_names.specs.declared.named.SetSentence.TheVariants.{Order, Mixed}
use Rattle.requirement_verdicts.specs.Meanings.{IsFresh, IsMet}

module _ (system : System) (target : ℕ) where
  pub fewer : (less least : ℕ) (except : List (List ℕ)) → less ≤ least → AllByRecursion (IsFresh system target less) except → IsMet system target (Order least except) → IsMet system target (Order less except)
  fewer less least except few fresh met = record {
    may_hold = met.may_hold;
    not_anyway = met.not_anyway;
    kept = λ set cut none. omega (arith, few, met.kept set cut none);
    fresh = fresh;
  }

  pub excepted : (least : ℕ) (except more : List (List ℕ)) → ((set : List ℕ) → Contains except set → Contains more set) → AllByRecursion (IsFresh system target least) more
      → IsMet system target (Order least except) → IsMet system target (Order least more)
  excepted least except more all fresh met = record {
    may_hold = met.may_hold;
    not_anyway = met.not_anyway;
    kept = λ set cut none. met.kept set cut (λ part here. none part (all part here));
    fresh = fresh;
  }

  pub smaller : (part group : List ℕ) (most : Option ℕ) → IsSubset part group → IsMet system target (Mixed group most) → IsMet system target (Mixed part most)
  smaller part group most within met = record {
    may_hold = met.may_hold;
    not_anyway = met.not_anyway;
    kept = λ set cut inside short. met.kept set cut (λ n has. within n (inside n has)) short;
    fresh = tt;
  }

  pub shorter : (less most : ℕ) (group : List ℕ) → less ≤ most → IsMet system target (Mixed group (Some most)) → IsMet system target (Mixed group (Some less))
  shorter less most group few met = record {
    may_hold = met.may_hold;
    not_anyway = met.not_anyway;
    kept = λ set cut inside short. met.kept set cut inside (omega (arith, few, short));
    fresh = tt;
  }

  pub bounded : (most : ℕ) (group : List ℕ) → IsMet system target (Mixed group None) → IsMet system target (Mixed group (Some most))
  bounded most group met = record {
    may_hold = met.may_hold;
    not_anyway = met.not_anyway;
    kept = λ set cut inside short. met.kept set cut inside tt;
    fresh = tt;
  }
