-- An instance that is made: its components, and how many there are.
use Rattle.std.proofs.Common.{ℕ, ◌+◌, ◌-◌, ◌≡◌, ◌<◌, ◌≤◌, Bool, true, false, nat_le, List, [], ◌∷◌, length, Option, Some, None, refl, sym, ap, ◌∙◌, subst, arith}
use Rattle.std.specs.Option.{option_or}
use Rattle.std.proofs.lemmas.Bool.Decides.{nat_tests}
use Rattle.std.proofs.lemmas.List.{length-map}
use Rattle.aadl_syntax.specs.declared.core_model.PackageUnit.{PackageUnit}
use Rattle.plain_values.specs.declared.refusal.Code.{Code}
use Rattle.plain_values.specs.declared.refusal.Code.TheVariants.{TooManyComponents, TooDeep}
use Rattle.plain_values.specs.declared.refusal.Place.{Place}
use Rattle.plain_values.specs.Refusal.{over_limit}
use Rattle.package_index.specs.declared.id.ClassifierId.{ClassifierId}
use Rattle.instantiator.specs.declared.draft.Draft.{Draft}
use Rattle.instantiator.specs.declared.occurrence.Occurrence.{Occurrence}
use Rattle.instantiator.specs.Components.{component_of, components_of, occurrences_of, preorder, root_of}
use Rattle.instantiator.specs.Refused.{classifier_refusal, component_refusal, first_refusal, limit_refusal}
use Rattle.instantiator.specs.inner.Tables.{Grown, IsInstance, KnowsSteps, StepKey}
use Rattle.instantiator.specs.Whole.{kinds_of}
use Rattle.instantiator.specs.inner.Whole.{Kinds, ParentsComeFirst, PathsDiffer}
use Rattle.instantiator.proofs.PathLaws.{parents-first, paths-differ}

-- ---- how many there are

pub or-none : {A : Type 0} (a b : Option A) → option_or a b ≡ None → (a ≡ None) × (b ≡ None)
or-none None b none = (refl, none)
or-none (Some a) b none = cc

pub not-over : (b : Bool) (code : Code) (place : Place) → over_limit b code place ≡ None → b ≡ false
not-over true code place none = cc
not-over false code place none = refl

-- components of which none is refused are not too many
few-from : (packages : List PackageUnit) (all : List Occurrence) (number : ℕ) → first_refusal packages number all ≡ None → number ≤ 4096 → number + length all ≤ 4096
few-from packages [] number none within = omega (arith, within)
few-from packages (one ∷ all) number none within =
    let split = or-none (component_refusal packages number one) (first_refusal packages (number + 1) all) none in
    let limits = or-none (limit_refusal number one) (classifier_refusal packages one.classifier) split.0 in
    let first = or-none (over_limit (nat_le 4096 number) TooManyComponents one.place) (over_limit (nat_le 33 (length one.path)) TooDeep one.place) limits.0 in
    let test = not-over (nat_le 4096 number) TooManyComponents one.place first.0 in
    let less : number < 4096 = grind (arith, nat_tests, test) in
    let rest = few-from packages all (number + 1) split.1 (omega (arith, less)) in
    omega (arith, rest)

-- ---- the instance

abbrev empty : List PackageUnit → Draft
empty packages = record { kinds = record { packages = packages; ids = [] }; components = [] }

module _ (packages : List PackageUnit) (root : ClassifierId) (start made : Draft) (one : Occurrence) (start_is : start ≡ empty packages) (one_is : one ≡ root_of root) (grown : Grown start made (preorder (34 - length one.path) start.kinds.packages one)) where
  grown-root : Grown (empty packages) made (occurrences_of packages root)
  grown-root =
      subst (λ (s : Draft). Grown s made (preorder 34 s.kinds.packages (root_of root))) start_is
      (subst (λ (o : Occurrence). Grown start made (preorder (34 - length o.path) start.kinds.packages o)) one_is grown)

  components-are : made.components ≡ components_of packages root
  components-are = grown-root.components

  pub made-differ : PathsDiffer made.components
  made-differ = subst PathsDiffer (sym components-are) (paths-differ packages root)

  pub made-behind : ParentsComeFirst made.components
  made-behind = subst ParentsComeFirst (sym components-are) (parents-first packages root)

  few : length made.components ≤ 4096
  few =
      let all = occurrences_of packages root in
      let count : length made.components ≡ length all = ap length components-are ∙ length-map all component_of in
      let most = few-from packages all 0 grown-root.accepted (omega arith) in
      omega (arith, count, most)

  pub made-instance : (table : StepKey → Option ℕ) → KnowsSteps made.components table → IsInstance made.components made.kinds.ids table
  made-instance table known = record {
    tree = record { differ = made-differ; behind = made-behind; known = known };
    kinds = ap (λ (kinds : Kinds). kinds.ids) grown-root.kinds ∙ ap kinds_of (sym components-are);
    few = few;
  }
