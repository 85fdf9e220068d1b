-- The refusals of a classifier, where its chain is refused.
use Rattle.std.proofs.Common.{ℕ, ◌≡◌, List, [], ◌∷◌, Contains, Err, Ok, sym, ap, subst, ◌∙◌}
use Rattle.aadl_syntax.specs.declared.core_model.PackageUnit.{PackageUnit}
use Rattle.plain_values.specs.declared.refusal.Stop.{Stop}
use Rattle.plain_values.specs.declared.refusal.Stop.TheVariants.{Memory, Refused}
use Rattle.plain_values.specs.Order.{IsFirst}
use Rattle.plain_values.proofs.OrderLaws.{least-first}
use Rattle.package_index.specs.declared.id.ClassifierId.{ClassifierId}
use Rattle.plain_values.specs.inner.Stops.{StopsAtFirst}
use Rattle.noted_refusals.specs.inner.Noted.{Lists, Noted, Tells, alone, nothing_noted, noting}
use Rattle.noted_refusals.proofs.Laws.{noted-lists}
use Rattle.component_extension.specs.Chain.{chain_of}
use Rattle.component_extension.specs.inner.Chain.{Answers}
use Rattle.component_extension.specs.Items.{classifier_refusals, refusals_along}

pub chain-refused : (packages : List PackageUnit) (id : ClassifierId) (stop : Stop) → Answers (chain_of packages id) (Err stop) → StopsAtFirst (Contains (classifier_refusals packages id)) stop
chain-refused packages id Memory stops = tt
chain-refused packages id (Refused refusal) stops =
    subst (λ group. IsFirst (Contains group) refusal) (sym (ap (refusals_along packages) stops)) (least-first (refusal ∷ []))

-- the refusal of a chain is noted alone
pub chain-told : (packages : List PackageUnit) (id : ClassifierId) (stop : Stop) (room : ℕ) (noted : Noted) → Answers (chain_of packages id) (Err stop) → noted ≡ noting (nothing_noted room) (alone stop) → Tells (classifier_refusals packages id) noted stop
chain-told packages id Memory room noted stops only = tt
chain-told packages id (Refused refusal) room noted stops only =
    subst (λ group. Lists group noted) (sym (ap (refusals_along packages) stops)) (noted-lists room noted (refusal ∷ []) only)
