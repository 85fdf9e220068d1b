use Rattle.std.proofs.Common.{◌≡◌, ◌∷◌, [], take}
use Rattle.aadl_syntax.specs.declared.core_model.BindingKind.TheVariants.{Function}
use Rattle.plain_values.specs.Numbered.{numbered_from}
use Rattle.profiles.specs.declared.profile.Profile.TheVariants.{Second}
use Rattle.propagation_links.specs.Bound.{bound_in}
use Rattle.propagation_links.proofs.bound.functions_of.Given as goal

abbrev pub invariant-loop-number : goal.invariant-loop-number
invariant-loop-number l = l.functions ≡ numbered_from (λ number component. bound_in Second l.fn.tables Function number ∷ []) 0 (take l.number l.fn.tables.components)
