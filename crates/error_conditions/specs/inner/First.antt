-- What a condition means by the first profile, which accepts none that counts what does not hold.
use Rattle.std.specs.Prelude.{Bool, true, false, []}
use Rattle.std.specs.List.{list_all}
use Rattle.aadl_syntax.specs.declared.error_model.Atom.{Atom}
use Rattle.aadl_syntax.specs.declared.error_model.Condition.{Condition, fold-Condition}
use Rattle.aadl_syntax.specs.declared.error_model.Condition.TheOpen.{Condition-F}
use Rattle.aadl_syntax.specs.declared.error_model.Condition.TheOpen as condition
use Rattle.error_conditions.specs.declared.cause.Cause.{Cause}
use Rattle.error_conditions.specs.declared.cause.Cause.TheVariants.{All, Any, AtLeast}

-- One condition, with the meanings of its parts in their places. What stands for `orless` is never true.
abbrev pub cause_step : (Atom → Cause) → Condition-F Cause → Cause
cause_step meaning (condition.Atom atom) = meaning atom
cause_step meaning (condition.All parts) = All parts
cause_step meaning (condition.Any parts) = Any parts
cause_step meaning (condition.AtLeast least parts) = AtLeast least parts
cause_step meaning (condition.AtMost most parts spot) = Any []

-- the meaning of a condition, where its named parts mean this
abbrev pub cause_of : (Atom → Cause) → Condition → Cause
cause_of meaning = fold-Condition Cause (cause_step meaning)

-- one condition, with whether each part is without `orless` in its place
abbrev pub plain_step : Condition-F Bool → Bool
plain_step (condition.Atom atom) = true
plain_step (condition.All parts) = list_all (λ part. part) parts
plain_step (condition.Any parts) = list_all (λ part. part) parts
plain_step (condition.AtLeast least parts) = list_all (λ part. part) parts
plain_step (condition.AtMost most parts spot) = false

-- whether a condition is without `orless`
abbrev pub is_plain : Condition → Bool
is_plain = fold-Condition Bool plain_step
