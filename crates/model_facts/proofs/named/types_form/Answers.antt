use Rattle.std.proofs.Common.{◌≡◌, ◌≤◌, inl, inr, length, ap, sym, ◌∙◌, option_and_then, arith}
use Rattle.std.proofs.lemmas.Bool.{cases_lt}
use Rattle.std.proofs.lemmas.Option.{none-some, slice_get_past}
use Rattle.error_libraries.specs.Printed.{item_name, name_of}
use Rattle.model_facts.proofs.named.types_form.Goals as goal

pub loop-number-preserved : goal.loop-number-preserved
loop-number-preserved c = λ number name less is.
    elim (cases_lt number c.loop-number.number) [
      | inl before ↦ c.loop-number.invariant number name before is
      | inr past ↦ (let same : number ≡ c.loop-number.number = omega (arith, past, less) in c.type_form.ensures name (ap (name_of c.args.types.now) (sym same) ∙ is))
    ]

pub returns : goal.returns
returns c = λ number name is.
    let table = c.args.types.now in
    elim (cases_lt number c.loop-number.number) [
      | inl before ↦ c.loop-number.invariant number name before is
      | inr past ↦
          let all : length table.types ≤ number = omega (arith, past, c.in_ok-number-end.ensures, c.loop-number-test.false) in
          absurd (none-some name (ap (option_and_then (item_name table)) (sym (slice_get_past table.types number all)) ∙ is))
    ]
