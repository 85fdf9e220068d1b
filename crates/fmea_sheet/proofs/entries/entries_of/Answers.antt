use Rattle.std.proofs.Common.{◌+◌, ◌++◌, ◌≡◌, ◌∷◌, [], suc, map, ap, ◌∙◌, sym, arith}
use Rattle.std.proofs.lemmas.List.{map-append}
use Rattle.plain_values.specs.Numbered.{numbers_below}
use Rattle.fmea_sheet.specs.inner.Written.{entry_of}
use Rattle.fmea_sheet.proofs.entries.entries_of.Goals as goal

pub loop-event-preserved : goal.loop-event-preserved
loop-event-preserved c =
    let n = c.loop-event.event in
    let entry = entry_of c.args.files.now c.args.texts.now c.args.model.now in
    let one : n + 1 ≡ suc n = omega arith in
    let is = c.in_ok-entry.ensures ∙ ap (λ texts. entry_of c.args.files.now texts c.args.model.now n) (c.items.ensures.items ∙ c.in_ok-tables.ensures) in
    c.in_ok-push.ensures.ok ∙ (λ i. c.loop-event.invariant i ++ is i ∷ [])
    ∙ sym (ap (λ k. map entry (numbers_below k)) one ∙ map-append entry (numbers_below n) (n ∷ []))
