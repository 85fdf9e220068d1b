use Rattle.std.proofs.Common.{ℕ, ◌≡◌, ◌∙◌, List, ap, length, refl, sym, subst, arith}
use Rattle.fault_system.specs.Rounds.{time_of}
use Rattle.fmea_rows.specs.inner.Columns.{AreNear, AreSure}
use Rattle.fmea_rows.specs.declared.columns.Column.{Column}
use Rattle.fmea_rows.proofs.ColumnLaws.{column-made}
use Rattle.fmea_rows.proofs.columns.Column.of.Goals as goal

pub returns : goal.returns
returns c =
    let system = c.args.system.now in
    let near : List ℕ = c.in_ok-found.found.facts.items in
    let first : List ℕ = c.in_ok-found.found.events.items in
    let column : Column = record { effect = c.args.effect; rounds = c.in_ok-found.found.events; sure = c.in_ok-sure.sure.events } in
    let are : AreNear system (time_of near) (time_of first) (length system.facts) =
    subst (λ (ts : List ℕ). AreNear system (time_of near) (time_of ts) (length system.facts)) c.as_slice-events.ensures.value
    (subst (λ (ts : List ℕ). AreNear system (time_of ts) (time_of c.as_slice-events.result.now) (length system.facts)) c.as_slice-facts.ensures.value (c.are_near.ensures c.if-not-are_near.false)) in
    let sure : AreSure system c.args.effect (time_of near) (time_of first) c.in_ok-sure.sure =
    subst (λ (ts : List ℕ). AreSure system c.args.effect (time_of near) (time_of ts) c.in_ok-sure.sure) c.as_slice-events.ensures.value
    (subst (λ (ts : List ℕ). AreSure system c.args.effect (time_of ts) (time_of c.as_slice-events.result.now) c.in_ok-sure.sure) c.as_slice-facts.ensures.value c.in_ok-sure.ensures) in
    let one : c.time_at.result ≡ 1 = omega (arith, c.if-time_at-ne1.false) in
    column-made system c.args.effect (time_of near) column c.in_ok-sure.sure are
    (sym (c.time_at.ensures ∙ ap (λ (ts : List ℕ). time_of ts c.args.effect) c.as_slice-facts.ensures.value) ∙ one) sure refl refl
