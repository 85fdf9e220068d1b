use Rattle.std.proofs.Common.{◌∙◌, Bool, List, ap}
use Rattle.fault_system.specs.Truth.{member}
use Rattle.fault_system.specs.Rounds.{time_of}
use Rattle.fault_system.proofs.NumberSets.{member-replicate}
use Rattle.fmea_rows.specs.declared.columns.Sure.{Sure}
use Rattle.fmea_rows.proofs.ColumnLaws.{sure-first}
use Rattle.fmea_rows.proofs.columns.first_sure.Goals as goal

pub returns : goal.returns
returns c = λ events.
    let old : Sure = record { facts = c.in_ok-none.none; events = c.in_ok-events.events } in
    sure-first c.args.system.now c.args.effect (time_of c.args.facts.now) events old c.put_fact.new.sure
    (λ n. ap (λ (bs : List Bool). member bs n) c.in_ok-none.ensures ∙ member-replicate c.facts.result n)
    (λ n. ap (λ (bs : List Bool). member bs n) c.in_ok-events.ensures ∙ member-replicate c.events.result n)
    (c.put_fact.ensures events 0)
