use Rattle.std.proofs.Common.{List, ℕ, sym, subst}
use Rattle.system_answers.specs.Voices.{labels, voices_of}
use Rattle.fta_run.specs.inner.Held.{AreFronts, IsToRead, RanOn, text_of}
use Rattle.fta_run.proofs.Read.{ran_on, report_cause}
use Rattle.fta_run.proofs.held.run_held.Goals as goal

pub returns-clause-told : goal.returns-clause-told
returns-clause-told g c = λ contents named fronts.
    let voices = voices_of (λ b. (goal.Report-dyn g (b.vtable, b.value)).label b.value) (λ b. (goal.Report-dyn g (b.vtable, b.value)).text b.value) c.args.reports.now.items in
    let words = c.args.words.now in
    let read = c.args.read.now in
    let names = c.items.result.now in
    let texts = c.items-2.result.now in
    let asked : IsToRead (labels voices) words names = subst (IsToRead (labels voices) words) (sym c.items.ensures.items) named in
    let some : AreFronts contents names read.texts = subst (λ (its : List (List ℕ)). AreFronts contents its read.texts) (sym c.items.ensures.items) fronts in
    let whole : AreFronts contents names texts = subst (λ (its : List (List ℕ)). AreFronts contents names its) (sym c.items-2.ensures.items) some in
    let ran = ran_on contents words voices _ names texts c.run.result _ _ _ asked whole c.run.ensures.verdict c.run.ensures.output c.run.ensures.complete c.run.ensures.faults in
    let on = subst (λ (its : List (List ℕ)). RanOn words (text_of names its) voices c.run.result (g.S.Sink.seen c.args.out.now) (g.S.Sink.seen c.run.new.out)) c.items-2.ensures.items ran in
    subst (λ (its : List (List ℕ)). RanOn words (text_of its read.texts) voices c.run.result (g.S.Sink.seen c.args.out.now) (g.S.Sink.seen c.run.new.out)) c.items.ensures.items on

pub returns-clause-report_fault : goal.returns-clause-report_fault
returns-clause-report_fault g c = report_cause _ _ _ _ _ c.run.result c.run.ensures.faults
