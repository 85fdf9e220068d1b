use Rattle.std.proofs.Common.{ℕ, ◌≡◌, ◌∙◌, List, ap, length, subst}
use Rattle.std.proofs.lemmas.List.{with_items_is}
use Rattle.plain_values.specs.Rising.{RisesWithin}
use Rattle.fault_system.specs.Truth.{NumberSet, member}
use Rattle.fault_system.specs.Rounds.{only}
use Rattle.fmea_rows.specs.inner.Tables.{FitsWhereFelt, Tested, changed, facts_of}
use Rattle.fmea_rows.proofs.KeptLaws.{right-made}
use Rattle.fmea_rows.proofs.table.is_right.Goals as goal

pub returns-clause-right : goal.returns-clause-right
returns-clause-right c = λ yes.
    let system = c.args.asked.now.system.now in
    let known = c.args.known.now in
    let changes = c.args.changes.now in
    let rise : RisesWithin 0 (length system.facts) (facts_of changes) = subst (λ (k : ℕ). RisesWithin 0 k (facts_of changes)) c.facts.ensures.count (c.are_rising.ensures c.if-not-are_rising.false) in
    let times : c.as_slice.result.now ≡ changed known.base changes =
    c.as_slice.ensures.value ∙ with_items_is c.args.desk.now.times c.make_changes.new.times (c.make_changes.auto.times ∙ c.as_mut_slice.ensures.len)
    ∙ c.make_changes.ensures ∙ ap (λ (ts : List ℕ). changed ts changes) (c.as_mut_slice.ensures.value ∙ c.requires.between.same) in
    let run : NumberSet → List ℕ → Tested = λ events ts. record { system = system; events = events; times = ts } in
    let felt : FitsWhereFelt (run (only c.args.event) (changed known.base changes)) known.users c.args.event changes =
    subst (λ (events : NumberSet). FitsWhereFelt (run events (changed known.base changes)) known.users c.args.event changes) c.requires.alone
    (subst (λ (ts : List ℕ). FitsWhereFelt (run (member c.args.desk.now.alone) ts) known.users c.args.event changes) times (c.fits_where_felt-fits.ensures.fits yes)) in
    right-made system c.args.asked.now.effects.now c.args.event known.base changes known.users known.reach c.requires.reach c.requires.event rise c.requires.base c.requires.users felt
