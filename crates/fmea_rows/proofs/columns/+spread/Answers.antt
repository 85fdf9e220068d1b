use Rattle.std.proofs.Common.{◌≡◌, ◌==◌, ◌∙◌, false, ap, arith, length, map, sym}
use Rattle.std.proofs.lemmas.Bool.{false≢true, or_left, or_right}
use Rattle.std.specs.List.{list_all}
use Rattle.fault_system.specs.Truth.{member, truth}
use Rattle.fault_system.specs.Rounds.{no_event, only, time_of}
use Rattle.fault_system.proofs.TruthLaws.{truth-Event, truth-Fact}
use Rattle.fmea_rows.specs.inner.Columns.{with_one}
use Rattle.fmea_rows.proofs.ColumnLaws.{all-two, held-stays, spreads-within}
use Rattle.fmea_rows.proofs.columns.+spread.Goals as goal

pub spread-returns-in-Event : goal.spread-returns-in-Event
spread-returns-in-Event t c =
    let k = c.in-Event.number in
    let way = c.args.way.now in
    let held = member way.held.now in
    spreads-within (time_of way.facts.now) (time_of way.events.now) way.distance way.latest (λ n. false) (λ n. k == n)
    (λ n. truth no_event (with_one held n) c.args.formula.now) (λ n. truth (only n) held c.args.formula.now) c.args.sure.now c.put_event.new.sure (c.put_event.ensures (time_of way.facts.now) way.distance)
    (λ n h. absurd (false≢true h))
    (λ n h. ap (truth (only n) held) c.in-Event.is ∙ truth-Event (only n) held k ∙ h)

pub spread-returns-in-Fact : goal.spread-returns-in-Fact
spread-returns-in-Fact t c =
    let k = c.in-Fact.number in
    let way = c.args.way.now in
    let held = member way.held.now in
    spreads-within (time_of way.facts.now) (time_of way.events.now) way.distance way.latest (λ n. k == n) (λ n. false)
    (λ n. truth no_event (with_one held n) c.args.formula.now) (λ n. truth (only n) held c.args.formula.now) c.args.sure.now c.put_fact.new.sure (c.put_fact.ensures (time_of way.events.now) way.latest)
    (λ n h. ap (truth no_event (with_one held n)) c.in-Fact.is ∙ truth-Fact no_event (with_one held n) k ∙ or_right (held k) (k == n) h)
    (λ n h. absurd (false≢true h))

pub spread_beside-returns-then-is_true : goal.spread_beside-returns-then-is_true
spread_beside-returns-then-is_true t c =
    let way = c.args.way.now in
    let held = member way.held.now in
    let parts = c.args.parts.now in
    let first = c.index-parts-0-2.result in
    let second = c.index-parts-1.result in
    let two : length parts ≡ 2 = omega (arith, c.if-parts-ne2.false) in
    let holds = sym c.is_true.ensures ∙ c.if-is_true.true in
    spreads-within (time_of way.facts.now) (time_of way.events.now) way.distance way.latest (λ n. truth no_event (with_one held n) second) (λ n. truth (only n) held second)
    (λ n. list_all (λ part. part) (map (truth no_event (with_one held n)) parts)) (λ n. list_all (λ part. part) (map (truth (only n) held) parts)) c.args.sure.now c.spread-then-is_true.new.sure c.spread-then-is_true.ensures
    (λ n h. all-two no_event (with_one held n) parts first second first second two c.index-parts-0-2.is c.index-parts-1.is (held-stays (member way.no_event.now) held no_event (with_one held n) first c.requires.none (λ m k. or_left (held m) (only n m) k) holds) h)
    (λ n h. all-two (only n) held parts first second first second two c.index-parts-0-2.is c.index-parts-1.is (held-stays (member way.no_event.now) held (only n) held first c.requires.none (λ m k. k) holds) h)

pub spread_beside-returns-then-is_true-2 : goal.spread_beside-returns-then-is_true-2
spread_beside-returns-then-is_true-2 t c =
    let way = c.args.way.now in
    let held = member way.held.now in
    let parts = c.args.parts.now in
    let first = c.index-parts-0-then-is_true-2.result in
    let second = c.index-parts-1-2.result in
    let two : length parts ≡ 2 = omega (arith, c.if-parts-ne2.false) in
    let holds = sym c.is_true-2.ensures ∙ c.if-is_true-2.true in
    spreads-within (time_of way.facts.now) (time_of way.events.now) way.distance way.latest (λ n. truth no_event (with_one held n) first) (λ n. truth (only n) held first)
    (λ n. list_all (λ part. part) (map (truth no_event (with_one held n)) parts)) (λ n. list_all (λ part. part) (map (truth (only n) held) parts)) c.args.sure.now c.spread-then-is_true-2.new.sure c.spread-then-is_true-2.ensures
    (λ n h. all-two no_event (with_one held n) parts first second first second two c.index-parts-0-then-is_true-2.is c.index-parts-1-2.is h (held-stays (member way.no_event.now) held no_event (with_one held n) second c.requires.none (λ m k. or_left (held m) (only n m) k) holds))
    (λ n h. all-two (only n) held parts first second first second two c.index-parts-0-then-is_true-2.is c.index-parts-1-2.is h (held-stays (member way.no_event.now) held (only n) held second c.requires.none (λ m k. k) holds))
