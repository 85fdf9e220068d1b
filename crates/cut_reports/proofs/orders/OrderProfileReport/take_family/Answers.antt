use Rattle.std.proofs.Common.{◌≡◌, ◌∙◌, ◌+◌, List, ℕ, length, sym, ap, subst, arith}
use Rattle.std.specs.Prelude.{slice_index_or}
use Rattle.std.specs.List.{between}
use Rattle.fta_outside.specs.Counts.{capped}
use Rattle.cut_reports.specs.inner.Counts.{AddedAll}
use Rattle.cut_reports.proofs.Counts.{orders_taken}
use Rattle.cut_reports.proofs.Numbered.{begun_width}
use Rattle.cut_reports.proofs.orders.OrderProfileReport.take_family.Goals as goal

pub add_orders-self-requires : goal.add_orders-self-requires
add_orders-self-requires c = ap length c.as_slice.ensures.value ∙ c.requires.of_orders ∙ ap (λ n. n + 1) (sym (begun_width _ _ _ c.requires.of_events))

pub returns-clause-took : goal.returns-clause-took
returns-clause-took c e taken sets are each new =
    let fits : length c.args.counts.now.orders.items ≡ length c.args.self.now.counts.items + 1 = c.requires.of_orders ∙ ap (λ n. n + 1) (sym (begun_width _ _ _ c.requires.of_events) ∙ c.args.self.now.counts.ok.0) in
    let same : length c.add_orders-self.new.counts.items ≡ length c.args.self.now.counts.items = omega (arith, c.add_orders-self.ensures.count, c.add_orders-self.new.counts.ok.0, c.args.self.now.counts.ok.0) in
    orders_taken c.args.self.now.empty c.add_orders-self.result c.args.counts.now.orders.items c.args.self.now.counts.items c.add_orders-self.new.counts.items taken sets fits same
    (c.add_orders-self.ensures.empty ∙ ap (λ (l : List ℕ). capped (c.args.self.now.empty + slice_index_or l 0 0)) c.as_slice.ensures.value)
    (subst (λ (l : List ℕ). AddedAll (between 1 (length l) l) c.args.self.now.counts.items c.add_orders-self.new.counts.items) c.as_slice.ensures.value c.add_orders-self.ensures.added)
    are new.of_orders
