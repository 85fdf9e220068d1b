use Rattle.cut_reports.proofs.Spreading.{below_none, below_slice}
use Rattle.cut_reports.proofs.diagram.count_family.Goals as goal

pub orders_of-requires-clause-below : goal.orders_of-requires-clause-below
orders_of-requires-clause-below c = below_none _ _ c.new-counts.ensures.items

pub uses_of-requires-clause-below : goal.uses_of-requires-clause-below
uses_of-requires-clause-below c = below_slice _ _ _ c.as_slice.ensures.value c.in-Some-sets_at.ensures.below
