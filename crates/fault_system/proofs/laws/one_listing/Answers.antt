use Rattle.fault_system.proofs.Elements.{In-contains, contains_In}
use Rattle.fault_system.proofs.Orders.{one_order}
use Rattle.fault_system.proofs.laws.one_listing.Goals as goal

pub returns : goal.returns
returns c = λ system target most a b one other. one_order a b one.ordered other.ordered
    (λ set i. In-contains set b ((other.exact set).1 ((one.exact set).0 (contains_In set a i))))
    (λ set i. In-contains set a ((one.exact set).1 ((other.exact set).0 (contains_In set b i))))
