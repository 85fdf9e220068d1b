use Rattle.order_bounds.proofs.Small.{all_small, small_holds}
use Rattle.order_bounds.proofs.laws.small_or_many.Goals as goal

pub returns-clause-holds : goal.returns-clause-holds
returns-clause-holds c system target most family exact set on = small_holds system target most family exact set on

pub returns-clause-all : goal.returns-clause-all
returns-clause-all c system target most slice family is_slice exact set on = all_small system target most family exact slice is_slice set on
