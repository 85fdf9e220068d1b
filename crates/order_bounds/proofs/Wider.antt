-- From the bounds of two families to those by the smallest sets.
use Rattle.std.proofs.Common.{ℕ, ◌≡◌, List, length, subst, arith}
use Rattle.zdd_store.specs.inner.Family.{Family, covers}
use Rattle.probabilities.specs.declared.rates.Bounds.{Bounds}
use Rattle.probabilities.specs.declared.rates.Rate.{Rate}
use Rattle.probabilities.specs.Decided.{rates_of}
use Rattle.probabilities.specs.inner.Decided.{AreBoundsOf}
use Rattle.probabilities.specs.inner.Sharp.{IsSharp}
use Rattle.probabilities.proofs.Deciding.{rates_rated}
use Rattle.probabilities.proofs.Setting.{rates_parted}
use Rattle.order_bounds.specs.Orders.{AreBetween}
use Rattle.order_bounds.specs.inner.Orders.{AreOrderBounds, covers_or_more}

between : (whole : ℕ) (list : List Rate) (family all : Family) (least greatest : Bounds) → AreBoundsOf whole (rates_of whole list) (length list) family least → IsSharp whole list family least
    → AreBoundsOf whole (rates_of whole list) (length list) all greatest → IsSharp whole list all greatest → AreBetween whole list (covers family) (covers all) (record { lower = least.lower; upper = greatest.upper })
between whole list family all least greatest below near above nearest =
    record {
      lower = λ d m within. below.lower d m (length list) 0 within (omega arith) (omega arith);
      upper = λ d m within. above.upper d m (length list) 0 within (omega arith) (omega arith);
      most = above.most;
      sharp = λ places are enough.
          let parted = rates_parted whole places list are in
          record {
            lower = (near (rates_of whole list) places parted (rates_rated whole list) are enough).lower (length list) 0 (omega arith) (omega arith);
            upper = (nearest (rates_of whole list) places parted (rates_rated whole list) are enough).upper (length list) 0 (omega arith) (omega arith);
          };
    }

pub wider : (whole : ℕ) (list : List Rate) (family all : Family) (most : ℕ) (events : List ℕ) (least greatest : Bounds) → ((set : List ℕ) → covers all set ≡ covers_or_more family most events set)
    → AreBoundsOf whole (rates_of whole list) (length list) family least → IsSharp whole list family least → AreBoundsOf whole (rates_of whole list) (length list) all greatest → IsSharp whole list all greatest
    → AreOrderBounds whole list family most events (record { lower = least.lower; upper = greatest.upper })
wider whole list family all most events least greatest same below near above nearest =
    let condition : covers all ≡ covers_or_more family most events = λ i set. same set i in
    subst (λ test. AreBetween whole list (covers family) test (record { lower = least.lower; upper = greatest.upper })) condition (between whole list family all least greatest below near above nearest)
