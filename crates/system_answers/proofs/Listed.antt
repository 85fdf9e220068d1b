-- The sets of a family of minimal cut sets in listing order are a listing.
use Rattle.std.proofs.Common.{ℕ, List, Contains, Option, Result, Ok, Err, IfOk, OnErr, inl, inr, refl}
use Rattle.std.specs.Prelude.{IsTrue}
use Rattle.fault_system.specs.Systems.{System}
use Rattle.fault_system.specs.CutSets.{IsEventSet, IsMinimalCutSet}
use Rattle.fault_system.specs.Listings.{IsListing}
use Rattle.zdd_store.specs.inner.Family.{Family, is_within}
use Rattle.cutset_engine.specs.inner.Families.{HasMinimalCutSets}
use Rattle.cutset_writer.specs.inner.Pages.{Lists}
use Rattle.fault_system.specs.Systems.{IsSystem}
use Rattle.path_sets.specs.PathSets.{HasLargePaths, IsPathListing}
use Rattle.path_sets.specs.inner.PathSets.{HasMinimalPathSets}
use Rattle.path_sets.proofs.Listings.{one-refusal}
use Rattle.phases.specs.inner.Meets.{IsMemory, StopsBut}
use Rattle.phases.specs.Phases.{tests}
use Rattle.backward_slice.specs.Slices.{HasLargeSlice}
use Rattle.system_answers.specs.Texts.{slice_of}
use Rattle.phases.specs.inner.Stopped.{status_of}
use Rattle.plain_values.specs.inner.Stops.{StopsFor}
use Rattle.plain_values.specs.declared.refusal.Stop.{Stop}
use Rattle.plain_values.specs.declared.refusal.Stop.TheVariants as stops
use Rattle.plain_values.proofs.OrderLaws.{first_alone}

-- the sets of the family are sets of events
pub event_sets : (system : System) (target : ℕ) (most : Option ℕ) (family : Family) → HasMinimalCutSets system target most family → (set : List ℕ) → Contains family set → IsEventSet system set
event_sets system target most family exact set here = ((exact set).0 here).0.0.0

-- and among the events of the slice
pub among_events : (system : System) (target : ℕ) (most : Option ℕ) (family : Family) (events : List ℕ) → HasMinimalCutSets system target most family → ((set : List ℕ) → IsMinimalCutSet system target set → IsTrue (is_within set events))
    → (set : List ℕ) → Contains family set → IsTrue (is_within set events)
among_events system target most family events exact inside set here = inside set ((exact set).0 here).0

pub listed : (system : System) (target : ℕ) (most : Option ℕ) (family sets : Family) → HasMinimalCutSets system target most family → Lists family sets → IsListing system target most sets
listed system target most family sets exact lists = record {
  exact = λ set. ((λ here. (exact set).0 ((lists.same set).0 here)), (λ is. (lists.same set).1 ((exact set).1 is)));
  ordered = lists.ordered;
}

-- of what is answered two things are said, and so a third
pub ok_both : {T E : Type 0} (r : Result T E) (P Q R : T → Type 0) → ((x : T) → P x → Q x → R x) → IfOk r P → IfOk r Q → IfOk r R
ok_both (Ok x) P Q R both p q = both x p q
ok_both (Err e) P Q R both p q = tt

pub on_err : {T E P : Type 0} (r : Result T E) → P → OnErr r P
on_err (Ok x) p = tt
on_err (Err e) p = p

-- ---- path sets

-- the sets of a family of minimal path sets are sets of events
pub path_event_set : (system : System) (target : ℕ) (most : Option ℕ) (family : Family) → HasMinimalPathSets system target most family → (set : List ℕ) → Contains family set → IsEventSet system set
path_event_set system target most family exact set here = ((exact set).0 here).0.0.0

-- in listing order they are a path listing
pub path_listed : (system : System) (target : ℕ) (most : Option ℕ) (family sets : Family) → HasMinimalPathSets system target most family → Lists family sets → IsPathListing system target most sets
path_listed system target most family sets exact lists = record {
  exact = λ set. ((λ here. (exact set).0 ((lists.same set).0 here)), (λ is. (lists.same set).1 ((exact set).1 is)));
  ordered = lists.ordered;
}

-- why path sets were refused
pub paths_stop : (system : System) (target : ℕ) (stop : Stop) → IsSystem system → StopsFor (HasLargePaths system target) stop → StopsBut IsMemory (tests (HasLargePaths system target)) (status_of stop)
paths_stop system target (stops.Refused refusal) is large =
    inl (record { stopped = (refusal, first_alone (HasLargePaths system target) refusal large (λ other also. one-refusal system is target other refusal also large), refl) })
paths_stop system target stops.Memory is large = inr refl

-- why a slice was
pub slice_stop : (system : System) (target : ℕ) (stop : Stop) → StopsFor (HasLargeSlice system target) stop → StopsBut IsMemory (slice_of target system) (status_of stop)
slice_stop system target (stops.Refused refusal) large = inl (record { stopped = (refusal, large, refl) })
slice_stop system target stops.Memory large = inr refl
