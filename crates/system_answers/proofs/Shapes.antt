-- A tree whose gates are merged is a shape of it; and what each format may write.
use Rattle.std.proofs.Common.{◌≡◌, ◌↔◌, ℕ, Bool, true, suc, List, [], ◌∷◌, Option, Some, Result, Ok, Err, refl, sym, subst}
use Rattle.std.specs.Prelude.{IfOk, slice_get}
use Rattle.std.specs.List.{AllByRecursion}
use Rattle.fault_system.specs.Truth.{NumberSet}
use Rattle.fault_system.specs.Systems.{System}
use Rattle.round_gates.specs.declared.tree.Gate.{Gate}
use Rattle.round_gates.specs.declared.tree.Tree.{Tree}
use Rattle.round_gates.specs.inner.Trees.{TreeHolds}
use Rattle.merged_gates.specs.Merged.{IsMerged, IsReached, IsSettled, Stays}
use Rattle.merged_gates.specs.inner.Merged.{AllStay}
use Rattle.system_answers.specs.Trees.{IsShaped}
use Rattle.property_reader.specs.declared.rate.Rate.{Rate}
use Rattle.galileo_writer.specs.inner.TreeText.{AreRates, HasTextNames}
use Rattle.system_answers.specs.declared.form.TreeFormat.{TreeFormat}
use Rattle.system_answers.specs.declared.form.TreeFormat.TheVariants.{Galileo, Mef, Dot}
use Rattle.system_answers.specs.inner.Forms.{IsTrueFor, IsWritable}

all_from : {A : Type 0} (P : A → Type 0) (xs : List A) → ((n : ℕ) (x : A) → slice_get xs n ≡ Some x → P x) → AllByRecursion P xs
all_from P [] each = tt
all_from P (x ∷ xs) each = (each 0 x refl, all_from P xs (λ n y is. each (suc n) y is))

all_stay : (tree merged : Tree) → AllStay tree merged → AllByRecursion (Stays tree) merged.gates
all_stay tree merged stay = all_from (Stays tree) merged.gates (λ n gate is. let from = stay n gate is in record { place = from.place; source = from.source; at = from.at; key = from.key; kind = from.kind })

pub merged_shape : {E : Type 0} (is_merged : Bool) (tree : Tree) (result : Result Tree E) → is_merged ≡ true → IfOk result (λ merged. AllStay tree merged) → IfOk result (λ merged. IsReached merged) → IfOk result (λ merged. IsSettled merged)
    → IfOk result (IsShaped is_merged tree)
merged_shape is_merged tree (Err e) is stay reached settled = tt
merged_shape is_merged tree (Ok merged) is stay reached settled =
    subst (λ m. IsShaped m tree merged) (sym is) (record { stay = all_stay tree merged stay; reached = reached; settled = settled })

pub merged_truth : {E : Type 0} (system : System) (tree : Tree) (result : Result Tree E) → IfOk result (λ merged. (events : NumberSet) → TreeHolds merged events ↔ TreeHolds tree events)
    → (target : ℕ) → IsTrueFor system target tree → IfOk result (IsTrueFor system target)
merged_truth system tree (Err e) same target for = tt
merged_truth system tree (Ok merged) same target for = λ events. ((λ holds. (for events).0 ((same events).0 holds)), λ holds. (same events).1 ((for events).1 holds))

pub all_writable : (format : TreeFormat) (system : System) (rates : List Rate) → HasTextNames system → AreRates system rates → IsWritable format system rates
all_writable Galileo system rates names are = (names, are)
all_writable Mef system rates names are = are
all_writable Dot system rates names are = tt
