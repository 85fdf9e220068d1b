-- Sweeps over some facts, and what as many rounds as there are facts reach.
use Rattle.std.proofs.Common.{ℕ, zero, suc, ◌+◌, ◌≡◌, ◌<◌, ◌≤◌, Bool, true, false, ◌||◌, List, length, slice_index_or, Contains, Some, ⊎_elim, ap, ◌∙◌, sym, subst, refl, arith, below_more, add-one}
use Rattle.std.proofs.lemmas.Bool.{false≢true}
use Rattle.std.proofs.lemmas.List.{get_or-map}
use Rattle.std.proofs.lemmas.Option.{slice_get_cases, get_or_from_slice_get}
use Rattle.std.specs.List.{slice_get}
use lib.ListN.{length-map}
use Rattle.fault_system.specs.Truth.{NumberSet, Has, member, truth}
use Rattle.fault_system.specs.Systems.{System, applied, round, IsFact}
use Rattle.fault_system.specs.Listings.{IsWithinOrder}
use Rattle.fault_system.specs.declared.formula.FactInfo.{FactInfo}
use Rattle.fault_system.proofs.Marks.{Below-member}
use Rattle.fault_system.proofs.HoldsLaws.{applied-grows}
use Rattle.fault_system.proofs.NumberSets.{member-in, member-none}
use Rattle.zdd_store.specs.inner.Store.{Families, Keeps}
use Rattle.zdd_store.specs.declared.id.Id.{Id}
use Rattle.zdd_families.proofs.Ways.{Keeps_trans, Keeps_same}
use Rattle.cutset_engine.specs.inner.Gates.{covers_each, events_of}
use Rattle.cutset_engine.specs.inner.Filling.{Task, covered, IsFilling, IsFilled, IsStep, Grows, Reaches, HaveTheirCauses}
use Rattle.cutset_engine.proofs.Covering.{kept_each}
use Rattle.fault_system.proofs.Occurring.{truth-grows-on}

-- a sweep after so many of the numbers
pub record Swept (task : Task) (before after : Families) (old new : List Id) (numbers : List ℕ) (index : ℕ) (changed : Bool) : Type 0 where
  pub kept : Keeps before after
  pub filling : IsFilling task after new
  pub grows : Grows task before after old new
  pub reaches : (k : ℕ) → k < index → (d : ℕ) → Reaches task before after old new (slice_index_or numbers k d)
  pub same : changed ≡ false → new ≡ old

pub swept-none : (task : Task) (store : Families) (now : List Id) (numbers : List ℕ) → IsFilling task store now → Swept task store store now now numbers 0 false
swept-none task store now numbers filling =
    record { kept = Keeps_same store; filling = filling; grows = λ s w n h. h; reaches = λ k h. absurd (omega arith); same = λ e. refl }

neither : (a b c : Bool) → c ≡ a || b → c ≡ false → (a ≡ false) × (b ≡ false)
neither true b c e f = absurd (false≢true (sym f ∙ e))
neither false b c e f = (refl, sym e ∙ f)

pub swept-next : (task : Task) (before s1 s2 : Families) (old n1 n2 : List Id) (numbers : List ℕ) (i number : ℕ) (changed here next : Bool) → Swept task before s1 old n1 numbers i changed → Keeps s1 s2 → IsStep task s1 s2 n1 n2 (λ n. n ≡ number) here → slice_get numbers i ≡ Some number → next ≡ changed || here
    → Swept task before s2 old n2 numbers (i + 1) next
swept-next task before s1 s2 old n1 n2 numbers i number changed here next swept kept step at next_is =
    record {
      kept = Keeps_trans before s1 s2 swept.kept kept;
      filling = step.filling;
      grows = λ s w n h. step.grows s w n (swept.grows s w n h);
      reaches = below_more (λ k. (d : ℕ) → Reaches task before s2 old n2 (slice_index_or numbers k d)) i
          (λ k h d s w has. step.grows s w (slice_index_or numbers k d) (swept.reaches k h d s w has))
          (λ d s w has. step.reaches (slice_index_or numbers i d) (get_or_from_slice_get numbers i number d at) s w
          (Below-member _ _ (applied-grows (events_of task.order s) (events_of task.order s) (member (covered before old s)) (member (covered s1 n1 s)) (λ m k. k) (swept.grows s w) task.system) (slice_index_or numbers i d) has));
      same = λ e. let parts = neither changed here next next_is e in step.same parts.1 ∙ swept.same parts.0;
    }

pub swept-end : (task : Task) (before after : Families) (old new : List Id) (numbers : List ℕ) (index : ℕ) (changed : Bool) → Swept task before after old new numbers index changed → length numbers ≤ index → IsStep task before after old new (Contains numbers) changed
swept-end task before after old new numbers index changed swept all =
    record {
      filling = swept.filling;
      grows = swept.grows;
      reaches = λ n (k, h, e). subst (Reaches task before after old new) e (swept.reaches k (omega arith) n);
      same = swept.same;
    }

-- the fact of a number whose mark is set when all formulas are applied, and what the mark is under any events
pub record FactOf (system : System) (xs : NumberSet) (n : ℕ) : Type 0 where
  pub fact : FactInfo
  pub is : IsFact system n fact
  pub value : (es : NumberSet) → member (applied system es xs) n ≡ truth es xs fact.formula

pub fact_of : (system : System) (es xs : NumberSet) (n : ℕ) → Has (member (applied system es xs)) n → FactOf system xs n
fact_of system es xs n has =
    ⊎_elim (λ inside. record {
      fact = inside.0;
      is = inside.2;
      value = λ es'. get_or-map (λ (f : FactInfo). truth es' xs f.formula) system.facts n inside.0 false inside.1 ∙ ap (λ (f : FactInfo). truth es' xs f.formula) inside.3;
    })
    (λ past. absurd (omega (arith, past.0, member-in (applied system es xs) n has, length-map system.facts (λ (f : FactInfo). truth es xs f.formula))))
    (slice_get_cases system.facts n).1

-- whether a formula of one of the numbers is true depends on these numbers alone
applied-on : (system : System) (es : NumberSet) (numbers : List ℕ) (xs ys : List Bool) → HaveTheirCauses system numbers → ((m : ℕ) → Contains numbers m → Has (member xs) m → Has (member ys) m) → (n : ℕ) → Contains numbers n → Has (member (applied system es (member xs))) n → Has (member (applied system es (member ys))) n
applied-on system es numbers xs ys causes below n asked has =
    ⊎_elim (λ inside.
    let fact = inside.0 in
    let is : slice_index_or system.facts n fact ≡ fact = inside.3 in
    let value : (zs : List Bool) → member (applied system es (member zs)) n ≡ truth es (member zs) fact.formula =
    λ zs. get_or-map (λ (f : FactInfo). truth es (member zs) f.formula) system.facts n fact false inside.1 ∙ ap (λ (f : FactInfo). truth es (member zs) f.formula) is in
    value ys ∙ truth-grows-on es es (member xs) (member ys) fact.formula (λ m o h. h) (λ m o h. below m (causes n m fact asked inside.2 o) h) (sym (value xs) ∙ has))
    (λ past. absurd (omega (arith, past.0, member-in (applied system es (member xs)) n has, length-map system.facts (λ (f : FactInfo). truth es (member xs) f.formula))))
    (slice_get_cases system.facts n).1

-- after r rounds: of the numbers all is covered that r rounds reach
pub Rounds : Task → List ℕ → Families → List Id → ℕ → Type 0
Rounds task numbers store now r =
    (s : List ℕ) → IsWithinOrder task.most s → (n : ℕ) → Contains numbers n → Has (member (round task.system (events_of task.order s) r)) n → Has (member (covered store now s)) n

pub rounds-none : (task : Task) (numbers : List ℕ) (store : Families) (now : List Id) → Rounds task numbers store now 0
unfolding Rounds
rounds-none task numbers store now s w n asked has = absurd (false≢true (sym (member-none task.system.facts n) ∙ has))

pub rounds-next : (task : Task) (numbers : List ℕ) (before after : Families) (old new : List Id) (changed : Bool) (r : ℕ) → HaveTheirCauses task.system numbers → Rounds task numbers before old r → IsStep task before after old new (Contains numbers) changed → Rounds task numbers after new (r + 1)
unfolding Rounds
rounds-next task numbers before after old new changed r causes rounds step s w n asked =
    subst (λ k. Has (member (round task.system (events_of task.order s) k)) n → Has (member (covered after new s)) n) (sym (add-one r))
    (λ has. step.reaches n asked s w (applied-on task.system (events_of task.order s) numbers (round task.system (events_of task.order s) r) (covered before old s) causes (rounds s w) n asked has))

-- where nothing changed, all rounds are reached
pub rounds-all : (task : Task) (numbers : List ℕ) (before after : Families) (old new : List Id) → HaveTheirCauses task.system numbers → IsFilling task before old → Keeps before after → IsStep task before after old new (Contains numbers) false → (r : ℕ) → Rounds task numbers after new r
unfolding Rounds
rounds-all task numbers before after old new causes filling kept step zero = λ s w n asked has. absurd (false≢true (sym (member-none task.system.facts n) ∙ has))
rounds-all task numbers before after old new causes filling kept step (suc r) =
    λ s w n asked has.
    let same : covered after new s ≡ covered before old s = ap (λ ids. covers_each after ids s) (step.same refl) ∙ kept_each before after old s kept filling.found in
    step.reaches n asked s w (applied-on task.system (events_of task.order s) numbers (round task.system (events_of task.order s) r) (covered before old s) causes
    (λ m i h. subst (λ bs. Has (member bs) m) same (rounds-all task numbers before after old new causes filling kept step r s w m i h)) n asked has)

pub filled-from : (task : Task) (numbers : List ℕ) (store : Families) (now : List Id) (r : ℕ) → IsFilling task store now → Rounds task numbers store now r → r ≡ length task.system.facts → IsFilled task numbers store now
unfolding Rounds
filled-from task numbers store now r filling rounds is =
    record { filling = filling; all = subst (λ k. (s : List ℕ) → IsWithinOrder task.most s → (n : ℕ) → Contains numbers n → Has (member (round task.system (events_of task.order s) k)) n → Has (member (covered store now s)) n) is rounds }
