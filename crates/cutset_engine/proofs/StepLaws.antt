-- One step: the family of one fact is made anew.
use Rattle.std.proofs.Common.{ℕ, zero, suc, ◌≡◌, ◌≢◌, ◌<◌, Bool, false, List, [], ◌∷◌, length, set, slice_index_or, All, Some, None, ⊎_elim, ap, ◌∙◌, sym, subst, refl, arith, length-set}
use Rattle.std.proofs.lemmas.Bool.{cases_eq}
use Rattle.std.proofs.lemmas.List.{get_or-map, get_or-set_same, get_or-set_other}
use Rattle.std.proofs.lemmas.Option.{slice_get_within, get_or_from_slice_get, slice_get-get_or}
use Rattle.std.specs.List.{slice_get}
use lib.ListN.{length-map}
use Rattle.fault_system.specs.Truth.{NumberSet, Has, member, truth}
use Rattle.fault_system.specs.Systems.{System, applied, Holds, IsFact}
use Rattle.fault_system.specs.Listings.{IsWithinOrder}
use Rattle.fault_system.specs.declared.formula.FactInfo.{FactInfo}
use Rattle.fault_system.proofs.Marks.{Below-member}
use Rattle.fault_system.proofs.HoldsLaws.{applied-grows}
use Rattle.fault_system.proofs.NumberSets.{member-in}
use Rattle.zdd_store.specs.inner.Family.{covers}
use Rattle.zdd_store.specs.inner.Store.{Families, IsIn, family_of, Keeps}
use Rattle.zdd_store.specs.declared.id.Id.{Id}
use Rattle.cutset_engine.specs.inner.Gates.{covers_each, events_of, is_true_under, Stands}
use Rattle.cutset_engine.specs.inner.Filling.{Task, covered, next_covered, IsFilling, IsStep}
use Rattle.cutset_engine.proofs.Covering.{kept_each, kept_in}

-- the marks of one set, of which one is put anew
module _ (system : System) (es : NumberSet) (c c' : List Bool) (number : ℕ) (b : Bool) (is : c' ≡ set c number b) (at : b ≡ member (applied system es (member c)) number) (fits : number < length c)
    (holds : (n : ℕ) → Has (member c) n → Holds system es n) (stays : (n : ℕ) → Has (member c) n → Has (member (applied system es (member c))) n) where
  here : member c' number ≡ b
  here = ap (λ bs. member bs number) is ∙ get_or-set_same c number b false fits

  other : (n : ℕ) → n ≢ number → member c' n ≡ member c n
  other n differ = ap (λ bs. member bs n) is ∙ get_or-set_other c number n b false differ

  pub marks-grow : (n : ℕ) → Has (member c) n → Has (member c') n
  marks-grow n h = ⊎_elim (λ e. subst (Has (member c')) (sym e) (here ∙ at ∙ stays number (subst (Has (member c)) e h))) (λ differ. other n differ ∙ h) (cases_eq n number)

  from : (n : ℕ) → Has (member c') n → Has (member (applied system es (member c))) n
  from n h = ⊎_elim (λ e. subst (Has (member (applied system es (member c)))) (sym e) (sym at ∙ sym here ∙ subst (Has (member c')) e h)) (λ differ. stays n (sym (other n differ) ∙ h)) (cases_eq n number)

  pub marks-hold : (n : ℕ) → Has (member c') n → Holds system es n
  marks-hold n h xs closed = closed n (Below-member _ _ (applied-grows es es (member c) xs (λ m k. k) (λ m k. holds m k xs closed) system) n (from n h))

  pub marks-stay : (n : ℕ) → Has (member c') n → Has (member (applied system es (member c'))) n
  marks-stay n h = Below-member _ _ (applied-grows es es (member c) (member c') (λ m k. k) marks-grow system) n (from n h)

  pub marks-reach : Has (member (applied system es (member c))) number → Has (member c') number
  marks-reach h = here ∙ at ∙ h

set_each : (store : Families) (now : List Id) (n : ℕ) (id : Id) (s : List ℕ) → covers_each store (set now n id) s ≡ set (covers_each store now s) n (covers (family_of store id) s)
set_each store [] n id s = refl
set_each store (x ∷ now) zero id s = refl
set_each store (x ∷ now) (suc n) id s = ap (λ bs. covers (family_of store x) s ∷ bs) (set_each store now n id s)

pub set_same : {X : Type 0} (xs : List X) (n : ℕ) (x : X) → n < length xs → slice_index_or xs n x ≡ x → set xs n x ≡ xs
set_same [] n x h e = refl
set_same (y ∷ ys) zero x h e = ap (λ z. z ∷ ys) (sym e)
set_same (y ∷ ys) (suc n) x h e = ap (λ zs. y ∷ zs) (set_same ys n x (omega arith) e)

All-set : {X : Type 0} (P : X → Type 0) (xs : List X) (n : ℕ) (x : X) → All P xs → P x → All P (set xs n x)
All-set P [] n x all p k d h = all k d h
All-set P (y ∷ ys) zero x all p zero d h = p
All-set P (y ∷ ys) zero x all p (suc k) d h = all (suc k) d (omega arith)
All-set P (y ∷ ys) (suc n) x all p zero d h = all 0 d (omega arith)
All-set P (y ∷ ys) (suc n) x all p (suc k) d h = All-set P ys n x (λ j e l. all (suc j) e (omega arith)) p k d (omega arith)

-- the family of a fact is made anew
pub step-made : (task : Task) (before after : Families) (now new : List Id) (number : ℕ) (fact : FactInfo) (id : Id) (changed : Bool) → IsFilling task before now → IsFact task.system number fact → Keeps before after
    → Stands after task.most (is_true_under task.order before now fact.formula) id → new ≡ set now number id → (changed ≡ false → slice_index_or now number id ≡ id) → IsStep task before after now new (λ n. n ≡ number) changed
step-made task before after now new number fact id changed filling is_fact kept stands put same =
    record {
      filling = record {
        size = ap length put ∙ length-set now number id ∙ filling.size;
        found = subst (All (IsIn after)) (sym put) (All-set (IsIn after) now number id (kept_in before after now kept filling.found) stands.found);
        holds = λ s h. marks-hold system (es s) (c s) (c' s) number (b s) (is s) (at s h) (fits s) (filling.holds s h) (filling.stays s h);
        stays = λ s h. marks-stay system (es s) (c s) (c' s) number (b s) (is s) (at s h) (fits s) (filling.holds s h) (filling.stays s h);
      };
      grows = λ s h. marks-grow system (es s) (c s) (c' s) number (b s) (is s) (at s h) (fits s) (filling.holds s h) (filling.stays s h);
      reaches = λ n e s h has. subst (Has (member (c' s))) (sym e) (marks-reach system (es s) (c s) (c' s) number (b s) (is s) (at s h) (fits s) (filling.holds s h) (filling.stays s h) (subst (Has (member (applied system (es s) (member (c s))))) e has));
      same = λ e. put ∙ set_same now number id inside (same e);
    } where
      system : System
      system = task.system

      es : List ℕ → NumberSet
      es s = events_of task.order s

      c : List ℕ → List Bool
      c s = covered before now s

      c' : List ℕ → List Bool
      c' s = covered after new s

      b : List ℕ → Bool
      b s = covers (family_of after id) s

      in_facts : number < length task.system.facts
      in_facts = slice_get_within task.system.facts number fact is_fact

      inside : number < length now
      inside = omega (arith, in_facts, filling.size)

      is : (s : List ℕ) → c' s ≡ set (c s) number (b s)
      is s = ap (λ ids. covers_each after ids s) put ∙ set_each after now number id s ∙ ap (λ bs. set bs number (b s)) (kept_each before after now s kept filling.found)

      at : (s : List ℕ) → IsWithinOrder task.most s → b s ≡ member (applied system (es s) (member (c s))) number
      at s h =
          stands.right s h
          ∙ sym (get_or-map (λ (f : FactInfo). truth (es s) (member (c s)) f.formula) task.system.facts number fact false in_facts
          ∙ ap (λ (f : FactInfo). truth (es s) (member (c s)) f.formula) (get_or_from_slice_get task.system.facts number fact fact is_fact))

      fits : (s : List ℕ) → number < length (c s)
      fits s = omega (arith, inside, length-map now (λ i. covers (family_of before i) s))

-- a number that is no fact's needs no step
pub step-none : (task : Task) (store : Families) (now : List Id) (number : ℕ) → IsFilling task store now → slice_get task.system.facts number ≡ None → IsStep task store store now now (λ n. n ≡ number) false
step-none task store now number filling none =
    record {
      filling = filling;
      grows = λ s h n has. has;
      reaches = λ n e s h has.
          let inside : n < length task.system.facts = omega (arith, member-in (next_covered task store now s) n has, length-map task.system.facts (λ (f : FactInfo). truth (events_of task.order s) (member (covered store now s)) f.formula)) in
          absurd (some_none _ (sym (slice_get_at task.system.facts n inside) ∙ ap (slice_get task.system.facts) e ∙ none));
      same = λ e. refl;
    } where
      some_none : (x : FactInfo) → Some x ≡ None → ⊥
      some_none x h = cc

      first : (facts : List FactInfo) → 0 < length facts → FactInfo
      first [] h = absurd (omega arith)
      first (f ∷ facts) h = f

      slice_get_at : (facts : List FactInfo) (n : ℕ) → (h : n < length facts) → slice_get facts n ≡ Some (slice_index_or facts n (first facts (omega arith)))
      slice_get_at facts n h = slice_get-get_or facts n (first facts (omega arith)) h

-- the family that was there already
pub same_family : (now : List Id) (n : ℕ) (id d : Id) → n < length now → id.position ≡ (slice_index_or now n d).position → slice_index_or now n id ≡ id
same_family [] n id d h e = refl
same_family (x ∷ now) zero id d h e = λ i. record { position = sym e i }
same_family (x ∷ now) (suc n) id d h e = same_family now n id d (omega arith) e
