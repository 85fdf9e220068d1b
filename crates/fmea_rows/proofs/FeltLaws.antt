-- Events on which no effect depends have no rows, and groups of events under which no effect is reached.
use Rattle.std.proofs.Common.{ℕ, zero, suc, ◌≡◌, ◌<◌, ◌⊎◌, Bool, true, false, cond, not, ◌||◌, eqb, List, [], ◌∷◌, filter, length, map, replicate, set, Option, Some, None, inl, inr, ⊎_elim, ap, ◌∙◌, sym, refl, subst, Contains, eq-eqb, arith, length-set}
use Rattle.std.specs.List.{slice_get}
use Rattle.std.proofs.lemmas.Bool.{cases_Bool, cases_eq, eqb-true, false≢true, or_left}
use Rattle.std.proofs.lemmas.List.{get_or-set_other, get_or-set_same, length-replicate}
use Rattle.fault_system.specs.Truth.{NumberSet, Has, member, occurs, truth}
use Rattle.fault_system.specs.Systems.{System, Holds, IsFact, applied}
use Rattle.fault_system.specs.Rounds.{no_event, only}
use Rattle.fault_system.specs.declared.formula.FactInfo.{FactInfo}
use Rattle.fault_system.proofs.Elements.{In, contains_In}
use Rattle.fault_system.proofs.HoldsLaws.{applied-grows}
use Rattle.fault_system.proofs.Marks.{Below-member}
use Rattle.fault_system.proofs.NumberSets.{member-map, member-past, member-replicate, member-set, same_set}
use Rattle.fault_system.proofs.Occurring.{truth-grows-on}
use Rattle.fault_system.proofs.TruthLaws.{same_answer}
use Rattle.backward_slice.specs.inner.Reach.{IsReach}
use Rattle.backward_slice.specs.declared.parts.Reach.{Reach}
use Rattle.fmea_rows.specs.Rows.{event_rows, is_reached, row_of}
use Rattle.fmea_rows.specs.inner.Tables.{AreRowless, IsNone}
use Rattle.fmea_rows.proofs.RowLaws.{reached-means}

or_no : (a b : Bool) → b ≡ true → a || not b ≡ true → a ≡ true
or_no true b e h = refl
or_no false true e h = absurd (false≢true h)
or_no false false e h = absurd (false≢true e)

or_not : (a b : Bool) → b ≡ false → a || not b ≡ true
or_not true b h = refl
or_not false true h = absurd (false≢true (sym h))
or_not false false h = refl

-- where the formulas make a fact true, there is the fact
pub fact-at : (system : System) (events facts : NumberSet) (n : ℕ) → Has (member (applied system events facts)) n → (fact : FactInfo) × IsFact system n fact
fact-at system events facts n has = at (slice_get system.facts n) (λ o e. e) where
  at : (found : Option FactInfo) → ((o : Option FactInfo) → found ≡ o → slice_get system.facts n ≡ o) → (fact : FactInfo) × IsFact system n fact
  at None is = absurd (false≢true (sym (member-past (λ fact. truth events facts fact.formula) system.facts n (is None (λ i. None))) ∙ has))
  at (Some fact) is = (fact, is (Some fact) (λ i. Some fact))

-- no number past the facts is in a set of facts
past : {X : Type 0} (items : List X) (marks : List Bool) → length marks ≡ length items → (n : ℕ) → slice_get items n ≡ None → member marks n ≡ false
past [] [] same n e = refl
past [] (b ∷ marks) same n e = absurd (omega (arith, same))
past (x ∷ xs) [] same n e = absurd (omega (arith, same))
past (x ∷ xs) (b ∷ marks) same zero e = absurd (cc)
past (x ∷ xs) (b ∷ marks) same (suc n) e = past xs marks (omega (arith, same)) n e

filter-none : (p : NumberSet) (ns : List ℕ) → ((n : ℕ) → In n ns → p n ≡ false) → filter p ns ≡ []
filter-none p [] h = refl
filter-none p (n ∷ ns) h = ap (λ b. cond b (n ∷ filter p ns) (filter p ns)) (h n (inl refl)) ∙ filter-none p ns (λ m i. h m (inr i))

module _ (system : System) (effects : List ℕ) (reach : Reach) (is : IsReach system effects reach) where
  -- with each fact, its causes are reached
  pub cause-reached : (n m : ℕ) (fact : FactInfo) → Has (member reach.facts) n → IsFact system n fact → occurs m fact.formula ≡ true → Has (member reach.facts) m
  cause-reached n m fact here at o =
      let there = (is.facts n).0 here in
      (is.facts m).1 (there.0, there.1, λ facts causes from. causes n m fact (there.2 facts causes from) at o)

  -- each is a fact of the system
  pub fact-reached : (n : ℕ) → Has (member reach.facts) n → (fact : FactInfo) × IsFact system n fact
  fact-reached n here = at (slice_get system.facts n) refl where
    at : (found : Option FactInfo) → slice_get system.facts n ≡ found → (fact : FactInfo) × IsFact system n fact
    at None e = absurd (false≢true (sym (past system.facts reach.facts is.facts_size n e) ∙ here))
    at (Some fact) e = (fact, e)

  pub effect-reached : (n : ℕ) → Contains effects n → Has (member reach.facts) n
  effect-reached n among = (is.facts n).1 (n, among, λ facts causes from. from)

  module _ (event : ℕ) (outside : member reach.events event ≡ false) where
    -- what holds under the event alone, and is reached, holds under no event
    still-holds : (n : ℕ) → Has (member reach.facts) n → Holds system (only event) n → Holds system no_event n
    still-holds n here holds xs closed =
        or_no (xs n) (member reach.facts n) here (holds (λ m. xs m || not (member reach.facts m)) (λ m a. by m a (cases_Bool (member reach.facts m))))
      where
        inside : (m : ℕ) → Has (member (applied system (only event) (λ k. xs k || not (member reach.facts k)))) m → Has (member reach.facts) m → xs m || not (member reach.facts m) ≡ true
        inside m a reached =
            let there = fact-at system (only event) (λ k. xs k || not (member reach.facts k)) m a in
            let fact = there.0 in
            or_left (xs m) (not (member reach.facts m))
            (closed m
            (member-map (λ (f : FactInfo). truth no_event xs f.formula) system.facts m fact there.1
            ∙ truth-grows-on (only event) no_event (λ k. xs k || not (member reach.facts k)) xs fact.formula
            (λ e o h. absurd (false≢true (sym outside ∙ subst (λ (k : ℕ). Has (member reach.events) k) (eqb-true e event h) ((is.events e).1 (m, fact, (is.facts m).0 reached, there.1, o)))))
            (λ k o h. or_no (xs k) (member reach.facts k) (cause-reached m k fact reached there.1 o) h)
            (sym (member-map (λ (f : FactInfo). truth (only event) (λ k. xs k || not (member reach.facts k)) f.formula) system.facts m fact there.1) ∙ a)))

        by : (m : ℕ) → Has (member (applied system (only event) (λ k. xs k || not (member reach.facts k)))) m → (member reach.facts m ≡ true) ⊎ (member reach.facts m ≡ false) → xs m || not (member reach.facts m) ≡ true
        by m a there = ⊎_elim (λ t. inside m a t) (λ f. or_not (xs m) (member reach.facts m) f) there

    not-reached : (n : ℕ) → In n effects → is_reached system event n ≡ false
    not-reached n i = ⊎_elim
        (λ t. let means = reached-means system event n t in absurd (means.1 (still-holds n (effect-reached n (contains_In n effects i)) means.0)))
        (λ f. f) (cases_Bool (is_reached system event n))

    -- such an event has no rows
    pub no-rows : event_rows system effects event ≡ []
    no-rows = ap (map (row_of system event)) (filter-none (is_reached system event) effects not-reached)

-- ---- events that have no rows, many at once

-- what holds under some events holds under more
holds-more : (system : System) (events more : NumberSet) → ((e : ℕ) → Has events e → Has more e) → (n : ℕ) → Holds system events n → Holds system more n
holds-more system events more grows n holds xs closed = holds xs (λ m a. closed m (Below-member _ _ (applied-grows events more xs xs grows (λ k h. h) system) m a))

-- where under a group of events no effect holds that does not hold under no event, none of them has a row
module _ (system : System) (effects : List ℕ) (group : NumberSet) (no_more : (n : ℕ) → In n effects → Holds system group n → Holds system no_event n) where
  among-group : (event e : ℕ) → Has group event → Has (only event) e → Has group e
  among-group event e here is = subst (λ (k : ℕ). Has group k) (sym (eqb-true e event is)) here

  pub group-rowless : AreRowless system effects group
  group-rowless event here = ap (map (row_of system event)) (filter-none (is_reached system event) effects (λ n i. ⊎_elim
      (λ t. let means = reached-means system event n t in absurd (means.1 (no_more n i (holds-more system (only event) group (λ e. among-group event e here) n means.0))))
      (λ f. f) (cases_Bool (is_reached system event n))))

-- ---- the set of an event alone, put into the set of no event and taken out again

turned : (a b : ℕ) → eqb a b ≡ eqb b a
turned a b = same_answer _ _ (λ e. eq-eqb b a (sym (eqb-true a b e))) (λ e. eq-eqb a b (sym (eqb-true b a e)))

pub none-made : (size : ℕ) (marks : List Bool) → marks ≡ replicate size false → IsNone size marks
none-made size marks made = record {
  size_is = ap length made ∙ length-replicate size false;
  none = λ n. ap (λ (bs : List Bool). member bs n) made ∙ member-replicate size n;
}

pub none-put : (size event : ℕ) (marks put : List Bool) → IsNone size marks → event < size → put ≡ set marks event true → member put ≡ only event
none-put size event marks put is fits made = same_set (λ n.
    ap (λ (bs : List Bool). member bs n) made ∙ member-set marks event n (omega (arith, is.size_is)) ∙ ap (λ b. b || eqb event n) (is.none n) ∙ turned event n)

pub none-taken : (size event : ℕ) (marks put taken : List Bool) → IsNone size marks → event < size → put ≡ set marks event true → taken ≡ set put event false → IsNone size taken
none-taken size event marks put taken is fits made took = record {
  size_is = ap length took ∙ length-set put event false ∙ ap length made ∙ length-set marks event true ∙ is.size_is;
  none = λ n. ap (λ (bs : List Bool). member bs n) (took ∙ ap (λ (bs : List Bool). set bs event false) made) ∙ ⊎_elim
      (λ (same : n ≡ event). subst (λ (k : ℕ). member (set (set marks event true) event false) k ≡ false) (sym same)
      (get_or-set_same (set marks event true) event false false (omega (arith, is.size_is, length-set marks event true))))
      (λ differ. get_or-set_other (set marks event true) event n false false differ ∙ get_or-set_other marks event n true false differ ∙ is.none n)
      (cases_eq n event);
}
