-- The passes over the facts of a slice, and what they establish together.
use Rattle.std.proofs.Common.{ℕ, ◌+◌, ◌≡◌, ◌<◌, ◌≤◌, ◌↔◌, Bool, true, nat_le, List, length, set, slice_index_or, Contains, ⊎_elim, ap, ◌∙◌, sym, subst, arith, below_more}
use Rattle.std.proofs.lemmas.Bool.{leb-true, le-leb}
use Rattle.std.proofs.lemmas.Option.{get_or_from_slice_get}
use Rattle.std.specs.List.{slice_get}
use Rattle.std.specs.Prelude.{Some}
use Rattle.fault_system.specs.Truth.{Has, member, occurs}
use Rattle.fault_system.specs.Systems.{System, IsFact}
use Rattle.fault_system.specs.declared.formula.FactInfo.{FactInfo}
use Rattle.fault_system.proofs.NumberSets.{member-put}
use Rattle.backward_slice.specs.Slices.{DependsOn}
use Rattle.dependency_blocks.specs.Blocks.{number_of, IsBlocks}
use Rattle.dependency_blocks.specs.inner.Checks.{leader_of, HasMarked, MarksOf, LeadToFirst, ComeFromFirst, Fall, IsLow}

-- of the facts so far
abbrev pub LowUntil : System → List ℕ → List ℕ → ℕ → Type 0
LowUntil system numbers facts i = (k : ℕ) → k < i → (d : ℕ) → IsLow system numbers (slice_index_or facts k d)

pub low-next : (system : System) (numbers facts : List ℕ) (i n : ℕ) → LowUntil system numbers facts i → slice_get facts i ≡ Some n → IsLow system numbers n → LowUntil system numbers facts (i + 1)
low-next system numbers facts i n before at here =
    below_more (λ k. (d : ℕ) → IsLow system numbers (slice_index_or facts k d)) i before (λ d. subst (IsLow system numbers) (sym (get_or_from_slice_get facts i n d at)) here)

pub low-end : (system : System) (numbers facts : List ℕ) (i : ℕ) → LowUntil system numbers facts i → length facts ≤ i → Fall system numbers facts
low-end system numbers facts i low all n m fact (k, h, e) at o =
    subst (λ x. number_of numbers m ≤ number_of numbers x) e (low k (omega arith) n m fact (subst (λ x. IsFact system x fact) (sym e) at) o)

pub depends_self : (system : System) (n : ℕ) → DependsOn system n n
depends_self system n xs causes has = has

pub depends_then : (system : System) (a b c : ℕ) → DependsOn system a b → DependsOn system b c → DependsOn system a c
depends_then system a b c ab bc xs causes has = bc xs causes (ab xs causes has)

pub depends_step : (system : System) (n m : ℕ) (fact : FactInfo) → IsFact system n fact → occurs m fact.formula ≡ true → DependsOn system n m
depends_step system n m fact at o xs causes has = causes n m fact has at o

-- a fact that leads to the first of its block by a marked one
pub leads_by : (system : System) (numbers leaders : List ℕ) (marks : List Bool) (n : ℕ) (fact : FactInfo) → LeadToFirst system numbers leaders marks → IsFact system n fact → HasMarked numbers marks (number_of numbers n) fact.formula → DependsOn system n (leader_of numbers leaders n)
leads_by system numbers leaders marks n fact lead at (m, o, marked, same) =
    depends_then system n m (leader_of numbers leaders n) (depends_step system n m fact at o)
    (subst (λ b. DependsOn system m (slice_index_or leaders b 4294967295)) same (lead m marked))

pub lead-put : (system : System) (numbers leaders : List ℕ) (old new : List Bool) (n : ℕ) → LeadToFirst system numbers leaders old → new ≡ set old n true → DependsOn system n (leader_of numbers leaders n) → LeadToFirst system numbers leaders new
lead-put system numbers leaders old new n lead is here m h =
    ⊎_elim (λ e. subst (λ x. DependsOn system x (leader_of numbers leaders x)) (sym e) here) (lead m) (member-put old n m (sym (ap (λ bs. member bs m) is) ∙ h))

pub come-put : (system : System) (numbers leaders : List ℕ) (old new : List Bool) (n : ℕ) → ComeFromFirst system numbers leaders old → new ≡ set old n true → DependsOn system (leader_of numbers leaders n) n → ComeFromFirst system numbers leaders new
come-put system numbers leaders old new n come is here m h =
    ⊎_elim (λ e. subst (λ x. DependsOn system (leader_of numbers leaders x) x) (sym e) here) (come m) (member-put old n m (sym (ap (λ bs. member bs m) is) ∙ h))

pub come-mark : (system : System) (numbers leaders : List ℕ) (old new : List Bool) (n : ℕ) (fact : FactInfo) → ComeFromFirst system numbers leaders old → Has (member old) n → IsFact system n fact → MarksOf numbers (number_of numbers n) fact.formula old new → ComeFromFirst system numbers leaders new
come-mark system numbers leaders old new n fact come marked at marks m h =
    ⊎_elim (come m) (λ o. depends_then system (leader_of numbers leaders m) n m
    (subst (λ b. DependsOn system (slice_index_or leaders b 4294967295) n) (sym o.1) (come n marked)) (depends_step system n m fact at o.0)) (marks m h)

-- what the passes establish together
pub blocks_are : (system : System) (facts numbers leaders : List ℕ) (lead come : List Bool) → ((n : ℕ) → Contains facts n ↔ (number_of numbers n < 4294967295)) → Fall system numbers facts → LeadToFirst system numbers leaders lead → ComeFromFirst system numbers leaders come
    → ((n : ℕ) → Contains facts n → Has (member lead) n) → ((n : ℕ) → Contains facts n → Has (member come) n) → IsBlocks system facts numbers
blocks_are system facts numbers leaders lead come inside fall leads comes all_lead all_come =
    record {
      inside = inside;
      mutual_reach = λ n m in_n in_m. (
        (λ same. (one_way n m in_n in_m same, one_way m n in_m in_n (sym same))),
        (λ (to, back). omega (arith, below n m in_n to, below m n in_m back)),
      );
      falls = fall;
    } where
      one_way : (n m : ℕ) → Contains facts n → Contains facts m → number_of numbers n ≡ number_of numbers m → DependsOn system n m
      one_way n m in_n in_m same =
          depends_then system n (leader_of numbers leaders n) m (leads n (all_lead n in_n))
          (subst (λ b. DependsOn system (slice_index_or leaders b 4294967295) m) (sym same) (comes m (all_come m in_m)))

      below : (n m : ℕ) → Contains facts n → DependsOn system n m → number_of numbers m ≤ number_of numbers n
      below n m in_n depends =
          leb-true _ _ (depends (λ x. nat_le (number_of numbers x) (number_of numbers n))
          (λ x y fact has at o.
          let low : number_of numbers x ≤ number_of numbers n = leb-true _ _ has in
          let top : number_of numbers n < 4294967295 = (inside n).0 in_n in
          let step : number_of numbers y ≤ number_of numbers x = fall x y fact ((inside x).1 (omega arith)) at o in
          le-leb _ _ (omega arith))
          (le-leb _ _ (omega arith)))
