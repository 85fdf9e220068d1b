-- The events of sets of one event each, which are marked one after another.
use Rattle.std.proofs.Common.{◌≡◌, ℕ, suc, ◌<◌, ◌⊎◌, Bool, true, false, cond, ◌≤◌, filter, List, [], ◌∷◌, length, inl, inr, refl, sym, ap, ◌∙◌, arith}
use Rattle.std.specs.Prelude.{◌==◌, ◌||◌, slice_index_or, if◌then◌else◌}
use Rattle.std.proofs.lemmas.Bool.{cases_lt, eqb-true, eq-eqb, false≢true}
use Rattle.std.proofs.Math.Bool.{or-false}
use Rattle.zdd_store.specs.inner.Family.{Family, branch}
use Rattle.zdd_store.specs.inner.Answers.{sets_of}
use Rattle.zdd_store.specs.inner.Store.{Families, IsSound, family_at, family_of, family_with}
use Rattle.zdd_store.specs.declared.id.Id.{Id}
use Rattle.zdd_store.specs.declared.id.Node.{Node}
use Rattle.fta_outside.specs.Counts.{AreMarks, is_alone, is_single}
use Rattle.cut_reports.specs.inner.Diagram.{AreMarkedTo}

pub marked_none : (store : Families) (part : Id) (marks : List Bool) → AreMarks marks [] → AreMarkedTo store part part marks
marked_none store part marks none event h = ap (λ b. b || is_single (family_of store part) event) (none event h)

-- a node of which `hi` is the empty set alone
one-set : (var : ℕ) (lo : Family) → branch var lo ([] ∷ []) ≡ (var ∷ []) ∷ lo
unfolding branch
one-set var lo = refl

pub node_is : (store : Families) (id : Id) (node : Node) → IsSound store → family_of store id ≡ family_with store node → node.hi.position ≡ 1 → family_of store id ≡ (node.var ∷ []) ∷ family_of store node.lo
node_is store id node sound is unit = is ∙ ap (λ (f : Family). branch node.var (family_of store node.lo) f) (ap (family_at store) unit ∙ sound.unit) ∙ one-set node.var (family_of store node.lo)

pub shorter : (store : Families) (id : Id) (node : Node) → family_of store id ≡ (node.var ∷ []) ∷ family_of store node.lo → length (family_of store node.lo) < length (family_of store id)
shorter store id node is = let count : length (family_of store id) ≡ suc (length (family_of store node.lo)) = ap length is in omega (arith, count)

-- one event more
pub marked_next : (store : Families) (part id : Id) (node : Node) (marks after : List Bool) → family_of store id ≡ (node.var ∷ []) ∷ family_of store node.lo → length after ≡ length marks
    → ((i : ℕ) → slice_index_or after i false ≡ (if i == node.var then (slice_index_or marks i false || true) else slice_index_or marks i false)) → AreMarkedTo store part id marks → AreMarkedTo store part node.lo after
marked_next store part id node marks after is same set so event h =
    ap (λ b. b || is_single (family_of store node.lo) event) (set event)
    ∙ by (event == node.var) (node.var == event) refl refl (slice_index_or marks event false) (is_single (family_of store node.lo) event)
    ∙ sym (ap (λ (f : Family). slice_index_or marks event false || is_single f event) is) ∙ so event (omega (arith, h, same))
  where
    by : (a b : Bool) → (event == node.var) ≡ a → (node.var == event) ≡ b → (mark rest : Bool) → ((if a then (mark || true) else mark) || rest) ≡ (mark || (b || rest))
    by true true e f true rest = refl
    by true true e f false rest = refl
    by true false e f mark rest = absurd (false≢true (sym f ∙ eq-eqb node.var event (sym (eqb-true event node.var e))))
    by false true e f mark rest = absurd (false≢true (sym e ∙ eq-eqb event node.var (sym (eqb-true node.var event f))))
    by false false e f mark rest = refl

-- and none is left
pub marked_all : (store : Families) (part id : Id) (marks : List Bool) → IsSound store → id.position < 2 → AreMarkedTo store part id marks → AreMarks marks (family_of store part)
marked_all store part id marks sound end so event h =
    sym (or-false (slice_index_or marks event false)) ∙ ap (λ b. slice_index_or marks event false || b) (sym (by (cases_lt 0 id.position) end)) ∙ so event h
  where
    by : (0 < id.position) ⊎ (id.position ≤ 0) → id.position < 2 → is_single (family_of store id) event ≡ false
    by (inl some) less = let is : id.position ≡ 1 = omega arith in ap (λ (f : Family). is_single f event) (ap (family_at store) is ∙ sound.unit)
    by (inr none) less = let is : id.position ≡ 0 = omega arith in ap (λ (f : Family). is_single f event) (ap (family_at store) is ∙ sound.empty)

-- an event is alone one of the sets exactly if it is so of those of one event
alone-one : (event : ℕ) (set : List ℕ) → (length set == 1) ≡ false → is_alone event set ≡ false
alone-one event [] e = refl
alone-one event (only ∷ []) e = absurd (false≢true (sym e ∙ eq-eqb 1 1 refl))
alone-one event (first ∷ second ∷ others) e = refl

pub single_of : (event : ℕ) (family : Family) → is_single (sets_of 1 family) event ≡ is_single family event
unfolding sets_of
single_of event [] = refl
single_of event (set ∷ sets) = by (length set == 1) refl (single_of event sets)
  where
    by : (b : Bool) → (length set == 1) ≡ b → is_single (filter (λ s. length s == 1) sets) event ≡ is_single sets event
        → is_single (cond b (set ∷ filter (λ s. length s == 1) sets) (filter (λ s. length s == 1) sets)) event ≡ (is_alone event set || is_single sets event)
    by true e rest = ap (λ b. is_alone event set || b) rest
    by false e rest = rest ∙ ap (λ b. b || is_single sets event) (sym (alone-one event set e))

-- the marks of a family are those of its sets of one event
pub marks_of : (store : Families) (part : Id) (family : Family) (marks : List Bool) → family_of store part ≡ sets_of 1 family → AreMarks marks (family_of store part) → AreMarks marks family
marks_of store part family marks is are event h = are event h ∙ ap (λ (f : Family). is_single f event) is ∙ single_of event family
