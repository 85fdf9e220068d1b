-- Which gates are reached, found by one pass from the last gate to the first.
use Rattle.std.proofs.Common.{ℕ, suc, ◌+◌, ◌≡◌, ◌<◌, ◌≤◌, ◌⊎◌, Bool, true, false, cond, ◌&&◌, ◌||◌, List, [], ◌∷◌, ◌++◌, length, get_or, slice_get, Option, Some, None, ⊎_elim, ap, ◌∙◌, sym, subst, refl, arith, append_assoc, length-append}
use Rattle.std.proofs.lemmas.Bool.{false≢true, eqb-true, eq-eqb, or_cases, and_parts, cases_order}
use Rattle.std.proofs.lemmas.Option.{slice_get-get_or}
use Rattle.std.specs.List.{AllByRecursion}
use Rattle.std.specs.Option.{option_and_then}
use Rattle.round_gates.specs.declared.node.GateKind.TheVariants.{Or}
use Rattle.round_gates.specs.declared.node.GateKey.{GateKey}
use Rattle.round_gates.specs.declared.node.Line.{Line}
use Rattle.round_gates.specs.declared.node.Node.{Node}
use Rattle.round_gates.specs.declared.node.Node.TheVariants.{Gate}
use Rattle.round_gates.specs.Nodes.{same_key, same_node, has_node}
use Rattle.round_gates.specs.inner.Lines.{is_named, has_line, IsInput, InOrder}
use Rattle.round_gates.specs.inner.Reached.{has_key, place_from, first_line, IsReached, AreReachedFrom, AreReached, AreBehind, is_place, IsVisited}
use Rattle.round_gates.proofs.Rules.{key_exact, node_exact}
use Rattle.round_gates.proofs.Basics.{some_inner, or_left, or_right, key_same}

-- where the first gate of a name is
pub record StandsAt (lines : List Line) (key : GateKey) (from place : ℕ) : Type 0 where
  pub index : ℕ
  pub place_is : place ≡ from + index
  pub inside : index < length lines
  pub line_is : (d : Line) → first_line lines key ≡ Some (get_or lines index d)
  pub named : (d : Line) → same_key (get_or lines index d).key key ≡ true

pub stands : (lines : List Line) (key : GateKey) (from place : ℕ) → place_from from lines key ≡ Some place → StandsAt lines key from place
stands [] key from place e = cc
stands (line ∷ lines) key from place e = by (is_named key line) refl e (stands lines key (from + 1) place)
  where
    by : (b : Bool) → is_named key line ≡ b → cond b (Some from) (place_from (from + 1) lines key) ≡ Some place
        → (place_from (from + 1) lines key ≡ Some place → StandsAt lines key (from + 1) place) → StandsAt (line ∷ lines) key from place
    by true is found rest =
        let same : from ≡ place = some_inner from place found in
        record { index = 0; place_is = omega arith; inside = omega arith; line_is = λ d. ap (λ b. cond b (Some line) (first_line lines key)) is; named = λ d. is }
    by false is found rest =
        let r = rest found in
        record {
          index = suc r.index;
          place_is = omega (arith, r.place_is);
          inside = omega (arith, r.inside);
          line_is = λ d. ap (λ b. cond b (Some line) (first_line lines key)) is ∙ r.line_is d;
          named = r.named;
        }

-- a gate of a name has a place
pub found-place : (lines : List Line) (key : GateKey) (from : ℕ) (line : Line) → first_line lines key ≡ Some line → (place : ℕ) × (place_from from lines key ≡ Some place)
found-place [] key from line e = cc
found-place (x ∷ lines) key from line e = by (is_named key x) e (found-place lines key (from + 1) line)
  where
    by : (b : Bool) → cond b (Some x) (first_line lines key) ≡ Some line → (first_line lines key ≡ Some line → (place : ℕ) × (place_from (from + 1) lines key ≡ Some place))
        → (place : ℕ) × (cond b (Some from) (place_from (from + 1) lines key) ≡ Some place)
    by true found rest = (from, refl)
    by false found rest = rest found

pub line-place : (lines more : List Line) (key : GateKey) (from : ℕ) → has_line lines key ≡ true → (place : ℕ) × (place_from from (lines ++ more) key ≡ Some place) × (place < from + length lines)
line-place [] more key from e = absurd (false≢true e)
line-place (x ∷ lines) more key from e = by (is_named key x) e (line-place lines more key (from + 1))
  where
    by : (b : Bool) → b || has_line lines key ≡ true → (has_line lines key ≡ true → (place : ℕ) × (place_from (from + 1) (lines ++ more) key ≡ Some place) × (place < from + 1 + length lines))
        → (place : ℕ) × (cond b (Some from) (place_from (from + 1) (lines ++ more) key) ≡ Some place) × (place < from + length (x ∷ lines))
    by true found rest = (from, refl, omega arith)
    by false found rest = let r = rest found in (r.0, r.1, omega (arith, r.2))

input-of : (events : ℕ) (before : List Line) (inputs : List Node) (node : Node) → AllByRecursion (IsInput events before) inputs → has_node inputs node ≡ true → IsInput events before node
input-of events before [] node all e = absurd (false≢true e)
input-of events before (x ∷ inputs) node all e = by (same_node node x) refl e (input-of events before inputs node all.1)
  where
    by : (b : Bool) → same_node node x ≡ b → b || has_node inputs node ≡ true → (has_node inputs node ≡ true → IsInput events before node) → IsInput events before node
    by true is found rest = subst (IsInput events before) (sym (node_exact node x is)) all.0
    by false is found rest = rest found

order-behind : (events : ℕ) (before lines : List Line) → InOrder events before lines → (key other : GateKey) (place : ℕ) (line : Line) → place_from (length before) lines key ≡ Some place → first_line lines key ≡ Some line → has_node line.inputs (Gate other) ≡ true
    → (earlier : ℕ) × (place_from 0 (before ++ lines) other ≡ Some earlier) × (earlier < place)
order-behind events before [] order key other place line at first input = cc
order-behind events before (x ∷ lines) order key other place line at first input = by (is_named key x) at first (order-behind events (before ++ x ∷ []) lines order.1 key other place line)
  where
    by : (b : Bool) → cond b (Some (length before)) (place_from (length before + 1) lines key) ≡ Some place → cond b (Some x) (first_line lines key) ≡ Some line
        → (place_from (length (before ++ x ∷ [])) lines key ≡ Some place → first_line lines key ≡ Some line → has_node line.inputs (Gate other) ≡ true → (earlier : ℕ) × (place_from 0 ((before ++ x ∷ []) ++ lines) other ≡ Some earlier) × (earlier < place))
        → (earlier : ℕ) × (place_from 0 (before ++ x ∷ lines) other ≡ Some earlier) × (earlier < place)
    by true at first rest =
        let here : length before ≡ place = some_inner (length before) place at in
        let same : x ≡ line = some_inner x line first in
        let known : has_line before other ≡ true = input-of events before x.inputs (Gate other) order.0 (ap (λ (l : Line). has_node l.inputs (Gate other)) same ∙ input) in
        let r = line-place before (x ∷ lines) other 0 known in
        (r.0, r.1, omega (arith, r.2))
    by false at first rest =
        let long : length (before ++ x ∷ []) ≡ length before + 1 = length-append before (x ∷ []) in
        let r = rest (ap (λ (k : ℕ). place_from k lines key) long ∙ at) first input in
        (r.0, ap (λ (ls : List Line). place_from 0 ls other) (sym (append_assoc before (x ∷ []) lines)) ∙ r.1, r.2)

-- gates in order have their inputs before them
pub behind-of : (events : ℕ) (lines : List Line) → InOrder events [] lines → AreBehind lines
behind-of events lines order key other place line at first input = order-behind events [] lines order key other place line at first input

module _ (lines : List Line) (top : GateKey) where
  pub reached-start : AreReachedFrom lines top (length lines) (top ∷ [])
  reached-start =
      record {
        top_in = or_left _ _ (key_same top);
        right = λ key e set closed has. subst (λ (k : GateKey). set k ≡ true) (sym (key_exact key top (only (same_key key top) e))) has;
        done = λ key other place line has at past first input.
            let s = stands lines key 0 place at in absurd (omega (arith, s.place_is, s.inside));
      } where
        only : (b : Bool) → b || false ≡ true → b ≡ true
        only true e = refl
        only false e = e

  pub reached-end : (keys : List GateKey) → AreReachedFrom lines top 0 keys → AreReached lines top keys
  reached-end keys is =
      record {
        right = is.right;
        all = λ key reached. reached (has_key keys) (λ k next line has first input. let p = found-place lines k 0 line first in is.done k next p.0 line has p.1 (omega arith) first input) is.top_in;
      }

  pub reached-next : AreBehind lines → (i : ℕ) (line : Line) → i < length lines → line ≡ get_or lines i line → (old new : List GateKey) (is_first : Bool) → is_first ≡ is_place (place_from 0 lines line.key) i
      → IsVisited is_first line old new → AreReachedFrom lines top (i + 1) old → AreReachedFrom lines top i new
  reached-next behind i line fits line_is old new is_first first_is visited is =
      record {
        top_in = kept top is.top_in;
        right = λ key has. ⊎_elim (is.right key) (λ added. from_line key (and_parts _ _ added)) (or_cases _ _ (sym (visited key) ∙ has));
        done = λ key other place l has at past first input. ⊎_elim
            (λ was. later key other place l was at first input (cases_order i place) past)
            (λ added. absurd (too_early key place at past (and_parts _ _ added)))
            (or_cases _ _ (sym (visited key) ∙ has));
      } where
        kept : (key : GateKey) → has_key old key ≡ true → has_key new key ≡ true
        kept key e = visited key ∙ or_left _ _ e

        -- where the gate is the first of its name
        first_at : is_first ≡ true → place_from 0 lines line.key ≡ Some i
        first_at e = by (place_from 0 lines line.key) (sym first_is ∙ e)
          where
            by : (found : Option ℕ) → is_place found i ≡ true → found ≡ Some i
            by None h = absurd (false≢true h)
            by (Some n) h = ap Some (eqb-true _ _ h)

        first_line_is : place_from 0 lines line.key ≡ Some i → first_line lines line.key ≡ Some line
        first_line_is at =
            let s = stands lines line.key 0 i at in
            let same : s.index ≡ i = omega (arith, s.place_is) in
            s.line_is line ∙ ap (λ (n : ℕ). Some (get_or lines n line)) same ∙ ap Some (sym line_is)

        from_line : (key : GateKey) → (is_first && has_key old line.key ≡ true) × (has_node line.inputs (Gate key) ≡ true) → IsReached lines top key
        from_line key parts set closed has =
            let both = and_parts is_first _ parts.0 in
            closed line.key key line (is.right line.key both.1 set closed has) (first_line_is (first_at both.0)) parts.1

        too_early : (key : GateKey) (place : ℕ) → place_from 0 lines key ≡ Some place → i ≤ place → (is_first && has_key old line.key ≡ true) × (has_node line.inputs (Gate key) ≡ true) → ⊥
        too_early key place at past parts =
            let both = and_parts is_first _ parts.0 in
            let b = behind line.key key i line (first_at both.0) (first_line_is (first_at both.0)) parts.1 in
            let same : b.0 ≡ place = some_inner b.0 place (sym b.1 ∙ at) in
            omega (arith, b.2)

        later : (key other : GateKey) (place : ℕ) (l : Line) → has_key old key ≡ true → place_from 0 lines key ≡ Some place → first_line lines key ≡ Some l → has_node l.inputs (Gate other) ≡ true
            → (i ≡ place) ⊎ ((i < place) ⊎ (place < i)) → i ≤ place → has_key new other ≡ true
        later key other place l was at first input cases past =
            ⊎_elim
            (λ here.
            let s = stands lines key 0 place at in
            let same : s.index ≡ i = omega (arith, s.place_is) in
            let line_same : get_or lines s.index line ≡ line = ap (λ (n : ℕ). get_or lines n line) same ∙ sym line_is in
            let key_is : line.key ≡ key = ap (λ (x : Line). x.key) (sym line_same) ∙ key_exact _ key (s.named line) in
            let l_is : l ≡ line = some_inner l line (sym first ∙ s.line_is line ∙ ap Some line_same) in
            let is_first_one : is_first ≡ true = first_is ∙ ap (λ (k : GateKey). is_place (place_from 0 lines k) i) key_is ∙ ap (λ found. is_place found i) at ∙ eq-eqb place i (sym here) in
            visited other ∙ or_right _ _ (all_three is_first (has_key old line.key) _ is_first_one (ap (has_key old) key_is ∙ was) (ap (λ (x : Line). has_node x.inputs (Gate other)) (sym l_is) ∙ input)))
            (λ apart. ⊎_elim (λ less. kept other (is.done key other place l was at (omega arith) first input)) (λ more. absurd (omega arith)) apart)
            cases
          where
            all_three : (a b c : Bool) → a ≡ true → b ≡ true → c ≡ true → (a && b) && c ≡ true
            all_three true true c e f g = g
            all_three true false c e f g = absurd (false≢true f)
            all_three false b c e f g = absurd (false≢true e)

-- the gate at the place of a name is the first of that name
pub line-at : (lines : List Line) (key : GateKey) (found : Option ℕ) → found ≡ place_from 0 lines key → option_and_then (slice_get lines) found ≡ first_line lines key
line-at lines key None e = sym (no_line lines 0 (sym e))
  where
    no_line : (ls : List Line) (from : ℕ) → place_from from ls key ≡ None → first_line ls key ≡ None
    no_line [] from h = refl
    no_line (l ∷ ls) from h = by (is_named key l) h (no_line ls (from + 1))
      where
        by : (b : Bool) → cond b (Some from) (place_from (from + 1) ls key) ≡ None → (place_from (from + 1) ls key ≡ None → first_line ls key ≡ None) → cond b (Some l) (first_line ls key) ≡ None
        by true h rest = cc
        by false h rest = rest h
line-at lines key (Some place) e =
    let s = stands lines key 0 place (sym e) in
    let same : place ≡ s.index = omega (arith, s.place_is) in
    ap (slice_get lines) same ∙ slice_get-get_or lines s.index nothing s.inside ∙ sym (s.line_is nothing)
  where
    nothing : Line
    nothing = record { key = key; kind = Or; inputs = [] }
