-- The gates of a walk stand at its places, no two of them at one, with inputs from behind their places, as many as their kind needs.
use Rattle.std.proofs.Common.{ℕ, ◌+◌, ◌-◌, ◌≡◌, ◌≢◌, ◌<◌, ◌≤◌, Bool, true, false, cond, not, ◌||◌, ◌==◌, nat_lt, List, [], ◌∷◌, ◌++◌, map, length, ap, ◌∙◌, sym, subst, refl, arith}
use Rattle.std.proofs.lemmas.Bool.{false≢true, ltb-true, and_parts}
use Rattle.std.proofs.lemmas.Bool.Decides.{nat_tests}
use Rattle.std.specs.List.{list_all, AllByRecursion}
use lib.ListN.{length-map}
use Rattle.fault_system.specs.Truth.{in_range, in_range_step}
use Rattle.fault_system.specs.declared.formula.Formula.{Formula, map-Formula, roll-Formula, fold-roll-Formula, ind-Formula}
use Rattle.fault_system.specs.declared.formula.Formula.TheOpen.{Formula-F, True, Event, Fact, And, Or, AtLeast}
use Rattle.round_gates.specs.declared.node.GateKind.{GateKind}
use Rattle.round_gates.specs.declared.node.GateKind.TheVariants as kinds
use Rattle.round_gates.specs.declared.node.Join.{Join}
use Rattle.round_gates.specs.declared.node.Join.TheVariants.{Plain, Made}
use Rattle.round_gates.specs.declared.node.Line.{Line}
use Rattle.round_gates.specs.declared.node.Node.{Node}
use Rattle.round_gates.specs.declared.node.Node.TheVariants.{Always, Never, Basic, Gate}
use Rattle.round_gates.specs.declared.node.Part.{Part}
use Rattle.round_gates.specs.declared.node.Stage.{Stage}
use Rattle.round_gates.specs.Nodes.{same_node, has_node, without, new_ones, each_once, gathered, all_of, any_of, always_in, varying, least_left, least_of}
use Rattle.round_gates.specs.inner.Targets.{MayHave}
use Rattle.round_gates.specs.Walks.{Walked, Parts, key_at, parts_of, nodes_of, varying_parts, node_at, line_at, with_seen, wrapped, repeats, counted_lines, walk, walk_step, places, places_step, total}
use Rattle.round_gates.proofs.Basics.{all-append, all-map}
use Rattle.round_gates.proofs.Once.{From, from-wider, place-same, PartsFrom, parts-below, parts-nodes, varying-from, Before}
use Rattle.round_gates.proofs.Rules.{node_exact}
use Rattle.round_gates.proofs.WalkTruth.{counted-inputs, nodes-varying}

all-both : {X : Type 0} (P Q : X → Type 0) (xs : List X) → AllByRecursion P xs → AllByRecursion Q xs → AllByRecursion (λ x. P x × Q x) xs
all-both P Q [] a b = tt
all-both P Q (x ∷ xs) a b = ((a.0, b.0), all-both P Q xs a.1 b.1)

length-without : (c : Node) (nodes : List Node) → length (without c nodes) ≤ length nodes
length-without c [] = omega arith
length-without c (n ∷ nodes) = by (not (same_node c n)) (length-without c nodes)
  where
    by : (b : Bool) → length (without c nodes) ≤ length nodes → length (cond b (n ∷ without c nodes) (without c nodes)) ≤ length (n ∷ nodes)
    by true h = omega arith
    by false h = omega arith

length-new : (seen nodes : List Node) → length (new_ones seen nodes) ≤ length nodes
length-new seen [] = omega arith
length-new seen (n ∷ nodes) = by (has_node seen n) (length-new seen nodes) (length-new (seen ++ n ∷ []) nodes)
  where
    by : (b : Bool) → length (new_ones seen nodes) ≤ length nodes → length (new_ones (seen ++ n ∷ []) nodes) ≤ length nodes
        → length (cond b (new_ones seen nodes) (n ∷ new_ones (seen ++ n ∷ []) nodes)) ≤ length (n ∷ nodes)
    by true h k = omega arith
    by false h k = omega arith

-- a rule gives a constant or one of the nodes, or a gate of such nodes, no more than there are and as many as its kind needs
module _ (Q : Node → Type 0) (most : ℕ) where
  abbrev pub Shaped : Join → Type 0
  Shaped (Plain node) = Q node
  Shaped (Made kind inputs) = AllByRecursion Q inputs × (length inputs ≤ most) × MayHave kind (length inputs)

  module _ (always : Q Always) (never : Q Never) where
    without-all : (c : Node) (nodes : List Node) → AllByRecursion Q nodes → AllByRecursion Q (without c nodes)
    without-all c [] h = tt
    without-all c (n ∷ nodes) h = by (not (same_node c n)) (without-all c nodes h.1)
      where
        by : (b : Bool) → AllByRecursion Q (without c nodes) → AllByRecursion Q (cond b (n ∷ without c nodes) (without c nodes))
        by true rest = (h.0, rest)
        by false rest = rest

    new-all : (seen nodes : List Node) → AllByRecursion Q nodes → AllByRecursion Q (new_ones seen nodes)
    new-all seen [] h = tt
    new-all seen (n ∷ nodes) h = by (has_node seen n) (new-all seen nodes h.1) (new-all (seen ++ n ∷ []) nodes h.1)
      where
        by : (b : Bool) → AllByRecursion Q (new_ones seen nodes) → AllByRecursion Q (new_ones (seen ++ n ∷ []) nodes) → AllByRecursion Q (cond b (new_ones seen nodes) (n ∷ new_ones (seen ++ n ∷ []) nodes))
        by true a b = a
        by false a b = (h.0, b)

    and-shaped : (nodes : List Node) → AllByRecursion Q nodes → length nodes ≤ most → Shaped (gathered kinds.And Always nodes)
    and-shaped [] h few = always
    and-shaped (x ∷ []) h few = h.0
    and-shaped (x ∷ y ∷ nodes) h few = (h, few, omega arith)

    or-shaped : (nodes : List Node) → AllByRecursion Q nodes → length nodes ≤ most → Shaped (gathered kinds.Or Never nodes)
    or-shaped [] h few = never
    or-shaped (x ∷ []) h few = h.0
    or-shaped (x ∷ y ∷ nodes) h few = (h, few, omega arith)

    pub all_of-shaped : (nodes : List Node) → AllByRecursion Q nodes → length nodes ≤ most → Shaped (all_of nodes)
    all_of-shaped nodes h few = by (has_node nodes Never)
      where
        by : (b : Bool) → Shaped (cond b (Plain Never) (gathered kinds.And Always (each_once (without Always nodes))))
        by true = never
        by false =
            let less = length-new [] (without Always nodes) in
            let fewer = length-without Always nodes in
            and-shaped (each_once (without Always nodes)) (new-all [] (without Always nodes) (without-all Always nodes h)) (omega arith)

    pub any_of-shaped : (nodes : List Node) → AllByRecursion Q nodes → length nodes ≤ most → Shaped (any_of nodes)
    any_of-shaped nodes h few = by (has_node nodes Always)
      where
        by : (b : Bool) → Shaped (cond b (Plain Always) (gathered kinds.Or Never (each_once (without Never nodes))))
        by true = always
        by false =
            let less = length-new [] (without Never nodes) in
            let fewer = length-without Never nodes in
            or-shaped (each_once (without Never nodes)) (new-all [] (without Never nodes) (without-all Never nodes h)) (omega arith)

    least_left-shaped : (k : ℕ) (nodes : List Node) → AllByRecursion Q nodes → length nodes ≤ most → Shaped (least_left k nodes)
    least_left-shaped k nodes h less = none (k == 0) refl
      where
        counts : (k == 0) ≡ false → nat_lt (length nodes) k ≡ false → (k == 1) ≡ false → (k == length nodes) ≡ false → (2 ≤ k) × (k < length nodes)
        counts a b c d = (grind (arith, nat_tests), grind (arith, nat_tests))

        every : (k == 0) ≡ false → nat_lt (length nodes) k ≡ false → (k == 1) ≡ false → (b : Bool) → (k == length nodes) ≡ b → Shaped (cond b (all_of nodes) (Made (kinds.AtLeast k) nodes))
        every x y z true e = all_of-shaped nodes h less
        every x y z false e = (h, less, counts x y z e)

        one : (k == 0) ≡ false → nat_lt (length nodes) k ≡ false → (b : Bool) → (k == 1) ≡ b → Shaped (cond b (any_of nodes) (cond (k == length nodes) (all_of nodes) (Made (kinds.AtLeast k) nodes)))
        one x y true e = any_of-shaped nodes h less
        one x y false e = every x y e (k == length nodes) refl

        few : (k == 0) ≡ false → (b : Bool) → nat_lt (length nodes) k ≡ b → Shaped (cond b (Plain Never) (cond (k == 1) (any_of nodes) (cond (k == length nodes) (all_of nodes) (Made (kinds.AtLeast k) nodes))))
        few x true e = never
        few x false e = one x e (k == 1) refl

        none : (b : Bool) → (k == 0) ≡ b → Shaped (cond b (Plain Always) (cond (nat_lt (length nodes) k) (Plain Never) (cond (k == 1) (any_of nodes) (cond (k == length nodes) (all_of nodes) (Made (kinds.AtLeast k) nodes)))))
        none true e = always
        none false e = few e (nat_lt (length nodes) k) refl

    pub least_of-shaped : (k : ℕ) (nodes : List Node) → AllByRecursion Q nodes → length nodes ≤ most → Shaped (least_of k nodes)
    least_of-shaped k nodes h few =
        let less = length-without Never (without Always nodes) in
        let fewer = length-without Always nodes in
        least_left-shaped (k - always_in nodes) (varying nodes) (without-all Never (without Always nodes) (without-all Always nodes h)) (omega arith)

-- no two gates stand at one place
abbrev pub PlacesOnce : List Line → Type 0
PlacesOnce [] = Unit {0}
PlacesOnce (line ∷ lines) = AllByRecursion (λ other. line.key.place ≢ other.key.place) lines × PlacesOnce lines

-- no gate of the one list stands at a place of one of the other
abbrev Apart : List Line → List Line → Type 0
Apart xs ys = AllByRecursion (λ x. AllByRecursion (λ y. x.key.place ≢ y.key.place) ys) xs

once-append : (xs ys : List Line) → PlacesOnce xs → PlacesOnce ys → Apart xs ys → PlacesOnce (xs ++ ys)
once-append [] ys a b apart = b
once-append (x ∷ xs) ys a b apart = (all-append (λ other. x.key.place ≢ other.key.place) xs ys a.0 apart.0, once-append xs ys a.1 b apart.1)

length-wrapped : (stage : Stage) (seen : List Node) (parts : List Part) → length (wrapped stage seen parts) ≡ length parts
length-wrapped stage seen [] = refl
length-wrapped stage seen (part ∷ parts) = let rest = length-wrapped stage (with_seen seen part.node) parts in omega arith

module _ (stage : Stage) (P : Node → Type 0) (own : (p : ℕ) → P (Gate (key_at stage p))) where
  -- where the node is a gate of this stage, its place is in a range
  abbrev Behind : ℕ → ℕ → Node → Type 0
  Behind low high node = From stage low high node × P node

  -- a gate of the stage at a place in a range, with inputs from behind it
  pub record IsPlaced (low high : ℕ) (line : Line) : Type 0 where
    pub key_is : line.key ≡ key_at stage line.key.place
    pub low_is : low ≤ line.key.place
    pub high_is : line.key.place < high
    pub inputs : AllByRecursion (λ node. From stage (line.key.place + 1) high node × P node) line.inputs
    pub few : length line.inputs ≤ high
    pub count : MayHave line.kind (length line.inputs)

  behind-wider : (low high low' high' : ℕ) (node : Node) → low' ≤ low → high ≤ high' → Behind low high node → Behind low' high' node
  behind-wider low high low' high' node l h b = (from-wider stage low high low' high' node l h b.0, b.1)

  placed-wider : (low high low' high' : ℕ) → low' ≤ low → high ≤ high' → (line : Line) → IsPlaced low high line → IsPlaced low' high' line
  placed-wider low high low' high' l h line is =
      record {
        key_is = is.key_is;
        low_is = omega (arith, is.low_is);
        high_is = omega (arith, is.high_is);
        inputs = all-map (Behind (line.key.place + 1) high) (Behind (line.key.place + 1) high') (λ node b. behind-wider (line.key.place + 1) high (line.key.place + 1) high' node (omega arith) h b) line.inputs is.inputs;
        few = omega (arith, is.few);
        count = is.count;
      }

  all-wider : (low high low' high' : ℕ) → low' ≤ low → high ≤ high' → (lines : List Line) → AllByRecursion (IsPlaced low high) lines → AllByRecursion (IsPlaced low' high') lines
  all-wider low high low' high' l h = all-map (IsPlaced low high) (IsPlaced low' high') (placed-wider low high low' high' l h)

  -- gates of two ranges, one behind the other, stand apart
  ranges-apart : (low mid high : ℕ) (xs ys : List Line) → AllByRecursion (IsPlaced low mid) xs → AllByRecursion (IsPlaced mid high) ys → Apart xs ys
  ranges-apart low mid high xs ys a b =
      all-map (IsPlaced low mid) (λ x. AllByRecursion (λ y. x.key.place ≢ y.key.place) ys)
      (λ x is. all-map (IsPlaced mid high) (λ y. x.key.place ≢ y.key.place) (λ y there e. omega (arith, is.high_is, there.low_is)) ys b) xs a

  -- a gate at this place has this node
  abbrev IsOwn : ℕ → Node → Line → Type 0
  IsOwn place node line = line.key.place ≡ place → node ≡ Gate (key_at stage place)

  -- what a walk of a formula of so many places gives from a place on
  pub record Placed (walked : Walked) (start count : ℕ) : Type 0 where
    pub some : 0 < count
    pub next : walked.next ≡ start + count
    pub node : From stage start walked.next walked.node × P walked.node
    pub lines : AllByRecursion (IsPlaced start walked.next) walked.lines
    pub once : PlacesOnce walked.lines
    pub owned : AllByRecursion (λ line. line.key.place ≡ start → walked.node ≡ Gate (key_at stage start)) walked.lines

  -- the same of the parts of a formula
  record PartsPlaced (all : Parts) (start : ℕ) (count : ℕ) : Type 0 where
    next : all.next ≡ start + count
    parts : PartsFrom stage start all.next all.parts
    have : AllByRecursion (λ part. P part.node) all.parts
    many : start + length all.parts ≤ all.next
    lines : AllByRecursion (IsPlaced start all.next) all.lines
    once : PlacesOnce all.lines
    owned : AllByRecursion (λ part. AllByRecursion (IsOwn part.place part.node) all.lines) all.parts

  parts-above : (low high : ℕ) (parts : List Part) → PartsFrom stage low high parts → AllByRecursion (λ part. low ≤ part.place) parts
  parts-above low high [] h = tt
  parts-above low high (part ∷ parts) h =
      (h.0, all-map (λ part. h.1.0 ≤ part.place) (λ part. low ≤ part.place) (λ p l. omega (arith, h.0, h.1.1.0, l)) parts (parts-above h.1.0 high parts h.1.1.2))

  -- both ranges and the property, of all nodes of parts
  nodes-behind : (low high : ℕ) (parts : List Part) → AllByRecursion (From stage low high) (nodes_of parts) → AllByRecursion (λ part. P part.node) parts → AllByRecursion (Behind low high) (nodes_of parts)
  nodes-behind low high [] a b = tt
  nodes-behind low high (part ∷ parts) a b = ((a.0, b.0), nodes-behind low high parts a.1 b.1)

  have-varying : (Good : Part → Type 0) (parts : List Part) → AllByRecursion Good parts → AllByRecursion Good (varying_parts parts)
  have-varying Good [] h = tt
  have-varying Good (part ∷ parts) h = by (not (same_node Always part.node || same_node Never part.node)) (have-varying Good parts h.1)
    where
      by : (b : Bool) → AllByRecursion Good (varying_parts parts) → AllByRecursion Good (cond b (part ∷ varying_parts parts) (varying_parts parts))
      by true rest = (h.0, rest)
      by false rest = rest

  length-varying : (parts : List Part) → length (varying_parts parts) ≤ length parts
  length-varying [] = omega arith
  length-varying (part ∷ parts) = by (not (same_node Always part.node || same_node Never part.node)) (length-varying parts)
    where
      by : (b : Bool) → length (varying_parts parts) ≤ length parts → length (cond b (part ∷ varying_parts parts) (varying_parts parts)) ≤ length (part ∷ parts)
      by true h = omega arith
      by false h = omega arith

  -- a node that was seen is no gate of the places that follow
  seen-before : (low : ℕ) (seen : List Node) (node : Node) → AllByRecursion (Before stage low) seen → has_node seen node ≡ true → Before stage low node
  seen-before low [] node h e = absurd (false≢true e)
  seen-before low (s ∷ seen) node h e = by (same_node node s) refl e (seen-before low seen node h.1)
    where
      by : (b : Bool) → same_node node s ≡ b → b || has_node seen node ≡ true → (has_node seen node ≡ true → Before stage low node) → Before stage low node
      by true is found rest = λ p l same. h.0 p l (sym (node_exact node s is) ∙ same)
      by false is found rest = rest found

  later : (low mid : ℕ) → low ≤ mid → (seen : List Node) → AllByRecursion (Before stage low) seen → AllByRecursion (Before stage mid) seen
  later low mid l seen = all-map (Before stage low) (Before stage mid) (λ s f p h. f p (omega arith)) seen

  -- what is known of the gates of repeated inputs: they stand in the range, at different places, and apart from the gates so far
  record RepeatsPlaced (low high : ℕ) (lines more : List Line) : Type 0 where
    placed : AllByRecursion (IsPlaced low high) more
    once : PlacesOnce more
    apart : Apart lines more

  apart-none : (lines : List Line) → Apart lines []
  apart-none [] = tt
  apart-none (x ∷ xs) = (tt, apart-none xs)

  apart-more : (lines : List Line) (y : Line) (ys : List Line) → AllByRecursion (λ x. x.key.place ≢ y.key.place) lines → Apart lines ys → Apart lines (y ∷ ys)
  apart-more [] y ys a b = tt
  apart-more (x ∷ xs) y ys a b = ((a.0, b.0), apart-more xs y ys a.1 b.1)

  -- the gate that stands for a repeated input
  abbrev repeat_line : Part → Line
  repeat_line part = record { key = key_at stage part.place; kind = kinds.Or; inputs = part.node ∷ [] }

  repeats-placed : (low high : ℕ) (lines : List Line) (seen : List Node) (parts : List Part) → AllByRecursion (Before stage low) seen → PartsFrom stage low high parts → AllByRecursion (λ part. P part.node) parts
      → AllByRecursion (λ part. AllByRecursion (IsOwn part.place part.node) lines) parts → RepeatsPlaced low high lines (repeats stage seen parts)
  repeats-placed low high lines seen [] before from have owned = record { placed = tt; once = tt; apart = apart-none lines }
  repeats-placed low high lines seen (part ∷ parts) before from have owned =
      by (has_node seen part.node) refl
      (repeats-placed mid high lines seen parts (later low mid up seen before) from.1.1.2 have.1 owned.1)
      (repeats-placed mid high lines (seen ++ part.node ∷ []) parts
      (all-append (Before stage mid) seen (part.node ∷ []) (later low mid up seen before) ((λ p l e. let r = from.1.1.1 p e in omega (arith, r.1)), tt))
      from.1.1.2 have.1 owned.1)
    where
      mid : ℕ
      mid = from.1.0

      up : low ≤ from.1.0
      up = omega (arith, from.0, from.1.1.0)

      far : from.1.0 ≤ high
      far = parts-below stage from.1.0 high parts from.1.1.2

      -- the repeated node is no gate of this stage
      none : has_node seen part.node ≡ true → (p : ℕ) → part.node ≡ Gate (key_at stage p) → ⊥
      none is p e = let r = from.1.1.1 p e in seen-before low seen part.node before is p (omega (arith, r.0, from.0)) e

      by : (b : Bool) → has_node seen part.node ≡ b → RepeatsPlaced from.1.0 high lines (repeats stage seen parts) → RepeatsPlaced from.1.0 high lines (repeats stage (seen ++ part.node ∷ []) parts)
          → RepeatsPlaced low high lines (cond b (repeat_line part ∷ []) [] ++ repeats stage (cond b seen (seen ++ part.node ∷ [])) parts)
      by true is same more =
          record {
            placed = (
              record {
                key_is = refl;
                low_is = from.0;
                high_is = omega (arith, far, from.1.1.0);
                inputs = (((λ p e. absurd (none is p e)), have.0), tt);
                few = omega (arith, far, from.1.1.0);
                count = omega arith;
              },
              all-wider from.1.0 high low high up (omega arith) _ same.placed,
            );
            once = (all-map (IsPlaced from.1.0 high) (λ other. part.place ≢ other.key.place) (λ other there e. omega (arith, there.low_is, from.1.1.0)) _ same.placed, same.once);
            apart = apart-more lines (repeat_line part) _ (all-map (IsOwn part.place part.node) (λ x. x.key.place ≢ part.place) (λ x is_own e. none is part.place (is_own e)) lines owned.0) same.apart;
          }
      by false is same more = record { placed = all-wider from.1.0 high low high up (omega arith) _ more.placed; once = more.once; apart = more.apart }

  wrapped-behind : (low high : ℕ) (seen : List Node) (parts : List Part) → PartsFrom stage low high parts → AllByRecursion (λ part. P part.node) parts → AllByRecursion (Behind low high) (wrapped stage seen parts)
  wrapped-behind low high seen [] from have = tt
  wrapped-behind low high seen (part ∷ parts) from have = (
    by (has_node seen part.node),
    all-map (Behind from.1.0 high) (Behind low high) (λ node b. behind-wider from.1.0 high low high node (omega (arith, from.0, from.1.1.0)) (omega arith) b) _ (wrapped-behind from.1.0 high (with_seen seen part.node) parts from.1.1.2 have.1),
  )
    where
      far : from.1.0 ≤ high
      far = parts-below stage from.1.0 high parts from.1.1.2

      by : (b : Bool) → Behind low high (cond b (Gate (key_at stage part.place)) part.node)
      by true = ((λ p e. let same = place-same stage part.place p e in (omega (arith, from.0), omega (arith, from.1.1.0, far))), own part.place)
      by false = behind-wider part.place from.1.0 low high part.node from.0 far (from.1.1.1, have.0)

  -- the gates that a rule makes at a place, behind those of the parts
  record MadeAt (all : Parts) (start count : ℕ) (join : Join) (made : List Line) : Type 0 where
    lines : AllByRecursion (IsPlaced start all.next) made
    once : PlacesOnce made
    apart : Apart all.lines made
    owned : AllByRecursion (IsOwn start (node_at stage start join)) made

  abbrev Fit : Parts → ℕ → Join → Type 0
  Fit all start join = Shaped (Behind (start + 1) all.next) (length all.parts) join

  none-made : (all : Parts) (start count : ℕ) (join : Join) → MadeAt all start count join []
  none-made all start count join = record { lines = tt; once = tt; apart = apart-none all.lines; owned = tt }

  -- gates from behind a place stand apart from one at it
  apart-start : (start high : ℕ) (lines : List Line) → AllByRecursion (IsPlaced (start + 1) high) lines → (line : Line) → line.key.place ≡ start → Apart lines (line ∷ [])
  apart-start start high [] h line at = tt
  apart-start start high (x ∷ xs) h line at = ((((λ (e : x.key.place ≡ line.key.place). omega (arith, h.0.low_is)), tt)), apart-start start high xs h.1 line at)

  -- a gate at the place of the formula itself
  own-made : (all : Parts) (start count : ℕ) → PartsPlaced all (start + 1) count → (kind : GateKind) (inputs : List Node) → AllByRecursion (Behind (start + 1) all.next) inputs → length inputs ≤ length all.parts → MayHave kind (length inputs)
      → (join : Join) → node_at stage start join ≡ Gate (key_at stage start) → MadeAt all start count join (record { key = key_at stage start; kind = kind; inputs = inputs } ∷ [])
  own-made all start count parts kind inputs behind few may join is =
      record {
        lines = (
          record {
            key_is = refl;
            low_is = omega arith;
            high_is = omega (arith, parts.many);
            inputs = behind;
            few = omega (arith, parts.many);
            count = may;
          },
          tt,
        );
        once = (tt, tt);
        apart = apart-start start all.next all.lines parts.lines (record { key = key_at stage start; kind = kind; inputs = inputs }) refl;
        owned = ((λ e. is), tt);
      }

  line-made : (all : Parts) (start count : ℕ) → PartsPlaced all (start + 1) count → (join : Join) → Fit all start join → MadeAt all start count join (line_at stage start join)
  line-made all start count parts (Plain node) fit = none-made all start count (Plain node)
  line-made all start count parts (Made kind inputs) fit = own-made all start count parts kind inputs fit.0 fit.1 fit.2 (Made kind inputs) refl

  counted-made : (all : Parts) (start count k : ℕ) → PartsPlaced all (start + 1) count → (join : Join) → least_of k (nodes_of all.parts) ≡ join → Fit all start join → MadeAt all start count join (counted_lines stage start all.parts join)
  counted-made all start count k parts (Plain node) e fit = none-made all start count (Plain node)
  counted-made all start count k parts (Made kinds.And inputs) e fit = line-made all start count parts (Made kinds.And inputs) fit
  counted-made all start count k parts (Made kinds.Or inputs) e fit = line-made all start count parts (Made kinds.Or inputs) fit
  counted-made all start count k parts (Made (kinds.AtLeast j) inputs) e fit =
      record {
        lines = all-append (IsPlaced start all.next) (repeats stage [] (varying_parts all.parts)) _ (all-wider (start + 1) all.next start all.next (omega arith) (omega arith) _ some.placed) last.lines;
        once = once-append (repeats stage [] (varying_parts all.parts)) _ some.once last.once (apart-start start all.next _ some.placed (record { key = key_at stage start; kind = kinds.AtLeast j; inputs = wrapped stage [] (varying_parts all.parts) }) refl);
        apart = apart-append all.lines (repeats stage [] (varying_parts all.parts)) _ some.apart last.apart;
        owned = all-append (IsOwn start (Gate (key_at stage start))) (repeats stage [] (varying_parts all.parts)) _
            (all-map (IsPlaced (start + 1) all.next) (IsOwn start (Gate (key_at stage start))) (λ x there e. refl) _ some.placed) last.owned;
      } where
        from : PartsFrom stage (start + 1) all.next (varying_parts all.parts)
        from = varying-from stage (start + 1) all.next all.parts parts.parts

        have : AllByRecursion (λ part. P part.node) (varying_parts all.parts)
        have = have-varying (λ part. P part.node) all.parts parts.have

        some : RepeatsPlaced (start + 1) all.next all.lines (repeats stage [] (varying_parts all.parts))
        some = repeats-placed (start + 1) all.next all.lines [] (varying_parts all.parts) tt from have (have-varying (λ part. AllByRecursion (IsOwn part.place part.node) all.lines) all.parts parts.owned)

        long : length (wrapped stage [] (varying_parts all.parts)) ≡ length inputs
        long =
            length-wrapped stage [] (varying_parts all.parts)
            ∙ sym (length-map (varying_parts all.parts) (λ (part : Part). part.node))
            ∙ ap length (nodes-varying all.parts ∙ sym (counted-inputs (k - always_in (nodes_of all.parts)) (varying (nodes_of all.parts)) inputs j e))

        last : MadeAt all start count (Made (kinds.AtLeast j) inputs) (record { key = key_at stage start; kind = kinds.AtLeast j; inputs = wrapped stage [] (varying_parts all.parts) } ∷ [])
        last =
            own-made all start count parts (kinds.AtLeast j) (wrapped stage [] (varying_parts all.parts)) (wrapped-behind (start + 1) all.next [] (varying_parts all.parts) from have)
            (omega (arith, long, fit.1)) (omega (arith, fit.2.0), omega (arith, long, fit.2.1)) (Made (kinds.AtLeast j) inputs) refl

        apart-append : (xs ys zs : List Line) → Apart xs ys → Apart xs zs → Apart xs (ys ++ zs)
        apart-append [] ys zs a b = tt
        apart-append (x ∷ xs) ys zs a b = (all-append (λ y. x.key.place ≢ y.key.place) ys zs a.0 b.0, apart-append xs ys zs a.1 b.1)

  module _ (always : P Always) (never : P Never) (look : ℕ → Node) (foreign : (n p : ℕ) → look n ≡ Gate (key_at stage p) → ⊥) (looked : (n : ℕ) → P (look n)) (facts events : ℕ) (basic : (n : ℕ) → n < events → P (Basic n)) where
    abbrev PlacedFrom : (ℕ → Walked) → Bool → ℕ → Type 0
    PlacedFrom walked ranged count = ranged ≡ true → (start : ℕ) → Placed (walked start) start count

    abbrev PlacedFormula : Formula → Type 0
    PlacedFormula f = PlacedFrom (walk stage look f) (in_range facts events f) (places f)

    abbrev FormulaPart : Type 0
    FormulaPart = (f : Formula) × PlacedFormula f

    abbrev formulas : List FormulaPart → List Formula
    formulas ps = map (λ p. p.0) ps

    abbrev all_parts : List FormulaPart → ℕ → Parts
    all_parts ps start = parts_of (map (walk stage look) (formulas ps)) start

    abbrev count_of : List FormulaPart → ℕ
    count_of ps = total (map places (formulas ps))

    parts-placed : (ps : List FormulaPart) → list_all (λ b. b) (map (in_range facts events) (formulas ps)) ≡ true → (start : ℕ) → PartsPlaced (all_parts ps start) start (count_of ps)
    parts-placed [] ranged start = record { next = omega arith; parts = omega arith; have = tt; many = omega arith; lines = tt; once = tt; owned = tt }
    parts-placed (p ∷ ps) ranged start =
        let both = and_parts (in_range facts events p.0) _ ranged in
        let one = p.1 both.0 start in
        let mid = (walk stage look p.0 start).next in
        let rest = parts-placed ps both.1 mid in
        let first = (walk stage look p.0 start).lines in
        let next = (all_parts ps mid).next in
        let far : mid ≤ next = parts-below stage mid next (all_parts ps mid).parts rest.parts in
        let low : start < mid = omega (arith, one.next, one.some) in
        record {
          next = omega (arith, one.next, rest.next);
          parts = (omega arith, (mid, (low, one.node.0, rest.parts)));
          have = (one.node.1, rest.have);
          many = omega (arith, rest.many);
          lines = all-append (IsPlaced start next) first _ (all-wider start mid start next (omega arith) far first one.lines) (all-wider mid next start next (omega arith) (omega arith) _ rest.lines);
          once = once-append first _ one.once rest.once (ranges-apart start mid next first _ one.lines rest.lines);
          owned = (
            all-append (IsOwn start (walk stage look p.0 start).node) first _ one.owned
                (all-map (IsPlaced mid next) (IsOwn start (walk stage look p.0 start).node) (λ x there e. absurd (omega (arith, there.low_is))) _ rest.lines),
            all-map (λ part. (mid ≤ part.place) × AllByRecursion (IsOwn part.place part.node) (all_parts ps mid).lines) (λ part. AllByRecursion (IsOwn part.place part.node) (first ++ (all_parts ps mid).lines))
                (λ part both. all-append (IsOwn part.place part.node) first _ (all-map (IsPlaced start mid) (IsOwn part.place part.node) (λ x there e. absurd (omega (arith, there.high_is, both.0))) first one.lines) both.1)
                (all_parts ps mid).parts (all-both _ _ (all_parts ps mid).parts (parts-above mid next (all_parts ps mid).parts rest.parts) rest.owned),
          );
        }

    -- a gate or a node at a place, behind its parts
    settled : (all : Parts) (start count : ℕ) (join : Join) (made : List Line) → PartsPlaced all (start + 1) count → Fit all start join → MadeAt all start count join made
        → Placed (record { node = node_at stage start join; next = all.next; lines = all.lines ++ made }) start (count + 1)
    settled all start count join made parts fit here =
        record {
          some = omega arith;
          next = omega (arith, parts.next);
          node = node join fit;
          lines = all-append (IsPlaced start all.next) all.lines made (all-wider (start + 1) all.next start all.next (omega arith) (omega arith) all.lines parts.lines) here.lines;
          once = once-append all.lines made parts.once here.once here.apart;
          owned = all-append (IsOwn start (node_at stage start join)) all.lines made
              (all-map (IsPlaced (start + 1) all.next) (IsOwn start (node_at stage start join)) (λ x there e. absurd (omega (arith, there.low_is))) all.lines parts.lines) here.owned;
        } where
          node : (j : Join) → Fit all start j → Behind start all.next (node_at stage start j)
          node (Plain n) f = behind-wider (start + 1) all.next start all.next n (omega arith) (omega arith) f
          node (Made kind inputs) f = ((λ p e. let same = place-same stage start p e in (omega arith, omega (arith, parts.many))), own start)

    leaf : (n : Node) (start : ℕ) → ((p : ℕ) → n ≡ Gate (key_at stage p) → ⊥) → P n → Placed (record { node = n; next = start + 1; lines = [] }) start 1
    leaf n start none has = record { some = omega arith; next = refl; node = ((λ p e. absurd (none p e)), has); lines = tt; once = tt; owned = tt }

    abbrev Layer : Formula-F Formula → Type 0
    Layer x = PlacedFrom (walk_step stage look (map-Formula Formula (ℕ → Walked) (walk stage look) x)) (in_range_step facts events (map-Formula Formula Bool (in_range facts events) x)) (places_step (map-Formula Formula ℕ places x))

    fits-all : (ps : List FormulaPart) (start : ℕ) → PartsPlaced (all_parts ps (start + 1)) (start + 1) (count_of ps) → AllByRecursion (Behind (start + 1) (all_parts ps (start + 1)).next) (nodes_of (all_parts ps (start + 1)).parts)
    fits-all ps start parts = let all = all_parts ps (start + 1) in nodes-behind (start + 1) all.next all.parts (parts-nodes stage (start + 1) all.next all.parts parts.parts) parts.have

    many-nodes : (parts : List Part) → length (nodes_of parts) ≤ length parts
    many-nodes parts = omega (arith, length-map parts (λ (part : Part). part.node))

    layer : (y : Formula-F FormulaPart) → Layer (map-Formula FormulaPart Formula (λ p. p.0) y)
    layer True ranged start = leaf Always start (λ p e. cc) always
    layer (Event n) ranged start = leaf (Basic n) start (λ p e. cc) (basic n (ltb-true _ _ ranged))
    layer (Fact n) ranged start = leaf (look n) start (foreign n) (looked n)
    layer (And ps) ranged start =
        let parts = parts-placed ps ranged (start + 1) in
        let all = all_parts ps (start + 1) in
        let fit = all_of-shaped (Behind (start + 1) all.next) (length all.parts) ((λ p e. cc), always) ((λ p e. cc), never) (nodes_of all.parts) (fits-all ps start parts) (many-nodes all.parts) in
        settled all start (count_of ps) (all_of (nodes_of all.parts)) _ parts fit (line-made all start (count_of ps) parts (all_of (nodes_of all.parts)) fit)
    layer (Or ps) ranged start =
        let parts = parts-placed ps ranged (start + 1) in
        let all = all_parts ps (start + 1) in
        let fit = any_of-shaped (Behind (start + 1) all.next) (length all.parts) ((λ p e. cc), always) ((λ p e. cc), never) (nodes_of all.parts) (fits-all ps start parts) (many-nodes all.parts) in
        settled all start (count_of ps) (any_of (nodes_of all.parts)) _ parts fit (line-made all start (count_of ps) parts (any_of (nodes_of all.parts)) fit)
    layer (AtLeast k ps) ranged start =
        let parts = parts-placed ps ranged (start + 1) in
        let all = all_parts ps (start + 1) in
        let fit = least_of-shaped (Behind (start + 1) all.next) (length all.parts) ((λ p e. cc), always) ((λ p e. cc), never) k (nodes_of all.parts) (fits-all ps start parts) (many-nodes all.parts) in
        settled all start (count_of ps) (least_of k (nodes_of all.parts)) _ parts fit (counted-made all start (count_of ps) k parts (least_of k (nodes_of all.parts)) refl fit)

    rolled : (x : Formula-F Formula) → Layer x → PlacedFormula (roll-Formula x)
    rolled x placed =
        subst (λ (walked : ℕ → Walked). PlacedFrom walked (in_range facts events (roll-Formula x)) (places (roll-Formula x))) (sym (fold-roll-Formula (ℕ → Walked) (walk_step stage look) x))
        (subst (λ (ranged : Bool). PlacedFrom (walk_step stage look (map-Formula Formula (ℕ → Walked) (walk stage look) x)) ranged (places (roll-Formula x))) (sym (fold-roll-Formula Bool (in_range_step facts events) x))
        (subst (PlacedFrom (walk_step stage look (map-Formula Formula (ℕ → Walked) (walk stage look) x)) (in_range_step facts events (map-Formula Formula Bool (in_range facts events) x))) (sym (fold-roll-Formula ℕ places_step x)) placed))

    -- the gates of a walk stand at its places, no two at one, and their inputs are of those behind or were there
    pub walk-placed : (f : Formula) → in_range facts events f ≡ true → (start : ℕ) → Placed (walk stage look f start) start (places f)
    walk-placed = ind-Formula PlacedFormula (λ x y is. rolled x (subst Layer is (layer y)))
