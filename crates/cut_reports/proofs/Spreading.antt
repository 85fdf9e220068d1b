-- Weights of the positions of a store, which are passed on from each node to its children.
use Rattle.std.proofs.Common.{◌≡◌, ℕ, zero, suc, ◌+◌, ◌*◌, ◌-◌, ◌<◌, ◌≤◌, ◌⊎◌, Bool, true, false, cond, List, [], ◌∷◌, ◌++◌, length, length-append, map, filter, Option, None, Some, IfSome, inl, inr, refl, sym, ap, subst, ◌∙◌, arith, add-one}
use Rattle.std.specs.Prelude.{◌==◌, ◌||◌, replicate, slice_get, slice_index_or, if◌then◌else◌}
use Rattle.std.specs.List.{count_by}
use Rattle.std.proofs.lemmas.Bool.{cases_lt, eqb-true, eq-eqb}
use Rattle.std.proofs.lemmas.Option.{get_or_from_slice_get, slice_get_past}
use Rattle.std.proofs.lemmas.List.{get_or-replicate, get_or_append_left, get_or-append-add, length-replicate}
use Rattle.std.proofs.lemmas.List.Sums.{length-filter}
use Rattle.std.proofs.lemmas.List.Elements.{filter-append}
use Rattle.std.proofs.Math.Nat.{add-mul, mul-add, mul_comm, le-mul_of_pos_right, mul-zero, one-mul, zero-mul}
use Rattle.zdd_store.specs.inner.Family.{Family, branch, least_number, least_of}
use Rattle.zdd_store.specs.inner.Answers.{sets_of}
use Rattle.zdd_store.specs.inner.Store.{Families, Fits, IsIn, IsSound, Keeps, family_at, family_of, family_with}
use Rattle.zdd_store.specs.declared.id.Id.{Id}
use Rattle.zdd_store.specs.declared.id.Node.{Node}
use Rattle.fta_outside.specs.Counts.{AreCounts, capped, count_of, has_event, has_size}
use Rattle.cut_reports.specs.inner.Counts.{AddedAt}
use Rattle.cut_reports.specs.inner.Diagram.{AreBelow, IsSpread, PassedOn, count_with, sum_below, weighed}

-- ---- counts that are kept

capped-first : (a b : ℕ) → capped (capped a + b) ≡ capped (a + b)
capped-first a b = omega arith

capped-last : (a b : ℕ) → capped (a + capped b) ≡ capped (a + b)
capped-last a b = omega arith

full : (a b : ℕ) → 18446744073709551615 < a → 0 < b → capped (18446744073709551615 * b) ≡ capped (a * b)
full a b more some =
    let low : 18446744073709551615 ≤ 18446744073709551615 * b = le-mul_of_pos_right 18446744073709551615 some in
    let high : a ≤ a * b = le-mul_of_pos_right a some in
    omega arith

-- a product of a count that is kept is kept as that of the count itself
times-kept : (a b c : ℕ) → capped (c + capped a * b) ≡ capped (c + a * b)
times-kept a b c = by (cases_lt 18446744073709551615 a) (cases_lt 0 b)
  where
    by : (18446744073709551615 < a) ⊎ (a ≤ 18446744073709551615) → (0 < b) ⊎ (b ≤ 0) → capped (c + capped a * b) ≡ capped (c + a * b)
    by (inr few) some = let is : capped a ≡ a = omega arith in ap (λ n. capped (c + n * b)) is
    by (inl more) (inl some) =
        let is : capped a ≡ 18446744073709551615 = omega arith in
        ap (λ n. capped (c + n * b)) is ∙ sym (capped-last c (18446744073709551615 * b)) ∙ ap (λ n. capped (c + n)) (full a b more some) ∙ capped-last c (a * b)
    by (inl more) (inr none) =
        let is : b ≡ 0 = omega arith in
        ap (λ n. capped (c + capped a * n)) is ∙ ap (λ n. capped (c + n)) (mul-zero (capped a) ∙ sym (mul-zero a)) ∙ sym (ap (λ n. capped (c + a * n)) is)

times-kept-right : (a b c : ℕ) → capped (c + a * capped b) ≡ capped (c + a * b)
times-kept-right a b c = ap (λ n. capped (c + n)) (mul_comm a (capped b)) ∙ times-kept b a c ∙ ap (λ n. capped (c + n)) (mul_comm b a)

-- ---- sums

sum-same : (f g : ℕ → ℕ) (n : ℕ) → ((i : ℕ) → i < n → f i ≡ g i) → sum_below f n ≡ sum_below g n
unfolding sum_below
sum-same f g zero same = refl
sum-same f g (suc n) same =
    let front : sum_below f n ≡ sum_below g n = sum-same f g n (λ i h. same i (omega arith)) in
    let last : f n ≡ g n = same n (omega arith) in
    omega arith

-- sums that differ at one place
sum-one : (f g : ℕ → ℕ) (n place : ℕ) → place < n → ((i : ℕ) → (i == place) ≡ false → f i ≡ g i) → sum_below f n + g place ≡ sum_below g n + f place
unfolding sum_below
sum-one f g zero place h same = absurd (omega arith)
sum-one f g (suc n) place h same = by (cases_lt place n) (λ before. sum-one f g n place before same)
  where
    apart : (i : ℕ) (b : Bool) → (i == place) ≡ b → i < n → n ≤ place → f i ≡ g i
    apart i true e less from = let is : i ≡ place = eqb-true i place e in absurd (omega arith)
    apart i false e less from = same i e

    last : (b : Bool) → (n == place) ≡ b → place < n → f n ≡ g n
    last true e less = let is : n ≡ place = eqb-true n place e in absurd (omega arith)
    last false e less = same n e

    by : (place < n) ⊎ (n ≤ place) → (place < n → sum_below f n + g place ≡ sum_below g n + f place) → (sum_below f n + f n) + g place ≡ (sum_below g n + g n) + f place
    by (inl before) front = let one : sum_below f n + g place ≡ sum_below g n + f place = front before in let other : f n ≡ g n = last (n == place) refl before in omega arith
    by (inr from) front =
        let one : sum_below f n ≡ sum_below g n = sum-same f g n (λ i less. apart i (i == place) refl less from) in
        let is : place ≡ n = omega arith in
        let a : f place ≡ f n = ap f is in
        let b : g place ≡ g n = ap g is in
        omega arith

sum-in : (f : ℕ → ℕ) (n place : ℕ) → place < n → f place ≤ sum_below f n
unfolding sum_below
sum-in f zero place h = absurd (omega arith)
sum-in f (suc n) place h = by (cases_lt place n) (λ before. sum-in f n place before)
  where
    by : (place < n) ⊎ (n ≤ place) → (place < n → f place ≤ sum_below f n) → f place ≤ sum_below f n + f n
    by (inl before) front = let less : f place ≤ sum_below f n = front before in omega arith
    by (inr from) front = let is : place ≡ n = omega arith in let a : f place ≡ f n = ap f is in omega arith

sum-none : (f : ℕ → ℕ) (n : ℕ) → ((i : ℕ) → i < n → f i ≡ 0) → sum_below f n ≡ 0
unfolding sum_below
sum-none f zero none = refl
sum-none f (suc n) none =
    let front : sum_below f n ≡ 0 = sum-none f n (λ i h. none i (omega arith)) in
    let last : f n ≡ 0 = none n (omega arith) in
    omega arith

-- a weight that was raised
raised : (r x w v old new : ℕ) → x * v ≤ old → new + x * v ≡ old + capped (x + w) * v → capped (r + new) ≡ capped (r + (old + w * v))
raised r x w v old new within is =
    let rest : ℕ = old - x * v in
    let same : r + new ≡ (r + rest) + capped (x + w) * v = omega (arith, within, is) in
    let parts : (x + w) * v ≡ x * v + w * v = add-mul x w v in
    let whole : (r + rest) + (x + w) * v ≡ r + (old + w * v) = omega (arith, within, parts) in
    ap capped same ∙ times-kept (x + w) v (r + rest) ∙ ap capped whole

-- what is still to be counted, where the weight of a position was raised
weighed-added : (store : Families) (before after : List ℕ) (place more event position r : ℕ) → place < position → AddedAt place more before after
    → capped (r + weighed store after event position) ≡ capped (r + (weighed store before event position + more * count_with store event place))
weighed-added store before after place more event position r h added =
    let f : ℕ → ℕ = λ i. slice_index_or after i 0 * count_with store event i in
    let g : ℕ → ℕ = λ i. slice_index_or before i 0 * count_with store event i in
    let old : ℕ = slice_index_or before place 0 in
    let v : ℕ = count_with store event place in
    let here : slice_index_or after place 0 ≡ capped (old + more) = added place ∙ ap (λ b. if b then capped (old + more) else old) (eq-eqb place place refl) in
    let sums : sum_below f position + old * v ≡ sum_below g position + slice_index_or after place 0 * v =
    sum-one f g position place h (λ i e. ap (λ n. n * count_with store event i) (added i ∙ ap (λ b. if b then capped (slice_index_or before i 0 + more) else slice_index_or before i 0) e)) in
    raised r old more v (sum_below g position) (sum_below f position) (sum-in g position place h) (sums ∙ ap (λ n. sum_below g position + n * v) here)

-- ---- what the sets of a node have

with-var : (event var : ℕ) (family : Family) → (event == var) ≡ true → length (filter (has_event event) (map (λ set. var ∷ set) family)) ≡ length family
with-var event var [] e = refl
with-var event var (set ∷ sets) e =
    ap (λ b. length (cond (b || has_event event set) ((var ∷ set) ∷ filter (has_event event) (map (λ s. var ∷ s) sets)) (filter (has_event event) (map (λ s. var ∷ s) sets)))) e
    ∙ ap suc (with-var event var sets e)

without-var : (event var : ℕ) (family : Family) → (event == var) ≡ false → length (filter (has_event event) (map (λ set. var ∷ set) family)) ≡ length (filter (has_event event) family)
without-var event var [] e = refl
without-var event var (set ∷ sets) e =
    ap (λ b. length (cond (b || has_event event set) ((var ∷ set) ∷ filter (has_event event) (map (λ s. var ∷ s) sets)) (filter (has_event event) (map (λ s. var ∷ s) sets)))) e
    ∙ by (has_event event set) (without-var event var sets e)
  where
    by : (b : Bool) → length (filter (has_event event) (map (λ s. var ∷ s) sets)) ≡ length (filter (has_event event) sets)
        → length (cond b ((var ∷ set) ∷ filter (has_event event) (map (λ s. var ∷ s) sets)) (filter (has_event event) (map (λ s. var ∷ s) sets))) ≡ length (cond b (set ∷ filter (has_event event) sets) (filter (has_event event) sets))
    by true rest = ap suc rest
    by false rest = rest

no-event : (event : ℕ) (set : List ℕ) → event < least_of set → has_event event set ≡ false
unfolding least_of
no-event event [] h = refl
no-event event (n ∷ ns) h = by (event == n) refl (no-event event ns (omega arith))
  where
    by : (b : Bool) → (event == n) ≡ b → has_event event ns ≡ false → (b || has_event event ns) ≡ false
    by true e rest = let is : event ≡ n = eqb-true event n e in absurd (omega arith)
    by false e rest = rest

none-with : (event : ℕ) (family : Family) → event < least_number family → length (filter (has_event event) family) ≡ 0
unfolding least_number
none-with event [] h = refl
none-with event (set ∷ sets) h =
    ap (λ b. length (cond b (set ∷ filter (has_event event) sets) (filter (has_event event) sets))) (no-event event set (omega arith)) ∙ none-with event sets (omega arith)

-- the sets of a node that have an event
branch-parts : (event var : ℕ) (lo hi : Family) → count_by (has_event event) (branch var lo hi) ≡ length (filter (has_event event) (map (λ set. var ∷ set) hi)) + count_by (has_event event) lo
unfolding branch
branch-parts event var lo hi =
    let test = has_event event in
    sym (length-filter test (map (λ set. var ∷ set) hi ++ lo)) ∙ ap length (filter-append test (map (λ set. var ∷ set) hi) lo)
    ∙ length-append (filter test (map (λ set. var ∷ set) hi)) (filter test lo) ∙ ap (λ n. length (filter test (map (λ set. var ∷ set) hi)) + n) (length-filter test lo)

branch-its : (event var : ℕ) (lo hi : Family) → (event == var) ≡ true → count_by (has_event event) (branch var lo hi) ≡ length hi + count_by (has_event event) lo
branch-its event var lo hi e = branch-parts event var lo hi ∙ ap (λ n. n + count_by (has_event event) lo) (with-var event var hi e)

branch-other : (event var : ℕ) (lo hi : Family) → (event == var) ≡ false → count_by (has_event event) (branch var lo hi) ≡ count_by (has_event event) hi + count_by (has_event event) lo
branch-other event var lo hi e = branch-parts event var lo hi ∙ ap (λ n. n + count_by (has_event event) lo) (without-var event var hi e ∙ length-filter (has_event event) hi)

none-below : (event var : ℕ) (hi : Family) → (event == var) ≡ true → var < least_number hi → count_by (has_event event) hi ≡ 0
none-below event var hi e h = let is : event ≡ var = eqb-true event var e in sym (length-filter (has_event event) hi) ∙ none-with event hi (omega arith)

branch-length : (var : ℕ) (lo hi : Family) → length (branch var lo hi) ≡ length lo + length hi
unfolding branch
branch-length var lo hi = length-append (map (λ set. var ∷ set) hi) lo ∙ by (length-mapped hi)
  where
    length-mapped : (family : Family) → length (map (λ set. var ∷ set) family) ≡ length family
    length-mapped [] = refl
    length-mapped (set ∷ sets) = ap suc (length-mapped sets)

    by : length (map (λ set. var ∷ set) hi) ≡ length hi → length (map (λ set. var ∷ set) hi) + length lo ≡ length lo + length hi
    by same = omega arith

-- ---- the step

weighed-next : (store : Families) (weights : List ℕ) (event position : ℕ) → weighed store weights event (position + 1) ≡ weighed store weights event position + slice_index_or weights position 0 * count_with store event position
unfolding sum_below
weighed-next store weights event position = ap (λ n. sum_below (λ i. slice_index_or weights i 0 * count_with store event i) n) (add-one position)

-- the sum of what was passed on, for the node's own event
own-sum : (used used_after weight sets lo hi front before total : ℕ) → used_after ≡ capped (used + capped (weight * capped sets)) → hi ≡ 0
    → before ≡ front + weight * (sets + lo) → capped (used + before) ≡ total → capped (used_after + ((front + weight * lo) + weight * hi)) ≡ total
own-sum used used_after weight sets lo hi front before total is none whole was =
    let parts : weight * (sets + lo) ≡ weight * sets + weight * lo = mul-add weight sets lo in
    let nothing : weight * hi ≡ 0 = ap (λ n. weight * n) none ∙ mul-zero weight in
    let rest : ℕ = front + weight * lo in
    let one : used_after + ((front + weight * lo) + weight * hi) ≡ used_after + rest = omega (arith, nothing) in
    let two : (used + capped (weight * capped sets)) + rest ≡ (used + rest) + capped (weight * capped sets) = omega arith in
    let three : (used + rest) + weight * sets ≡ used + before = omega (arith, whole, parts) in
    ap capped one ∙ ap (λ n. capped (n + rest)) is ∙ capped-first (used + capped (weight * capped sets)) rest ∙ ap capped two
    ∙ capped-last (used + rest) (weight * capped sets) ∙ times-kept-right weight sets (used + rest) ∙ ap capped three ∙ was

other-sum : (used used_after weight lo hi front before total : ℕ) → used_after ≡ used
    → before ≡ front + weight * (hi + lo) → capped (used + before) ≡ total → capped (used_after + ((front + weight * lo) + weight * hi)) ≡ total
other-sum used used_after weight lo hi front before total is whole was =
    let parts : weight * (hi + lo) ≡ weight * hi + weight * lo = mul-add weight hi lo in
    let same : used_after + ((front + weight * lo) + weight * hi) ≡ used + before = omega (arith, is, whole, parts) in
    ap capped same ∙ was

step-sum : (b : Bool) (event var : ℕ) (lo hi : Family) (weight front used used_after child total : ℕ) → (event == var) ≡ b → var < least_number hi → child ≡ capped (length hi)
    → used_after ≡ (if b then capped (used + capped (weight * child)) else used) → capped (used + (front + weight * count_by (has_event event) (branch var lo hi))) ≡ total
    → capped (used_after + ((front + weight * count_by (has_event event) lo) + weight * count_by (has_event event) hi)) ≡ total
step-sum true event var lo hi weight front used used_after child total e greater count is was =
    own-sum used used_after weight (length hi) (count_by (has_event event) lo) (count_by (has_event event) hi) front (front + weight * count_by (has_event event) (branch var lo hi)) total
    (is ∙ ap (λ n. capped (used + capped (weight * n))) count) (none-below event var hi e greater) (ap (λ n. front + weight * n) (branch-its event var lo hi e)) was
step-sum false event var lo hi weight front used used_after child total e greater count is was =
    other-sum used used_after weight (count_by (has_event event) lo) (count_by (has_event event) hi) front (front + weight * count_by (has_event event) (branch var lo hi)) total
    is (ap (λ n. front + weight * n) (branch-other event var lo hi e)) was

kept-use : (b : Bool) (old more new : ℕ) → new ≡ (if b then capped (old + more) else old) → old ≤ 18446744073709551615 → new ≤ 18446744073709551615
kept-use true old more new is few = omega (arith, is)
kept-use false old more new is few = omega (arith, is, few)

-- what was passed on is still counted
pub spread_passed : (store : Families) (counts : List ℕ) (node : Node) (position : ℕ) (weights weights_after uses uses_after : List ℕ)
    → AreBelow store counts → node.hi.position < length counts → Fits store node → family_at store position ≡ family_with store node → length uses_after ≡ length uses
    → PassedOn counts node position weights weights_after uses uses_after → (root : ℕ) → IsSpread store root uses weights (position + 1) → IsSpread store root uses_after weights_after position
spread_passed store counts node position weights weights_after uses uses_after below inside fits is same passed root so event h =
    let weight : ℕ = slice_index_or weights position 0 in
    let lo : ℕ = count_with store event node.lo.position in
    let hi : ℕ = count_with store event node.hi.position in
    let front : ℕ = weighed store weights event position in
    let middle : ℕ = weighed store passed.between event position in
    let used : ℕ = slice_index_or uses event 0 in
    let used_after : ℕ = slice_index_or uses_after event 0 in
    let two : capped (used_after + weighed store weights_after event position) ≡ capped (used_after + (middle + weight * hi)) =
    weighed-added store passed.between weights_after node.hi.position weight event position used_after passed.hi_before passed.to_hi in
    let turn : used_after + (middle + weight * hi) ≡ (used_after + weight * hi) + middle = omega arith in
    let one : capped ((used_after + weight * hi) + middle) ≡ capped ((used_after + weight * hi) + (front + weight * lo)) =
    weighed-added store weights passed.between node.lo.position weight event position (used_after + weight * hi) passed.lo_before passed.to_lo in
    let back : (used_after + weight * hi) + (front + weight * lo) ≡ used_after + ((front + weight * lo) + weight * hi) = omega arith in
    let was : capped (used + (front + weight * count_by (has_event event) (family_with store node))) ≡ capped (count_with store event root) =
    ap (λ n. capped (used + n)) (sym (weighed-next store weights event position ∙ ap (λ (f : Family). front + weight * count_by (has_event event) f) is)) ∙ (so event (omega (arith, h, same))).1 in (
      kept-use (event == node.var) used (capped (weight * slice_index_or counts node.hi.position 0)) used_after (passed.to_event event) (so event (omega (arith, h, same))).0,
      two ∙ ap capped turn ∙ one ∙ ap capped back
          ∙ step-sum (event == node.var) event node.var (family_of store node.lo) (family_of store node.hi) weight front used used_after (slice_index_or counts node.hi.position 0) (capped (count_with store event root)) refl
          fits.hi_greater (below.each node.hi.position inside) (passed.to_event event) was,
    )

-- ---- the beginning and the end

-- a weight of none passes nothing on
pub spread_none : (store : Families) (position : ℕ) (weights uses : List ℕ) → slice_index_or weights position 0 ≡ 0 → (root : ℕ) → IsSpread store root uses weights (position + 1) → IsSpread store root uses weights position
spread_none store position weights uses none root so event h =
    let nothing : slice_index_or weights position 0 * count_with store event position ≡ 0 = ap (λ n. n * count_with store event position) none ∙ zero-mul (count_with store event position) in
    let next : weighed store weights event (position + 1) ≡ weighed store weights event position + slice_index_or weights position 0 * count_with store event position = weighed-next store weights event position in
    let same : slice_index_or uses event 0 + weighed store weights event position ≡ slice_index_or uses event 0 + weighed store weights event (position + 1) = omega (arith, nothing, next) in
    ((so event h).0, ap capped same ∙ (so event h).1)

-- before the first step the weight of the family is one, and all others none
pub spread_first : (store : Families) (root : ℕ) (weights uses : List ℕ) (most events : ℕ) → uses ≡ replicate events 0 → AddedAt root 1 (replicate most 0) weights → root < most → IsSpread store root uses weights most
spread_first store root weights uses most events none added h event k =
    let zeros : weighed store (replicate most 0) event most ≡ 0 = sum-none (λ i. slice_index_or (replicate most 0) i 0 * count_with store event i) most
    (λ i j. ap (λ n. n * count_with store event i) (get_or-replicate most i 0 0 j) ∙ zero-mul (count_with store event i)) in
    let used : slice_index_or uses event 0 ≡ 0 = ap (λ (l : List ℕ). slice_index_or l event 0) none ∙ get_or-replicate events event 0 0 (omega (arith, k, ap length none, length-replicate {A = ℕ} events 0)) in
    let one : 1 * count_with store event root ≡ count_with store event root = one-mul (count_with store event root) in
    let sum : slice_index_or uses event 0 + (weighed store (replicate most 0) event most + 1 * count_with store event root) ≡ count_with store event root = omega (arith, zeros, used, one) in
    (omega (arith, used), weighed-added store (replicate most 0) weights root 1 event most (slice_index_or uses event 0) h added ∙ ap capped sum)

-- behind the last step each event is counted
pub spread_last : (store : Families) (root end : ℕ) (weights uses : List ℕ) → IsSound store → end ≤ 2 → IsSpread store root uses weights end
    → AreCounts has_event uses (family_at store root)
spread_last store root end weights uses sound low so event h =
    let zero_none : count_with store event 0 ≡ 0 = ap (count_by (has_event event)) sound.empty in
    let one_none : count_with store event 1 ≡ 0 = ap (count_by (has_event event)) sound.unit in
    let rest : weighed store weights event end ≡ 0 = sum-none (λ i. slice_index_or weights i 0 * count_with store event i) end (λ i less. ends i (cases_lt 0 i) (omega (arith, less, low)) zero_none one_none) in
    let few : slice_index_or uses event 0 ≤ 18446744073709551615 = (so event h).0 in
    let whole : capped (slice_index_or uses event 0 + weighed store weights event end) ≡ capped (count_with store event root) = (so event h).1 in
    omega (arith, rest, few, whole)
  where
    ends : (i : ℕ) → (0 < i) ⊎ (i ≤ 0) → i < 2 → count_with store event 0 ≡ 0 → count_with store event 1 ≡ 0 → slice_index_or weights i 0 * count_with store event i ≡ 0
    ends i (inl some) less first second = let is : i ≡ 1 = omega arith in ap (λ n. slice_index_or weights i 0 * count_with store event n) is ∙ ap (λ n. slice_index_or weights i 0 * n) second ∙ mul-zero (slice_index_or weights i 0)
    ends i (inr none) less first second = let is : i ≡ 0 = omega arith in ap (λ n. slice_index_or weights i 0 * count_with store event n) is ∙ ap (λ n. slice_index_or weights i 0 * n) first ∙ mul-zero (slice_index_or weights i 0)

-- ---- counts of families

pub below_none : (store : Families) (counts : List ℕ) → counts ≡ [] → AreBelow store counts
below_none store counts none = record {
  each = λ i h. absurd (omega (arith, h, ap length none));
  inside = λ i h. absurd (omega (arith, h, ap length none));
}

pub below_next : (store : Families) (counts after : List ℕ) (count : ℕ) → AreBelow store counts → length counts < length store → count ≡ capped (length (family_at store (length counts)))
    → after ≡ counts ++ count ∷ [] → AreBelow store after
below_next store counts after count below h is more = record {
  each = λ i k. ap (λ (l : List ℕ). slice_index_or l i 0) more ∙ by i (cases_lt i (length counts)) (omega (arith, k, ap length more, length-append counts (count ∷ [])));
  inside = λ i k. omega (arith, k, h, ap length more, length-append counts (count ∷ []));
} where
  by : (i : ℕ) → (i < length counts) ⊎ (length counts ≤ i) → i < length counts + 1 → slice_index_or (counts ++ count ∷ []) i 0 ≡ capped (length (family_at store i))
  by i (inl less) k = get_or_append_left counts (count ∷ []) 0 i less ∙ below.each i less
  by i (inr from) k =
      let at : i ≡ length counts + 0 = omega arith in
      let last : i ≡ length counts = omega arith in
      ap (λ n. slice_index_or (counts ++ count ∷ []) n 0) at ∙ get_or-append-add counts (count ∷ []) 0 0 ∙ is ∙ ap (λ n. capped (length (family_at store n))) (sym last)

pub below_kept : (before after : Families) (counts : List ℕ) → Keeps before after → AreBelow before counts → AreBelow after counts
below_kept before after counts kept below = record {
  each = λ i h. below.each i h ∙ ap (λ (f : Family). capped (length f)) (sym (kept.same i (below.inside i h)));
  inside = λ i h. let less = below.inside i h in let more = kept.more in omega (arith, less, more);
}

-- the count of a node by those of its children
pub below_node : (store : Families) (counts : List ℕ) (node : Node) (lo hi count : ℕ) → AreBelow store counts → slice_get counts node.lo.position ≡ Some lo → slice_get counts node.hi.position ≡ Some hi
    → count ≡ capped (lo + hi) → count ≡ capped (length (family_with store node))
below_node store counts node lo hi count below a b is =
    let low : lo ≡ capped (length (family_of store node.lo)) = sym (get_or_from_slice_get counts node.lo.position lo 0 a) ∙ below.each node.lo.position (inside_of counts node.lo.position lo a) in
    let high : hi ≡ capped (length (family_of store node.hi)) = sym (get_or_from_slice_get counts node.hi.position hi 0 b) ∙ below.each node.hi.position (inside_of counts node.hi.position hi b) in
    let sum : length (family_with store node) ≡ length (family_of store node.lo) + length (family_of store node.hi) = branch-length node.var (family_of store node.lo) (family_of store node.hi) in
    omega (arith, is, low, high, sum)
  where
    inside_of : (counts : List ℕ) (place count : ℕ) → slice_get counts place ≡ Some count → place < length counts
    inside_of counts place count e = by (cases_lt place (length counts))
      where
        by : (place < length counts) ⊎ (length counts ≤ place) → place < length counts
        by (inl less) = less
        by (inr past) = absurd (cc (slice_get_past counts place past, e))

-- EMPTY has no set, and UNIT one
pub first_counts : (store : Families) (position : ℕ) → IsSound store → position < 2 → position ≡ capped (length (family_at store position))
first_counts store position sound h = by (cases_lt 0 position)
  where
    by : (0 < position) ⊎ (position ≤ 0) → position ≡ capped (length (family_at store position))
    by (inl some) = let is : position ≡ 1 = omega arith in is ∙ sym (ap (λ n. capped (length (family_at store n))) is ∙ ap (λ (f : Family). capped (length f)) sound.unit)
    by (inr none) = let is : position ≡ 0 = omega arith in is ∙ sym (ap (λ n. capped (length (family_at store n))) is ∙ ap (λ (f : Family). capped (length f)) sound.empty)

-- the count of the node at the next position
pub next_node : (store : Families) (counts : List ℕ) (node : Node) (id : Id) (result : Option ℕ) → family_of store id ≡ family_with store node → id.position ≡ length counts
    → IfSome result (λ count. count ≡ capped (length (family_with store node))) → IfSome result (λ count. count ≡ capped (length (family_at store (length counts))))
next_node store counts node id None is at count = tt
next_node store counts node id (Some n) is at count = count ∙ ap (λ (f : Family). capped (length f)) (sym is) ∙ ap (λ p. capped (length (family_at store p))) at

-- the sets of one size
pub part_count : (store : Families) (part : Id) (size : ℕ) (family : Family) → family_of store part ≡ sets_of size family → capped (length (family_of store part)) ≡ count_of (has_size size) family
unfolding sets_of
part_count store part size family is = ap (λ (f : Family). capped (length f)) is ∙ ap capped (length-filter (has_size size) family)

-- the sets of one size more
pub orders_next : (before middle : Families) (family : Id) (orders after : List ℕ) (size : ℕ) → IsIn before family → Keeps before middle → length orders ≡ size
    → AreCounts has_size orders (family_of before family) → after ≡ orders ++ count_of (has_size size) (family_of middle family) ∷ [] → AreCounts has_size after (family_of before family)
orders_next before middle family orders after size here kept count are more i h =
    ap (λ (l : List ℕ). slice_index_or l i 0) more ∙ by i (cases_lt i (length orders)) (omega (arith, h, ap length more, length-append orders (count_of (has_size size) (family_of middle family) ∷ [])))
  where
    by : (i : ℕ) → (i < length orders) ⊎ (length orders ≤ i) → i < length orders + 1 → slice_index_or (orders ++ count_of (has_size size) (family_of middle family) ∷ []) i 0 ≡ count_of (has_size i) (family_of before family)
    by i (inl less) k = get_or_append_left orders (count_of (has_size size) (family_of middle family) ∷ []) 0 i less ∙ are i less
    by i (inr from) k =
        let at : i ≡ length orders + 0 = omega arith in
        let last : size ≡ i = omega (arith, count, from, k) in
        ap (λ n. slice_index_or (orders ++ count_of (has_size size) (family_of middle family) ∷ []) n 0) at ∙ get_or-append-add orders (count_of (has_size size) (family_of middle family) ∷ []) 0 0
        ∙ ap (λ (f : Family). count_of (has_size size) f) (kept.same family.position here) ∙ ap (λ n. count_of (has_size n) (family_of before family)) last

-- the counts as they are lent
pub below_slice : (store : Families) (slice counts : List ℕ) → slice ≡ counts → AreBelow store counts → AreBelow store slice
below_slice store slice counts same below = subst (AreBelow store) (sym same) below
