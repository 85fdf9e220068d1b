-- A store to which a node is added: numbers keep their families, answers stay right, and it is a store again.
use Rattle.std.proofs.Common.{◌≡◌, ℕ, zero, suc, ◌+◌, ◌<◌, ◌≤◌, ◌⊎◌, Bool, true, false, if◌then◌else◌, ◌||◌, List, [], ◌∷◌, ◌++◌, length, fold, get_or, slice_get, Option, Some, Contains, refl, sym, ap, ◌∙◌, subst, inl, inr, arith, length-append}
use Rattle.std.proofs.Math.ListN.{get_or-append}
use Rattle.std.proofs.Math.Seq.{get_or-append_seam}
use Rattle.std.proofs.lemmas.List.Sums.{fold-append}
use Rattle.std.proofs.lemmas.Bool.{false≢true, cases_lt}
use Rattle.std.proofs.lemmas.Option.{slice_get_within, slice_get-get_or}
use Rattle.std.specs.List.{list_any, AllByRecursion}
use Rattle.zdd_store.specs.inner.Family.{Family, branch, least_number, IsRising, IsInOrder, HaveSameSets}
use Rattle.zdd_store.specs.inner.Store.{Families, family_at, family_with, no_nodes, Keeps, Fits, IsCanonical, IsSound}
use Rattle.zdd_store.specs.inner.Nodes.{with_node, families, IsNodeAt, IsStore}
use Rattle.zdd_store.specs.inner.Answers.{IsAnswer, IsAnswerOf, AreRight, KnowsRight, AnswersOne, AnswersTwo}
use Rattle.zdd_store.specs.declared.id.Node.{Node}
use Rattle.zdd_store.specs.declared.question.Operation.{Operation}
use Rattle.zdd_store.specs.declared.question.Operation.TheVariants.{Minimal, MinUnion, MinProduct, Without, UpToSize, OfSize, Union, Meet}
use Rattle.zdd_store.specs.declared.question.Question.{Question}
use Rattle.zdd_store.specs.declared.question.Known.{Known}
use Rattle.std.proofs.lemmas.List.Elements.{All-weaker}
use Rattle.zdd_store.proofs.Branches.{rising-branch, same_branch, branch-some, branch-not_unit}
use Rattle.zdd_store.proofs.Orders.{ordered-branch, equal_families, contains_none, contains_first}

-- one more family leaves the others as they are, and stands last
pub family_at-before : (store : Families) (family : Family) (position : ℕ) → position < length store → family_at (store ++ family ∷ []) position ≡ family_at store position
unfolding family_at
family_at-before store family position h = get_or-append store (family ∷ []) [] position h

pub family_at-last : (store : Families) (family : Family) → family_at (store ++ family ∷ []) (length store) ≡ family
unfolding family_at
family_at-last store family = get_or-append_seam store family [] []

pub Keeps-one_more : (store : Families) (family : Family) → Keeps store (store ++ family ∷ [])
Keeps-one_more store family = record { more = omega (arith, length-append store (family ∷ [])); same = family_at-before store family }

pub Keeps-same : (store : Families) → Keeps store store
Keeps-same store = record { more = omega arith; same = λ position h. refl }

-- how many numbers so many nodes make
length-fold : (store : Families) (nodes : List Node) → length (fold with_node store nodes) ≡ length store + length nodes
unfolding with_node
length-fold store [] = omega arith
length-fold store (node ∷ nodes) = length-fold (with_node store node) nodes ∙ omega (arith, length-append store (family_with store node ∷ []))

pub length-families : (nodes : List Node) → length (families nodes) ≡ length nodes + 2
unfolding families
length-families nodes = length-fold no_nodes nodes ∙ omega arith

pub families-one_more : (nodes : List Node) (node : Node) → families (nodes ++ node ∷ []) ≡ families nodes ++ family_with (families nodes) node ∷ []
unfolding families with_node
families-one_more nodes node = fold-append with_node no_nodes nodes (node ∷ [])

-- what fits stays fit, and keeps its family
pub Fits-kept : (before after : Families) (node : Node) → Keeps before after → Fits before node → Fits after node
Fits-kept before after node kept fits =
    record {
      lo_in = let more : length before ≤ length after = kept.more in let here : node.lo.position < length before = fits.lo_in in omega arith;
      hi_in = let more : length before ≤ length after = kept.more in let here : node.hi.position < length before = fits.hi_in in omega arith;
      lo_greater = subst (λ f. node.var < least_number f) (sym (kept.same node.lo.position fits.lo_in)) fits.lo_greater;
      hi_greater = subst (λ f. node.var < least_number f) (sym (kept.same node.hi.position fits.hi_in)) fits.hi_greater;
      hi_some = fits.hi_some;
    }

pub family_with-kept : (before after : Families) (node : Node) → Keeps before after → Fits before node → family_with after node ≡ family_with before node
family_with-kept before after node kept fits =
    ap (λ lo. branch node.var lo (family_at after node.hi.position)) (kept.same node.lo.position fits.lo_in)
    ∙ ap (λ hi. branch node.var (family_at before node.lo.position) hi) (kept.same node.hi.position fits.hi_in)

-- a right answer stays right
one_kept : (before after : Families) (IsRight : Family → Family → Type 0) (first answer : ℕ) → Keeps before after → AnswersOne before IsRight first answer → AnswersOne after IsRight first answer
one_kept before after IsRight first answer kept a =
    let more : length before ≤ length after = kept.more in
    record {
      first_in = let here : first < length before = a.first_in in omega arith;
      answer_in = let here : answer < length before = a.answer_in in omega arith;
      right = subst (λ f. IsRight f (family_at after answer)) (sym (kept.same first a.first_in)) (subst (IsRight (family_at before first)) (sym (kept.same answer a.answer_in)) a.right);
    }

two_kept : (before after : Families) (IsRight : Family → Family → Family → Type 0) (first second answer : ℕ) → Keeps before after → AnswersTwo before IsRight first second answer → AnswersTwo after IsRight first second answer
two_kept before after IsRight first second answer kept a =
    let more : length before ≤ length after = kept.more in
    record {
      first_in = let here : first < length before = a.first_in in omega arith;
      second_in = let here : second < length before = a.second_in in omega arith;
      answer_in = let here : answer < length before = a.answer_in in omega arith;
      right =
          subst (λ f. IsRight f (family_at after second) (family_at after answer)) (sym (kept.same first a.first_in))
          (subst (λ f. IsRight (family_at before first) f (family_at after answer)) (sym (kept.same second a.second_in))
          (subst (IsRight (family_at before first) (family_at before second)) (sym (kept.same answer a.answer_in)) a.right));
    }

answer_kept : (before after : Families) (operation : Operation) (first second most answer : ℕ) → Keeps before after → IsAnswerOf before operation first second most answer → IsAnswerOf after operation first second most answer
answer_kept before after Minimal first second most answer kept a = one_kept before after _ first answer kept a
answer_kept before after MinUnion first second most answer kept a = two_kept before after _ first second answer kept a
answer_kept before after MinProduct first second most answer kept a = two_kept before after _ first second answer kept a
answer_kept before after Without first second most answer kept a = two_kept before after _ first second answer kept a
answer_kept before after UpToSize first second most answer kept a = one_kept before after _ first answer kept a
answer_kept before after OfSize first second most answer kept a = one_kept before after _ first answer kept a
answer_kept before after Union first second most answer kept a = two_kept before after _ first second answer kept a
answer_kept before after Meet first second most answer kept a = two_kept before after _ first second answer kept a

pub IsAnswer-kept : (before after : Families) (question : Question) (answer : ℕ) → Keeps before after → IsAnswer before question answer → IsAnswer after question answer
IsAnswer-kept before after question answer kept a = answer_kept before after question.operation question.first.position question.second question.most answer kept a

pub AreRight-kept : (before after : Families) (table : List Known) → Keeps before after → AreRight before table → AreRight after table
AreRight-kept before after table kept right =
    All-weaker (λ (k : Known). IsAnswer before k.question k.answer) (λ (k : Known). IsAnswer after k.question k.answer) (λ k h. IsAnswer-kept before after k.question k.answer kept h) table right

pub KnowsRight-kept : (before after : Families) (known : Question → Option ℕ) → Keeps before after → KnowsRight before known → KnowsRight after known
KnowsRight-kept before after known kept right question answer e = IsAnswer-kept before after question answer kept (right question answer e)

-- an item of a list with one more is one of the list, or the last
pub last_or_before : {A : Type 0} (xs : List A) (x y : A) (i : ℕ) → slice_get (xs ++ x ∷ []) i ≡ Some y → (slice_get xs i ≡ Some y) ⊎ ((i ≡ length xs) × (x ≡ y))
last_or_before [] x y zero e = inr (refl, cc)
last_or_before [] x y (suc i) e = cc
last_or_before (z ∷ xs) x y zero e = inl e
last_or_before (z ∷ xs) x y (suc i) e = by (last_or_before xs x y i e)
  where
    by : (slice_get xs i ≡ Some y) ⊎ ((i ≡ length xs) × (x ≡ y)) → (slice_get xs i ≡ Some y) ⊎ ((suc i ≡ length (z ∷ xs)) × (x ≡ y))
    by (inl h) = inl h
    by (inr h) = let one : i ≡ length xs = h.0 in inr (omega arith, h.1)

-- numbers whose families are equal lists are one
pub one_number : (store : Families) → IsSound store → (a b : ℕ) → a < length store → b < length store → family_at store a ≡ family_at store b → a ≡ b
one_number store sound a b within_a within_b e = sound.canonical a b within_a within_b (λ set. (subst (λ f. Contains f set) e, subst (λ f. Contains f set) (sym e)))

-- a family of a number other than EMPTY has a set
pub some_set : (store : Families) (position : ℕ) → IsSound store → 0 < position → position < length store → ¬ (family_at store position ≡ [])
some_set store position sound h within e =
    let some : 1 < length store = sound.some in
    let zero_is : position ≡ 0 = one_number store sound position 0 within (omega arith) (e ∙ sym sound.empty) in
    omega arith

-- nodes whose families are equal are equal
same_node : (store : Families) (a b : Node) (first first' : List ℕ) (rest rest' : Family) → IsSound store → Fits store a → Fits store b
    → family_at store a.hi.position ≡ first ∷ rest → family_at store b.hi.position ≡ first' ∷ rest' → family_with store a ≡ family_with store b → a ≡ b
same_node store a b first first' rest rest' sound fits fits' ea eb e =
    let parts : (a.var ≡ b.var) × (family_at store a.lo.position ≡ family_at store b.lo.position) × (first ∷ rest ≡ first' ∷ rest') =
    same_branch a.var b.var (family_at store a.lo.position) (family_at store b.lo.position) first first' rest rest'
    fits.lo_greater (subst (λ f. a.var < least_number f) ea fits.hi_greater) fits'.lo_greater (subst (λ f. b.var < least_number f) eb fits'.hi_greater)
    (ap (branch a.var (family_at store a.lo.position)) (sym ea) ∙ e ∙ ap (branch b.var (family_at store b.lo.position)) eb) in
    let lo_is : a.lo.position ≡ b.lo.position = one_number store sound a.lo.position b.lo.position fits.lo_in fits'.lo_in parts.1 in
    let hi_is : a.hi.position ≡ b.hi.position = one_number store sound a.hi.position b.hi.position fits.hi_in fits'.hi_in (ea ∙ parts.2 ∙ sym eb) in
    λ j. record { var = parts.0 j; lo = record { position = lo_is j }; hi = record { position = hi_is j } }

-- a node that is not among the nodes has a family of its own
own_family : (nodes : List Node) (node : Node) → IsStore nodes → Fits (families nodes) node → ((place : ℕ) → ¬ (slice_get nodes place ≡ Some node))
    → (position : ℕ) → position < length (families nodes) → ¬ (family_at (families nodes) position ≡ family_with (families nodes) node)
own_family nodes node store fits absent position within e = by_hi (family_at (families nodes) node.hi.position) refl
  where
    by_node : (place : ℕ) (first : List ℕ) (rest : Family) → place < length nodes → family_at (families nodes) node.hi.position ≡ first ∷ rest
        → family_at (families nodes) (place + 2) ≡ family_with (families nodes) node → ⊥
    by_node place first rest h ehi same =
        let other : Node = get_or nodes place node in
        let here : slice_get nodes place ≡ Some other = slice_get-get_or nodes place node h in
        let at : IsNodeAt nodes place other = store.each place other here in
        by_other other (family_at (families nodes) other.hi.position) refl here at
      where
        by_other : (other : Node) (hi : Family) → family_at (families nodes) other.hi.position ≡ hi → slice_get nodes place ≡ Some other → IsNodeAt nodes place other → ⊥
        by_other other [] eo here at = some_set (families nodes) other.hi.position store.sound at.fits.hi_some at.fits.hi_in eo
        by_other other (first' ∷ rest') eo here at =
            let one : other ≡ node = same_node (families nodes) other node first' first rest' rest store.sound at.fits fits eo ehi (sym at.family ∙ same) in
            absent place (here ∙ ap Some one)

    by_position : (p : ℕ) (first : List ℕ) (rest : Family) → p < length (families nodes) → family_at (families nodes) node.hi.position ≡ first ∷ rest
        → family_at (families nodes) p ≡ family_with (families nodes) node → ⊥
    by_position zero first rest h ehi same =
        branch-some node.var (family_at (families nodes) node.lo.position) first rest (ap (branch node.var (family_at (families nodes) node.lo.position)) (sym ehi) ∙ sym same ∙ store.sound.empty)
    by_position (suc zero) first rest h ehi same =
        branch-not_unit node.var (family_at (families nodes) node.lo.position) first rest (ap (branch node.var (family_at (families nodes) node.lo.position)) (sym ehi) ∙ sym same ∙ store.sound.unit)
    by_position (suc (suc place)) first rest h ehi same =
        let many : length (families nodes) ≡ length nodes + 2 = length-families nodes in
        let place_is : suc (suc place) ≡ place + 2 = omega arith in
        by_node place first rest (omega arith) ehi (ap (family_at (families nodes)) (sym place_is) ∙ same)

    by_hi : (hi : Family) → family_at (families nodes) node.hi.position ≡ hi → ⊥
    by_hi [] ehi = some_set (families nodes) node.hi.position store.sound fits.hi_some fits.hi_in ehi
    by_hi (first ∷ rest) ehi = by_position position first rest within ehi e

-- a position below one more is below, or the last
below_or_last : (n position : ℕ) → position < n + 1 → (position < n) ⊎ (position ≡ n)
below_or_last n position h = by (cases_lt position n)
  where
    by : (position < n) ⊎ (n ≤ position) → (position < n) ⊎ (position ≡ n)
    by (inl k) = inl k
    by (inr k) = inr (omega arith)

-- with one more node that fits and is new, the nodes are those of a store again
module _ (nodes : List Node) (node : Node) (store : IsStore nodes) (fits : Fits (families nodes) node) where
  pub kept_one_more : Keeps (families nodes) (families (nodes ++ node ∷ []))
  kept_one_more = subst (Keeps (families nodes)) (sym (families-one_more nodes node)) (Keeps-one_more (families nodes) own)
    where
      own : Family
      own = family_with (families nodes) node

  pub last_family : family_at (families (nodes ++ node ∷ [])) (length (families nodes)) ≡ family_with (families nodes) node
  last_family = ap (λ f. family_at f (length (families nodes))) (families-one_more nodes node) ∙ family_at-last (families nodes) (family_with (families nodes) node)

  pub length_after : length (families (nodes ++ node ∷ [])) ≡ length (families nodes) + 1
  length_after = ap length (families-one_more nodes node) ∙ omega (arith, length-append (families nodes) (family_with (families nodes) node ∷ []))

  each_after : (place : ℕ) (other : Node) → slice_get (nodes ++ node ∷ []) place ≡ Some other → IsNodeAt (nodes ++ node ∷ []) place other
  each_after place other e = by (last_or_before nodes node other place e)
    where
      by : (slice_get nodes place ≡ Some other) ⊎ ((place ≡ length nodes) × (node ≡ other)) → IsNodeAt (nodes ++ node ∷ []) place other
      by (inl h) =
          let at : IsNodeAt nodes place other = store.each place other h in
          let within : place < length nodes = slice_get_within nodes place other h in
          let many : length (families nodes) ≡ length nodes + 2 = length-families nodes in
          record {
            fits = Fits-kept (families nodes) (families (nodes ++ node ∷ [])) other kept_one_more at.fits;
            family = kept_one_more.same (place + 2) (omega arith) ∙ at.family ∙ sym (family_with-kept (families nodes) (families (nodes ++ node ∷ [])) other kept_one_more at.fits);
          }
      by (inr (p, q)) =
          let many : length (families nodes) ≡ length nodes + 2 = length-families nodes in
          let at : place + 2 ≡ length (families nodes) = omega arith in
          subst (IsNodeAt (nodes ++ node ∷ []) place) q
          (record {
            fits = Fits-kept (families nodes) (families (nodes ++ node ∷ [])) node kept_one_more fits;
            family = ap (family_at (families (nodes ++ node ∷ []))) at ∙ last_family ∙ sym (family_with-kept (families nodes) (families (nodes ++ node ∷ [])) node kept_one_more fits);
          })

  rising_after : (position : ℕ) → position < length (families (nodes ++ node ∷ [])) → AllByRecursion IsRising (family_at (families (nodes ++ node ∷ [])) position)
  rising_after position within = by (below_or_last (length (families nodes)) position (omega (arith, length_after)))
    where
      by : (position < length (families nodes)) ⊎ (position ≡ length (families nodes)) → AllByRecursion IsRising (family_at (families (nodes ++ node ∷ [])) position)
      by (inl h) = subst (AllByRecursion IsRising) (sym (kept_one_more.same position h)) (store.sound.rising position h)
      by (inr h) =
          subst (AllByRecursion IsRising) (sym (ap (family_at (families (nodes ++ node ∷ []))) h ∙ last_family))
          (rising-branch node.var (family_at (families nodes) node.lo.position) (family_at (families nodes) node.hi.position) fits.hi_greater
          (store.sound.rising node.lo.position fits.lo_in) (store.sound.rising node.hi.position fits.hi_in))

  ordered_after : (position : ℕ) → position < length (families (nodes ++ node ∷ [])) → IsInOrder (family_at (families (nodes ++ node ∷ [])) position)
  ordered_after position within = by (below_or_last (length (families nodes)) position (omega (arith, length_after)))
    where
      by : (position < length (families nodes)) ⊎ (position ≡ length (families nodes)) → IsInOrder (family_at (families (nodes ++ node ∷ [])) position)
      by (inl h) = subst IsInOrder (sym (kept_one_more.same position h)) (store.sound.ordered position h)
      by (inr h) =
          subst IsInOrder (sym (ap (family_at (families (nodes ++ node ∷ []))) h ∙ last_family))
          (ordered-branch node.var (family_at (families nodes) node.lo.position) (family_at (families nodes) node.hi.position) fits.lo_greater
          (store.sound.ordered node.lo.position fits.lo_in) (store.sound.ordered node.hi.position fits.hi_in))

  module _ (absent : (place : ℕ) → ¬ (slice_get nodes place ≡ Some node)) where
    canonical_after : IsCanonical (families (nodes ++ node ∷ []))
    canonical_after a b within_a within_b same =
        by (equal_families (family_at (families (nodes ++ node ∷ [])) a) (family_at (families (nodes ++ node ∷ [])) b) (ordered_after a within_a) (ordered_after b within_b) same)
        (below_or_last (length (families nodes)) a (omega (arith, length_after))) (below_or_last (length (families nodes)) b (omega (arith, length_after)))
      where
        by : family_at (families (nodes ++ node ∷ [])) a ≡ family_at (families (nodes ++ node ∷ [])) b → (a < length (families nodes)) ⊎ (a ≡ length (families nodes))
            → (b < length (families nodes)) ⊎ (b ≡ length (families nodes)) → a ≡ b
        by e (inl h) (inl k) = one_number (families nodes) store.sound a b h k (sym (kept_one_more.same a h) ∙ e ∙ kept_one_more.same b k)
        by e (inl h) (inr k) =
            absurd (own_family nodes node store fits absent a h (sym (kept_one_more.same a h) ∙ e ∙ ap (family_at (families (nodes ++ node ∷ []))) k ∙ last_family))
        by e (inr h) (inl k) =
            absurd (own_family nodes node store fits absent b k (sym (kept_one_more.same b k) ∙ sym e ∙ ap (family_at (families (nodes ++ node ∷ []))) h ∙ last_family))
        by e (inr h) (inr k) = h ∙ sym k

    pub IsStore-one_more : length nodes < 4294967292 → IsStore (nodes ++ node ∷ [])
    IsStore-one_more room =
        let many : length (families nodes) ≡ length nodes + 2 = length-families nodes in
        record {
          few = omega (arith, length-append nodes (node ∷ []));
          each = each_after;
          sound = record {
            some = omega (arith, length_after);
            empty = kept_one_more.same 0 (omega arith) ∙ store.sound.empty;
            unit = kept_one_more.same 1 (omega arith) ∙ store.sound.unit;
            rising = rising_after;
            ordered = ordered_after;
            canonical = canonical_after;
          };
        }

-- what a test finds at a place it finds in the list
found_at : {A : Type 0} (test : A → Bool) (xs : List A) (i : ℕ) (x : A) → slice_get xs i ≡ Some x → test x ≡ true → list_any test xs ≡ true
found_at test [] i x e h = cc
found_at test (y ∷ ys) zero x e h = let same : y ≡ x = cc in by (test y) (ap test same ∙ h)
  where
    by : (b : Bool) → b ≡ true → b || list_any test ys ≡ true
    by true k = refl
    by false k = absurd (false≢true k)
found_at test (y ∷ ys) (suc i) x e h = by (test y) (found_at test ys i x e h)
  where
    by : (b : Bool) → list_any test ys ≡ true → b || list_any test ys ≡ true
    by true k = refl
    by false k = k

-- an insert keeps what a store is, and each number's family
pub record Inserted (nodes after : List Node) : Type 0 where
  pub store : IsStore after
  pub kept : Keeps (families nodes) (families after)

pub inserted : (eq : Node → Node → Bool) → ((a : Node) → eq a a ≡ true) → (nodes : List Node) (node : Node) → IsStore nodes → length nodes < 4294967292 → Fits (families nodes) node
    → Inserted nodes (if list_any (eq node) nodes then nodes else nodes ++ node ∷ [])
inserted eq same nodes node store room fits = by (list_any (eq node) nodes) refl
  where
    by : (b : Bool) → list_any (eq node) nodes ≡ b → Inserted nodes (if b then nodes else nodes ++ node ∷ [])
    by true e = record { store = store; kept = Keeps-same (families nodes) }
    by false e =
        let absent : (place : ℕ) → ¬ (slice_get nodes place ≡ Some node) = λ place here. false≢true (sym e ∙ found_at (eq node) nodes place node here (same node)) in
        record { store = IsStore-one_more nodes node store fits absent room; kept = kept_one_more nodes node store fits }

-- no nodes are those of a store
pub no_nodes_store : IsStore []
unfolding families family_at IsRising IsInOrder
no_nodes_store =
    record {
      few = omega arith;
      each = λ place node e. cc;
      sound = record {
        some = omega arith;
        empty = refl;
        unit = refl;
        rising = rising;
        ordered = ordered;
        canonical = canonical;
      };
    }
  where
    rising : (position : ℕ) → position < 2 → AllByRecursion IsRising (get_or no_nodes position [])
    rising zero h = tt
    rising (suc zero) h = (tt, tt)
    rising (suc (suc n)) h = absurd (omega arith)

    ordered : (position : ℕ) → position < 2 → IsInOrder (get_or no_nodes position [])
    ordered zero h = tt
    ordered (suc zero) h = (tt, tt)
    ordered (suc (suc n)) h = absurd (omega arith)

    canonical : (a b : ℕ) → a < 2 → b < 2 → HaveSameSets (get_or no_nodes a []) (get_or no_nodes b []) → a ≡ b
    canonical zero zero h k e = refl
    canonical zero (suc zero) h k e = absurd (contains_none [] ((e []).1 (contains_first [] [])))
    canonical (suc zero) zero h k e = absurd (contains_none [] ((e []).0 (contains_first [] [])))
    canonical (suc zero) (suc zero) h k e = refl
    canonical (suc (suc n)) b h k e = absurd (omega arith)
    canonical a (suc (suc n)) h k e = absurd (omega arith)
