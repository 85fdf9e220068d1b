-- The rules keep the truth.
use Rattle.std.proofs.Common.{ℕ, ◌+◌, ◌-◌, ◌≡◌, ◌<◌, ◌≤◌, Bool, true, false, cond, ◌&&◌, ◌||◌, ◌==◌, nat_le, nat_lt, le-leb, leb-true, List, [], ◌∷◌, ◌++◌, map, length, ap, ◌∙◌, sym, refl, arith, rules, tests}
use Rattle.std.proofs.lemmas.Bool.{false≢true, ltb-true, eqb-true, and_parts}
use Rattle.std.specs.List.{list_all, list_any}
use lib.ListN.{length-map}
use Rattle.fault_system.specs.Truth.{NumberSet, count_true}
use Rattle.fault_system.proofs.TruthLaws.{same_answer, count_true-le, nat_le-all, nat_le-any}
use Rattle.round_gates.specs.declared.node.GateKey.{GateKey}
use Rattle.round_gates.specs.declared.node.GateKind.TheVariants.{And, Or, AtLeast}
use Rattle.round_gates.specs.declared.node.Join.TheVariants.{Plain, Made}
use Rattle.round_gates.specs.declared.node.Node.{Node}
use Rattle.round_gates.specs.declared.node.Node.TheVariants.{Always, Never, Basic, Gate}
use Rattle.round_gates.specs.Nodes.{same_key, same_node, has_node, without, new_ones, each_once, gathered, all_of, any_of, always_in, varying, least_left, least_of}
use Rattle.round_gates.specs.inner.Truths.{GateSet, node_true, join_true}
use Rattle.round_gates.proofs.Basics.{or_false}

pub key_exact : (a b : GateKey) → same_key a b ≡ true → a ≡ b
key_exact a b e =
    let one = and_parts (a.fact == b.fact) _ e in
    let two = and_parts (a.stage == b.stage) _ one.1 in
    same _ _ _ _ _ _ (eqb-true _ _ one.0) (eqb-true _ _ two.0) (eqb-true _ _ two.1)
  where
    key : ℕ → ℕ → ℕ → GateKey
    key f r p = record { fact = f; stage = r; place = p }

    same : (f g r s p q : ℕ) → f ≡ g → r ≡ s → p ≡ q → key f r p ≡ key g s q
    same f g r s p q x y z i = key (x i) (y i) (z i)

-- nodes that are the same by the test are the same
pub node_exact : (a b : Node) → same_node a b ≡ true → a ≡ b
node_exact Always Always e = refl
node_exact Always Never e = absurd (false≢true e)
node_exact Always (Basic n) e = absurd (false≢true e)
node_exact Always (Gate k) e = absurd (false≢true e)
node_exact Never Always e = absurd (false≢true e)
node_exact Never Never e = refl
node_exact Never (Basic n) e = absurd (false≢true e)
node_exact Never (Gate k) e = absurd (false≢true e)
node_exact (Basic m) Always e = absurd (false≢true e)
node_exact (Basic m) Never e = absurd (false≢true e)
node_exact (Basic m) (Basic n) e = ap Basic (eqb-true _ _ e)
node_exact (Basic m) (Gate k) e = absurd (false≢true e)
node_exact (Gate k) Always e = absurd (false≢true e)
node_exact (Gate k) Never e = absurd (false≢true e)
node_exact (Gate k) (Basic n) e = absurd (false≢true e)
node_exact (Gate k) (Gate l) e = ap Gate (key_exact k l e)

all_step : (s v x y : Bool) → (s ≡ true → v ≡ true) → s && x ≡ s && y → s && x ≡ s && (v && y)
all_step true true x y h e = e
all_step true false x y h e = absurd (false≢true (h refl))
all_step false v x y h e = refl

all_more : (s v x y : Bool) → (s && (v && true)) && x ≡ (s && (v && true)) && y → s && (v && x) ≡ s && (v && y)
all_more true true x y e = e
all_more true false x y e = refl
all_more false v x y e = refl

any_step : (s v x y : Bool) → (v ≡ true → s ≡ true) → s || x ≡ s || y → s || x ≡ s || (v || y)
any_step true v x y h e = refl
any_step false true x y h e = absurd (false≢true (h refl))
any_step false false x y h e = e

any_more : (s v x y : Bool) → (s || (v || false)) || x ≡ (s || (v || false)) || y → s || (v || x) ≡ s || (v || y)
any_more true v x y e = refl
any_more false true x y e = refl
any_more false false x y e = e

and_true : (b : Bool) → b ≡ b && true
and_true true = refl
and_true false = refl

not_true : (b : Bool) → (b ≡ true → ⊥) → false ≡ b
not_true true h = absurd (h refl)
not_true false h = refl

module _ (events : NumberSet) (gates : GateSet) where
  abbrev val : Node → Bool
  val node = node_true events gates node

  abbrev all : List Node → Bool
  all nodes = list_all (λ b. b) (map val nodes)

  abbrev any : List Node → Bool
  any nodes = list_any (λ b. b) (map val nodes)

  all-append : (xs ys : List Node) → all (xs ++ ys) ≡ all xs && all ys
  all-append [] ys = refl
  all-append (x ∷ xs) ys = ap (λ b. val x && b) (all-append xs ys) ∙ assoc (val x) (all xs) (all ys)
    where
      assoc : (a b c : Bool) → a && (b && c) ≡ (a && b) && c
      assoc true b c = refl
      assoc false b c = refl

  any-append : (xs ys : List Node) → any (xs ++ ys) ≡ any xs || any ys
  any-append [] ys = refl
  any-append (x ∷ xs) ys = ap (λ b. val x || b) (any-append xs ys) ∙ assoc (val x) (any xs) (any ys)
    where
      assoc : (a b c : Bool) → a || (b || c) ≡ (a || b) || c
      assoc true b c = refl
      assoc false b c = refl

  -- a node of a list is true where all of the list are
  has-all : (seen : List Node) (node : Node) → has_node seen node ≡ true → all seen ≡ true → val node ≡ true
  has-all [] node h e = absurd (false≢true h)
  has-all (x ∷ seen) node h e =
      let parts = and_parts (val x) _ e in by (same_node node x) refl h parts.0 (λ other. has-all seen node other parts.1)
    where
      by : (b : Bool) → same_node node x ≡ b → b || has_node seen node ≡ true → val x ≡ true → (has_node seen node ≡ true → val node ≡ true) → val node ≡ true
      by true is h x_true rest = ap val (node_exact node x is) ∙ x_true
      by false is h x_true rest = rest h

  -- where a node of a list is true, one of the list is
  has-any : (seen : List Node) (node : Node) → has_node seen node ≡ true → val node ≡ true → any seen ≡ true
  has-any [] node h e = absurd (false≢true h)
  has-any (x ∷ seen) node h e = by (same_node node x) refl h (λ other. has-any seen node other e)
    where
      left : (b c : Bool) → b ≡ true → b || c ≡ true
      left true c e = refl
      left false c e = absurd (false≢true e)

      right : (b c : Bool) → c ≡ true → b || c ≡ true
      right true c e = refl
      right false c e = e

      by : (b : Bool) → same_node node x ≡ b → b || has_node seen node ≡ true → (has_node seen node ≡ true → any seen ≡ true) → val x || any seen ≡ true
      by true is h rest = left (val x) (any seen) (sym (ap val (node_exact node x is)) ∙ e)
      by false is h rest = right (val x) (any seen) (rest h)

  all-new_ones : (seen nodes : List Node) → all seen && all (new_ones seen nodes) ≡ all seen && all nodes
  all-new_ones seen [] = refl
  all-new_ones seen (node ∷ nodes) = by (has_node seen node) refl (all-new_ones seen nodes) (all-new_ones (seen ++ node ∷ []) nodes)
    where
      by : (b : Bool) → has_node seen node ≡ b → all seen && all (new_ones seen nodes) ≡ all seen && all nodes → all (seen ++ node ∷ []) && all (new_ones (seen ++ node ∷ []) nodes) ≡ all (seen ++ node ∷ []) && all nodes → all seen && all (cond b (new_ones seen nodes) (node ∷ new_ones (seen ++ node ∷ []) nodes)) ≡ all seen && (val node && all nodes)
      by true is same more = all_step (all seen) (val node) _ _ (has-all seen node is) same
      by false is same more =
          all_more (all seen) (val node) _ _
          (ap (λ b. b && all (new_ones (seen ++ node ∷ []) nodes)) (sym (all-append seen (node ∷ []))) ∙ more ∙ ap (λ b. b && all nodes) (all-append seen (node ∷ [])))

  any-new_ones : (seen nodes : List Node) → any seen || any (new_ones seen nodes) ≡ any seen || any nodes
  any-new_ones seen [] = refl
  any-new_ones seen (node ∷ nodes) = by (has_node seen node) refl (any-new_ones seen nodes) (any-new_ones (seen ++ node ∷ []) nodes)
    where
      by : (b : Bool) → has_node seen node ≡ b → any seen || any (new_ones seen nodes) ≡ any seen || any nodes → any (seen ++ node ∷ []) || any (new_ones (seen ++ node ∷ []) nodes) ≡ any (seen ++ node ∷ []) || any nodes → any seen || any (cond b (new_ones seen nodes) (node ∷ new_ones (seen ++ node ∷ []) nodes)) ≡ any seen || (val node || any nodes)
      by true is same more = any_step (any seen) (val node) _ _ (has-any seen node is) same
      by false is same more =
          any_more (any seen) (val node) _ _
          (ap (λ b. b || any (new_ones (seen ++ node ∷ []) nodes)) (sym (any-append seen (node ∷ []))) ∙ more ∙ ap (λ b. b || any nodes) (any-append seen (node ∷ [])))

  all-without : (nodes : List Node) → all (without Always nodes) ≡ all nodes
  all-without [] = refl
  all-without (Always ∷ nodes) = all-without nodes
  all-without (Never ∷ nodes) = refl
  all-without (Basic n ∷ nodes) = ap (λ b. events n && b) (all-without nodes)
  all-without (Gate k ∷ nodes) = ap (λ b. gates k && b) (all-without nodes)

  any-without : (nodes : List Node) → any (without Never nodes) ≡ any nodes
  any-without [] = refl
  any-without (Always ∷ nodes) = refl
  any-without (Never ∷ nodes) = any-without nodes
  any-without (Basic n ∷ nodes) = ap (λ b. events n || b) (any-without nodes)
  any-without (Gate k ∷ nodes) = ap (λ b. gates k || b) (any-without nodes)

  all-gathered : (nodes : List Node) → join_true events gates (gathered And Always nodes) ≡ all nodes
  all-gathered [] = refl
  all-gathered (x ∷ []) = and_true (val x)
  all-gathered (x ∷ y ∷ nodes) = refl

  any-gathered : (nodes : List Node) → join_true events gates (gathered Or Never nodes) ≡ any nodes
  any-gathered [] = refl
  any-gathered (x ∷ []) = or_false (val x)
  any-gathered (x ∷ y ∷ nodes) = refl

  -- the rule of `And` keeps the truth
  pub all_of-keeps : (nodes : List Node) → join_true events gates (all_of nodes) ≡ all nodes
  all_of-keeps nodes = by (has_node nodes Never) refl
    where
      by : (b : Bool) → has_node nodes Never ≡ b → join_true events gates (cond b (Plain Never) (gathered And Always (each_once (without Always nodes)))) ≡ all nodes
      by true is = not_true (all nodes) (λ e. false≢true (has-all nodes Never is e))
      by false is = all-gathered (each_once (without Always nodes)) ∙ all-new_ones [] (without Always nodes) ∙ all-without nodes

  -- the rule of `Or` keeps the truth
  pub any_of-keeps : (nodes : List Node) → join_true events gates (any_of nodes) ≡ any nodes
  any_of-keeps nodes = by (has_node nodes Always) refl
    where
      by : (b : Bool) → has_node nodes Always ≡ b → join_true events gates (cond b (Plain Always) (gathered Or Never (each_once (without Never nodes)))) ≡ any nodes
      by true is = sym (has-any nodes Always is refl)
      by false is = any-gathered (each_once (without Never nodes)) ∙ any-new_ones [] (without Never nodes) ∙ any-without nodes

  counted_more : (b : Bool) (m n k : ℕ) → n ≡ m + k → cond b (n + 1) n ≡ m + cond b (k + 1) k
  counted_more true m n k e = omega arith
  counted_more false m n k e = e

  count-varying : (nodes : List Node) → count_true (map val nodes) ≡ always_in nodes + count_true (map val (varying nodes))
  count-varying [] = refl
  count-varying (Always ∷ nodes) = let e = count-varying nodes in omega (arith, e)
  count-varying (Never ∷ nodes) = count-varying nodes
  count-varying (Basic n ∷ nodes) = counted_more (events n) (always_in nodes) _ _ (count-varying nodes)
  count-varying (Gate k ∷ nodes) = counted_more (gates k) (always_in nodes) _ _ (count-varying nodes)

  too_many : (a b : ℕ) → b < a → nat_le a b ≡ false
  too_many a b h = search (rules, tests)

  few_true : (nodes : List Node) → count_true (map val nodes) ≤ length nodes
  few_true nodes = let e : length (map val nodes) ≡ length nodes = length-map nodes val in omega (arith, count_true-le (map val nodes))

  least_left-keeps : (k : ℕ) (nodes : List Node) → join_true events gates (least_left k nodes) ≡ nat_le k (count_true (map val nodes))
  least_left-keeps k nodes = none (k == 0) refl
    where
      every : (b : Bool) → (k == length nodes) ≡ b → join_true events gates (cond b (all_of nodes) (Made (AtLeast k) nodes)) ≡ nat_le k (count_true (map val nodes))
      every true is =
          all_of-keeps nodes ∙ sym (nat_le-all (map val nodes))
          ∙ ap (λ n. nat_le n (count_true (map val nodes))) (length-map nodes val ∙ sym (eqb-true _ _ is))
      every false is = refl

      one : (b : Bool) → (k == 1) ≡ b → join_true events gates (cond b (any_of nodes) (cond (k == length nodes) (all_of nodes) (Made (AtLeast k) nodes))) ≡ nat_le k (count_true (map val nodes))
      one true is = any_of-keeps nodes ∙ sym (nat_le-any (map val nodes)) ∙ ap (λ n. nat_le n (count_true (map val nodes))) (sym (eqb-true _ _ is))
      one false is = every (k == length nodes) refl

      few : (b : Bool) → nat_lt (length nodes) k ≡ b → join_true events gates (cond b (Plain Never) (cond (k == 1) (any_of nodes) (cond (k == length nodes) (all_of nodes) (Made (AtLeast k) nodes)))) ≡ nat_le k (count_true (map val nodes))
      few true is = let less : length nodes < k = ltb-true _ _ is in sym (too_many k _ (omega (arith, few_true nodes)))
      few false is = one (k == 1) refl

      none : (b : Bool) → (k == 0) ≡ b → join_true events gates (cond b (Plain Always) (cond (nat_lt (length nodes) k) (Plain Never) (cond (k == 1) (any_of nodes) (cond (k == length nodes) (all_of nodes) (Made (AtLeast k) nodes))))) ≡ nat_le k (count_true (map val nodes))
      none true is = let zero_is : k ≡ 0 = eqb-true _ _ is in sym (le-leb _ _ (omega arith))
      none false is = few (nat_lt (length nodes) k) refl

  lowered : (k a c : ℕ) → nat_le (k - a) c ≡ nat_le k (a + c)
  lowered k a c = same_answer _ _ (λ h. let l : k - a ≤ c = leb-true _ _ h in le-leb _ _ (omega arith)) (λ h. let l : k ≤ a + c = leb-true _ _ h in le-leb _ _ (omega arith))

  -- the rule of `AtLeast` keeps the truth
  pub least_of-keeps : (k : ℕ) (nodes : List Node) → join_true events gates (least_of k nodes) ≡ nat_le k (count_true (map val nodes))
  least_of-keeps k nodes =
      least_left-keeps (k - always_in nodes) (varying nodes) ∙ lowered k (always_in nodes) (count_true (map val (varying nodes)))
      ∙ ap (λ n. nat_le k n) (sym (count-varying nodes))
