-- Nodes by number, as they are written.
use Rattle.std.proofs.Common.{ℕ, zero, suc, ◌+◌, ◌≡◌, ◌<◌, Bool, true, false, cond, ◌||◌, ◌==◌, List, [], ◌∷◌, length, map, drop, All, get_or, set, ap, ◌∙◌, sym, subst, refl, arith, get_or-set_same, get_or-set_other}
use Rattle.std.proofs.lemmas.Bool.{false≢true, eqb-true, eq-eqb}
use Rattle.fault_system.specs.Truth.{set_of}
use Rattle.fault_system.specs.Systems.{System}
use Rattle.round_gates.specs.declared.node.Node.{Node}
use Rattle.round_gates.specs.declared.node.Node.TheVariants.{Never}
use Rattle.round_gates.specs.declared.node.Part.{Part}
use Rattle.round_gates.specs.inner.Walks.{node_in}
use Rattle.round_gates.specs.inner.Unrolled.{found_in, written}
use Rattle.round_gates.proofs.Kept.{split_at}

eqb-false : (a b : ℕ) → (a == b) ≡ false → b ≡ a → ⊥
eqb-false a b e same = false≢true (sym e ∙ eq-eqb a b (sym same))

node_in-set : (nodes : List Node) (fact : ℕ) (node : Node) → fact < length nodes → (other : ℕ) → node_in (set nodes fact node) other ≡ cond (fact == other) node (node_in nodes other)
node_in-set nodes fact node fits other = by (fact == other) refl
  where
    by : (b : Bool) → (fact == other) ≡ b → node_in (set nodes fact node) other ≡ cond b node (node_in nodes other)
    by true is = ap (node_in (set nodes fact node)) (sym (eqb-true _ _ is)) ∙ get_or-set_same nodes fact node Never fits
    by false is = get_or-set_other nodes fact other node Never (eqb-false fact other is)

-- one part more is written
pub written-next : (found : List Part) (i : ℕ) (part : Part) (nodes : List Node) → i < length found → part ≡ get_or found i part → part.place < length nodes → (fact : ℕ)
    → written (drop (i + 1) found) (node_in (set nodes part.place part.node)) fact ≡ written (drop i found) (node_in nodes) fact
written-next found i part nodes fits is inside fact =
    ap (λ (look : ℕ → Node). written (drop (i + 1) found) look fact) (λ j other. node_in-set nodes part.place part.node inside other j)
    ∙ ap (λ ps. written ps (node_in nodes) fact) (sym (split_at part found i fits is))

-- the facts that are written have their nodes, all others the nodes that they had
pub written-is : (system : System) (from : ℕ → Node) (stage : ℕ) (members : List ℕ) (look : ℕ → Node) (fact : ℕ) → written (map (found_in system from stage) members) look fact ≡ cond (set_of members fact) (found_in system from stage fact).node (look fact)
written-is system from stage [] look fact = refl
written-is system from stage (m ∷ members) look fact =
    written-is system from stage members (λ other. cond (m == other) (found_in system from stage m).node (look other)) fact
    ∙ by (m == fact) refl (set_of members fact)
  where
    by : (here : Bool) → (m == fact) ≡ here → (there : Bool) → cond there (found_in system from stage fact).node (cond here (found_in system from stage m).node (look fact)) ≡ cond (here || there) (found_in system from stage fact).node (look fact)
    by true is true = refl
    by true is false = ap (λ n. (found_in system from stage n).node) (eqb-true _ _ is)
    by false is there = refl

pub places-inside : (system : System) (from : ℕ → Node) (stage most : ℕ) (members : List ℕ) → All (λ fact. fact < most) members → (found : List Part) → found ≡ map (found_in system from stage) members → All (λ part. part.place < most) found
places-inside system from stage most members all found is =
    subst (λ (parts : List Part). All (λ part. part.place < most) parts) (sym is)
    (λ k d fits. subst (λ (p : Part). p.place < most) (sym (at members k d (shorter members k fits))) (all k 0 (shorter members k fits)))
  where
    shorter : (ms : List ℕ) (k : ℕ) → k < length (map (found_in system from stage) ms) → k < length ms
    shorter [] k h = h
    shorter (m ∷ ms) zero h = omega arith
    shorter (m ∷ ms) (suc k) h = let more : k < length ms = shorter ms k (omega arith) in omega arith

    at : (ms : List ℕ) (k : ℕ) (d : Part) → k < length ms → get_or (map (found_in system from stage) ms) k d ≡ found_in system from stage (get_or ms k 0)
    at [] k d h = absurd (omega arith)
    at (m ∷ ms) zero d h = refl
    at (m ∷ ms) (suc k) d h = at ms k d (omega arith)
