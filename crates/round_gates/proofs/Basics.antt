-- Tests, options and lists, as several of the proofs need them.
use Rattle.std.proofs.Common.{◌≡◌, Bool, true, false, ◌||◌, ◌&&◌, List, [], ◌∷◌, ◌++◌, Some, sym, refl}
use Rattle.std.proofs.lemmas.Bool.{false≢true, eq-eqb}
use Rattle.std.specs.List.{AllByRecursion}
use Rattle.round_gates.specs.declared.node.GateKey.{GateKey}
use Rattle.round_gates.specs.declared.node.Node.{Node}
use Rattle.round_gates.specs.declared.node.Node.TheVariants.{Always, Never, Basic, Gate}
use Rattle.round_gates.specs.Nodes.{same_key, same_node}

pub or_left : (b c : Bool) → b ≡ true → b || c ≡ true
or_left true c e = refl
or_left false c e = absurd (false≢true e)

pub or_right : (b c : Bool) → c ≡ true → b || c ≡ true
or_right true c e = refl
or_right false c e = e

pub not_here : (b c : Bool) → b ≡ false → b || c ≡ true → c ≡ true
not_here true c e f = absurd (false≢true (sym e))
not_here false c e f = f

pub or_false : (b : Bool) → b ≡ b || false
or_false true = refl
or_false false = refl

pub some_inner : {X : Type 0} (x y : X) → Some x ≡ Some y → x ≡ y
some_inner x y h = cc

pub all-append : {X : Type 0} (P : X → Type 0) (xs ys : List X) → AllByRecursion P xs → AllByRecursion P ys → AllByRecursion P (xs ++ ys)
all-append P [] ys a b = b
all-append P (x ∷ xs) ys a b = (a.0, all-append P xs ys a.1 b)

pub all-map : {X : Type 0} (P Q : X → Type 0) → ((x : X) → P x → Q x) → (xs : List X) → AllByRecursion P xs → AllByRecursion Q xs
all-map P Q f [] h = tt
all-map P Q f (x ∷ xs) h = (f x h.0, all-map P Q f xs h.1)

pub key_same : (key : GateKey) → same_key key key ≡ true
key_same key = and_all _ _ _ (eq-eqb key.fact key.fact refl) (eq-eqb key.stage key.stage refl) (eq-eqb key.place key.place refl)
  where
    and_all : (a b c : Bool) → a ≡ true → b ≡ true → c ≡ true → a && (b && c) ≡ true
    and_all true true c e f g = g
    and_all true false c e f g = f
    and_all false b c e f g = e

pub node_same : (node : Node) → same_node node node ≡ true
node_same Always = refl
node_same Never = refl
node_same (Basic m) = eq-eqb m m refl
node_same (Gate k) = key_same k
