-- Gates that get what stands for their inputs agree with each set that the gates agree with.
use Rattle.std.proofs.Common.{ℕ, zero, suc, ◌≡◌, ◌<◌, ◌&&◌, ◌||◌, Bool, true, false, List, [], ◌∷◌, ◌++◌, Option, Some, None, IfSome, length, map, slice_get, get_or, ap, ◌∙◌, sym, subst, refl, arith}
use Rattle.std.proofs.lemmas.List.Folds.{list_all-append, list_any-append}
use Rattle.std.specs.List.{list_all, list_any}
use Rattle.fault_system.specs.Truth.{NumberSet}
use Rattle.round_gates.specs.Truths.{kind_true}
use Rattle.round_gates.specs.declared.node.GateKind.{GateKind}
use Rattle.round_gates.specs.declared.node.GateKind.TheVariants as kinds
use Rattle.round_gates.specs.declared.tree.Gate.{Gate}
use Rattle.round_gates.specs.declared.tree.Input.{Input}
use Rattle.round_gates.specs.declared.tree.Input.TheVariants as inputs
use Rattle.round_gates.specs.inner.Trees.{input_true}
use Rattle.merged_gates.specs.inner.Solutions.{AreStands, HasSameInputs, IsJoin, IsSolution, Keeps, KeepsTop, Solves, stand_of}
use Rattle.merged_gates.proofs.InputLaws.{all-of, any-of, kind-same, stand-true, stands-true}

-- what a gate that is put may say
abbrev pub Puts : List Gate → List Gate → ℕ → GateKind → List Input → Type 0
Puts gates after n kind list =
    (events set : NumberSet) → IsSolution events set gates → kind_true kind (map (input_true events set) list) ≡ set n → IsSolution events set after

pub join-folded : (gates after : List Gate) (stands ins all list : List Input) (n : ℕ) (kind other : GateKind) → IsJoin kind → all ≡ map (stand_of stands) ins → HasSameInputs all list
    → ((events set : NumberSet) → kind_true other (map (input_true events set) list) ≡ kind_true kind (map (input_true events set) list)) → Puts gates after n other list
    → (events set : NumberSet) → Solves events set gates stands → kind_true kind (map (input_true events set) ins) ≡ set n → Solves events set after stands
join-folded gates after stands ins all list n kind other is all_are same alike puts events set solves says = record {
  gates_met =
      puts events set solves.gates_met
      (alike events set ∙ kind-same kind is all list same (input_true events set) ∙ ap (λ (xs : List Input). kind_true kind (map (input_true events set) xs)) all_are
      ∙ ap (kind_true kind) (stands-true events set stands solves.stands_met ins) ∙ says);
  stands_met = solves.stands_met;
}

pub alike-put : (gates after : List Gate) (stands ins list : List Input) (n k : ℕ) → map (stand_of stands) list ≡ map (stand_of stands) ins → Puts gates after n (kinds.AtLeast k) list
    → (events set : NumberSet) → Solves events set gates stands → kind_true (kinds.AtLeast k) (map (input_true events set) ins) ≡ set n → Solves events set after stands
alike-put gates after stands ins list n k alike puts events set solves says = record {
  gates_met =
      puts events set solves.gates_met
      (ap (kind_true (kinds.AtLeast k)) (sym (stands-true events set stands solves.stands_met list) ∙ ap (map (input_true events set)) alike ∙ stands-true events set stands solves.stands_met ins)
      ∙ says);
  stands_met = solves.stands_met;
}

-- the gate at a position that is there has one kind, whatever stands for a gate past the end
pub kind-there : (gates : List Gate) (n : ℕ) (x y : Gate) (kind : GateKind) → n < length gates → (get_or gates n x).kind ≡ kind → (get_or gates n y).kind ≡ kind
kind-there [] n x y kind less e = absurd (omega arith)
kind-there (g ∷ gates) zero x y kind less e = e
kind-there (g ∷ gates) (suc n) x y kind less e = kind-there gates n x y kind (omega arith) e

-- a gate, by its kind and its inputs, says what the set has
pub says-as : (events set : NumberSet) (gates : List Gate) (n : ℕ) (gate : Gate) (kind : GateKind) (ins : List Input) → IsSolution events set gates → slice_get gates n ≡ Some gate → gate.kind ≡ kind → ins ≡ gate.inputs → kind_true kind (map (input_true events set) ins) ≡ set n
says-as events set gates n gate kind ins agrees at kind_is ins_are =
    ap (λ (xs : List Input). kind_true kind (map (input_true events set) xs)) ins_are ∙ ap (λ k. kind_true k (map (input_true events set) gate.inputs)) (sym kind_is) ∙ agrees n gate at

-- a gate for which the same stands as for an input may be an `or` of it
pub wrapped : (gates after : List Gate) (stands : List Input) (n : ℕ) (input : Input) → stand_of stands (inputs.Gate n) ≡ stand_of stands input → Puts gates after n kinds.Or (input ∷ []) → Keeps gates stands after stands
wrapped gates after stands n input same puts events set solves = record {
  gates_met =
      puts events set solves.gates_met
      (or-one (input_true events set input)
      ∙ sym (stand-true events set stands solves.stands_met input)
      ∙ ap (input_true events set) (sym same)
      ∙ stand-true events set stands solves.stands_met (inputs.Gate n));
  stands_met = solves.stands_met;
}
  where
    or-one : (b : Bool) → list_any (λ c. c) (b ∷ []) ≡ b
    or-one true = refl
    or-one false = refl

-- a gate is folded: it gets inputs, and something stands for it
pub gate-folded : (gates after : List Gate) (stands noted : List Input) (n : ℕ) (stand : Option Input) → Keeps gates stands after stands
    → IfSome stand (λ input. (events set : NumberSet) → IsSolution events set after → input_true events set input ≡ set n)
    → ((events set : NumberSet) → AreStands events set stands → IfSome stand (λ input. input_true events set input ≡ set n) → AreStands events set noted)
    → Keeps gates stands after noted
gate-folded gates after stands noted n None keeps says notes events set solves =
    let next = keeps events set solves in
    record { gates_met = next.gates_met; stands_met = notes events set next.stands_met tt }
gate-folded gates after stands noted n (Some input) keeps says notes events set solves =
    let next = keeps events set solves in
    record { gates_met = next.gates_met; stands_met = notes events set next.stands_met (says events set next.gates_met) }

-- the gates themselves stand for them
pub all-folded : (gates after : List Gate) (stands : List Input) (top next : ℕ) → ((n : ℕ) (input : Input) → slice_get stands n ≡ Some input → input ≡ inputs.Gate n)
    → ((events set : NumberSet) → Solves events set gates stands → IsSolution events set after × (set next ≡ set top)) → KeepsTop gates top after next
all-folded gates after stands top next themselves keeps events set agrees =
    keeps events set (record { gates_met = agrees; stands_met = λ n input at. ap (input_true events set) (themselves n input at) })

-- one turn after another
pub top-then : (first second third : List Gate) (top next last : ℕ) → KeepsTop first top second next → KeepsTop second next third last → KeepsTop first top third last
top-then first second third top next last one two events set agrees =
    let a = one events set agrees in
    let b = two events set a.0 in (b.0, b.1 ∙ a.1)

-- the same of equal lists
pub keeps-moved : (gs hs ks ls : List Gate) (top next : ℕ) → gs ≡ hs → ls ≡ ks → KeepsTop gs top ks next → KeepsTop hs top ls next
keeps-moved gs hs ks ls top next first last keeps =
    subst (λ (x : List Gate). KeepsTop x top ls next) first (subst (λ (x : List Gate). KeepsTop gs top x next) (sym last) keeps)

-- ---- joined inputs

abbrev truth_of : GateKind → NumberSet → NumberSet → List Input → Bool
truth_of kind events set ins = kind_true kind (map (input_true events set) ins)

all-append : (f : Input → Bool) (xs ys : List Input) → list_all (λ b. b) (map f (xs ++ ys)) ≡ list_all (λ b. b) (map f xs) && list_all (λ b. b) (map f ys)
all-append f xs ys = all-of f (xs ++ ys) ∙ list_all-append f xs ys ∙ ap (λ b. b && list_all f ys) (sym (all-of f xs)) ∙ ap (λ b. list_all (λ c. c) (map f xs) && b) (sym (all-of f ys))

any-append : (f : Input → Bool) (xs ys : List Input) → list_any (λ b. b) (map f (xs ++ ys)) ≡ list_any (λ b. b) (map f xs) || list_any (λ b. b) (map f ys)
any-append f xs ys = any-of f (xs ++ ys) ∙ list_any-append f xs ys ∙ ap (λ b. b || list_any f ys) (sym (any-of f xs)) ∙ ap (λ b. list_any (λ c. c) (map f xs) || b) (sym (any-of f ys))

-- two truths joined as a kind joins them
abbrev both : GateKind → Bool → Bool → Bool
both kinds.And b c = b && c
both kinds.Or b c = b || c
both (kinds.AtLeast k) b c = false

pub truth-append : (kind : GateKind) → IsJoin kind → (f : Input → Bool) (xs ys : List Input) → kind_true kind (map f (xs ++ ys)) ≡ both kind (kind_true kind (map f xs)) (kind_true kind (map f ys))
truth-append kinds.And is f xs ys = all-append f xs ys
truth-append kinds.Or is f xs ys = any-append f xs ys
truth-append (kinds.AtLeast k) is f xs ys = absurd is

both-swap : (kind : GateKind) → IsJoin kind → (a b c : Bool) → both kind (both kind a c) b ≡ both kind a (both kind b c)
both-swap kinds.And is true true true = refl
both-swap kinds.And is true true false = refl
both-swap kinds.And is true false true = refl
both-swap kinds.And is true false false = refl
both-swap kinds.And is false b c = refl
both-swap kinds.Or is true b c = refl
both-swap kinds.Or is false true true = refl
both-swap kinds.Or is false true false = refl
both-swap kinds.Or is false false true = refl
both-swap kinds.Or is false false false = refl
both-swap (kinds.AtLeast k) is a b c = refl

truth-one : (kind : GateKind) → IsJoin kind → (f : Input → Bool) (x : Input) → kind_true kind (map f (x ∷ [])) ≡ f x
truth-one kinds.And is f x = and-true (f x)
  where
    and-true : (b : Bool) → b && true ≡ b
    and-true true = refl
    and-true false = refl
truth-one kinds.Or is f x = or-false (f x)
  where
    or-false : (b : Bool) → b || false ≡ b
    or-false true = refl
    or-false false = refl
truth-one (kinds.AtLeast k) is f x = absurd is

-- an input goes to the list
pub put-aside : (kind : GateKind) → IsJoin kind → (f : Input → Bool) (list left : List Input) (x : Input) → kind_true kind (map f ((list ++ x ∷ []) ++ left)) ≡ kind_true kind (map f (list ++ (left ++ x ∷ [])))
put-aside kind is f list left x =
    truth-append kind is f (list ++ x ∷ []) left ∙ ap (λ b. both kind b (kind_true kind (map f left))) (truth-append kind is f list (x ∷ []))
    ∙ both-swap kind is (kind_true kind (map f list)) (kind_true kind (map f left)) (kind_true kind (map f (x ∷ [])))
    ∙ ap (both kind (kind_true kind (map f list))) (sym (truth-append kind is f left (x ∷ []))) ∙ sym (truth-append kind is f list (left ++ x ∷ []))

-- the inputs of an input go to what is left
pub put-inner : (kind : GateKind) → IsJoin kind → (f : Input → Bool) (list left inner : List Input) (x : Input) → kind_true kind (map f inner) ≡ f x → kind_true kind (map f (list ++ (left ++ inner))) ≡ kind_true kind (map f (list ++ (left ++ x ∷ [])))
put-inner kind is f list left inner x same =
    truth-append kind is f list (left ++ inner)
    ∙ ap (both kind (kind_true kind (map f list))) (truth-append kind is f left inner ∙ ap (both kind (kind_true kind (map f left))) (same ∙ sym (truth-one kind is f x)) ∙ sym (truth-append kind is f left (x ∷ [])))
    ∙ sym (truth-append kind is f list (left ++ x ∷ []))
