-- Small cases of the definitions, worked.
use Rattle.std.proofs.Common.{ℕ, zero, suc, ◌≡◌, ◌==◌, List, [], ◌∷◌, if◌then◌else◌, refl}
use Rattle.fault_system.specs.declared.formula.Formula.TheOpen.{Event, Fact, And, Or, AtLeast}
use Rattle.round_gates.specs.declared.node.GateKind.{GateKind}
use Rattle.round_gates.specs.declared.node.GateKind.TheVariants as kinds
use Rattle.round_gates.specs.declared.node.Join.TheVariants.{Plain, Made}
use Rattle.round_gates.specs.declared.node.Line.{Line}
use Rattle.round_gates.specs.declared.node.Node.{Node}
use Rattle.round_gates.specs.declared.node.Node.TheVariants.{Always, Never, Basic, Gate}
use Rattle.round_gates.specs.declared.node.Stage.{Stage}
use Rattle.round_gates.specs.Nodes.{all_of, any_of, least_of}
use Rattle.round_gates.specs.Walks.{Walked, walk_step}

-- a false node makes `And` false; true and repeated nodes go
and_false : all_of (Basic 0 ∷ Never ∷ []) ≡ Plain Never
and_false = refl

and_one : all_of (Basic 0 ∷ Always ∷ Basic 0 ∷ []) ≡ Plain (Basic 0)
and_one = refl

and_none : all_of (Always ∷ []) ≡ Plain Always
and_none = refl

-- a true node makes `Or` true; false and repeated nodes go
or_true : any_of (Basic 0 ∷ Always ∷ []) ≡ Plain Always
or_true = refl

or_two : any_of (Basic 1 ∷ Never ∷ Basic 0 ∷ Basic 1 ∷ []) ≡ Made kinds.Or (Basic 1 ∷ Basic 0 ∷ [])
or_two = refl

-- a true node lowers the number that is asked for, and at least one of the nodes left is `Or`
least_lowered : least_of 2 (Always ∷ Basic 0 ∷ Never ∷ Basic 1 ∷ []) ≡ Made kinds.Or (Basic 0 ∷ Basic 1 ∷ [])
least_lowered = refl

-- as many as there are is `And`, where equal nodes are one; more than there are is false; none is true
least_all : least_of 2 (Basic 0 ∷ Basic 0 ∷ []) ≡ Plain (Basic 0)
least_all = refl

least_many : least_of 2 (Basic 0 ∷ []) ≡ Plain Never
least_many = refl

least_none : least_of 1 (Always ∷ []) ≡ Plain Always
least_none = refl

least_some : least_of 2 (Basic 0 ∷ Basic 0 ∷ Basic 1 ∷ []) ≡ Made (kinds.AtLeast 2) (Basic 0 ∷ Basic 0 ∷ Basic 1 ∷ [])
least_some = refl

-- the first stage of a fact
abbrev first : Stage
first = record { fact = 7; stage = 1 }

abbrev gate : ℕ → GateKind → List Node → Line
gate place kind inputs = record { key = record { fact = 7; stage = 1; place = place }; kind = kind; inputs = inputs }

abbrev at : ℕ → Node
at place = Gate (record { fact = 7; stage = 1; place = place })

-- each fact stands for what is true
abbrev true_facts : ℕ → Node
true_facts n = Always

abbrev event : ℕ → ℕ → Walked
event n = walk_step first true_facts (Event n)

abbrev fact : ℕ → Walked
fact = walk_step first true_facts (Fact 0)

-- 2 of e0, e0 and e1, behind a source that is true: the second e0 is the gate at its own place
abbrev two_of_three : ℕ → Walked
two_of_three = walk_step first true_facts (Or (walk_step first true_facts (And (fact ∷ walk_step first true_facts (AtLeast 2 (event 0 ∷ event 0 ∷ event 1 ∷ [])) ∷ [])) ∷ []))

counted : two_of_three 0 ≡ record { node = at 3; next = 7; lines = gate 5 kinds.Or (Basic 0 ∷ []) ∷ gate 3 (kinds.AtLeast 2) (Basic 0 ∷ at 5 ∷ Basic 1 ∷ []) ∷ [] }
counted = refl

-- e0, or e0 and e1: two gates, and the parts' places
either : walk_step first true_facts (Or (walk_step first true_facts (And (fact ∷ event 0 ∷ [])) ∷ walk_step first true_facts (And (fact ∷ walk_step first true_facts (And (event 0 ∷ event 1 ∷ [])) ∷ [])) ∷ [])) 0
    ≡ record { node = at 0; next = 9; lines = gate 6 kinds.And (Basic 0 ∷ Basic 1 ∷ []) ∷ gate 0 kinds.Or (Basic 0 ∷ at 6 ∷ []) ∷ [] }
either = refl

-- 2 of e0, e1 and e2
three : walk_step first true_facts (Or (walk_step first true_facts (And (fact ∷ walk_step first true_facts (AtLeast 2 (event 0 ∷ event 1 ∷ event 2 ∷ [])) ∷ [])) ∷ [])) 0
    ≡ record { node = at 3; next = 7; lines = gate 3 (kinds.AtLeast 2) (Basic 0 ∷ Basic 1 ∷ Basic 2 ∷ []) ∷ [] }
three = refl

-- ---- two machines that feed each other

-- a machine, fact 2 or 5, fails by its own event, or by what comes in, fact 3 or 6; that is what the other sends, fact 7 or 4,
-- which is that the other has failed; fact 1 is always true
abbrev failed : Stage → (ℕ → Node) → ℕ → ℕ → Walked
failed stage look own into =
    walk_step stage look
    (Or
    (walk_step stage look
    (And
    (walk_step stage look (Fact 1) ∷ walk_step stage look (Or (walk_step stage look (Event own) ∷ walk_step stage look (Or (walk_step stage look (Fact into) ∷ [])) ∷ [])) ∷ []))
    ∷ []))
    0

abbrev passed : Stage → (ℕ → Node) → ℕ → Walked
passed stage look from = walk_step stage look (Or (walk_step stage look (Fact from) ∷ [])) 0

-- what the facts give in a stage
abbrev in_stage : (ℕ → Node) → ℕ → ℕ → Walked
in_stage look stage fact =
    let here : Stage = record { fact = fact; stage = stage } in
    if fact == 2 then failed here look 0 3
    else (if fact == 3 then passed here look 7
    else (if fact == 4 then passed here look 2
    else (if fact == 5 then failed here look 1 6
    else (if fact == 6 then passed here look 4
    else passed here look 5))))

abbrev loop_nodes : ℕ → ℕ → Node
loop_nodes zero fact = if fact == 1 then Always else Never
loop_nodes (suc stage) fact = if fact == 1 then Always else (in_stage (loop_nodes stage) (suc stage) fact).node

abbrev line_in : ℕ → ℕ → ℕ → GateKind → List Node → Line
line_in fact stage place kind inputs = record { key = record { fact = fact; stage = stage; place = place }; kind = kind; inputs = inputs }

-- in their last stages each is a gate over both events, its own first
first_machine : (in_stage (loop_nodes 5) 6 2).lines ≡ line_in 2 6 3 kinds.Or (Basic 0 ∷ Basic 1 ∷ []) ∷ []
first_machine = refl

second_machine : (in_stage (loop_nodes 5) 6 5).lines ≡ line_in 5 6 3 kinds.Or (Basic 1 ∷ Basic 0 ∷ []) ∷ []
second_machine = refl

-- what needs both is a gate over these two
needs_both : walk_step first (loop_nodes 6) (Or (walk_step first (loop_nodes 6) (And (walk_step first (loop_nodes 6) (Fact 2) ∷ walk_step first (loop_nodes 6) (Fact 5) ∷ [])) ∷ [])) 0
    ≡ record {
      node = at 1;
      next = 4;
      lines = gate 1 kinds.And (Gate (record { fact = 2; stage = 6; place = 3 }) ∷ Gate (record { fact = 5; stage = 6; place = 3 }) ∷ []) ∷ [];
    }
needs_both = refl

-- a machine that fails by what comes in alone never does: its second stage is as its first
fed_alone : (walk_step first (loop_nodes 0) (Or (walk_step first (loop_nodes 0) (And (walk_step first (loop_nodes 0) (Fact 1) ∷ walk_step first (loop_nodes 0) (Or (walk_step first (loop_nodes 0) (Fact 3) ∷ [])) ∷ [])) ∷ [])) 0).node ≡ Never
fed_alone = refl
