-- Facts whose formulas are true over facts that hold.
use Rattle.std.proofs.Common.{ℕ, ◌≡◌, true, ◌∙◌}
use Rattle.fault_system.specs.Truth.{NumberSet, Has, truth}
use Rattle.fault_system.specs.Systems.{System, Holds, IsFact}
use Rattle.fault_system.specs.declared.formula.FactInfo.{FactInfo}
use Rattle.fault_system.proofs.NumberSets.{member-map}
use Rattle.fault_system.proofs.Occurring.{truth-grows}

-- a fact holds whose formula is true over facts that hold
pub made-holds : (system : System) (events held : NumberSet) (n : ℕ) (fact : FactInfo) → IsFact system n fact → truth events held fact.formula ≡ true → ((m : ℕ) → Has held m → Holds system events m) → Holds system events n
made-holds system events held n fact at t holds xs closed =
    closed n (member-map (λ (f : FactInfo). truth events xs f.formula) system.facts n fact at ∙ truth-grows events events held xs (λ k e. e) (λ m h. holds m h xs closed) fact.formula t)
