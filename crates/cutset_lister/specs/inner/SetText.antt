-- Beside specs/SetText.antt: what no clause of `run` reaches.
use Rattle.std.specs.Prelude.{ℕ, ◌≡◌, ◌≢◌, List, codes, All, Contains}
use Rattle.plain_values.specs.declared.refusal.Stop.{Stop}
use Rattle.plain_values.specs.declared.refusal.Stop.TheVariants.{Refused, Memory}
use Rattle.plain_values.specs.declared.refusal.Code.TheVariants.{BadToken}
use Rattle.plain_values.specs.Refusal.{of_words}
use Rattle.fault_system.specs.Systems.{System}
use Rattle.cutset_lister.specs.SetText.{IsSetOfText}

-- a name that no text of a set can mean in another way: it is not `none`, and it holds no `+`
abbrev pub IsTokenName : List ℕ → Type 0
IsTokenName name = (name ≢ codes "none") × (Contains name 43 → ⊥)

-- each event of the system has such a name
abbrev pub HasTokenNames : System → Type 0
HasTokenNames system = All (λ event. IsTokenName event.name) system.events

-- K1: no set has the text, and this is the refusal; want of memory says nothing
abbrev pub IsBadToken : System → List ℕ → Stop → Type 0
IsBadToken system text Memory = Unit {0}
IsBadToken system text (Refused refusal) =
    ((set : List ℕ) → IsSetOfText system text set → ⊥) × (refusal ≡ of_words BadToken)
