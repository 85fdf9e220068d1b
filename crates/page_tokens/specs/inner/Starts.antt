-- Beside specs/Starts.antt: what no clause of `run` reaches.
use Rattle.std.specs.Prelude.{ℕ, ◌≡◌, ◌≢◌, List, false, codes, All}
use Rattle.fault_system.specs.Systems.{System}
use Rattle.page_tokens.specs.Forms.{begins_new}

-- a name that no token can mean in another way: it is not `start`, and does not begin as a token of the second version
abbrev pub IsPageName : List ℕ → Type 0
IsPageName name = (name ≢ codes "start") × (begins_new name ≡ false)

-- each event of the system has such a name
abbrev pub HasPageNames : System → Type 0
HasPageNames system = All (λ event. IsPageName event.name) system.events
