-- Why a Galileo text is refused.
use Rattle.std.specs.Prelude.{◌≡◌, Bool, List, ℕ}
use Rattle.plain_values.specs.declared.refusal.Code.TheVariants as code
use Rattle.plain_values.specs.declared.refusal.Place.TheVariants.{At, Whole}
use Rattle.plain_values.specs.declared.refusal.Refusal.{Refusal}
use Rattle.plain_values.specs.Refusal.{refusal}
use Rattle.galileo_reader.specs.declared.tree.Flaw.{Flaw}
use Rattle.galileo_reader.specs.declared.tree.Flaw.TheVariants.{BadLine, DynamicGate, BadCount, DuplicateNode, NoTop, UnknownNode, Cyclic}
use Rattle.galileo_reader.specs.Trees.{IsFlawed}

-- what is wrong with the text of the file of the number 0, as a refusal
abbrev pub flaw_refusal : Flaw → Refusal
flaw_refusal (BadLine at) = refusal code.BadLine (At 0 at)
flaw_refusal (DynamicGate at) = refusal code.DynamicGate (At 0 at)
flaw_refusal (BadCount at) = refusal code.BadCount (At 0 at)
flaw_refusal (DuplicateNode at) = refusal code.DuplicateNode (At 0 at)
flaw_refusal NoTop = refusal code.NoTop (Whole 0)
flaw_refusal (UnknownNode at) = refusal code.UnknownNode (At 0 at)
flaw_refusal (Cyclic at) = refusal code.Cyclic (At 0 at)

-- G1 or G7, G6, G4, G5, G2, G3: this is what is wrong with the text, in the first reading or in the wide one.
abbrev pub LacksNamedTree : Bool → List ℕ → Refusal → Type 0
LacksNamedTree wide text its = (flaw : Flaw) × IsFlawed wide text flaw × (its ≡ flaw_refusal flaw)
