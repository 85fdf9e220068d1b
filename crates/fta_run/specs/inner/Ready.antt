-- The text of an answer that is ready.
use Rattle.std.specs.Prelude.{ℕ, List, ◌++◌}
use Rattle.system_answers.specs.inner.Forms.{tree_bytes}
use Rattle.fta_run.specs.Required.{Output}
use Rattle.fta_run.specs.declared.ready.Answer.{Answer}
use Rattle.fta_run.specs.declared.ready.Held.{Held}
use Rattle.fta_run.specs.declared.ready.Held.TheVariants.{Fixed, Text, Bytes, Page, Sized}
use Rattle.fta_run.specs.declared.ready.Ready.{Ready}
use Rattle.fta_run.specs.declared.ready.Ready.TheVariants as ready

-- the text of an answer that is held
abbrev pub held_text : Held → List ℕ
held_text (Fixed text) = text.now
held_text (Text text) = text.items
held_text (Bytes text) = text
held_text (Page page) = page
held_text (Sized numbers page) = numbers.items ++ page

-- the text of an answer
abbrev pub ready_text : Ready → List ℕ
ready_text (ready.Held held) = held_text held
ready_text (ready.Tree text) = tree_bytes text
ready_text (ready.Table lines) = lines
ready_text (ready.Sheet lines) = lines

-- what an answer writes, and whether it tells of no requirement that is not met
abbrev pub answer_output : Answer → Output
answer_output answer = record { text = ready_text answer.ready; met = answer.met }

-- The text is made line by line while it is written.
abbrev pub IsByLines : Ready → Type 0
IsByLines (ready.Held held) = ⊥
IsByLines (ready.Tree text) = Unit {0}
IsByLines (ready.Table lines) = Unit {0}
IsByLines (ready.Sheet lines) = Unit {0}
