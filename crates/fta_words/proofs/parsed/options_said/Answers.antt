use Rattle.std.proofs.Common.{◌≡◌, ◌∙◌, ap, ap₂, subst, sym}
use Rattle.clap.specs.Words.{is_simple, matches_of, takes}
use Rattle.clap.specs.declared.error.kind.ErrorKind.TheVariants as kind
use Rattle.fta_words.specs.inner.Parsed.{StandIn}
use Rattle.fta_words.proofs.Found.{is_simple_line, rows_are, stand_in, takes_options}
use Rattle.std.proofs.lemmas.Bool.{false≢true}
use Rattle.fta_words.proofs.parsed.options_said.Goals.{in-OutOfMemory, in_default}
use Rattle.fta_words.proofs.parsed.options_said.Goals as goal

pub prove-unreachable-requires : goal.prove-unreachable-requires
prove-unreachable-requires c =
    let given = c.requires.0 in
    let taken = ap₂ takes c.in_ok-line.ensures c.requires.1 ∙ takes_options given c.requires.2 in
    let is : c.kind.result ≡ kind.OutOfMemory = c.kind.ensures ∙ c.in-Err.ensures.passes taken in
    elim c.match-matches-2.branch [ in-OutOfMemory w ↦ false≢true (sym c.if-prove.true ∙ w.matches-is) | in_default w ↦ w.in_default.not-OutOfMemory is ]

pub returns-in-Ok : goal.returns-in-Ok
returns-in-Ok c = λ given words options.
    let rows = (c.in-Ok.ensures.matches (ap is_simple c.in_ok-line.ensures ∙ is_simple_line)).0 ∙ ap₂ matches_of c.in_ok-line.ensures words ∙ rows_are given options in
    c.options_found.ensures given (subst (λ r. StandIn r given) (sym rows) (stand_in given options))
