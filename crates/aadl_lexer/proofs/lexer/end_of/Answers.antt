use Rattle.std.proofs.Common.{sym, ap, ◌∙◌}
use Rattle.std.proofs.lemmas.List.{take_rest}
use Rattle.aadl_lexer.specs.inner.Steps.{begins_annex_end}
use Rattle.aadl_lexer.proofs.Ends.{end_found}
use Rattle.aadl_lexer.proofs.lexer.end_of.Goals as goal

pub returns-then-begins_annex_end-clause-found : goal.returns-then-begins_annex_end-clause-found
returns-then-begins_annex_end-clause-found c =
    end_found c.args.text.now c.loop-at.at c.loop-at.invariant (ap begins_annex_end (sym (take_rest c.args.text.now c.loop-at.at)) ∙ sym c.begins_annex_end.ensures ∙ c.if-begins_annex_end.true)
