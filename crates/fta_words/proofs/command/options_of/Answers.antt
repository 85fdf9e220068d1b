use Rattle.std.proofs.Common.{Bor, List, ℕ, map, ap, ◌∙◌}
use Rattle.fta_words.proofs.AllKinds.{all_options, are_text}
use Rattle.fta_words.proofs.command.options_of.Goals as goal

pub returns-in_default : goal.returns-in_default
returns-in_default c = λ given words options said say. (rw c.in_default.is at c.in_ok-texts.ensures) (are_text c.args.kind c.args.words.now c.requires)

pub options_said-requires : goal.options_said-requires
options_said-requires c =
    let have = c.requires in
    let texts = rw c.in-Some.is at c.in_ok-texts.ensures in
    (have.0, ap (map (λ (t : Bor (List ℕ)). t.now)) c.as_slice.ensures.value ∙ texts ∙ have.1, all_options c.args.kind have.0 have.2)

pub returns : goal.returns
returns c = λ given words options.
    let texts = rw c.in-Some.is at c.in_ok-texts.ensures in
    c.options_said.ensures given (ap (map (λ (t : Bor (List ℕ)). t.now)) c.as_slice.ensures.value ∙ texts ∙ words) (all_options c.args.kind given options)
