use Rattle.std.proofs.Common.{◌≡◌, ◌∙◌, rules}
use Rattle.std.specs.Prelude.{codes}
use Rattle.cutset_lister.proofs.Scans.{none-one, scan-found, scan-none, scan-one}
use Rattle.cutset_lister.proofs.tokens.read_token.Goals as goal

pub returns-then-is_same-clause-one : goal.returns-then-is_same-clause-one
returns-then-is_same-clause-one c = λ set has.
    let text : c.args.text.now ≡ codes "none" = search rules in
    c.new.ensures ∙ none-one c.args.system.now c.args.text.now set c.requires text has

pub returns-then-place-text-clause-one : goal.returns-then-place-text-clause-one
returns-then-place-text-clause-one c = λ set has. absurd (scan-none c.args.system.now c.args.text.now c.in_ok-set.set.items c.in_ok-set.place c.in_ok-set.ensures (search rules) c.if-place-text.true set has)

pub returns-then-place-text-clause-refused : goal.returns-then-place-text-clause-refused
returns-then-place-text-clause-refused c = (λ set has. scan-none c.args.system.now c.args.text.now c.in_ok-set.set.items c.in_ok-set.place c.in_ok-set.ensures (search rules) c.if-place-text.true set has, c.of_words.ensures)

pub returns-clause-set : goal.returns-clause-set
returns-clause-set c =
    rw c.in_ok-set-2.ensures.ok (scan-found c.args.system.now c.args.text.now c.in_ok-set.set.items c.in_ok-set.place c.in_ok-set.ensures (search rules) c.if-place-text.false)

pub returns-clause-one : goal.returns-clause-one
returns-clause-one c = λ set has. c.in_ok-set-2.ensures.ok ∙ scan-one c.args.system.now c.args.text.now c.in_ok-set.set.items c.in_ok-set.place c.in_ok-set.ensures (search rules) set has
