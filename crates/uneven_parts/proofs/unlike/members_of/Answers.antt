use Rattle.std.proofs.Common.{ap, get_or, sym, ◌++◌, ◌∙◌}
use Rattle.std.proofs.lemmas.List.{get_or_default}
use Rattle.package_index.proofs.Loops.{numbered-more}
use Rattle.model_facts.specs.declared.keys.FactKey.{FactKey}
use Rattle.model_facts.specs.declared.keys.FactKind.TheVariants.{State}
use Rattle.uneven_parts.specs.Unlike.{member_with}
use Rattle.uneven_parts.proofs.unlike.members_of.Goals as goal

pub loop-number-preserved : goal.loop-number-preserved
loop-number-preserved c one =
    let facts = c.args.facts.now in
    let i = c.loop-number.number in
    let none : FactKey = record { owner = 0; kind = State 0 } in
    let fact : FactKey = get_or facts i none in
    c.in_ok-add_member.ensures one ∙ ap (λ front. front ++ member_with c.args.parts.now one i fact) (c.loop-number.invariant one)
    ∙ sym (numbered-more (member_with c.args.parts.now one) facts i fact c.loop-number-test.true (get_or_default facts i none fact c.loop-number-test.true))
