use Rattle.std.proofs.Common.{ap, sym, take, ◌||◌, ◌∙◌}
use Rattle.std.specs.HashSet.{contains}
use Rattle.std.specs.List.{list_any}
use Rattle.package_index.proofs.Loops.{any-more}
use Rattle.stray_bindings.specs.Stray.{Wire, is_wire}
use Rattle.stray_bindings.specs.inner.Tables.{same_wire}
use Rattle.stray_bindings.proofs.Wires.{or-assoc}
use Rattle.stray_bindings.proofs.places.add_all.Goals as goal

pub loop-member-preserved : goal.loop-member-preserved
loop-member-preserved c key =
    let members = c.args.members.now in
    let i = c.loop-member.member-index in
    let member = c.member-item.result in
    let own : Wire = (key.0, key.1.now) in
    c.in_ok-add_one.ensures key ∙ ap (λ b. b || is_wire own c.args.number member) (c.loop-member.invariant key)
    ∙ or-assoc (contains same_wire c.args.wires.now key) (list_any (is_wire own c.args.number) (take i members)) (is_wire own c.args.number member)
    ∙ ap (λ b. contains same_wire c.args.wires.now key || b) (sym (any-more members i member c.loop-member-test.true c.member-item.is (is_wire own c.args.number)))
