use Rattle.std.proofs.Common.{◌≡◌, ◌++◌, flat_map, ap, ◌∙◌}
use Rattle.noted_refusals.specs.inner.Noted.{noting}
use Rattle.component_extension.specs.Members.{marks_of, members_of, unknown_members}
use Rattle.component_extension.proofs.MemberLaws.{kind-noted, members-are}
use Rattle.component_extension.proofs.effective.members_along.Goals as goal

pub returns-clause-members : goal.returns-clause-members
returns-clause-members g c =
    let kind = g.M.MemberKind.kind in
    let all = c.in_ok-all.all.items in
    let names : c.in_ok-names.names ≡ marks_of kind all = c.in_ok-names.ensures ∙ c.in_ok-add_marks.ensures ∙ (λ i. c.new-own.ensures.items i ++ marks_of kind (c.as_slice.ensures.value i)) in
    let made : c.in_ok-members.members.items ≡ members_of kind c.in_ok-names.names all = c.in_ok-members.ensures ∙ ap (members_of kind c.in_ok-names.names) c.as_slice-3.ensures.value in
    c.in_ok-of.ensures.ok ∙ members-are kind c.args.classifiers.now all c.in_ok-names.names c.in_ok-members.members.items c.in_ok-all.ensures names made

pub returns-clause-noted : goal.returns-clause-noted
returns-clause-noted g c =
    let kind = g.M.MemberKind.kind in
    let limits = g.M.Limited.limits in
    let all = c.in_ok-all.all.items in
    let names : c.in_ok-names.names ≡ marks_of kind all = c.in_ok-names.ensures ∙ c.in_ok-add_marks.ensures ∙ (λ i. c.new-own.ensures.items i ++ marks_of kind (c.as_slice.ensures.value i)) in
    let made : c.in_ok-members.members.items ≡ members_of kind c.in_ok-names.names all = c.in_ok-members.ensures ∙ ap (members_of kind c.in_ok-names.names) c.as_slice-3.ensures.value in
    kind-noted kind c.args.classifiers.now all c.in_ok-names.names c.in_ok-members.members.items c.in_ok-all.ensures names made limits c.args.refusals.now c.note_unknown.new.refusals c.note_all.new.refusals
    (c.note_unknown.ensures ∙ ap (λ declareds. noting c.args.refusals.now (unknown_members kind c.in_ok-names.names declareds)) c.as_slice-2.ensures.value)
    (c.note_all.ensures ∙ ap (λ members. noting c.note_unknown.new.refusals (flat_map limits members)) c.as_slice-4.ensures.value)
