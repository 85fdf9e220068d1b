use Rattle.std.proofs.Common.{◌≡◌, ◌++◌, List, OnOk, ap, ◌∙◌, subst}
use Rattle.propagation_links.specs.declared.link.Link.{Link}
use Rattle.propagation_links.specs.Ends.{connection_end}
use Rattle.propagation_links.specs.Links.{carried_between}
use Rattle.propagation_links.proofs.carried_links.add_joined.Goals as goal

pub returns : goal.returns
returns c =
    let pointed = c.args.pointed.now in
    let from = c.connection_end-from.ensures ∙ ap (connection_end pointed c.args.number c.args.access) c.items.ensures.items in
    let to = c.connection_end-to.ensures ∙ ap (connection_end pointed c.args.number c.args.access) c.items-2.ensures.items in
    subst (λ (more : List Link). OnOk c.add_between.result (c.add_between.new.links ≡ c.args.links.now ++ more)) (λ i. carried_between pointed c.args.stated.now (c.goes_both.ensures i) (from i) (to i)) c.add_between.ensures
