use Rattle.std.proofs.Common.{rules, ◌∙◌, sym}
use Rattle.cutset_lister.proofs.Going.{none_left, went_same}
use Rattle.cutset_lister.proofs.walk.Listing.advance.Goals as goal

pub returns-then-eq-clause-left : goal.returns-then-eq-clause-left
returns-then-eq-clause-left g c =
    let now = none_left c.args.store.now c.first_family-family.new.self c.first_family-family.result c.laws.ensures c.first_family-family.ensures.rest (search rules) c.first_family-family.ensures.end in
    (sym (c.first_family-family.ensures.left c.args.store.now c.laws.ensures) ∙ now, now)

pub returns-clause-same : goal.returns-clause-same
returns-clause-same g c =
    let same = c.first_family-family.ensures.same c.args.store.now c.laws.ensures c.requires in
    went_same c.args.store.now c.args.self.now (record { parts = c.self.inside.parts.items; begun = c.self.inside.begun; path = c.self.inside.path; rest = c.self.inside.rest }) c.descend.new.path (record { position = 0 })
    (rw c.self.view_is same) c.descend.ensures.room (c.descend.ensures.place (record { position = 0 }) (search rules))
