use Rattle.std.proofs.Common.{ap, ◌∙◌, length, slice_index_or}
use Rattle.cutset_lister.proofs.Seeking.{sought_in, sought_left, sought_same, sought_steps}
use Rattle.cutset_lister.proofs.walk.Listing.seek.Goals as goal

pub skip-self-inside-requires-clause-found : goal.skip-self-inside-requires-clause-found
skip-self-inside-requires-clause-found g c =
    sought_in c.args.store.now (record { parts = c.self.inside.parts.items; begun = c.self.inside.begun; path = c.self.inside.path; rest = c.self.inside.rest }) c.part_of_size-family.result c.args.after.now c.laws.ensures
    (rw c.self.view_is c.requires) (c.part_of_size-family.ensures ∙ ap (λ parts. slice_index_or parts (length c.args.after.now) (record { position = 0 })) c.as_slice.ensures.value)

pub returns-clause-left : goal.returns-clause-left
returns-clause-left g c = rw (← c.self.view_is)
    (sought_left c.args.store.now (record { parts = c.self.inside.parts.items; begun = c.self.inside.begun; path = c.self.inside.path; rest = c.self.inside.rest }) c.part_of_size-family.result c.args.after.now c.laws.ensures
    (rw c.self.view_is c.requires) (c.part_of_size-family.ensures ∙ ap (λ parts. slice_index_or parts (length c.args.after.now) (record { position = 0 })) c.as_slice.ensures.value)
    c.skip-self-inside.new.path c.skip-self-inside.result c.skip-self-inside.ensures.left)

pub returns-clause-same : goal.returns-clause-same
returns-clause-same g c = rw (← c.self.view_is)
    (sought_same c.args.store.now (record { parts = c.self.inside.parts.items; begun = c.self.inside.begun; path = c.self.inside.path; rest = c.self.inside.rest }) c.part_of_size-family.result c.args.after.now c.laws.ensures
    (rw c.self.view_is c.requires) (c.part_of_size-family.ensures ∙ ap (λ parts. slice_index_or parts (length c.args.after.now) (record { position = 0 })) c.as_slice.ensures.value)
    c.skip-self-inside.new.path c.skip-self-inside.result c.skip-self-inside.ensures.left c.skip-self-inside.ensures.frames_in c.skip-self-inside.ensures.found (c.skip-self-inside.ensures.room ∙ ap (λ p. p.room) c.clear.ensures))

pub returns-clause-steps : goal.returns-clause-steps
returns-clause-steps g c = rw (← c.self.view_is)
    (sought_steps c.args.store.now (record { parts = c.self.inside.parts.items; begun = c.self.inside.begun; path = c.self.inside.path; rest = c.self.inside.rest }) c.part_of_size-family.result c.args.after.now c.laws.ensures
    (rw c.self.view_is c.requires) (c.part_of_size-family.ensures ∙ ap (λ parts. slice_index_or parts (length c.args.after.now) (record { position = 0 })) c.as_slice.ensures.value)
    c.args.steps.now c.skip-self-inside.new.steps c.skip-self-inside.ensures.steps)
