use Rattle.std.proofs.Common.{length, refl, slice_get, ◌∙◌}
use Rattle.error_types.proofs.SettleLaws.{remembers-stay, stay-more, stay-same, there-last}
use Rattle.error_types.proofs.settle.add_row.Goals as goal

pub returns-in_err-push-clause-memory : goal.returns-in_err-push-clause-memory
returns-in_err-push-clause-memory c =
    remembers-stay c.args.declarations.now c.args.memory.now _ (stay-same c.args.memory.now.rows c.push.new.self c.in_err-push.ensures.err) refl c.requires

pub returns-clause-memory : goal.returns-clause-memory
returns-clause-memory c =
    remembers-stay c.args.declarations.now c.args.memory.now _ (stay-more c.args.memory.now.rows c.push.new.self c.args.row c.in_ok-push.ensures.ok) refl c.requires

pub returns-clause-stay : goal.returns-clause-stay
returns-clause-stay c = stay-more c.args.memory.now.rows c.push.new.self c.args.row c.in_ok-push.ensures.ok

pub returns-clause-row : goal.returns-clause-row
returns-clause-row c = (λ i. slice_get (c.in_ok-push.ensures.ok i) (length (c.items.ensures.items i))) ∙ there-last c.args.memory.now.rows c.args.row
