use Rattle.std.proofs.Common.{refl, rules}
use Rattle.backward_slice.proofs.Adding.{marked-fact}
use Rattle.backward_slice.proofs.marking.Marking.mark_fact.Goals as goal

pub returns-in_ok-push : goal.returns-in_ok-push
returns-in_ok-push c = marked-fact c.args.self.now _ c.args.number c.args.is_led (search rules) (search rules) (search rules) c.put.ensures refl c.in_ok-push.ensures.items
