use Rattle.std.proofs.Common.{nat_eq, [], ◌∷◌, map, sym, ap, ◌∙◌, ◌^◌}
use Rattle.std.specs.HashMap.{get}
use Rattle.std.specs.Prelude.{reverse}
use Rattle.std.proofs.lemmas.List.{reverse-append}
use Rattle.error_libraries.proofs.MarkLaws.{fewer, marks-left}
use Rattle.error_libraries.proofs.course.Course.leave.Goals as goal

pub invariant_of-result : goal.invariant_of-result
invariant_of-result c =
    let below = ap reverse c.in-Some.ensures.items ∙ reverse-append c.pop.new.self.items (c.in-Some.next ∷ []) in (
      marks-left nat_eq c.top.inside.library c.self.inside.vain.items c.push.new.self.items _ (map (λ frame. frame.library) (c.in-Some.next ∷ reverse c.pop.new.self.items)) (get nat_eq c.self.inside.marks) (get nat_eq c.insert.new.self)
          c.in_ok-push.ensures.items (λ i. sym (ap (λ frame. frame.library) c.top.view_is) i ∷ map (λ frame. frame.library) (below i)) c.in_ok-insert.ensures.updates.0 c.self.invariant.0,
      fewer (2 ^ 32) c.self.inside.below.items c.pop.new.self.items c.in-Some.next c.in-Some.ensures.items c.self.invariant.1,
    )
