use Rattle.std.proofs.Common.{◌≡◌, ◌++◌, map, take}
use Rattle.rate_keys.proofs.texts.add_named.Given as goal

abbrev pub invariant-loop-scoped : goal.invariant-loop-scoped
invariant-loop-scoped l = map (λ name. name.now) l.names ≡ map (λ name. name.now) l.fn.names ++ map (λ scoped. scoped.item.name) (take l.scoped-index l.events)
