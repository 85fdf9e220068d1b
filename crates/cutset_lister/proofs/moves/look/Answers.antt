use Rattle.std.proofs.Common.{◌≡◌, Option, None, Some, IfSome}
use Rattle.zdd_store.specs.inner.Family.{Family, least_number}
use Rattle.zdd_store.specs.inner.Store.{Families, family_of, family_with, Fits, IsSound}
use Rattle.zdd_store.specs.declared.id.Node.{Node}
use Rattle.zdd_families.proofs.Splits.{least-node}
use Rattle.cutset_lister.proofs.moves.look.Goals as goal

least_var : (store : Families) (family : Family) (found : Option Node) → IsSound store → IfSome found (Fits store) → IfSome found (λ node. family ≡ family_with store node) → IfSome found (λ node. least_number family ≡ node.var)
least_var store family None sound fits is = tt
least_var store family (Some node) sound fits is = least-node store node family sound fits is

pub returns-clause-least : goal.returns-clause-least
returns-clause-least g c = least_var c.args.store.now (family_of c.args.store.now c.args.id) c.node.result c.laws.ensures c.node.ensures.fits c.node.ensures.family
