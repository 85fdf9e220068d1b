use Rattle.std.proofs.Common.{◌∙◌}
use Rattle.zdd_store.proofs.Making.{looked}
use Rattle.zdd_store.proofs.store.Store.node.Goals as goal

pub returns-clause-found : goal.returns-clause-found
returns-clause-found g c = (looked c.self.inside.nodes.keys c.args.self.now c.args.id.position c.copied.result c.self.view_is c.self.invariant.0 c.if-id-lt2.false (c.copied.ensures ∙ c.get_index.ensures.key)).there

pub returns-clause-fits : goal.returns-clause-fits
returns-clause-fits g c = (looked c.self.inside.nodes.keys c.args.self.now c.args.id.position c.copied.result c.self.view_is c.self.invariant.0 c.if-id-lt2.false (c.copied.ensures ∙ c.get_index.ensures.key)).fits

pub returns-clause-family : goal.returns-clause-family
returns-clause-family g c = (looked c.self.inside.nodes.keys c.args.self.now c.args.id.position c.copied.result c.self.view_is c.self.invariant.0 c.if-id-lt2.false (c.copied.ensures ∙ c.get_index.ensures.key)).family
