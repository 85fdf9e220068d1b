use Rattle.error_models.proofs.KindLaws.{kind-at}
use Rattle.error_models.proofs.tree.kind_number.Goals as goal

pub returns : goal.returns
returns c =
    kind-at c.args.instance.now.packages c.args.instance.now.kinds c.kinds.result.now c.args.id c.place_of.result c.kinds.ensures.kinds c.place_of.ensures
