use Rattle.std.proofs.Common.{◌∙◌, sym, subst}
use Rattle.std.specs.Prelude.{All, ◌<◌, length}
use Rattle.std.proofs.lemmas.Result.{IfOk-weaker}
use Rattle.target_orders.specs.Text.{TellsOrders}
use Rattle.fta_run.proofs.targets.orders_of.Goals as goal

pub orders_text-requires : goal.orders_text-requires
orders_text-requires c = subst (All (λ fact. fact < length c.args.model.now.system.facts)) (sym c.items.ensures.items) c.in_ok-facts.ensures.there

pub returns : goal.returns
returns c =
    IfOk-weaker c.orders_text.result _ _
    (λ text tells. record { passed = subst (λ facts. TellsOrders c.args.model.now.system facts text.items) (c.items.ensures.items ∙ c.in_ok-facts.ensures.facts) tells }) c.orders_text.ensures
