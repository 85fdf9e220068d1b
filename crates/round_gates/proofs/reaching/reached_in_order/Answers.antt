use Rattle.std.proofs.Common.{◌∙◌, sym}
use Rattle.round_gates.proofs.Names.{names-rise}
use Rattle.round_gates.proofs.reaching.reached_in_order.Goals as goal

pub returns-clause-reached : goal.returns-clause-reached
returns-clause-reached c =
    record {
      right = λ key has. c.in_ok-keys.ensures.right key (sym (c.in_ok-sort.ensures.reordered.2 key) ∙ has);
      all = λ key is. c.in_ok-sort.ensures.reordered.2 key ∙ c.in_ok-keys.ensures.all key is;
    }

pub returns-clause-rise : goal.returns-clause-rise
returns-clause-rise c = names-rise c.sort.new.self.keys c.in_ok-sort.ensures.sorted c.in_ok-sort.ensures.unique
