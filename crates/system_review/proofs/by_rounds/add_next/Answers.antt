use Rattle.std.proofs.Common.{sym, ◌∙◌}
use Rattle.system_review.proofs.Following.{added-set, none-set}
use Rattle.system_review.proofs.by_rounds.add_next.Goals as goal

pub returns-clause-next : goal.returns-clause-next
returns-clause-next c =
    added-set c.args.system.now c.args.among.now c.args.found.now c.items.result.now c.in_ok-more.more c.items-2.result.now c.append.new.found c.items.ensures.items c.in_ok-more.ensures c.items-2.ensures.items c.in_ok-append.ensures

pub returns-then-len_u32-eq0-clause-next : goal.returns-then-len_u32-eq0-clause-next
returns-then-len_u32-eq0-clause-next c =
    none-set c.args.system.now c.args.among.now c.args.found.now c.items.result.now c.in_ok-more.more c.items.ensures.items c.in_ok-more.ensures (sym c.len_u32.ensures ∙ c.if-len_u32-eq0.true)
