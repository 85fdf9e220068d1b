use Rattle.std.proofs.Common.{ℕ, sym, subst, ◌∙◌}
use Rattle.backward_slice.specs.Slices.{IsSlice}
use Rattle.requirement_lines.specs.Rulings.{IsRulingOn}
use Rattle.requirement_lines.proofs.judging.judge_part.Goals as goal

pub ruling_on-requires-clause-slice : goal.ruling_on-requires-clause-slice
ruling_on-requires-clause-slice c =
    let slice = c.requires.slice.is_slice in
    subst (λ (target : ℕ). IsSlice c.args.system.now target c.args.part.now) (sym slice.target_is) slice

pub ruling_on-requires-clause-found : goal.ruling_on-requires-clause-found
ruling_on-requires-clause-found c = c.forget_if_full.ensures c.args.system.now c.requires.found

pub returns-in_err-name-clause-found : goal.returns-in_err-name-clause-found
returns-in_err-name-clause-found c = c.forget_if_full.ensures c.args.system.now c.requires.found

pub returns-clause-judged : goal.returns-clause-judged
returns-clause-judged c =
    let part = c.args.part.now in
    let named = c.args.named.now in
    let ruling = c.in_ok-ruling.ruling in
    record {
      name = c.in_ok-name.ensures ∙ c.items.ensures.items;
      slice = part;
      served = c.requires.slice;
      ruling = subst (λ (target : ℕ). IsRulingOn c.args.system.now c.args.known.now.rates.now target part.events named.sentence ruling) c.requires.slice.is_slice.target_is c.in_ok-ruling.ensures.ruling;
    }
