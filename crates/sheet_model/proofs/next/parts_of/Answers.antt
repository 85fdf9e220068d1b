use Rattle.std.proofs.Common.{◌+◌, ◌++◌, ◌≡◌, ◌∷◌, [], suc, map, ap, ◌∙◌, sym, arith}
use Rattle.std.specs.Prelude.{slice_index_or}
use Rattle.std.proofs.lemmas.List.{map-append}
use Rattle.plain_values.specs.Numbered.{numbers_below}
use Rattle.sheet_model.specs.Parts.{part_of}
use Rattle.sheet_model.proofs.next.parts_of.Goals as goal

pub loop-number-preserved : goal.loop-number-preserved
loop-number-preserved c =
    let links = c.args.links.now in
    let n = c.loop-number.number in
    let part = part_of c.args.instance.now links in
    let one : n + 1 ≡ suc n = omega arith in
    let is = c.in_ok-part.ensures links (ap (λ lists. slice_index_or lists n []) c.as_slice.ensures.value ∙ c.in_ok-targets.ensures.each n c.loop-number-test.true) in
    c.in_ok-push.ensures.ok ∙ (λ i. c.loop-number.invariant i ++ is i ∷ [])
    ∙ sym (ap (λ k. map part (numbers_below k)) one ∙ map-append part (numbers_below n) (n ∷ []))
