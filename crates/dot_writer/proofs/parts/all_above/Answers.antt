use Rattle.std.proofs.Common.{◌+◌, ◌≡◌, [], ◌∷◌, ◌++◌, length, map, ap, ◌∙◌, sym, arith}
use Rattle.std.specs.List.{range_with_len}
use Rattle.std.proofs.lemmas.List.FromFn.{map-range_with_len_more}
use Rattle.dot_writer.specs.inner.DotText.{above_at}
use Rattle.dot_writer.proofs.Heads.{one-up}
use Rattle.dot_writer.proofs.parts.all_above.Goals as goal

pub loop-position-preserved : goal.loop-position-preserved
loop-position-preserved c =
    let usages = c.args.usages.now in
    let position = c.loop-position.position in
    let here : 0 + position ≡ position = omega arith in (
      omega (arith, c.loop-position-test.true, c.len_u32-position-end.ensures),
      c.in_ok-push.ensures.ok
          ∙ ap (λ all. all ++ c.above_at.result ∷ []) c.loop-position.invariant.1
          ∙ ap (λ n. map (above_at usages) (range_with_len 0 position) ++ n ∷ []) (c.above_at.ensures ∙ ap (λ us. above_at us position) c.items.ensures.items)
          ∙ sym (map-range_with_len_more (above_at usages) 0 position position here),
    )

pub returns : goal.returns
returns c =
    let usages = c.args.usages.now in
    let done : c.loop-position.position ≡ length usages = omega (arith, c.loop-position-test.false, c.len_u32-position-end.ensures, c.loop-position.invariant.0) in
    c.loop-position.invariant.1 ∙ ap (λ n. map (above_at usages) (range_with_len 0 n)) done ∙ sym (one-up usages)
