use Rattle.std.proofs.Common.{◌∙◌, ◌++◌, refl, ap, append_assoc, arith, sym}
use Rattle.std.proofs.lemmas.Result.{err_from_is_err_and}
use Rattle.fta_outside.specs.inner.Outside.{LacksMemory}
use Rattle.fta_outside.proofs.Writing.{blamed, took_both, wrote_not, wrote_then, wrote_until}
use Rattle.fta_outside.proofs.lines.write_lines.Goals as goal

pub returns-in_err-next : goal.returns-in_err-next
returns-in_err-next g c =
    let p = err_from_is_err_and c.from_residual.result c.from_residual.ensures.1 in
    let (front, whole, took, grows) = c.loop-line.invariant in
    wrote_until LacksMemory c.from_residual.result p.0 p.1 p.2 _ _ front (g.L.Lines.left c.loop-line.lines) _ whole took grows

pub loop-line-preserved : goal.loop-line-preserved
loop-line-preserved g c =
    let (front, whole, took, grows) = c.loop-line.invariant in
    let line = c.as_slice.result.now in
    let left = g.L.Lines.left c.next.new.self in (
      front ++ line,
      whole ∙ ap (λ rest. front ++ rest) (c.in_ok-next.ensures.line c.if-branch.true ∙ ap (λ bytes. bytes ++ left) (sym c.as_slice.ensures.value)) ∙ sym (append_assoc front line left),
      took_both (g.S.Sink.seen c.args.sink.now) (g.S.Sink.seen c.loop-line.sink) (g.S.Sink.seen c.write_all.new.sink) front line took c.in_ok-write_all.ensures.0,
      omega (arith, grows, c.in_ok-write_all.ensures.1),
    )

pub returns-in_err-write_all : goal.returns-in_err-write_all
returns-in_err-write_all g c =
    let (front, whole, took, grows) = c.loop-line.invariant in
    let line = c.as_slice.result.now in
    let left = g.L.Lines.left c.next.new.self in
    let p = err_from_is_err_and c.from_residual-in_err-write_all.result c.from_residual-in_err-write_all.ensures.1 in
    let r = c.from_residual-in_err-write_all.result in
    let t = g.S.Sink.seen c.args.sink.now in
    let u = g.S.Sink.seen c.loop-line.sink in
    let v = g.S.Sink.seen c.write_all.new.sink in
    wrote_then LacksMemory r t u v front (line ++ left) _ (whole ∙ ap (λ rest. front ++ rest) (c.in_ok-next.ensures.line c.if-branch.true ∙ ap (λ bytes. bytes ++ left) (sym c.as_slice.ensures.value))) took grows
    (wrote_not LacksMemory r p.0 p.1 u v line left (line ++ left) refl ((c.in_err-write_all.ensures.0.0, blamed c.in_err-write_all.ensures.0.1), c.in_err-write_all.ensures.1))
