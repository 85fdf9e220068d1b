use Rattle.std.proofs.Common.{◌≡◌, IfSome, arith, sym, subst, ◌∙◌, take}
use Rattle.std.proofs.lemmas.List.Elements.{all_zip_more}
use Rattle.fta_run.specs.inner.Held.{AreFronts}
use Rattle.fta_run.proofs.input.read_files.Goals as goal

pub loop-number-preserved : goal.loop-number-preserved
loop-number-preserved g c =
    let contents = g.F.Files.contents c.args.files.now in
    let names = c.args.names.now in
    let text = c.in_ok-read_file.field-0 in
    let name = c.index-names-number.result in
    let front : IfSome (contents name) (λ whole. text ≡ take 4194305 whole) = subst (λ told. IfSome told (λ whole. text ≡ take 4194305 whole)) (c.loop-number.invariant.kept name) c.in_ok-read_file.ensures.front in
    let more = all_zip_more (λ file t. IfSome (contents file) (λ whole. t ≡ take 4194305 whole)) names c.loop-number.texts c.loop-number.number name text c.loop-number-test.true c.index-names-number.is c.loop-number.invariant.fronts front in
    record {
      fronts = subst (AreFronts contents (take _ names)) (sym c.in_ok-push.ensures.ok) more;
      kept = λ other. c.read_file.ensures.kept other ∙ c.loop-number.invariant.kept other;
      grows = λ other. omega (arith, c.read_file.ensures.never_falls other, c.loop-number.invariant.grows other);
    }
