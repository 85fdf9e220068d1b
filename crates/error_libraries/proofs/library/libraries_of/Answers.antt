use Rattle.std.proofs.Common.{◌≡◌, ◌<◌, ◌∷◌, [], ◌++◌, length, get_or, sym, ap, ◌∙◌, subst}
use Rattle.package_index.proofs.Loops.{numbered-more}
use Rattle.error_libraries.specs.Libraries.{library_of}
use Rattle.error_libraries.proofs.library.libraries_of.Goals as goal

pub loop-number-preserved : goal.loop-number-preserved
loop-number-preserved c =
    let packages = c.args.index.now in
    let unit = c.package-item.result in
    let made = c.in_ok-library.ensures ∙ ap (library_of packages c.loop-number.number) c.unit.ensures in
    c.in_ok-push.ensures.ok ∙ (λ i. c.loop-number.invariant i ++ made i ∷ [])
    ∙ sym (numbered-more (λ number unit. library_of packages number unit ∷ []) packages c.loop-number.number unit (subst (λ ps. c.loop-number.number < length ps) c.packages-package-items.ensures.packages c.loop-number-test.true) (subst (λ ps. unit ≡ get_or ps c.loop-number.number unit) c.packages-package-items.ensures.packages c.package-item.is))
