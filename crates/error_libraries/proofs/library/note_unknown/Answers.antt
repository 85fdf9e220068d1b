use Rattle.std.proofs.Common.{ℕ, ◌≡◌, Bool, true, false, not, Option, Some, None, is_none, is_some, refl, sym, ap, ◌∙◌}
use Rattle.std.proofs.lemmas.Bool.{false≢true}
use Rattle.noted_refusals.specs.inner.Noted.{noting}
use Rattle.plain_values.specs.declared.refusal.Code.TheVariants.{UnknownPackage}
use Rattle.plain_values.specs.Refusal.{refused_so}
use Rattle.noted_refusals.proofs.Loops.{noting-more}
use Rattle.error_libraries.specs.Libraries.{library_named}
use Rattle.error_libraries.proofs.library.note_unknown.Goals as goal

none-is : (found : Option ℕ) (b : Bool) → is_some found ≡ not b → b ≡ is_none found
none-is None true is = refl
none-is None false is = absurd (false≢true is)
none-is (Some number) true is = absurd (false≢true (sym is))
none-is (Some number) false is = refl

pub loop-reference-preserved : goal.loop-reference-preserved
loop-reference-preserved c =
    noting-more c.args.references.now c.loop-reference.reference-index c.reference-item.result c.loop-reference-test.true c.reference-item.is (λ reference. refused_so (is_none (library_named c.args.index.now c.args.home reference)) UnknownPackage reference.spot) c.loop-reference.refusals _ _
    (c.note_if.ensures ∙ ap (λ b. noting c.loop-reference.refusals (refused_so b UnknownPackage c.reference-item.result.spot)) (none-is c.library_named.result c.is_none-is_unknown.result c.is_none-is_unknown.ensures ∙ ap is_none c.library_named.ensures)) c.loop-reference.invariant
