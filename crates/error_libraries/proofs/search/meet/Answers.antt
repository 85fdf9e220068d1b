use Rattle.std.proofs.Common.{◌≡◌, true, false, Some, is_some, ◌||◌, ◌∷◌, sym, ap, ◌∙◌}
use Rattle.error_libraries.specs.inner.Course.{is_vain, way_of}
use Rattle.error_libraries.specs.Search.{is_number_in}
use Rattle.error_libraries.proofs.SearchLaws.{came-back, passed-by}
use Rattle.error_libraries.proofs.search.meet.Goals as goal

pub returns-in-Some-true : goal.returns-in-Some-true
returns-in-Some-true c =
    let course = c.args.course in
    let is = c.in-Some-true.is ∙ ap Some c.in-Some-true.field-0-test in
    let new : is_number_in course.vain c.args.library ≡ false = sym c.mark.ensures.done ∙ ap is_vain is in
    let on : is_number_in (way_of (course.top ∷ course.below)) c.args.library ≡ true =
    sym (ap (λ b. b || is_number_in (way_of (course.top ∷ course.below)) c.args.library) new) ∙ sym c.mark.ensures.entered ∙ ap is_some is in
    let whole = came-back c.args.libraries.now c.args.name.now course c.args.library c.mark.ensures.few new on in
    (ap (λ search. search.found) whole, ap (λ search. search.first) whole ∙ sym c.first.ensures)

pub returns-in-Some-false : goal.returns-in-Some-false
returns-in-Some-false c =
    sym (passed-by c.args.libraries.now c.args.name.now c.args.course c.args.library c.mark.ensures.few (sym c.mark.ensures.done ∙ ap is_vain (c.in-Some-false.is ∙ ap Some c.in-Some-false.field-0-test)))
