use Rattle.std.proofs.Common.{◌≡◌, ◌<◌, get_or, length, min, refl, subst, arith}
use Rattle.error_types.specs.inner.Words.{Joins}
use Rattle.error_types.proofs.RowLaws.{joins-more, joins-none}
use Rattle.error_types.proofs.row.join_words.Goals as goal

pub loop-place-init : goal.loop-place-init
loop-place-init c = joins-none c.args.words.now c.args.other.now

pub loop-place-preserved : goal.loop-place-preserved
loop-place-preserved c =
    let words = c.loop-place.words in
    let place = c.loop-place.place in
    let within : place < length words = omega arith in
    joins-more c.args.words.now c.args.other.now words place (get_or words place 0) (get_or c.args.other.now place 0) c.loop-place.invariant within refl refl

pub returns : goal.returns
returns c =
    let all : c.loop-place.place ≡ min (length c.args.words.now) (length c.args.other.now) = omega arith in
    subst (Joins c.args.words.now c.args.other.now c.loop-place.words) all c.loop-place.invariant
