use Rattle.std.proofs.Common.{ap, get_or, sym, take, ℕ, ◌++◌, ◌||◌, ◌∙◌}
use Rattle.std.proofs.lemmas.List.{append_assoc, get_or_default}
use Rattle.plain_values.specs.Numbered.{numbered_from}
use Rattle.package_index.proofs.Loops.{any-more, numbered-more}
use Rattle.uneven_parts.specs.Unlike.{is_own, likeness_at, unlike_at, unlike_by}
use Rattle.uneven_parts.proofs.unlike.add_among.Goals as goal

pub loop-place-preserved : goal.loop-place-preserved
loop-place-preserved c =
    let parts = c.args.parts.now in
    let keys = c.args.keys.now in
    let places = c.args.places.now in
    let i = c.loop-place.place in
    let number : ℕ = get_or places i 0 in
    let within = c.loop-place-test.true in
    let is = get_or_default places i 0 number within in
    record {
      found = c.in_ok-add_at.ensures ∙ (λ j. c.loop-place.invariant.found j ++ unlike_by parts keys places c.args.fact i (c.likeness_at-own.ensures j))
          ∙ append_assoc c.args.found.now (numbered_from (unlike_at parts keys places c.args.fact) 0 (take i places)) (unlike_at parts keys places c.args.fact i number)
          ∙ ap (λ rest. c.args.found.now ++ rest) (sym (numbered-more (unlike_at parts keys places c.args.fact) places i number within is));
      seen = λ one. c.in_ok-insert_some.ensures one ∙ (λ j. c.loop-place.invariant.seen one j || is_own (c.likeness_at-own.ensures j) one)
          ∙ sym (any-more places i number within is (λ number. is_own (likeness_at parts keys number) one));
    }
