use Rattle.std.proofs.Common.{◌≡◌, ℕ, ◌<◌, Bool, true, false, List, ◌∷◌, ◌++◌, codes, flat_map, if◌then◌else◌, length, nat_lt, take, min, sym, ap, subst, arith, ◌∙◌}
use Rattle.std.proofs.lemmas.Bool.Decides.{nat_tests}
use Rattle.std.proofs.lemmas.List.{length-take}
use Rattle.plain_values.specs.declared.refusal.Refusal.{Refusal}
use Rattle.noted_refusals.specs.inner.Noted.{Lists, Noted}
use Rattle.refusal_lines.specs.Text.{end_line, lines_of, most_refusals, refusals_text}
use Rattle.refusal_lines.proofs.text.group_text.Goals as goal

-- all are noted where there is room left
all-noted : (group : List Refusal) → nat_lt (length (take most_refusals group)) most_refusals ≡ nat_lt (length group) most_refusals
all-noted group =
    let long = length-take most_refusals group in
    grind (arith, nat_tests, long)

pub returns : goal.returns
returns c group lists =
    let files = c.args.files.now in
    let texts = c.args.texts.now in
    let first = c.args.first.now in
    let noted : Noted = c.args.refusals.now in
    let room : noted.room ≡ most_refusals = sym c.room.ensures ∙ c.if-room-ne-MOST_REFUSALS.false in
    let kept : c.kept-kept.result.now ≡ take most_refusals group = c.kept-kept.ensures ∙ lists ∙ ap (λ n. take n group) room in
    let lines = c.in_ok-text.ensures ∙ ap (flat_map (λ line. line)) (c.as_slice.ensures.value ∙ c.in_ok-lines.ensures ∙ ap (λ others. lines_of files texts (first ∷ others)) kept) in
    let ending = c.end_line.ensures ∙ ap (λ others. if nat_lt (length others) most_refusals then codes "end\n" else codes "more\n") kept ∙ ap (λ all. if all then codes "end\n" else codes "more\n") (all-noted group) in
    c.in_ok-extend_from_slice.ensures.items ∙ (λ i. lines i ++ ending i)
