use Rattle.std.proofs.Common.{◌≡◌, ◌+◌, ◌++◌, true, false, drop, length, take, ap, ◌∙◌, sym, le_refl, eqb}
use Rattle.std.specs.List.{between, starts_with}
use Rattle.std.proofs.lemmas.Slice.{between_to_end}
use Rattle.fta_words.proofs.Identifiers.{not_here, split_at}
use Rattle.fta_words.proofs.text.split_once.Goals as goal

pub returns-then-starts_with-clause-parts : goal.returns-then-starts_with-clause-parts
returns-then-starts_with-clause-parts c =
    let text = c.args.text.now in
    let at = c.loop-at.at in
    let sign = c.args.sign.now in
    let rest : between at (length text) text ≡ drop at text = between_to_end text at (length text) (le_refl (length text)) in
    let begins : starts_with eqb (drop at text) sign ≡ true = ap (λ l. starts_with eqb l sign) (sym rest) ∙ (sym c.starts_with.ensures.value ∙ c.if-starts_with.true) in
    split_at text sign at begins ∙ ap (λ l. take at text ++ (sign ++ l)) (sym (between_to_end text (at + length sign) (length text) (le_refl (length text))))

pub loop-at-preserved : goal.loop-at-preserved
loop-at-preserved c =
    λ front back whole.
    let text = c.args.text.now in
    let at = c.loop-at.at in
    let rest = between_to_end text at (length text) (le_refl (length text)) in
    let not_at : starts_with eqb (drop at text) c.args.sign.now ≡ false = ap (λ l. starts_with eqb l c.args.sign.now) (sym rest) ∙ (sym c.starts_with.ensures.value ∙ c.if-starts_with.false) in
    not_here text c.args.sign.now front back at whole (c.loop-at.invariant front back whole) not_at
