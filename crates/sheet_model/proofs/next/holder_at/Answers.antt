use Rattle.std.proofs.Common.{◌∷◌, [], Bor, List, ℕ, map, ap, ◌∙◌, sym}
use Rattle.std.proofs.lemmas.List.{map-append}
use Rattle.sheet_model.specs.Parts.{holder_at}
use Rattle.sheet_model.proofs.NextLaws.{holder-behind}
use Rattle.sheet_model.proofs.next.holder_at.Goals as goal

pub returns : goal.returns
returns c =
    let name = λ (name : Bor (List ℕ)). name.now in
    let components = c.args.instance.now.components in
    let front = c.in_ok-_last.front.now in
    let last = c.in_ok-_last._last.now in
    c.find.ensures ∙ sym (ap (holder_at components) (ap (map name) c.in_ok-_last.ensures.cases.0 ∙ map-append name front (last ∷ [])) ∙ holder-behind components (map name front) last.now)
