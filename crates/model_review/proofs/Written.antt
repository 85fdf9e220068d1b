-- Where no line tells anything as hidden, no finding does.
use Rattle.std.proofs.Common.{◌≡◌, false, ◌||◌, List, [], ◌∷◌, codes, map, sym, refl, subst}
use Rattle.std.specs.List.{list_any}
use Rattle.std.proofs.lemmas.Bool.{false≢true, or_parts}
use Rattle.model_review.specs.Lines.{finding_text}
use Rattle.model_review.specs.inner.Review.{Reviews}
use Rattle.model_review.specs.Seen.{Seen}
use Rattle.model_review.specs.declared.finding.Finding.{Finding}
use Rattle.model_review.specs.declared.finding.Finding.TheVariants.{HiddenLink, HiddenPath, HiddenSource}
use Rattle.model_review.specs.declared.reviewing.Reviewed.{Reviewed}
use Rattle.model_review.specs.inner.Joined.{HasNoHidden, HasNoHiddenLine, begins_with}
use Rattle.model_review.proofs.Untold.{is_hidden, none-hidden}

module _ (seen : Seen) where
  -- what begins with none of these words is no such line
  not-told : (finding : Finding) → begins_with (codes "hidden-source ") (finding_text seen finding) ≡ false → begins_with (codes "hidden-path ") (finding_text seen finding) ≡ false
      → begins_with (codes "hidden-link ") (finding_text seen finding) ≡ false → is_hidden finding ≡ false
  not-told (HiddenSource owner number at) source path link = absurd (false≢true (sym source))
  not-told (HiddenPath owner number at) source path link = absurd (false≢true (sym path))
  not-told (HiddenLink from at) source path link = absurd (false≢true (sym link))
  not-told finding source path link = refl

  untold : (findings : List Finding) → HasNoHiddenLine (map (finding_text seen) findings) → list_any is_hidden findings ≡ false
  untold [] none = refl
  untold (finding ∷ findings) none =
      let text = finding_text seen finding in
      let lines = map (finding_text seen) findings in
      let sources = or_parts (begins_with (codes "hidden-source ") text) (list_any (begins_with (codes "hidden-source ")) lines) none.sources in
      let paths = or_parts (begins_with (codes "hidden-path ") text) (list_any (begins_with (codes "hidden-path ")) lines) none.paths in
      let links = or_parts (begins_with (codes "hidden-link ") text) (list_any (begins_with (codes "hidden-link ")) lines) none.links in
      let rest : HasNoHiddenLine lines = record { sources = sources.1; paths = paths.1; links = links.1 } in
      (λ i. not-told finding sources.0 paths.0 links.0 i || untold findings rest i)

  -- Where no line of a review tells anything as hidden, nothing is hidden.
  pub none-written : (reviewed : Reviewed) → Reviews seen reviewed → HasNoHiddenLine reviewed.lines → HasNoHidden seen
  none-written reviewed reviews none =
      none-hidden seen reviewed.findings reviews.told (untold reviewed.findings (subst HasNoHiddenLine reviews.lines none))
