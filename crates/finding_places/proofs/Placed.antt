-- Lines with their places, with one more.
use Rattle.std.proofs.Common.{ℕ, zero, suc, ◌+◌, ◌<◌, ◌≡◌, List, [], ◌∷◌, ◌++◌, length, map, get_or, take, refl, sym, ap, ◌∙◌, arith}
use Rattle.std.specs.Prelude.{slice_index_or}
use Rattle.std.proofs.lemmas.List.{map-append, take_more}
use Rattle.fact_formulas.specs.Numbered.{Numbered}
use Rattle.model_review.specs.Lines.{finding_text}
use Rattle.model_review.specs.Seen.{Seen}
use Rattle.model_review.specs.declared.finding.Finding.{Finding}
use Rattle.finding_places.specs.Lines.{review_line}
use Rattle.finding_places.specs.Spots.{finding_spot}
use Rattle.finding_places.specs.declared.line.ReviewLine.{ReviewLine}

-- an item of a list that is made of another one
pub mapped-at : {A B : Type 0} (f : A → B) (xs : List A) (i : ℕ) (x : A) (none : B) → i < length xs → x ≡ get_or xs i x → slice_index_or (map f xs) i none ≡ f x
mapped-at f [] i x none within is = absurd (omega arith)
mapped-at f (y ∷ xs) zero x none within is = ap f (sym is)
mapped-at f (y ∷ xs) (suc i) x none within is = mapped-at f xs i x none (omega arith) is

-- the line of a finding, by what it was made of
pub its-line : (seen : Seen) (numbered : Numbered) (finding : Finding) (text : List ℕ) (line : ReviewLine) → seen.numbered ≡ numbered → text ≡ finding_text seen finding
    → line ≡ record { text = text; spot = finding_spot numbered finding } → line ≡ review_line seen finding
its-line seen numbered finding text line same is made = made ∙ (λ k. record { text = is k; spot = finding_spot (sym same k) finding })

pub lines-more : (seen : Seen) (findings : List Finding) (i : ℕ) (finding : Finding) (line : ReviewLine) (before after : List ReviewLine) → i < length findings → finding ≡ get_or findings i finding
    → line ≡ review_line seen finding → before ≡ map (review_line seen) (take i findings) → after ≡ before ++ line ∷ [] → after ≡ map (review_line seen) (take (i + 1) findings)
lines-more seen findings i finding line before after within at same had grown =
    grown ∙ (λ k. had k ++ same k ∷ []) ∙ sym (map-append (review_line seen) (take i findings) (finding ∷ []))
    ∙ ap (λ (last : Finding). map (review_line seen) (take i findings ++ last ∷ [])) at ∙ sym (ap (map (review_line seen)) (take_more findings i finding within))

-- the texts of the lines
pub texts-same : (seen : Seen) (findings : List Finding) (texts : List (List ℕ)) (lines : List ReviewLine) → texts ≡ map (finding_text seen) findings → lines ≡ map (review_line seen) findings → map (λ line. line.text) lines ≡ texts
texts-same seen findings texts lines all are = ap (map (λ (line : ReviewLine). line.text)) are ∙ both findings ∙ sym all
  where
    both : (findings : List Finding) → map (λ (line : ReviewLine). line.text) (map (review_line seen) findings) ≡ map (finding_text seen) findings
    both [] = refl
    both (finding ∷ findings) = ap (λ (texts : List (List ℕ)). finding_text seen finding ∷ texts) (both findings)
