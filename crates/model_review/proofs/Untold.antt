-- Findings of which none is hidden are those of a model in which nothing is.
use Rattle.std.proofs.Common.{ℕ, ◌≡◌, ◌==◌, Bool, true, false, cond, List, [], ◌∷◌, ◌++◌, flat_map, length, inl, ⊎_elim, ap, ◌∙◌, sym, refl}
use Rattle.std.specs.List.{list_any}
use Rattle.std.proofs.lemmas.Bool.{false≢true, or_parts}
use Rattle.std.proofs.lemmas.List.Folds.{list_any-append}
use Rattle.error_flows.specs.declared.meaning.FlowMeaning.{FlowMeaning}
use Rattle.instantiator.specs.declared.path.Component.{Component}
use Rattle.propagation_links.specs.declared.link.PointAt.{PointAt}
use Rattle.model_facts.specs.Assembly.{model_at}
use Rattle.model_facts.specs.Facts.{outward_of}
use Rattle.fact_formulas.specs.Formulas.{end_of}
use Rattle.model_review.specs.Findings.{hidden_along, hidden_flow, hidden_flows, hidden_link, hidden_types, if_any, is_path, model_findings, of_components, types_at}
use Rattle.model_review.specs.Seen.{Seen, states_of}
use Rattle.model_review.specs.Told.{AreFindings, system_findings}
use Rattle.model_review.specs.declared.finding.Finding.{Finding}
use Rattle.model_review.specs.declared.finding.Finding.TheVariants.{HiddenLink, HiddenPath, HiddenSource}
use Rattle.model_review.specs.inner.Joined.{HasNoHidden}
use Rattle.fault_system.proofs.Elements.{In}
use Rattle.model_review.proofs.Parts.{any-none, given-by, part-of}

-- whether a finding is a source, a path or a link that is hidden
abbrev pub is_hidden : Finding → Bool
is_hidden (HiddenSource owner number at) = true
is_hidden (HiddenPath owner number at) = true
is_hidden (HiddenLink from at) = true
is_hidden finding = false

-- ---- parts of what is told

both-false : {X : Type 0} (test : X → Bool) (xs ys : List X) → list_any test (xs ++ ys) ≡ false → (list_any test xs ≡ false) × (list_any test ys ≡ false)
both-false test xs ys none = or_parts (list_any test xs) (list_any test ys) (sym (list_any-append test xs ys) ∙ none)

all-none : {X : Type 0} (test : X → Bool) (xs : List X) → ((x : X) → In x xs → test x ≡ true) → list_any test xs ≡ false → xs ≡ []
all-none test [] each none = refl
all-none test (x ∷ xs) each none = absurd (false≢true (sym (any-none test (x ∷ xs) none x (inl refl)) ∙ each x (inl refl)))

-- ---- each finding of what is hidden

pub in-if : (tells : List ℕ → Finding) (types : List ℕ) (finding : Finding) → In finding (if_any tells types) → tells types ≡ finding
in-if tells types finding i = by (length types == 0) i
  where
    by : (b : Bool) → In finding (cond b [] (tells types ∷ [])) → tells types ≡ finding
    by true there = absurd there
    by false there = ⊎_elim (λ same. same) (λ none. absurd none) there

source-hidden : (path : Bool) (owner number : ℕ) (side : PointAt) (types : List ℕ) (finding : Finding) → In finding (cond path [] (if_any (λ types. HiddenSource owner number (types_at side types)) types)) → is_hidden finding ≡ true
source-hidden true owner number side types finding i = absurd i
source-hidden false owner number side types finding i = ap is_hidden (sym (in-if (λ types. HiddenSource owner number (types_at side types)) types finding i))

path-hidden : (path : Bool) (owner number : ℕ) (side : PointAt) (types : List ℕ) (finding : Finding) → In finding (cond path (if_any (λ types. HiddenPath owner number (types_at side types)) types) []) → is_hidden finding ≡ true
path-hidden true owner number side types finding i = ap is_hidden (sym (in-if (λ types. HiddenPath owner number (types_at side types)) types finding i))
path-hidden false owner number side types finding i = absurd i

link-hidden : (outward : Bool) (from side : PointAt) (types : List ℕ) (finding : Finding) → In finding (cond outward (if_any (λ types. HiddenLink from (types_at side types)) types) []) → is_hidden finding ≡ true
link-hidden true from side types finding i = ap is_hidden (sym (in-if (λ types. HiddenLink from (types_at side types)) types finding i))
link-hidden false from side types finding i = absurd i

module _ (seen : Seen) where
  flow-hidden : (paths : Bool) (owner number : ℕ) (meaning : FlowMeaning) (finding : Finding) → In finding (hidden_flow paths seen (states_of seen owner) owner number meaning) → is_hidden finding ≡ true
  flow-hidden false owner number meaning finding i =
      source-hidden (is_path meaning) owner number (outward_of owner (end_of meaning)) (hidden_types seen (states_of seen owner) owner number meaning) finding i
  flow-hidden true owner number meaning finding i =
      path-hidden (is_path meaning) owner number (outward_of owner (end_of meaning)) (hidden_types seen (states_of seen owner) owner number meaning) finding i

  flows-hidden : (paths : Bool) (finding : Finding) → In finding (of_components seen (hidden_flows paths seen)) → is_hidden finding ≡ true
  flows-hidden paths finding i =
      let (owner, j, component, is, at, given) = part-of (λ (k : ℕ) (c : Component). hidden_flows paths seen k (model_at seen.numbered.assembly k)) finding 0 seen.numbered.assembly.instance.components i in
      let (number, m, meaning, place, there, its) = part-of (hidden_flow paths seen (states_of seen owner) owner) finding 0 (model_at seen.numbered.assembly owner).flows given in
      flow-hidden paths owner number meaning finding its

  links-hidden : (finding : Finding) → In finding (flat_map (hidden_link seen) seen.numbered.assembly.links) → is_hidden finding ≡ true
  links-hidden finding i =
      let (link, among, given) = given-by (hidden_link seen) finding seen.numbered.assembly.links i in
      link-hidden link.to.outward link.from link.to (hidden_along seen (states_of seen link.to.component) link) finding given

  -- where no finding is hidden, nothing is
  pub none-hidden : (findings : List Finding) → AreFindings seen findings → list_any is_hidden findings ≡ false → HasNoHidden seen
  none-hidden findings (loops, unused, no_single, unreached, told, is) none =
      let sources : List Finding = of_components seen (hidden_flows false seen) in
      let paths : List Finding = of_components seen (hidden_flows true seen) in
      let links : List Finding = flat_map (hidden_link seen) seen.numbered.assembly.links in
      let all = both-false is_hidden (model_findings seen) (system_findings seen loops unused no_single unreached) (sym (ap (list_any is_hidden) is) ∙ none) in
      let first = both-false is_hidden sources _ all.0 in
      let second = both-false is_hidden paths _ first.1 in
      let third = both-false is_hidden links _ second.1 in
      record {
        sources = all-none is_hidden sources (flows-hidden false) first.0;
        paths = all-none is_hidden paths (flows-hidden true) second.0;
        links = all-none is_hidden links links-hidden third.0;
      }
