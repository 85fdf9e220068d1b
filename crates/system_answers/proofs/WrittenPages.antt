-- What is listed of the text of a target's tree is the target's listing, under the same names.
use Rattle.std.proofs.Common.{ℕ, false, zero, suc, ◌+◌, ◌≡◌, ◌≤◌, List, [], ◌∷◌, ◌++◌, decimal, length, map, take, nat_lt, Option, None, Some, inl, inr, ap, ◌∙◌, sym, subst, refl, codes}
use Rattle.std.specs.List.{AllByRecursion, flat_map}
use lib.ListN.{length-map}
use Rattle.std.proofs.lemmas.List.{take-map}
use Rattle.plain_values.specs.Rising.{RisesWithin}
use Rattle.fault_system.specs.Listings.{IsListing, first_of, has_more}
use Rattle.fault_system.specs.Systems.{IsSystem, System}
use Rattle.property_reader.specs.declared.rate.Rate.{Rate}
use Rattle.backward_slice.specs.Slices.{HasLargeSlice}
use Rattle.round_gates.specs.Targets.{IsTreeFor}
use Rattle.round_gates.specs.declared.tree.Tree.{Tree}
use Rattle.round_gates.proofs.MadeWell.{made-well}
use Rattle.galileo_writer.specs.inner.TreeText.{AreRates, HasTextNames}
use Rattle.galileo_reader.specs.Trees.{IsRead}
use Rattle.galileo_reader.specs.TreeSystems.{system_of}
use Rattle.galileo_reader.specs.inner.Written.{event_at, events_at, named_tree}
use Rattle.galileo_reader.proofs.OneAnswer.{one-read, read-apart}
use Rattle.galileo_reader.proofs.RoundTrip.{text-read}
use Rattle.galileo_reader.proofs.WrittenSets.{listing-again, name-again, sets-placed}
use Rattle.cutset_lister.specs.SetText.{quoted_name, quoted_text}
use Rattle.cutset_writer.specs.Text.{last_line, listing_page, set_line}
use Rattle.cutset_writer.specs.declared.form.SetForm.TheVariants.{Quoted}
use Rattle.phases.specs.Phases.{IsRefusal, Passed, Passes, Stopped, Stops}
use Rattle.phases.specs.declared.status.Status.{Status}
use Rattle.system_answers.specs.Texts.{galileo_text, tree_sets}
use Rattle.system_answers.specs.Trees.{IsTreeText}
use Rattle.system_answers.proofs.Decided.{one_listing}

-- ---- pages of two systems in which sets have one text

all-take : {X : Type 0} (P : X → Type 0) (k : ℕ) (xs : List X) → AllByRecursion P xs → AllByRecursion P (take k xs)
all-take P zero [] all = tt
all-take P zero (x ∷ xs) all = tt
all-take P (suc k) [] all = tt
all-take P (suc k) (x ∷ xs) all = (all.0, all-take P k xs all.1)

all-first : (P : List ℕ → Type 0) (limit : Option ℕ) (sets : List (List ℕ)) → AllByRecursion P sets → AllByRecursion P (first_of limit sets)
all-first P None sets all = all
all-first P (Some k) sets all = all-take P k sets all

first-mapped : (f : List ℕ → List ℕ) (limit : Option ℕ) (sets : List (List ℕ)) → first_of limit (map f sets) ≡ map f (first_of limit sets)
first-mapped f None sets = refl
first-mapped f (Some k) sets = take-map f k sets

more-mapped : (f : List ℕ → List ℕ) (limit : Option ℕ) (sets : List (List ℕ)) → has_more limit (map f sets) ≡ has_more limit sets
more-mapped f None sets = refl
more-mapped f (Some k) sets = ap (nat_lt k) (length-map sets f)

module _ (system : System) (is_system : IsSystem system) (names : HasTextNames system) (target : ℕ) (tree : Tree) (is : IsTreeFor system target tree) (rates : List Rate) where
  abbrev system_read : System
  system_read = system_of (named_tree system tree rates)

  abbrev Places : List ℕ → Type 0
  Places set = RisesWithin 0 (length tree.events) set

  names-again : (low : ℕ) (set : List ℕ) → RisesWithin low (length tree.events) set → flat_map (quoted_name system_read) set ≡ flat_map (quoted_name system) (events_at tree.events set)
  names-again low [] rises = refl
  names-again low (x ∷ set) rises =
      let name = name-again system is_system names target tree is rates x rises.1 in
      let rest = names-again (x + 1) set rises.2 in
      λ i. (32 ∷ 34 ∷ name i ++ (34 ∷ [])) ++ rest i

  quoted-again : (set : List ℕ) → Places set → quoted_text system_read set ≡ quoted_text system (events_at tree.events set)
  quoted-again [] rises = refl
  quoted-again (x ∷ set) rises = names-again 0 (x ∷ set) rises

  line-again : (set : List ℕ) → Places set → set_line Quoted system_read set ≡ set_line Quoted system (events_at tree.events set)
  line-again set rises =
      let long = sym (length-map set (event_at tree.events)) in
      let text = quoted-again set rises in
      λ i. decimal (long i) ++ (text i ++ (10 ∷ []))

  lines-again : (sets : List (List ℕ)) → AllByRecursion Places sets → flat_map (set_line Quoted system_read) sets ≡ flat_map (set_line Quoted system) (map (events_at tree.events) sets)
  lines-again [] all = refl
  lines-again (set ∷ sets) all = let line = line-again set all.0 in let rest = lines-again sets all.1 in λ i. line i ++ rest i

  page-again : (limit : Option ℕ) (sets : List (List ℕ)) → AllByRecursion Places sets → listing_page Quoted system_read None limit sets ≡ listing_page Quoted system None limit (map (events_at tree.events) sets)
  page-again limit sets all =
      let lines = lines-again (first_of limit sets) (all-first Places limit sets all) ∙ ap (flat_map (set_line Quoted system)) (sym (first-mapped (events_at tree.events) limit sets)) in
      let more = sym (more-mapped (events_at tree.events) limit sets) in
      λ i. lines i ++ last_line (codes "more\n") (more i)

  -- a page of the tree that is read is that of the target's listing
  page-same : (limit max_order : Option ℕ) (page : List ℕ) (sets : List (List ℕ)) → IsListing system target max_order sets → Passed (tree_sets limit max_order (named_tree system tree rates)) page → page ≡ listing_page Quoted system None limit sets
  page-same limit max_order page sets listing (slice, served, (own, own_listing, page_is)) =
      page_is
      ∙ page-again limit own (sets-placed system is_system names target tree is rates max_order own own_listing)
      ∙ ap (listing_page Quoted system None limit) (one_listing system target max_order (map (events_at tree.events) own) sets (listing-again system is_system names target tree is rates max_order own own_listing) listing)

module _ (system : System) (is_system : IsSystem system) (names : HasTextNames system) (rates : List Rate) (are_rates : AreRates system rates) (target : ℕ) (tree : Tree) (tree_is : IsTreeFor system target tree) (text : List ℕ) (it : IsTreeText system rates target tree text) (few : length text ≤ 4194304) where
  tree-again : IsRead false text (named_tree system tree rates)
  tree-again =
      subst (λ t. IsRead false t (named_tree system tree rates)) (sym it.text_is)
      (text-read system tree rates is_system names are_rates (made-well system target tree is_system tree_is) (subst (λ t. length t ≤ 4194304) it.text_is few))

  pub written-page : (limit max_order : Option ℕ) (page : List ℕ) (sets : List (List ℕ)) → IsListing system target max_order sets → Passes (galileo_text false limit max_order text) page → page ≡ listing_page Quoted system None limit sets
  written-page limit max_order page sets listing passes =
      let (other, read, passed) = passes.passed in
      page-same system is_system names target tree tree_is rates limit max_order page sets listing
      (subst (λ t. Passed (tree_sets limit max_order t) page) (one-read false text other (named_tree system tree rates) read tree-again) passed)

  pub written-stop : (limit max_order : Option ℕ) (status : Status) → Stops (galileo_text false limit max_order text) status → IsRefusal (HasLargeSlice (system_of (named_tree system tree rates)) tree.top) status
  written-stop limit max_order status stops =
      elim stops.stopped [
        | inl (refusal, lacks, same) ↦ absurd (read-apart false text (named_tree system tree rates) lacks.0 tree-again lacks.1)
        | inr (other, read, stopped) ↦ in-tree (subst (λ t. Stopped (tree_sets limit max_order t) status) (one-read false text other (named_tree system tree rates) read tree-again) stopped)
      ]
    where
      in-tree : Stopped (tree_sets limit max_order (named_tree system tree rates)) status → IsRefusal (HasLargeSlice (system_of (named_tree system tree rates)) tree.top) status
      in-tree stopped = elim stopped [
        | inl large ↦ large
        | inr (slice, served, later) ↦ elim later [ inl none ↦ absurd none | inr (sets, listing, none) ↦ absurd none ]
      ]
