-- One end at most passes of the texts of answers on a system, and where one does no other.
use Rattle.std.proofs.Common.{◌≡◌, ℕ, Bool, false, List, Option, Some, None, refl, sym, ap, subst, ◌∙◌, inl, inr}
use Rattle.plain_values.specs.declared.refusal.Refusal.{Refusal}
use Rattle.fault_system.specs.Systems.{IsSystem, System, event_name}
use Rattle.fault_system.specs.Listings.{IsListing}
use Rattle.cutset_lister.specs.inner.SetText.{HasTokenNames}
use Rattle.cutset_lister.proofs.Scans.{one-set}
use Rattle.property_reader.specs.declared.rate.Rate.{Rate}
use Rattle.round_gates.specs.declared.tree.Tree.{Tree}
use Rattle.round_gates.specs.Targets.{IsConstantly}
use Rattle.round_gates.specs.Staged.{IsConstant}
use Rattle.round_gates.proofs.Growing.{constantly, one-constant}
use Rattle.round_gates.proofs.OneTree.{one-tree, tree-or-large}
use Rattle.fta_words.specs.declared.command.Paging.{Paging}
use Rattle.fault_system.proofs.Elements.{In-contains, contains_In}
use Rattle.fault_system.proofs.Orders.{one_order}
use Rattle.backward_slice.specs.Slices.{HasLargeSlice, IsServed}
use Rattle.backward_slice.proofs.OneSlice.{one_large, one_served, served_or_large}
use Rattle.phases.specs.inner.Phases.{IsDecided, IsDecidedStep}
use Rattle.phases.specs.declared.status.Status.{Status}
use Rattle.phases.specs.declared.status.Status.TheVariants.{Refused, Constant, Unrated}
use Rattle.page_tokens.proofs.Once.{page_start_decided}
use Rattle.path_sets.specs.Duals.{dual_of}
use Rattle.path_sets.specs.PathSets.{HasLargePaths, IsPathListing}
use Rattle.path_sets.proofs.Listings.{one-listing}
use Rattle.phases.proofs.Leaves.{decided_accepts, decided_answers, decided_rejects, decided_tests}
use Rattle.system_answers.specs.Targets.{IsFactNamed, IsStart, LacksStart, LacksTarget}
use Rattle.galileo_reader.specs.declared.tree.NamedTree.{NamedTree}
use Rattle.galileo_reader.specs.Trees.{IsRead}
use Rattle.galileo_reader.specs.TreeSystems.{system_of, target_of as top_of_tree}
use Rattle.galileo_reader.proofs.OneAnswer.{one-read, one-wrong, read-apart}
use Rattle.system_answers.specs.Galileo.{LacksNamedTree, flaw_refusal}
use Rattle.system_answers.specs.Texts.{begin_of, cuts_text, drawn_form, drawn_rates, drawn_text, formed_tree, galileo_paths_text, galileo_text, named_tree, paths_text, rated_tree, report_text, slice_of, start_of, target_of, tree_for, tree_paths, tree_sets, tree_text}
use Rattle.galileo_reader.proofs.SystemLaws.{tree-system}
use Rattle.galileo_reader.proofs.TreeTexts.{tree-named}
use Rattle.system_answers.specs.Trees.{IsFormed, IsShaped, IsTextIn, LacksTree}
use Rattle.system_answers.specs.declared.form.TreeForm.{TreeForm}
use Rattle.system_answers.specs.declared.form.TreeFormat.{TreeFormat}
use Rattle.system_answers.specs.declared.form.TreeFormat.TheVariants.{Galileo, Mef, Dot}
use Rattle.system_answers.specs.Voices.{Voice}

pub one_listing : (system : System) (target : ℕ) (most : Option ℕ) (a b : List (List ℕ)) → IsListing system target most a → IsListing system target most b → a ≡ b
one_listing system target most a b one other =
    one_order a b one.ordered other.ordered (λ set i. In-contains set b ((other.exact set).1 ((one.exact set).0 (contains_In set a i))))
    (λ set i. In-contains set a ((one.exact set).1 ((other.exact set).0 (contains_In set b i))))

-- a text is that of one set at most, and a set has it, or none
one_start : (text : Option (List ℕ)) (system : System) → IsSystem system → HasTokenNames system → (a b : Option (List ℕ)) → IsStart system text a → IsStart system text b → a ≡ b
one_start None system is names None None h k = refl
one_start None system is names None (Some b) h k = absurd k
one_start None system is names (Some a) b h k = absurd h
one_start (Some text) system is names None b h k = absurd h
one_start (Some text) system is names (Some a) None h k = absurd k
one_start (Some text) system is names (Some a) (Some b) h k = ap (λ (set : List ℕ). Some set) (one-set system text a b is names h k)

start_or_lacks : (text : Option (List ℕ)) (system : System) (start : Option (List ℕ)) (refusal : Refusal) → IsStart system text start → LacksStart system text refusal → ⊥
start_or_lacks None system start refusal is lacks = lacks
start_or_lacks (Some text) system None refusal is lacks = is
start_or_lacks (Some text) system (Some set) refusal is lacks = lacks.0 set is

lacks_one : (text : Option (List ℕ)) (system : System) (a b : Refusal) → LacksStart system text a → LacksStart system text b → a ≡ b
lacks_one None system a b h k = absurd h
lacks_one (Some text) system a b h k = h.1 ∙ sym k.1

-- a target has one tree at most, and is constant in one way at most
module _ (system : System) (target : ℕ) where
  varies : (always : Bool) → IsConstantly system target always → ((is : Bool) → IsConstant system target is → ⊥) → ⊥
  varies always constant varying = varying always ((constantly system target always).1 constant)

  one_lack : (a b : Status) → LacksTree system target a → LacksTree system target b → a ≡ b
  one_lack a b h k =
      elim h [
        | inl x ↦ elim k [
          | inl y ↦ x.2 ∙ ap Constant (one-constant system target x.0 y.0 ((constantly system target x.0).1 x.1) ((constantly system target y.0).1 y.1)) ∙ sym y.2
          | inr y ↦ absurd (varies x.0 x.1 y.1.varying)
        ]
        | inr x ↦ elim k [
          | inl y ↦ absurd (varies y.0 y.1 x.1.varying)
          | inr y ↦ x.2 ∙ ap Refused (x.1.refusal_is ∙ sym y.1.refusal_is) ∙ sym y.2
        ]
      ]

-- a tree has one text at most in a format, and in a form that keeps its gates
one_in_format : (format : TreeFormat) (legend : List (List ℕ)) (system : System) (rates : List Rate) (target : ℕ) (tree : Tree) (a b : List ℕ) → IsTextIn format legend system rates target tree a → IsTextIn format legend system rates target tree b → a ≡ b
one_in_format Galileo legend system rates target tree a b h k = h.text_is ∙ sym k.text_is
one_in_format Mef legend system rates target tree a b h k = h.text_is ∙ sym k.text_is
one_in_format Dot legend system rates target tree a b h k = h ∙ sym k

one_formed : (form : TreeForm) (system : System) (rates : List Rate) (target : ℕ) (tree : Tree) → form.merged ≡ false → (a b : List ℕ) → IsFormed form system rates target tree a → IsFormed form system rates target tree b → a ≡ b
one_formed form system rates target tree plain a b h k =
    let first : h.shaped ≡ tree = subst (λ merged. IsShaped merged tree h.shaped) plain h.is_shaped in
    let second : k.shaped ≡ tree = subst (λ merged. IsShaped merged tree k.shaped) plain k.is_shaped in
    one_in_format form.format form.legend system rates target tree a b
    (subst (λ shaped. IsTextIn form.format form.legend system rates target shaped a) first h.is_text)
    (subst (λ shaped. IsTextIn form.format form.legend system rates target shaped b) second k.is_text)

none_or_some : {n : ℕ} → None ≡ Some n → ⊥
none_or_some {n} is = cc (is)

one_some : {m n : ℕ} → Some m ≡ Some n → m ≡ n
one_some {m} {n} is = cc (is)

-- texts are decided up to what is the same of statuses
module _ (Same : Status → Status → Type 0) (itself : (status : Status) → Same status status) where
  same_refusal : (a b : Refusal) → a ≡ b → Same (Refused a) (Refused b)
  same_refusal a b is = subst (λ r. Same (Refused a) (Refused r)) is (itself (Refused a))

  pub target_decided : (target : List ℕ) (system : System) → IsDecided Same (target_of target system)
  target_decided target system = decided_answers Same itself (IsFactNamed system target) (LacksTarget system target) (λ m n h k. k.alone m h.has) (λ number refusal named lacks. lacks.0 number named.has)

  pub slice_decided : (number : ℕ) (system : System) → IsDecided Same (slice_of number system)
  slice_decided number system =
      decided_rejects Same (IsServed system number) (HasLargeSlice system number) (one_served system number) (λ slice refusal served large. served_or_large system number slice refusal served large) (λ a b x y. same_refusal a b (one_large system number a b x y))

  start_decided : (text : Option (List ℕ)) (system : System) → IsSystem system → HasTokenNames system → IsDecided Same (start_of text system)
  start_decided text system is names =
      decided_rejects Same (IsStart system text) (LacksStart system text) (one_start text system is names) (start_or_lacks text system) (λ a b h k. same_refusal a b (lacks_one text system a b h k))

  begin_decided : (key : List ℕ) (after : Option (List ℕ)) (system : System) → IsSystem system → HasTokenNames system → IsDecided Same (begin_of key after system)
  begin_decided key None system is names = tt
  begin_decided key (Some text) system is names = page_start_decided Same itself key text system is names

  pub cuts_decided : (target : List ℕ) (paging : Paging) (tokens : Bool) (key : List ℕ) (system : System) → IsSystem system → HasTokenNames system → IsDecided Same (cuts_text target paging tokens key system)
  cuts_decided target paging tokens key system is names = (
    target_decided target system,
    λ number named. (
      begin_decided key paging.after system is names,
      λ start begins. (slice_decided number system, λ slice served. (decided_accepts Same (IsListing system number paging.max_order) (one_listing system number paging.max_order), λ sets are. tt)),
    ),
  )

  pub paths_decided : (target : List ℕ) (paging : Paging) (system : System) → IsSystem system → HasTokenNames system → IsDecided Same (paths_text target paging system)
  paths_decided target paging system is names = (
    target_decided target system,
    λ number named. (
      start_decided paging.after system is names,
      λ start begins. (
        slice_decided number system,
        λ slice served. (decided_tests Same itself (HasLargePaths system number), λ _ clear. (decided_accepts Same (IsPathListing system number paging.max_order) (one-listing system number paging.max_order), λ sets are. tt)),
      ),
    ),
  )

  pub tree_for_decided : (system : System) (target : ℕ) → IsSystem system → IsDecided Same (tree_for target system)
  tree_for_decided system target is = record {
    one_value = one-tree system is target;
    apart = λ tree status it lacks. elim lacks [ inl x ↦ varies system target x.0 x.1 it.varying | inr x ↦ tree-or-large system is target tree x.0 it x.1 ];
    one_stop = λ a b h k. subst (Same a) (one_lack system target a b h k) (itself a);
  }

  pub rated_decided : (rated : Bool) (system : System) (rates : List Rate) (tree : Tree) → IsDecided Same (rated_tree rated system rates tree)
  rated_decided rated system rates tree = record {
    one_value = λ a b h k. refl;
    apart = λ a status none lacks. none_or_some (sym none ∙ lacks.1);
    one_stop = λ a b h k.
        let same : h.0 ≡ k.0 = one_some (sym h.1 ∙ k.1) in
        subst (Same a) (h.2 ∙ ap (λ n. Unrated (event_name system n)) same ∙ sym k.2) (itself a);
  }

  formed_decided : (number : ℕ) (form : TreeForm) (system : System) (rates : List Rate) → form.merged ≡ false → IsSystem system → IsDecided Same (formed_tree number form system rates)
  formed_decided number form system rates plain is = (
    tree_for_decided system number is,
    λ tree tree_is. (rated_decided form.rated system rates tree, λ _ rated. decided_accepts Same (IsFormed form system rates number tree) (one_formed form system rates number tree plain)),
  )

  pub tree_decided : (target : List ℕ) (form : TreeForm) (system : System) (rates : List Rate) → form.merged ≡ false → IsSystem system → IsDecided Same (tree_text target form system rates)
  tree_decided target form system rates plain is = (target_decided target system, λ number named. (slice_decided number system, λ slice served. formed_decided number form system rates plain is))

  pub listing_decided : (number : ℕ) (most : Option ℕ) (system : System) → IsDecidedStep Same (IsListing system number most) (λ status. ⊥)
  listing_decided number most system = decided_accepts Same (IsListing system number most) (one_listing system number most)

  pub report_decided : (target chosen : List ℕ) (max_order : Option ℕ) (voices : List Voice) (system : System) → IsDecided Same (report_text target chosen max_order voices system)
  report_decided target chosen max_order voices system =
      (target_decided target system, λ number named. (slice_decided number system, λ slice served. (listing_decided number max_order system, λ sets are. tt)))

  -- the tree of a text, and its listing
  pub named_tree_decided : (wide : Bool) (text : List ℕ) → IsDecided Same (named_tree wide text)
  named_tree_decided wide text =
      decided_rejects Same (IsRead wide text) (LacksNamedTree wide text) (one-read wide text)
      (λ tree refusal read lacks. read-apart wide text tree lacks.0 read lacks.1)
      (λ a b x y. same_refusal a b (x.2 ∙ ap flaw_refusal (one-wrong wide text x.0 y.0 x.1 y.1) ∙ sym y.2))

  pub tree_sets_decided : (limit max_order : Option ℕ) (tree : NamedTree) → IsDecided Same (tree_sets limit max_order tree)
  tree_sets_decided limit max_order tree =
      (slice_decided (top_of_tree tree tree.top) (system_of tree), λ slice served. (listing_decided (top_of_tree tree tree.top) max_order (system_of tree), λ sets are. tt))

  pub galileo_text_decided : (wide : Bool) (limit max_order : Option ℕ) (text : List ℕ) → IsDecided Same (galileo_text wide limit max_order text)
  galileo_text_decided wide limit max_order text = (named_tree_decided wide text, λ tree read. tree_sets_decided limit max_order tree)

  -- and its picture
  pub drawn_decided : (wide exchanged : Bool) (legend : List (List ℕ)) (text : List ℕ) → IsDecided Same (drawn_text wide exchanged false legend text)
  drawn_decided wide exchanged legend text = (
    named_tree_decided wide text,
    λ tree read. (
      slice_decided (top_of_tree tree tree.top) (system_of tree),
      λ slice served. formed_decided (top_of_tree tree tree.top) (drawn_form exchanged false legend) (system_of tree) (drawn_rates exchanged tree) refl (tree-system tree (tree-named read.0 tree read.2)),
    ),
  )

  -- and its path listing
  pub tree_paths_decided : (limit max_order : Option ℕ) (tree : NamedTree) → IsDecided Same (tree_paths limit max_order tree)
  tree_paths_decided limit max_order tree = (
    slice_decided (top_of_tree tree tree.top) (system_of tree),
    λ slice served. (
      slice_decided (top_of_tree tree tree.top) (dual_of (system_of tree)),
      λ part also. (decided_accepts Same (IsPathListing (system_of tree) (top_of_tree tree tree.top) max_order) (one-listing (system_of tree) (top_of_tree tree tree.top) max_order), λ sets are. tt),
    ),
  )

  pub galileo_paths_text_decided : (wide : Bool) (limit max_order : Option ℕ) (text : List ℕ) → IsDecided Same (galileo_paths_text wide limit max_order text)
  galileo_paths_text_decided wide limit max_order text = (named_tree_decided wide text, λ tree read. tree_paths_decided limit max_order tree)
