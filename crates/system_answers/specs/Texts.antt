-- The texts of answers on a system, as phases.
use Rattle.std.specs.Prelude.{◌≡◌, ℕ, Bool, true, false, List, Option, None, Some, map}
use Rattle.phases.specs.Phases.{Phase, yields, tells, tests, accepts, answers, rejects, ◌>>=◌}
use Rattle.fault_system.specs.Systems.{System}
use Rattle.fault_system.specs.Listings.{IsListing}
use Rattle.backward_slice.specs.Slices.{HasLargeSlice, IsServed}
use Rattle.backward_slice.specs.declared.parts.Slice.{Slice}
use Rattle.property_reader.specs.declared.rate.Rate.{Rate}
use Rattle.round_gates.specs.Targets.{IsTreeFor}
use Rattle.rate_numerals.specs.Rates.{rates_of as rates_in_numerals}
use Rattle.round_gates.specs.declared.tree.Tree.{Tree}
use Rattle.cutset_writer.specs.Text.{listing_page, marked_page}
use Rattle.cutset_writer.specs.declared.form.SetForm.{SetForm}
use Rattle.cutset_writer.specs.declared.form.SetForm.TheVariants.{Quoted, Token}
use Rattle.page_tokens.specs.Starts.{page_start}
use Rattle.galileo_reader.specs.declared.tree.NamedTree.{NamedTree}
use Rattle.galileo_reader.specs.Trees.{IsRead}
use Rattle.galileo_reader.specs.TreeSystems.{system_of, target_of as top_of_tree}
use Rattle.path_sets.specs.Duals.{dual_of}
use Rattle.path_sets.specs.PathSets.{HasLargePaths, IsPathListing}
use Rattle.system_answers.specs.Galileo.{LacksNamedTree}
use Rattle.fta_words.specs.declared.command.Paging.{Paging}
use Rattle.system_answers.specs.Targets.{IsFactNamed, IsStart, LacksStart, LacksTarget}
use Rattle.system_answers.specs.Probability.{TellsProbability}
use Rattle.system_answers.specs.Trees.{IsFormed, LacksRate, LacksTree, unrated_in}
use Rattle.system_answers.specs.declared.form.TreeForm.{TreeForm}
use Rattle.system_answers.specs.declared.form.TreeFormat.{TreeFormat}
use Rattle.system_answers.specs.declared.form.TreeFormat.TheVariants.{Dot, Mef}
use Rattle.system_answers.specs.Voices.{Voice, voices_text}

-- the number of the fact that the target names
abbrev pub target_of : List ℕ → System → Phase ℕ
target_of target system = answers (IsFactNamed system target) (LacksTarget system target)

-- the set after which a page begins, where a text of it is given
abbrev pub start_of : Option (List ℕ) → System → Phase (Option (List ℕ))
start_of after system = rejects (IsStart system after) (LacksStart system after)

-- the slice of a target, which is not too large
abbrev pub slice_of : ℕ → System → Phase Slice
slice_of number system = rejects (IsServed system number) (HasLargeSlice system number)

-- a page of a target's listing, whose sets stand in this form, behind a set, as many as a limit lets, of so many events at most
abbrev pub page_in : SetForm → ℕ → Option (List ℕ) → Option ℕ → Option ℕ → System → Phase (List ℕ)
page_in form number start limit max_order system = do
  sets ← accepts (IsListing system number max_order)
  yields (listing_page form system start limit sets)

-- where a page begins by the text of a token, where one is given, and else before all sets; these are the digits of the key
abbrev pub begin_of : List ℕ → Option (List ℕ) → System → Phase (Option (List ℕ))
begin_of key None system = yields None
begin_of key (Some text) system = page_start key text system

-- the digits that the last line of a page names, where it is to have a token
abbrev pub named_key : Bool → List ℕ → Option (List ℕ)
named_key false key = None
named_key true key = Some key

-- the page of a target's listing; where the digits of a key are given, with a token in the last line
abbrev pub page_of : ℕ → Option (List ℕ) → Paging → Option (List ℕ) → System → Phase (List ℕ)
page_of number start paging key system = do
  sets ← accepts (IsListing system number paging.max_order)
  yields (marked_page Token system key start paging.limit sets)

-- the text of `cuts`, perhaps with a token in the last line, where these are the digits of the key of what it is asked of
abbrev pub cuts_text : List ℕ → Paging → Bool → List ℕ → System → Phase (List ℕ)
cuts_text target paging tokens key system = do
  number ← target_of target system
  start ← begin_of key paging.after system
  _ ← slice_of number system
  page_of number start paging (named_key tokens key) system

-- the tree of a target
abbrev pub tree_for : ℕ → System → Phase Tree
tree_for number system = tells (IsTreeFor system number) (LacksTree system number)

-- it passes where no event of a tree lacks a rate that it must have
abbrev pub rated_tree : Bool → System → List Rate → Tree → Phase (Unit {0})
rated_tree rated system rates tree = tells (λ _. unrated_in rated rates tree ≡ None) (LacksRate rated system rates tree)

-- the text of a target's tree in a form, where its slice is not too large
abbrev pub formed_tree : ℕ → TreeForm → System → List Rate → Phase (List ℕ)
formed_tree number form system rates = do
  tree ← tree_for number system
  _ ← rated_tree form.rated system rates tree
  accepts (IsFormed form system rates number tree)

-- the text of `tree`
abbrev pub tree_text : List ℕ → TreeForm → System → List Rate → Phase (List ℕ)
tree_text target form system rates = do
  number ← target_of target system
  _ ← slice_of number system
  formed_tree number form system rates

-- the text of `probability`, in so many hours, if they are given: by all minimal cut sets, with the importance of events, where it is asked for,
-- or by those of at most so many events
abbrev pub probability_text : List ℕ → Option (List ℕ) → Bool → Option ℕ → System → List Rate → Phase (List ℕ)
probability_text target hours asked max_order system rates = do
  number ← target_of target system
  slice ← slice_of number system
  accepts (TellsProbability false system rates number slice.events hours asked max_order)

-- the text of the chosen reports on a target's listing
abbrev pub reports_of : ℕ → List ℕ → Option ℕ → List Voice → System → Phase (List ℕ)
reports_of number chosen max_order voices system = do
  sets ← accepts (IsListing system number max_order)
  yields (voices_text chosen sets system voices)

-- the text of `report`
abbrev pub report_text : List ℕ → List ℕ → Option ℕ → List Voice → System → Phase (List ℕ)
report_text target chosen max_order voices system = do
  number ← target_of target system
  _ ← slice_of number system
  reports_of number chosen max_order voices system

-- the page of the minimal path sets of a target
abbrev pub path_page : ℕ → Option (List ℕ) → Paging → System → Phase (List ℕ)
path_page number start paging system = do
  _ ← tests (HasLargePaths system number)
  sets ← accepts (IsPathListing system number paging.max_order)
  yields (listing_page Token system start paging.limit sets)

-- the text of `paths`
abbrev pub paths_text : List ℕ → Paging → System → Phase (List ℕ)
paths_text target paging system = do
  number ← target_of target system
  start ← start_of paging.after system
  _ ← slice_of number system
  path_page number start paging system

-- the tree of a Galileo text, which is that of the file of the number 0, in the first reading or in the wide one
abbrev pub named_tree : Bool → List ℕ → Phase NamedTree
named_tree wide text = rejects (IsRead wide text) (LacksNamedTree wide text)

-- the minimal cut sets of a tree, in quotes: as many as a limit lets, of so many events at most
abbrev pub tree_sets : Option ℕ → Option ℕ → NamedTree → Phase (List ℕ)
tree_sets limit max_order tree = do
  _ ← slice_of (top_of_tree tree tree.top) (system_of tree)
  page_in Quoted (top_of_tree tree tree.top) None limit max_order (system_of tree)

-- the text of `galileo`
abbrev pub galileo_text : Bool → Option ℕ → Option ℕ → List ℕ → Phase (List ℕ)
galileo_text wide limit max_order text = do
  tree ← named_tree wide text
  tree_sets limit max_order tree

-- the page of the minimal path sets of a target, in quotes, in a system in which no fact reaches itself; its slice in the dual is not
-- too large
abbrev pub dual_page : ℕ → Option ℕ → Option ℕ → System → Phase (List ℕ)
dual_page number limit max_order system = do
  _ ← slice_of number (dual_of system)
  sets ← accepts (IsPathListing system number max_order)
  yields (listing_page Quoted system None limit sets)

-- the minimal path sets of a tree, in quotes: as many as a limit lets, of so many events at most
abbrev pub tree_paths : Option ℕ → Option ℕ → NamedTree → Phase (List ℕ)
tree_paths limit max_order tree = do
  _ ← slice_of (top_of_tree tree tree.top) (system_of tree)
  dual_page (top_of_tree tree tree.top) limit max_order (system_of tree)

-- the text of `galileo` with `--paths`
abbrev pub galileo_paths_text : Bool → Option ℕ → Option ℕ → List ℕ → Phase (List ℕ)
galileo_paths_text wide limit max_order text = do
  tree ← named_tree wide text
  tree_paths limit max_order tree

-- the rates of the events of a tree
abbrev pub rates_of : NamedTree → List Rate
rates_of tree = map (λ event. event.rate) tree.events

-- the format in which a tree is written: the Open-PSA Model Exchange Format, or a picture
abbrev pub drawn_format : Bool → TreeFormat
drawn_format true = Mef
drawn_format false = Dot

-- the rates that are written with it: in the Open-PSA Model Exchange Format with numbers as AADL writes them
abbrev pub drawn_rates : Bool → NamedTree → List Rate
drawn_rates true tree = rates_in_numerals tree
drawn_rates false tree = rates_of tree

-- the form of a tree, with these lines in the legend of a picture
abbrev pub drawn_form : Bool → Bool → List (List ℕ) → TreeForm
drawn_form exchanged merged legend = record { format = drawn_format exchanged; merged = merged; rated = false; legend = legend }

-- the picture of a tree, or its text in the Open-PSA Model Exchange Format
abbrev pub drawn_tree : Bool → Bool → List (List ℕ) → NamedTree → Phase (List ℕ)
drawn_tree exchanged merged legend tree = do
  _ ← slice_of (top_of_tree tree tree.top) (system_of tree)
  formed_tree (top_of_tree tree tree.top) (drawn_form exchanged merged legend) (system_of tree) (drawn_rates exchanged tree)

-- the text of `galileo` with `--format`
abbrev pub drawn_text : Bool → Bool → Bool → List (List ℕ) → List ℕ → Phase (List ℕ)
drawn_text wide exchanged merged legend text = do
  tree ← named_tree wide text
  drawn_tree exchanged merged legend tree

-- how probable the top of a tree is, with names in quotes, in so many hours, if they are given: by all minimal cut sets, with the importance
-- of events, where it is asked for, or by those of at most so many events
abbrev pub probable_tree : Option (List ℕ) → Bool → Option ℕ → NamedTree → Phase (List ℕ)
probable_tree hours asked max_order tree = do
  slice ← slice_of (top_of_tree tree tree.top) (system_of tree)
  accepts (TellsProbability true (system_of tree) (rates_in_numerals tree) (top_of_tree tree tree.top) slice.events hours asked max_order)

-- the text of `galileo` with `--probability`
abbrev pub galileo_probability_text : Bool → Option (List ℕ) → Bool → Option ℕ → List ℕ → Phase (List ℕ)
galileo_probability_text wide hours asked max_order text = do
  tree ← named_tree wide text
  probable_tree hours asked max_order tree
