-- Worked examples of the definitions.
use Rattle.std.proofs.Common.{◌≡◌, ℕ, List, [], ◌∷◌, true, false, codes, refl}
use Rattle.std.specs.Fmt.{digits}
use Rattle.fault_system.specs.Systems.{System}
use Rattle.fault_system.specs.declared.formula.EventInfo.{EventInfo}
use Rattle.listing_changes.specs.Changes.{change_lines, changes_text, have_same_names, is_matched, unmatched}

abbrev an_event : List ℕ → EventInfo
an_event name = record { name = name; owner = 0; key = [] }

-- an older system with the events a, b and c
abbrev older : System
older = record { facts = []; events = an_event (codes "a") ∷ an_event (codes "b") ∷ an_event (codes "c") ∷ [] }

-- a newer one that has them in another order, and v in place of b
abbrev newer : System
newer = record { facts = []; events = an_event (codes "c") ∷ an_event (codes "v") ∷ an_event (codes "a") ∷ [] }

-- a and c are the same set in both, whatever their numbers
same_set : have_same_names older (0 ∷ 2 ∷ []) newer (0 ∷ 2 ∷ []) ≡ true
same_set = refl

-- a part of a set is another set
part_of_it : have_same_names older (0 ∷ []) newer (0 ∷ 2 ∷ []) ≡ false
part_of_it = refl

-- and so is a larger one
larger : have_same_names older (0 ∷ 2 ∷ []) newer (2 ∷ []) ≡ false
larger = refl

-- the same number is no name
same_number : have_same_names older (1 ∷ []) newer (1 ∷ []) ≡ false
same_number = refl

-- the empty set is the empty set, and nothing else
empty_set : is_matched older newer ([] ∷ []) [] ≡ true
empty_set = refl

not_empty : is_matched older newer ([] ∷ []) (0 ∷ []) ≡ false
not_empty = refl

no_sets : is_matched older newer [] [] ≡ false
no_sets = refl

-- of c, a+b and a+c the newer system has c alone, and of c and v+a the older one has not v+a
gone : unmatched older newer ((0 ∷ []) ∷ (1 ∷ 2 ∷ []) ∷ []) ((2 ∷ []) ∷ (0 ∷ 1 ∷ []) ∷ (0 ∷ 2 ∷ []) ∷ []) ≡ (0 ∷ 1 ∷ []) ∷ (0 ∷ 2 ∷ []) ∷ []
unfolding unmatched
gone = refl

new : unmatched newer older ((2 ∷ []) ∷ (0 ∷ 1 ∷ []) ∷ (0 ∷ 2 ∷ []) ∷ []) ((0 ∷ []) ∷ (1 ∷ 2 ∷ []) ∷ []) ≡ (1 ∷ 2 ∷ []) ∷ []
unfolding unmatched
new = refl

told : changes_text older ((2 ∷ []) ∷ (0 ∷ 1 ∷ []) ∷ (0 ∷ 2 ∷ []) ∷ []) newer ((0 ∷ []) ∷ (1 ∷ 2 ∷ []) ∷ []) ≡ codes "gone 2 a+b\ngone 2 a+c\nnew 2 v+a\nend gone 2 new 1\n"
unfolding unmatched change_lines digits
told = refl

-- what never holds has an empty listing, and what holds without any event the empty set alone
appeared : changes_text older [] newer ([] ∷ []) ≡ codes "new 0 none\nend gone 0 new 1\n"
unfolding unmatched change_lines digits
appeared = refl

nothing : changes_text older ([] ∷ []) newer ([] ∷ []) ≡ codes "end gone 0 new 0\n"
unfolding unmatched change_lines digits
nothing = refl
