-- The text of a page of a listing.
use Rattle.std.specs.Prelude.{ℕ, Bool, if◌then◌else◌, List, [], ◌∷◌, ◌++◌, length, codes, decimal, Option, None, Some}
use Rattle.std.specs.List.{flat_map}
use Rattle.fault_system.specs.Systems.{System}
use Rattle.fault_system.specs.Listings.{first_of, has_more, sets_after}
use Rattle.cutset_lister.specs.SetText.{quoted_text, set_text}
use Rattle.page_tokens.specs.Forms.{token_text}
use Rattle.page_tokens.specs.Starts.{start_text}
use Rattle.cutset_writer.specs.declared.form.SetForm.{SetForm}
use Rattle.cutset_writer.specs.declared.form.SetForm.TheVariants.{Token, Quoted}

-- a set in a line: a blank and its text, or its names in quotes with a blank before each
abbrev pub form_text : SetForm → System → List ℕ → List ℕ
form_text Token system set = 32 ∷ set_text system set
form_text Quoted system set = quoted_text system set

-- a set's line: its size, the set and a line feed
abbrev pub set_line : SetForm → System → List ℕ → List ℕ
set_line form system set = decimal (length set) ++ (form_text form system set ++ (10 ∷ []))

-- the line where a further set follows: `more`, and behind the digits of a key the token of the last set, or of the beginning
abbrev pub more_line : Option (List ℕ) → System → Option (List ℕ) → List ℕ
more_line None system last = codes "more\n"
more_line (Some key) system last = codes "more " ++ (token_text key (start_text system last) ++ (10 ∷ []))

-- the last line: this one where a further set follows, and else `end`
abbrev pub last_line : List ℕ → Bool → List ℕ
last_line line more = if more then line else codes "end\n"

-- the last of some sets, and this one where there is none
abbrev pub last_of : Option (List ℕ) → List (List ℕ) → Option (List ℕ)
last_of last [] = last
last_of last (set ∷ sets) = last_of (Some set) sets

-- the first of some sets, as many as a limit lets, each in a line of its own, and the last line, whose token is that of the last of
-- them, or of this set
abbrev pub marked_text : SetForm → System → Option (List ℕ) → Option (List ℕ) → Option ℕ → List (List ℕ) → List ℕ
marked_text form system key last limit sets =
    flat_map (set_line form system) (first_of limit sets) ++ last_line (more_line key system (last_of last (first_of limit sets))) (has_more limit sets)

-- a page of a listing: of the sets that stand later than a given one, as many as a limit lets; where the digits of a key are given,
-- with a token in the last line
abbrev pub marked_page : SetForm → System → Option (List ℕ) → Option (List ℕ) → Option ℕ → List (List ℕ) → List ℕ
marked_page form system key after limit sets = marked_text form system key after limit (sets_after after sets)

-- the same without a token
abbrev pub listing_page : SetForm → System → Option (List ℕ) → Option ℕ → List (List ℕ) → List ℕ
listing_page form system after limit sets = marked_page form system None after limit sets
