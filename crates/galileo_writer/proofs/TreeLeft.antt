-- The parts of the text of a tree, one after the other.
use Rattle.std.proofs.Common.{◌≡◌, List, ℕ, ◌++◌, map, ap}
use Rattle.std.specs.List.{flat_map}
use Rattle.std.proofs.lemmas.List.Concat.{flat_map-append}
use Rattle.galileo_writer.specs.Galileo.{Line, line_text}

-- the line of the top, the lines of gates and those of events, one after the other
pub parts-text : {A B : Type 0} (top : List ℕ) (gate : A → Line) (event : B → Line) (gates : List A) (events : List B)
    → top ++ flat_map line_text (map gate gates ++ map event events) ≡ top ++ (flat_map line_text (map gate gates) ++ flat_map line_text (map event events))
parts-text top gate event gates events = ap (λ rest. top ++ rest) (flat_map-append line_text (map gate gates) (map event events))
