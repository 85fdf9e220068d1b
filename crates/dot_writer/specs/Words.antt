-- The words of a box: what the name of a fact or of an event says.
use Rattle.std.specs.Prelude.{ℕ, ◌+◌, ◌==◌, if◌then◌else◌, List, [], ◌++◌, codes, take, drop, position, unwrap_or, Option, Some, None}
use Rattle.std.specs.Option.{option_map, option_map_or}
use Rattle.plain_values.specs.Name.{is_same_text}
use Rattle.dot_writer.specs.Shown.{shown}

-- the place of the first of a byte
abbrev pub place_of : ℕ → List ℕ → Option ℕ
place_of byte text = position (λ other. other == byte) text

-- a text up to the first of a byte, and all of it where there is none
abbrev pub until : ℕ → List ℕ → List ℕ
until byte text = option_map_or (λ place. take place text) (place_of byte text) text

-- a text behind the first of a byte, where there is one
abbrev pub behind : ℕ → List ℕ → Option (List ℕ)
behind byte text = option_map (λ place. drop (place + 1) text) (place_of byte text)

-- how a component is called: by its path without `root.`, and the root itself `system`, which no component is named
abbrev pub part_name : List ℕ → List ℕ
part_name path = if is_same_text (until 46 path) (codes "root") then unwrap_or (behind 46 path) (codes "system") else path

-- a name, and its type on a line of its own: `p{lib::t}` is `p`, and below it `lib::t`
abbrev pub typed_words : List ℕ → List ℕ
typed_words text = shown (until 123 text) ++ option_map_or (λ type. codes "<br/>" ++ shown (until 125 type)) (behind 123 text) []

-- what is said of a state, of what leaves, of what arrives and of a source
abbrev pub verb_of : List ℕ → Option (List ℕ)
verb_of word =
    if is_same_text word (codes "state") then Some (codes "is ")
    else if is_same_text word (codes "out") then Some (codes "sends ")
    else if is_same_text word (codes "in") then Some (codes "gets ")
    else if is_same_text word (codes "source") then Some (codes "source ")
    else None

-- a verb and what it is said of, where both are there, and else the text itself
abbrev pub spoken : Option (List ℕ) → Option (List ℕ) → List ℕ → List ℕ
spoken None rest text = typed_words text
spoken (Some verb) None text = typed_words text
spoken (Some verb) (Some rest) text = verb ++ typed_words rest

-- what happens: `state:s` is `is s`, `out:p{lib::t}` is `sends p`, `in:p{lib::t}` is `gets p`, and an event is its name
abbrev pub happening : List ℕ → List ℕ
happening text = spoken (verb_of (until 58 text)) (behind 58 text) text

-- The words of a box: the part in bold, and below it what happens, without `@` and what follows it. A name without a slash stands as it is.
abbrev pub words_of : List ℕ → List ℕ
words_of name =
    option_map_or (λ what. codes "<b>" ++ (shown (part_name (until 47 name)) ++ (codes " </b><br/>" ++ happening (until 64 what)))) (behind 47 name) (shown name)
