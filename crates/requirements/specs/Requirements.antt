-- The requirements that a text has.
use Rattle.std.specs.Prelude.{ℕ, cond, codes, List, [], ◌∷◌, ◌++◌, Result, Ok, Err}
use Rattle.requirements.specs.declared.words.PlacedWord.{PlacedWord}
use Rattle.requirements.specs.declared.sentence.Sentence.{Sentence}
use Rattle.requirements.specs.declared.reading.Group.{Group}
use Rattle.requirements.specs.declared.reading.GroupKind.{GroupKind}
use Rattle.requirements.specs.declared.reading.GroupKind.TheVariants.{Parts, Events}
use Rattle.requirements.specs.declared.reading.Requirement.{Requirement}
use Rattle.requirements.specs.declared.reading.Requirements.{Requirements}
use Rattle.requirements.specs.Words.{lines_of}
use Rattle.requirements.specs.Sentences.{is_word, sentence_of}

-- no groups and no requirements
abbrev pub none_read : Requirements
none_read = record { groups = []; requirements = [] }

-- these requirements, and one group more
abbrev pub with_group : Requirements → Group → Requirements
with_group all group = record all { groups = all.groups ++ group ∷ [] }

-- these requirements, and that of this name, target and sentence
abbrev pub with_sentence : Requirements → PlacedWord → PlacedWord → Result Sentence ℕ → Result Requirements ℕ
with_sentence all name target (Err at) = Err at
with_sentence all name target (Ok sentence) =
    let its : Requirement = record { name = name; target = target; sentence = sentence } in Ok (record all { requirements = all.requirements ++ its ∷ [] })

-- A group: its name, and one member at least; else the place of the word behind which one lacks.
abbrev pub group_line : Requirements → GroupKind → PlacedWord → List PlacedWord → Result Requirements ℕ
group_line all kind word [] = Err word.at
group_line all kind word (name ∷ []) = Err name.at
group_line all kind word (name ∷ (member ∷ members)) = let group : Group = record { kind = kind; name = name; members = member ∷ members } in Ok (with_group all group)

-- A requirement: its name, its target and a sentence.
abbrev pub requirement_line : Requirements → PlacedWord → List PlacedWord → Result Requirements ℕ
requirement_line all name [] = Err name.at
requirement_line all name (target ∷ []) = Err target.at
requirement_line all name (target ∷ (word ∷ more)) = with_sentence all name target (sentence_of word more)

-- These requirements and those of one line more: none of an empty one; `parts` and `events` begin a group, and each other word a requirement.
abbrev pub with_line : Requirements → List PlacedWord → Result Requirements ℕ
with_line all [] = Ok all
with_line all (word ∷ more) =
    cond (is_word word (codes "parts")) (group_line all Parts word more)
    (cond (is_word word (codes "events")) (group_line all Events word more) (requirement_line all word more))

-- with the lines that are left, where those before were read so
abbrev pub with_lines : Result Requirements ℕ → List (List PlacedWord) → Result Requirements ℕ
with_lines (Err at) lines = Err at
with_lines (Ok all) [] = Ok all
with_lines (Ok all) (line ∷ lines) = with_lines (with_line all line) lines

-- The requirements of a text, in its order; or the place of the first word that is wrong.
abbrev pub requirements_of : List ℕ → Result Requirements ℕ
requirements_of text = with_lines (Ok none_read) (lines_of text)
