-- In which form a tree is written, by the words.
use Rattle.std.specs.Prelude.{ℕ, Bool, true, false, ◌||◌, if◌then◌else◌, List, [], ◌∷◌, ◌++◌, codes}
use Rattle.plain_values.specs.Name.{is_same_text}
use Rattle.plain_values.specs.declared.name.Root.{Root}
use Rattle.page_tokens.specs.Keys.{root_text}
use Rattle.profiles.specs.declared.profile.Profile.{Profile}
use Rattle.profiles.specs.declared.profile.Profile.TheVariants.{First, Second}
use Rattle.file_digests.specs.Digests.{digest_texts}
use Rattle.help_texts.specs.Texts.{program_text}
use Rattle.fta_words.specs.declared.command.Form.{Form}
use Rattle.system_answers.specs.declared.form.TreeForm.{TreeForm}
use Rattle.system_answers.specs.declared.form.TreeFormat.{TreeFormat}
use Rattle.system_answers.specs.declared.form.TreeFormat.TheVariants.{Galileo, Mef, Dot}

-- the format of a name; Galileo text where none is given
abbrev pub format_named : List ℕ → TreeFormat
format_named name = if is_same_text name (codes "mef") then Mef else (if is_same_text name (codes "dot") then Dot else Galileo)

-- whether a tree that is read from a file is to be written in the Open-PSA Model Exchange Format
abbrev pub is_exchanged : Form → Bool
is_exchanged form = is_same_text form.format (codes "mef")

-- whether it is to be written in a format, or drawn
abbrev pub is_drawn : Form → Bool
is_drawn form = is_same_text form.format (codes "dot") || is_exchanged form

-- whether the second profile is asked for
abbrev pub is_second : Form → Bool
is_second form = is_same_text form.profile (codes "2")

-- the profile by which a model is read: the first, where no other is asked for
abbrev pub profile_of : Form → Profile
profile_of form = if is_second form then Second else First

-- whether the text of a tree is read as other tools write it, too
abbrev pub is_wide : Form → Bool
is_wide form = is_second form

-- whether merged gates are asked for
abbrev pub is_merging : Form → Bool
is_merging form = is_same_text form.gates (codes "merged")

-- whether each event must have a rate
abbrev pub is_rated : Form → Bool
is_rated form = is_same_text form.unrated (codes "refuse")

-- the words of the gates that are asked for
abbrev pub gates_words : Bool → List ℕ
gates_words false = []
gates_words true = codes " --gates merged"

-- the words of a profile that is not the first
abbrev pub profile_words : Profile → List ℕ
profile_words First = []
profile_words Second = codes " --profile 2"

-- the words of what is asked of a target
abbrev pub tree_words : Profile → Root → List ℕ → List ℕ
tree_words profile root target = codes "tree " ++ (root_text root ++ (32 ∷ (target ++ profile_words profile)))

-- the words of what is asked of a tree that is read from a file
abbrev pub drawn_words : Bool → List ℕ
drawn_words merged = codes "galileo" ++ gates_words merged

-- the legend of a picture: the program, what is asked for, and the digest of each file
abbrev pub picture_legend : List ℕ → List (List ℕ) → List (List ℕ) → List (List ℕ)
picture_legend asked files texts = program_text ∷ asked ∷ digest_texts files texts

-- the legend of a text in a format: a picture alone has one
abbrev pub legend_in : TreeFormat → List ℕ → List (List ℕ) → List (List ℕ) → List (List ℕ)
legend_in Galileo asked files texts = []
legend_in Mef asked files texts = []
legend_in Dot asked files texts = picture_legend asked files texts

-- the form of a tree, for which these words ask, of files of these names with these texts
abbrev pub tree_form : Form → List ℕ → List (List ℕ) → List (List ℕ) → TreeForm
tree_form form asked files texts =
    record {
      format = format_named form.format;
      merged = is_merging form;
      rated = is_rated form;
      legend = legend_in (format_named form.format) (asked ++ gates_words (is_merging form)) files texts;
    }
