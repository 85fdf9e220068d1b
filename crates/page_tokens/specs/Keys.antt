-- The key of what a page is asked of.
use Rattle.std.specs.Prelude.{ℕ, Bool, ◌||◌, if◌then◌else◌, replicate, List, [], ◌∷◌, ◌++◌, length, codes, decimal, Option, None, Some}
use Rattle.std.specs.List.{flat_map}
use Rattle.hex.specs.Hex.{encode_lower}
use Rattle.sha2.specs.Sha256.{sha256}
use Rattle.plain_values.specs.declared.name.Root.{Root}
use Rattle.profiles.specs.declared.profile.Profile.{Profile}
use Rattle.profiles.specs.declared.profile.Profile.TheVariants.{First, Second}
use Rattle.page_tokens.specs.Forms.{begins_new}

-- a text and a line feed
abbrev pub line : List ℕ → List ℕ
line text = text ++ (10 ∷ [])

-- names with `::` between them
abbrev pub joined : List (List ℕ) → List ℕ
joined [] = []
joined (name ∷ names) = name ++ flat_map (λ other. 58 ∷ 58 ∷ other) names

-- the item of an implementation, behind a dot
abbrev pub dotted : Option (List ℕ) → List ℕ
dotted None = []
dotted (Some item) = 46 ∷ item

-- a root: its names with `::` between them, and its item
abbrev pub root_text : Root → List ℕ
root_text root = joined root.names ++ dotted root.item

-- the greatest number of events of a set, or `-` where there is none
abbrev pub order_text : Option ℕ → List ℕ
order_text None = codes "-"
order_text (Some most) = decimal most

-- a file: its length, in a line of its own, and its bytes
abbrev pub file_text : List ℕ → List ℕ
file_text file = line (decimal (length file)) ++ file

-- the number of files, and each of them
abbrev pub files_text : List (List ℕ) → List ℕ
files_text files = line (decimal (length files)) ++ flat_map file_text files

-- the profile by which a model is read, in a line of its own, where it is not the first
abbrev pub profile_text : Profile → List ℕ
profile_text First = []
profile_text Second = line (codes "profile 2")

-- what a page is asked of: the profile, the root, the target, the greatest number of events of a set, and the files
abbrev pub key_text : Profile → Root → List ℕ → Option ℕ → List (List ℕ) → List ℕ
key_text profile root target max_order files = profile_text profile ++ line (root_text root) ++ line target ++ line (order_text max_order) ++ files_text files

-- the digits of its key: its SHA-256 in lower-case hexadecimal digits
abbrev pub key_digits : Profile → Root → List ℕ → Option ℕ → List (List ℕ) → List ℕ
key_digits profile root target max_order files = encode_lower (sha256 (key_text profile root target max_order files))

-- whether the digits are asked for: for the last line of a page, or by a token of the second version
abbrev pub asks_digits : Bool → Option (List ℕ) → Bool
asks_digits tokens None = tokens
asks_digits tokens (Some text) = tokens || begins_new text

-- the digits where they are asked for; where they are not, no answer depends on them, and they are zeros
abbrev pub asked_digits : Bool → Option (List ℕ) → Profile → Root → List ℕ → Option ℕ → List (List ℕ) → List ℕ
asked_digits tokens after profile root target max_order files = if asks_digits tokens after then key_digits profile root target max_order files else replicate 64 48
