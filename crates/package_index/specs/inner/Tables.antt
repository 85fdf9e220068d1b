-- What the tables of an index know.
use Rattle.std.specs.Prelude.{◌≡◌, ℕ, Bool, true, false, ◌&&◌, List, Option, Some, None, position, option_map, IsSome, cond, nat_eq, flat_map, ◌++◌}
use denote.Ref.{Bor}
use Rattle.std.specs.Bool.{beq}
use Rattle.std.specs.Option.{option_eq}
use Rattle.std.specs.Cmp.Lexicographic.{pointwise}
use Rattle.aadl_syntax.specs.declared.core_model.Alias.{Alias}
use Rattle.aadl_syntax.specs.declared.core_model.Decl.{Decl}
use Rattle.aadl_syntax.specs.declared.core_model.PackageUnit.{PackageUnit}
use Rattle.package_index.specs.declared.words.Words.{Words}
use Rattle.plain_values.specs.declared.refusal.Refusal.{Refusal}
use Rattle.noted_refusals.specs.inner.Noted.{Noted, noting}
use Rattle.package_index.specs.Duplicates.{classifiers_again}
use Rattle.package_index.specs.Names.{is_same_name}
use Rattle.package_index.specs.inner.Names.{names_of}
use Rattle.package_index.specs.Lookup.{has_name, is_alias, is_named}

-- The table gives each key the place of the first of the items that has it.
abbrev pub Knows : {Key Item : Type 0} → (Key → Item → Bool) → List Item → (Key → Option ℕ) → Type 0
Knows {Key} has items table = (key : Key) → table key ≡ position (has key) items

-- The key stands in the new table with this number, as it did not in the old one, or else the new one is the old one,
-- which has it.
abbrev pub Added : {Key : Type 0} → (Key → Key → Bool) → (Key → Option ℕ) → (Key → Option ℕ) → Key → ℕ → Bool → Type 0
Added {Key} same old new key number true = (old key ≡ None) × ((other : Key) → new other ≡ cond (same key other) (Some number) (old other))
Added {Key} same old new key number false = IsSome (old key) × ((other : Key) → new other ≡ old other)

-- whether a package has the name
abbrev pub has_words : Words → PackageUnit → Bool
has_words words unit = has_name (names_of words) unit

-- whether two names are the same
abbrev pub same_words : Words → Words → Bool
same_words a b = is_same_name (names_of a) (names_of b)

-- whether two texts are the same
abbrev pub same_text : Bor (List ℕ) → Bor (List ℕ) → Bool
same_text a b = pointwise nat_eq a.now b.now

-- whether two pairs of numbers are the same
abbrev pub same_pair : ℕ × ℕ → ℕ × ℕ → Bool
same_pair a b = nat_eq a.0 b.0 && nat_eq a.1 b.1

-- the key of a classifier: its name and its item
abbrev pub Key : Type 0
Key = Bor (List ℕ) × Option (Bor (List ℕ))

-- whether two such keys are the same
abbrev pub same_key : Key → Key → Bool
same_key a b = pointwise nat_eq a.0.now b.0.now && option_eq (λ (x : Bor (List ℕ)) (y : Bor (List ℕ)). pointwise nat_eq x.now y.now) a.1 b.1

-- whether a classifier has the name and the item
abbrev pub has_key : Key → Decl → Bool
has_key key decl = is_named key.0.now (option_map (λ item. item.now) key.1) decl

-- the key of an alias: whether it stands for a package, and its name
abbrev pub AliasKey : Type 0
AliasKey = Bool × Bor (List ℕ)

-- whether two such keys are the same
abbrev pub same_alias_key : AliasKey → AliasKey → Bool
same_alias_key a b = beq a.0 b.0 && pointwise nat_eq a.1.now b.1.now

-- whether an alias has the name, and stands for a package or for a classifier
abbrev pub has_alias : AliasKey → Alias → Bool
has_alias key alias = is_alias key.0 key.1.now alias

-- The packages are those before and then these, and what is noted is what was noted before and then the
-- classifiers of these that were declared before.
pub record Gathered (before after : List PackageUnit) (noted_before noted_after : Noted) (units : List PackageUnit) : Type 0 where
  pub packages : after ≡ before ++ units
  pub first : noted_after ≡ noting noted_before (flat_map (λ unit. classifiers_again unit.decls) units)
