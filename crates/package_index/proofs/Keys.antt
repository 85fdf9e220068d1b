-- The keys of the tables, and when two of them are the same.
use Rattle.std.proofs.Common.{ℕ, ◌≡◌, true, ◌&&◌, nat_eq, List, Option, Some, None, Bor, option_map, refl, sym, ap, ◌∙◌}
use Rattle.std.specs.Bool.{beq}
use Rattle.std.specs.Option.{option_eq}
use Rattle.std.specs.Cmp.{booleans_Decides, first_so, second_so}
use Rattle.std.specs.Cmp.Lexicographic.{pointwise, pointwise_decides, bytes_decides}
use Rattle.std.proofs.lemmas.Bool.{false≢true}
use Rattle.std.proofs.lemmas.Slice.Eq.{bytes_eq-Decides}
use Rattle.plain_values.specs.Name.{is_same_text}
use Rattle.aadl_syntax.specs.declared.core_model.Alias.{Alias}
use Rattle.aadl_syntax.specs.declared.core_model.Decl.{Decl}
use Rattle.std.specs.List.{list_any}
use Rattle.aadl_syntax.specs.declared.core_model.PackageUnit.{PackageUnit}
use Rattle.package_index.specs.declared.words.Words.{Words}
use Rattle.package_index.specs.Lookup.{has_name, is_named}
use Rattle.package_index.specs.Names.{is_same_name}
use Rattle.package_index.specs.inner.Names.{names_of}
use Rattle.package_index.specs.inner.Tables.{AliasKey, Key, has_alias, has_key, has_words, same_alias_key, same_key, same_words}

-- ---- keys of aliases

pub alias_agrees : (alias : Alias) (key other : AliasKey) → key.0 ≡ alias.«package» → key.1.now ≡ alias.name → has_alias other alias ≡ same_alias_key key other
alias_agrees alias key other sort name = λ i. beq (sym sort i) other.0 && pointwise nat_eq (sym name i) other.1.now

pub alias_alike : (key other : AliasKey) → same_alias_key key other ≡ true → (alias : Alias) → has_alias other alias ≡ has_alias key alias
alias_alike key other same alias =
    let sort : key.0 ≡ other.0 = (booleans_Decides key.0 other.0).0 (first_so _ _ same) in
    let name : key.1.now ≡ other.1.now = (bytes_eq-Decides key.1.now other.1.now).0 (second_so _ _ same) in
    λ i. beq alias.«package» (sym sort i) && is_same_text alias.name (sym name i)

-- ---- keys of classifiers

item_eq : (a b : Option (Bor (List ℕ))) → option_eq is_same_text (option_map (λ item. item.now) a) (option_map (λ item. item.now) b) ≡ option_eq (λ (x : Bor (List ℕ)) (y : Bor (List ℕ)). pointwise nat_eq x.now y.now) a b
item_eq None None = refl
item_eq None (Some y) = refl
item_eq (Some x) None = refl
item_eq (Some x) (Some y) = refl

item_same : (a b : Option (Bor (List ℕ))) → option_eq (λ (x : Bor (List ℕ)) (y : Bor (List ℕ)). pointwise nat_eq x.now y.now) a b ≡ true → option_map (λ item. item.now) a ≡ option_map (λ item. item.now) b
item_same None None same = refl
item_same None (Some y) same = absurd (false≢true same)
item_same (Some x) None same = absurd (false≢true same)
item_same (Some x) (Some y) same = ap Some ((bytes_eq-Decides x.now y.now).0 same)

pub key_agrees : (decl : Decl) (key other : Key) → key.0.now ≡ decl.name → option_map (λ item. item.now) key.1 ≡ decl.item → has_key other decl ≡ same_key key other
key_agrees decl key other name item =
    (λ i. pointwise nat_eq (sym name i) other.0.now && option_eq is_same_text (sym item i) (option_map (λ item. item.now) other.1))
    ∙ ap (λ b. pointwise nat_eq key.0.now other.0.now && b) (item_eq key.1 other.1)

pub key_alike : (key other : Key) → same_key key other ≡ true → (decl : Decl) → has_key other decl ≡ has_key key decl
key_alike key other same decl =
    let name : key.0.now ≡ other.0.now = (bytes_eq-Decides key.0.now other.0.now).0 (first_so _ _ same) in
    let item : option_map (λ item. item.now) key.1 ≡ option_map (λ item. item.now) other.1 = item_same key.1 other.1 (second_so _ _ same) in
    λ i. is_same_text decl.name (sym name i) && option_eq is_same_text decl.item (sym item i)

-- a classifier's key tells what its name and item tell
pub same_names : (decl : Decl) (key : Key) (decls : List Decl) → key.0.now ≡ decl.name → option_map (λ item. item.now) key.1 ≡ decl.item → list_any (has_key key) decls ≡ list_any (is_named decl.name decl.item) decls
same_names decl key decls name item = λ i. list_any (is_named (name i) (item i)) decls

-- ---- keys of packages

pub words_agrees : (unit : PackageUnit) (key other : Words) → names_of key ≡ unit.name → has_words other unit ≡ same_words key other
words_agrees unit key other name = λ i. is_same_name (sym name i) (names_of other)

pub words_alike : (key other : Words) → same_words key other ≡ true → (unit : PackageUnit) → has_words other unit ≡ has_words key unit
words_alike key other same unit =
    let name : names_of key ≡ names_of other = (pointwise_decides {E = is_same_text} bytes_decides (names_of key) (names_of other)).0 same in
    λ i. is_same_name unit.name (sym name i)

pub same_packages : (unit : PackageUnit) (key : Words) (units : List PackageUnit) → names_of key ≡ unit.name → list_any (has_words key) units ≡ list_any (has_name unit.name) units
same_packages unit key units name = λ i. list_any (has_name (name i)) units
