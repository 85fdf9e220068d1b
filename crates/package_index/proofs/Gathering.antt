-- The packages of the units, one after the other.
use Rattle.std.proofs.Common.{ℕ, ◌+◌, ◌≡◌, ◌<◌, List, [], ◌∷◌, ◌++◌, length, take, get_or, MatchOption, flat_map, refl, sym, ap, ◌∙◌, subst}
use Rattle.std.proofs.lemmas.List.{take_more, append-nil, append_assoc}
use Rattle.std.proofs.lemmas.Grind.{flat_map-append}
use Rattle.aadl_syntax.specs.declared.core_model.PackageUnit.{PackageUnit}
use Rattle.plain_values.specs.declared.refusal.Refusal.{Refusal}
use Rattle.plain_values.specs.Order.{IsClear, IsFirst}
use Rattle.noted_refusals.specs.inner.Noted.{Lists, Noted, noting, nothing_noted}
use Rattle.noted_refusals.proofs.Laws.{noted-all, noted-lists, noted-more}
use Rattle.package_index.specs.Duplicates.{IsDuplicate, classifiers_again, duplicates, packages_again}
use Rattle.package_index.specs.inner.Tables.{Gathered}
use Rattle.package_index.proofs.DuplicateLaws.{told}

pub gathered-none : (packages : List PackageUnit) (noted : Noted) → Gathered packages packages noted noted []
gathered-none packages noted = record { packages = sym (append-nil packages); first = refl }

abbrev again_in : PackageUnit → List Refusal
again_in unit = classifiers_again unit.decls

gathered-more : (a b c : List PackageUnit) (f g h : Noted) (units more : List PackageUnit) → Gathered a b f g units → Gathered b c g h more → Gathered a c f h (units ++ more)
gathered-more a b c f g h units more one two = record {
  packages = two.packages ∙ ap (λ front. front ++ more) one.packages ∙ append_assoc a units more;
  first =
      two.first ∙ noted-more f g (flat_map again_in units) (flat_map again_in more) one.first
      ∙ ap (λ group. noting f group) (sym (flat_map-append again_in units more));
}

module _ {Part : Type 0} (units_of : Part → List PackageUnit) (parts : List Part) where
  front-more : (i : ℕ) (part : Part) → i < length parts → part ≡ get_or parts i part → flat_map units_of (take i parts) ++ units_of part ≡ flat_map units_of (take (i + 1) parts)
  front-more i part within is =
      ap (λ units. flat_map units_of (take i parts) ++ units) (sym (append-nil (units_of part)))
      ∙ sym (ap (flat_map units_of) (take_more parts i part within ∙ ap (λ x. take i parts ++ x ∷ []) (sym is)) ∙ flat_map-append units_of (take i parts) (part ∷ []))

  -- the step of a loop over parts that have units
  pub gathered-step : (i : ℕ) (part : Part) (a b c : List PackageUnit) (f g h : Noted) → i < length parts → part ≡ get_or parts i part
      → Gathered a b f g (flat_map units_of (take i parts)) → Gathered b c g h (units_of part) → Gathered a c f h (flat_map units_of (take (i + 1) parts))
  gathered-step i part a b c f g h within is one two =
      subst (Gathered a c f h) (front-more i part within is) (gathered-more a b c f g h (flat_map units_of (take i parts)) (units_of part) one two)

-- what was noted of all packages
module _ (units packages : List PackageUnit) (room : ℕ) (none first last : Noted) (start : none ≡ nothing_noted room) (gathered : Gathered [] packages none first units) (noted : last ≡ noting first (packages_again packages)) where
  all-duplicates : last ≡ noting (nothing_noted room) (duplicates units)
  all-duplicates =
      noted ∙ ap (λ ps. noting first (packages_again ps)) gathered.packages ∙ noted-more none first (flat_map again_in units) (packages_again units) gathered.first
      ∙ ap (λ before. noting before (duplicates units)) start

  -- the first of them
  pub noted-duplicates : MatchOption last.first (IsClear (IsDuplicate units)) (λ refusal. IsFirst (IsDuplicate units) refusal)
  noted-duplicates = told units last.first (noted-all room last (duplicates units) all-duplicates)

  -- and all of them
  pub listed-duplicates : Lists (duplicates units) last
  listed-duplicates = noted-lists room last (duplicates units) all-duplicates
