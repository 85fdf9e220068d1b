-- A table of what is remembered, with one thing more.
use Rattle.std.proofs.Common.{◌≡◌, Bool, true, false, cond, List, Option, Some, refl, sym, ◌∙◌, subst}
use Rattle.std.specs.Cmp.{first_so, second_so}
use Rattle.std.proofs.lemmas.Bool.Decides.{Decides-eqb}
use Rattle.std.proofs.lemmas.Option.{same_Some}
use Rattle.std.proofs.lemmas.Slice.Eq.{bytes_eq-Decides}
use Rattle.error_libraries.specs.declared.known.Found.{Found}
use Rattle.error_libraries.specs.inner.Known.{IsFound, SearchKey, same_search}
use Rattle.error_libraries.specs.Libraries.{Library}
use Rattle.error_libraries.specs.Search.{search}

module _ {Key Value : Type 0} (same : Key → Key → Bool) (IsRight : Key → Value → Type 0) (old new : Key → Option Value) (key : Key) (value : Value) where
  remembered-at : (other : Key) (test : Bool) → same key other ≡ test → (same key other ≡ true → IsRight other value) → (other_value : Value) → cond test (Some value) (old other) ≡ Some other_value → (old other ≡ Some other_value → IsRight other other_value) → IsRight other other_value
  remembered-at other true is right other_value there was = subst (IsRight other) (same_Some value other_value there) (right is)
  remembered-at other false is right other_value there was = was there

  pub remembered-more : ((other : Key) → new other ≡ cond (same key other) (Some value) (old other)) → ((other : Key) → same key other ≡ true → IsRight other value) → ((other : Key) (other_value : Value) → old other ≡ Some other_value → IsRight other other_value)
      → (other : Key) (other_value : Value) → new other ≡ Some other_value → IsRight other other_value
  remembered-more updates right was other other_value there = remembered-at other (same key other) refl (right other) other_value (sym (updates other) ∙ there) (was other other_value)

-- a search that is the same finds the same
pub found-alike : (libraries : List Library) (key other : SearchKey) (found : Found) → IsFound libraries key found → same_search key other ≡ true → IsFound libraries other found
found-alike libraries key other found is same =
    let number : key.0 ≡ other.0 = (Decides-eqb key.0 other.0).0 (first_so _ _ same) in
    let name : key.1.now ≡ other.1.now = (bytes_eq-Decides key.1.now other.1.now).0 (second_so _ _ same) in
    record {
      looked = (λ i. (search libraries (sym name i) (sym number i)).found) ∙ is.looked;
      first = (λ i. (search libraries (sym name i) (sym number i)).first) ∙ is.first;
    }
