-- Small examples of the definitions, each proved by computing it.
use Rattle.std.proofs.Common.{ℕ, ◌≡◌, false, true, List, [], ◌∷◌, codes, Some, None, refl}
use Rattle.instantiator.specs.declared.path.Component.{Component}
use Rattle.instantiator.specs.Whole.{Instance}
use Rattle.propagation_links.specs.declared.link.Link.{Link}
use Rattle.sheet_model.specs.Parts.{category_of, category_text, classifier_of, dotted, holder_of, joined, next_of}

-- ---- words

one_word : category_text (record { word = codes "device"; second = None }) ≡ codes "device"
one_word = refl

two_words : category_text (record { word = codes "virtual"; second = Some (codes "bus") }) ≡ codes "virtual bus"
two_words = refl

package_name : joined (codes "flight" ∷ codes "parts" ∷ []) ≡ codes "flight::parts"
package_name = refl

item_name : dotted (Some (codes "basic")) ≡ codes ".basic"
item_name = refl

-- what has no classifier has neither
no_category : category_of [] None ≡ []
no_category = refl

no_classifier : classifier_of [] None ≡ []
no_classifier = refl

-- ---- where it is felt next: the root, a part a with a part b in it, and a part c

abbrev component : List (List ℕ) → Component
component path = record { path = path; classifier = None }

abbrev small : Instance
small = record {
  packages = [];
  components = component [] ∷ component (codes "a" ∷ []) ∷ component (codes "a" ∷ codes "b" ∷ []) ∷ component (codes "c" ∷ []) ∷ [];
  kinds = [];
}

abbrev link : ℕ → ℕ → Link
link from to = record { from = record { component = from; point = 0; outward = true }; to = record { component = to; point = 0; outward = false } }

-- two links from a to c, one from b to a, and one from c to itself
abbrev links : List Link
links = link 1 3 ∷ link 2 1 ∷ link 1 3 ∷ link 3 3 ∷ []

root_holder : holder_of small 0 ≡ None
root_holder = refl

part_holder : holder_of small 2 ≡ Some 1
part_holder = refl

-- the root is felt nowhere
of_root : next_of small links 0 ≡ []
of_root = refl

-- a is felt in the root, in which it stands, and in c, once
of_a : next_of small links 1 ≡ 0 ∷ 3 ∷ []
of_a = refl

-- b is felt in a, in which it stands and to which a link leads, once
of_b : next_of small links 2 ≡ 1 ∷ []
of_b = refl

-- c is not felt next in itself
of_c : next_of small links 3 ≡ 0 ∷ []
of_c = refl
