-- Sets of keys, with the key of an item more.
use Rattle.std.proofs.Common.{◌≡◌, ◌<◌, ◌+◌, ℕ, Bool, true, false, ◌||◌, cond, List, length, take, get_or, refl, sym, ap, ◌∙◌}
use Rattle.std.specs.List.{list_any}
use Rattle.package_index.proofs.Loops.{any-more}

-- a key that is put into a set
one-more : (b had : Bool) → cond b true had ≡ (had || b)
one-more true true = refl
one-more true false = refl
one-more false true = refl
one-more false false = refl

pub keys-more : {Item Key : Type 0} (same : Key → Key → Bool) (key_of : Item → Key) (items : List Item) (i : ℕ) (item : Item) → i < length items → item ≡ get_or items i item
    → (old new : Key → Bool) → ((key : Key) → old key ≡ list_any (λ other. same (key_of other) key) (take i items))
    → ((key : Key) → new key ≡ cond (same (key_of item) key) true (old key))
    → (key : Key) → new key ≡ list_any (λ other. same (key_of other) key) (take (i + 1) items)
keys-more same key_of items i item within is old new knows put key =
    put key ∙ one-more (same (key_of item) key) (old key) ∙ ap (λ b. b || same (key_of item) key) (knows key)
    ∙ sym (any-more items i item within is (λ other. same (key_of other) key))
