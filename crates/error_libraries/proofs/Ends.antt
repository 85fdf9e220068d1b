-- A search that has found an item, or came back, has its end.
use Rattle.std.proofs.Common.{◌≡◌, refl}
use Rattle.error_libraries.specs.declared.id.Looked.{Looked}
use Rattle.error_libraries.specs.declared.id.Looked.TheVariants.{Found, Nowhere, Circular}
use Rattle.error_libraries.specs.Search.{Search, unless_ended}

pub ends : (own : Looked) → (own ≡ Nowhere → ⊥) → (search rest : Search) → unless_ended own search rest ≡ search
ends (Found id) other search rest = refl
ends Nowhere other search rest = absurd (other refl)
ends Circular other search rest = refl
