-- The least numbers of the families of EMPTY, of UNIT and of one number alone.
use Rattle.std.proofs.Common.{◌≡◌, ℕ, ◌<◌, ◌∙◌, ap, arith, [], ◌∷◌}
use Rattle.zdd_store.specs.inner.Family.{Family, branch, least_number, least_of}
use Rattle.zdd_store.specs.inner.Store.{Families, family_at, IsSound}

pub least-empty : (store : Families) → IsSound store → least_number (family_at store 0) ≡ 4294967296
unfolding least_number
least-empty store sound = ap least_number sound.empty

pub least-unit : (store : Families) → IsSound store → least_number (family_at store 1) ≡ 4294967296
unfolding least_number least_of
least-unit store sound = ap least_number sound.unit

pub least-single : (store : Families) (var : ℕ) (family : Family) → IsSound store → var < 4294967296 → family ≡ branch var (family_at store 0) (family_at store 1) → least_number family ≡ var
unfolding least_number least_of branch
least-single store var family sound h e =
    let is : family ≡ branch var [] ([] ∷ []) = e ∙ ap (λ lo. branch var lo (family_at store 1)) sound.empty ∙ ap (branch var []) sound.unit in
    ap least_number is ∙ (omega arith)
