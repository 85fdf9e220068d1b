-- What a stream tells grows by what it took, and where it tells nothing it never does.
use Rattle.std.proofs.Common.{◌≡◌, ℕ, true, List, Option, Some, None, refl, ap}
use Rattle.std.specs.Option.{is_none}
use Rattle.std.specs.Io.KnownBytes.{Appends, Keeps}
use Rattle.fta_outside.specs.Outside.{with_bytes}

-- it took these bytes
pub added : (old new : Option (List ℕ)) (bytes : List ℕ) → (is_none old ≡ true → is_none new ≡ true) → Appends old new bytes → new ≡ with_bytes old bytes
added None None bytes steady adds = refl
added None (Some ys) bytes steady adds = absurd (let none = steady refl in cc)
added (Some xs) None bytes steady adds = absurd adds
added (Some xs) (Some ys) bytes steady adds = ap Some adds

-- it took none
pub kept : (old new : Option (List ℕ)) → (is_none old ≡ true → is_none new ≡ true) → Keeps old new → new ≡ old
kept None None steady keeps = refl
kept None (Some ys) steady keeps = absurd (let none = steady refl in cc)
kept (Some xs) None steady keeps = absurd keeps
kept (Some xs) (Some ys) steady keeps = ap Some keeps
