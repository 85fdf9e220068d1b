-- Numbers of rates, as texts have them.
use Rattle.std.specs.Prelude.{ℕ, Bool, true, false, ◌==◌, ◌||◌, List}
use Rattle.std.specs.List.{AllByRecursion}
use Rattle.aadl_syntax.specs.Form.{Byte, Digits, Either, IsNumber, One, Perhaps, Repeated, ◌followed_by◌, is_digit}
use Rattle.galileo_reader.specs.declared.tree.NamedTree.{NamedTree}

-- decimal digits
abbrev pub IsFigures : List ℕ → Type 0
IsFigures = One is_digit followed_by Repeated (One is_digit)

-- `e` or `E`, a sign or none, and digits
abbrev pub IsPower : List ℕ → Type 0
IsPower = One (λ b. b == 101 || b == 69) followed_by Perhaps (One (λ b. b == 43 || b == 45)) followed_by IsFigures

-- a number without digits before its point
abbrev pub IsPointed : List ℕ → Type 0
IsPointed = Byte 46 followed_by IsFigures followed_by Perhaps IsPower

-- a number without digits behind its point
abbrev pub IsOpen : List ℕ → Type 0
IsOpen = Digits is_digit followed_by Byte 46 followed_by Perhaps IsPower

-- a number as other tools write it: as AADL does, or without digits before or behind its point
abbrev pub IsWideNumber : List ℕ → Type 0
IsWideNumber = Either IsNumber (Either IsPointed IsOpen)

-- a number of the first reading, or of the wide one
abbrev pub IsNumberIn : Bool → List ℕ → Type 0
IsNumberIn false = IsNumber
IsNumberIn true = IsWideNumber

-- the rate of each event of a tree has such a number
abbrev pub HasNumbers : Bool → NamedTree → Type 0
HasNumbers wide tree = AllByRecursion (λ event. IsNumberIn wide event.rate.text) tree.events
