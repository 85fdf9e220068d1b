-- A number to a base is worth in the text what it is worth in AADL.
use Rattle.std.proofs.Common.{ℕ, ◌+◌, ◌-◌, ◌*◌, ◌≡◌, ◌<◌, ◌≤◌, ◌^◌, ◌&&◌, ◌||◌, nat_le, Bool, true, false, cond, if◌then◌else◌, List, [], ◌∷◌, filter, decimal, ap, ◌∙◌, refl, arith}
use Rattle.std.specs.List.{AllByRecursion}
use Rattle.std.specs.Str.Parse.{digits_value}
use Rattle.std.proofs.lemmas.Bool.{false≢true, leb-true}
use Rattle.std.proofs.lemmas.Fmt.{decimal_is_IsNumeral}
use Rattle.aadl_syntax.specs.Form.{is_digit, is_hexadecimal}
use Rattle.open_psa_writer.specs.Mef.{Number, Digit}
use Rattle.open_psa_writer.specs.Numbers.{digit_of, digits_behind}
use Rattle.open_psa_writer.specs.inner.Worth.{number_worth, worth_behind}

within : (a b : Bool) (n most : ℕ) → (b ≡ true → n ≤ most) → a && b ≡ true → n ≤ most
within true b n most f e = f e
within false b n most f e = absurd (false≢true e)

either : (a b : Bool) (n most : ℕ) → (a ≡ true → n ≤ most) → (b ≡ true → n ≤ most) → a || b ≡ true → n ≤ most
either true b n most f g e = f refl
either false b n most f g e = g e

hexadecimal-most : (b : ℕ) → is_hexadecimal b ≡ true → b ≤ 102
hexadecimal-most b =
    either (is_digit b || (nat_le 65 b && nat_le b 70)) (nat_le 97 b && nat_le b 102) b 102
    (either (is_digit b) (nat_le 65 b && nat_le b 70) b 102
    (within (nat_le 48 b) (nat_le b 57) b 102 (λ e. let few : b ≤ 57 = leb-true b 57 e in omega (arith, few)))
    (within (nat_le 65 b) (nat_le b 70) b 102 (λ e. let few : b ≤ 70 = leb-true b 70 e in omega (arith, few))))
    (within (nat_le 97 b) (nat_le b 102) b 102 (λ e. leb-true b 102 e))

digit-most : (b : ℕ) → b ≤ 102 → digit_of b < 2 ^ 64
digit-most b few = by (nat_le b 57) (nat_le b 70)
  where
    by : (c d : Bool) → (if c then b - 48 else if d then b - 55 else b - 87) < 2 ^ 64
    by true d = omega (arith, few)
    by false true = omega (arith, few)
    by false false = omega (arith, few)

pub filter-all : {X : Type 0} (p : X → Bool) (xs : List X) → AllByRecursion (λ x. p x ≡ true) (filter p xs)
filter-all p [] = tt
filter-all p (x ∷ xs) = by (p x) refl (filter-all p xs)
  where
    by : (b : Bool) → p x ≡ b → AllByRecursion (λ y. p y ≡ true) (filter p xs) → AllByRecursion (λ y. p y ≡ true) (cond b (x ∷ filter p xs) (filter p xs))
    by true e rest = (e, rest)
    by false e rest = rest

-- digits behind a number are worth the same in the text and in AADL
pub worth-is : (base : List ℕ) (before : Number) (digits : List ℕ) → AllByRecursion (λ b. is_hexadecimal b ≡ true) digits
    → number_worth (digits_behind base before digits) ≡ worth_behind (digits_value 10 base) (number_worth before) digits
worth-is base before [] all = refl
worth-is base before (b ∷ digits) all =
    let digit = (decimal_is_IsNumeral (digit_of b) (digit-most b (hexadecimal-most b all.0))).1 in
    worth-is base (Digit before base (decimal (digit_of b))) digits all.1
    ∙ ap (λ (d : ℕ). worth_behind (digits_value 10 base) (number_worth before * digits_value 10 base + d) digits) digit
