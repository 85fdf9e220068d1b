-- The digits of a number, read back.
use Rattle.std.proofs.Common.{ℕ, zero, suc, ◌+◌, ◌-◌, ◌≡◌, ◌<◌, ◌≤◌, ◌^◌, ◌⊎◌, Bool, true, false, cond, List, decimal, Option, Some, None, Result, Ok, Err, ap, ◌∙◌, sym, refl, subst, arith, inl, inr, ⊎_elim}
use Rattle.std.proofs.lemmas.Bool.{false≢true}
use Rattle.std.proofs.lemmas.Fmt.{IsAscii-decimal, decimal_injective, parse-decimal}
use Rattle.std.proofs.lemmas.Str.{IsUtf8-from_ascii}
use Rattle.std.proofs.lemmas.Slice.Eq.{bytes_eq-Decides}
use Rattle.std.specs.Str.{IsUtf8}
use Rattle.std.specs.Str.Parse.{ParsesUnsigned}
use Rattle.plain_values.specs.Name.{is_same_text}
use Rattle.derivations.specs.inner.Reading.{use_of}

abbrev pub IsNone32 : List ℕ → Type 0
IsNone32 digits = (n : ℕ) → n < 2 ^ 32 → digits ≡ decimal n → ⊥

pub no_text : (digits : List ℕ) → (IsUtf8 digits → ⊥) → IsNone32 digits
no_text digits bad n small is = bad (subst IsUtf8 (sym is) (IsUtf8-from_ascii (decimal n) (IsAscii-decimal n (omega arith))))

pub not_parsed : {E : Type 0} (digits text : List ℕ) (r : Result ℕ E) (error : E) → text ≡ digits → ParsesUnsigned 32 10 text r → r ≡ Err error → IsNone32 digits
not_parsed digits text r error same parses is n small are =
    let read = parse-decimal 32 n text r (omega arith) (omega arith) (same ∙ are) parses in
    let e = sym is ∙ read in
    cc

-- what is parsed to a number whose digits these are not are the digits of none
pub other_digits : {E : Type 0} (digits text : List ℕ) (m : ℕ) (r : Result ℕ E) → text ≡ digits → ParsesUnsigned 32 10 text r → r ≡ Ok m → (digits ≡ decimal m → ⊥) → IsNone32 digits
other_digits digits text m r same parses is other n small are =
    let read = parse-decimal 32 n text r (omega arith) (omega arith) (same ∙ are) parses in
    let e = sym is ∙ read in
    let one : m ≡ n = cc in
    other (are ∙ ap decimal (sym one))

pub none-some : {A : Type 0} (x : A) → None ≡ Some x → ⊥
none-some x h = cc

pub some-same : {A : Type 0} (x y : A) → Some x ≡ Some y → x ≡ y
some-same x y h = cc

pub same-of : (a b : List ℕ) → is_same_text a b ≡ true → a ≡ b
same-of a b e = (bytes_eq-Decides a b).0 e

pub of-same : (a b : List ℕ) → a ≡ b → is_same_text a b ≡ true
of-same a b e = (bytes_eq-Decides a b).1 e

at-test : (b : Bool) (limit : ℕ) (rest : Option ℕ) → b ≡ true → cond b (Some limit) rest ≡ Some limit
at-test true limit rest e = refl
at-test false limit rest e = absurd (false≢true e)

past-test : (b : Bool) (limit : ℕ) (rest : Option ℕ) → (b ≡ true → ⊥) → cond b (Some limit) rest ≡ rest
past-test true limit rest off = absurd (off refl)
past-test false limit rest off = refl

pub use_of-none : (limit : ℕ) (digits : List ℕ) → ((u : ℕ) → u < limit → digits ≡ decimal (u + 1) → ⊥) → use_of limit digits ≡ None
use_of-none zero digits none = refl
use_of-none (suc limit) digits none =
    past-test _ limit _ (λ same. none limit (omega arith) (same-of _ _ same)) ∙ use_of-none limit digits (λ u l. none u (omega arith))

pub use_of-some : (limit u : ℕ) (digits : List ℕ) → limit ≤ 2 ^ 32 → u < limit → digits ≡ decimal (u + 1) → use_of limit digits ≡ Some u
use_of-some zero u digits few l is = absurd (omega arith)
use_of-some (suc limit) u digits few l is = ⊎_elim
    (λ below. past-test _ limit _ (λ same. apart (same-of _ _ same) below) ∙ use_of-some limit u digits (omega arith) below is)
    (λ here. at-test _ limit _ (of-same _ _ (is ∙ ap (λ n. decimal (n + 1)) here)) ∙ ap Some (sym here))
    (cases u limit (omega arith))
  where
    apart : digits ≡ decimal (limit + 1) → u < limit → ⊥
    apart same below = let e : u + 1 ≡ limit + 1 = decimal_injective (u + 1) (limit + 1) (omega arith) (omega arith) (sym is ∙ same) in omega arith

    cases : (a b : ℕ) → a < b + 1 → (a < b) ⊎ (a ≡ b)
    cases zero zero h = inr refl
    cases zero (suc b) h = inl (omega arith)
    cases (suc a) zero h = absurd (omega arith)
    cases (suc a) (suc b) h = ⊎_elim (λ x. inl (omega arith)) (λ y. inr (ap suc y)) (cases a b (omega arith))

at-sound : (b : Bool) (limit u : ℕ) (rest : Option ℕ) (P : ℕ → Type 0) → (b ≡ true → P limit) → (rest ≡ Some u → P u) → cond b (Some limit) rest ≡ Some u → P u
at-sound true limit u rest P here later e = let s : limit ≡ u = cc in subst P s (here refl)
at-sound false limit u rest P here later e = later e

pub use_of-sound : (limit u : ℕ) (digits : List ℕ) → use_of limit digits ≡ Some u → (u < limit) × (digits ≡ decimal (u + 1))
use_of-sound zero u digits e = absurd (none-some u e)
use_of-sound (suc limit) u digits e = at-sound _ limit u _ (λ n. (n < suc limit) × (digits ≡ decimal (n + 1)))
    (λ same. (omega arith, same-of _ _ same)) (λ later. let r = use_of-sound limit u digits later in (omega (arith, r.0), r.1)) e

-- what the code answers
pub no_use : (limit : ℕ) (digits : List ℕ) → limit < 2 ^ 32 → IsNone32 digits → None ≡ use_of limit digits
no_use limit digits few none = sym (use_of-none limit digits (λ u l is. none (u + 1) (omega arith) is))

pub use_outside : (limit n : ℕ) (digits : List ℕ) → limit < 2 ^ 32 → n < 2 ^ 32 → digits ≡ decimal n → (n ≡ 0) ⊎ (limit < n) → None ≡ use_of limit digits
use_outside limit n digits few small is out =
    sym (use_of-none limit digits (λ u l same. let e : n ≡ u + 1 = decimal_injective n (u + 1) (omega arith) (omega arith) (sym is ∙ same) in ⊎_elim (λ z. let f : 0 ≡ u + 1 = sym z ∙ e in omega arith) (λ h. omega arith) out))

pub use_inside : (limit n : ℕ) (digits : List ℕ) → limit < 2 ^ 32 → digits ≡ decimal n → 0 < n → n ≤ limit → Some (n - 1) ≡ use_of limit digits
use_inside limit n digits few is some within =
    let e : n ≡ (n - 1) + 1 = omega arith in
    sym (use_of-some limit (n - 1) digits (omega arith) (omega arith) (is ∙ ap decimal e))
