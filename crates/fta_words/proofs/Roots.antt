-- A text with signs between names has one reading, where no name holds the sign.
use Rattle.std.proofs.Common.{◌≡◌, ◌≤◌, ◌<◌, ℕ, Bool, true, false, not, ◌==◌, ◌&&◌, cond, List, [], ◌∷◌, ◌++◌, length, arith, refl, sym, ap, subst, ◌∙◌, inl, inr, append-nil, ◌⊎◌, Option, Some, None, IsSome, IfSome, MatchOption}
use Rattle.std.specs.List.{AllByRecursion}
use Rattle.std.specs.Cmp.{first_so, second_so}
use Rattle.std.proofs.lemmas.Bool.{false≢true, cases_lt}
use Rattle.plain_values.specs.declared.name.Root.{Root}
use Rattle.aadl_syntax.specs.Form.{IsWord, is_letter, is_letter_or_digit}
use Rattle.fta_words.specs.Words.{IsRoot, dotted, with_colons}
use Rattle.fta_words.specs.inner.Words.{AreJoined}
use Rattle.fta_words.specs.inner.Naming.{Without}
use Rattle.fta_words.specs.inner.Reading.{follows_well}
use Rattle.fta_words.proofs.Identifiers.{follows_of}

next_byte : (t u v x y : Bool) → cond t x (u && (v && y)) ≡ true → ((t ≡ true) × (x ≡ true)) ⊎ ((u ≡ true) × (y ≡ true))
next_byte true u v x y h = inl (refl, h)
next_byte false u v x y h = inr (first_so u (v && y) h, second_so v y (second_so u (v && y) h))

other_byte : (class : ℕ → Bool) (sign b : ℕ) → class sign ≡ false → class b ≡ true → b ≡ sign → ⊥
other_byte class sign b n y e = false≢true (sym n ∙ ap class (sym e) ∙ y)

without_following : (sign : ℕ) → is_letter_or_digit sign ≡ false → (sign == 95) ≡ false → (waiting : Bool) (bytes : List ℕ) → follows_well waiting bytes ≡ true → Without sign bytes
without_following sign n m waiting [] h = tt
without_following sign n m waiting (b ∷ bytes) h =
    elim (next_byte (is_letter_or_digit b) (b == 95) (not waiting) (follows_well false bytes) (follows_well true bytes) h) [
      | inl l ↦ (other_byte is_letter_or_digit sign b n l.0, without_following sign n m false bytes l.1)
      | inr r ↦ (other_byte (λ x. x == 95) sign b m r.0, without_following sign n m true bytes r.1)
    ]

-- an identifier holds no sign
without_word : (sign : ℕ) → is_letter sign ≡ false → is_letter_or_digit sign ≡ false → (sign == 95) ≡ false → (bytes : List ℕ) → IsWord bytes → Without sign bytes
without_word sign l n m [] w = tt
without_word sign l n m (b ∷ bytes) w =
    let f = follows_of b bytes w in (other_byte is_letter sign b l f.0, without_following sign n m false bytes f.1)

no_colon : (bytes : List ℕ) → IsWord bytes → Without 58 bytes
no_colon = without_word 58 refl refl refl

no_dot : (bytes : List ℕ) → IsWord bytes → Without 46 bytes
no_dot = without_word 46 refl refl refl

without_more : (sign : ℕ) (front back : List ℕ) → Without sign front → Without sign back → Without sign (front ++ back)
without_more sign [] back f b = b
without_more sign (x ∷ front) back f b = (f.0, without_more sign front back f.1 b)

-- a text without a sign does not hold it
pub none_there : (sign : ℕ) (front back : List ℕ) → Without sign (front ++ (sign ∷ back)) → ⊥
none_there sign [] back w = w.0 refl
none_there sign (x ∷ front) back w = none_there sign front back w.1

-- two cuts of a text at a sign are one, where the first front is without it and the second is no longer
pub one_cut : (sign : ℕ) (a x b y : List ℕ) → Without sign a → a ++ (sign ∷ x) ≡ b ++ (sign ∷ y) → length b ≤ length a → (a ≡ b) × (x ≡ y)
one_cut sign [] x [] y w e l = (refl, cc)
one_cut sign [] x (c ∷ b) y w e l = absurd (omega arith)
one_cut sign (c ∷ a) x [] y w e l = absurd (w.0 cc)
one_cut sign (c ∷ a) x (d ∷ b) y w e l =
    let head : c ≡ d = cc in
    let tail : a ++ (sign ∷ x) ≡ b ++ (sign ∷ y) = cc in
    let shorter : length b ≤ length a = omega arith in
    let r = one_cut sign a x b y w.1 tail shorter in
    (cc, r.1)

colon_no_dot : ◌≡◌ {A = ℕ} 58 46 → ⊥
colon_no_dot = other_byte (λ x. x == 58) 46 58 refl refl

-- names with `::` between them hold no dot
no_dot_between : (names : List (List ℕ)) → AllByRecursion IsWord names → Without 46 (with_colons names)
no_dot_between [] all = tt
no_dot_between (name ∷ []) all = no_dot name all.0
no_dot_between (name ∷ next ∷ names) all =
    without_more 46 name (58 ∷ 58 ∷ with_colons (next ∷ names)) (no_dot name all.0) (colon_no_dot, (colon_no_dot, no_dot_between (next ∷ names) all.1))

-- the part of joined names before the first `::` is the first name, and the others are joined after it
pub next_name : {R : Type 0} (now : R → List ℕ) (more : Option R) (rest name : List ℕ) (others : List (List ℕ)) → AreJoined rest others
    → MatchOption more (name ≡ rest) (λ after. rest ≡ name ++ (58 ∷ 58 ∷ now after))
    → ((front back : List ℕ) → rest ≡ front ++ (58 ∷ 58 ∷ back) → IsSome more × (length name ≤ length front))
    → IsWord name × MatchOption more (others ≡ name ∷ []) (λ after. (later : List (List ℕ)) × AreJoined (now after) later × (others ≡ name ∷ later))
next_name now more rest name [] j parts first = absurd (omega (arith, j.some_name))
next_name now None rest name (n ∷ []) j parts first =
    let same : n ≡ name = sym (parts ∙ j.text_is) in (subst IsWord same j.identifiers.0, ap (λ l. l ∷ []) same)
next_name now (Some after) rest name (n ∷ []) j parts first =
    absurd (none_there 58 name (58 ∷ now after) (subst (Without 58) (sym j.text_is ∙ parts) (no_colon n j.identifiers.0)))
next_name now None rest name (n ∷ m ∷ ms) j parts first = absurd (false≢true (first n (with_colons (m ∷ ms)) j.text_is).0)
next_name now (Some after) rest name (n ∷ m ∷ ms) j parts first =
    let cut = one_cut 58 n (58 ∷ with_colons (m ∷ ms)) name (58 ∷ now after) (no_colon n j.identifiers.0) (sym j.text_is ∙ parts) (first n (with_colons (m ∷ ms)) j.text_is).1 in
    let left : now after ≡ with_colons (m ∷ ms) = cc (cut.1) in
    let later : AreJoined (now after) (m ∷ ms) = record { text_is = left; some_name = omega arith; identifiers = j.identifiers.1 } in
    (subst IsWord cut.0 j.identifiers.0, (m ∷ ms, later, ap (λ l. l ∷ m ∷ ms) cut.0))

split_of : {R : Type 0} (now : R → List ℕ) (found : Option R) (text front : List ℕ) (names : List (List ℕ)) (item : Option (List ℕ)) → text ≡ with_colons names ++ dotted item → 2 ≤ length names → AllByRecursion IsWord names → IfSome item IsWord
    → MatchOption found (front ≡ text) (λ after. text ≡ front ++ (46 ∷ now after))
    → ((a b : List ℕ) → text ≡ a ++ (46 ∷ b) → IsSome found × (length front ≤ length a))
    → AreJoined front names × MatchOption found (item ≡ None) (λ after. IsWord (now after) × (item ≡ Some (now after)))
split_of now None text front names None whole two all word parts first =
    (record { text_is = parts ∙ whole ∙ append-nil (with_colons names); some_name = omega arith; identifiers = all }, refl)
split_of now (Some after) text front names None whole two all word parts first =
    absurd (none_there 46 front (now after) (subst (Without 46) (sym (append-nil (with_colons names)) ∙ sym whole ∙ parts) (no_dot_between names all)))
split_of now None text front names (Some item) whole two all word parts first = absurd (false≢true (first (with_colons names) item whole).0)
split_of now (Some after) text front names (Some item) whole two all word parts first =
    let cut = one_cut 46 (with_colons names) item front (now after) (no_dot_between names all) (sym whole ∙ parts) (first (with_colons names) item whole).1 in
    (record { text_is = sym cut.0; some_name = omega arith; identifiers = all }, (subst IsWord cut.1 word, ap (λ l. Some l) cut.1))

-- a root is joined names up to the first dot, and its item after it
pub root_split : {R : Type 0} (now : R → List ℕ) (item : Option R) (word text front : List ℕ) (root : Root) → IsRoot word root → word ≡ text
    → MatchOption item (front ≡ text) (λ after. text ≡ front ++ (46 ∷ now after))
    → ((a b : List ℕ) → text ≡ a ++ (46 ∷ b) → IsSome item × (length front ≤ length a))
    → AreJoined front root.names × MatchOption item (root.item ≡ None) (λ after. IsWord (now after) × (root.item ≡ Some (now after)))
root_split now item word text front root r same parts first = split_of now item text front root.names root.item (sym same ∙ r.text_is) r.at_least_two r.identifiers r.item_identifier parts first

pub same_root : (names : List (List ℕ)) (item : Option (List ℕ)) (root : Root) → names ≡ root.names → item ≡ root.item → ◌≡◌ {A = Root} (record { names = names; item = item }) root
same_root names item root n i =
    let first : ◌≡◌ {A = Root} (record { names = names; item = item }) (record { names = root.names; item = item }) = ap (λ (l : List (List ℕ)). record { names = l; item = item }) n in
    let second : ◌≡◌ {A = Root} (record { names = root.names; item = item }) root = ap (λ (o : Option (List ℕ)). record { names = root.names; item = o }) i in
    first ∙ second

-- ---- one reading

-- two cuts of a text at a sign are one, where both fronts are without it
pub same_cut : (sign : ℕ) (a x b y : List ℕ) → Without sign a → Without sign b → a ++ (sign ∷ x) ≡ b ++ (sign ∷ y) → (a ≡ b) × (x ≡ y)
same_cut sign a x b y wa wb e =
    elim (cases_lt (length a) (length b)) [
      | inl less ↦ let shorter : length a ≤ length b = omega arith in let cut = one_cut sign b y a x wb (sym e) shorter in (sym cut.0, sym cut.1)
      | inr more ↦ one_cut sign a x b y wa e more
    ]

same_names : (a b : List (List ℕ)) → 0 < length a → 0 < length b → AllByRecursion IsWord a → AllByRecursion IsWord b → with_colons a ≡ with_colons b → a ≡ b
same_names [] b some more wa wb e = absurd (omega arith)
same_names (n ∷ a) [] some more wa wb e = absurd (omega arith)
same_names (n ∷ []) (m ∷ []) some more wa wb e = ap (λ l. l ∷ []) e
same_names (n ∷ []) (m ∷ k ∷ b) some more wa wb e = absurd (none_there 58 m (58 ∷ with_colons (k ∷ b)) (subst (Without 58) e (no_colon n wa.0)))
same_names (n ∷ k ∷ a) (m ∷ []) some more wa wb e = absurd (none_there 58 n (58 ∷ with_colons (k ∷ a)) (subst (Without 58) (sym e) (no_colon m wb.0)))
same_names (n ∷ k ∷ a) (m ∷ l ∷ b) some more wa wb e =
    let cut = same_cut 58 n (58 ∷ with_colons (k ∷ a)) m (58 ∷ with_colons (l ∷ b)) (no_colon n wa.0) (no_colon m wb.0) e in
    let others : with_colons (k ∷ a) ≡ with_colons (l ∷ b) = cc (cut.1) in
    let rest : k ∷ a ≡ l ∷ b = same_names (k ∷ a) (l ∷ b) (omega arith) (omega arith) wa.1 wb.1 others in
    cc (cut.0, rest)

same_items : (a b : List (List ℕ)) (i j : Option (List ℕ)) → 2 ≤ length a → 2 ≤ length b → AllByRecursion IsWord a → AllByRecursion IsWord b → with_colons a ++ dotted i ≡ with_colons b ++ dotted j → (a ≡ b) × (i ≡ j)
same_items a b None None two more wa wb e = (same_names a b (omega arith) (omega arith) wa wb (sym (append-nil (with_colons a)) ∙ e ∙ append-nil (with_colons b)), refl)
same_items a b None (Some y) two more wa wb e = absurd (none_there 46 (with_colons b) y (subst (Without 46) (sym (append-nil (with_colons a)) ∙ e) (no_dot_between a wa)))
same_items a b (Some x) None two more wa wb e = absurd (none_there 46 (with_colons a) x (subst (Without 46) (sym (append-nil (with_colons b)) ∙ sym e) (no_dot_between b wb)))
same_items a b (Some x) (Some y) two more wa wb e =
    let cut = same_cut 46 (with_colons a) x (with_colons b) y (no_dot_between a wa) (no_dot_between b wb) e in
    (same_names a b (omega arith) (omega arith) wa wb cut.0, ap (λ l. Some l) cut.1)

-- a text is the text of one root at most
pub one_root : (text : List ℕ) (a b : Root) → IsRoot text a → IsRoot text b → a ≡ b
one_root text a b x y =
    let same = same_items a.names b.names a.item b.item x.at_least_two y.at_least_two x.identifiers y.identifiers (sym x.text_is ∙ y.text_is) in
    same_root a.names a.item b same.0 same.1
