-- Lists of marks, place by place: one below another, their counts, and the sets that they stand for.
use Rattle.std.proofs.Common.{ℕ, zero, suc, ◌+◌, ◌≡◌, ◌<◌, ◌≤◌, ◌⊎◌, Bool, true, false, cond, ◌&&◌, ◌||◌, List, [], ◌∷◌, length, nat_le, inl, inr, ⊎_elim, ap, refl, arith, le-leb, leb-true}
use Rattle.std.proofs.lemmas.Bool.{false≢true}
use Rattle.std.specs.List.{list_all, list_any}
use Rattle.fault_system.specs.Truth.{Has, member, count_true}
use Rattle.fault_system.proofs.TruthLaws.{same_answer}

-- the lists are as long, and where the one has true, so has the other
abbrev pub Below : List Bool → List Bool → Type 0
Below [] [] = Unit {0}
Below [] (c ∷ cs) = ⊥
Below (b ∷ bs) [] = ⊥
Below (b ∷ bs) (c ∷ cs) = (b ≡ true → c ≡ true) × Below bs cs

and_step : (b c u v : Bool) → (b ≡ true → c ≡ true) → (u ≡ true → v ≡ true) → b && u ≡ true → c && v ≡ true
and_step true true u v h k e = k e
and_step true false u v h k e = h refl
and_step false c u v h k e = absurd (false≢true e)

or_step : (b c u v : Bool) → (b ≡ true → c ≡ true) → (u ≡ true → v ≡ true) → b || u ≡ true → c || v ≡ true
or_step true true u v h k e = refl
or_step true false u v h k e = absurd (false≢true (h refl))
or_step false true u v h k e = refl
or_step false false u v h k e = k e

count_step : (b c : Bool) (m n : ℕ) → (b ≡ true → c ≡ true) → m ≤ n → cond b (m + 1) m ≤ cond c (n + 1) n
count_step true true m n h k = omega arith
count_step true false m n h k = absurd (false≢true (h refl))
count_step false true m n h k = omega arith
count_step false false m n h k = k

pub Below-all : (bs cs : List Bool) → Below bs cs → list_all (λ b. b) bs ≡ true → list_all (λ b. b) cs ≡ true
Below-all [] [] h e = e
Below-all [] (c ∷ cs) h e = absurd h
Below-all (b ∷ bs) [] h e = absurd h
Below-all (b ∷ bs) (c ∷ cs) h e = and_step b c _ _ h.0 (Below-all bs cs h.1) e

pub Below-any : (bs cs : List Bool) → Below bs cs → list_any (λ b. b) bs ≡ true → list_any (λ b. b) cs ≡ true
Below-any [] [] h e = e
Below-any [] (c ∷ cs) h e = absurd h
Below-any (b ∷ bs) [] h e = absurd h
Below-any (b ∷ bs) (c ∷ cs) h e = or_step b c _ _ h.0 (Below-any bs cs h.1) e

pub Below-count : (bs cs : List Bool) → Below bs cs → count_true bs ≤ count_true cs
Below-count [] [] h = omega arith
Below-count [] (c ∷ cs) h = absurd h
Below-count (b ∷ bs) [] h = absurd h
Below-count (b ∷ bs) (c ∷ cs) h = count_step b c _ _ h.0 (Below-count bs cs h.1)

pub Below-at_least : (k : ℕ) (bs cs : List Bool) → Below bs cs → nat_le k (count_true bs) ≡ true → nat_le k (count_true cs) ≡ true
Below-at_least k bs cs h e =
    let few : k ≤ count_true bs = leb-true _ _ e in le-leb _ _ (omega (arith, Below-count bs cs h))

pub Below-member : (bs cs : List Bool) → Below bs cs → (n : ℕ) → Has (member bs) n → Has (member cs) n
Below-member [] [] h n e = e
Below-member [] (c ∷ cs) h n e = absurd h
Below-member (b ∷ bs) [] h n e = absurd h
Below-member (b ∷ bs) (c ∷ cs) h zero e = h.0 e
Below-member (b ∷ bs) (c ∷ cs) h (suc n) e = Below-member bs cs h.1 n e

-- a list of marks below another is the other, or has fewer
stay_step : (b c : Bool) (bs cs : List Bool) → (b ≡ true → c ≡ true) → count_true bs ≤ count_true cs → (bs ≡ cs) ⊎ (count_true bs < count_true cs) → (b ∷ bs ≡ c ∷ cs) ⊎ (count_true (b ∷ bs) < count_true (c ∷ cs))
stay_step true true bs cs h k s = ⊎_elim (λ e. inl (ap (λ ds. true ∷ ds) e)) (λ l. inr (omega arith)) s
stay_step true false bs cs h k s = absurd (false≢true (h refl))
stay_step false true bs cs h k s = inr (omega arith)
stay_step false false bs cs h k s = ⊎_elim (λ e. inl (ap (λ ds. false ∷ ds) e)) (λ l. inr l) s

pub stay_or_grow : (bs cs : List Bool) → Below bs cs → (bs ≡ cs) ⊎ (count_true bs < count_true cs)
stay_or_grow [] [] h = inl refl
stay_or_grow [] (c ∷ cs) h = absurd h
stay_or_grow (b ∷ bs) [] h = absurd h
stay_or_grow (b ∷ bs) (c ∷ cs) h = stay_step b c bs cs h.0 (Below-count bs cs h.1) (stay_or_grow bs cs h.1)

-- lists of marks of one length with the same members are the same
pub same_marks : (bs cs : List Bool) → length bs ≡ length cs → ((n : ℕ) → Has (member bs) n → Has (member cs) n) → ((n : ℕ) → Has (member cs) n → Has (member bs) n) → bs ≡ cs
same_marks [] [] e f g = refl
same_marks [] (c ∷ cs) e f g = absurd (omega arith)
same_marks (b ∷ bs) [] e f g = absurd (omega arith)
same_marks (b ∷ bs) (c ∷ cs) e f g =
    let head : b ≡ c = same_answer b c (f zero) (g zero) in
    let tail : bs ≡ cs = same_marks bs cs (omega arith) (λ n. f (suc n)) (λ n. g (suc n)) in
    λ i. head i ∷ tail i
