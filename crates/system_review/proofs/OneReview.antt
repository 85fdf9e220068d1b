-- There is one list of all numbers of which something is so, and one list of the loops of a system.
use Rattle.std.proofs.Common.{ℕ, ◌≡◌, List, [], ◌∷◌, length, map, inl, inr, ap, ◌∙◌, sym, subst, refl, arith}
use Rattle.fault_system.specs.CutSets.{IsSubset}
use Rattle.fault_system.specs.Systems.{System}
use Rattle.fault_system.proofs.Elements.{In, In-contains, contains_In, In-map, In-mapped}
use Rattle.fault_system.proofs.NumberSets.{contained-in_set, same_rising, set_of-contained}
use Rattle.system_review.specs.Listed.{AreAll}
use Rattle.system_review.specs.Loops.{AreLoops, AreMutual, IsLoop}
use Rattle.system_review.specs.declared.looping.Loop.{Loop}

-- all numbers of one list are of the other
part : (IsSo : ℕ → Type 0) (bound : ℕ) (xs ys : List ℕ) → AreAll IsSo bound xs → AreAll IsSo bound ys → IsSubset xs ys
part IsSo bound xs ys a b n h = contained-in_set ys n ((b.exact n).1 ((a.exact n).0 (set_of-contained xs n h)))

-- there is one list of all numbers of which something is so
pub one-listed : (IsSo : ℕ → Type 0) (bound : ℕ) (xs ys : List ℕ) → AreAll IsSo bound xs → AreAll IsSo bound ys → xs ≡ ys
one-listed IsSo bound xs ys a b = same_rising 0 0 bound xs ys a.rise b.rise (part IsSo bound xs ys a b) (part IsSo bound ys xs b a)

first_or : ℕ → List ℕ → ℕ
first_or n [] = n
first_or n (m ∷ ms) = m

rest_of : List ℕ → List ℕ
rest_of [] = []
rest_of (m ∷ ms) = ms

none-some : {n : ℕ} {ns : List ℕ} → [] ≡ n ∷ ns → ⊥
none-some {n} {ns} e = absurd (omega (arith, ap length e))

module _ (system : System) where
  -- the first fact of a loop says how many its facts are
  one-size : (first n m : ℕ) → IsLoop system (record { size = n; first = first }) → IsLoop system (record { size = m; first = first }) → n ≡ m
  one-size first n m a b =
      let some = a.size in
      let others = b.size in
      sym some.2 ∙ ap length (one-listed (AreMutual system first) (length system.facts) some.0 others.0 some.1 others.1) ∙ others.2

  same-loop : (a b : Loop) → IsLoop system a → IsLoop system b → a.first ≡ b.first → a ≡ b
  same-loop a b x y e =
      let moved : IsLoop system (record { size = a.size; first = b.first }) = subst (λ (first : ℕ). IsLoop system (record { size = a.size; first = first })) e x in
      let sizes : a.size ≡ b.size = one-size b.first a.size b.size moved y in
      λ i. record { size = sizes i; first = e i }

  same-loops : (xs ys : List Loop) → ((l : Loop) → In l xs → IsLoop system l) → ((l : Loop) → In l ys → IsLoop system l) → map (λ (l : Loop). l.first) xs ≡ map (λ (l : Loop). l.first) ys → xs ≡ ys
  unfolding first_or rest_of
  same-loops [] [] f g e = refl
  same-loops [] (y ∷ ys) f g e = absurd (none-some e)
  same-loops (x ∷ xs) [] f g e = absurd (none-some (sym e))
  same-loops (x ∷ xs) (y ∷ ys) f g e =
      let head : x ≡ y = same-loop x y (f x (inl refl)) (g y (inl refl)) (ap (first_or 0) e) in
      let tail : xs ≡ ys = same-loops xs ys (λ l i. f l (inr i)) (λ l i. g l (inr i)) (ap rest_of e) in
      λ i. head i ∷ tail i

  firsts-part : (xs ys : List Loop) → AreLoops system xs → AreLoops system ys → IsSubset (map (λ (l : Loop). l.first) xs) (map (λ (l : Loop). l.first) ys)
  firsts-part xs ys a b n h =
      let found = In-map (λ (l : Loop). l.first) n xs (In-contains n (map (λ (l : Loop). l.first) xs) (set_of-contained (map (λ (l : Loop). l.first) xs) n h)) in
      let there = In-contains found.0 ys ((b.exact found.0).1 ((a.exact found.0).0 (contains_In found.0 xs found.1))) in
      contained-in_set (map (λ (l : Loop). l.first) ys) n (contains_In n (map (λ (l : Loop). l.first) ys) (subst (λ (k : ℕ). In k (map (λ (l : Loop). l.first) ys)) found.2 (In-mapped (λ (l : Loop). l.first) found.0 ys there)))

  -- there is one list of the loops of a system
  pub one-loops : (xs ys : List Loop) → AreLoops system xs → AreLoops system ys → xs ≡ ys
  one-loops xs ys a b =
      same-loops xs ys
      (λ l i. (a.exact l).0 (contains_In l xs i))
      (λ l i. (b.exact l).0 (contains_In l ys i))
      (same_rising 0 0 (length system.facts) (map (λ (l : Loop). l.first) xs) (map (λ (l : Loop). l.first) ys) a.rise b.rise (firsts-part xs ys a b) (firsts-part ys xs b a))
