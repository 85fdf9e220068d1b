-- The count of open brackets, as a loop over the tokens makes it.
use Rattle.std.proofs.Common.{◌≡◌, ℕ, suc, ◌+◌, ◌<◌, ◌≤◌, Bool, true, false, List, length, take, get_or, nat_lt, nat_le, refl, sym, ◌∙◌, ap, subst, arith, ltb-true, ltb-false, leb-true, leb-false, add-one}
use Rattle.std.proofs.lemmas.List.Sums.{fold_more}
use Rattle.aadl_syntax.specs.declared.token.Token.{Token}
use Rattle.aadl_parser.specs.Nesting.{after_token, open_after, nesting_limit, IsShallow, NestedAt}

-- What a loop has counted over k tokens, behind none of which too many brackets are open.
pub record Counted (tokens : List Token) (k count : ℕ) : Type 0 where
  pub within : k ≤ length tokens
  pub count_is : count ≡ open_after (take k tokens)
  pub shallow : (j : ℕ) → j ≤ k → open_after (take j tokens) ≤ nesting_limit

module _ {tokens : List Token} {k count after : ℕ} {t : Token} (p : Counted tokens k count) (lt : k < length tokens) (is : t ≡ get_or tokens k t) (e : after ≡ after_token count t) where
  pub one_more : after ≡ open_after (take (k + 1) tokens)
  one_more = e ∙ ap (λ n. after_token n t) p.count_is ∙ ap (after_token (open_after (take k tokens))) is ∙ sym (fold_more after_token 0 tokens k t lt)

  pub is_nested : nesting_limit < after → NestedAt tokens k
  is_nested over = record {
    within = lt;
    over = subst (λ n. nesting_limit < open_after (take n tokens)) (add-one k) (subst (λ n. nesting_limit < n) one_more over);
    first = p.shallow;
  }

  pub one_on : after ≤ nesting_limit → Counted tokens (k + 1) after
  one_on few = record { within = omega arith; count_is = one_more; shallow = λ j h. either j h (nat_le j k) refl } where
    either : (j : ℕ) → j ≤ k + 1 → (b : Bool) → nat_le j k ≡ b → open_after (take j tokens) ≤ nesting_limit
    either j h true l = p.shallow j (leb-true j k l)
    either j h false l =
        let g = leb-false j k l in
        let e : k + 1 ≡ j = omega arith in
        subst (λ n. open_after (take n tokens) ≤ nesting_limit) e (subst (λ n. n ≤ nesting_limit) one_more few)

pub not_nested : {tokens : List Token} {number : ℕ} → IsShallow tokens → NestedAt tokens number → ⊥
not_nested {tokens} {number} shallow n = let h = shallow (suc number) (let l = n.within in omega arith) in let o = n.over in omega arith

-- Only one bracket is the first.
pub one_nested : {tokens : List Token} {number other : ℕ} → NestedAt tokens number → NestedAt tokens other → number ≡ other
one_nested {tokens} {number} {other} n m = either (nat_lt number other) refl (nat_lt other number) refl where
  earlier : (a b : ℕ) → NestedAt tokens a → NestedAt tokens b → a < b → ⊥
  earlier a b n m l = let h = m.first (suc a) (omega arith) in let o = n.over in omega arith

  either : (b : Bool) → nat_lt number other ≡ b → (c : Bool) → nat_lt other number ≡ c → number ≡ other
  either true l c r = absurd (earlier number other n m (ltb-true number other l))
  either false l true r = absurd (earlier other number m n (ltb-true other number r))
  either false l false r = let g = ltb-false number other l in let h = ltb-false other number r in omega arith
