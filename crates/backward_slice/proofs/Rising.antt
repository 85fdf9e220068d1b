-- Rising lists of the numbers of a set.
use Rattle.std.proofs.Common.{ℕ, ◌+◌, ◌≡◌, ◌<◌, ◌⊎◌, Bool, true, false, cond, List, [], ◌∷◌, ◌++◌, length, inl, inr, ⊎_elim, ap, ◌∙◌, sym, subst, append-nil, arith}
use Rattle.std.proofs.lemmas.Bool.{false≢true, cases_order}
use Rattle.fault_system.specs.Truth.{Has, member}
use Rattle.plain_values.specs.Rising.{RisesWithin}
use Rattle.plain_values.proofs.Rising.{rises-higher, rises-push}
use Rattle.fault_system.proofs.Elements.{In, In-contains, contains_In, In-append, In-front, In-back}
use Rattle.backward_slice.specs.inner.Marks.{IsNumbers}
use Rattle.fault_system.proofs.NumberSets.{member-in}

-- the numbers of a set below a bound
pub record NumbersBelow (set : List Bool) (bound : ℕ) (list : List ℕ) : Type 0 where
  pub in_set : (n : ℕ) → In n list → (n < bound) × Has (member set) n
  pub all : (n : ℕ) → n < bound → Has (member set) n → In n list
  pub rise : RisesWithin 0 bound list

next_or_below : (n bound : ℕ) → n < bound + 1 → (n < bound) ⊎ (bound ≡ n)
next_or_below n bound h = ⊎_elim (λ e. inr (sym e)) (λ o. ⊎_elim (λ l. inl l) (λ g. absurd (omega arith)) o) (cases_order n bound)

pub numbers-none : (set : List Bool) → NumbersBelow set 0 []
numbers-none set = record { in_set = λ n i. absurd i; all = λ n h e. absurd (omega arith); rise = tt }

pub numbers-next : (set : List Bool) (bound : ℕ) (list : List ℕ) (there : Bool) → there ≡ member set bound → NumbersBelow set bound list → NumbersBelow set (bound + 1) (list ++ cond there (bound ∷ []) [])
numbers-next set bound list true e is =
    record {
      in_set = λ n i. ⊎_elim (λ was. let b = is.in_set n was in (omega (arith, b.0), b.1)) (λ new. ⊎_elim (λ same. (omega arith, subst (Has (member set)) same (sym e))) (λ no. absurd no) new) (In-append n list (bound ∷ []) i);
      all = λ n h has. ⊎_elim (λ l. In-front n list (bound ∷ []) (is.all n l has)) (λ same. In-back n list (bound ∷ []) (inl same)) (next_or_below n bound h);
      rise = rises-push 0 bound list (omega arith) is.rise;
    }
numbers-next set bound list false e is =
    subst (NumbersBelow set (bound + 1)) (sym (append-nil list)) (record {
      in_set = λ n i. let b = is.in_set n i in (omega (arith, b.0), b.1);
      all = λ n h has. ⊎_elim (λ l. is.all n l has) (λ same. absurd (false≢true (e ∙ ap (member set) same ∙ has))) (next_or_below n bound h);
      rise = rises-higher 0 bound (bound + 1) list (omega arith) is.rise;
    })

pub numbers-end : (set : List Bool) (list : List ℕ) → NumbersBelow set (length set) list → IsNumbers set list
numbers-end set list is =
    record {
      exact = λ n. ((λ c. (is.in_set n (In-contains n list c)).1), (λ has. contains_In n list (is.all n (member-in set n has) has)));
      rise = is.rise;
    }
