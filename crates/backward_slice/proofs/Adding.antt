-- Steps of the marking, one after another.
use Rattle.std.proofs.Common.{ℕ, ◌≡◌, ◌<◌, Bool, true, false, ◌&&◌, ◌||◌, not, List, [], ◌∷◌, ◌++◌, length, set, ap, ◌∙◌, sym, subst, refl, arith, length-set, length-append, ◌==◌}
use Rattle.std.proofs.lemmas.Bool.{false≢true, eqb-true}
use Rattle.std.proofs.lemmas.List.Folds.{list_any-append}
use Rattle.fault_system.specs.Truth.{NumberSet, member, set_of, count_true}
use Rattle.fault_system.proofs.NumberSets.{count-put, member-set}
use Rattle.backward_slice.specs.inner.Marks.{Adds}
use Rattle.backward_slice.specs.declared.marking.Marking.{Marking}

or_none : (a : Bool) → a ≡ a || false
or_none true = refl
or_none false = refl

or_assoc : (a b c : Bool) → (a || b) || c ≡ a || (b || c)
or_assoc true b c = refl
or_assoc false b c = refl

fresh : (a e w : Bool) → (e ≡ true → a ≡ false) → (a || e) && not (w || (e || false)) ≡ a && not w
fresh true true w h = absurd (false≢true (sym (h refl)))
fresh false true true h = refl
fresh false true false h = refl
fresh true false true h = refl
fresh true false false h = refl
fresh false false w h = refl

pub added_fact : (marking : Marking) (number : ℕ) (facts : List Bool) (waiting : List ℕ) → number < length marking.facts → member marking.facts number ≡ false → facts ≡ set marking.facts number true → waiting ≡ marking.waiting.items ++ number ∷ []
    → (n : ℕ) → member facts n && not (set_of waiting n) ≡ member marking.facts n && not (set_of marking.waiting.items n)
added_fact marking number facts waiting h absent is pushed n =
    let marks : member facts n ≡ member marking.facts n || (number == n) = ap (λ bs. member bs n) is ∙ member-set marking.facts number n h in
    let waits : set_of waiting n ≡ set_of marking.waiting.items n || ((number == n) || false) = ap (λ ns. set_of ns n) pushed ∙ list_any-append (λ m. m == n) marking.waiting.items (number ∷ []) in
    rw (marks, waits) (fresh (member marking.facts n) (number == n) (set_of marking.waiting.items n) (λ e. subst (λ m. member marking.facts m ≡ false) (eqb-true number n e) absent))

and_led : (a led : Bool) → led ≡ true → a ≡ a && led
and_led true led e = sym e
and_led false led e = refl

pub marked-fact : (old new : Marking) (number : ℕ) (led : Bool) → led ≡ true → number < length old.facts → member old.facts number ≡ false → new.facts ≡ set old.facts number true → new.events ≡ old.events → new.waiting.items ≡ old.waiting.items ++ number ∷ [] → Adds (λ n. (number == n) && led) (λ n. false) old new
marked-fact old new number led led_is h absent is same pushed =
    record {
      facts_size = ap length is ∙ length-set old.facts number true;
      events_size = ap length same;
      facts_are = λ n _. ap (λ bs. member bs n) is ∙ member-set old.facts number n h ∙ ap (λ b. member old.facts n || b) (and_led (number == n) led led_is);
      events_are = λ n _. ap (λ bs. member bs n) same ∙ or_none (member old.events n);
      done = added_fact old number new.facts new.waiting.items h absent is pushed;
      work = let counted = ap count_true is ∙ count-put old.facts number h absent in let long = ap length pushed ∙ length-append old.waiting.items (number ∷ []) in omega (arith, counted, long);
    }

-- one step after another
pub adds-then : (f e f' e' f'' e'' : NumberSet) (a b c : Marking) → Adds f e a b → Adds f' e' b c → ((n : ℕ) → f'' n ≡ f n || f' n) → ((n : ℕ) → e'' n ≡ e n || e' n) → Adds f'' e'' a c
adds-then f e f' e' f'' e'' a b c one two facts events =
    record {
      facts_size = two.facts_size ∙ one.facts_size;
      events_size = two.events_size ∙ one.events_size;
      facts_are = λ n h. two.facts_are n (omega (arith, one.facts_size)) ∙ ap (λ x. x || f' n) (one.facts_are n h) ∙ or_assoc (member a.facts n) (f n) (f' n) ∙ ap (λ x. member a.facts n || x) (sym (facts n));
      events_are = λ n h. two.events_are n (omega (arith, one.events_size)) ∙ ap (λ x. x || e' n) (one.events_are n h) ∙ or_assoc (member a.events n) (e n) (e' n) ∙ ap (λ x. member a.events n || x) (sym (events n));
      done = λ n. two.done n ∙ one.done n;
      work = omega (arith, one.work, two.work);
    }

-- a step that adds nothing
pub adds-none : (a : Marking) (f e : NumberSet) → ((n : ℕ) → f n ≡ false) → ((n : ℕ) → e n ≡ false) → Adds f e a a
adds-none a f e facts events =
    record {
      facts_size = refl;
      events_size = refl;
      facts_are = λ n h. or_none (member a.facts n) ∙ ap (λ x. member a.facts n || x) (sym (facts n));
      events_are = λ n h. or_none (member a.events n) ∙ ap (λ x. member a.events n || x) (sym (events n));
      done = λ n. refl;
      work = refl;
    }

-- a step that adds the same
pub adds-same : (f e f' e' : NumberSet) (a b : Marking) → Adds f e a b → ((n : ℕ) → f' n ≡ f n) → ((n : ℕ) → e' n ≡ e n) → Adds f' e' a b
adds-same f e f' e' a b one facts events =
    record {
      facts_size = one.facts_size;
      events_size = one.events_size;
      facts_are = λ n h. one.facts_are n h ∙ ap (λ x. member a.facts n || x) (sym (facts n));
      events_are = λ n h. one.events_are n h ∙ ap (λ x. member a.events n || x) (sym (events n));
      done = one.done;
      work = one.work;
    }
