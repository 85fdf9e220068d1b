-- The table of what was entered and followed to its end.
use Rattle.std.proofs.Common.{ℕ, ◌≡◌, ◌<◌, ◌+◌, Bool, true, false, ◌||◌, cond, List, [], ◌∷◌, ◌++◌, length, Option, Some, None, is_some, refl, sym, ap, ◌∙◌, arith}
use Rattle.std.specs.List.{list_any}
use Rattle.std.proofs.lemmas.List.{length-append}
use Rattle.std.proofs.lemmas.List.Folds.{list_any-append}
use Rattle.error_libraries.specs.inner.Course.{Marks, is_vain}

vain-left : (b d : Bool) (old now : Option Bool) → now ≡ cond b (Some false) old → is_vain old ≡ d → is_vain now ≡ (d || (b || false))
vain-left true true old now is had = ap is_vain is
vain-left true false old now is had = ap is_vain is
vain-left false true old now is had = ap is_vain is ∙ had
vain-left false false old now is had = ap is_vain is ∙ had

some-left : (b d u : Bool) (old now : Option Bool) → now ≡ cond b (Some false) old → is_some old ≡ (d || (b || u)) → is_some now ≡ ((d || (b || false)) || u)
some-left true true u old now is had = ap is_some is
some-left true false u old now is had = ap is_some is
some-left false true u old now is had = ap is_some is ∙ had
some-left false false u old now is had = ap is_some is ∙ had

module _ {Key Item : Type 0} (same : Item → Key → Bool) where
  is_in : List Item → Key → Bool
  is_in items key = list_any (λ item. same item key) items

  -- the last of what is under way is done
  pub marks-left : (top : Item) (done done_now way way_now : List Item) (old now : Key → Option Bool) → done_now ≡ done ++ top ∷ [] → way ≡ top ∷ way_now → ((key : Key) → now key ≡ cond (same top key) (Some false) (old key))
      → Marks (λ key. list_any (λ item. same item key) done) (λ key. list_any (λ item. same item key) way) old → Marks (λ key. list_any (λ item. same item key) done_now) (λ key. list_any (λ item. same item key) way_now) now
  marks-left top done done_now way way_now old now more less is marks = record {
    done = λ key.
        vain-left (same top key) (list_any (λ item. same item key) done) (old key) (now key) (is key) (marks.done key)
        ∙ sym (ap (list_any (λ item. same item key)) more ∙ list_any-append (λ item. same item key) done (top ∷ []));
    entered = λ key.
        some-left (same top key) (list_any (λ item. same item key) done) (list_any (λ item. same item key) way_now) (old key) (now key) (is key)
        (marks.entered key ∙ ap (λ items. list_any (λ item. same item key) done || list_any (λ item. same item key) items) less)
        ∙ ap (λ b. b || list_any (λ item. same item key) way_now) (sym (ap (list_any (λ item. same item key)) more ∙ list_any-append (λ item. same item key) done (top ∷ [])));
  }

pub fewer : {A : Type 0} (n : ℕ) (more less : List A) (last : A) → more ≡ less ++ last ∷ [] → length more < n → length less < n
fewer n more less last is few =
    let long : length more ≡ length less + 1 = ap length is ∙ length-append less (last ∷ []) in
    omega (arith, long, few)

vain-entered : (b d : Bool) (old now : Option Bool) → now ≡ cond b (Some true) old → (b ≡ true → d ≡ false) → is_vain old ≡ d → is_vain now ≡ d
vain-entered true d old now is new had = ap is_vain is ∙ sym (new refl)
vain-entered false d old now is new had = ap is_vain is ∙ had

some-entered : (b d u : Bool) (old now : Option Bool) → now ≡ cond b (Some true) old → is_some old ≡ (d || u) → is_some now ≡ (d || (b || u))
some-entered true true u old now is had = ap is_some is
some-entered true false u old now is had = ap is_some is
some-entered false d u old now is had = ap is_some is ∙ had

-- what is entered is under way
pub marks-entered : {Key Item : Type 0} (same : Item → Key → Bool) (top : Item) (done way way_now : List Item) (old now : Key → Option Bool) → way_now ≡ top ∷ way → ((key : Key) → now key ≡ cond (same top key) (Some true) (old key))
    → ((key : Key) → same top key ≡ true → list_any (λ item. same item key) done ≡ false)
    → Marks (λ key. list_any (λ item. same item key) done) (λ key. list_any (λ item. same item key) way) old → Marks (λ key. list_any (λ item. same item key) done) (λ key. list_any (λ item. same item key) way_now) now
marks-entered same top done way way_now old now more is new marks = record {
  done = λ key. vain-entered (same top key) (list_any (λ item. same item key) done) (old key) (now key) (is key) (new key) (marks.done key);
  entered = λ key.
      some-entered (same top key) (list_any (λ item. same item key) done) (list_any (λ item. same item key) way) (old key) (now key) (is key) (marks.entered key)
      ∙ ap (λ items. list_any (λ item. same item key) done || list_any (λ item. same item key) items) (sym more);
}

pub more-by-one : {A : Type 0} (n : ℕ) (less more : List A) (last : A) → more ≡ less ++ last ∷ [] → length less < n → length more < n + 1
more-by-one n less more last is few =
    let long : length more ≡ length less + 1 = ap length is ∙ length-append less (last ∷ []) in
    omega (arith, long, few)

-- the first that is entered
pub marks-first : {Key Item : Type 0} (same : Item → Key → Bool) (top : Item) (done way : List Item) (old now : Key → Option Bool) → done ≡ [] → way ≡ top ∷ [] → ((key : Key) → old key ≡ None) → ((key : Key) → now key ≡ cond (same top key) (Some true) (old key))
    → Marks (λ key. list_any (λ item. same item key) done) (λ key. list_any (λ item. same item key) way) now
marks-first same top done way old now no_done one none is =
    marks-entered same top done [] way old now one is (λ key _. ap (list_any (λ item. same item key)) no_done)
    (record { done = λ key. ap is_vain (none key) ∙ sym (ap (list_any (λ item. same item key)) no_done); entered = λ key. ap is_some (none key) ∙ sym (ap (λ items. list_any (λ item. same item key) items || false) no_done) })
