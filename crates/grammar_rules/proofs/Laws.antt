-- What a reading comes to is all that reads by the rule, also in tokens that agree as far as it has looked.
use Rattle.std.proofs.Common.{◌≡◌, ℕ, zero, suc, ◌+◌, ◌-◌, ◌<◌, ◌≤◌, min, Bool, true, false, MatchBool, List, [], ◌∷◌, ◌++◌, length, drop, Option, Some, None, nat_lt, refl, sym, ◌∙◌, ap, arith, subst, append_assoc, append-nil, length-drop, drop-drop, ltb-true, ltb-false}
use Rattle.std.specs.Prelude.{slice_get, if◌then◌else◌}
use Rattle.aadl_syntax.specs.declared.token.Token.{Token}
use Rattle.grammar_rules.specs.Rules.{Test, Rule, gives, gives_file, refuses, takes, sees, ends, spans, joins, chooses, repeats, gathers, begin, IsSpan, ReadsThrough, Reads}
use Rattle.grammar_rules.specs.Running.{Outcome, read, dead, seen, looked, found, followed, spanned, repeated, gathered, run}
use Rattle.grammar_rules.proofs.Looks.{SameSeen, SameSeen-le, looked_at-le, begin-same}

slice_get-drop : (n : ℕ) (tokens : List Token) (k : ℕ) → slice_get (drop n tokens) k ≡ slice_get tokens (n + k)
slice_get-drop zero tokens k = let e : k ≡ 0 + k = omega arith in ap (slice_get tokens) e
slice_get-drop (suc n) [] k = refl
slice_get-drop (suc n) (t ∷ tokens) k = let e : suc (n + k) ≡ suc n + k = omega arith in slice_get-drop n tokens k ∙ ap (slice_get (t ∷ tokens)) e

SameSeen-drop : {left : ℕ} {tokens others : List Token} (taken : ℕ) → taken ≤ length tokens → SameSeen left tokens others → SameSeen left (drop taken tokens) (drop taken others)
SameSeen-drop {left} {tokens} {others} taken w s =
    record { same = λ k h. slice_get-drop taken tokens k ∙ s.same (taken + k) (omega (arith, length-drop taken tokens)) ∙ sym (slice_get-drop taken others k) }

-- A value was read: nothing else reads in tokens that have the same where it has looked.
pub record IsRead {A : Type 0} (file : ℕ) (rule : Rule A) (tokens : List Token) (unseen : ℕ) (value : A) (rest : List Token) (left : ℕ) : Type 0 where
  pub taken : ℕ
  pub within : taken ≤ length tokens
  pub rest_is : rest ≡ drop taken tokens
  pub fewer : left ≤ unseen
  pub reads : Reads file rule tokens value rest
  pub alone : (others : List Token) → SameSeen left tokens others → (v : A) (end : List Token) → Reads file rule others v end → (v ≡ value) × (end ≡ drop taken others)

-- It was refused: nothing reads in tokens that have the same where it has looked.
pub record IsDead {A : Type 0} (file : ℕ) (rule : Rule A) (tokens : List Token) (unseen : ℕ) (left : ℕ) : Type 0 where
  pub fewer : left ≤ unseen
  pub none : (others : List Token) → SameSeen left tokens others → (v : A) (end : List Token) → Reads file rule others v end → ⊥

abbrev pub IsOutcome : {A : Type 0} → ℕ → Rule A → List Token → ℕ → Outcome A → Type 0
IsOutcome file rule tokens unseen (read value rest left) = IsRead file rule tokens unseen value rest left
IsOutcome file rule tokens unseen (dead left) = IsDead file rule tokens unseen left

-- a token that is taken or seen
front : (left : ℕ) (t : Token) (tokens others : List Token) → left ≤ suc (length tokens) → SameSeen left (t ∷ tokens) others → Some t ≡ slice_get others 0
front left t tokens others h s = s.same 0 (omega arith)

taken_one : {A : Type 0} (file : ℕ) (of : Token → Option A) (tokens : List Token) (unseen : ℕ) → IsOutcome file (takes of) tokens unseen (run file (takes of) tokens unseen)
taken_one file of [] unseen = record { fewer = omega arith; none = λ others s v end r. let e = s.same 0 (omega arith) in let f : others ≡ r.0 ∷ end = r.1 in let g : None ≡ Some r.0 = e ∙ ap (λ (ts : List Token). slice_get ts 0) f in cc }
taken_one {A} file of (t ∷ tokens) unseen = either (of t) refl where
  either : (o : Option A) → of t ≡ o → IsOutcome file (takes of) (t ∷ tokens) unseen (found o tokens (min unseen (suc (length tokens) - 0)))
  either None e = record {
    fewer = omega arith;
    none = λ others s v end r.
        let f : others ≡ r.0 ∷ end = r.1 in
        let g : Some t ≡ Some r.0 = front _ t tokens others (omega arith) s ∙ ap (λ (ts : List Token). slice_get ts 0) f in
        let h : of r.0 ≡ Some v = r.2 in cc;
  }
  either (Some x) e = record {
    taken = 1;
    within = omega arith;
    rest_is = refl;
    fewer = omega arith;
    reads = (t, refl, e);
    alone = λ others s v end r.
        let f : others ≡ r.0 ∷ end = r.1 in
        let g : Some t ≡ Some r.0 = front _ t tokens others (omega arith) s ∙ ap (λ (ts : List Token). slice_get ts 0) f in
        let h : of r.0 ≡ Some v = r.2 in (cc, sym (ap (drop 1) f));
  }

seen_one : {A : Type 0} (file : ℕ) (of : Token → Option A) (tokens : List Token) (unseen : ℕ) → IsOutcome file (sees of) tokens unseen (run file (sees of) tokens unseen)
seen_one file of [] unseen = record { fewer = omega arith; none = λ others s v end r. let e = s.same 0 (omega arith) in let g : None ≡ Some r.0 = e ∙ r.1 in cc }
seen_one {A} file of (t ∷ tokens) unseen = either (of t) refl where
  either : (o : Option A) → of t ≡ o → IsOutcome file (sees of) (t ∷ tokens) unseen (found o (t ∷ tokens) (min unseen (suc (length tokens) - 0)))
  either None e = record {
    fewer = omega arith;
    none = λ others s v end r.
        let g : Some t ≡ Some r.0 = front _ t tokens others (omega arith) s ∙ r.1 in
        let h : of r.0 ≡ Some v = r.2 in cc;
  }
  either (Some x) e = record {
    taken = 0;
    within = omega arith;
    rest_is = refl;
    fewer = omega arith;
    reads = (t, refl, e, refl);
    alone = λ others s v end r.
        let g : Some t ≡ Some r.0 = front _ t tokens others (omega arith) s ∙ r.1 in
        let h : of r.0 ≡ Some v = r.2 in (cc, r.3);
  }

ended : (file : ℕ) (tokens : List Token) (unseen : ℕ) → IsOutcome file ends tokens unseen (run file ends tokens unseen)
ended file [] unseen = record {
  taken = 0;
  within = omega arith;
  rest_is = refl;
  fewer = omega arith;
  reads = (refl, refl);
  alone = λ others s v end r. (refl, r.1 ∙ sym r.0);
}
ended file (t ∷ tokens) unseen = record {
  fewer = omega arith;
  none = λ others s v end r. let g : Some t ≡ None = front _ t tokens others (omega arith) s ∙ ap (λ (ts : List Token). slice_get ts 0) r.0 in cc;
}

-- one rule after the other
module _ {A B : Type 0} (file : ℕ) (first : Rule A) (after : A → Rule B) (tokens : List Token) (unseen : ℕ) where
  joined_read : (x : A) (middle : List Token) (left : ℕ) → IsRead file first tokens unseen x middle left → (o : Outcome B) → IsOutcome file (after x) middle left o → IsOutcome file (joins first after) tokens unseen o
  joined_read x middle left one (dead last) two = record {
    fewer = let f = one.fewer in let g = two.fewer in omega arith;
    none = λ others s v end r.
        let same = one.alone others (SameSeen-le two.fewer s) r.0 r.1 r.2 in
        let s' = SameSeen-drop one.taken one.within s in
        let s'' = subst (λ (ts : List Token). SameSeen last ts (drop one.taken others)) (sym one.rest_is) s' in
        let r' = subst (λ (a : A). Reads file (after a) r.1 v end) same.0 r.3 in
        two.none (drop one.taken others) s'' v end (subst (λ (ts : List Token). Reads file (after x) ts v end) same.1 r');
  }
  joined_read x middle left one (read y rest last) two = record {
    taken = one.taken + two.taken;
    within = let e = ap length one.rest_is in let f = two.within in let g = one.within in omega (arith, length-drop one.taken tokens);
    rest_is = two.rest_is ∙ ap (drop two.taken) one.rest_is ∙ drop-drop two.taken one.taken tokens;
    fewer = let f = one.fewer in let g = two.fewer in omega arith;
    reads = (x, middle, one.reads, two.reads);
    alone = λ others s v end r.
        let same = one.alone others (SameSeen-le two.fewer s) r.0 r.1 r.2 in
        let s' = SameSeen-drop one.taken one.within s in
        let s'' = subst (λ (ts : List Token). SameSeen last ts (drop one.taken others)) (sym one.rest_is) s' in
        let r' = subst (λ (a : A). Reads file (after a) r.1 v end) same.0 r.3 in
        let p = two.alone (drop one.taken others) s'' v end (subst (λ (ts : List Token). Reads file (after x) ts v end) same.1 r') in
        (p.0, p.1 ∙ drop-drop two.taken one.taken others);
  }

  joined : ((x : A) (middle : List Token) (left : ℕ) → IsOutcome file (after x) middle left (run file (after x) middle left)) → (o : Outcome A) → IsOutcome file first tokens unseen o
      → IsOutcome file (joins first after) tokens unseen (followed o (λ x middle left. run file (after x) middle left))
  joined two (dead left) one = record { fewer = one.fewer; none = λ others s v end r. one.none others s r.0 r.1 r.2 }
  joined two (read x middle left) one = joined_read x middle left one (run file (after x) middle left) (two x middle left)

-- a choice by the next tokens
module _ {A : Type 0} (file : ℕ) (tests : List Test) (one other : Rule A) (tokens : List Token) (unseen : ℕ) where
  is_chosen : (b : Bool) (rule : Rule A)
      → ((ts : List Token) (v : A) (end : List Token) → begin tests ts ≡ b → Reads file (chooses tests one other) ts v end → Reads file rule ts v end)
      → ((ts : List Token) (v : A) (end : List Token) → begin tests ts ≡ b → Reads file rule ts v end → Reads file (chooses tests one other) ts v end)
      → begin tests tokens ≡ b → (o : Outcome A) → IsOutcome file rule tokens (looked tests tokens unseen) o → IsOutcome file (chooses tests one other) tokens unseen o
  is_chosen b rule down up e (dead left) h = record {
    fewer = let f = h.fewer in let g = looked_at-le 0 tests tokens unseen in omega arith;
    none = λ others s v end r. h.none others s v end (down others v end (begin-same 0 tests tokens others unseen left (omega arith) h.fewer s ∙ e) r);
  }
  is_chosen b rule down up e (read x rest left) h = record {
    taken = h.taken;
    within = h.within;
    rest_is = h.rest_is;
    fewer = let f = h.fewer in let g = looked_at-le 0 tests tokens unseen in omega arith;
    reads = up tokens x rest e h.reads;
    alone = λ others s v end r. h.alone others s v end (down others v end (begin-same 0 tests tokens others unseen left (omega arith) h.fewer s ∙ e) r);
  }

  chosen : IsOutcome file one tokens (looked tests tokens unseen) (run file one tokens (looked tests tokens unseen)) → IsOutcome file other tokens (looked tests tokens unseen) (run file other tokens (looked tests tokens unseen))
      → (b : Bool) → begin tests tokens ≡ b → IsOutcome file (chooses tests one other) tokens unseen (if b then run file one tokens (looked tests tokens unseen) else run file other tokens (looked tests tokens unseen))
  chosen h k true e =
      is_chosen true one (λ ts v end q r. subst (λ (b : Bool). MatchBool b (Reads file one ts v end) (Reads file other ts v end)) q r)
      (λ ts v end q r. subst (λ (b : Bool). MatchBool b (Reads file one ts v end) (Reads file other ts v end)) (sym q) r) e _ h
  chosen h k false e =
      is_chosen false other (λ ts v end q r. subst (λ (b : Bool). MatchBool b (Reads file one ts v end) (Reads file other ts v end)) q r)
      (λ ts v end q r. subst (λ (b : Bool). MatchBool b (Reads file one ts v end) (Reads file other ts v end)) (sym q) r) e _ k

-- parts, one after the other
module _ {A : Type 0} (file : ℕ) (tests : List Test) (part : Rule A) where
  -- the first of some parts, and the others
  record First (others : List Token) (values : List A) (end : List Token) : Type 0 where
    value : A
    more : List A
    middle : List Token
    is : values ≡ value ∷ more
    shorter : length middle < length others
    first : Reads file part others value middle
    reads : Reads file (repeats tests part) middle more end

  has_first : (others : List Token) (values : List A) (end : List Token) → begin tests others ≡ true → Reads file (repeats tests part) others values end → First others values end
  has_first others [] end e r = let f : begin tests others ≡ false = r.0 in cc
  has_first others (v ∷ vs) end e r = record { value = v; more = vs; middle = r.1; is = refl; shorter = r.2; first = r.3; reads = r.4 }

  has_none : (others : List Token) (values : List A) (end : List Token) → begin tests others ≡ false → Reads file (repeats tests part) others values end → (values ≡ []) × (end ≡ others)
  has_none others [] end e r = (refl, r.1)
  has_none others (v ∷ vs) end e r = let f : begin tests others ≡ true = r.0 in cc

  module _ (tokens : List Token) (unseen : ℕ) where
    no_part : begin tests tokens ≡ false → IsOutcome file (repeats tests part) tokens unseen (read [] tokens (looked tests tokens unseen))
    no_part e = record {
      taken = 0;
      within = omega arith;
      rest_is = refl;
      fewer = looked_at-le 0 tests tokens unseen;
      reads = (e, refl);
      alone = λ others s v end r. has_none others v end (begin-same 0 tests tokens others unseen _ (omega arith) (omega arith) s ∙ e) r;
    }

    module _ (e : begin tests tokens ≡ true) where
      dead_part : (left : ℕ) → IsDead file part tokens (looked tests tokens unseen) left → IsDead file (repeats tests part) tokens unseen left
      dead_part left h = record {
        fewer = let f = h.fewer in let g = looked_at-le 0 tests tokens unseen in omega arith;
        none = λ others s v end r.
            let p = has_first others v end (begin-same 0 tests tokens others unseen left (omega arith) h.fewer s ∙ e) r in
            h.none others s p.value p.middle p.first;
      }

      module _ (x : A) (middle : List Token) (left : ℕ) (h : IsRead file part tokens (looked tests tokens unseen) x middle left) where
        -- a part that takes nothing
        empty_part : length tokens ≤ length middle → IsDead file (repeats tests part) tokens unseen left
        empty_part le = record {
          fewer = let f = h.fewer in let g = looked_at-le 0 tests tokens unseen in omega arith;
          none = λ others s v end r.
              let p = has_first others v end (begin-same 0 tests tokens others unseen left (omega arith) h.fewer s ∙ e) r in
              let same = h.alone others s p.value p.middle p.first in
              let n = ap length h.rest_is in
              let w = h.within in
              let z : h.taken ≡ 0 = omega (arith, length-drop h.taken tokens) in
              let m : p.middle ≡ others = same.1 ∙ ap (λ n. drop n others) z in
              let k = p.shorter in
              absurd (omega (arith, ap length m));
        }

        more_parts : length middle < length tokens → (o : Outcome (List A)) → IsOutcome file (repeats tests part) middle left o
            → IsOutcome file (repeats tests part) tokens unseen (followed o (λ values end last. read (x ∷ values) end last))
        more_parts lt (dead last) k = record {
          fewer = let f = h.fewer in let g = k.fewer in let i = looked_at-le 0 tests tokens unseen in omega arith;
          none = λ others s v end r.
              let s1 = SameSeen-le k.fewer s in
              let p = has_first others v end (begin-same 0 tests tokens others unseen left (omega arith) h.fewer s1 ∙ e) r in
              let same = h.alone others s1 p.value p.middle p.first in
              let s2 = subst (λ (ts : List Token). SameSeen last ts (drop h.taken others)) (sym h.rest_is) (SameSeen-drop h.taken h.within s) in
              k.none (drop h.taken others) s2 p.more end (subst (λ (ts : List Token). Reads file (repeats tests part) ts p.more end) same.1 p.reads);
        }
        more_parts lt (read values rest last) k = record {
          taken = h.taken + k.taken;
          within = let n = ap length h.rest_is in let f = k.within in let g = h.within in omega (arith, length-drop h.taken tokens);
          rest_is = k.rest_is ∙ ap (drop k.taken) h.rest_is ∙ drop-drop k.taken h.taken tokens;
          fewer = let f = h.fewer in let g = k.fewer in let i = looked_at-le 0 tests tokens unseen in omega arith;
          reads = (e, middle, lt, h.reads, k.reads);
          alone = λ others s v end r.
              let s1 = SameSeen-le k.fewer s in
              let p = has_first others v end (begin-same 0 tests tokens others unseen left (omega arith) h.fewer s1 ∙ e) r in
              let same = h.alone others s1 p.value p.middle p.first in
              let s2 = subst (λ (ts : List Token). SameSeen last ts (drop h.taken others)) (sym h.rest_is) (SameSeen-drop h.taken h.within s) in
              let q = k.alone (drop h.taken others) s2 p.more end (subst (λ (ts : List Token). Reads file (repeats tests part) ts p.more end) same.1 p.reads) in
              let a = same.0 in
              let b = q.0 in
              let c = p.is in
              (cc, q.1 ∙ drop-drop k.taken h.taken others);
        }

  -- what a part comes to, and the parts after it
  turned : (tokens : List Token) (unseen turns : ℕ) → begin tests tokens ≡ true
      → ((middle : List Token) (left : ℕ) → length middle < length tokens → IsOutcome file (repeats tests part) middle left (repeated tests (run file part) turns middle left))
      → (o : Outcome A) → IsOutcome file part tokens (looked tests tokens unseen) o
      → IsOutcome file (repeats tests part) tokens unseen (followed o (λ value rest left.
      if nat_lt (length rest) (length tokens) then followed (repeated tests (run file part) turns rest left) (λ values end last. read (value ∷ values) end last) else dead left))
  turned tokens unseen turns e again (dead left) h = dead_part tokens unseen e left h
  turned tokens unseen turns e again (read x middle left) h = either (nat_lt (length middle) (length tokens)) refl where
    either : (b : Bool) → nat_lt (length middle) (length tokens) ≡ b → IsOutcome file (repeats tests part) tokens unseen (if b then followed (repeated tests (run file part) turns middle left) (λ values end last. read (x ∷ values) end last) else dead left)
    either true lt = let l = ltb-true (length middle) (length tokens) lt in more_parts tokens unseen e x middle left h l (repeated tests (run file part) turns middle left) (again middle left l)
    either false lt = empty_part tokens unseen e x middle left h (ltb-false (length middle) (length tokens) lt)

  module _ (one : (tokens : List Token) (unseen : ℕ) → IsOutcome file part tokens unseen (run file part tokens unseen)) where
    each_part : (turns : ℕ) (tokens : List Token) (unseen : ℕ) → length tokens < turns → IsOutcome file (repeats tests part) tokens unseen (repeated tests (run file part) turns tokens unseen)
    each_part zero tokens unseen h = absurd (omega arith)
    each_part (suc turns) tokens unseen h = either (λ middle left l. each_part turns middle left (omega arith)) (begin tests tokens) refl where
      either : ((middle : List Token) (left : ℕ) → length middle < length tokens → IsOutcome file (repeats tests part) middle left (repeated tests (run file part) turns middle left))
          → (b : Bool) → begin tests tokens ≡ b → IsOutcome file (repeats tests part) tokens unseen (if b
          then followed (run file part tokens (looked tests tokens unseen)) (λ value rest left.
          if nat_lt (length rest) (length tokens) then followed (repeated tests (run file part) turns rest left) (λ values end last. read (value ∷ values) end last) else dead left)
          else read [] tokens (looked tests tokens unseen))
      either again true e = turned tokens unseen turns e again _ (one tokens (looked tests tokens unseen))
      either again false e = no_part tokens unseen e

-- parts, one after the other, each of which goes on from the value of those before it
module _ {A : Type 0} (file : ℕ) (tests : List Test) (part : A → Rule A) where
  -- the first of some parts, and the others
  record Next (others : List Token) (before value : A) (end : List Token) : Type 0 where
    after : A
    middle : List Token
    shorter : length middle < length others
    first : Reads file (part before) others after middle
    reads : Reads file (gathers tests part after) middle value end

  has_next : (others : List Token) (before value : A) (end : List Token) → begin tests others ≡ true → Reads file (gathers tests part before) others value end → Next others before value end
  has_next others before value end e r = split r.0 r.1 where
    split : (values : List A) → ReadsThrough tests (λ x. Reads file (part x)) others before values value end → Next others before value end
    split [] q = let f : begin tests others ≡ false = q.0 in cc
    split (x ∷ xs) q = record { after = x; middle = q.1; shorter = q.2; first = q.3; reads = (xs, q.4) }

  ends_there : (others : List Token) (before value : A) (end : List Token) → begin tests others ≡ false → Reads file (gathers tests part before) others value end → (value ≡ before) × (end ≡ others)
  ends_there others before value end e r = split r.0 r.1 where
    split : (values : List A) → ReadsThrough tests (λ x. Reads file (part x)) others before values value end → (value ≡ before) × (end ≡ others)
    split [] q = (q.1, q.2)
    split (x ∷ xs) q = let f : begin tests others ≡ true = q.0 in cc

  module _ (start : A) (tokens : List Token) (unseen : ℕ) where
    none_next : begin tests tokens ≡ false → IsOutcome file (gathers tests part start) tokens unseen (read start tokens (looked tests tokens unseen))
    none_next e = record {
      taken = 0;
      within = omega arith;
      rest_is = refl;
      fewer = looked_at-le 0 tests tokens unseen;
      reads = ([], (e, refl, refl));
      alone = λ others s v end r. ends_there others start v end (begin-same 0 tests tokens others unseen _ (omega arith) (omega arith) s ∙ e) r;
    }

    module _ (e : begin tests tokens ≡ true) where
      dead_next : (left : ℕ) → IsDead file (part start) tokens (looked tests tokens unseen) left → IsDead file (gathers tests part start) tokens unseen left
      dead_next left h = record {
        fewer = let f = h.fewer in let g = looked_at-le 0 tests tokens unseen in omega arith;
        none = λ others s v end r.
            let p = has_next others start v end (begin-same 0 tests tokens others unseen left (omega arith) h.fewer s ∙ e) r in
            h.none others s p.after p.middle p.first;
      }

      module _ (x : A) (middle : List Token) (left : ℕ) (h : IsRead file (part start) tokens (looked tests tokens unseen) x middle left) where
        -- a part that takes nothing
        empty_next : length tokens ≤ length middle → IsDead file (gathers tests part start) tokens unseen left
        empty_next le = record {
          fewer = let f = h.fewer in let g = looked_at-le 0 tests tokens unseen in omega arith;
          none = λ others s v end r.
              let p = has_next others start v end (begin-same 0 tests tokens others unseen left (omega arith) h.fewer s ∙ e) r in
              let same = h.alone others s p.after p.middle p.first in
              let n = ap length h.rest_is in
              let w = h.within in
              let z : h.taken ≡ 0 = omega (arith, length-drop h.taken tokens) in
              let m : p.middle ≡ others = same.1 ∙ ap (λ n. drop n others) z in
              let k = p.shorter in
              absurd (omega (arith, ap length m));
        }

        more_next : length middle < length tokens → (o : Outcome A) → IsOutcome file (gathers tests part x) middle left o → IsOutcome file (gathers tests part start) tokens unseen o
        more_next lt (dead last) k = record {
          fewer = let f = h.fewer in let g = k.fewer in let i = looked_at-le 0 tests tokens unseen in omega arith;
          none = λ others s v end r.
              let s1 = SameSeen-le k.fewer s in
              let p = has_next others start v end (begin-same 0 tests tokens others unseen left (omega arith) h.fewer s1 ∙ e) r in
              let same = h.alone others s1 p.after p.middle p.first in
              let s2 = subst (λ (ts : List Token). SameSeen last ts (drop h.taken others)) (sym h.rest_is) (SameSeen-drop h.taken h.within s) in
              let q = subst (λ (a : A). Reads file (gathers tests part a) p.middle v end) same.0 p.reads in
              k.none (drop h.taken others) s2 v end (subst (λ (ts : List Token). Reads file (gathers tests part x) ts v end) same.1 q);
        }
        more_next lt (read y rest last) k = record {
          taken = h.taken + k.taken;
          within = let n = ap length h.rest_is in let f = k.within in let g = h.within in omega (arith, length-drop h.taken tokens);
          rest_is = k.rest_is ∙ ap (drop k.taken) h.rest_is ∙ drop-drop k.taken h.taken tokens;
          fewer = let f = h.fewer in let g = k.fewer in let i = looked_at-le 0 tests tokens unseen in omega arith;
          reads = (x ∷ k.reads.0, (e, middle, lt, h.reads, k.reads.1));
          alone = λ others s v end r.
              let s1 = SameSeen-le k.fewer s in
              let p = has_next others start v end (begin-same 0 tests tokens others unseen left (omega arith) h.fewer s1 ∙ e) r in
              let same = h.alone others s1 p.after p.middle p.first in
              let s2 = subst (λ (ts : List Token). SameSeen last ts (drop h.taken others)) (sym h.rest_is) (SameSeen-drop h.taken h.within s) in
              let t = subst (λ (a : A). Reads file (gathers tests part a) p.middle v end) same.0 p.reads in
              let q = k.alone (drop h.taken others) s2 v end (subst (λ (ts : List Token). Reads file (gathers tests part x) ts v end) same.1 t) in
              (q.0, q.1 ∙ drop-drop k.taken h.taken others);
        }

  -- what a part comes to, and the parts after it
  next_turn : (start : A) (tokens : List Token) (unseen turns : ℕ) → begin tests tokens ≡ true
      → ((x : A) (middle : List Token) (left : ℕ) → length middle < length tokens → IsOutcome file (gathers tests part x) middle left (gathered tests (λ x. run file (part x)) turns x middle left))
      → (o : Outcome A) → IsOutcome file (part start) tokens (looked tests tokens unseen) o
      → IsOutcome file (gathers tests part start) tokens unseen (followed o (λ next rest left. if nat_lt (length rest) (length tokens) then gathered tests (λ x. run file (part x)) turns next rest left else dead left))
  next_turn start tokens unseen turns e again (dead left) h = dead_next start tokens unseen e left h
  next_turn start tokens unseen turns e again (read x middle left) h = either (nat_lt (length middle) (length tokens)) refl where
    either : (b : Bool) → nat_lt (length middle) (length tokens) ≡ b → IsOutcome file (gathers tests part start) tokens unseen (if b then gathered tests (λ x. run file (part x)) turns x middle left else dead left)
    either true lt = let l = ltb-true (length middle) (length tokens) lt in more_next start tokens unseen e x middle left h l (gathered tests (λ x. run file (part x)) turns x middle left) (again x middle left l)
    either false lt = empty_next start tokens unseen e x middle left h (ltb-false (length middle) (length tokens) lt)

  module _ (one : (x : A) (tokens : List Token) (unseen : ℕ) → IsOutcome file (part x) tokens unseen (run file (part x) tokens unseen)) where
    each_next : (turns : ℕ) (start : A) (tokens : List Token) (unseen : ℕ) → length tokens < turns → IsOutcome file (gathers tests part start) tokens unseen (gathered tests (λ x. run file (part x)) turns start tokens unseen)
    each_next zero start tokens unseen h = absurd (omega arith)
    each_next (suc turns) start tokens unseen h = either (λ x middle left l. each_next turns x middle left (omega arith)) (begin tests tokens) refl where
      either : ((x : A) (middle : List Token) (left : ℕ) → length middle < length tokens → IsOutcome file (gathers tests part x) middle left (gathered tests (λ x. run file (part x)) turns x middle left))
          → (b : Bool) → begin tests tokens ≡ b → IsOutcome file (gathers tests part start) tokens unseen (if b
          then followed (run file (part start) tokens (looked tests tokens unseen)) (λ next rest left. if nat_lt (length rest) (length tokens) then gathered tests (λ x. run file (part x)) turns next rest left else dead left)
          else read start tokens (looked tests tokens unseen))
      either again true e = next_turn start tokens unseen turns e again _ (one start tokens (looked tests tokens unseen))
      either again false e = none_next start tokens unseen e

-- tokens up to the first that stops
module _ (file : ℕ) (stops : List Token → Token → Bool) where
  -- the same for the tokens after those that were passed before
  record IsSpanned (before tokens : List Token) (unseen : ℕ) (value rest : List Token) (left : ℕ) : Type 0 where
    passed : List Token
    value_is : value ≡ before ++ passed
    tokens_are : tokens ≡ passed ++ rest
    taken : ℕ
    within : taken ≤ length tokens
    rest_is : rest ≡ drop taken tokens
    fewer : left ≤ unseen
    behind : left ≤ length tokens
    spans_so : IsSpan stops before passed rest
    alone : (others : List Token) → SameSeen left tokens others → (v end : List Token) → others ≡ v ++ end → IsSpan stops before v end → (v ≡ passed) × (end ≡ drop taken others)

  abbrev Spanned : List Token → List Token → ℕ → Outcome (List Token) → Type 0
  Spanned before tokens unseen (read value rest left) = IsSpanned before tokens unseen value rest left
  Spanned before tokens unseen (dead left) = (left ≤ unseen) × (left ≤ length tokens) × ((others : List Token) → SameSeen left tokens others → (v end : List Token) → others ≡ v ++ end → IsSpan stops before v end → ⊥)

  no_end : (before v end : List Token) → None ≡ slice_get (v ++ end) 0 → IsSpan stops before v end → ⊥
  no_end before [] [] e h = h
  no_end before [] (t ∷ ts) e h = cc
  no_end before (t ∷ v) end e h = cc

  stop_here : (before : List Token) (t : Token) (v end : List Token) → stops before t ≡ true → Some t ≡ slice_get (v ++ end) 0 → IsSpan stops before v end → v ≡ []
  stop_here before t [] end h e r = refl
  stop_here before t (u ∷ v) end h e r =
      let f : stops before u ≡ false = r.0 in
      let g : t ≡ u = cc in
      let i : stops before t ≡ false = ap (stops before) g ∙ f in cc

  record Passes (before : List Token) (t : Token) (v end : List Token) : Type 0 where
    more : List Token
    is : v ≡ t ∷ more
    span : IsSpan stops (before ++ t ∷ []) more end

  pass_here : (before : List Token) (t : Token) (v end : List Token) → stops before t ≡ false → Some t ≡ slice_get (v ++ end) 0 → IsSpan stops before v end → Passes before t v end
  pass_here before t [] [] h e r = absurd r
  pass_here before t [] (u ∷ end) h e r =
      let f : stops before u ≡ true = r in
      let g : t ≡ u = cc in
      let i : stops before t ≡ true = ap (stops before) g ∙ f in cc
  pass_here before t (u ∷ v) end h e r =
      let g : t ≡ u = cc in
      record { more = v; is = ap (λ (w : Token). w ∷ v) (sym g); span = subst (λ (w : Token). IsSpan stops (before ++ w ∷ []) v end) (sym g) r.1 }

  spanned_so : (before tokens : List Token) (unseen : ℕ) → Spanned before tokens unseen (spanned stops before tokens unseen)
  spanned_so before [] unseen = (omega arith, omega arith, λ others s v end e r. no_end before v end (s.same 0 (omega arith) ∙ ap (λ (ts : List Token). slice_get ts 0) e) r)
  spanned_so before (t ∷ tokens) unseen = either (spanned_so (before ++ t ∷ []) tokens unseen) (stops before t) refl where
    begins : (left : ℕ) (others v end : List Token) → left ≤ suc (length tokens) → SameSeen left (t ∷ tokens) others → others ≡ v ++ end → Some t ≡ slice_get (v ++ end) 0
    begins left others v end l s e = front left t tokens others l s ∙ ap (λ (ts : List Token). slice_get ts 0) e

    others_are : (others v end more : List Token) → others ≡ v ++ end → v ≡ t ∷ more → drop 1 others ≡ more ++ end
    others_are others v end more e i = ap (drop 1) (e ∙ ap (λ (w : List Token). w ++ end) i)

    later : (o : Outcome (List Token)) → stops before t ≡ false → Spanned (before ++ t ∷ []) tokens unseen o → Spanned before (t ∷ tokens) unseen o
    later (dead left) h k = (
      k.0,
      omega (arith, k.1),
      λ others s v end e r.
          let p = pass_here before t v end h (begins left others v end (omega (arith, k.1)) s e) r in
          k.2 (drop 1 others) (SameSeen-drop 1 (omega arith) s) p.more end (others_are others v end p.more e p.is) p.span,
    )
    later (read value rest left) h k = record {
      passed = t ∷ k.passed;
      value_is = k.value_is ∙ append_assoc before (t ∷ []) k.passed;
      tokens_are = ap (λ (ts : List Token). t ∷ ts) k.tokens_are;
      taken = suc k.taken;
      within = let w = k.within in omega arith;
      rest_is = k.rest_is;
      fewer = k.fewer;
      behind = let b = k.behind in omega arith;
      spans_so = (h, k.spans_so);
      alone = λ others s v end e r.
          let b = k.behind in
          let p = pass_here before t v end h (begins left others v end (omega arith) s e) r in
          let q = k.alone (drop 1 others) (SameSeen-drop 1 (omega arith) s) p.more end (others_are others v end p.more e p.is) p.span in
          let n : 1 + k.taken ≡ suc k.taken = omega arith in
          (p.is ∙ ap (λ (ts : List Token). t ∷ ts) q.0, q.1 ∙ drop-drop k.taken 1 others ∙ ap (λ n. drop n others) n);
    }

    either : Spanned (before ++ t ∷ []) tokens unseen (spanned stops (before ++ t ∷ []) tokens unseen) → (b : Bool) → stops before t ≡ b
        → Spanned before (t ∷ tokens) unseen (if b then read before (t ∷ tokens) (seen 0 (t ∷ tokens) unseen) else spanned stops (before ++ t ∷ []) tokens unseen)
    either again true h = record {
      passed = [];
      value_is = sym (append-nil before);
      tokens_are = refl;
      taken = 0;
      within = omega arith;
      rest_is = refl;
      fewer = omega arith;
      behind = omega arith;
      spans_so = h;
      alone = λ others s v end e r.
          let n = stop_here before t v end h (begins _ others v end (omega arith) s e) r in
          (n, sym (e ∙ ap (λ (w : List Token). w ++ end) n));
    }
    either again false h = later _ h again

  is_spanned : (tokens : List Token) (unseen : ℕ) (o : Outcome (List Token)) → Spanned [] tokens unseen o → IsOutcome file (spans stops) tokens unseen o
  is_spanned tokens unseen (dead left) h = record { fewer = h.0; none = λ others s v end r. h.2 others s v end r.0 r.1 }
  is_spanned tokens unseen (read value rest left) h = record {
    taken = h.taken;
    within = h.within;
    rest_is = h.rest_is;
    fewer = h.fewer;
    reads = (h.tokens_are ∙ ap (λ (v : List Token). v ++ rest) (sym h.value_is), subst (λ (v : List Token). IsSpan stops [] v rest) (sym h.value_is) h.spans_so);
    alone = λ others s v end r. let p = h.alone others s v end r.0 r.1 in (p.0 ∙ sym h.value_is, p.1);
  }

-- Each reading comes to what it says.
pub is_outcome : {A : Type 0} (file : ℕ) (rule : Rule A) (tokens : List Token) (unseen : ℕ) → IsOutcome file rule tokens unseen (run file rule tokens unseen)
is_outcome file (gives x) tokens unseen = record { taken = 0; within = omega arith; rest_is = refl; fewer = omega arith; reads = (refl, refl); alone = λ others s v end r. r }
is_outcome file gives_file tokens unseen = record { taken = 0; within = omega arith; rest_is = refl; fewer = omega arith; reads = (refl, refl); alone = λ others s v end r. r }
is_outcome file refuses tokens unseen = record { fewer = omega arith; none = λ others s v end r. r }
is_outcome file (takes of) tokens unseen = taken_one file of tokens unseen
is_outcome file (sees of) tokens unseen = seen_one file of tokens unseen
is_outcome file ends tokens unseen = ended file tokens unseen
is_outcome file (spans stops) tokens unseen = is_spanned file stops tokens unseen _ (spanned_so file stops [] tokens unseen)
is_outcome file (joins first after) tokens unseen = joined file first after tokens unseen (λ x middle left. is_outcome file (after x) middle left) _ (is_outcome file first tokens unseen)
is_outcome file (chooses tests one other) tokens unseen = chosen file tests one other tokens unseen (is_outcome file one tokens (looked tests tokens unseen)) (is_outcome file other tokens (looked tests tokens unseen)) (begin tests tokens) refl
is_outcome file (repeats tests part) tokens unseen = each_part file tests part (λ ts n. is_outcome file part ts n) (suc (length tokens)) tokens unseen (omega arith)
is_outcome file (gathers tests part start) tokens unseen = each_next file tests part (λ x ts n. is_outcome file (part x) ts n) (suc (length tokens)) start tokens unseen (omega arith)
