-- A page, line by line.
use Rattle.std.proofs.Common.{ne_eqb, ◌≡◌, ◌⊎◌, ℕ, zero, suc, nat_lt, take, inl, inr, codes, ◌-◌, ◌≤◌, Bool, true, false, not, List, [], ◌∷◌, ◌++◌, length, Option, Some, None, filter, subst, Result, Err, if◌then◌else◌, refl, sym, ap, ◌∙◌, append-nil, append_assoc, arith}
use Rattle.std.proofs.lemmas.Bool.{cases_lt, false≢true, le-ltb, lt-ltb}
use Rattle.std.specs.List.{flat_map}
use Rattle.fta_outside.specs.Outside.{Rose, Seen, Took, TookPrefix}
use Rattle.fta_outside.specs.inner.Outside.{Writes}
use Rattle.fta_outside.proofs.Writing.{took_both, wrote_not, wrote_then}
use Rattle.fault_system.specs.Systems.{System}
use Rattle.fault_system.proofs.Elements.{each-at, each-made, In-filter}
use Rattle.cutset_writer.specs.inner.Pages.{HasRoom, goes_on, has_room, later, next_line, next_more, one_less}
use Rattle.cutset_writer.specs.inner.Steps.{IsWritten}
use Rattle.cutset_writer.specs.Text.{last_line, last_of, marked_text, more_line, set_line}
use Rattle.cutset_writer.specs.declared.form.SetForm.{SetForm}

lt-suc : (a b : ℕ) → nat_lt (suc a) (suc b) ≡ nat_lt a b
lt-suc a b = elim (cases_lt a b) [
  | inl below ↦ lt-ltb (suc a) (suc b) (omega arith) ∙ sym (lt-ltb a b below)
  | inr above ↦ le-ltb (suc a) (suc b) (omega arith) ∙ sym (le-ltb a b above)
]

none-below : (n : ℕ) → nat_lt n 0 ≡ false
none-below n = le-ltb n 0 (omega arith)

less : (n : ℕ) → n ≡ suc n - 1
less n = omega arith

some-room : (n : ℕ) → has_room (Some (suc n)) ≡ true
some-room n = ap not (ne_eqb (suc n) 0 (λ is. absurd (omega (arith, is))))

take-nothing : (n : ℕ) → take {A = List ℕ} n [] ≡ []
take-nothing zero = refl
take-nothing (suc n) = refl

-- the set that is named next: the first of those that are left
abbrev pub place_next : Option (List ℕ) → List (List ℕ) → Option (List ℕ)
place_next last [] = last
place_next last (set ∷ sets) = Some set

-- where a page goes on it is the next line and the page of the sets behind it
pub page-on : (form : SetForm) (system : System) (key last : Option (List ℕ)) (more : List ℕ) (limit : Option ℕ) (sets : List (List ℕ)) → goes_on limit sets ≡ true
    → marked_text form system key last limit sets ≡ next_line form system more limit sets ++ marked_text form system key (place_next last sets) (one_less limit) (later sets)
page-on form system key last more limit [] on = absurd (false≢true on)
page-on form system key last more None (set ∷ sets) on = append_assoc (set_line form system set) (flat_map (set_line form system) sets) (codes "end\n")
page-on form system key last more (Some zero) (set ∷ sets) on = absurd (false≢true on)
page-on form system key last more (Some (suc n)) (set ∷ sets) on =
    let line = more_line key system (last_of (Some set) (take n sets)) in
    append_assoc (set_line form system set) (flat_map (set_line form system) (take n sets)) (last_line line (nat_lt (suc n) (suc (length sets))))
    ∙ ap (λ further. set_line form system set ++ (flat_map (set_line form system) (take n sets) ++ last_line line further)) (lt-suc n (length sets))
    ∙ ap (λ m. set_line form system set ++ marked_text form system key (Some set) (Some m) sets) (less n)
    ∙ ap (λ b. (if b then set_line form system set else more) ++ marked_text form system key (Some set) (Some (suc n - 1)) sets) (sym on)

-- where it does not, it is the next line
pub page-end : (form : SetForm) (system : System) (key last : Option (List ℕ)) (more : List ℕ) (limit : Option ℕ) (sets : List (List ℕ)) → more ≡ more_line key system last → goes_on limit sets ≡ false
    → marked_text form system key last limit sets ≡ next_line form system more limit sets ++ []
page-end form system key last more None [] is off = refl
page-end form system key last more (Some limit) [] is off =
    ap (λ l. flat_map (set_line form system) l ++ last_line (more_line key system (last_of last l)) (nat_lt limit 0)) (take-nothing limit) ∙ ap (last_line (more_line key system last)) (none-below limit)
page-end form system key last more None (set ∷ sets) is off = absurd (false≢true (sym off))
page-end form system key last more (Some zero) (set ∷ sets) is off =
    ap (last_line (more_line key system last)) (lt-ltb 0 (suc (length sets)) (omega arith)) ∙ sym is ∙ sym (append-nil more)
page-end form system key last more (Some (suc n)) (set ∷ sets) is off = absurd (false≢true (sym off ∙ some-room n))

-- each page begins with the next line
page-begins : (form : SetForm) (system : System) (key last : Option (List ℕ)) (more : List ℕ) (limit : Option ℕ) (sets : List (List ℕ)) → more ≡ more_line key system last
    → (rest : List ℕ) × (marked_text form system key last limit sets ≡ next_line form system more limit sets ++ rest)
page-begins form system key last more limit sets is = by (goes_on limit sets) refl where
  by : (on : Bool) → goes_on limit sets ≡ on → (rest : List ℕ) × (marked_text form system key last limit sets ≡ next_line form system more limit sets ++ rest)
  by true on = (marked_text form system key (place_next last sets) (one_less limit) (later sets), page-on form system key last more limit sets on)
  by false off = ([], page-end form system key last more limit sets is off)

-- a line was not written whole
pub page_stopped : {T E : Type 0} (form : SetForm) (system : System) (key last : Option (List ℕ)) (limit : Option ℕ) (sets : List (List ℕ)) (t u v : Seen) (more : List ℕ) (limit_left : Option ℕ) (left : List (List ℕ)) (r : Result T E) (e : E) → r ≡ Err e
    → IsWritten form system key last limit sets t u more limit_left left → (TookPrefix (next_line form system more limit_left left) u v × (Rose u.faults v.faults ⊎ ⊥)) × (u.faults ≤ v.faults) → Writes (marked_text form system key last limit sets) r t v
page_stopped {T} {E} form system key last limit sets t u v more limit_left left r e is w stopped =
    let begins = page-begins form system key w.place more limit_left left w.named in
    let none : E → Type 0 = λ _. ⊥ in
    wrote_then none r t u v w.front (marked_text form system key w.place limit_left left) (marked_text form system key last limit sets) w.rest w.taken w.faults
    (wrote_not none r e is u v (next_line form system more limit_left left) begins.0 (marked_text form system key w.place limit_left left) begins.1 stopped)

-- the last line was written
pub page_ended : (form : SetForm) (system : System) (key last : Option (List ℕ)) (limit : Option ℕ) (sets : List (List ℕ)) (t u v : Seen) (more : List ℕ) (limit_left : Option ℕ) (left : List (List ℕ)) (on : Bool)
    → IsWritten form system key last limit sets t u more limit_left left → on ≡ goes_on limit_left left → on ≡ false → Took (next_line form system more limit_left left) u v → u.faults ≤ v.faults → Took (marked_text form system key last limit sets) t v × (t.faults ≤ v.faults)
page_ended form system key last limit sets t u v more limit_left left on w goes off wrote grows =
    let faults = w.faults in
    let whole = w.rest ∙ ap (λ p. w.front ++ p) (page-end form system key w.place more limit_left left w.named (sym goes ∙ off) ∙ append-nil (next_line form system more limit_left left)) in
    (subst (λ (all : List ℕ). Took all t v) (sym whole) (took_both t u v w.front (next_line form system more limit_left left) w.taken wrote), omega (arith, faults, grows))

pub room_later : (system : System) (room : ℕ) (sets : List (List ℕ)) → HasRoom system room sets → HasRoom system room (later sets)
room_later system room [] has = tt
room_later system room (set ∷ sets) has = has.1

-- a line was written, and the page goes on
pub page_went_on : (form : SetForm) (system : System) (key last : Option (List ℕ)) (limit : Option ℕ) (sets : List (List ℕ)) (t u v : Seen) (more more_now : List ℕ) (limit_left now : Option ℕ) (left behind : List (List ℕ)) (on : Bool)
    → IsWritten form system key last limit sets t u more limit_left left → on ≡ goes_on limit_left left → on ≡ true → Took (next_line form system more limit_left left) u v → u.faults ≤ v.faults → behind ≡ later left → now ≡ one_less limit_left → more_now ≡ next_more key system left
    → IsWritten form system key last limit sets t v more_now now behind
page_went_on form system key last limit sets t u v more more_now limit_left now left behind on w goes is wrote grows rest fewer names =
    let faults = w.faults in
    let place = place_next w.place left in
    record {
      front = w.front ++ next_line form system more limit_left left;
      taken = took_both t u v w.front (next_line form system more limit_left left) w.taken wrote;
      place = place;
      named = names ∙ names-it left (sym goes ∙ is);
      rest = w.rest ∙ ap (λ p. w.front ++ p) (page-on form system key w.place more limit_left left (sym goes ∙ is)) ∙ sym (append_assoc w.front (next_line form system more limit_left left) (marked_text form system key place (one_less limit_left) (later left)))
          ∙ ap (λ l. (w.front ++ next_line form system more limit_left left) ++ marked_text form system key place l (later left)) (sym fewer) ∙ ap (λ s. (w.front ++ next_line form system more limit_left left) ++ marked_text form system key place now s) (sym rest);
      faults = omega (arith, faults, grows);
    }
  where
    names-it : (some : List (List ℕ)) → goes_on limit_left some ≡ true → next_more key system some ≡ more_line key system (place_next w.place some)
    names-it [] on = absurd (false≢true on)
    names-it (set ∷ others) on = refl

-- the lines of some of the sets have room
pub room-filtered : (system : System) (room : ℕ) (test : List ℕ → Bool) (sets : List (List ℕ)) → HasRoom system room sets → HasRoom system room (filter test sets)
room-filtered system room test sets has = each-made _ (filter test sets) (λ set here. each-at (λ s. (form : SetForm) → length (set_line form system s) ≤ room) set sets has (In-filter test set sets here).0)
