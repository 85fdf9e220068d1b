-- How a walk over the events reads a text.
use Rattle.std.proofs.Common.{◌≡◌, ℕ, zero, suc, ◌+◌, ◌<◌, ◌≤◌, Bool, true, false, List, [], ◌∷◌, ◌++◌, length, map, take, drop, slice_index_or, Contains, Some, slice_get, ⊎_elim, refl, sym, ap, ◌∙◌, subst, arith, append_assoc, append-nil, add-one}
use Rattle.std.specs.Prelude.{MatchBool, unwrap_or, codes}
use Rattle.std.specs.Option.{option_map}
use Rattle.std.specs.List.{AllByRecursion}
use Rattle.std.proofs.Math.Seq.{drop-cons, drop-append_seam}
use Rattle.std.proofs.Math.ListN.{drop_of_length-le}
use Rattle.std.proofs.lemmas.Bool.{cases_lt, false≢true}
use Rattle.std.proofs.lemmas.List.{take-append-drop, drop-drop, length-map}
use Rattle.std.proofs.lemmas.List.Concat.{flat_map-append}
use Rattle.std.proofs.lemmas.Option.{get_or_from_slice_get, slice_get-map, unwrap_or-slice_get}
use Rattle.fault_system.specs.Systems.{System, IsSystem, NamesDiffer, event_name}
use Rattle.fault_system.specs.CutSets.{IsEventSet}
use Rattle.plain_values.specs.Rising.{RisesWithin}
use Rattle.plain_values.proofs.Rising.{rises-higher, rises-push}
use Rattle.fault_system.specs.declared.formula.EventInfo.{EventInfo}
use Rattle.fault_system.proofs.Elements.{contains_In, each-made}
use Rattle.cutset_lister.specs.SetText.{IsSetOfText, set_text}
use Rattle.cutset_lister.specs.inner.SetText.{HasTokenNames, IsTokenName}
use Rattle.cutset_lister.specs.inner.Scanning.{Ends, GoesOn, IsNext, Scanned, names_text}

-- whether a text begins with a name
pub is_next-at : (text name : List ℕ) → length name ≤ length text → (length text ≡ length name → ⊥) → take (length name) text ≡ name → (same : Bool) → (slice_index_or text (length name) 0 ≡ 43 → same ≡ true) → (same ≡ true → slice_index_or text (length name) 0 ≡ 43)
    → MatchBool same (IsNext text name) (IsNext text name → ⊥)
is_next-at text name fits longer front same made told = by same told made
  where
    rest : drop (length name) text ≡ slice_index_or text (length name) 0 ∷ drop (suc (length name)) text
    rest = drop-cons text (length name) 0 (omega arith)

    whole : text ≡ name ++ (slice_index_or text (length name) 0 ∷ drop (suc (length name)) text)
    whole = sym (take-append-drop (length name) text) ∙ ap (λ f. f ++ drop (length name) text) front ∙ ap (λ r. name ++ r) rest

    behind : (tail : List ℕ) → text ≡ name ++ tail → Ends tail → slice_index_or text (length name) 0 ≡ 43
    behind [] is ends = absurd (longer (ap length (is ∙ append-nil name)))
    behind (b ∷ bs) is ends =
        let equal : slice_index_or text (length name) 0 ∷ drop (suc (length name)) text ≡ b ∷ bs = sym rest ∙ ap (drop (length name)) is ∙ drop-append_seam name (b ∷ bs) in
        let first : slice_index_or text (length name) 0 ≡ b = cc in first ∙ ends

    by : (b : Bool) → (b ≡ true → slice_index_or text (length name) 0 ≡ 43) → (slice_index_or text (length name) 0 ≡ 43 → b ≡ true) → MatchBool b (IsNext text name) (IsNext text name → ⊥)
    by true told made = record { tail = slice_index_or text (length name) 0 ∷ drop (suc (length name)) text; whole = whole; ends = told refl }
    by false told made = λ next. false≢true (made (behind next.tail next.whole next.ends))

-- the event of a number
named : (events : List EventInfo) (number : ℕ) → number < length events → (event : EventInfo) × (slice_get events number ≡ Some event)
named [] number h = absurd (omega arith)
named (e ∷ es) zero h = (e, refl)
named (e ∷ es) (suc k) h = named es k (omega arith)

name-good : (system : System) (number : ℕ) → HasTokenNames system → number < length system.events → IsTokenName (event_name system number)
name-good system number names h =
    let event = named system.events number h in
    let good : IsTokenName (slice_index_or system.events number event.0).name = names number event.0 h in
    let is : slice_index_or system.events number event.0 ≡ event.0 = get_or_from_slice_get system.events number event.0 event.0 event.1 in
    subst IsTokenName (ap (λ e. e.name) is ∙ sym (ap (λ o. unwrap_or (option_map (λ (e : EventInfo). e.name) o) []) event.1)) good

name-place : (system : System) (number : ℕ) → event_name system number ≡ slice_index_or (map (λ (e : EventInfo). e.name) system.events) number []
name-place system number = ap (λ o. unwrap_or o []) (sym (slice_get-map (λ (e : EventInfo). e.name) system.events number)) ∙ unwrap_or-slice_get (map (λ (e : EventInfo). e.name) system.events) number []

names-apart : (system : System) (a b : ℕ) → NamesDiffer (map (λ (e : EventInfo). e.name) system.events) → a < b → b < length system.events → event_name system a ≡ event_name system b → ⊥
names-apart system a b differ h k same =
    differ a b [] h (let size : length (map (λ (e : EventInfo). e.name) system.events) ≡ length system.events = length-map system.events (λ (e : EventInfo). e.name) in omega arith) (sym (name-place system a) ∙ same ∙ name-place system b)

-- events of one name are one
same_event : (system : System) (a b : ℕ) → IsSystem system → a < length system.events → b < length system.events → event_name system a ≡ event_name system b → a ≡ b
same_event system a b sound h k same =
    ⊎_elim (λ less. absurd (names-apart system a b sound.events_named less k same))
    (λ more. ⊎_elim (λ less. absurd (names-apart system b a sound.events_named less h (sym same))) (λ there. omega arith) (cases_lt b a))
    (cases_lt a b)

-- a name without a plus
abbrev pub HasNoPlus : List ℕ → Type 0
HasNoPlus name = AllByRecursion (λ byte. byte ≡ 43 → ⊥) name

no_plus : (name : List ℕ) → (Contains name 43 → ⊥) → HasNoPlus name
no_plus name none = each-made (λ byte. byte ≡ 43 → ⊥) name (λ byte here is. none (subst (Contains name) is (contains_In byte name here)))

-- a text begins with one name only
one_name : (a b s t : List ℕ) → HasNoPlus a → HasNoPlus b → a ++ s ≡ b ++ t → Ends s → Ends t → (a ≡ b) × (s ≡ t)
one_name [] [] s t na nb e es et = (refl, e)
one_name [] (y ∷ ys) s t na nb e es et = absurd (nb.0 (subst Ends e es))
one_name (x ∷ xs) [] s t na nb e es et = absurd (na.0 (subst Ends (sym e) et))
one_name (x ∷ xs) (y ∷ ys) s t na nb e es et =
    let first : x ≡ y = cc in
    let later : xs ++ s ≡ ys ++ t = cc in
    let rest = one_name xs ys s t na.1 nb.1 later es et in
    ((λ i. first i ∷ rest.0 i), rest.1)

ends-names : (system : System) (set : List ℕ) → Ends (names_text system set)
ends-names system [] = tt
ends-names system (n ∷ ns) = refl

-- a rising list that does not begin with its bound begins behind it
rises_past : (low high : ℕ) (ns : List ℕ) → RisesWithin low high ns → ((rest : List ℕ) → ns ≡ low ∷ rest → ⊥) → RisesWithin (low + 1) high ns
rises_past low high [] h other = tt
rises_past low high (n ∷ ns) h other = ⊎_elim (λ less. absurd (other ns (ap (λ m. m ∷ ns) (let at_least = h.0 in omega arith)))) (λ more. (more, h.1, h.2)) (cases_lt n (low + 1))

-- at the beginning of the text no event is found
pub scan-begin : (system : System) (text found : List ℕ) → found ≡ [] → Scanned system text 0 0 found
scan-begin system text found is = subst (Scanned system text 0 0) (sym is) (record {
  rise = tt;
  front = refl;
  plus = λ h. refl;
  all = λ set rise same. record { more = set; whole = refl; rise = rise; rest = sym same };
})

-- an event that the text does not name next
scan_other : (system : System) (text found : List ℕ) (number place : ℕ) → Scanned system text number place found
    → ((rest : List ℕ) → drop place (43 ∷ text) ≡ names_text system (number ∷ rest) → ⊥) → Scanned system text (number + 1) place found
scan_other system text found number place s other = record {
  rise = rises-higher 0 number (number + 1) found (omega arith) s.rise;
  front = s.front;
  plus = s.plus;
  all = λ set rise same.
      let on = s.all set rise same in
      record {
        more = on.more;
        whole = on.whole;
        rise = rises_past number (length system.events) on.more on.rise (λ rest is. other rest (on.rest ∙ ap (names_text system) is));
        rest = on.rest;
      };
}

pub scan-past : (system : System) (text found : List ℕ) (number place : ℕ) → Scanned system text number place found → length text < place → Scanned system text (number + 1) place found
scan-past system text found number place s past =
    scan_other system text found number place s (λ rest is.
    let none : drop place (43 ∷ text) ≡ [] = drop_of_length-le (43 ∷ text) (omega arith) in
    let never : [] ≡ 43 ∷ (event_name system number ++ names_text system rest) = sym none ∙ is in cc)

pub scan-not : (system : System) (text found : List ℕ) (number place : ℕ) (rest : List ℕ) → Scanned system text number place found → place ≤ length text → rest ≡ drop place text
    → (IsNext rest (event_name system number) → ⊥) → Scanned system text (number + 1) place found
scan-not system text found number place rest s fits rest_is not =
    scan_other system text found number place s (λ later is.
    let whole : 43 ∷ drop place text ≡ 43 ∷ (event_name system number ++ names_text system later) = sym (s.plus fits) ∙ is in
    let same : drop place text ≡ event_name system number ++ names_text system later = cc in
    not (record { tail = names_text system later; whole = rest_is ∙ same; ends = ends-names system later }))

-- an event that the text names next
module _ (system : System) (text found new : List ℕ) (number place : ℕ) (rest name : List ℕ) (sound : IsSystem system) (names : HasTokenNames system) (s : Scanned system text number place found) (inside : number < length system.events)
    (fits : place ≤ length text) (rest_is : rest ≡ drop place text) (name_is : name ≡ event_name system number) (next : IsNext rest name) (new_is : new ≡ found ++ number ∷ []) where
  whole : drop place text ≡ event_name system number ++ next.tail
  whole = sym rest_is ∙ next.whole ∙ ap (λ n. n ++ next.tail) name_is

  behind : drop (place + length name + 1) (43 ∷ text) ≡ next.tail
  behind =
      ap (λ n. drop n (43 ∷ text)) (add-one (place + length name)) ∙ sym (drop-drop (length name) place text) ∙ ap (drop (length name)) (sym rest_is ∙ next.whole) ∙ drop-append_seam name next.tail

  plus_behind : place + length name + 1 ≤ length text → drop (place + length name + 1) (43 ∷ text) ≡ 43 ∷ drop (place + length name + 1) text
  plus_behind h =
      let cut : drop (place + length name) text ≡ slice_index_or text (place + length name) 0 ∷ drop (suc (place + length name)) text = drop-cons text (place + length name) 0 (omega arith) in
      let tail : next.tail ≡ slice_index_or text (place + length name) 0 ∷ drop (suc (place + length name)) text = sym behind ∙ ap (λ n. drop n (43 ∷ text)) (add-one (place + length name)) ∙ cut in
      let first : slice_index_or text (place + length name) 0 ≡ 43 = subst Ends tail next.ends in
      ap (λ n. drop n (43 ∷ text)) (add-one (place + length name)) ∙ cut ∙ (λ i. first i ∷ drop (sym (add-one (place + length name)) i) text)

  goes_on : (set : List ℕ) → GoesOn system text number place found set → GoesOn system text (number + 1) (place + length name + 1) new set
  goes_on set on = by on.more on.whole on.rise on.rest
    where
      by : (more : List ℕ) → set ≡ found ++ more → RisesWithin number (length system.events) more → drop place (43 ∷ text) ≡ names_text system more → GoesOn system text (number + 1) (place + length name + 1) new set
      by [] is rise more_is = let never : 43 ∷ drop place text ≡ [] = sym (s.plus fits) ∙ more_is in absurd cc
      by (m ∷ ms) is rise more_is =
          let both : 43 ∷ drop place text ≡ 43 ∷ (event_name system m ++ names_text system ms) = sym (s.plus fits) ∙ more_is in
          let same : drop place text ≡ event_name system m ++ names_text system ms = cc in
          let one = one_name (event_name system number) (event_name system m) next.tail (names_text system ms) (no_plus (event_name system number) (name-good system number names inside).1) (no_plus (event_name system m) (name-good system m names rise.1).1)
          (sym whole ∙ same) next.ends (ends-names system ms)
          in
          let at : number ≡ m = same_event system number m sound inside rise.1 one.0 in
          record {
            more = ms;
            whole = is ∙ ap (λ k. found ++ k ∷ ms) (sym at) ∙ sym (append_assoc found (number ∷ []) ms) ∙ ap (λ f. f ++ ms) (sym new_is);
            rise = subst (λ k. RisesWithin (k + 1) (length system.events) ms) (sym at) rise.2;
            rest = behind ∙ one.1;
          }

  pub scan-takes : Scanned system text (number + 1) (place + length name + 1) new
  scan-takes = record {
    rise = subst (RisesWithin 0 (number + 1)) (sym new_is) (rises-push 0 number found (omega arith) s.rise);
    front =
        s.front ∙ ap (λ r. names_text system found ++ r) (s.plus fits ∙ ap (λ r. 43 ∷ r) whole) ∙ split ∙ ap (λ r. names_text system new ++ r) (sym behind);
    plus = plus_behind;
    all = λ set rise same. goes_on set (s.all set rise same);
  }
    where
      split : names_text system found ++ (43 ∷ (event_name system number ++ next.tail)) ≡ names_text system new ++ next.tail
      split =
          ap (λ r. names_text system found ++ (r ++ next.tail)) (sym (append-nil (43 ∷ event_name system number)))
          ∙ sym (append_assoc (names_text system found) (names_text system (number ∷ [])) next.tail)
          ∙ ap (λ r. r ++ next.tail) (sym (flat_map-append (λ event. 43 ∷ event_name system event) found (number ∷ [])) ∙ ap (names_text system) (sym new_is))

-- the text of a set with an event is that of its names, without the first plus
names_whole : (system : System) (first : ℕ) (others : List ℕ) → 43 ∷ set_text system (first ∷ others) ≡ names_text system (first ∷ others)
names_whole system first [] = ap (λ r. 43 ∷ r) (sym (append-nil (event_name system first)))
names_whole system first (n ∷ ns) = ap (λ r. 43 ∷ (event_name system first ++ r)) (names_whole system n ns)

-- all events are gone over: the set that is found is the one that has the text
module _ (system : System) (text found : List ℕ) (place : ℕ) (s : Scanned system text (length system.events) place found) (other : text ≡ codes "none" → ⊥) where
  at_end : (set : List ℕ) → IsSetOfText system text set → (set ≡ found) × (drop place (43 ∷ text) ≡ [])
  at_end set has = by set has.0 has.1
    where
      by : (set : List ℕ) → IsEventSet system set → set_text system set ≡ text → (set ≡ found) × (drop place (43 ∷ text) ≡ [])
      by [] rise is = absurd (other (sym is))
      by (n ∷ ns) rise is = ended (n ∷ ns) (s.all (n ∷ ns) rise (sym (names_whole system n ns) ∙ ap (λ r. 43 ∷ r) is))
        where
          ended : (set : List ℕ) → GoesOn system text (length system.events) place found set → (set ≡ found) × (drop place (43 ∷ text) ≡ [])
          ended set on = by_more on.more on.whole on.rise on.rest
            where
              by_more : (more : List ℕ) → set ≡ found ++ more → RisesWithin (length system.events) (length system.events) more → drop place (43 ∷ text) ≡ names_text system more → (set ≡ found) × (drop place (43 ∷ text) ≡ [])
              by_more [] is rise rest = (is ∙ append-nil found, rest)
              by_more (m ∷ ms) is rise rest = let low = rise.0 in let high = rise.1 in absurd (omega arith)

  pub scan-found : length text < place → IsSetOfText system text found
  scan-found past = (s.rise, by found s.front)
    where
      none : drop place (43 ∷ text) ≡ []
      none = drop_of_length-le (43 ∷ text) (omega arith)

      by : (set : List ℕ) → 43 ∷ text ≡ names_text system set ++ drop place (43 ∷ text) → set_text system set ≡ text
      by [] is = let never : 43 ∷ text ≡ [] = is ∙ none in absurd cc
      by (n ∷ ns) is = let same : 43 ∷ set_text system (n ∷ ns) ≡ 43 ∷ text = names_whole system n ns ∙ sym (is ∙ ap (λ r. names_text system (n ∷ ns) ++ r) none ∙ append-nil (names_text system (n ∷ ns))) in cc

  pub scan-one : (set : List ℕ) → IsSetOfText system text set → found ≡ set
  scan-one set has = sym (at_end set has).0

  pub scan-none : place ≤ length text → (set : List ℕ) → IsSetOfText system text set → ⊥
  scan-none fits set has =
      let none : drop place (43 ∷ text) ≡ [] = (at_end set has).1 in
      let never : 43 ∷ drop place text ≡ [] = sym (s.plus fits) ∙ none in cc

-- a text without a plus has none behind a name
no_plus_behind : (name : List ℕ) (byte : ℕ) (bytes : List ℕ) → HasNoPlus (name ++ byte ∷ bytes) → byte ≡ 43 → ⊥
no_plus_behind [] byte bytes plain is = plain.0 is
no_plus_behind (n ∷ ns) byte bytes plain is = no_plus_behind ns byte bytes plain.1 is

none_plain : HasNoPlus (codes "none")
none_plain = ((λ e. omega arith), ((λ e. omega arith), ((λ e. omega arith), ((λ e. omega arith), tt))))

no_plus_none : (name tail : List ℕ) → codes "none" ≡ name ++ tail → Ends tail → tail ≡ []
no_plus_none name [] is ends = refl
no_plus_none name (b ∷ bs) is ends = absurd (no_plus_behind name b bs (subst HasNoPlus is none_plain) ends)

-- the text of a set whose first event is known
pub set_text-first : (system : System) (set : List ℕ) (first : ℕ) (others : List ℕ) → set ≡ first ∷ others → set_text system set ≡ event_name system first ++ names_text system others
set_text-first system set first others is =
    let same : 43 ∷ set_text system (first ∷ others) ≡ 43 ∷ (event_name system first ++ names_text system others) = names_whole system first others in
    let rest : set_text system (first ∷ others) ≡ event_name system first ++ names_text system others = cc in ap (set_text system) is ∙ rest

-- `none` is the text of the empty set alone
pub none-one : (system : System) (text set : List ℕ) → HasTokenNames system → text ≡ codes "none" → IsSetOfText system text set → [] ≡ set
none-one system text [] names is has = refl
none-one system text (n ∷ ns) names is has = absurd ((name-good system n names has.0.1).0 named_none)
  where
    whole : codes "none" ≡ event_name system n ++ names_text system ns
    whole = sym is ∙ sym has.1 ∙ set_text-first system (n ∷ ns) n ns refl

    named_none : event_name system n ≡ codes "none"
    named_none = sym (whole ∙ ap (λ r. event_name system n ++ r) (no_plus_none (event_name system n) (names_text system ns) whole (ends-names system ns)) ∙ append-nil (event_name system n))

-- one text of names is that of one list of events
names-one : (system : System) (below above : ℕ) (a b : List ℕ) → IsSystem system → HasTokenNames system → RisesWithin below (length system.events) a → RisesWithin above (length system.events) b → names_text system a ≡ names_text system b → a ≡ b
names-one system below above [] [] sound names ra rb is = refl
names-one system below above [] (m ∷ ms) sound names ra rb is = absurd cc
names-one system below above (n ∷ ns) [] sound names ra rb is = absurd cc
names-one system below above (n ∷ ns) (m ∷ ms) sound names ra rb is =
    let same : event_name system n ++ names_text system ns ≡ event_name system m ++ names_text system ms = cc in
    let one = one_name (event_name system n) (event_name system m) (names_text system ns) (names_text system ms)
    (no_plus (event_name system n) (name-good system n names ra.1).1) (no_plus (event_name system m) (name-good system m names rb.1).1) same (ends-names system ns) (ends-names system ms)
    in
    let first = same_event system n m sound ra.1 rb.1 one.0 in
    let rest = names-one system (n + 1) (m + 1) ns ms sound names ra.2 rb.2 one.1 in
    (λ i. first i ∷ rest i)

-- a text is that of one set of events
pub one-set : (system : System) (text a b : List ℕ) → IsSystem system → HasTokenNames system → IsSetOfText system text a → IsSetOfText system text b → a ≡ b
one-set system text [] b sound names ha hb = none-one system text b names (sym ha.1) hb
one-set system text (n ∷ ns) [] sound names ha hb = sym (none-one system text (n ∷ ns) names (sym hb.1) ha)
one-set system text (n ∷ ns) (m ∷ ms) sound names ha hb =
    names-one system 0 0 (n ∷ ns) (m ∷ ms) sound names ha.0 hb.0 (sym (names_whole system n ns) ∙ ap (λ t. 43 ∷ t) (ha.1 ∙ sym hb.1) ∙ names_whole system m ms)
