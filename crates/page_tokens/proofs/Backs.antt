-- What is written as a token is read back.
use Rattle.std.proofs.Common.{◌≡◌, ◌<◌, ◌==◌, ◌&&◌, ◌||◌, ℕ, zero, suc, Bool, true, false, List, [], ◌∷◌, ◌++◌, length, codes, Option, Some, None, slice_get, refl, sym, ap, subst, ◌∙◌, arith}
use Rattle.std.specs.Prelude.{IfSome, unwrap_or, slice_index_or}
use Rattle.std.specs.List.{list_any}
use Rattle.std.specs.Option.{option_map}
use Rattle.std.proofs.lemmas.Bool.{false≢true}
use Rattle.std.proofs.lemmas.Option.{get_or_from_slice_get}
use Rattle.plain_values.specs.Name.{is_same_text}
use Rattle.fault_system.specs.CutSets.{IsEventSet}
use Rattle.fault_system.specs.Systems.{System, event_name}
use Rattle.fault_system.specs.declared.formula.EventInfo.{EventInfo}
use Rattle.phases.specs.Phases.{Passes}
use Rattle.cutset_lister.specs.SetText.{set_text}
use Rattle.cutset_lister.specs.inner.Scanning.{Ends, names_text}
use Rattle.cutset_lister.proofs.Scans.{set_text-first}
use Rattle.page_tokens.specs.Forms.{AreDigits, begins_new, token_text}
use Rattle.page_tokens.specs.Starts.{IsStart, page_start, start_text}
use Rattle.page_tokens.specs.inner.Starts.{HasPageNames, IsPageName}

-- the name of an event of a set is one that no token can mean in another way
named : (events : List EventInfo) (number : ℕ) → number < length events → (event : EventInfo) × (slice_get events number ≡ Some event)
named [] number h = absurd (omega (arith, h))
named (e ∷ es) zero h = (e, refl)
named (e ∷ es) (suc k) h = named es k (omega (arith, h))

page_name : (system : System) (number : ℕ) → HasPageNames system → number < length system.events → IsPageName (event_name system number)
page_name system number names h =
    let event = named system.events number h in
    let good : IsPageName (slice_index_or system.events number event.0).name = names number event.0 h in
    let is : slice_index_or system.events number event.0 ≡ event.0 = get_or_from_slice_get system.events number event.0 event.0 event.1 in
    subst IsPageName (ap (λ e. e.name) is ∙ sym (ap (λ o. unwrap_or (option_map (λ (e : EventInfo). e.name) o) []) event.1)) good

-- whether a text has a `+`
abbrev has_plus : List ℕ → Bool
has_plus text = list_any (λ byte. byte == 43) text

or_true : (b : Bool) → b || true ≡ true
or_true true = refl
or_true false = refl

and_false : (b : Bool) → b && false ≡ false
and_false true = refl
and_false false = refl

plus_behind : (name tail : List ℕ) → has_plus (name ++ (43 ∷ tail)) ≡ true
plus_behind [] tail = refl
plus_behind (byte ∷ bytes) tail = ap (λ b. byte == 43 || b) (plus_behind bytes tail) ∙ or_true (byte == 43)

append_none : (name : List ℕ) → name ++ [] ≡ name
append_none [] = refl
append_none (byte ∷ bytes) = ap (λ l. byte ∷ l) (append_none bytes)

ends : (system : System) (set : List ℕ) → Ends (names_text system set)
ends system [] = tt
ends system (n ∷ ns) = refl

-- no text of a set is `start`
name_is : (name tail : List ℕ) → Ends tail → name ++ tail ≡ codes "start" → name ≡ codes "start"
name_is name [] over is = sym (append_none name) ∙ is
name_is name (byte ∷ tail) over is = absurd (false≢true (sym (ap has_plus is) ∙ ap (λ b. has_plus (name ++ (b ∷ tail))) over ∙ plus_behind name tail))

not_start : (system : System) (set : List ℕ) → HasPageNames system → IsEventSet system set → set_text system set ≡ codes "start" → ⊥
not_start system [] names rises is = false≢true (sym (ap (λ text. is_same_text text (codes "none")) is))
not_start system (n ∷ ns) names rises is =
    (page_name system n names rises.1).0 (name_is (event_name system n) (names_text system ns) (ends system ns) (sym (set_text-first system (n ∷ ns) n ns refl) ∙ is))

-- and none begins as a token of the second version
short_one : (byte : ℕ) (tail : List ℕ) → begins_new (byte ∷ 43 ∷ tail) ≡ false
short_one byte tail = and_false (byte == 118)

short_two : (first second : ℕ) (tail : List ℕ) → begins_new (first ∷ second ∷ 43 ∷ tail) ≡ false
short_two first second tail = ap (λ b. (first == 118) && b) (and_false (second == 50)) ∙ and_false (first == 118)

begins_as : (name tail : List ℕ) → Ends tail → begins_new name ≡ false → begins_new (name ++ tail) ≡ false
begins_as [] [] over not = not
begins_as [] (byte ∷ tail) over not = ap (λ b. begins_new (b ∷ tail)) over
begins_as (a ∷ []) [] over not = not
begins_as (a ∷ []) (byte ∷ tail) over not = ap (λ b. begins_new (a ∷ b ∷ tail)) over ∙ short_one a tail
begins_as (a ∷ b ∷ []) [] over not = not
begins_as (a ∷ b ∷ []) (byte ∷ tail) over not = ap (λ c. begins_new (a ∷ b ∷ c ∷ tail)) over ∙ short_two a b tail
begins_as (a ∷ b ∷ c ∷ name) tail over not = not

not_new : (system : System) (set : List ℕ) → HasPageNames system → IsEventSet system set → begins_new (set_text system set) ≡ false
not_new system [] names rises = refl
not_new system (n ∷ ns) names rises =
    ap begins_new (set_text-first system (n ∷ ns) n ns refl) ∙ begins_as (event_name system n) (names_text system ns) (ends system ns) (page_name system n names rises.1).1

starts_so : (system : System) (key : List ℕ) (start : Option (List ℕ)) → HasPageNames system → IfSome start (IsEventSet system) → IsStart system (record { digits = Some key; rest = start_text system start }) start
starts_so system key None names events = (refl, refl)
starts_so system key (Some set) names events = ((λ says. not_start system set names events says.1), (events, refl))

pub second : (system : System) (key : List ℕ) (start : Option (List ℕ)) → HasPageNames system → AreDigits key → IfSome start (IsEventSet system) → Passes (page_start key (token_text key (start_text system start)) system) start
second system key start names digits events = record { passed = (record { digits = Some key; rest = start_text system start }, (refl, digits), (tt, refl, starts_so system key start names events)) }

pub first : (system : System) (key set : List ℕ) → HasPageNames system → IsEventSet system set → Passes (page_start key (set_text system set) system) (Some set)
first system key set names events =
    record { passed = (record { digits = None; rest = set_text system set }, (not_new system set names events, refl), (tt, tt, ((λ says. absurd (cc (says.0))), (events, refl)))) }
