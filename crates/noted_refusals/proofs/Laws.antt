-- Groups of refusals that are noted part after part, and what is known at the end.
use Rattle.std.proofs.Common.{ℕ, zero, suc, ◌≡◌, ◌≤◌, List, [], ◌∷◌, ◌++◌, take, Option, None, Some, MatchOption, Contains, refl, sym, ap, subst, arith, ◌∙◌}
use Rattle.std.specs.Prelude.{option_to_list}
use Rattle.std.specs.Option.{option_or}
use Rattle.std.proofs.lemmas.List.{append_assoc, append-nil, take-take, take_all}
use Rattle.plain_values.specs.declared.refusal.Refusal.{Refusal}
use Rattle.plain_values.specs.declared.refusal.Stop.{Stop}
use Rattle.plain_values.specs.declared.refusal.Stop.TheVariants.{Memory, Refused}
use Rattle.plain_values.specs.inner.Stops.{StopsAt}
use Rattle.plain_values.specs.Order.{IsFirst, least, nearer}
use Rattle.plain_values.proofs.OrderLaws.{least-first, nearer-assoc, nearer-none}
use Rattle.noted_refusals.specs.Groups.{or_group}
use Rattle.noted_refusals.specs.inner.Noted.{Lists, Noted, Tells, TellsFirst, alone, note, nothing_noted, noting}

-- one list behind another
pub noting-append : (noted : Noted) (p q : List Refusal) → noting noted (p ++ q) ≡ noting (noting noted p) q
noting-append noted [] q = refl
noting-append noted (refusal ∷ p) q = noting-append (note noted refusal) p q

-- after one part of a group is noted, the rest of it is left
pub noted-more : (before after : Noted) (part rest : List Refusal) → after ≡ noting before part → noting after rest ≡ noting before (part ++ rest)
noted-more before after part rest noted = ap (λ so_far. noting so_far rest) noted ∙ sym (noting-append before part rest)

module _ (none one two : Noted) (p q : List Refusal) (first : one ≡ noting none p) (second : two ≡ noting one q) where
  -- two parts
  pub noted-two : two ≡ noting none (p ++ q)
  noted-two = second ∙ noted-more none one p q first

  -- three parts
  pub noted-three : (three : Noted) (r : List Refusal) → three ≡ noting two r → three ≡ noting none (p ++ (q ++ r))
  noted-three three r third = third ∙ noted-more one two q r second ∙ noted-more none one p (q ++ r) first

  -- four parts
  pub noted-four : (three four : Noted) (r s : List Refusal) → three ≡ noting two r → four ≡ noting three s → four ≡ noting none (p ++ (q ++ (r ++ s)))
  noted-four three four r s third fourth =
      fourth ∙ noted-more two three r s third ∙ noted-more one two q (r ++ s) second ∙ noted-more none one p (q ++ (r ++ s)) first

-- the first that was noted
pub noting-first : (noted : Noted) (group : List Refusal) → (noting noted group).first ≡ nearer noted.first (least group)
noting-first noted [] = sym (nearer-none noted.first)
noting-first noted (refusal ∷ group) = noting-first (note noted refusal) group ∙ nearer-assoc noted.first (Some refusal) (least group)

-- the room stays
pub noting-room : (noted : Noted) (group : List Refusal) → (noting noted group).room ≡ noted.room
noting-room noted [] = refl
noting-room noted (refusal ∷ group) = noting-room (note noted refusal) group

-- what is noted first of a whole group, begun with nothing
pub noted-all : (room : ℕ) (after : Noted) (group : List Refusal) → after ≡ noting (nothing_noted room) group → MatchOption after.first (group ≡ []) (λ first. IsFirst (Contains group) first)
noted-all room after group noted =
    subst (λ o. MatchOption o (group ≡ []) (λ first. IsFirst (Contains group) first)) (sym (ap (λ n. n.first) noted ∙ noting-first (nothing_noted room) group)) (least-first group)

-- ---- what is kept

take-front : {A : Type 0} (n : ℕ) (xs ys : List A) → take n (take n xs ++ ys) ≡ take n (xs ++ ys)
take-front zero xs ys = refl
take-front (suc n) [] ys = refl
take-front (suc n) (x ∷ xs) ys = ap (λ t. x ∷ t) (take-front n xs ys)

kept-from : (noted : Noted) (group : List Refusal) → noted.kept ≡ take noted.room noted.kept → (noting noted group).kept ≡ take noted.room (noted.kept ++ group)
kept-from noted [] fits = fits ∙ ap (take noted.room) (sym (append-nil noted.kept))
kept-from noted (refusal ∷ group) fits =
    let more = noted.kept ++ refusal ∷ [] in
    let within : noted.room ≤ noted.room = omega arith in
    kept-from (note noted refusal) group (sym (take-take noted.room noted.room more within))
    ∙ take-front noted.room more group ∙ ap (take noted.room) (append_assoc noted.kept (refusal ∷ []) group)

-- of a whole group, begun with nothing, as many are kept as there is room for
pub noting-kept : (room : ℕ) (group : List Refusal) → (noting (nothing_noted room) group).kept ≡ take room group
noting-kept room group = kept-from (nothing_noted room) group (sym (take_all room [] (omega arith)))

-- what is noted of a whole group lists it
pub noted-lists : (room : ℕ) (after : Noted) (group : List Refusal) → after ≡ noting (nothing_noted room) group → Lists group after
noted-lists room after group noted =
    let same : after.room ≡ room = ap (λ n. n.room) noted ∙ noting-room (nothing_noted room) group in
    ap (λ n. n.kept) noted ∙ noting-kept room group ∙ ap (λ n. take n group) (sym same)

-- the first that was noted is the least of the group
pub settled : (room : ℕ) (after : Noted) (group : List Refusal) (first : Option Refusal) → after ≡ noting (nothing_noted room) group → after.first ≡ first → least group ≡ first
settled room after group first noted is = sym (ap (λ n. n.first) noted ∙ noting-first (nothing_noted room) group) ∙ is

-- a group without a first refusal is empty
pub none-in : (group : List Refusal) → least group ≡ None → group ≡ []
none-in group none = subst (λ o. MatchOption o (group ≡ []) (λ first. IsFirst (Contains group) first)) none (least-first group)

-- ---- what is told of a stop

-- the refusal of a stop, noted alone
pub alone-told : (room : ℕ) (after : Noted) (stop : Stop) → after ≡ noting (nothing_noted room) (alone stop) → TellsFirst (alone stop) after stop
alone-told room after Memory only = tt
alone-told room after (Refused refusal) only = (refl, noted-lists room after (refusal ∷ []) only)

-- a refusal alone, with which a call stops
pub told-alone : (one : Option Refusal) (noted : Noted) (stop : Stop) → StopsAt one stop → TellsFirst (alone stop) noted stop → TellsFirst (option_to_list one) noted stop
told-alone one noted Memory is told = tt
told-alone one noted (Refused refusal) is told = subst (λ o. TellsFirst (option_to_list o) noted (Refused refusal)) (sym is) told

-- the least of a group with which a call stops, where the group is noted
pub told-least : (group : List Refusal) (noted : Noted) (stop : Stop) → StopsAt (least group) stop → Tells group noted stop → TellsFirst group noted stop
told-least group noted Memory first lists = tt
told-least group noted (Refused refusal) first lists = (first, lists)

-- what is told of a group is told of it and of the next
pub told-here : (group next : List Refusal) (noted : Noted) (stop : Stop) → TellsFirst group noted stop → TellsFirst (or_group group next) noted stop
told-here group next noted Memory told = tt
told-here [] next noted (Refused refusal) told = let none : None ≡ Some refusal = told.0 in cc
told-here (first ∷ more) next noted (Refused refusal) told = told

-- what is told of a group behind one in which nothing is refused
pub told-next : (group next : List Refusal) (noted : Noted) (stop : Stop) → group ≡ [] → TellsFirst next noted stop → TellsFirst (or_group group next) noted stop
told-next group next noted stop none told = subst (λ before. TellsFirst (or_group before next) noted stop) (sym none) told

-- ---- groups one after the other

pub or-none : (group : List Refusal) → or_group group [] ≡ group
or-none [] = refl
or-none (refusal ∷ more) = refl

pub or-assoc : (one two three : List Refusal) → or_group one (or_group two three) ≡ or_group (or_group one two) three
or-assoc [] two three = refl
or-assoc (refusal ∷ more) two three = refl

some-or : (first : Refusal) (more next : Option Refusal) → nearer (Some first) more ≡ option_or (nearer (Some first) more) next
some-or first None next = refl
some-or first (Some other) next = refl

-- the first refusal of groups one after the other
pub least-or : (group next : List Refusal) → least (or_group group next) ≡ option_or (least group) (least next)
least-or [] next = refl
least-or (refusal ∷ more) next = some-or refusal (least more) (least next)

-- the first refusal of one at most
pub least-one : (one : Option Refusal) → least (option_to_list one) ≡ one
least-one None = refl
least-one (Some refusal) = refl
