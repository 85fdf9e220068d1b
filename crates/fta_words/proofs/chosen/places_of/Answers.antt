use Rattle.std.proofs.Common.{◌≡◌, ◌∷◌, ◌++◌, ℕ, List, Bor, [], sym, subst, rules}
use Rattle.std.specs.Prelude.{Contains}
use Rattle.fta_words.specs.inner.Naming.{NamesPlaces}
use Rattle.fta_words.proofs.Places.{AreNamed, first_there, named_twice, no_place, one_named}
use Rattle.fta_words.proofs.chosen.places_of.Goals as goal

pub returns-in_default : goal.returns-in_default
returns-in_default c = λ names cut once each.
    let so_far = c.loop-places.invariant in
    let name = c.split_once.result.0.now in
    let there = first_there (λ (r : Bor (List ℕ)). r.now) c.split_once.result.1 c.args.reports.now c.args.text.now c.loop-places.rest.now name c.loop-places.places so_far c.split_once.ensures.parts c.split_once.ensures.first names cut in
    no_place c.args.reports.now so_far.names name there.0 names there.1 (rw c.in_default.is at c.in_ok-place.ensures) each

pub returns-then-is_among : goal.returns-then-is_among
returns-then-is_among c = λ names cut once each.
    let so_far = c.loop-places.invariant in
    let name = c.split_once.result.0.now in
    let there = first_there (λ (r : Bor (List ℕ)). r.now) c.split_once.result.1 c.args.reports.now c.args.text.now c.loop-places.rest.now name c.loop-places.places so_far c.split_once.ensures.parts c.split_once.ensures.first names cut in
    let has : Contains c.loop-places.places c.in-Some.place = subst (λ (l : List ℕ). Contains l c.in-Some.place) c.items.ensures.items (c.is_among.ensures.yes c.if-is_among.true) in
    named_twice c.args.reports.now so_far.names c.loop-places.places so_far.stand name c.in-Some.place (rw c.in-Some.is at c.in_ok-place.ensures) has there.0 names there.1 once

pub loop-places-preserved : goal.loop-places-preserved
loop-places-preserved c =
    let so_far = c.loop-places.invariant in
    let name = c.split_once.result.0.now in
    let pushed : c.push.new.self ≡ c.loop-places.places ++ c.in-Some.place ∷ [] = search rules in
    let more = one_named (λ (r : Bor (List ℕ)). r.now) c.split_once.result.1 c.args.reports.now c.args.text.now c.loop-places.rest.now name c.loop-places.places c.in-Some.place so_far c.split_once.ensures.parts c.split_once.ensures.first
    (rw c.in-Some.is at c.in_ok-place.ensures) (λ has. c.is_among.ensures.not c.if-is_among.false (subst (λ (l : List ℕ). Contains l c.in-Some.place) (sym c.items.ensures.items) has)) in
    subst (AreNamed c.args.reports.now c.args.text.now c.in-Some-more.more.now) (sym pushed) (rw c.in-Some-more.is at more)

pub returns-in-None : goal.returns-in-None
returns-in-None c =
    let so_far = c.loop-places.invariant in
    let name = c.split_once.result.0.now in
    let pushed : c.push.new.self ≡ c.loop-places.places ++ c.in-Some.place ∷ [] = search rules in
    let more = one_named (λ (r : Bor (List ℕ)). r.now) c.split_once.result.1 c.args.reports.now c.args.text.now c.loop-places.rest.now name c.loop-places.places c.in-Some.place so_far c.split_once.ensures.parts c.split_once.ensures.first
    (rw c.in-Some.is at c.in_ok-place.ensures) (λ has. c.is_among.ensures.not c.if-is_among.false (subst (λ (l : List ℕ). Contains l c.in-Some.place) (sym c.items.ensures.items) has)) in
    subst (NamesPlaces c.args.reports.now c.args.text.now) (sym pushed) (rw c.in-None.is at more)
