-- The steps of a search for a name.
use Rattle.std.proofs.Common.{ℕ, zero, suc, ◌+◌, ◌-◌, ◌^◌, ◌<◌, ◌≡◌, true, false, cond, List, [], ◌∷◌, ◌++◌, length, fold, Option, None, refl, sym, ap, ◌∙◌, arith}
use Rattle.plain_values.specs.Order.{nearer}
use Rattle.plain_values.specs.declared.refusal.Refusal.{Refusal}
use Rattle.error_libraries.specs.declared.id.Looked.{Looked}
use Rattle.error_libraries.specs.declared.id.Looked.TheVariants.{Nowhere, Circular}
use Rattle.error_libraries.specs.inner.Course.{Course, Frame, before, entered, finished, left, so_far, way_of}
use Rattle.error_libraries.specs.Libraries.{Library}
use Rattle.error_libraries.specs.Search.{Search, at_library, extended, is_number_in, no_search, own_item, past, search, searched, turned, unknown_in, unless_ended}

module _ (libraries : List Library) (name : List ℕ) where
  -- ---- a search that has its end

  module _ (whole : Search) (ends : (rest : Search) → unless_ended whole.found whole rest ≡ whole) where
    searched-ended : (steps : ℕ) (way : List ℕ) (library : ℕ) → searched steps libraries name way whole library ≡ whole
    unfolding searched
    searched-ended zero way library = refl
    searched-ended (suc steps) way library = ends _

    fold-ended : (steps : ℕ) (way rest : List ℕ) → fold (searched steps libraries name way) whole rest ≡ whole
    fold-ended steps way [] = refl
    fold-ended steps way (library ∷ rest) = ap (λ s. fold (searched steps libraries name way) s rest) (searched-ended steps way library) ∙ fold-ended steps way rest

    past-ended : (library : ℕ) → past library whole ≡ whole
    past-ended library = ends _

    pub finished-ended : (frames : List Frame) → finished libraries name frames whole ≡ whole
    finished-ended [] = refl
    finished-ended (frame ∷ below) =
        ap (finished libraries name below) (ap (past frame.library) (fold-ended (2 ^ 64 - (length below + 1)) (way_of (frame ∷ below)) frame.rest) ∙ past-ended frame.library)
        ∙ finished-ended below

    -- the same where it has its end once a library and what this extends were searched
    pub through-ended : (steps : ℕ) (way rest : List ℕ) (library : ℕ) → past library (fold (searched steps libraries name way) whole rest) ≡ whole
    through-ended steps way rest library = ap (past library) (fold-ended steps way rest) ∙ past-ended library

  found-ends : (search : Search) (own : Looked) → search.found ≡ own → ((s r : Search) → unless_ended own s r ≡ s) → (rest : Search) → unless_ended search.found search rest ≡ search
  found-ends search own is ends rest = ap (λ f. unless_ended f search rest) is ∙ ends search rest

  -- ---- one step

  abbrev met : ℕ → List ℕ → Search → ℕ → Search
  met steps way so library = past library (fold (searched steps libraries name (library ∷ way)) (at_library libraries name so library) (extended libraries library))

  one_step : (steps one : ℕ) (way vain : List ℕ) (first : Option Refusal) (library : ℕ) → steps ≡ suc one
      → searched steps libraries name way (record { found = Nowhere; vain = vain; first = first }) library
      ≡ cond (is_number_in vain library) (record { found = Nowhere; vain = vain; first = first }) (cond (is_number_in way library) (record { found = Circular; vain = vain; first = first }) (met one way (record { found = Nowhere; vain = vain; first = first }) library))
  unfolding searched
  one_step steps one way vain first library more = ap (λ n. searched n libraries name way (record { found = Nowhere; vain = vain; first = first }) library) more

  module _ (course : Course) (library : ℕ) (few : length course.below < 2 ^ 32) where
    abbrev way : List ℕ
    way = way_of (course.top ∷ course.below)

    abbrev steps : ℕ
    steps = 2 ^ 64 - (length course.below + 1)

    abbrev deeper : ℕ
    deeper = 2 ^ 64 - (length (course.top ∷ course.below) + 1)

    -- what follows once the library is searched
    abbrev after : Search → Search
    after so = finished libraries name course.below (past course.top.library (fold (searched steps libraries name way) so course.top.rest))

    stepped : left libraries name (before library course) ≡ after (cond (is_number_in course.vain library) (so_far course) (cond (is_number_in way library) (turned (so_far course)) (met deeper way (so_far course) library)))
    stepped =
        let more : steps ≡ suc deeper = omega (arith, few) in
        ap after (one_step steps deeper way course.vain course.first library more)

    pub passed-by : is_number_in course.vain library ≡ true → left libraries name (before library course) ≡ left libraries name course
    passed-by vain = stepped ∙ ap (λ b. after (cond b (so_far course) (cond (is_number_in way library) (turned (so_far course)) (met deeper way (so_far course) library)))) vain

    after-ended : (whole : Search) → ((rest : Search) → unless_ended whole.found whole rest ≡ whole) → after whole ≡ whole
    after-ended whole ends = ap (finished libraries name course.below) (through-ended whole ends steps way course.top.rest course.top.library) ∙ finished-ended whole ends course.below

    pub came-back : is_number_in course.vain library ≡ false → is_number_in way library ≡ true → left libraries name (before library course) ≡ turned (so_far course)
    came-back new on =
        stepped ∙ ap (λ b. after (cond b (so_far course) (cond (is_number_in way library) (turned (so_far course)) (met deeper way (so_far course) library)))) new
        ∙ ap (λ b. after (cond b (turned (so_far course)) (met deeper way (so_far course) library))) on
        ∙ after-ended (turned (so_far course)) (λ rest. refl)

    module _ (new : is_number_in course.vain library ≡ false) (apart : is_number_in way library ≡ false) where
      into : left libraries name (before library course) ≡ after (met deeper way (so_far course) library)
      into =
          stepped ∙ ap (λ b. after (cond b (so_far course) (cond (is_number_in way library) (turned (so_far course)) (met deeper way (so_far course) library)))) new
          ∙ ap (λ b. after (cond b (turned (so_far course)) (met deeper way (so_far course) library))) apart

      pub goes-on : own_item libraries name library ≡ Nowhere → left libraries name (entered course library (extended libraries library) (unknown_in libraries library)) ≡ left libraries name (before library course)
      goes-on none =
          ap (λ own. after (past library (fold (searched deeper libraries name (library ∷ way)) (record { found = own; vain = course.vain; first = nearer course.first (unknown_in libraries library) }) (extended libraries library)))) (sym none)
          ∙ sym into

      pub ends-there : (own : Looked) → own ≡ own_item libraries name library → ((s r : Search) → unless_ended own s r ≡ s) → left libraries name (before library course) ≡ at_library libraries name (so_far course) library
      ends-there own is ends =
          let stays = found-ends (at_library libraries name (so_far course) library) own (sym is) ends in
          into ∙ ap after (through-ended (at_library libraries name (so_far course) library) stays deeper (library ∷ way) (extended libraries library) library)
          ∙ after-ended (at_library libraries name (so_far course) library) stays

  -- ---- back

  pub back-on : (course : Course) (top : Frame) (below : List Frame) (vain : List ℕ) (first : Option Refusal) → course.top.rest ≡ [] → course.below ≡ top ∷ below → vain ≡ course.vain ++ course.top.library ∷ [] → first ≡ course.first
      → left libraries name (record { top = top; below = below; vain = vain; first = first }) ≡ left libraries name course
  back-on course top below vain first none is v f =
      (λ i. finished libraries name (top ∷ below) (record { found = Nowhere; vain = v i; first = f i }))
      ∙ (λ i. finished libraries name (sym is i) (past course.top.library (fold (searched (2 ^ 64 - (length course.below + 1)) libraries name (way_of (course.top ∷ course.below))) (so_far course) (sym none i))))

  pub back-out : (course : Course) → course.top.rest ≡ [] → course.below ≡ [] → left libraries name course ≡ record { found = Nowhere; vain = course.vain ++ course.top.library ∷ []; first = course.first }
  back-out course none is =
      λ i. finished libraries name (is i) (past course.top.library (fold (searched (2 ^ 64 - (length course.below + 1)) libraries name (way_of (course.top ∷ course.below))) (so_far course) (none i)))

  -- ---- the beginning

  begun : (number : ℕ) → search libraries name number ≡ met (2 ^ 64 - 1) [] no_search number
  begun number = one_step (2 ^ 64) (2 ^ 64 - 1) [] [] None number refl

  pub begins : (number : ℕ) → own_item libraries name number ≡ Nowhere → left libraries name (record { top = record { library = number; rest = extended libraries number }; below = []; vain = []; first = unknown_in libraries number }) ≡ search libraries name number
  begins number none =
      ap (λ own. past number (fold (searched (2 ^ 64 - 1) libraries name (number ∷ [])) (record { found = own; vain = []; first = unknown_in libraries number }) (extended libraries number))) (sym none)
      ∙ sym (begun number)

  pub ends-at-once : (number : ℕ) (own : Looked) → own ≡ own_item libraries name number → ((s r : Search) → unless_ended own s r ≡ s) → search libraries name number ≡ at_library libraries name no_search number
  ends-at-once number own is ends =
      begun number ∙ through-ended (at_library libraries name no_search number) (found-ends (at_library libraries name no_search number) own (sym is) ends) (2 ^ 64 - 1) (number ∷ []) (extended libraries number) number
