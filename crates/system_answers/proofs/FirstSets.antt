-- The sets of a smaller greatest order stand first in a listing, and where they are more than a page has, the page is theirs.
use Rattle.std.proofs.Common.{ℕ, zero, suc, ◌≡◌, ◌<◌, ◌≤◌, List, [], ◌∷◌, ◌++◌, length, take, filter, nat_lt, Option, None, Some, inl, ⊎_elim, ap, ◌∙◌, sym, subst, refl, arith, length-append}
use Rattle.std.specs.List.{flat_map}
use Rattle.std.proofs.lemmas.Bool.{lt-ltb, ltb-true, cases_lt}
use Rattle.std.proofs.lemmas.List.Elements.{filter-append}
use Rattle.fault_system.specs.Systems.{System}
use Rattle.fault_system.specs.Listings.{IsInListingOrder, IsListing, IsWithinOrder, is_before, sets_after}
use Rattle.fault_system.specs.inner.Listings.{listing}
use Rattle.fault_system.proofs.Elements.{In, In-append, In-back, In-contains, In-filter, In-filtered, In-front, contains_In}
use Rattle.fault_system.proofs.ListingLaws.{listing-exact}
use Rattle.fault_system.proofs.Orders.{before_made, one_order, order-append, order-filter}
use Rattle.zdd_store.specs.inner.Family.{Family}
use Rattle.cutset_engine.specs.inner.Families.{HasMinimalCutSets}
use Rattle.cutset_writer.specs.inner.Pages.{Lists}
use Rattle.cutset_writer.specs.Text.{last_line, last_of, listing_page, marked_page, more_line, set_line}
use Rattle.cutset_writer.specs.declared.form.SetForm.{SetForm}
use Rattle.cutset_writer.specs.declared.form.SetForm.TheVariants.{Token}
use Rattle.phases.specs.Phases.{Passes}
use Rattle.fta_words.specs.declared.command.Paging.{Paging}
use Rattle.system_answers.specs.Texts.{page_in, page_of}
use Rattle.system_answers.specs.inner.Fronts.{GivesPage, ServesPage}
use Rattle.system_answers.proofs.Listed.{listed}

-- the sets of two listings, one behind the other, that stand behind a set
after-append : (start : Option (List ℕ)) (front rest : List (List ℕ)) → sets_after start (front ++ rest) ≡ sets_after start front ++ sets_after start rest
after-append None front rest = refl
after-append (Some set) front rest = filter-append (is_before set) front rest

-- of two lists, the first items of the first
take-short : (n : ℕ) (xs ys : List (List ℕ)) → n ≤ length xs → take n (xs ++ ys) ≡ take n xs
take-short zero xs ys few = refl
take-short (suc n) [] ys few = absurd (omega (arith, few))
take-short (suc n) (x ∷ xs) ys few = ap (λ (zs : List (List ℕ)). x ∷ zs) (take-short n xs ys (omega (arith, few)))

module _ (system : System) (target : ℕ) (most : Option ℕ) (order : ℕ) (front : List (List ℕ)) (is_front : IsListing system target (Some order) front) (allowed : (set : List ℕ) → IsWithinOrder (Some order) set → IsWithinOrder most set) where
  abbrev all : List (List ℕ)
  all = listing system target most

  is_all : IsListing system target most all
  is_all = listing-exact system target most

  abbrev larger : List (List ℕ)
  larger = filter (λ set. nat_lt order (length set)) all

  short : (set : List ℕ) → In set front → length set ≤ order
  short set i = ((is_front.exact set).0 (contains_In set front i)).1

  long : (set : List ℕ) → In set larger → order < length set
  long set i = ltb-true order (length set) (In-filter (λ one. nat_lt order (length one)) set all i).1

  joined-order : IsInListingOrder (front ++ larger)
  joined-order =
      order-append front larger is_front.ordered (order-filter (λ set. nat_lt order (length set)) all is_all.ordered)
      (λ a b i j. before_made a b (inl (omega (arith, short a i, long b j))))

  there : (set : List ℕ) → In set (front ++ larger) → In set all
  there set i = ⊎_elim
      (λ f. let is = (is_front.exact set).0 (contains_In set front f) in In-contains set all ((is_all.exact set).1 (is.0, allowed set is.1)))
      (λ l. (In-filter (λ one. nat_lt order (length one)) set all l).0)
      (In-append set front larger i)

  back : (set : List ℕ) → In set all → In set (front ++ larger)
  back set i = ⊎_elim
      (λ more. In-back set front larger (In-filtered (λ one. nat_lt order (length one)) set all (lt-ltb order (length set) more) i))
      (λ few. In-front set front larger (In-contains set front ((is_front.exact set).1 (((is_all.exact set).0 (contains_In set all i)).0, few))))
      (cases_lt order (length set))

  split : front ++ larger ≡ all
  split = one_order (front ++ larger) all joined-order is_all.ordered there back

  pub front-page : (start : Option (List ℕ)) (limit : ℕ) → limit < length (sets_after start front) → GivesPage system target most start (Some limit) front
  front-page start limit more =
      let first = sets_after start front in
      let rest = sets_after start larger in
      let parts : sets_after start all ≡ first ++ rest = ap (sets_after start) (sym split) ∙ after-append start front larger in
      let long_enough : limit < length (sets_after start all) = subst (λ (sets : List (List ℕ)). limit < length sets) (sym parts) (omega (arith, more, length-append first rest)) in
      record {
        whole = all;
        listing = is_all;
        page = record {
          page_is = sym (ap (take limit) parts ∙ take-short limit first rest (omega (arith, more)));
          more_is = lt-ltb limit (length first) more ∙ sym (lt-ltb limit (length (sets_after start all)) long_enough);
        };
      }

-- the family of a smaller order, of which more sets than a limit stand behind a set
pub serves-front : (system : System) (target : ℕ) (most : Option ℕ) (order : ℕ) (start : Option (List ℕ)) (limit : ℕ) (family : Family) → HasMinimalCutSets system target (Some order) family → ((set : List ℕ) → IsWithinOrder (Some order) set → IsWithinOrder most set)
    → ((sets : List (List ℕ)) → Lists family sets → limit < length (sets_after start sets)) → ServesPage system target most start (Some limit) family
serves-front system target most order start limit family exact allowed more = record {
  minimal = λ set here. ((exact set).0 here).0;
  page = λ sets lists. front-page system target most order sets (listed system target (Some order) family sets exact lists) allowed start limit (more sets lists);
}

-- the family of all
pub serves-whole : (system : System) (target : ℕ) (most : Option ℕ) (family : Family) → HasMinimalCutSets system target most family → (start : Option (List ℕ)) (limit : Option ℕ) → ServesPage system target most start limit family
serves-whole system target most family exact start limit = record {
  minimal = λ set here. ((exact set).0 here).0;
  page = λ sets lists. record { whole = sets; listing = listed system target most family sets exact lists; page = record { page_is = refl; more_is = refl } };
}

-- a family is listed in one way
pub one-list : (family a b : List (List ℕ)) → Lists family a → Lists family b → a ≡ b
one-list family a b one other =
    one_order a b one.ordered other.ordered
    (λ set i. In-contains set b ((other.same set).1 ((one.same set).0 (contains_In set a i))))
    (λ set i. In-contains set a ((one.same set).1 ((other.same set).0 (contains_In set b i))))

-- ---- the text of the page

module _ {system : System} {target : ℕ} {most : Option ℕ} {start : Option (List ℕ)} {limit : Option ℕ} {sets : List (List ℕ)} (it : GivesPage system target most start limit sets) where
  pub given-text : (form : SetForm) (key : Option (List ℕ)) → marked_page form system key start limit sets ≡ marked_page form system key start limit it.whole
  given-text form key =
      let page = it.page.page_is in
      let more = it.page.more_is in
      λ i. flat_map (set_line form system) (page i) ++ last_line (more_line key system (last_of start (page i))) (more i)

  pub given-page : (form : SetForm) → Passes (page_in form target start limit most system) (listing_page form system start limit sets)
  given-page form = record { passed = (it.whole, it.listing, given-text form None) }

-- the same with a token in the last line
pub given-marked : {system : System} {target : ℕ} {start : Option (List ℕ)} {sets : List (List ℕ)} (paging : Paging) → GivesPage system target paging.max_order start paging.limit sets → (key : Option (List ℕ)) → Passes (page_of target start paging key system) (marked_page Token system key start paging.limit sets)
given-marked paging it key = record { passed = (it.whole, it.listing, given-text it Token key) }
