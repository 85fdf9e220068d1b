-- What a table knows after one more answer, and in a store that keeps what it had.
use Rattle.std.proofs.Common.{◌≤◌, ℕ, List, length, Option, sym, ap, ◌∙◌, subst, arith}
use Rattle.std.specs.HashMap.{get}
use Rattle.zdd_store.specs.inner.Family.{Family, least_number}
use Rattle.zdd_store.specs.inner.Store.{Families, IsIn, family_of, Keeps}
use Rattle.zdd_store.specs.declared.id.Id.{Id}
use Rattle.family_renaming.specs.inner.Renaming.{AreRenamed}
use Rattle.family_renaming.specs.inner.Splitting.{IsParted, KnowsParts, least_event, KnowsLeast, IsOrdered, KnowsOrdered, Knows}
use Rattle.family_renaming.specs.declared.parting.Parts.{Parts}
use Rattle.family_renaming.specs.declared.parting.Place.{Place}
use Rattle.family_renaming.specs.declared.from_top.Known.{Known}
use Rattle.family_renaming.specs.contracts.parting.PlacePartialEq.TheImpl.{eq-value as place_eq}
use Rattle.zdd_store.specs.contracts.id.IdPartialEq.TheImpl.{eq-value as id_eq}

pub found_kept : (before after : Families) (id : Id) → Keeps before after → IsIn before id → IsIn after id
found_kept before after id kept here = let more : length before ≤ length after = kept.more in omega arith

pub parted_kept : (before after : Families) (number : ℕ) (family : Family) (parts : Parts) → Keeps before after → IsParted before number family parts → IsParted after number family parts
parted_kept before after number family parts kept is =
    record {
      lo_in = found_kept before after parts.lo kept is.lo_in;
      hi_in = found_kept before after parts.hi kept is.hi_in;
      lo = kept.same parts.lo.position is.lo_in ∙ is.lo;
      hi = kept.same parts.hi.position is.hi_in ∙ is.hi;
      lo_least = subst (λ f. least_number family ≤ least_number f) (sym (kept.same parts.lo.position is.lo_in)) is.lo_least;
      hi_least = subst (λ f. least_number family ≤ least_number f) (sym (kept.same parts.hi.position is.hi_in)) is.hi_least;
    }

pub parts_kept : (before after : Families) (known : Place → Option Parts) → Keeps before after → KnowsParts before known → KnowsParts after known
parts_kept before after known kept right place parts e =
    let r = right place parts e in (
      found_kept before after place.family kept r.0,
      parted_kept before after place.number (family_of after place.family) parts kept
          (subst (λ f. IsParted before place.number f parts) (sym (kept.same place.family.position r.0)) r.1),
    )

pub least_kept : (names : List ℕ) (before after : Families) (known : Id → Option ℕ) → Keeps before after → KnowsLeast names before known → KnowsLeast names after known
least_kept names before after known kept right id event e =
    let r = right id event e in (
      found_kept before after id kept r.0,
      r.1 ∙ ap (least_event names) (sym (kept.same id.position r.0)),
    )

pub ordered_kept : (before after : Families) (names : List ℕ) (family : Family) (answer : Id) → Keeps before after → IsOrdered before names family answer → IsOrdered after names family answer
ordered_kept before after names family answer kept is =
    record {
      found = found_kept before after answer kept is.found;
      least = subst (λ f. least_event names family ≤ least_number f) (sym (kept.same answer.position is.found)) is.least;
      renamed = subst (AreRenamed names family) (sym (kept.same answer.position is.found)) is.renamed;
    }

pub orders_kept : (names : List ℕ) (before after : Families) (known : Id → Option Id) → Keeps before after → KnowsOrdered names before known → KnowsOrdered names after known
orders_kept names before after known kept right id answer e =
    let r = right id answer e in (
      found_kept before after id kept r.0,
      ordered_kept before after names (family_of after id) answer kept
          (subst (λ f. IsOrdered before names f answer) (sym (kept.same id.position r.0)) r.1),
    )

-- tables that know what is right: the parts in the store as it is, the others in the store as it was
pub knows_in : (names : List ℕ) (before after : Families) (known : Known) → Keeps before after → KnowsParts after (get place_eq.it known.parts)
    → KnowsLeast names before (get id_eq.it known.least) → KnowsOrdered names before (get id_eq.it known.ordered) → Knows names after known
knows_in names before after known kept parts least ordered =
    record {
      parts = parts;
      least = least_kept names before after (get id_eq.it known.least) kept least;
      ordered = orders_kept names before after (get id_eq.it known.ordered) kept ordered;
    }

pub all_kept : (names : List ℕ) (before after : Families) (known : Known) → Keeps before after → Knows names before known → Knows names after known
all_kept names before after known kept knows = knows_in names before after known kept (parts_kept before after (get place_eq.it known.parts) kept knows.parts) knows.least knows.ordered
