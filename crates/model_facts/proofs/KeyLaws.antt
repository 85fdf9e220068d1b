-- The keys of facts, events and sides, and when two of them are the same.
use Rattle.std.proofs.Common.{ℕ, ◌+◌, ◌≡◌, ◌<◌, Bool, true, false, ◌&&◌, ◌||◌, cond, nat_eq, List, length, take, get_or, refl, sym, ap, ◌∙◌}
use Rattle.std.specs.Cmp.{booleans_Decides, first_so, second_so}
use Rattle.std.proofs.lemmas.Bool.{eq-eqb, eqb-true, false≢true}
use Rattle.package_index.proofs.Loops.{any-more}
use Rattle.propagation_links.specs.declared.link.Link.{Link}
use Rattle.model_facts.specs.Facts.{same_event, same_event_kind, same_fact, same_fact_kind}
use Rattle.model_facts.specs.inner.Tables.{KnowsSides, SideKey, leads_into, same_side_key}
use Rattle.model_facts.specs.contracts.keys.EventKeyPartialEq.TheImpl.{eq-value as event_eq}
use Rattle.model_facts.specs.contracts.keys.EventKindPartialEq.TheImpl.{eq-value as event_kind_eq}
use Rattle.model_facts.specs.contracts.keys.FactKeyPartialEq.TheImpl.{eq-value as fact_eq}
use Rattle.model_facts.specs.contracts.keys.FactKindPartialEq.TheImpl.{eq-value as fact_kind_eq}
use Rattle.model_facts.specs.declared.keys.EventKey.{EventKey}
use Rattle.model_facts.specs.declared.keys.EventKind.{EventKind}
use Rattle.model_facts.specs.declared.keys.EventKind.TheVariants.{Declared, Source, Arrival}
use Rattle.model_facts.specs.declared.keys.FactKey.{FactKey}
use Rattle.model_facts.specs.declared.keys.FactKind.{FactKind}
use Rattle.model_facts.specs.declared.keys.FactKind.TheVariants.{State, Enters, Exits}

-- ---- tests that tell values apart

or-true : (b : Bool) → (b || true) ≡ true
or-true true = refl
or-true false = refl

or-none : (b : Bool) → (b || false) ≡ b
or-none true = refl
or-none false = refl

both : (a b : Bool) → a ≡ true → b ≡ true → (a && b) ≡ true
both a b p q = (λ i. p i && q i)

-- a test that is true of the same values alone is the same both ways
agrees : {A : Type 0} (same : A → A → Bool) → ((a b : A) → same a b ≡ true → a ≡ b) → ((a : A) → same a a ≡ true) → (a b : A) → same a b ≡ same b a
agrees {A} same exact itself a b = by (same a b) (same b a) refl refl
  where
    turned : (x y : A) → same x y ≡ true → same y x ≡ true
    turned x y is = ap (λ z. same z x) (sym (exact x y is)) ∙ itself x

    by : (p q : Bool) → same a b ≡ p → same b a ≡ q → same a b ≡ same b a
    by true q is also = is ∙ sym (turned a b is)
    by false true is also = absurd (false≢true (sym is ∙ turned b a also))
    by false false is also = is ∙ sym also

-- ---- facts

kind-exact : (a b : FactKind) → same_fact_kind a b ≡ true → a ≡ b
kind-exact (State a) (State b) same = ap State (eqb-true a b same)
kind-exact (State a) (Enters b c) same = absurd (false≢true same)
kind-exact (State a) (Exits b c) same = absurd (false≢true same)
kind-exact (Enters point type) (State b) same = absurd (false≢true same)
kind-exact (Enters point type) (Enters other its) same = λ i. Enters (eqb-true point other (first_so _ _ same) i) (eqb-true type its (second_so _ _ same) i)
kind-exact (Enters point type) (Exits other its) same = absurd (false≢true same)
kind-exact (Exits point type) (State b) same = absurd (false≢true same)
kind-exact (Exits point type) (Enters other its) same = absurd (false≢true same)
kind-exact (Exits point type) (Exits other its) same = λ i. Exits (eqb-true point other (first_so _ _ same) i) (eqb-true type its (second_so _ _ same) i)

kind-itself : (a : FactKind) → same_fact_kind a a ≡ true
kind-itself (State a) = eq-eqb a a refl
kind-itself (Enters point type) = both _ _ (eq-eqb point point refl) (eq-eqb type type refl)
kind-itself (Exits point type) = both _ _ (eq-eqb point point refl) (eq-eqb type type refl)

pub fact-exact : (a b : FactKey) → same_fact a b ≡ true → a ≡ b
fact-exact a b same =
    let owner = eqb-true a.owner b.owner (first_so _ _ same) in
    let kind = kind-exact a.kind b.kind (second_so _ _ same) in
    λ i. record { owner = owner i; kind = kind i }

pub fact-itself : (a : FactKey) → same_fact a a ≡ true
fact-itself a = both _ _ (eq-eqb a.owner a.owner refl) (kind-itself a.kind)

pub fact-agrees : (a b : FactKey) → same_fact a b ≡ same_fact b a
fact-agrees = agrees same_fact fact-exact fact-itself

pub fact-alike : (key other : FactKey) → same_fact key other ≡ true → (each : FactKey) → same_fact other each ≡ same_fact key each
fact-alike key other same each = ap (λ fact. same_fact fact each) (sym (fact-exact key other same))

-- the derived test is the same
fact-kind-by : (a b : FactKind) → fact_kind_eq.it a b ≡ same_fact_kind a b
fact-kind-by (State a) (State a_b) = refl
fact-kind-by (State a) (Enters point_b type_b) = refl
fact-kind-by (State a) (Exits point_b type_b) = refl
fact-kind-by (Enters point type) (State a_b) = refl
fact-kind-by (Enters point type) (Enters point_b type_b) = refl
fact-kind-by (Enters point type) (Exits point_b type_b) = refl
fact-kind-by (Exits point type) (State a_b) = refl
fact-kind-by (Exits point type) (Enters point_b type_b) = refl
fact-kind-by (Exits point type) (Exits point_b type_b) = refl

pub fact-by : fact_eq.it ≡ same_fact
fact-by = λ i a b. nat_eq a.owner b.owner && fact-kind-by a.kind b.kind i

-- ---- events

event-kind-exact : (a b : EventKind) → same_event_kind a b ≡ true → a ≡ b
event-kind-exact (Declared a) (Declared b) same = ap Declared (eqb-true a b same)
event-kind-exact (Declared a) (Source b) same = absurd (false≢true same)
event-kind-exact (Declared a) (Arrival b c) same = absurd (false≢true same)
event-kind-exact (Source a) (Declared b) same = absurd (false≢true same)
event-kind-exact (Source a) (Source b) same = ap Source (eqb-true a b same)
event-kind-exact (Source a) (Arrival b c) same = absurd (false≢true same)
event-kind-exact (Arrival point type) (Declared b) same = absurd (false≢true same)
event-kind-exact (Arrival point type) (Source b) same = absurd (false≢true same)
event-kind-exact (Arrival point type) (Arrival other its) same = λ i. Arrival (eqb-true point other (first_so _ _ same) i) (eqb-true type its (second_so _ _ same) i)

event-kind-itself : (a : EventKind) → same_event_kind a a ≡ true
event-kind-itself (Declared a) = eq-eqb a a refl
event-kind-itself (Source a) = eq-eqb a a refl
event-kind-itself (Arrival point type) = both _ _ (eq-eqb point point refl) (eq-eqb type type refl)

pub event-exact : (a b : EventKey) → same_event a b ≡ true → a ≡ b
event-exact a b same =
    let owner = eqb-true a.owner b.owner (first_so _ _ same) in
    let kind = event-kind-exact a.kind b.kind (second_so _ _ same) in
    λ i. record { owner = owner i; kind = kind i }

pub event-itself : (a : EventKey) → same_event a a ≡ true
event-itself a = both _ _ (eq-eqb a.owner a.owner refl) (event-kind-itself a.kind)

pub event-agrees : (a b : EventKey) → same_event a b ≡ same_event b a
event-agrees = agrees same_event event-exact event-itself

pub event-alike : (key other : EventKey) → same_event key other ≡ true → (each : EventKey) → same_event other each ≡ same_event key each
event-alike key other same each = ap (λ event. same_event event each) (sym (event-exact key other same))

-- the derived test is the same
event-kind-by : (a b : EventKind) → event_kind_eq.it a b ≡ same_event_kind a b
event-kind-by (Declared a) (Declared a_b) = refl
event-kind-by (Declared a) (Source a_b) = refl
event-kind-by (Declared a) (Arrival point_b type_b) = refl
event-kind-by (Source a) (Declared a_b) = refl
event-kind-by (Source a) (Source a_b) = refl
event-kind-by (Source a) (Arrival point_b type_b) = refl
event-kind-by (Arrival point type) (Declared a_b) = refl
event-kind-by (Arrival point type) (Source a_b) = refl
event-kind-by (Arrival point type) (Arrival point_b type_b) = refl

pub event-by : event_eq.it ≡ same_event
event-by = λ i a b. nat_eq a.owner b.owner && event-kind-by a.kind b.kind i

-- ---- sides

pub side-exact : (a b : SideKey) → same_side_key a b ≡ true → a ≡ b
side-exact a b same =
    let component = eqb-true a.0 b.0 (first_so _ _ (first_so _ _ same)) in
    let point = eqb-true a.1 b.1 (second_so _ _ (first_so _ _ same)) in
    let outward = (booleans_Decides a.2 b.2).0 (second_so _ _ same) in
    λ i. (component i, point i, outward i)

pub side-itself : (a : SideKey) → same_side_key a a ≡ true
side-itself a = both _ _ (both _ _ (eq-eqb a.0 a.0 refl) (eq-eqb a.1 a.1 refl)) ((booleans_Decides a.2 a.2).1 refl)

pub side-agrees : (a b : SideKey) → same_side_key a b ≡ same_side_key b a
side-agrees = agrees same_side_key side-exact side-itself

pub side-alike : (key other : SideKey) → same_side_key key other ≡ true → (link : Link) → leads_into other link ≡ leads_into key link
side-alike key other same link = ap (λ side. leads_into side link) (sym (side-exact key other same))

-- ---- sides into which links lead

module _ (links : List Link) (i : ℕ) (link : Link) (within : i < length links) (is : link ≡ get_or links i link) (old new : SideKey → Bool) where
  abbrev pub side-of : SideKey
  side-of = (link.to.component, link.to.point, link.to.outward)

  one-more : (key : SideKey) (b : Bool) → same_side_key side-of key ≡ b → cond b true (old key) ≡ (old key || leads_into key link)
  one-more key true same = sym (ap (λ b. old key || b) (side-agrees key side-of ∙ same) ∙ or-true (old key))
  one-more key false apart = sym (ap (λ b. old key || b) (side-agrees key side-of ∙ apart) ∙ or-none (old key))

  -- the sides with that of one link more
  pub sides-more : KnowsSides (take i links) old → ((key : SideKey) → new key ≡ cond (same_side_key side-of key) true (old key)) → KnowsSides (take (i + 1) links) new
  sides-more knows put key =
      put key ∙ one-more key (same_side_key side-of key) refl ∙ ap (λ b. b || leads_into key link) (knows key) ∙ sym (any-more links i link within is (leads_into key))
