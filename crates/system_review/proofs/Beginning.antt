-- An event makes a fact hold alone exactly where it begins one: where a formula that is false without any is true with it.
use Rattle.std.proofs.Common.{ℕ, zero, suc, ◌+◌, ◌≡◌, ◌<◌, Bool, true, false, ◌&&◌, ◌||◌, List, [], ◌∷◌, length, map, take, get_or, ap, ◌∙◌, sym, refl, subst, arith, add-one}
use Rattle.std.proofs.lemmas.Bool.{false≢true, and_from, and_parts, eqb-true, or_parts}
use Rattle.std.specs.List.{list_any}
use Rattle.fault_system.specs.Truth.{NumberSet, Has, member, occurs_event, truth}
use Rattle.fault_system.specs.Systems.{System, Holds, IsClosed, IsFact, IsSystem, applied, holds_of}
use Rattle.fault_system.specs.Rounds.{no_event, only}
use Rattle.fault_system.specs.declared.formula.FactInfo.{FactInfo}
use Rattle.fault_system.specs.declared.formula.Formula.{Formula}
use Rattle.fault_system.specs.declared.formula.Formula.TheVariants.{Or}
use Rattle.fault_system.proofs.HoldsLaws.{holds_of-exact, holds_of-fixed}
use Rattle.fault_system.proofs.Occurrences.{occurs_event-in_range, fact-in_range}
use Rattle.fault_system.proofs.Occurring.{truth-grows, truth-same}
use Rattle.fault_system.proofs.TruthLaws.{same_answer, truth-Or}
use Rattle.system_review.specs.Single.{IsSingleEvent}
use Rattle.system_review.specs.inner.Single.{Begins}
use Rattle.system_review.proofs.More.{applied-fact, applied-is}

-- ---- parts

or_none : (b : Bool) → b || false ≡ b
or_none true = refl
or_none false = refl

pub or-assoc : (a b c : Bool) → (a || b) || c ≡ a || (b || c)
or-assoc true b c = refl
or-assoc false b c = refl

-- each part is false where none is true
pub part-false : {X : Type 0} (f : X → Bool) (xs : List X) (i : ℕ) (x : X) → i < length xs → x ≡ get_or xs i x → list_any (λ part. part) (map f xs) ≡ false → f x ≡ false
part-false f [] i x within is none = absurd (omega arith)
part-false f (y ∷ ys) zero x within is none = ap f is ∙ (or_parts (f y) (list_any (λ part. part) (map f ys)) none).0
part-false f (y ∷ ys) (suc i) x within is none = part-false f ys i x (omega arith) is (or_parts (f y) (list_any (λ part. part) (map f ys)) none).1

part-next : {X : Type 0} (f : X → Bool) (xs : List X) (i : ℕ) (x : X) → i < length xs → x ≡ get_or xs i x → list_any (λ part. part) (map f (take (suc i) xs)) ≡ list_any (λ part. part) (map f (take i xs)) || f x
part-next f [] i x within is = absurd (omega arith)
part-next f (y ∷ ys) zero x within is = or_none (f y) ∙ ap f (sym is)
part-next f (y ∷ ys) (suc i) x within is =
    ap (λ b. f y || b) (part-next f ys i x (omega arith) is) ∙ sym (or-assoc (f y) (list_any (λ part. part) (map f (take i ys))) (f x))

-- a part more
pub part-more : {X : Type 0} (f : X → Bool) (xs : List X) (i : ℕ) (x : X) → i < length xs → x ≡ get_or xs i x → list_any (λ part. part) (map f (take (i + 1) xs)) ≡ list_any (λ part. part) (map f (take i xs)) || f x
part-more f xs i x within is = ap (λ k. list_any (λ part. part) (map f (take k xs))) (add-one i) ∙ part-next f xs i x within is

-- ---- formulas

-- one of the parts as they are read is true where the whole is
pub any-of : (events facts : NumberSet) (formula : Formula) (parts read : List Formula) → formula ≡ Or parts → read ≡ parts → list_any (λ part. part) (map (truth events facts) read) ≡ truth events facts formula
any-of events facts formula parts read is same =
    ap (λ ps. list_any (λ part. part) (map (truth events facts) ps)) same ∙ sym (truth-Or events facts parts) ∙ sym (ap (truth events facts) is)

module _ (facts : NumberSet) (event : ℕ) (formula : Formula) where
  -- whether an event that does not occur is there makes no difference
  others : occurs_event event formula ≡ false → (n : ℕ) → occurs_event n formula ≡ true → only event n ≡ no_event n
  others none n o = by (only event n) refl
    where
      by : (b : Bool) → only event n ≡ b → b ≡ no_event n
      by true is = absurd (false≢true (sym none ∙ sym (ap (λ k. occurs_event k formula) (eqb-true n event is)) ∙ o))
      by false is = refl

  -- a formula that an event alone makes true has it
  pub needed : truth no_event facts formula ≡ false → truth (only event) facts formula ≡ true → occurs_event event formula ≡ true
  needed lacks makes = by (occurs_event event formula) refl
    where
      by : (b : Bool) → occurs_event event formula ≡ b → b ≡ true
      by true is = refl
      by false is = absurd (false≢true (sym lacks ∙ sym (truth-same (only event) no_event facts facts formula (others is) (λ n o. refl)) ∙ makes))

  -- so it is enough to try those that occur
  pub tried-all : truth no_event facts formula ≡ false → (occurs_event event formula && truth (only event) facts formula) ≡ truth (only event) facts formula
  tried-all lacks = same_answer _ _
      (λ both. (and_parts (occurs_event event formula) (truth (only event) facts formula) both).1)
      (λ makes. and_from _ _ (needed lacks makes) makes)

-- ---- systems

module _ (system : System) (marks : List Bool) (are : marks ≡ holds_of system no_event) where
  -- the formula of a fact that does not hold without any event is false then
  pub lacks-false : (n : ℕ) (fact : FactInfo) → IsFact system n fact → member marks n ≡ false → truth no_event (member marks) fact.formula ≡ false
  lacks-false n fact at none =
      sym (applied-is system no_event (member marks) n fact at)
      ∙ subst (λ (held : List Bool). member (applied system no_event (member held)) n ≡ member held n) (sym are) (ap (λ (held : List Bool). member held n) (sym (holds_of-fixed system no_event)))
      ∙ none

  -- what holds without any event holds in each set that is closed with one
  held-in : (event : ℕ) (facts : NumberSet) → IsClosed system (only event) facts → (n : ℕ) → Has (member marks) n → Has facts n
  held-in event facts closed n has =
      (holds_of-exact system no_event n).0 (subst (λ (held : List Bool). Has (member held) n) are has) facts
      (λ m h.
      let there = applied-fact system no_event facts m h in
      closed m (applied-is system (only event) facts m there.0 there.1
      ∙ truth-grows no_event (only event) facts facts (λ k none. absurd (false≢true none)) (λ k in_it. in_it) there.0.formula
      (sym (applied-is system no_event facts m there.0 there.1) ∙ h)))

  -- an event that begins a fact makes it hold alone
  pub begins-single : (event : ℕ) → Begins system (member marks) event → IsSingleEvent system event
  begins-single event (n, fact, at, none, makes) = (
    n,
    (λ facts closed. closed n (applied-is system (only event) facts n fact at
        ∙ truth-grows (only event) (only event) (member marks) facts (λ k h. h) (held-in event facts closed) fact.formula makes)),
    (λ holds. false≢true (sym none ∙ subst (λ (held : List Bool). Has (member held) n) (sym are) ((holds_of-exact system no_event n).1 holds))),
  )

  -- one that begins none does not
  none-single : (event : ℕ) → ((n : ℕ) (fact : FactInfo) → IsFact system n fact → member marks n ≡ false → truth (only event) (member marks) fact.formula ≡ true → ⊥) → IsSingleEvent system event → ⊥
  none-single event begins (n, holds, none) =
      none ((holds_of-exact system no_event n).0 (subst (λ (held : List Bool). Has (member held) n) are (holds (member marks) closed)))
    where
      by : (m : ℕ) → Has (member (applied system (only event) (member marks))) m → (b : Bool) → member marks m ≡ b → b ≡ true
      by m h true is = refl
      by m h false is =
          let there = applied-fact system (only event) (member marks) m h in
          absurd (begins m there.0 there.1 is (sym (applied-is system (only event) (member marks) m there.0 there.1) ∙ h))

      closed : IsClosed system (only event) (member marks)
      closed m h = by m h (member marks m) refl

  -- an event that begins a fact is one of the system
  begun-in : IsSystem system → (event n : ℕ) (fact : FactInfo) → IsFact system n fact → member marks n ≡ false → truth (only event) (member marks) fact.formula ≡ true → event < length system.events
  begun-in is event n fact at none makes =
      occurs_event-in_range _ _ event fact.formula (fact-in_range system is n fact at) (needed (member marks) event fact.formula (lacks-false n fact at none) makes)

  -- where all that begin a fact are found, all that make one hold alone are
  pub single-found : IsSystem system → (found : NumberSet) → ((n event : ℕ) (fact : FactInfo) → IsFact system n fact → event < length system.events → member marks n ≡ false
      → truth (only event) (member marks) fact.formula ≡ true → Has found event) → (event : ℕ) → IsSingleEvent system event → Has found event
  single-found is found done event single = by (found event) refl
    where
      by : (b : Bool) → found event ≡ b → b ≡ true
      by true e = refl
      by false e = absurd (none-single event
          (λ n fact at none makes. false≢true (sym e ∙ done n event fact at (begun-in is event n fact at none makes) none makes)) single)
