-- The text of a token tells one start of a page, or one reason why there is none.
use Rattle.std.proofs.Common.{◌≡◌, ℕ, false, List, Option, Some, None, refl, sym, ap, subst, ◌∙◌, inl, inr}
use Rattle.std.proofs.lemmas.Bool.{false≢true}
use Rattle.plain_values.specs.declared.refusal.Refusal.{Refusal}
use Rattle.fault_system.specs.Systems.{IsSystem, System}
use Rattle.cutset_lister.specs.inner.SetText.{HasTokenNames}
use Rattle.cutset_lister.proofs.Scans.{one-set}
use Rattle.phases.specs.Phases.{Passes, Stops}
use Rattle.phases.specs.inner.Phases.{IsDecided, IsDecidedStep}
use Rattle.phases.specs.declared.status.Status.{Status}
use Rattle.phases.specs.declared.status.Status.TheVariants.{Refused}
use Rattle.phases.proofs.Leaves.{decided_rejects}
use Rattle.page_tokens.specs.Forms.{IsMalformed, IsToken, Said, Says, begins_new}
use Rattle.page_tokens.specs.Starts.{IsFresh, IsStale, IsStart, LacksStart, page_start}
use Rattle.page_tokens.proofs.Forms.{begins, one_said, said_or_malformed}

one_start : (system : System) (said : Said) → IsSystem system → HasTokenNames system → (a b : Option (List ℕ)) → IsStart system said a → IsStart system said b → a ≡ b
one_start system said is names None None x y = refl
one_start system said is names None (Some b) x y = absurd (y.0 x)
one_start system said is names (Some a) None x y = absurd (x.0 y)
one_start system said is names (Some a) (Some b) x y = ap (λ (set : List ℕ). Some set) (one-set system said.rest a b is names x.1 y.1)

fresh_or_stale : (key : List ℕ) (digits : Option (List ℕ)) (status : Status) → IsFresh key digits → IsStale key digits status → ⊥
fresh_or_stale key None status is stale = stale
fresh_or_stale key (Some digits) status is stale = stale.0 is

one_stale : (key : List ℕ) (digits : Option (List ℕ)) (a b : Status) → IsStale key digits a → IsStale key digits b → a ≡ b
one_stale key None a b x y = absurd x
one_stale key (Some digits) a b x y = x.1 ∙ sym y.1

-- of a text of the first version the key decides nothing
fresh_so : (key text : List ℕ) (digits : Option (List ℕ)) (rest : List ℕ) → begins_new text ≡ false → Says text digits rest → IsFresh key digits
fresh_so key text None rest old says = tt
fresh_so key text (Some digits) rest old says = absurd (false≢true (sym old ∙ begins text digits rest says.0))

not_stale : (key text : List ℕ) (digits : Option (List ℕ)) (rest : List ℕ) (status : Status) → begins_new text ≡ false → Says text digits rest → IsStale key digits status → ⊥
not_stale key text None rest status old says stale = stale
not_stale key text (Some digits) rest status old says stale = false≢true (sym old ∙ begins text digits rest says.0)

pub starts_so : (key other text : List ℕ) (system : System) (start : Option (List ℕ)) → begins_new text ≡ false → Passes (page_start key text system) start → Passes (page_start other text system) start
starts_so key other text system start old passes =
    let p = passes.passed in
    record { passed = (p.0, p.1, (tt, fresh_so other text p.0.digits p.0.rest old p.1, p.2.2)) }

pub stops_so : (key other text : List ℕ) (system : System) (status : Status) → begins_new text ≡ false → Stops (page_start key text system) status → Stops (page_start other text system) status
stops_so key other text system status old stops =
    record {
      stopped = elim stops.stopped [
        | inl malformed ↦ inl malformed
        | inr later ↦ elim later.2 [
          | inl stale ↦ absurd (not_stale key text later.0.digits later.0.rest status old later.1 stale)
          | inr lacks ↦ inr (later.0, later.1, inr (tt, fresh_so other text later.0.digits later.0.rest old later.1, lacks.2))
        ]
      ];
    }

-- texts are decided up to what is the same of statuses
module _ (Same : Status → Status → Type 0) (itself : (status : Status) → Same status status) where
  same_refusal : (a b : Refusal) → a ≡ b → Same (Refused a) (Refused b)
  same_refusal a b is = subst (λ r. Same (Refused a) (Refused r)) is (itself (Refused a))

  fresh_decided : (key : List ℕ) (said : Said) → IsDecidedStep {A = Unit {0}} Same (λ _. IsFresh key said.digits) (IsStale key said.digits)
  fresh_decided key said = record {
    one_value = λ a b x y. refl;
    apart = λ a status x y. fresh_or_stale key said.digits status x y;
    one_stop = λ a b x y. subst (Same a) (one_stale key said.digits a b x y) (itself a);
  }

  pub page_start_decided : (key text : List ℕ) (system : System) → IsSystem system → HasTokenNames system → IsDecided Same (page_start key text system)
  page_start_decided key text system is names = (
    decided_rejects Same (IsToken text) (IsMalformed text) (one_said text) (said_or_malformed text) (λ a b x y. same_refusal a b (x.refusal_is ∙ sym y.refusal_is)),
    λ said says. (
      fresh_decided key said,
      λ _ fresh. decided_rejects Same (IsStart system said) (LacksStart system said) (one_start system said is names) (λ start refusal begins lacks. lacks.0 start begins) (λ a b x y. same_refusal a b (x.1 ∙ sym y.1)),
    ),
  )
