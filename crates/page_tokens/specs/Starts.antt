-- Where a page begins, by the text of a token.
use Rattle.std.specs.Prelude.{ℕ, ◌≡◌, ◌≢◌, IsSome, List, codes, Option, None, Some}
use Rattle.plain_values.specs.declared.refusal.Code.TheVariants.{BadToken}
use Rattle.plain_values.specs.declared.refusal.Refusal.{Refusal}
use Rattle.plain_values.specs.Refusal.{of_words}
use Rattle.phases.specs.Phases.{Phase, tells, rejects, ◌>>=◌}
use Rattle.phases.specs.declared.status.Status.{Status}
use Rattle.phases.specs.declared.status.Status.TheVariants.{StaleToken}
use Rattle.fault_system.specs.Systems.{System}
use Rattle.cutset_lister.specs.SetText.{IsSetOfText, set_text}
use Rattle.page_tokens.specs.Forms.{IsMalformed, IsToken, Said}

-- the text that says where a page begins: that of the set behind which it does, or `start`
abbrev pub start_text : System → Option (List ℕ) → List ℕ
start_text system None = codes "start"
start_text system (Some set) = set_text system set

-- The digits that a token says, if it says some, are those of this key.
abbrev pub IsFresh : List ℕ → Option (List ℕ) → Type 0
IsFresh key None = Unit {0}
IsFresh key (Some digits) = digits ≡ key

-- K2: they are other digits.
abbrev pub IsStale : List ℕ → Option (List ℕ) → Status → Type 0
IsStale key None status = ⊥
IsStale key (Some digits) status = (digits ≢ key) × (status ≡ StaleToken digits key)

-- The page begins before all sets where a token of the second version says `start`.
abbrev pub SaysStart : Said → Type 0
SaysStart said = IsSome said.digits × (said.rest ≡ codes "start")

-- Else it begins behind the set that has the text.
abbrev pub IsStart : System → Said → Option (List ℕ) → Type 0
IsStart system said None = SaysStart said
IsStart system said (Some set) = (SaysStart said → ⊥) × IsSetOfText system said.rest set

-- K1 of the rest: no page begins there.
abbrev pub LacksStart : System → Said → Refusal → Type 0
LacksStart system said refusal = ((start : Option (List ℕ)) → IsStart system said start → ⊥) × (refusal ≡ of_words BadToken)

-- what a text says as a token
abbrev pub token_of : List ℕ → Phase Said
token_of text = rejects (IsToken text) (IsMalformed text)

-- the token is one of this key
abbrev pub fresh : List ℕ → Said → Phase (Unit {0})
fresh key said = tells (λ _. IsFresh key said.digits) (IsStale key said.digits)

-- where the page begins for which the token asks
abbrev pub start_in : Said → System → Phase (Option (List ℕ))
start_in said system = rejects (IsStart system said) (LacksStart system said)

-- the set behind which a page begins by the text of a token, where this is the key of what it is asked of; none where it begins
-- before all sets
abbrev pub page_start : List ℕ → List ℕ → System → Phase (Option (List ℕ))
page_start key text system = do
  said ← token_of text
  _ ← fresh key said
  start_in said system
