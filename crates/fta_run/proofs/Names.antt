-- What the plain names of a system are good for.
use Rattle.std.proofs.Common.{◌≡◌, ◌≢◌, ◌<◌, ◌==◌, ℕ, zero, suc, true, List, [], ◌∷◌, ◌++◌, codes, length, map, Result, Ok, Err, IfOk, Contains, refl, sym, ap, subst, ◌∙◌, arith}
use Rattle.std.specs.List.{AllByRecursion, list_all}
use Rattle.std.proofs.lemmas.Bool.{eqb-true, false_from_ne_true}
use Rattle.std.proofs.lemmas.List.Elements.{All-weaker, recursion_from_All}
use Rattle.derivations.specs.Text.{event_names, fact_names, name_at}
use Rattle.derivations.specs.inner.Text.{AreLineNames, is_line_name, is_plain}
use Rattle.plain_values.specs.declared.name.Root.{Root}
use Rattle.fault_system.specs.Systems.{System}
use Rattle.fault_system.specs.declared.formula.EventInfo.{EventInfo}
use Rattle.fault_system.specs.declared.formula.FactInfo.{FactInfo}
use Rattle.fault_system.proofs.Elements.{In-contains, each-at}
use Rattle.cutset_lister.specs.inner.SetText.{HasTokenNames, IsTokenName}
use Rattle.galileo_writer.specs.Galileo.{IsPlainName}
use Rattle.fmea_rows.specs.inner.Text.{HasFieldNames, IsPlainField}
use Rattle.galileo_writer.specs.inner.TreeText.{AreRates, HasTextNames}
use Rattle.phases.specs.inner.Meets.{Meets}
use Rattle.phases.specs.Phases.{Passed}
use Rattle.phases.specs.declared.status.Status.{Status}
use Rattle.model_facts.specs.Laws.{IsPlain, Lacks}
use Rattle.model_phases.specs.Named.{IsPlainModel, IsPlainSystem}
use Rattle.model_phases.specs.declared.flat.FlatModel.{FlatModel}
use Rattle.profiles.specs.declared.profile.Profile.{Profile}
use Rattle.fta_run.specs.Due.{made_of_texts, model_of_texts}
use Rattle.model_phases.specs.declared.events.EventModel.{EventModel}
use Rattle.sheet_model.specs.Phase.{sheet_phase}
use Rattle.sheet_model.specs.declared.model.SheetModel.{SheetModel}

-- a byte that a text lacks is not in it
lacks : (byte : ℕ) (text : List ℕ) → Lacks byte text → Contains text byte → ⊥
lacks byte text none here = each-at (λ other. other ≢ byte) byte text none (In-contains byte text here) (λ i. byte)

-- the separators that a plain name lacks
no_line_feed : (name : List ℕ) → IsPlain name → Contains name 10 → ⊥
no_line_feed name plain = lacks 10 name plain.plain.1.0

no_quote : (name : List ℕ) → IsPlain name → Contains name 34 → ⊥
no_quote name plain = lacks 34 name plain.plain.1.1.1.1.0

no_return : (name : List ℕ) → IsPlain name → Contains name 13 → ⊥
no_return name plain = lacks 13 name plain.plain.1.1.0

no_comma : (name : List ℕ) → IsPlain name → Contains name 44 → ⊥
no_comma name plain = lacks 44 name plain.plain.1.1.1.1.1.1.0

no_plus : (name : List ℕ) → IsPlain name → Contains name 43 → ⊥
no_plus name plain = lacks 43 name plain.plain.1.1.1.1.1.0

no_at : (name : List ℕ) → IsPlain name → Contains name 64 → ⊥
no_at name plain = lacks 64 name plain.plain.1.1.1.1.1.1.1.0

-- a plain name is not empty, and not `none`
not_empty : (name : List ℕ) → IsPlain name → name ≢ []
not_empty name plain is = let never : codes "root" ++ plain.rest ≡ [] = sym plain.begins ∙ is in cc

not_none : (name : List ℕ) → IsPlain name → name ≢ codes "none"
not_none name plain is = let same : 114 ∷ (111 ∷ (111 ∷ (116 ∷ plain.rest))) ≡ codes "none" = sym plain.begins ∙ is in let first : ◌≡◌ {A = ℕ} 114 110 = cc in omega (arith, first)

pub token_names : (system : System) → IsPlainSystem system → HasTokenNames system
token_names system plain = All-weaker (λ (event : EventInfo). IsPlain event.name) (λ (event : EventInfo). IsTokenName event.name) (λ event is. (not_none event.name is, no_plus event.name is)) system.events plain.event_names

text_name : (name : List ℕ) → IsPlain name → IsPlainName name
text_name name plain = record { some = not_empty name plain; no_quote = no_quote name plain; no_line_feed = no_line_feed name plain }

pub text_names : (system : System) → IsPlainSystem system → HasTextNames system
text_names system plain = record {
  facts = All-weaker (λ (fact : FactInfo). IsPlain fact.name) (λ (fact : FactInfo). IsPlainName fact.name) (λ fact is. text_name fact.name is) system.facts plain.fact_names;
  events = All-weaker (λ (event : EventInfo). IsPlain event.name) (λ (event : EventInfo). IsPlainName event.name) (λ event is. text_name event.name is) system.events plain.event_names;
  no_at = All-weaker (λ (event : EventInfo). IsPlain event.name) (λ (event : EventInfo). Contains event.name 64 → ⊥) (λ event is. no_at event.name is) system.events plain.event_names;
}

field_name : (name : List ℕ) → IsPlain name → IsPlainField name
field_name name plain = record { no_comma = no_comma name plain; no_quote = no_quote name plain; no_line_feed = no_line_feed name plain; no_return = no_return name plain }

pub field_names : (system : System) → IsPlainSystem system → HasFieldNames system
field_names system plain = record {
  facts = All-weaker (λ (fact : FactInfo). IsPlain fact.name) (λ (fact : FactInfo). IsPlainField fact.name) (λ fact is. field_name fact.name is) system.facts plain.fact_names;
  events = All-weaker (λ (event : EventInfo). IsPlain event.name) (λ (event : EventInfo). IsPlainField event.name) (λ event is. field_name event.name is) system.events plain.event_names;
}

pub model_text_names : (model : FlatModel) → IsPlainModel model → HasTextNames model.system
model_text_names model plain = text_names model.system plain.system

pub model_token_names : (model : FlatModel) → IsPlainModel model → HasTokenNames model.system
model_token_names model plain = token_names model.system plain.system

pub model_field_names : (model : FlatModel) → IsPlainModel model → HasFieldNames model.system
model_field_names model plain = field_names model.system plain.system

pub model_system : (model : FlatModel) → IsPlainModel model → IsPlainSystem model.system
model_system model plain = plain.system

pub model_rates : (model : FlatModel) → IsPlainModel model → AreRates model.system model.rates
model_rates model plain = record { each = plain.each; numbers = plain.numbers }

-- ---- names that may stand in a line of a derivation

line_byte : (byte : ℕ) → byte ≢ 32 → byte ≢ 10 → is_plain byte ≡ true
line_byte byte not_blank not_end =
    rw (false_from_ne_true (byte == 32) (λ same. not_blank (eqb-true byte 32 same)), false_from_ne_true (byte == 10) (λ same. not_end (eqb-true byte 10 same))) refl

line_bytes : (text : List ℕ) → Lacks 32 text → Lacks 10 text → list_all is_plain text ≡ true
line_bytes [] no_blank no_end = refl
line_bytes (byte ∷ bytes) no_blank no_end = rw (line_byte byte no_blank.0 no_end.0) (line_bytes bytes no_blank.1 no_end.1)

-- a name that begins with `r`
begins_so : (rest : List ℕ) → list_all is_plain (codes "root" ++ rest) ≡ true → is_line_name (codes "root" ++ rest) ≡ true
begins_so rest plain = plain

line_name : (name : List ℕ) → IsPlain name → is_line_name name ≡ true
line_name name plain =
    let bytes = line_bytes name plain.plain.1.1.1.0 plain.plain.1.0 in
    subst (λ its. is_line_name its ≡ true) (sym plain.begins) (begins_so plain.rest (subst (λ its. list_all is_plain its ≡ true) plain.begins bytes))

line_name_at : {X : Type 0} (name_of : X → List ℕ) (xs : List X) (n : ℕ) → AllByRecursion (λ x. IsPlain (name_of x)) xs → n < length (map name_of xs) → is_line_name (name_at (map name_of xs) n) ≡ true
line_name_at name_of [] n plain within = absurd (omega (arith, within))
line_name_at name_of (x ∷ xs) zero plain within = line_name (name_of x) plain.0
line_name_at name_of (x ∷ xs) (suc n) plain within = line_name_at name_of xs n plain.1 (omega (arith, within))

pub fact_line_names : (system : System) → IsPlainSystem system → AreLineNames (fact_names system)
fact_line_names system plain = λ n within. line_name_at (λ (fact : FactInfo). fact.name) system.facts n (recursion_from_All (λ (fact : FactInfo). IsPlain fact.name) system.facts plain.fact_names) within

pub event_line_names : (system : System) → IsPlainSystem system → AreLineNames (event_names system)
event_line_names system plain = λ n within. line_name_at (λ (event : EventInfo). event.name) system.events n (recursion_from_All (λ (event : EventInfo). IsPlain event.name) system.events plain.event_names) within

-- the model of a root is plain
pub plain_model : (profile : Profile) (root : Root) (texts : List (List ℕ)) (model : FlatModel) → Passed (model_of_texts profile root texts) model → IsPlainModel model
plain_model profile root texts model at = at.2.2.2.2.2.2.2.plain

pub plain_texts : (profile : Profile) (root : Root) (texts : List (List ℕ)) (result : Result FlatModel Status) → Meets (model_of_texts profile root texts) result → IfOk result IsPlainModel
plain_texts profile root texts (Ok model) passes = plain_model profile root texts model passes.passed
plain_texts profile root texts (Err status) end = tt

-- and so it is where it is made with what a sheet tells
plain_sheet : (profile : Profile) (root : Root) (texts : List (List ℕ)) (model : SheetModel) → Passed (made_of_texts sheet_phase profile root texts) model → IsPlainModel model.events.flat
plain_sheet profile root texts model at =
    let made = at.2.2.2.2.2.2.2 in
    subst IsPlainModel (sym (ap (λ (sheet : SheetModel). sheet.events.flat) made.2 ∙ ap (λ (events : EventModel). events.flat) made.1.2)) made.1.1.plain

pub plain_sheets : (profile : Profile) (root : Root) (texts : List (List ℕ)) (result : Result SheetModel Status) → Meets (made_of_texts sheet_phase profile root texts) result → IfOk result (λ model. IsPlainModel model.events.flat)
plain_sheets profile root texts (Ok model) passes = plain_sheet profile root texts model passes.passed
plain_sheets profile root texts (Err status) end = tt
