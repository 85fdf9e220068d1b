-- The names of facts and of events are plain.
use Rattle.std.proofs.Common.{ℕ, ◌≡◌, ◌≢◌, Bool, true, false, ◌||◌, not, inl, inr, List, [], ◌∷◌, ◌++◌, flat_map, slice_get, Option, Some, None, refl, sym, ap, ◌∙◌, subst}
use Rattle.std.specs.List.{AllByRecursion, concat, list_all}
use Rattle.std.specs.Option.{option_map_or}
use Rattle.std.specs.Prelude.{◌==◌, IsTrue, codes}
use Rattle.std.proofs.lemmas.Bool.{and_parts, eqb-true, false≢true}
use Rattle.std.proofs.lemmas.List.{append_assoc}
use Rattle.aadl_syntax.specs.Form.{Byte, One, Perhaps, ◌followed_by◌, is_digit, is_letter, is_letter_or_digit}
use Rattle.aadl_syntax.specs.inner.Token.{IsIdentifier}
use Rattle.error_libraries.specs.Printed.{TypeName, name_of, printed}
use Rattle.error_libraries.specs.inner.Printed.{AreIdentifiers}
use Rattle.propagation_points.specs.Points.{Point}
use Rattle.propagation_points.specs.States.{Sort, Variant, all_variants}
use Rattle.error_flows.specs.declared.meaning.FlowMeaning.{FlowMeaning}
use Rattle.error_flows.specs.declared.meaning.FlowMeaning.TheVariants as flow
use Rattle.instantiator.specs.declared.path.Component.{Component}
use Rattle.instantiator.proofs.Apart.{each-append, each-weaker}
use Rattle.error_models.specs.declared.model.ErrorModel.{ErrorModel}
use Rattle.model_facts.specs.Assembly.{Assembly, model_at}
use Rattle.model_facts.specs.Laws.{IsPlain, Lacks, is_name_byte, separators}
use Rattle.model_facts.specs.inner.Laws.{AreNamed, EventNamesArePlain, FactNamesArePlain, IsNamed, IsNamedFlow}
use Rattle.model_facts.specs.Names.{at_point, behind, in_braces, own_event_name, own_fact_name, path_at, point_name, source_name, type_text, variant_name, variant_text}
use Rattle.model_facts.specs.declared.keys.EventKind.{EventKind}
use Rattle.model_facts.specs.declared.keys.EventKind.TheVariants.{Declared, Source, Arrival}
use Rattle.model_facts.specs.declared.keys.FactKind.{FactKind}
use Rattle.model_facts.specs.declared.keys.FactKind.TheVariants.{State, Enters, Exits}
use Rattle.model_facts.proofs.RootLaws.{model-named}
use Rattle.model_facts.proofs.RowLaws.{each-at}
use Rattle.model_facts.proofs.TextLaws.{dotted}

-- ---- bytes

-- all bytes may stand in a name
abbrev AllName : List ℕ → Type 0
AllName text = AllByRecursion (λ byte. IsTrue (is_name_byte byte)) text

both-name : (a b : List ℕ) → AllName a → AllName b → AllName (a ++ b)
both-name = each-append (λ byte. IsTrue (is_name_byte byte))

-- a text that is written out
by-test : (text : List ℕ) → list_all is_name_byte text ≡ true → AllName text
by-test [] passes = tt
by-test (b ∷ text) passes = let parts = and_parts (is_name_byte b) (list_all is_name_byte text) passes in (parts.0, by-test text parts.1)

one-name : (class : ℕ → Bool) → ((b : ℕ) → class b ≡ true → is_name_byte b ≡ true) → (bytes : List ℕ) → One class bytes → AllName bytes
one-name class name [] so = absurd so
one-name class name (b ∷ []) so = (name b so, tt)
one-name class name (b ∷ c ∷ bytes) so = absurd so

either : (a b : Bool) → a ≡ true → (a || b) ≡ true
either true b is = refl
either false b is = absurd (false≢true is)

turned : (b : Bool) → not b ≡ true → b ≡ false
turned true is = sym is
turned false is = refl

letter-or-digit : (b : ℕ) → is_letter_or_digit b ≡ true → is_name_byte b ≡ true
letter-or-digit b is = either (is_letter_or_digit b) _ is

letter : (b : ℕ) → is_letter b ≡ true → is_name_byte b ≡ true
letter b is = letter-or-digit b (either (is_letter b) (is_digit b) is)

line : (b : ℕ) → (b == 95) ≡ true → is_name_byte b ≡ true
line b is = ap is_name_byte (eqb-true b 95 is)

parts-name : (parts : List (List ℕ)) → AllByRecursion (Perhaps (Byte 95) followed_by One is_letter_or_digit) parts → AllName (concat parts)
parts-name [] all = tt
parts-name (part ∷ parts) (first, rest) =
    let low : AllName first.front =
    elim first.first [
      | inl none ↦ subst AllName (sym none) tt
      | inr sign ↦ one-name (λ b. b == 95) line first.front sign
    ] in
    both-name part (concat parts) (subst AllName (sym first.whole) (both-name first.front first.back low (one-name is_letter_or_digit letter-or-digit first.back first.second))) (parts-name parts rest)

identifier-name : (text : List ℕ) → IsIdentifier text → AllName text
identifier-name text form =
    let word = form.word in
    subst AllName (sym word.whole)
    (both-name word.front word.back (one-name is_letter letter word.front word.first) (subst AllName (sym word.second.whole) (parts-name word.second.parts word.second.each)))

-- ---- parts of names

dotted-name : (path : List (List ℕ)) → AllByRecursion IsIdentifier path → AllName (dotted path)
dotted-name [] all = tt
dotted-name (name ∷ path) all = (refl, both-name name (dotted path) (identifier-name name all.0) (dotted-name path all.1))

library-name : (library : List (List ℕ)) → AllByRecursion IsIdentifier library → AllName (flat_map (λ identifier. identifier ++ codes "::") library)
library-name [] all = tt
library-name (name ∷ library) all =
    both-name (name ++ codes "::") (flat_map (λ identifier. identifier ++ codes "::") library) (both-name name (codes "::") (identifier-name name all.0) (by-test (codes "::") refl)) (library-name library all.1)

printed-name : (name : TypeName) → AreIdentifiers name → AllName (printed name)
printed-name name form = both-name (flat_map (λ identifier. identifier ++ codes "::") name.library) name.name (library-name name.library form.library) (identifier-name name.name form.name)

module _ (assembly : Assembly) (named : AreNamed assembly) where
  type-name : (n : ℕ) → AllName (type_text assembly.types n)
  type-name n = by (name_of assembly.types n) refl
    where
      by : (found : Option TypeName) → name_of assembly.types n ≡ found → AllName (option_map_or printed found [])
      by None is = tt
      by (Some name) is = printed-name name (named.types n name is)

  braces-name : (type : ℕ) → AllName (in_braces assembly.types type)
  braces-name type =
      both-name (codes "{") (type_text assembly.types type ++ codes "}") (by-test (codes "{") refl) (both-name (type_text assembly.types type) (codes "}") (type-name type) (by-test (codes "}") refl))

  variant-own : (variant : Variant) → IsIdentifier variant.name → (type : Option ℕ) → AllName (variant.name ++ option_map_or (in_braces assembly.types) type [])
  variant-own variant form None = both-name variant.name [] (identifier-name variant.name form) tt
  variant-own variant form (Some type) = both-name variant.name (in_braces assembly.types type) (identifier-name variant.name form) (braces-name type)

  variant-name : (sorts : List Sort) → AllByRecursion (λ variant. IsIdentifier variant.name) (all_variants sorts) → (n : ℕ) → AllName (variant_name assembly.types sorts n)
  variant-name sorts words n = by (slice_get (all_variants sorts) n) refl
    where
      by : (found : Option Variant) → slice_get (all_variants sorts) n ≡ found → AllName (option_map_or (variant_text assembly.types) found [])
      by None at = tt
      by (Some variant) at = variant-own variant (each-at (λ (variant : Variant). IsIdentifier variant.name) (all_variants sorts) n variant words at) variant.type

  path-name : (n : ℕ) → AllName (dotted (path_at assembly n))
  path-name n = by (slice_get assembly.instance.components n) refl
    where
      by : (found : Option Component) → slice_get assembly.instance.components n ≡ found → AllName (dotted (option_map_or (λ component. component.path) found []))
      by None at = tt
      by (Some component) at = dotted-name component.path (each-at (λ (component : Component). AllByRecursion IsIdentifier component.path) assembly.instance.components n component named.paths at)

  module _ (model : ErrorModel) (so : IsNamed model) where
    point-name : (n : ℕ) → AllName (point_name model n)
    point-name n = by (slice_get model.points n) refl
      where
        by : (found : Option Point) → slice_get model.points n ≡ found → AllName (option_map_or (λ point. point.name) found [])
        by None at = tt
        by (Some point) at = identifier-name point.name (each-at (λ (point : Point). IsIdentifier point.name) model.points n point so.points at)

    at-name : (point type : ℕ) → AllName (at_point assembly.types model point type)
    at-name point type = both-name (point_name model point) (in_braces assembly.types type) (point-name point) (braces-name type)

    flow-name : (one : FlowMeaning) → IsNamedFlow one → AllName (source_name (Some one))
    flow-name (flow.Event name reached) is = identifier-name name is
    flow-name (flow.State state reached) is = tt
    flow-name (flow.Carry start point) is = tt
    flow-name (flow.Change start point types) is = tt

    source-name : (n : ℕ) → AllName (source_name (slice_get model.flows n))
    source-name n = by (slice_get model.flows n) refl
      where
        by : (found : Option FlowMeaning) → slice_get model.flows n ≡ found → AllName (source_name found)
        by None at = tt
        by (Some one) at = flow-name one (each-at IsNamedFlow model.flows n one so.flows at)

    fact-own : (kind : FactKind) → AllName (own_fact_name assembly.types model kind)
    fact-own (State state) = both-name (codes "state:") (variant_name assembly.types model.states.sorts state) (by-test (codes "state:") refl) (variant-name model.states.sorts so.states state)
    fact-own (Enters point type) = both-name (codes "in:") (at_point assembly.types model point type) (by-test (codes "in:") refl) (at-name point type)
    fact-own (Exits point type) = both-name (codes "out:") (at_point assembly.types model point type) (by-test (codes "out:") refl) (at-name point type)

    event-own : (kind : EventKind) → AllName (own_event_name assembly.types model kind)
    event-own (Declared event) = variant-name model.behavior.events so.events event
    event-own (Source number) = both-name (codes "source:") (source_name (slice_get model.flows number)) (by-test (codes "source:") refl) (source-name number)
    event-own (Arrival point type) = both-name (codes "in:") (at_point assembly.types model point type) (by-test (codes "in:") refl) (at-name point type)

  -- ---- names

  lacks : (name : List ℕ) → AllName name → (byte : ℕ) → is_name_byte byte ≡ false → Lacks byte name
  lacks name all byte not = each-weaker (λ other. IsTrue (is_name_byte other)) (λ other. other ≢ byte) (λ other is same. false≢true (sym not ∙ ap is_name_byte (sym same) ∙ is)) name all

  all-lack : (name : List ℕ) → AllName name → (bytes : List ℕ) → list_all (λ byte. not (is_name_byte byte)) bytes ≡ true → AllByRecursion (λ byte. Lacks byte name) bytes
  all-lack name all [] none = tt
  all-lack name all (byte ∷ bytes) none =
      let parts = and_parts (not (is_name_byte byte)) (list_all (λ byte. not (is_name_byte byte)) bytes) none in
      (lacks name all byte (turned (is_name_byte byte) parts.0), all-lack name all bytes parts.1)

  behind-plain : (owner : ℕ) (own : List ℕ) → AllName own → IsPlain (behind assembly owner own)
  behind-plain owner own all =
      let path = dotted (path_at assembly owner) in
      let name = behind assembly owner own in
      let bytes : AllName name = both-name (codes "root" ++ path) (codes "/" ++ own) (both-name (codes "root") path (by-test (codes "root") refl) (path-name owner)) (both-name (codes "/") own (by-test (codes "/") refl) all) in
      record {
        rest = path ++ (codes "/" ++ own);
        begins = append_assoc (codes "root") path (codes "/" ++ own);
        bytes = bytes;
        plain = all-lack name bytes separators refl;
      }

pub facts-plain : (assembly : Assembly) → FactNamesArePlain assembly
facts-plain assembly named fact = behind-plain assembly named fact.owner (own_fact_name assembly.types (model_at assembly fact.owner) fact.kind) (fact-own assembly named (model_at assembly fact.owner) (model-named assembly named fact.owner) fact.kind)

pub events-plain : (assembly : Assembly) → EventNamesArePlain assembly
events-plain assembly named event = behind-plain assembly named event.owner (own_event_name assembly.types (model_at assembly event.owner) event.kind) (event-own assembly named (model_at assembly event.owner) (model-named assembly named event.owner) event.kind)
