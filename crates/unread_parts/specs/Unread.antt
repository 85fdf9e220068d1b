-- What stands in the text of a model and is not looked at, though errors may depend on it: members and bindings that stand in modes,
-- bindings that are not read, and rates in core text (AADL: modes, deployment properties; EMV2: `OccurrenceDistribution`). Each with its place.
use Rattle.std.specs.Prelude.{ℕ, suc, ◌-◌, Bool, true, false, cond, ◌&&◌, ◌||◌, not, List, [], ◌∷◌, ◌++◌, codes, drop, flat_map, length, map, slice_get, Option, Some, None}
use Rattle.std.specs.Option.{option_map_or}
use Rattle.aadl_syntax.specs.declared.core_model.Binding.{Binding}
use Rattle.aadl_syntax.specs.declared.core_model.BindingKind.{BindingKind}
use Rattle.aadl_syntax.specs.declared.core_model.BindingKind.TheVariants.{Connection as OfConnection, Function, Memory, Processor}
use Rattle.aadl_syntax.specs.declared.core_model.Connection.{Connection}
use Rattle.aadl_syntax.specs.declared.core_model.Decl.{Decl}
use Rattle.aadl_syntax.specs.declared.core_model.PackageUnit.{PackageUnit}
use Rattle.aadl_syntax.specs.declared.core_model.Subcomponent.{Subcomponent}
use Rattle.aadl_syntax.specs.declared.token.Token.{Token}
use Rattle.aadl_syntax.specs.declared.token.TokenKind.{TokenKind}
use Rattle.aadl_syntax.specs.declared.token.TokenKind.TheVariants.{AnnexRaw, Text}
use Rattle.plain_values.specs.Name.{is_same_text}
use Rattle.plain_values.specs.Numbered.{numbered_from}
use Rattle.plain_values.specs.declared.spot.Spot.{Spot}
use Rattle.profiles.specs.declared.profile.Profile.{Profile}
use Rattle.profiles.specs.Profiles.{is_first}
use Rattle.grammar_rules.specs.Rules.{Rule, chooses, gives, ◌>>=◌}
use Rattle.grammar_rules.specs.Running.{Outcome, read, dead, run}
use Rattle.grammar_rules.specs.Spans.{until}
use Rattle.grammar_rules.specs.Tokens.{identifier, is_sign, is_word, sign, word}
use Rattle.bindings.specs.Bindings.{piece_binding}
use Rattle.bindings.specs.Pieces.{behind_brace, section_pieces}
use Rattle.component_extension.specs.Items.{classes_of}
use Rattle.component_extension.specs.Members.{Class, Member}
use Rattle.component_extension.specs.declared.effective.Effective.{Effective}
use Rattle.instantiator.specs.declared.path.Component.{Component}
use Rattle.instantiator.specs.Whole.{Instance, effective_in}
use Rattle.unread_parts.specs.declared.unread.Part.{Part}
use Rattle.unread_parts.specs.declared.unread.What.{What}
use Rattle.unread_parts.specs.declared.unread.What.TheVariants.{InModes, Rates, Unread}

-- ---- modes

-- a run stops at the word `modes` behind the word `in`
unfoldable pub ends_modes : Option Token → Token → Bool
ends_modes None token = false
ends_modes (Some before) token = is_word (codes "in") before && is_word (codes "modes") token

-- whether tokens read so
abbrev pub is_reading : {A : Type 0} → Outcome A → Bool
is_reading (read value rest unseen) = true
is_reading (dead unseen) = false

-- whether `in modes` stands outside of brackets in these tokens
abbrev pub has_modes : List Token → Bool
has_modes tokens = is_reading (run 0 (until ends_modes) tokens (suc (length tokens)))

-- ---- names of properties

-- "::" ID
unfoldable pub name_behind : Rule (List ℕ)
name_behind = do
  _ ← sign (codes "::")
  identifier []

-- ID [ "::" ID ]: the name of a property, without that of its set
unfoldable pub property_name : Rule (List ℕ)
property_name = do
  first ← identifier []
  chooses (is_sign (codes "::") ∷ []) name_behind (gives first)

-- the name of a reading, if there is one
abbrev pub name_read : Outcome (List ℕ) → Option (List ℕ)
name_read (read name rest unseen) = Some name
name_read (dead unseen) = None

-- the name of the property of a piece, if it begins with one
abbrev pub name_of : List Token → Option (List ℕ)
name_of piece = name_read (run 0 property_name piece (suc (length piece)))

-- whether a property is a binding by its name: it ends in `_binding`
abbrev pub is_binding_name : List ℕ → Bool
is_binding_name name = is_same_text (drop (length name - 8) name) (codes "_binding")

-- ---- bindings

-- whether a binding of this kind is one of components, which each profile reads
abbrev pub is_of_components : BindingKind → Bool
is_of_components Processor = true
is_of_components Memory = true
is_of_components OfConnection = false
is_of_components Function = false

-- whether a profile reads a binding, where it has this form, if it has one, and stands in braces or not
abbrev pub reads : Profile → Bool → Option Binding → Bool
reads profile braced None = false
reads profile braced (Some binding) = not (is_first profile) || (not braced && is_of_components binding.kind)

-- whether a piece of a section, or of what stands in braces, is told
abbrev pub is_told : What → Bool → List Token → Bool
is_told InModes braced piece = has_modes piece
is_told (Unread profile) braced piece = not (reads profile braced (piece_binding 0 braced piece))
is_told Rates braced piece = false

-- the name of a piece whose property has this name, where it is told of a binding
abbrev pub told_binding : What → Bool → List Token → List ℕ → List (List ℕ)
told_binding what braced piece name = cond (is_binding_name name && is_told what braced piece) (name ∷ []) []

-- ---- rates

-- whether a property is that of rates by its name
abbrev pub is_rate_name : List ℕ → Bool
is_rate_name name = is_same_text name (codes "occurrencedistribution")

-- a run stops at the word `to` behind the word `applies`
unfoldable pub ends_applies : Option Token → Token → Bool
ends_applies None token = false
ends_applies (Some before) token = is_word (codes "applies") before && is_word (codes "to") token

-- a run stops at the word `in`, and at a semicolon
unfoldable pub ends_path : Option Token → Token → Bool
ends_path before token = is_word (codes "in") token || is_sign (codes ";") token

-- what stands behind `applies to`, which is outside of brackets, up to `in` or to the semicolon
unfoldable pub applied : Rule (List Token)
applied = do
  _ ← until ends_applies
  _ ← word (codes "to")
  until ends_path

-- the text of a token of this kind; strings and the text of an annex, which may have lines, are left out
abbrev pub kept_text : TokenKind → List ℕ → List ℕ
kept_text Text text = []
kept_text AnnexRaw text = []
kept_text _ text = text

-- the texts of tokens, without blanks
abbrev pub joined : List Token → List ℕ
joined tokens = flat_map (λ token. kept_text token.kind token.text) tokens

-- the text of a reading, if there is one
abbrev pub path_read : Outcome (List Token) → Option (List ℕ)
path_read (read tokens rest unseen) = Some (joined tokens)
path_read (dead unseen) = None

-- the path that a piece applies to, or the paths with their commas, as they stand; if it applies to any
abbrev pub applied_path : List Token → Option (List ℕ)
applied_path piece = path_read (run 0 applied piece (suc (length piece)))

-- What a rate is said of that applies to this path, if it applies to any: in braces behind a member of that, or of the path in it; in a
-- section of the path, or of nothing.
abbrev pub said_of : Bool → List ℕ → Option (List ℕ) → List ℕ
said_of true member None = member
said_of true member (Some path) = member ++ (codes "." ++ path)
said_of false member None = codes "-"
said_of false member (Some path) = path

-- what a piece whose property has this name is said of, where that is the property of rates
abbrev pub told_rate : Bool → List ℕ → List Token → List ℕ → List (List ℕ)
told_rate braced member piece name = cond (is_rate_name name) (said_of braced member (applied_path piece) ∷ []) []

-- ---- pieces

-- what is told of a piece whose property has this name: of a binding its name, and of a rate what it is said of
abbrev pub told_so : What → Bool → List ℕ → List Token → List ℕ → List (List ℕ)
told_so InModes braced member piece name = told_binding InModes braced piece name
told_so (Unread profile) braced member piece name = told_binding (Unread profile) braced piece name
told_so Rates braced member piece name = told_rate braced member piece name

-- the same, if it has a name
abbrev pub told_named : What → Bool → List ℕ → List Token → Option (List ℕ) → List (List ℕ)
told_named what braced member piece None = []
told_named what braced member piece (Some name) = told_so what braced member piece name

-- what is told of a piece of a section, or of what stands in braces behind a member
abbrev pub told_piece : What → Bool → List ℕ → List Token → List (List ℕ)
told_piece what braced member piece = told_named what braced member piece (name_of piece)

-- ---- places

-- where a piece begins
abbrev pub piece_start : List Token → ℕ
piece_start tokens = option_map_or (λ token. token.start) (slice_get tokens 0) 0

-- a part of the component of a number, which stands at this place
abbrev pub part_at : ℕ → Spot → List ℕ → Part
part_at number spot name = record { component = number; name = name; spot = spot }

-- what is told of a piece of a file, in the text of the component of a number: it stands where the piece begins
abbrev pub piece_parts : What → ℕ → ℕ → Bool → List ℕ → List Token → List Part
piece_parts what number file braced member piece =
    map (part_at number (record { file = file; at = piece_start piece })) (told_piece what braced member piece)

-- what is told of a `properties` section of a file
abbrev pub told_section : What → ℕ → ℕ → List Token → List Part
told_section what number file tokens = flat_map (piece_parts what number file false []) (section_pieces tokens)

-- what is told of what stands in braces among the tokens behind a member
abbrev pub told_braces : What → ℕ → ℕ → List ℕ → List Token → List Part
told_braces what number file member tokens = flat_map (piece_parts what number file true member) (section_pieces (behind_brace tokens))

-- what is told of the braces behind subcomponents
unfoldable pub told_subcomponents : What → ℕ → List Subcomponent → List Part
told_subcomponents what number subcomponents =
    flat_map (λ subcomponent. told_braces what number subcomponent.spot.file subcomponent.name subcomponent.tail) subcomponents

-- what is told of the braces behind connections
unfoldable pub told_connections : What → ℕ → List Connection → List Part
told_connections what number connections =
    flat_map (λ connection. told_braces what number connection.spot.file connection.name connection.tail) connections

-- what is told of the braces behind the subcomponents of a classifier, and then behind its connections
abbrev pub told_behind : What → ℕ → Decl → List Part
told_behind what number decl = told_subcomponents what number decl.subcomponents ++ told_connections what number decl.connections

-- what is told of the properties of a classifier: of its sections, and in braces behind its members
abbrev pub told_properties : What → ℕ → Class → List Part
told_properties what number class = flat_map (told_section what number class.item.spot.file) class.item.properties ++ told_behind what number class.item

-- ---- members

-- a subcomponent in modes, by its nearest declaration
abbrev pub modal_subcomponent : ℕ → Member Subcomponent → List Part
modal_subcomponent number member =
    cond (has_modes member.nearest.item.tail) (part_at number member.nearest.item.spot member.nearest.item.name ∷ []) []

-- a connection in modes
abbrev pub modal_connection : ℕ → Member Connection → List Part
modal_connection number member =
    cond (has_modes member.nearest.item.tail) (part_at number member.nearest.item.spot member.nearest.item.name ∷ []) []

-- the members that are told: those in modes
abbrev pub told_members : What → ℕ → Effective → List Part
told_members InModes number effective =
    flat_map (modal_subcomponent number) effective.members.subcomponents ++ flat_map (modal_connection number) effective.members.connections
told_members (Unread profile) number effective = []
told_members Rates number effective = []

-- ---- the model

-- what is told of the component of a number with this effective classifier: its members, and then its properties
abbrev pub told_parts : What → List PackageUnit → ℕ → Effective → List Part
told_parts what packages number effective = told_members what number effective ++ flat_map (told_properties what number) (classes_of packages effective.chain)

-- what is told of the component of a number
abbrev pub told_of : What → Instance → ℕ → Component → List Part
told_of what instance number component = told_parts what instance.packages number (effective_in instance number)

-- What is told of an instance, one component after the other: the subcomponents, connections and bindings that stand in modes, the
-- bindings that a profile does not read, or what the rates in its core text are said of.
abbrev pub unread_parts : What → Instance → List Part
unread_parts what instance = numbered_from (told_of what instance) 0 instance.components
