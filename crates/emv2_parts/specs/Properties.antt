-- Property associations in error model text.
use Rattle.std.specs.Prelude.{ℕ, Bool, true, false, cond, not, ◌&&◌, ◌||◌, List, [], ◌∷◌, ◌++◌, Option, None, Some, codes}
use Rattle.aadl_syntax.specs.declared.token.Token.{Token}
use Rattle.aadl_syntax.specs.declared.error_model.Association.{Association}
use Rattle.grammar_rules.specs.Rules.{Test, Rule, gives, refuses, chooses, gathers, ◌>>=◌}
use Rattle.grammar_rules.specs.Parts.{parts_after}
use Rattle.grammar_rules.specs.Spans.{until_inside, closes}
use Rattle.grammar_rules.specs.Tokens.{word, sign, spot, one_of, is_word, is_sign, is_one_of}
use Rattle.emv2_parts.specs.declared.properties.AssignedTargets.{AssignedTargets}
use Rattle.emv2_parts.specs.declared.properties.AssignedValue.{AssignedValue}
use Rattle.emv2_parts.specs.declared.properties.PathForm.{PathForm}
use Rattle.emv2_parts.specs.declared.properties.PathForm.TheVariants.{Nothing, Plain, Within, Key, Other}
use Rattle.emv2_parts.specs.declared.properties.TargetPath.{TargetPath}
use Rattle.emv2_parts.specs.Words.{point_words, is_name, begins_point}
use Rattle.emv2_parts.specs.Names.{error_name, names}

-- a value ends, at depth 0, at a semicolon, at `applies` and at a bracket that closes what was open before; and as any run of an
-- annex at its `**}`, whatever is open
unfoldable pub ends_value : Option Token → Token → Bool
ends_value before token = closes token || is_sign (codes ";") token || is_word (codes "applies") token

-- what begins a value: any token that does not end it at once
unfoldable pub begins_value : Test
begins_value token = not (closes token || is_sign (codes ";") token || is_word (codes "applies") token)

-- value: balanced tokens, at least one, without ";" and "applies" at depth 0
unfoldable pub value : Rule (List Token)
value = chooses (begins_value ∷ []) (until_inside ends_value) refuses

-- "=>" | "+=>"
unfoldable pub arrow : Rule (Unit {0})
arrow = chooses (is_sign (codes "=>") ∷ []) (sign (codes "=>")) (sign (codes "+=>"))

-- what a path is so far: nothing; names with single dots between them; the same behind `^`; the same behind the `@` of these; or anything else
abbrev pub form_named : PathForm → Bool → PathForm
form_named Nothing after = Plain
form_named Plain after = cond after Other Plain
form_named Within after = cond after Other Within
form_named Key after = cond after Other Key
form_named Other after = Other

-- the same, with a dot, which stands only after a name
abbrev pub form_dotted : PathForm → Bool → PathForm
form_dotted Nothing after = Other
form_dotted Plain after = cond after Plain Other
form_dotted Within after = cond after Within Other
form_dotted Key after = cond after Key Other
form_dotted Other after = Other

-- the same with `^`, which stands first
abbrev pub form_raised : PathForm → PathForm
form_raised Nothing = Within
form_raised Plain = Other
form_raised Within = Other
form_raised Key = Other
form_raised Other = Other

-- the same with `@`, which stands behind a name of a path behind `^`
abbrev pub form_at : PathForm → Bool → PathForm
form_at Nothing after = Other
form_at Plain after = Other
form_at Within after = cond after Key Other
form_at Key after = Other
form_at Other after = Other

-- a path with one more name
abbrev pub with_name : TargetPath → List ℕ → TargetPath
with_name path name = record { names = path.names ++ name ∷ []; text = path.text ++ name; form = form_named path.form path.after_name; after_name = true }

-- a path with a dot
abbrev pub with_dot : TargetPath → TargetPath
with_dot path = record { names = path.names; text = path.text ++ codes "."; form = form_dotted path.form path.after_name; after_name = false }

-- a path with `^`
abbrev pub with_caret : TargetPath → TargetPath
with_caret path = record { names = path.names; text = path.text ++ codes "^"; form = form_raised path.form; after_name = false }

-- a path with `@`
abbrev pub with_at : TargetPath → TargetPath
with_at path = record { names = path.names; text = path.text ++ codes "@"; form = form_at path.form path.after_name; after_name = false }

-- the path of no token
abbrev pub no_path : TargetPath
no_path = record { names = []; text = []; form = Nothing; after_name = false }

-- what a path is made of: names, point words, `.`, `^` and `@`
unfoldable pub begins_step : Test
begins_step token = begins_point token || is_sign (codes ".") token || is_sign (codes "^") token || is_sign (codes "@") token

-- "^" | "@", as the next step of a path
unfoldable pub path_sign : TargetPath → Rule TargetPath
path_sign path = chooses (is_sign (codes "^") ∷ [])
    (do
      _ ← sign (codes "^")
      gives (with_caret path))
    (do
      _ ← sign (codes "@")
      gives (with_at path))

-- ID | bword | "." | "^" | "@", as the next step of a path
unfoldable pub path_step : TargetPath → Rule TargetPath
path_step path = chooses (is_name ∷ [])
    (do
      name ← error_name
      gives (with_name path name))
    (chooses (is_one_of point_words ∷ [])
    (do
      name ← one_of point_words
      gives (with_name path name))
    (chooses (is_sign (codes ".") ∷ [])
    (do
      _ ← sign (codes ".")
      gives (with_dot path))
    (path_sign path)))

-- further steps of a path
unfoldable pub path_steps : TargetPath → Rule TargetPath
path_steps path = gathers (begins_step ∷ []) path_step path

-- whether a path is names with single dots between them
abbrev pub is_plain : PathForm → Bool
is_plain Nothing = false
is_plain Plain = true
is_plain Within = false
is_plain Key = false
is_plain Other = false

-- whether a path has a key
abbrev pub is_keyed : PathForm → Bool
is_keyed Nothing = false
is_keyed Plain = false
is_keyed Within = false
is_keyed Key = true
is_keyed Other = false

-- the names of a path behind `^` and of the key behind it, where it is one
abbrev pub keyed_names : TargetPath → Option (List (List ℕ))
keyed_names path = cond (is_keyed path.form && path.after_name) (Some path.names) None

-- the targets with one more: with those of names where the path is names with single dots between them, and else with the others
abbrev pub with_target : AssignedTargets → TargetPath → AssignedTargets
with_target targets path = cond (is_plain path.form && path.after_name)
    (record { plain = targets.plain ++ path.names ∷ []; others = targets.others })
    (record { plain = targets.plain; others = targets.others ++ record { text = path.text; names = keyed_names path } ∷ [] })

-- no targets
abbrev pub no_targets : AssignedTargets
no_targets = record { plain = []; others = [] }

-- tpath: one or more steps
unfoldable pub whole_path : Rule TargetPath
whole_path = do
  first ← path_step no_path
  path_steps first

-- tpath, after other targets
unfoldable pub target_after : AssignedTargets → Rule AssignedTargets
target_after targets = do
  path ← whole_path
  gives (with_target targets path)

-- "," tpath
unfoldable pub further_target : AssignedTargets → Rule AssignedTargets
further_target targets = do
  _ ← sign (codes ",")
  target_after targets

-- { "," tpath }, after other targets
unfoldable pub further_targets : AssignedTargets → Rule AssignedTargets
further_targets targets = gathers (is_sign (codes ",") ∷ []) further_target targets

-- "applies" "to" tpath { "," tpath }, after other targets
unfoldable pub applied_targets : AssignedTargets → Rule AssignedTargets
applied_targets targets = do
  _ ← word (codes "applies")
  _ ← word (codes "to")
  more ← target_after targets
  further_targets more

-- [ "applies" "to" tpath { "," tpath } ]
unfoldable pub targets : Rule AssignedTargets
targets = chooses (is_word (codes "applies") ∷ []) (applied_targets no_targets) (gives no_targets)

-- ( "=>" | "+=>" ) value [ "applies" "to" tpath { "," tpath } ] ";"
unfoldable pub assigned_value : Rule AssignedValue
assigned_value = do
  _ ← arrow
  its_value ← value
  its_targets ← targets
  _ ← sign (codes ";")
  gives (record { value = its_value; targets = its_targets })

-- assoc = names ( "=>" | "+=>" ) value [ "applies" "to" tpath { "," tpath } ] ";"
unfoldable pub association : Rule Association
association = do
  its_spot ← spot
  name ← names
  what ← assigned_value
  gives (record { name = name; spot = its_spot; value = what.value; targets = what.targets.plain; others = what.targets.others })

-- "properties" { assoc }, after other associations
unfoldable pub properties_after : List Association → Rule (List Association)
properties_after associations = do
  _ ← word (codes "properties")
  parts_after associations (is_name ∷ []) association
