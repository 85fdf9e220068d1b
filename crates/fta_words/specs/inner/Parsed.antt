-- The command line of options, as `clap` sees it.
use Rattle.std.specs.Prelude.{◌≡◌, true, List, Some, codes, fold, map, if◌then◌else◌}
use Rattle.clap.specs.Words.{App, Row, Rule, Text, first_of, new_app, new_rule, one_of, with_rule}
use Rattle.clap.specs.Simple.{on_top}
use Rattle.clap.specs.declared.builder.action.ArgAction.TheVariants.{Set, SetTrue}
use Rattle.fta_words.specs.declared.table.TheConstants.{VALUED}
use Rattle.fta_words.specs.Table.{all_flags, is_among}
use Rattle.fta_words.specs.Words.{Given, is_given, value_of}

-- an option that has a value
abbrev pub valued_rule : Text → Rule
valued_rule name = record (new_rule name) { long = Some name; action = Some Set }

-- a flag
abbrev pub flag_rule : Text → Rule
flag_rule name = record (new_rule name) { long = Some name; action = Some SetTrue }

-- a command line without a name of the program and without help
abbrev pub bare_app : App
bare_app = on_top (λ s. record s { disable_help_flag = true }) (on_top (λ s. record s { no_binary_name = true }) (new_app (codes "aadl_fta")))

-- the options with a value of all commands
abbrev pub all_valued : List Text
all_valued = map (λ name. name.now) VALUED

-- all options of all commands
abbrev pub options_app : App
options_app = fold (λ app name. with_rule app (flag_rule name)) (fold (λ app name. with_rule app (valued_rule name)) bare_app all_valued) all_flags

-- What options say stands in the rows.
pub record StandIn (rows : List Row) (given : List Given) : Type 0 where
  pub values : (name : Text) → is_among all_valued name ≡ true → first_of name rows ≡ value_of name given
  pub flags : (name : Text) → is_among all_flags name ≡ true → one_of name rows ≡ Some (if is_given name given then codes "true" else codes "false")
