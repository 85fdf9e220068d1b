use Rattle.std.proofs.Common.{◌≡◌, ◌∙◌, ap, fold, true}
use Rattle.std.proofs.lemmas.Result.{IfOk-weaker}
use Rattle.clap.specs.Words.{app_of, with_rule}
use Rattle.clap.specs.Simple.{app_of_fields, on_top}
use Rattle.fta_words.specs.Table.{all_flags}
use Rattle.fta_words.specs.inner.Parsed.{all_valued, bare_app, flag_rule, valued_rule}
use Rattle.fta_words.proofs.parsed.options_line.Goals as goal

pub returns : goal.returns
returns c =
    let named : app_of c.no_binary_name.result ≡ on_top (λ s. record s { no_binary_name = true }) (app_of c.new.result) = ap app_of_fields c.no_binary_name.ensures in
    let bare : app_of c.disable_help_flag-line.result ≡ bare_app =
    ap app_of_fields c.disable_help_flag-line.ensures ∙ ap (on_top (λ s. record s { disable_help_flag = true })) (named ∙ ap (on_top (λ s. record s { no_binary_name = true })) c.new.ensures.app) in
    IfOk-weaker c.with_flags.result _ _
    (λ line is. is ∙ ap (λ app. fold (λ a name. with_rule a (flag_rule name)) app all_flags) (c.in_ok-line.ensures ∙ ap (λ app. fold (λ a name. with_rule a (valued_rule name)) app all_valued) bare)) c.with_flags.ensures
