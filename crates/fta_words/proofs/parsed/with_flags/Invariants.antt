use Rattle.std.proofs.Common.{◌≡◌, drop, fold, map}
use Rattle.clap.specs.Words.{app_of, with_rule}
use Rattle.fta_words.specs.inner.Parsed.{flag_rule}
use Rattle.fta_words.proofs.parsed.with_flags.Given as goal

abbrev pub invariant-loop-name : goal.invariant-loop-name
invariant-loop-name l =
    fold (λ app name. with_rule app (flag_rule name)) (app_of l.new) (map (λ name. name.now) (drop l.name-index l.fn.names)) ≡ fold (λ app name. with_rule app (flag_rule name)) (app_of l.fn.line) (map (λ name. name.now) l.fn.names)
