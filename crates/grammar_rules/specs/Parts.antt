-- Parts that stand one after the other.
use Rattle.std.specs.Prelude.{List, ◌++◌}
use Rattle.grammar_rules.specs.Rules.{Test, Rule, gives, repeats, ◌>>=◌}

-- these parts, and then further ones as long as the next tokens pass the tests
abbrev pub parts_after : {A : Type 0} → List A → List Test → Rule A → Rule (List A)
parts_after parts tests part = do
  others ← repeats tests part
  gives (parts ++ others)
