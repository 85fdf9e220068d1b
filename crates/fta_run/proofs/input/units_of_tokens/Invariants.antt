use Rattle.std.proofs.Common.{◌≡◌, ◌<◌, ℕ, List, [], get_or, length, Some, slice_get}
use Rattle.aadl_syntax.specs.declared.token.Token.{Token}
use Rattle.fta_run.specs.Files.{AreUnitsOf}
use Rattle.fta_run.proofs.input.units_of_tokens.Given as goal

abbrev pub invariant-loop-file : goal.invariant-loop-file
invariant-loop-file l =
    record {
      count : length l.files ≡ l.file;
      each : (k : ℕ) → k < l.file → (tokens : List Token) → slice_get l.lists-2 k ≡ Some tokens → AreUnitsOf k tokens (get_or l.files k []);
    }
