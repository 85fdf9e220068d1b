use Rattle.std.proofs.Common.{◌≡◌, ◌++◌, ◌∷◌, [], ℕ, List, length}
use Rattle.std.specs.List.{AllByRecursion, flat_map}
use Rattle.aadl_syntax.specs.Form.{IsWord}
use Rattle.fta_words.specs.inner.Words.{AreJoined}
use Rattle.fta_words.proofs.root.names_of.Given as goal

abbrev pub invariant-loop-name : goal.invariant-loop-name
invariant-loop-name l =
    record {
      so_far : l.text ≡ flat_map (λ name. name ++ (58 ∷ 58 ∷ [])) l.names ++ l.rest;
      words : AllByRecursion IsWord l.names;
      left : (all : List (List ℕ)) → AreJoined l.text all → (others : List (List ℕ)) × AreJoined l.rest others × (all ≡ l.names ++ others);
    }

abbrev pub decreases-loop-name : goal.decreases-loop-name
decreases-loop-name l = length l.rest
