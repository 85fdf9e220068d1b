use Rattle.std.proofs.Common.{◌≡◌, ◌≤◌, ℕ, List, ◌∷◌, length, Option, Some, None, subst, arith}
use Rattle.std.proofs.lemmas.Result.{IfOk-weaker}
use Rattle.fta_words.specs.declared.asked.Asked.{Asked}
use Rattle.fta_words.specs.declared.kind.Shape.TheVariants as shape
use Rattle.fta_words.specs.inner.Reading.{AsksAs}
use Rattle.fta_words.proofs.asked.derivation.Goals as goal

two_files : (words files : List (List ℕ)) (root target : List ℕ) → words ≡ root ∷ target ∷ files → 4 ≤ length words → 2 ≤ length files
two_files words files root target is many = let four : 4 ≤ length (root ∷ target ∷ files) = subst (λ w. 4 ≤ length w) is many in omega (arith, four)

of_target : (words : List (List ℕ)) → 4 ≤ length words → (answer : Option Asked) → AsksAs shape.Target words answer → AsksAs shape.Derivation words answer
of_target words many None none = λ root target number of files x. none root target number of files (x.0, x.1, x.2, x.3, x.4, x.5, x.6)
of_target words many (Some asked) x = (x.0, x.1, x.2, x.3, x.4, x.5, x.6, two_files words asked.files x.0 x.1 x.2 many)

pub returns : goal.returns
returns c = IfOk-weaker c.target.result _ _ (of_target c.args.words.now c.if-words-lt4.false) c.target.ensures
