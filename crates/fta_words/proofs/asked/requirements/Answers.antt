use Rattle.std.proofs.Common.{◌≡◌, ◌≤◌, ℕ, List, ◌∷◌, length, Option, Some, None, subst, arith}
use Rattle.std.proofs.lemmas.Result.{IfOk-weaker}
use Rattle.fta_words.specs.declared.asked.Asked.{Asked}
use Rattle.fta_words.specs.declared.kind.Shape.TheVariants as shape
use Rattle.fta_words.specs.inner.Reading.{AsksAs}
use Rattle.fta_words.proofs.asked.requirements.Goals as goal

two_files : (words files : List (List ℕ)) (root : List ℕ) → words ≡ root ∷ files → 3 ≤ length words → 2 ≤ length files
two_files words files root is many = let three : 3 ≤ length (root ∷ files) = subst (λ w. 3 ≤ length w) is many in omega (arith, three)

of_model : (words : List (List ℕ)) → 3 ≤ length words → (answer : Option Asked) → AsksAs shape.Model words answer → AsksAs shape.Requirements words answer
of_model words many None none = λ root target number of files x. none root target number of files (x.0, x.1, x.2, x.3, x.4, x.5)
of_model words many (Some asked) x = (x.0, x.1, x.2, x.3, x.4, x.5, two_files words asked.files x.0 x.1 many)

pub returns : goal.returns
returns c = IfOk-weaker c.model.result _ _ (of_model c.args.words.now c.if-words-lt3.false) c.model.ensures
