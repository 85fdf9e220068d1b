use Rattle.std.proofs.Common.{List, ℕ, IfOk, subst}
use Rattle.fta_run.specs.inner.Read.{units_read}
use Rattle.explained_calls.specs.inner.Texts.{IsToldOf, near_classifiers, near_packages}
use Rattle.explained_calls.proofs.named.near_name.Goals as goal

pub returns-in-UnknownPackage : goal.returns-in-UnknownPackage
returns-in-UnknownPackage c =
    rw c.in-UnknownPackage.is (subst (λ (l : List (List ℕ)). IfOk c.near_package.result (λ near. IsToldOf (units_read l) (near_packages c.args.name.now) near.items)) c.model_texts.ensures c.near_package.ensures)

pub returns-in-UnknownClassifier : goal.returns-in-UnknownClassifier
returns-in-UnknownClassifier c =
    rw c.in-UnknownClassifier.is (subst (λ (l : List (List ℕ)). IfOk c.near_classifier.result (λ near. IsToldOf (units_read l) (near_classifiers c.args.name.now) near.items)) c.texts_for.ensures c.near_classifier.ensures)
