use Rattle.std.proofs.Common.{List, ℕ, IfOk, subst}
use Rattle.explained_calls.specs.inner.Texts.{IsToldOf, near_events, near_facts, near_roots, token_of}
use Rattle.fta_run.specs.Forms.{profile_of}
use Rattle.fta_run.specs.inner.Read.{model_read, units_read}
use Rattle.explained_calls.proofs.near.near_of.Goals as goal

pub returns-in-UnknownPackage : goal.returns-in-UnknownPackage
returns-in-UnknownPackage c =
    rw c.in-UnknownPackage.is (subst (λ (l : List (List ℕ)). IfOk c.near_root.result (λ near. IsToldOf (units_read l) (near_roots c.args.call.now) near.items)) c.model_texts-texts.ensures c.near_root.ensures)

pub returns-in-UnknownClassifier : goal.returns-in-UnknownClassifier
returns-in-UnknownClassifier c =
    rw c.in-UnknownClassifier.is (subst (λ (l : List (List ℕ)). IfOk c.near_root-in-UnknownClassifier.result (λ near. IsToldOf (units_read l) (near_roots c.args.call.now) near.items)) c.model_texts-texts.ensures c.near_root-in-UnknownClassifier.ensures)

pub returns-in-UnknownTarget : goal.returns-in-UnknownTarget
returns-in-UnknownTarget c =
    rw c.in-UnknownTarget.is (subst (λ (l : List (List ℕ)). IfOk c.near_target.result (λ near. IsToldOf (model_read (profile_of c.args.asked.now.options.form) c.args.asked.now.root l) (near_facts c.args.asked.now.target) near.items)) c.model_texts-texts.ensures c.near_target.ensures)

pub returns-in-BadToken : goal.returns-in-BadToken
returns-in-BadToken c =
    rw c.in-BadToken.is (subst (λ (l : List (List ℕ)). IfOk c.near_token.result (λ near. IsToldOf (model_read (profile_of c.args.asked.now.options.form) c.args.asked.now.root l) (near_events (token_of c.args.asked.now.options)) near.items)) c.model_texts-texts.ensures c.near_token.ensures)
