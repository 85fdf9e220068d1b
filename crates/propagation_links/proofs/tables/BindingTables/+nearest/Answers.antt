use Rattle.std.proofs.Common.{ℕ, ◌-◌, List, map, Option, Some, None, IfOk, ◌≡◌, ap, sym, subst, ◌∙◌, arith}
use Rattle.std.proofs.lemmas.List.{take-map}
use denote.Ref.{Bor}
use Rattle.propagation_links.specs.Bound.{nearest, said}
use Rattle.propagation_links.specs.Stated.{Stated}
use Rattle.propagation_links.proofs.BoundLaws.{nearest-is}
use Rattle.propagation_links.proofs.tables.BindingTables.+nearest.Goals as goal

pub returns-in-Some : goal.returns-in-Some
returns-in-Some t c =
    let names : List (List ℕ) = map (λ (name : Bor (List ℕ)). name.now) c.args.path.now in
    let front = take-map (λ (name : Bor (List ℕ)). name.now) c.args.count c.args.path.now in
    let own = sym c.in-Some.is ∙ c.in_ok-stated.ensures ∙ ap (said c.args.self.now c.args.kind) (sym front) in
    sym (nearest-is c.args.self.now c.args.kind names c.args.count (Some c.in-Some.stated) (omega (arith, c.if-count-eq0.false)) own)

pub returns-in-None : goal.returns-in-None
returns-in-None t c =
    let names : List (List ℕ) = map (λ (name : Bor (List ℕ)). name.now) c.args.path.now in
    let front = take-map (λ (name : Bor (List ℕ)). name.now) c.args.count c.args.path.now in
    let own = sym c.in-None.is ∙ c.in_ok-stated.ensures ∙ ap (said c.args.self.now c.args.kind) (sym front) in
    subst (λ (its : Option Stated). IfOk c.nearest.result (λ stated. stated ≡ its)) (sym (nearest-is c.args.self.now c.args.kind names c.args.count None (omega (arith, c.if-count-eq0.false)) own)) c.nearest.ensures
