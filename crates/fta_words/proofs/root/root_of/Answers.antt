use Rattle.std.proofs.Common.{◌≡◌, ℕ, List, Some, None, Bor, length, sym, ap, ◌∙◌, rules, arith}
use Rattle.std.proofs.lemmas.Bool.{false≢true}
use Rattle.plain_values.specs.Name.{folded}
use Rattle.fta_words.proofs.Roots.{root_split, same_root}
use Rattle.fta_words.proofs.root.root_of.Goals as goal

pub returns-in_default-clause-only : goal.returns-in_default-clause-only
returns-in_default-clause-only c = λ root is_root.
    let split = root_split (λ (r : Bor (List ℕ)). r.now) c.split_once.result.1 (folded c.args.word.now) c.items.result.now c.split_once.result.0.now root is_root (search rules) c.split_once.ensures.parts c.split_once.ensures.first in
    let names = c.in_ok-names.ensures.only root.names split.0 in
    let none : c.in_ok-names.field-0 ≡ None = search rules in
    cc

pub returns-then-items-lt2-clause-only : goal.returns-then-items-lt2-clause-only
returns-then-items-lt2-clause-only c = λ root is_root.
    let split = root_split (λ (r : Bor (List ℕ)). r.now) c.split_once.result.1 (folded c.args.word.now) c.items.result.now c.split_once.result.0.now root is_root (search rules) c.split_once.ensures.parts c.split_once.ensures.first in
    let names : Some c.in-Some.names ≡ Some root.names = sym c.in-Some.is ∙ c.in_ok-names.ensures.only root.names split.0 in
    let same : c.items-2.result.now ≡ root.names = cc (names, c.items-2.ensures.items) in
    absurd (omega (arith, ap length same, c.if-items-lt2.true))

pub returns-in-Some-item-clause-only : goal.returns-in-Some-item-clause-only
returns-in-Some-item-clause-only c = λ root is_root.
    let split = root_split (λ (r : Bor (List ℕ)). r.now) c.split_once.result.1 (folded c.args.word.now) c.items.result.now c.split_once.result.0.now root is_root (search rules) c.split_once.ensures.parts c.split_once.ensures.first in
    let names : Some c.in-Some.names ≡ Some root.names = sym c.in-Some.is ∙ c.in_ok-names.ensures.only root.names split.0 in
    let item = rw c.in-Some-item.is at split.1 in
    let named : c.in_ok-name_of-in-Some-item.field-0 ≡ c.in-Some-item.item.now = search rules in
    ap (λ r. Some r) (same_root c.names.inside.items.items (Some c.in_ok-name_of-in-Some-item.field-0) root (search rules) (ap (λ l. Some l) named ∙ sym item.1))

pub returns-clause-only : goal.returns-clause-only
returns-clause-only c = λ root is_root.
    let split = root_split (λ (r : Bor (List ℕ)). r.now) c.split_once.result.1 (folded c.args.word.now) c.items.result.now c.split_once.result.0.now root is_root (search rules) c.split_once.ensures.parts c.split_once.ensures.first in
    let item = rw c.in-Some-item.is at split.1 in
    absurd (false≢true (sym c.if-is_identifier.false ∙ c.is_identifier.ensures.1 item.0))
