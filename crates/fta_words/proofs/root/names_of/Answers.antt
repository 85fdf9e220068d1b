use Rattle.std.proofs.Common.{◌≡◌, ℕ, List, Bor, Some, arith, append_assoc, ◌++◌, ◌∷◌, [], sym, ap, ◌∙◌, subst, rules}
use Rattle.std.proofs.lemmas.Bool.{false≢true}
use Rattle.std.proofs.lemmas.Grind.{common_steps}
use Rattle.std.specs.List.{AllByRecursion, flat_map}
use Rattle.aadl_syntax.specs.Form.{IsWord}
use Rattle.fta_words.specs.Words.{with_colons}
use Rattle.fta_words.proofs.Roots.{next_name}
use Rattle.fta_words.proofs.Identifiers.{with_colons-more, names-more}
use Rattle.fta_words.proofs.root.names_of.Goals as goal

pub returns-in-None-clause-found : goal.returns-in-None-clause-found
returns-in-None-clause-found c =
    let name = c.split_once.result.0.now in
    let all : c.push.new.self ≡ c.loop-name.names ++ name ∷ [] = search rules in
    let last : name ≡ c.loop-name.rest.now = search rules in
    let identifier : IsWord name = search rules in (
      c.loop-name.invariant.so_far ∙ ap (λ l. flat_map (λ n. n ++ (58 ∷ 58 ∷ [])) c.loop-name.names ++ l) (sym last) ∙ sym (with_colons-more c.loop-name.names name) ∙ ap with_colons (sym all),
      subst (AllByRecursion IsWord) (sym all) (names-more c.loop-name.names name c.loop-name.invariant.words identifier),
    )

pub returns-in-None-clause-only : goal.returns-in-None-clause-only
returns-in-None-clause-only c = λ names joined.
    let name = c.split_once.result.0.now in
    let left = c.loop-name.invariant.left names joined in
    let next = next_name (λ (r : Bor (List ℕ)). r.now) c.split_once.result.1 c.loop-name.rest.now name left.0 left.1 c.split_once.ensures.parts c.split_once.ensures.first in
    let last : left.0 ≡ name ∷ [] = rw c.in-None.is at next.1 in
    let pushed : c.push.new.self ≡ c.loop-name.names ++ name ∷ [] = search rules in
    ap (λ l. Some l) (pushed ∙ ap (λ l. c.loop-name.names ++ l) (sym last) ∙ sym left.2)

pub returns-then-not-is_identifier-clause-only : goal.returns-then-not-is_identifier-clause-only
returns-then-not-is_identifier-clause-only c = λ names joined.
    let left = c.loop-name.invariant.left names joined in
    let next = next_name (λ (r : Bor (List ℕ)). r.now) c.split_once.result.1 c.loop-name.rest.now c.split_once.result.0.now left.0 left.1 c.split_once.ensures.parts c.split_once.ensures.first in
    absurd (false≢true (sym c.if-not-is_identifier.true ∙ c.is_identifier.ensures.1 next.0))

pub loop-name-preserved : goal.loop-name-preserved
loop-name-preserved c =
    let name = c.split_once.result.0.now in
    let pushed : c.push.new.self ≡ c.loop-name.names ++ name ∷ [] = search rules in
    record {
      so_far = grind (arith, common_steps);
      words = grind (arith, common_steps);
      left =
          λ names joined.
          let left = c.loop-name.invariant.left names joined in
          let next = next_name (λ (r : Bor (List ℕ)). r.now) c.split_once.result.1 c.loop-name.rest.now name left.0 left.1 c.split_once.ensures.parts c.split_once.ensures.first in
          let later = rw c.in-Some.is at next.1 in
          (later.0, later.1, left.2 ∙ ap (λ l. c.loop-name.names ++ l) later.2 ∙ sym (append_assoc c.loop-name.names (name ∷ []) later.0) ∙ ap (λ l. l ++ later.0) (sym pushed));
    }
