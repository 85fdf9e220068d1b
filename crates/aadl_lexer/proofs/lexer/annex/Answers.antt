use Rattle.std.proofs.Common.{◌≡◌, ◌+◌, ◌-◌, List, ℕ, length, take, drop, ap, subst}
use Rattle.std.proofs.lemmas.List.{take_rest}
use Rattle.aadl_lexer.specs.inner.Steps.{EndsAt, TakesBody}
use Rattle.aadl_lexer.proofs.Ends.{annex_takes}
use Rattle.aadl_lexer.proofs.lexer.annex.Goals as goal

pub returns-clause-ok : goal.returns-clause-ok
returns-clause-ok c =
    let text = c.args.text.now in
    let len = c.in-Some.len in
    let is_emv2 = c.ends_in_emv2-is_emv2.result in
    let all = take_rest text 3 in
    let end : EndsAt (drop 3 text) len = subst (λ (x : List ℕ). EndsAt x len) all c.in-Some.ensures.found in
    let body_is : take len (take (length text - 3) (drop 3 text)) ≡ take len (drop 3 text) = ap (λ (x : List ℕ). take len x) all in
    let body : TakesBody is_emv2 (c.args.at + 3) (take len (drop 3 text)) c.add.new.list c.annex_body.new.list =
    subst (λ (x : List ℕ). TakesBody is_emv2 (c.args.at + 3) x c.add.new.list c.annex_body.new.list) body_is c.in_ok-annex_body.ensures.ok in
    annex_takes text c.args.list.now c.add.new.list c.annex_body.new.list c.add-2.new.list c.args.at len is_emv2 c.requires.long c.requires.opens end
    (λ t. c.ends_in_emv2-is_emv2.ensures.yes t)
    (λ a. c.ends_in_emv2-is_emv2.ensures.no a)
    c.in_ok-add.ensures.ok
    body
    c.in_ok-add-2.ensures.ok
