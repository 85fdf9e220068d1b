use Rattle.std.proofs.Common.{◌≡◌, ◌-◌, ◌<◌, ◌≤◌, ℕ, length, get_or, ap, ◌∙◌, sym, arith}
use Rattle.std.proofs.lemmas.List.{get_or_default}
use Rattle.zdd_store.specs.inner.Family.{covers}
use Rattle.zdd_store.specs.inner.Store.{family_of}
use Rattle.zdd_store.specs.declared.id.Id.{Id}
use Rattle.zdd_families.proofs.choice.run_before.Goals as goal

pub returns-clause-ends : goal.returns-clause-ends
returns-clause-ends c =
    let zero : Id = record { position = 0 } in
    let parts = c.args.parts.now in
    let end : ℕ = c.args.end in
    let first : ℕ = c.first_of_run-first.result in
    let before : first < end = c.first_of_run-first.ensures.before in
    let within : end ≤ length parts = c.requires.within in
    let back : end - (end - first) ≡ first = omega arith in
    let there : first < length parts = omega arith in
    record {
      some = omega arith;
      within = omega arith;
      same = λ at d h k. c.first_of_run-first.ensures.same at d (omega (arith, h)) k ∙ ap (λ (n : ℕ). get_or parts n d) (sym back);
      part = record { found = c.in_ok-part.ensures.answer.found; apart = c.in_ok-part.ensures.answer.right.apart };
      covering = λ d set. c.in_ok-part.ensures.answer.right.covering set
          ∙ ap (λ (id : Id). covers (family_of c.args.store.now id) set) (get_or_default parts first zero d there ∙ ap (λ (n : ℕ). get_or parts n d) (sym back));
    }
