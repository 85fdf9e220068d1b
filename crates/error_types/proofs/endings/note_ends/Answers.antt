use Rattle.std.proofs.Common.{ℕ, ◌≡◌, [], ◌∷◌, ◌++◌, ◌-◌, take, ◌^◌, reverse, sym, ap, ◌∙◌, subst}
use Rattle.std.specs.HashMap.{get}
use Rattle.std.proofs.lemmas.List.{reverse-append}
use Rattle.package_index.specs.inner.Tables.{same_pair}
use Rattle.error_libraries.specs.declared.id.ItemId.{ItemId}
use Rattle.error_types.specs.inner.Endings.{EndsIn, IsWay, origin, type_through}
use Rattle.error_types.proofs.EndingLaws.{at-last, one-back}
use Rattle.error_libraries.proofs.Keys.{number_same}
use Rattle.error_libraries.proofs.Remembering.{remembered-more}
use Rattle.error_types.proofs.endings.note_ends.Goals as goal

abbrev id_of : ℕ × ℕ → ItemId
id_of key = record { «package» = key.0; item = key.1 }

pub loop-id-preserved : goal.loop-id-preserved
loop-id-preserved c =
    let table = c.args.declarations.now in
    let id = c.in-Some.id in
    let key : ℕ × ℕ = (id.«package», id.item) in
    let split : reverse c.loop-id.way.items ≡ id ∷ reverse c.pop.new.self.items = ap reverse c.in-Some.ensures.items ∙ reverse-append c.pop.new.self.items (id ∷ []) in
    let way = subst (λ items. IsWay table items c.loop-id.last) split c.loop-id.invariant.way in
    let end : EndsIn table id c.in_ok-end.end = one-back table id c.loop-id.last c.loop-id.end c.in_ok-end.end way.0 c.loop-id.invariant.end c.in_ok-end.ensures.number c.in_ok-end.ensures.steps c.in_ok-end.ensures.few in
    record {
      way = way.1;
      end = end;
      origin = sym (ap (λ items. origin items c.loop-id.last) split) ∙ c.loop-id.invariant.origin;
      ends =
          remembered-more same_pair (λ other value. EndsIn table (id_of other) value) (get same_pair c.loop-id.ends) (get same_pair c.insert.new.self) key c.in_ok-end.end c.in_ok-insert.ensures.updates.0
          (λ other same. subst (λ k. EndsIn table (id_of k) c.in_ok-end.end) (number_same key other same) end) c.loop-id.invariant.ends;
    }

pub returns-clause-number : goal.returns-clause-number
returns-clause-number c =
    let table = c.args.declarations.now in
    let rest : c.pop.new.self.items ≡ [] = c.in_default.ensures.rest ∙ ap (λ k. take (k - 1) c.loop-id.way.items) c.in_default.ensures.cases.0 in
    let none : c.loop-id.way.items ≡ [] = c.in_default.ensures.items ∙ ap (λ items. items ++ []) rest in
    sym (at-last table c.loop-id.last c.loop-id.end c.loop-id.invariant.end) ∙ ap (type_through (2 ^ 64 - 1) table) (sym (ap (λ items. origin (reverse items) c.loop-id.last) none) ∙ c.loop-id.invariant.origin)
