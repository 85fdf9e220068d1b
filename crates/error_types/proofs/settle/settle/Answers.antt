use Rattle.std.proofs.Common.{true, option_to_list, sym, ◌∙◌, subst}
use Rattle.std.specs.Prelude.{IfSome, option_copied}
use Rattle.std.proofs.lemmas.Option.{same_Some}
use Rattle.error_libraries.specs.Libraries.{library_scope, number_of}
use Rattle.error_types.specs.inner.Rows.{IsSum}
use Rattle.error_types.specs.Walk.{needs_of, of_item}
use Rattle.error_types.proofs.settle.settle.Goals as goal

pub settle_by-requires-clause-sum : goal.settle_by-requires-clause-sum
settle_by-requires-clause-sum c =
    let table = c.args.declarations.now in
    let id = c.args.id in
    let start = same_Some _ _ (sym c.in_ok-start.ensures ∙ c.own_row-own.ensures) in
    let sum = c.in_ok-sum.ensures.sum (option_to_list (number_of table id)) start in
    let found = subst (λ o. IfSome o (IsSum table (library_scope table id.«package») (option_to_list (number_of table id)) c.needs_of.result)) c.in-Some.is sum in
    let its = subst (λ needs. IsSum table (library_scope table id.«package») (option_to_list (number_of table id)) needs c.in-Some.sum) c.needs_of.ensures found in
    subst (λ t. IsSum t (library_scope t id.«package») (option_to_list (number_of t id)) (of_item (needs_of true) (option_copied c.item-item.result)) c.in-Some.sum) (sym c.gather.ensures.kept) its
