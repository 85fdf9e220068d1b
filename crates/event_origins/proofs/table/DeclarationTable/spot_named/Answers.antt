use Rattle.std.proofs.Common.{◌≡◌, Some, None, option_and_then, option_map, slice_get, ap, sym, ◌∙◌}
use Rattle.std.proofs.lemmas.Option.{slice_get_past, slice_get-get_or}
use Rattle.event_origins.specs.Named.{spot_named}
use Rattle.event_origins.proofs.TableLaws.{spot_found, spot_there}
use Rattle.event_origins.proofs.table.DeclarationTable.spot_named.Goals as goal

pub returns-in_err-number : goal.returns-in_err-number
returns-in_err-number c =
    let list = c.self.inside.list in
    let place = c.copied.ensures ∙ c.get.ensures.value ∙ c.self.invariant c.args.name in
    c.from_residual.ensures ∙ sym (ap (spot_there list) c.in_err-number.was) ∙ spot_found list c.args.name c.copied.result place ∙ ap (λ all. spot_named all c.args.name.now) c.self.view_is

pub returns-in_err-declaration : goal.returns-in_err-declaration
returns-in_err-declaration c =
    let list = c.self.inside.list in
    let place = c.copied.ensures ∙ c.get.ensures.value ∙ c.self.invariant c.args.name in
    let there : option_and_then (slice_get list) c.copied.result ≡ None = ap (option_and_then (slice_get list)) c.in_ok-number.was ∙ ap (λ all. slice_get all c.in_ok-number.number) (sym c.items.ensures.items) ∙ slice_get_past c.items.result.now c.in_ok-number.number c.in_err-declaration.ensures.lookup.3 in
    c.from_residual-in_err-declaration.ensures ∙ sym (ap (option_map (λ declaration. declaration.spot)) there) ∙ spot_found list c.args.name c.copied.result place ∙ ap (λ all. spot_named all c.args.name.now) c.self.view_is

pub returns : goal.returns
returns c =
    let list = c.self.inside.list in
    let place = c.copied.ensures ∙ c.get.ensures.value ∙ c.self.invariant c.args.name in
    let there : option_and_then (slice_get list) c.copied.result ≡ Some c.in_ok-declaration.declaration.now = ap (option_and_then (slice_get list)) c.in_ok-number.was ∙ ap (λ all. slice_get all c.in_ok-number.number) (sym c.items.ensures.items) ∙ slice_get-get_or c.items.result.now c.in_ok-number.number c.in_ok-declaration.declaration.now c.in_ok-declaration.ensures.lookup.3.0
    ∙ ap Some (sym (c.in_ok-declaration.ensures.lookup.3.1 c.in_ok-declaration.declaration.now)) in
    ap Some c.spot.ensures ∙ sym (ap (option_map (λ declaration. declaration.spot)) there) ∙ spot_found list c.args.name c.copied.result place ∙ ap (λ all. spot_named all c.args.name.now) c.self.view_is
