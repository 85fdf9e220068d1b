use Rattle.std.proofs.Common.{◌≡◌, Some, None, map, option_and_then, ap, sym, ◌∙◌}
use denote.Ref.{Bor}
use Rattle.aadl_syntax.specs.declared.error_model.Transition.{Transition}
use Rattle.std.specs.Prelude.{option_copied}
use Rattle.std.specs.HashMap.{get}
use Rattle.package_index.specs.inner.Tables.{same_text}
use Rattle.rate_keys.specs.Keys.{lone_event}
use Rattle.rate_keys.specs.inner.Found.{Lone, held}
use Rattle.rate_keys.proofs.FoundLaws.{lone-found, same}
use Rattle.rate_keys.proofs.lone.LoneEvents.lone_event.Goals as goal

pub returns-in-Some : goal.returns-in-Some
returns-in-Some c =
    let entry : get same_text c.self.inside.found c.args.state ≡ Some c.in-Some.event.now = sym c.get.ensures.value ∙ ap option_copied c.in-Some.is in
    sym (ap (λ found. option_and_then same (held found)) entry) ∙ lone-found c.self.inside.events (map (λ (transition : Bor Transition). transition.now) c.self.inside.transitions) c.args.state.now (get same_text c.self.inside.found c.args.state) (c.self.invariant c.args.state) ∙ ap (λ (l : Lone). lone_event l.events l.transitions c.args.state.now) c.self.view_is

pub returns-in-None : goal.returns-in-None
returns-in-None c =
    let entry : get same_text c.self.inside.found c.args.state ≡ None = sym c.get.ensures.value ∙ ap option_copied c.in-None.is in
    sym (ap (λ found. option_and_then same (held found)) entry) ∙ lone-found c.self.inside.events (map (λ (transition : Bor Transition). transition.now) c.self.inside.transitions) c.args.state.now (get same_text c.self.inside.found c.args.state) (c.self.invariant c.args.state) ∙ ap (λ (l : Lone). lone_event l.events l.transitions c.args.state.now) c.self.view_is
