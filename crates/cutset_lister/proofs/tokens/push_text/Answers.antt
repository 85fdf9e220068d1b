use Rattle.std.proofs.Common.{◌≡◌, ◌∷◌, rules}
use Rattle.std.specs.Prelude.{vec_capacity}
use Rattle.cutset_lister.specs.inner.Scanning.{names_text}
use Rattle.fault_system.specs.Systems.{event_name}
use Rattle.cutset_lister.specs.SetText.{set_text}
use Rattle.cutset_lister.proofs.Buffers.{adds_or_lacks}
use Rattle.cutset_lister.proofs.Scans.{set_text-first}
use Rattle.cutset_lister.proofs.tokens.push_text.Goals as goal

pub returns-in_ok-push_bytes-in-Some : goal.returns-in_ok-push_bytes-in-Some
returns-in_ok-push_bytes-in-Some c =
    let whole : c.args.set.now ≡ c.in-Some.first.now ∷ c.in-Some.others.now = search rules in
    adds_or_lacks c.push_names.result (event_name c.args.system.now c.in-Some.first.now) (names_text c.args.system.now c.in-Some.others.now) (set_text c.args.system.now c.args.set.now) c.args.to.now.items
    c.push_bytes-in-Some.new.to.items c.push_names.new.to.items (vec_capacity c.args.to.now) (vec_capacity c.push_bytes-in-Some.new.to) (vec_capacity c.push_names.new.to)
    (set_text-first c.args.system.now c.args.set.now c.in-Some.first.now c.in-Some.others.now whole) (rw c.event_name.ensures at c.in_ok-push_bytes-in-Some.ensures) c.push_names.ensures
