use Rattle.std.proofs.Common.{◌≡◌, ℕ, List, IfOk, ◌||◌, ◌∙◌, length, false, filter, ap, subst, arith}
use Rattle.std.specs.List.{list_any, range_with_len}
use Rattle.std.proofs.lemmas.List.{get_or-replicate, length-replicate}
use Rattle.fault_system.specs.Truth.{member}
use Rattle.round_gates.specs.Trees.{events_in, is_event}
use Rattle.round_gates.proofs.Numbers.{numbers-same}
use Rattle.merged_gates.proofs.events.events_in.Goals as goal

pub returns : goal.returns
returns c =
    let long : length c.in_ok-marks.marks ≡ c.args.events = ap length c.in_ok-marks.ensures ∙ length-replicate c.args.events false in
    let long_after : length c.mark_all.new.marks ≡ c.args.events = c.mark_all.ensures.size ∙ long in
    let same : filter (member c.mark_all.new.marks) (range_with_len 0 (length c.mark_all.new.marks)) ≡ events_in c.args.events c.args.gates.now =
    ap (λ n. filter (member c.mark_all.new.marks) (range_with_len 0 n)) long_after
    ∙ numbers-same (member c.mark_all.new.marks) (λ n. list_any (λ gate. list_any (is_event n) gate.inputs) c.args.gates.now) 0 c.args.events
    (λ n low high. c.mark_all.ensures.marks n (omega arith) ∙ ap (λ b. b || list_any (λ gate. list_any (is_event n) gate.inputs) c.args.gates.now) (ap (λ bits. member bits n) c.in_ok-marks.ensures ∙ get_or-replicate c.args.events n false false (omega arith))) in
    subst (λ (ns : List ℕ). IfOk c.numbers_of.result (λ numbers. numbers ≡ ns)) same c.numbers_of.ensures
