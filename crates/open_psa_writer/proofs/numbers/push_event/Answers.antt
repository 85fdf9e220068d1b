use Rattle.std.proofs.Common.{◌+◌, ◌++◌, codes, decimal}
use Rattle.fault_system.specs.Systems.{event_name}
use Rattle.galileo_writer.specs.TreeText.{rate_of}
use Rattle.open_psa_writer.specs.Mef.{label_text, rate_text}
use Rattle.open_psa_writer.specs.Numbers.{number_of}
use Rattle.open_psa_writer.proofs.Pieces.{before, before-three}
use Rattle.open_psa_writer.proofs.numbers.push_event.Goals as goal

pub returns : goal.returns
returns c =
    let label = label_text (event_name c.args.system.now c.args.number) in
    let rate = rate_text (rate_of c.args.rates.now c.args.number).kind (number_of (rate_of c.args.rates.now c.args.number).text) in
    let back = codes "</define-basic-event>\n" in
    before-three c.args.line.now.items (codes "<define-basic-event name=\"e") (decimal (c.args.number + 1)) (codes "\">\n") (label ++ (rate ++ back)) c.in_ok-push_event_head.ensures
    (before c.push_event_head.new.line.items label (rate ++ back) c.in_ok-push_event_label.ensures
    (before c.push_event_label.new.line.items rate back c.in_ok-push_rate_of.ensures c.in_ok-extend_from_slice.ensures.items))
