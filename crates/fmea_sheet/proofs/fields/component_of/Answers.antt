use Rattle.std.proofs.Common.{◌≡◌, ◌≤◌, ◌==◌, ◌∙◌, ap, get_or, length, take, sym, arith, eq-eqb}
use Rattle.std.proofs.lemmas.List.{take_all}
use Rattle.std.proofs.lemmas.List.Sums.{position_or_len_is}
use Rattle.fmea_sheet.proofs.fields.component_of.Goals as goal

pub returns-then-byte-eq47 : goal.returns-then-byte-eq47
returns-then-byte-eq47 c =
    let name = c.args.name.now in
    ap (λ k. take k name) (sym (position_or_len_is (λ byte. byte == 47) name c.loop-i.i 0 (omega arith) c.loop-i.invariant (λ h. eq-eqb (get_or name c.loop-i.i 0) 47 c.if-byte-eq47.true)))

pub returns : goal.returns
returns c =
    let name = c.args.name.now in
    let all : length name ≤ c.loop-i.i = omega arith in
    let end : c.loop-i.i ≡ length name = omega arith in
    sym (take_all c.loop-i.i name all) ∙ ap (λ k. take k name) (sym (position_or_len_is (λ byte. byte == 47) name c.loop-i.i 0 (omega arith) c.loop-i.invariant (λ h. absurd (omega arith))))
