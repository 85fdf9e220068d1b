use Rattle.std.proofs.Common.{◌≡◌, ◌<◌, ◌≤◌, ◌*◌, true, length, set, sym, ap, ◌∙◌, arith}
use Rattle.std.proofs.lemmas.List.{with_items_is}
use Rattle.error_types.specs.inner.Words.{bit_in, bits_of}
use Rattle.error_types.proofs.RowLaws.{in-words, long, mark}
use Rattle.error_types.proofs.row.Row.put.Goals as goal

pub put_bit-requires : goal.put_bit-requires
put_bit-requires c =
    let size : length c.args.self.now ≡ c.self.inside.count = sym (ap length c.self.view_is) ∙ long (bit_in c.self.inside.words.items) c.self.inside.count in
    let room : c.self.inside.count ≤ 64 * length c.self.inside.words.items = c.self.invariant in
    let same = ap length c.as_mut_slice.ensures.value in
    omega (arith, size, room, same, c.requires)

pub returns : goal.returns
returns c =
    let count = c.self.inside.count in
    let left = c.as_mut_slice.result.now in
    let k = c.args.number in
    let mine : bits_of count left ≡ c.args.self.now = ap (bits_of count) c.as_mut_slice.ensures.value ∙ c.self.view_is in
    let size : length c.args.self.now ≡ count = sym (ap length c.self.view_is) ∙ long (bit_in c.self.inside.words.items) count in
    let less : k < count = omega (arith, size, c.requires) in
    let room : count ≤ 64 * length c.self.inside.words.items = c.self.invariant in
    let same = ap length c.as_mut_slice.ensures.value in
    let within : k < 64 * length left = omega (arith, room, same, less) in
    ap (bits_of count) (with_items_is c.self.inside.words c.put_bit.new.words (c.put_bit.auto.words ∙ c.as_mut_slice.ensures.len) ∙ c.put_bit.ensures)
    ∙ mark left k (in-words k (length left) within) count less
    ∙ ap (λ row. set row k true) mine
