use Rattle.std.proofs.Common.{◌≡◌, ◌≤◌, ◌*◌, length, sym, ap, ◌∙◌, arith}
use Rattle.std.proofs.lemmas.List.{with_items_is}
use Rattle.error_types.specs.inner.Rows.{either}
use Rattle.error_types.specs.inner.Words.{bits_of}
use Rattle.error_types.proofs.RowLaws.{joined-rows}
use Rattle.error_types.proofs.row.Row.join.Goals as goal

pub returns : goal.returns
returns c = λ same.
    let count = c.self.inside.count in
    let others = c.other.inside.count in
    let left = c.as_mut_slice.result.now in
    let right = c.as_slice.result.now in
    let now = c.join_words.new.words in
    let mine : bits_of count left ≡ c.args.self.now = ap (bits_of count) c.as_mut_slice.ensures.value ∙ c.self.view_is in
    let its : bits_of others right ≡ c.args.other.now = ap (bits_of others) c.as_slice.ensures.value ∙ c.other.view_is in
    let room : count ≤ 64 * length c.self.inside.words.items = c.self.invariant in
    let its_room : others ≤ 64 * length c.other.inside.words.items = c.other.invariant in
    let few : count ≤ 64 * length left = (let size = ap length c.as_mut_slice.ensures.value in omega (arith, room, size)) in
    let fewer : others ≤ 64 * length right = (let size = ap length c.as_slice.ensures.value in omega (arith, its_room, size)) in
    ap (bits_of count) (with_items_is c.self.inside.words now (c.join_words.ensures.size ∙ c.as_mut_slice.ensures.len))
    ∙ joined-rows left right now count others c.join_words.ensures few fewer (ap length its ∙ same ∙ sym (ap length mine))
    ∙ (λ i. either (mine i) (its i))
