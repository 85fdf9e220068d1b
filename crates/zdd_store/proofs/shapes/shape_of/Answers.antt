use Rattle.std.proofs.Common.{refl, sym}
use Rattle.zdd_store.specs.inner.Store.{family_of}
use Rattle.zdd_store.proofs.Shaped.{shape-empty, shape-unit, shape-any, shape-node}
use Rattle.zdd_store.proofs.shapes.shape_of.Goals as goal

pub returns-then-id-eq0 : goal.returns-then-id-eq0
returns-then-id-eq0 c = λ store sound right. shape-empty store c.args.id.position _ sound c.if-id-eq0.true refl

pub returns-then-id-eq1 : goal.returns-then-id-eq1
returns-then-id-eq1 c = λ store sound right. shape-unit store c.args.id.position _ sound c.if-id-eq1.true refl refl refl

pub returns-in-Some : goal.returns-in-Some
returns-in-Some c = λ store sound right.
    shape-node store c.args.table.now c.args.id.position c.in-Some.shape right c.if-id-eq0.false c.if-id-eq1.false (sym c.in-Some.ensures)

pub returns-in-None : goal.returns-in-None
returns-in-None c = λ store sound right. shape-any (family_of store c.args.id) _ refl refl refl refl
