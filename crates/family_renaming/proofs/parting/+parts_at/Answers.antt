use Rattle.std.proofs.Common.{◌≡◌, ◌<◌, sym, subst, arith}
use Rattle.std.specs.HashMap.{get}
use Rattle.std.specs.Prelude.{IfOk}
use Rattle.zdd_store.specs.inner.Family.{least_number}
use Rattle.zdd_store.specs.inner.Store.{family_of, Keeps}
use Rattle.zdd_store.proofs.Growing.{Keeps-same}
use Rattle.zdd_families.proofs.Ways.{Keeps_trans, Keeps_four}
use Rattle.zdd_families.proofs.Splits.{least-terminal}
use Rattle.family_renaming.specs.inner.Splitting.{IsParted}
use Rattle.family_renaming.specs.contracts.parting.PlacePartialEq.TheImpl.{eq-value as place_eq}
use Rattle.family_renaming.proofs.Tables.{parts_kept}
use Rattle.family_renaming.proofs.Halves.{parted_greater, parted_at, parted_made}
use Rattle.family_renaming.proofs.parting.+parts_at.Goals as goal

pub returns-in_default-clause-parted : goal.returns-in_default-clause-parted
returns-in_default-clause-parted t c =
    let least = least-terminal c.args.store.now c.args.id.position c.laws.ensures (c.in_default.ensures.found c.requires.id_in) in
    let fits : c.args.number < 4294967296 = omega (arith, c.ranges.number.fits) in
    record { kept = Keeps-same c.args.store.now; parts = parted_greater c.args.store.now c.args.number c.args.id c.laws.ensures c.requires.id_in (omega arith) }

pub returns-then-number-node-clause-parted : goal.returns-then-number-node-clause-parted
returns-then-number-node-clause-parted t c =
    let least : least_number (family_of c.args.store.now c.args.id) ≡ c.in-Some.node.var = c.in-Some.ensures.least in
    let below : c.args.number < c.in-Some.node.var = c.if-number-node.true in
    record { kept = Keeps-same c.args.store.now; parts = parted_greater c.args.store.now c.args.number c.args.id c.laws.ensures c.requires.id_in (omega arith) }

pub returns-then-number-node-2-clause-parted : goal.returns-then-number-node-2-clause-parted
returns-then-number-node-2-clause-parted t c =
    record { kept = Keeps-same c.args.store.now; parts = parted_at c.args.store.now c.args.number c.args.id c.in-Some.node c.in-Some.ensures.fits c.in-Some.ensures.family c.if-number-node-2.true }

pub returns-in_err-lacking-clause-known : goal.returns-in_err-lacking-clause-known
returns-in_err-lacking-clause-known t c = parts_kept c.parts_at-2.new.store c.make.new.self (get place_eq.it c.parts_at-2.new.known) c.make.ensures.kept c.parts_at-2.ensures.known

pub returns-in_err-having-clause-known : goal.returns-in_err-having-clause-known
returns-in_err-having-clause-known t c =
    parts_kept c.parts_at-2.new.store c.make-2.new.self (get place_eq.it c.parts_at-2.new.known) (Keeps_trans c.parts_at-2.new.store c.make.new.self c.make-2.new.self c.make.ensures.kept c.make-2.ensures.kept) c.parts_at-2.ensures.known

kept : (t : _) (c : goal.After-note_parts-arg-1 t) → Keeps c.args.store.now c.make-2.new.self
kept t c = Keeps_four c.args.store.now c.parts_at.new.store c.parts_at-2.new.store c.make.new.self c.make-2.new.self c.parts_at.ensures.parted.kept c.parts_at-2.ensures.parted.kept c.make.ensures.kept c.make-2.ensures.kept

-- the parts after their making
made : (t : _) (c : goal.After-note_parts-arg-1 t) → IsParted c.make-2.new.self c.args.number (family_of c.args.store.now c.args.id) (record { lo = c.in_ok-lacking.lacking; hi = c.in_ok-having.having })
made t c =
    parted_made c.args.store.now c.parts_at.new.store c.parts_at-2.new.store c.make.new.self c.make-2.new.self c.args.number c.args.id c.in-Some.node c.in_ok-lo.lo c.in_ok-hi.hi c.in_ok-lacking.lacking c.in_ok-having.having
    c.in-Some.ensures.fits c.in-Some.ensures.family (λ e. c.if-number-node-2.false (sym e))
    c.parts_at.ensures.parted.kept c.parts_at-2.ensures.parted.kept c.make.ensures.kept c.make-2.ensures.kept
    c.in_ok-lo.ensures.parted.parts c.in_ok-hi.ensures.parted.parts
    c.in_ok-lacking.ensures.found c.in_ok-lacking.ensures.family c.in_ok-having.ensures.found c.in_ok-having.ensures.family

pub note_parts-requires-clause-parts : goal.note_parts-requires-clause-parts
note_parts-requires-clause-parts t c =
    subst (λ f. IsParted c.make-2.new.self c.args.number f (record { lo = c.in_ok-lacking.lacking; hi = c.in_ok-having.having })) (sym ((kept t c).same c.args.id.position c.requires.id_in)) (made t c)

pub note_parts-requires-clause-known : goal.note_parts-requires-clause-known
note_parts-requires-clause-known t c =
    parts_kept c.parts_at-2.new.store c.make-2.new.self (get place_eq.it c.parts_at-2.new.known) (Keeps_trans c.parts_at-2.new.store c.make.new.self c.make-2.new.self c.make.ensures.kept c.make-2.ensures.kept) c.parts_at-2.ensures.known

pub returns-clause-parted : goal.returns-clause-parted
returns-clause-parted t c =
    let kept : Keeps c.args.store.now c.make-2.new.self =
    Keeps_four c.args.store.now c.parts_at.new.store c.parts_at-2.new.store c.make.new.self c.make-2.new.self c.parts_at.ensures.parted.kept c.parts_at-2.ensures.parted.kept c.make.ensures.kept c.make-2.ensures.kept in
    record {
      kept = kept;
      parts = subst (λ f. IfOk c.note_parts.result (IsParted c.make-2.new.self c.args.number f)) (kept.same c.args.id.position c.requires.id_in) c.note_parts.ensures.parts;
    }
