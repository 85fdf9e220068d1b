use Rattle.std.specs.HashMap.{get}
use Rattle.zdd_store.specs.inner.Store.{family_of}
use Rattle.zdd_store.specs.contracts.id.IdPartialEq.TheImpl.{eq-value as id_eq}
use Rattle.zdd_families.proofs.Ways.{Keeps_same, Keeps_trans}
use Rattle.zdd_families.proofs.Copying.{copied_terminal, copy_kept, copies_kept, copy_above, copy_made}
use Rattle.zdd_families.proofs.copies.+copy_of.Goals as goal

pub returns-in_default-clause-copied : goal.returns-in_default-clause-copied
returns-in_default-clause-copied t c = copied_terminal c.args.from.now c.args.to.now c.args.id c.laws.ensures c.laws-2.ensures (c.in_default.ensures.found c.requires.id_in)

pub returns-in-Some-known_copy-clause-copied : goal.returns-in-Some-known_copy-clause-copied
returns-in-Some-known_copy-clause-copied t c = record { kept = Keeps_same c.args.to.now; copy = c.in-Some-known_copy.ensures }

pub make-requires-clause-lo_in : goal.make-requires-clause-lo_in
make-requires-clause-lo_in t c = (copy_kept c.copy_of.new.to c.copy_of-2.new.to (family_of c.args.from.now c.in-Some.node.lo) c.in_ok-lo.lo c.copy_of-2.ensures.copied.kept c.in_ok-lo.ensures.copied.copy).found

pub make-requires-clause-lo_greater : goal.make-requires-clause-lo_greater
make-requires-clause-lo_greater t c =
    copy_above c.copy_of-2.new.to c.in-Some.node.var (family_of c.args.from.now c.in-Some.node.lo) c.in_ok-lo.lo
    (copy_kept c.copy_of.new.to c.copy_of-2.new.to (family_of c.args.from.now c.in-Some.node.lo) c.in_ok-lo.lo c.copy_of-2.ensures.copied.kept c.in_ok-lo.ensures.copied.copy) c.in-Some.ensures.fits.lo_greater

pub make-requires-clause-hi_greater : goal.make-requires-clause-hi_greater
make-requires-clause-hi_greater t c = copy_above c.copy_of-2.new.to c.in-Some.node.var (family_of c.args.from.now c.in-Some.node.hi) c.in_ok-hi.hi c.in_ok-hi.ensures.copied.copy c.in-Some.ensures.fits.hi_greater

pub note_copy-requires-clause-copy : goal.note_copy-requires-clause-copy
note_copy-requires-clause-copy t c =
    copy_made c.args.from.now c.copy_of.new.to c.copy_of-2.new.to c.make.new.self c.args.id c.in_ok-lo.lo c.in_ok-hi.hi c.in_ok-copy.copy c.in-Some.node c.in-Some.ensures.family
    c.copy_of-2.ensures.copied.kept c.in_ok-lo.ensures.copied.copy c.in_ok-hi.ensures.copied.copy c.in_ok-copy.ensures.found c.in_ok-copy.ensures.family

pub note_copy-requires-clause-known : goal.note_copy-requires-clause-known
note_copy-requires-clause-known t c = copies_kept c.args.from.now c.copy_of-2.new.to c.make.new.self (get id_eq.it c.copy_of-2.new.known) c.make.ensures.kept c.copy_of-2.ensures.known

pub returns-clause-copied : goal.returns-clause-copied
returns-clause-copied t c =
    record {
      kept = Keeps_trans _ _ _ (Keeps_trans _ _ _ c.copy_of.ensures.copied.kept c.copy_of-2.ensures.copied.kept) c.make.ensures.kept;
      copy = c.note_copy.ensures.copy;
    }

pub returns-in_err-copy-clause-known : goal.returns-in_err-copy-clause-known
returns-in_err-copy-clause-known t c = copies_kept c.args.from.now c.copy_of-2.new.to c.make.new.self (get id_eq.it c.copy_of-2.new.known) c.make.ensures.kept c.copy_of-2.ensures.known
