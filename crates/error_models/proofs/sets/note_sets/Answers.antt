use Rattle.std.proofs.Common.{◌≡◌, ◌<◌, get_or, length, refl, ap, ◌∙◌, subst, sym}
use lib.ListN.{length-map}
use Rattle.std.proofs.lemmas.List.{get_or_default}
use Rattle.noted_refusals.specs.inner.Noted.{noting}
use Rattle.noted_refusals.proofs.Loops.{noting-more}
use Rattle.package_index.specs.declared.id.ClassifierId.{ClassifierId}
use Rattle.error_libraries.specs.Libraries.{Table}
use Rattle.instantiator.specs.Effectives.{effective_of}
use Rattle.instantiator.specs.inner.Tables.{kind_of}
use Rattle.used_sets.specs.Used.{used_set_refusals}
use Rattle.error_models.specs.Below.{kind_machine}
use Rattle.error_models.specs.Refused.{set_refusals}
use Rattle.error_models.proofs.KindLaws.{made-at}
use Rattle.error_models.proofs.sets.note_sets.Goals as goal

faults-of : (table : Table) (id : ClassifierId) → used_set_refusals table (kind_machine table.packages id) (effective_of table.packages id) ≡ set_refusals table id
unfolding set_refusals
faults-of table id = refl

pub loop-number-preserved : goal.loop-number-preserved
loop-number-preserved c =
    let table = c.args.reading.now.types in
    let packages = c.args.instance.now.packages in
    let ids = c.args.instance.now.kinds in
    let i = c.loop-number.number in
    let one = c.kind-item.result in
    let all = c.kinds-kind-items.ensures.kinds in
    let within : i < length ids = subst (λ n. i < n) (ap length all ∙ length-map ids (kind_of packages)) c.loop-number-test.true in
    let id = get_or ids i one.classifier in
    let machines = c.requires.machines in
    let same : table.packages ≡ packages = c.requires.packages in
    let kept : c.loop-number.reading.types ≡ table = c.loop-number.invariant.kept in
    let kind : one ≡ kind_of packages id = made-at (kind_of packages) ids c.kinds-kind-items.result.now i one.classifier one all within c.kind-item.is in
    let machine : c.index-machines-number.result ≡ kind_machine packages id = made-at (kind_machine packages) ids c.args.machines.now i one.classifier c.index-machines-number.result machines within c.index-machines-number.is in
    let made : used_set_refusals c.loop-number.reading.types c.index-machines-number.result one.effective ≡ set_refusals table id =
    (λ k. used_set_refusals (kept k) (machine k) (kind k).effective) ∙ (λ k. used_set_refusals table (kind_machine (sym same k) id) (effective_of (sym same k) id)) ∙ faults-of table id in
    record {
      kept = c.in_ok-note_used_sets.ensures.kept ∙ kept;
      first = noting-more ids i id within (get_or_default ids i one.classifier id within) (set_refusals table) c.loop-number.reading.refusals _ _
          (c.in_ok-note_used_sets.ensures.noted ∙ ap (λ faults. noting c.loop-number.reading.refusals faults) made) c.loop-number.invariant.first;
    }
