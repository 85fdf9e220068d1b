use Rattle.std.proofs.Common.{ℕ, ◌<◌, ◌^◌, length, subst}
use Rattle.open_psa_writer.proofs.Soundness.{mef-sound}
use Rattle.open_psa_writer.proofs.Written.{mef-target, mef-truth}
use Rattle.open_psa_writer.proofs.tree_lines.MefLines.new.Goals as goal

pub returns-clause-sound : goal.returns-clause-sound
returns-clause-sound c = mef-sound c.args.system c.args.tree c.requires.made c.args.rates

pub returns-clause-truth : goal.returns-clause-truth
returns-clause-truth c =
    let few : length c.args.system.events < 2 ^ 32 = subst (λ (n : ℕ). n < 2 ^ 32) c.requires.rates.each c.items-rates.ensures.few in
    mef-truth c.args.system few c.args.tree c.requires.made c.items-gates.ensures.few c.args.rates c.requires.rates c.events-events.ensures.system

pub returns-clause-target : goal.returns-clause-target
returns-clause-target c =
    let few : length c.args.system.events < 2 ^ 32 = subst (λ (n : ℕ). n < 2 ^ 32) c.requires.rates.each c.items-rates.ensures.few in
    mef-target c.args.system few c.args.tree c.requires.made c.items-gates.ensures.few c.args.rates c.requires.rates c.events-events.ensures.system
