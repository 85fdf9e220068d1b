use Rattle.std.proofs.Common.{map, sym, ap, ◌∙◌}
use Rattle.error_libraries.specs.Libraries.{table_of}
use Rattle.error_machines.specs.States.{states_of}
use Rattle.error_models.specs.Below.{kind_machine, kind_states}
use Rattle.error_models.proofs.KindLaws.{maps}
use Rattle.error_models.proofs.tree.Tree.of.Goals as goal

pub invariant_of-result : goal.invariant_of-result
invariant_of-result c =
    let packages = c.args.instance.now.packages in (
      record {
        parts = c.in_ok-parts.ensures;
        states =
            c.in_ok-states.ensures.states ∙ (λ i. map (states_of (c.requires.table i)) (c.requires.machines i)) ∙ maps (kind_machine packages) (states_of (table_of c.args.types.now.profile packages)) c.args.instance.now.kinds
            ∙ ap (λ profile. map (kind_states profile packages) c.args.instance.now.kinds) (sym c.profile-profile.ensures);
      },
      c.new.ensures,
    )
