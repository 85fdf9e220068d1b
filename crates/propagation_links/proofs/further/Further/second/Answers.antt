use Rattle.std.proofs.Common.{◌≤◌, length, ap, arith}
use Rattle.propagation_links.proofs.BoundLaws.{carried-few}
use Rattle.propagation_links.proofs.further.Further.second.Goals as goal

pub returns-clause-few : goal.returns-clause-few
returns-clause-few c =
    let few : length c.in_ok-carried.carried ≤ 1048576 = omega (arith, ap length c.in_ok-carried.ensures, carried-few c.args.tables.now, c.requires) in
    record { held = c.in_ok-held.ensures.few; functions = c.in_ok-functions.ensures.few; carried = few }
