use Rattle.fault_system.specs.Truth.{member}
use Rattle.fmea_rows.proofs.KeptLaws.{users-kept}
use Rattle.fmea_rows.proofs.table.users_within.Goals as goal

pub returns : goal.returns
returns c = users-kept c.args.asked.now.system.now (member c.args.reach.now.facts) c.in_ok-users.users c.in_ok-kept_users.field-0 c.in_ok-users.ensures c.in_ok-kept_users.ensures.facts c.in_ok-kept_users.ensures.events
