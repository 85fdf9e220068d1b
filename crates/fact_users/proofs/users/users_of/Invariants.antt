use Rattle.fact_users.specs.inner.Users.{AreUsersBelow}
use Rattle.fact_users.proofs.users.users_of.Given as goal

abbrev pub invariant-loop-number : goal.invariant-loop-number
invariant-loop-number l = AreUsersBelow l.system l.number l.users
