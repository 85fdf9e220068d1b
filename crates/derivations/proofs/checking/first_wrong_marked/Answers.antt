use Rattle.fault_system.proofs.NumberSets.{member-replicate}
use Rattle.derivations.proofs.checking.first_wrong_marked.Goals as goal

pub first_wrong-requires-clause-fact_marks : goal.first_wrong-requires-clause-fact_marks
first_wrong-requires-clause-fact_marks c = λ n. member-replicate 262144 n

pub first_wrong-requires-clause-event_marks : goal.first_wrong-requires-clause-event_marks
first_wrong-requires-clause-event_marks c = λ n. member-replicate 4096 n
