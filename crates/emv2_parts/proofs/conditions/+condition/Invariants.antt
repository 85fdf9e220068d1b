use Rattle.std.proofs.Common.{[], ◌∷◌, codes, ◌+◌, ◌*◌, length}
use Rattle.grammar_rules.specs.Tokens.{is_word, is_sign}
use Rattle.grammar_rules.proofs.Loops.{Collects}
use Rattle.emv2_parts.specs.Conditions.{and_primary, or_conjunction, further_condition, condition_within}
use Rattle.emv2_parts.proofs.conditions.+condition.Given as goal

abbrev pub decreases-condition_within : goal.decreases-condition_within
decreases-condition_within l = 13 * l.levels

abbrev pub decreases-further_condition : goal.decreases-further_condition
decreases-further_condition l = 13 * l.levels + 1

abbrev pub decreases-further_parts : goal.decreases-further_parts
decreases-further_parts l = 13 * l.levels + 2

abbrev pub decreases-condition_list : goal.decreases-condition_list
decreases-condition_list l = 13 * l.levels + 3

abbrev pub decreases-counted : goal.decreases-counted
decreases-counted l = 13 * l.levels + 4

abbrev pub decreases-enclosed : goal.decreases-enclosed
decreases-enclosed l = 13 * l.levels + 5

abbrev pub decreases-primary : goal.decreases-primary
decreases-primary l = 13 * l.levels + 6

abbrev pub decreases-and_primary : goal.decreases-and_primary
decreases-and_primary l = 13 * l.levels + 7

abbrev pub decreases-and_parts : goal.decreases-and_parts
decreases-and_parts l = 13 * l.levels + 8

abbrev pub decreases-conjunction : goal.decreases-conjunction
decreases-conjunction l = 13 * l.levels + 9

abbrev pub decreases-or_conjunction : goal.decreases-or_conjunction
decreases-or_conjunction l = 13 * l.levels + 10

abbrev pub decreases-or_parts : goal.decreases-or_parts
decreases-or_parts l = 13 * l.levels + 11

abbrev pub decreases-disjunction : goal.decreases-disjunction
decreases-disjunction l = 13 * l.levels + 12

abbrev pub invariant-and_parts-loop-parts : goal.invariant-and_parts-loop-parts
invariant-and_parts-loop-parts l = Collects (is_word (codes "and") ∷ []) (and_primary (condition_within l.levels)) (l.fn.first ∷ []) l.parts l.initial.reader l.reader

abbrev pub decreases-and_parts-loop-parts : goal.decreases-and_parts-loop-parts
decreases-and_parts-loop-parts l = length l.reader.tokens

abbrev pub invariant-or_parts-loop-parts : goal.invariant-or_parts-loop-parts
invariant-or_parts-loop-parts l = Collects (is_word (codes "or") ∷ []) (or_conjunction (condition_within l.levels)) (l.fn.first ∷ []) l.parts l.initial.reader l.reader

abbrev pub decreases-or_parts-loop-parts : goal.decreases-or_parts-loop-parts
decreases-or_parts-loop-parts l = length l.reader.tokens

abbrev pub invariant-further_parts-loop-parts : goal.invariant-further_parts-loop-parts
invariant-further_parts-loop-parts l = Collects (is_sign (codes ",") ∷ []) (further_condition (condition_within l.levels)) (l.fn.first ∷ []) l.parts l.initial.reader l.reader

abbrev pub decreases-further_parts-loop-parts : goal.decreases-further_parts-loop-parts
decreases-further_parts-loop-parts l = length l.reader.tokens
