-- Conditions of error model text.
use Rattle.std.specs.Prelude.{ℕ, zero, suc, Bool, true, false, if◌then◌else◌, List, [], ◌∷◌, codes}
use Rattle.aadl_syntax.specs.declared.error_model.Condition.{Condition}
use Rattle.aadl_syntax.specs.declared.error_model.Condition.TheVariants as condition
use Rattle.aadl_syntax.specs.declared.error_model.Atom.{Atom}
use Rattle.grammar_rules.specs.Rules.{Rule, gives, refuses, chooses, ◌>>=◌}
use Rattle.grammar_rules.specs.Parts.{parts_after}
use Rattle.grammar_rules.specs.Tokens.{word, sign, is_word, is_sign}
use Rattle.emv2_parts.specs.Words.{is_count, count}
use Rattle.grammar_rules.specs.Tokens.{spot}
use Rattle.emv2_parts.specs.Names.{point, optional_set}

-- [ "in" ]
unfoldable pub inward : Rule Bool
inward = chooses (is_word (codes "in") ∷ [])
    (do
      _ ← word (codes "in")
      gives true)
    (gives false)

-- [ "in" ] point [ tset ]
unfoldable pub atom : Rule Atom
atom = do
  is_inward ← inward
  its_point ← point
  set ← optional_set
  gives (record { inward = is_inward; names = its_point.names; spot = its_point.spot; set = set })

-- "ormore" | "orless": whether it is `orless`
unfoldable pub bound : Rule Bool
bound = chooses (is_word (codes "orless") ∷ [])
    (do
      _ ← word (codes "orless")
      gives true)
    (do
      _ ← word (codes "ormore")
      gives false)

-- "," cond
unfoldable pub further_condition : Rule Condition → Rule Condition
further_condition inner = do
  _ ← sign (codes ",")
  inner

-- "(" cond { "," cond } ")"
unfoldable pub condition_list : Rule Condition → Rule (List Condition)
condition_list inner = do
  _ ← sign (codes "(")
  first ← inner
  parts ← parts_after (first ∷ []) (is_sign (codes ",") ∷ []) (further_condition inner)
  _ ← sign (codes ")")
  gives parts

-- INT ( "ormore" | "orless" ) "(" cond { "," cond } ")"
unfoldable pub counted : Rule Condition → Rule Condition
counted inner = do
  at ← spot
  number ← count
  at_most ← bound
  parts ← condition_list inner
  gives (if at_most then condition.AtMost number parts at else condition.AtLeast number parts)

-- "(" cond ")"
unfoldable pub enclosed : Rule Condition → Rule Condition
enclosed inner = do
  _ ← sign (codes "(")
  within ← inner
  _ ← sign (codes ")")
  gives within

-- prim = "(" cond ")" | [ "in" ] point [ tset ] | INT ( "ormore" | "orless" ) "(" cond { "," cond } ")"
unfoldable pub primary : Rule Condition → Rule Condition
primary inner = chooses (is_sign (codes "(") ∷ []) (enclosed inner)
    (chooses (is_count ∷ []) (counted inner)
    (do
      its_atom ← atom
      gives (condition.Atom its_atom)))

-- "and" prim
unfoldable pub and_primary : Rule Condition → Rule Condition
and_primary inner = do
  _ ← word (codes "and")
  primary inner

-- conj = prim { "and" prim }, where one part alone is that part
unfoldable pub conjunction : Rule Condition → Rule Condition
conjunction inner = do
  first ← primary inner
  chooses (is_word (codes "and") ∷ [])
      (do
        parts ← parts_after (first ∷ []) (is_word (codes "and") ∷ []) (and_primary inner)
        gives (condition.All parts))
      (gives first)

-- "or" conj
unfoldable pub or_conjunction : Rule Condition → Rule Condition
or_conjunction inner = do
  _ ← word (codes "or")
  conjunction inner

-- cond = conj { "or" conj }, where one part alone is that part
unfoldable pub disjunction : Rule Condition → Rule Condition
disjunction inner = do
  first ← conjunction inner
  chooses (is_word (codes "or") ∷ [])
      (do
        parts ← parts_after (first ∷ []) (is_word (codes "or") ∷ []) (or_conjunction inner)
        gives (condition.Any parts))
      (gives first)

-- a condition in which fewer parentheses than this are open at once
unfoldable pub condition_within : ℕ → Rule Condition
condition_within zero = refuses
condition_within (suc levels) = disjunction (condition_within levels)

-- cond, in which at most 64 parentheses are open at once: a text with more open brackets is refused before it is read
unfoldable pub whole_condition : Rule Condition
whole_condition = condition_within 65
