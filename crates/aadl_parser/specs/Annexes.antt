-- Annexes in core text. The error model annex has error model text; any other is read past.
use Rattle.std.specs.Prelude.{List, [], ◌∷◌, ◌++◌, codes}
use Rattle.aadl_syntax.specs.declared.token.TokenKind.TheVariants.{AnnexBegin, AnnexRaw, AnnexEnd}
use Rattle.aadl_syntax.specs.declared.error_model.Emv2Library.{Emv2Library}
use Rattle.aadl_syntax.specs.declared.error_model.Emv2Clause.{Emv2Clause}
use Rattle.grammar_rules.specs.Rules.{Rule, gives, chooses, ◌>>=◌}
use Rattle.grammar_rules.specs.Tokens.{kind, word, sign, is_kind, is_word}
use Rattle.emv2_parser.specs.Grammar.{library_after, clause_inside}
use Rattle.aadl_parser.specs.Names.{core_name}
use Rattle.aadl_parser.specs.Runs.{in_modes}

-- AnnexBegin AnnexRaw AnnexEnd
unfoldable pub raw_body : Rule (Unit {0})
raw_body = do
  _ ← kind AnnexBegin
  _ ← kind AnnexRaw
  kind AnnexEnd

-- ID ( AnnexBegin AnnexRaw AnnexEnd | "none" ), of an annex that is not of the error model
unfoldable pub other_annex : Rule (Unit {0})
other_annex = do
  _ ← core_name
  chooses (is_kind AnnexBegin ∷ []) raw_body (word (codes "none"))

-- AnnexBegin library AnnexEnd, after what earlier annexes of the package gave
unfoldable pub library_body : Emv2Library → Rule Emv2Library
library_body library = do
  _ ← kind AnnexBegin
  whole ← library_after library
  _ ← kind AnnexEnd
  gives whole

-- AnnexBegin library AnnexEnd | "none"
unfoldable pub library_or_none : Emv2Library → Rule Emv2Library
library_or_none library = chooses (is_kind AnnexBegin ∷ []) (library_body library)
    (do
      _ ← word (codes "none")
      gives library)

-- ID ( AnnexBegin body AnnexEnd | "none" ), in a package
unfoldable pub library_named : Emv2Library → Rule Emv2Library
library_named library = chooses (is_word (codes "emv2") ∷ [])
    (do
      _ ← word (codes "emv2")
      library_or_none library)
    (do
      _ ← other_annex
      gives library)

-- annex ";", where annex = "annex" ID ( AnnexBegin body AnnexEnd | "none" ), in a package
unfoldable pub library_annex : Emv2Library → Rule Emv2Library
library_annex library = do
  _ ← word (codes "annex")
  whole ← library_named library
  _ ← sign (codes ";")
  gives whole

-- clause AnnexEnd
unfoldable pub ended_clause : Rule Emv2Clause
ended_clause = do
  its_clause ← clause_inside
  _ ← kind AnnexEnd
  gives its_clause

-- AnnexBegin clause AnnexEnd, after the clauses of earlier annexes
unfoldable pub clause_body : List Emv2Clause → Rule (List Emv2Clause)
clause_body clauses = do
  _ ← kind AnnexBegin
  its_clause ← ended_clause
  gives (clauses ++ its_clause ∷ [])

-- AnnexBegin clause AnnexEnd | "none"
unfoldable pub clause_or_none : List Emv2Clause → Rule (List Emv2Clause)
clause_or_none clauses = chooses (is_kind AnnexBegin ∷ []) (clause_body clauses)
    (do
      _ ← word (codes "none")
      gives clauses)

-- ID ( AnnexBegin body AnnexEnd | "none" ), in a classifier
unfoldable pub clause_named : List Emv2Clause → Rule (List Emv2Clause)
clause_named clauses = chooses (is_word (codes "emv2") ∷ [])
    (do
      _ ← word (codes "emv2")
      clause_or_none clauses)
    (do
      _ ← other_annex
      gives clauses)

-- annex [ "in" "modes" "(" balanced ")" ] ";", in a classifier
unfoldable pub clause_annex : List Emv2Clause → Rule (List Emv2Clause)
clause_annex clauses = do
  _ ← word (codes "annex")
  all_clauses ← clause_named clauses
  _ ← in_modes
  _ ← sign (codes ";")
  gives all_clauses
