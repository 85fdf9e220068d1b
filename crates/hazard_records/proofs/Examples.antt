-- Worked rows: what names mean among facts and events, and the targets of associations.
use Rattle.std.proofs.Common.{◌≡◌, ℕ, List, [], ◌∷◌, codes, None, Some, true, false, refl}
use Rattle.plain_values.specs.declared.spot.Spot.{Spot}
use Rattle.profiles.specs.declared.profile.Profile.TheVariants.{First, Second}
use Rattle.aadl_syntax.specs.declared.error_model.Association.{Association}
use Rattle.aadl_syntax.specs.declared.error_model.OtherTarget.{OtherTarget}
use Rattle.fault_system.specs.declared.formula.FactInfo.{FactInfo}
use Rattle.fault_system.specs.declared.formula.Formula.TheVariants.{And}
use Rattle.hazard_records.specs.Meaning.{facts_meant, numbers_named}
use Rattle.hazard_records.specs.Targets.{is_named, says_of, targets_of}

-- ---- what names mean

abbrev fact : List ℕ → FactInfo
fact name = record { name = name; owner = 0; formula = And [] }

abbrev facts : List FactInfo
facts =
    fact (codes "root/state:ok") ∷ fact (codes "root.a/state:failed{lib::late}") ∷ fact (codes "root.a/state:failed{lib::early}") ∷ fact (codes "root.a/in:p{lib::late}")
    ∷ fact (codes "root.a/out:p{lib::late}") ∷ fact (codes "root.a/out:p{lib::early}") ∷ fact (codes "root.a.p/state:late") ∷ []

-- a state of the root
of-the-root : facts_meant facts (codes "ok" ∷ []) ≡ 0 ∷ []
of-the-root = refl

-- a state of a part, with each of its types
of-a-part : facts_meant facts (codes "a" ∷ codes "failed" ∷ []) ≡ 1 ∷ 2 ∷ []
of-a-part = refl

-- what comes out of a point, of all types, and not what goes in
of-a-point : facts_meant facts (codes "a" ∷ codes "p" ∷ []) ≡ 4 ∷ 5 ∷ []
of-a-point = refl

-- a state of a part, and what comes out of a point of that type
of-a-type : facts_meant facts (codes "a" ∷ codes "p" ∷ codes "late" ∷ []) ≡ 6 ∷ 4 ∷ []
of-a-type = refl

-- the name of a type is a whole name
of-no-type : facts_meant facts (codes "a" ∷ codes "p" ∷ codes "ate" ∷ []) ≡ []
of-no-type = refl

of-nothing : facts_meant facts (codes "failed" ∷ []) ≡ []
of-nothing = refl

-- two events of one name, of two of its types
of-events : numbers_named ((codes "a" ∷ codes "e" ∷ []) ∷ (codes "e" ∷ []) ∷ (codes "a" ∷ codes "e" ∷ []) ∷ []) (codes "a" ∷ codes "e" ∷ []) ≡ 0 ∷ 2 ∷ []
of-events = refl

-- ---- targets

-- of whatever property set, and of one alone
of-a-set : is_named (codes "hazards") (codes "milstd882" ∷ codes "hazards" ∷ []) ≡ true
of-a-set = refl

of-two-sets : is_named (codes "hazards") (codes "a" ∷ codes "b" ∷ codes "hazards" ∷ []) ≡ false
of-two-sets = refl

of-another : is_named (codes "hazards") (codes "hazards" ∷ codes "other" ∷ []) ≡ false
of-another = refl

abbrev caret : OtherTarget
caret = record { text = codes "^a@e"; names = Some (codes "a" ∷ codes "e" ∷ []) }

abbrev spot : Spot
spot = record { file = 0; at = 5 }

abbrev association : Association
association = record { name = codes "severity" ∷ []; spot = spot; value = []; targets = (codes "a" ∷ codes "p" ∷ []) ∷ []; others = caret ∷ [] }

by-the-first : targets_of First association ≡ record { text = codes "a.p"; names = Some (codes "a" ∷ codes "p" ∷ []) } ∷ record { text = codes "^a@e"; names = None } ∷ []
by-the-first = refl

by-the-second : targets_of Second association ≡ record { text = codes "a.p"; names = Some (codes "a" ∷ codes "p" ∷ []) } ∷ record { text = codes "^a@e"; names = Some (codes "a" ∷ codes "e" ∷ []) } ∷ []
by-the-second = refl

-- a target is one of a property by its text
says-of : says_of First (codes "severity") (codes "^a@e") association ≡ true
says-of = refl

abbrev of_none : Association
of_none = record { name = codes "emv2" ∷ codes "hazards" ∷ []; spot = spot; value = []; targets = []; others = [] }

-- an association that applies to nothing
applies-to-nothing : targets_of Second of_none ≡ record { text = codes "-"; names = None } ∷ []
applies-to-nothing = refl
