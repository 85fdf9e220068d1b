-- Two names or more are some.
use Rattle.std.proofs.Common.{◌≡◌, ℕ, List, [], ◌∷◌, Ok}
use Rattle.grammar_rules.specs.declared.reader.Reader.{Reader}
use Rattle.grammar_rules.specs.inner.Reader.{Gives}
use Rattle.grammar_rules.proofs.Loops.{reads_so}
use Rattle.aadl_parser.specs.Names.{two_names, names_after}

pub some_names : {names : List (List ℕ)} {old new : Reader} → Gives (Ok names) two_names old new → names ≡ [] → ⊥
unfolding two_names names_after
some_names {names} {old} {new} gave none =
    let r = reads_so old.file two_names old.tokens old.unseen names new.tokens new.unseen gave.answer in
    let e : names ≡ r.0 ∷ (r.3.0 ∷ r.3.3.0) = r.3.3.3.0 in
    absurd cc
