use Rattle.std.proofs.Common.{◌≡◌, ℕ, Bool, true, false, if◌then◌else◌, List, Option, Some, codes, ◌∙◌}
use Rattle.clap.specs.Words.{found_of}
use Rattle.clap.proofs.WalkLemmas.{one_text-rows}
use Rattle.fta_words.specs.Words.{is_given}
use Rattle.fta_words.proofs.parsed.flag_in.Goals as goal

-- the value of a flag, read from its text
read : (text : Option (List ℕ)) (said flag : Bool) → text ≡ Some (if said then codes "true" else codes "false") → (text ≡ Some (codes "true") → flag ≡ true) → (text ≡ Some (codes "false") → flag ≡ false) → flag ≡ said
read text true flag is yes_ not_ = yes_ is
read text false flag is yes_ not_ = not_ is

pub returns : goal.returns
returns c = λ given stand.
    read _ (is_given c.args.name.now given) c.get_flag.result (one_text-rows (found_of c.args.matches.now) c.args.name.now ∙ stand.flags c.args.name.now c.requires) c.get_flag.ensures.value c.get_flag.ensures.other
