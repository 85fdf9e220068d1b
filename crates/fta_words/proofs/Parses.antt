-- What `clap` makes of words that are options.
use Rattle.std.proofs.Common.{◌≡◌, ◌≢◌, ◌<◌, ℕ, zero, suc, Bool, true, false, not, ◌&&◌, ◌||◌, if◌then◌else◌, nat_lt, List, [], ◌∷◌, ◌++◌, length, map, fold, Option, Some, None, codes, refl, sym, ap, subst, ◌∙◌, arith, append_assoc, append-nil}
use Rattle.std.specs.Prelude.{Contains, option_and_then}
use Rattle.std.specs.List.{AllByRecursion}
use Rattle.std.specs.Option.{option_map_or}
use Rattle.std.specs.Str.{bytes_eq}
use Rattle.std.proofs.lemmas.Bool.{false≢true, ne_eqb}
use Rattle.std.proofs.lemmas.List.Sums.{fold-append}
use Rattle.std.proofs.lemmas.List.Folds.{list_any-append}
use Rattle.std.proofs.lemmas.Slice.Eq.{bytes_eq-Decides}
use Rattle.clap.specs.Lexer.{long_of, long_of_rest, short_of, short_of_rest, strip_byte}
use Rattle.clap.specs.Words.{Row, Rule, Shape, Text}
use Rattle.clap.specs.Walk.{Held, Step, Waiting, Walk, after_flag, after_step, arg_by_id, arg_by_long, at_row, has_row, idle, long_met, long_or_other, more_values, next, option, option_word, pushed, reacted, reading_by, settled_rows, short_or_plain, trailing, used, used_by_id, walked, with_values, without, word_met}
use Rattle.clap.specs.Takes.{bundle_passes, flag_word_passes, long_passes, other_passes, settle_passes, step_passes, turn_passes, use_passes, walk_passes}
use Rattle.clap.specs.Simple.{filled}
use Rattle.clap.specs.declared.parser.matches.ValueSource.TheVariants.{CommandLine}
use Rattle.clap.proofs.CutLemmas.{Lacks}
use Rattle.clap.proofs.WalkLemmas.{both}
use Rattle.clap.proofs.LexerLemmas.{name_and_value-at, name_and_value-without}
use Rattle.fta_words.specs.Words.{Alone, Apart, AreDifferent, Attached, Given, IsAllowed, IsPlainWord, Spelling, option_words, spelled}
use Rattle.fta_words.specs.inner.Naming.{Without}
use Rattle.fta_words.specs.inner.Parsed.{flag_rule, valued_rule}
use Rattle.fta_words.specs.inner.Reading.{Allowed}

-- ---- words

lacks : (bytes : List ℕ) → Without 61 bytes → Lacks 61 bytes
lacks [] none i within = absurd (omega (arith, within))
lacks (byte ∷ bytes) none zero within = none.0
lacks (byte ∷ bytes) none (suc i) within = lacks bytes none.1 i (omega (arith, within))

-- `--name`
long_alone : (name : List ℕ) → 0 < length name → Without 61 name → long_of (45 ∷ 45 ∷ name) ≡ Some (name, None)
long_alone [] some none = absurd (omega (arith, some))
long_alone (x ∷ xs) some none = ap (λ (p : List ℕ × Option (List ℕ)). Some p) (name_and_value-without (x ∷ xs) (lacks (x ∷ xs) none))

-- `--name=value`
long_attached : (name value : List ℕ) → 0 < length name → Without 61 name → long_of (45 ∷ 45 ∷ name ++ (61 ∷ value)) ≡ Some (name, Some value)
long_attached [] value some none = absurd (omega (arith, some))
long_attached (x ∷ xs) value some none = ap (λ (p : List ℕ × Option (List ℕ)). Some p) (name_and_value-at (x ∷ xs) value (lacks (x ∷ xs) none))

more_than_dashes : (name rest : List ℕ) → 0 < length name → bytes_eq (45 ∷ 45 ∷ name ++ rest) (45 ∷ 45 ∷ []) ≡ false
more_than_dashes [] rest some = absurd (omega (arith, some))
more_than_dashes (x ∷ xs) rest some = refl

dashes_alone : (name : List ℕ) → 0 < length name → bytes_eq (45 ∷ 45 ∷ name) (45 ∷ 45 ∷ []) ≡ false
dashes_alone [] some = absurd (omega (arith, some))
dashes_alone (x ∷ xs) some = refl

-- a plain word is no flag
plain_is_no_dashes : (word : List ℕ) → IsPlainWord word → bytes_eq word (45 ∷ 45 ∷ []) ≡ false
plain_is_no_dashes [] plain = absurd plain
plain_is_no_dashes (x ∷ xs) plain = ap (λ b. b && bytes_eq xs (45 ∷ [])) (ne_eqb x 45 plain.0)

plain_is_no_long : (word : List ℕ) → IsPlainWord word → long_of word ≡ None
plain_is_no_long [] plain = absurd plain
plain_is_no_long (x ∷ xs) plain = ap (λ (b : Bool). option_and_then long_of_rest (option_and_then (strip_byte 45) (if b then Some xs else None))) (ne_eqb x 45 plain.0)

plain_is_no_short : (word : List ℕ) → IsPlainWord word → short_of word ≡ None
plain_is_no_short [] plain = absurd plain
plain_is_no_short (x ∷ xs) plain = ap (λ (b : Bool). option_and_then short_of_rest (if b then Some xs else None)) (ne_eqb x 45 plain.0)

same_bytes : (bytes : List ℕ) → bytes_eq bytes bytes ≡ true
same_bytes bytes = (bytes_eq-Decides bytes bytes).1 refl

pub other_bytes : (a b : List ℕ) → a ≢ b → bytes_eq a b ≡ false
other_bytes a b differ = go (bytes_eq a b) refl
  where
    go : (t : Bool) → bytes_eq a b ≡ t → t ≡ false
    go true is = absurd (differ ((bytes_eq-Decides a b).0 is))
    go false is = refl

-- ---- rules and rows

-- the rule of an option with a value, as it is built
abbrev pub V : Text → Rule
V name = filled (valued_rule name)

-- and that of a flag
abbrev pub F : Text → Rule
F name = filled (flag_rule name)

-- The command has these flags and options, and a use of an option does not replace another.
pub record Serves (s : Shape) (flags valued : List Text) : Type 0 where
  pub once : s.args_override_self ≡ false
  pub flag_long : (name : Text) → Contains flags name → arg_by_long s.rules name ≡ Some (F name)
  pub valued_long : (name : Text) → Contains valued name → arg_by_long s.rules name ≡ Some (V name)
  pub valued_id : (name : Text) → Contains valued name → arg_by_id s.rules name ≡ Some (V name)
  pub flag_some : (name : Text) → Contains flags name → (0 < length name) × Without 61 name
  pub valued_some : (name : Text) → Contains valued name → (0 < length name) × Without 61 name

-- what is found for an option
abbrev pub row_with : Text → Rule → List Text → Row
row_with name rule values = record { id = name; values = values; count = None; source = Some CommandLine; reading = reading_by rule }

abbrev pub row_for : Text → Spelling → Row
row_for name Alone = row_with name (F name) (codes "true" ∷ [])
row_for name (Attached value) = row_with name (V name) (value ∷ [])
row_for name (Apart value) = row_with name (V name) (value ∷ [])

abbrev pub rows_for : List Given → List Row
rows_for given = map (λ option. row_for option.name option.spelling) given

none_first : (a b : Bool) → (a || b) ≡ false → (a ≡ false) × (b ≡ false)
none_first true b none = absurd (false≢true (sym none))
none_first false b none = (refl, none)

-- where no row is found one is added
pub at_end : (id : Text) (change : Row → List Row) (missing rows : List Row) → has_row id rows ≡ false → at_row id change missing rows ≡ rows ++ missing
at_end id change missing [] none = refl
at_end id change missing (row ∷ rows) none =
    let parts = none_first (bytes_eq row.id id) (has_row id rows) none in
    ap (λ (t : Bool). if t then change row ++ rows else row ∷ at_row id change missing rows) parts.0 ∙ ap (λ l. row ∷ l) (at_end id change missing rows parts.1)

-- the first use of an option adds its row
new_row : (rule : Rule) (name : Text) (values : List Text) (rows : List Row) → has_row name rows ≡ false
    → with_values name (reading_by rule) CommandLine values (without name rows) ≡ rows ++ row_with name rule values ∷ []
new_row rule name values rows none =
    ap (with_values name (reading_by rule) CommandLine values) (at_end name (λ row. []) [] rows none ∙ append-nil rows) ∙ at_end name (more_values CommandLine values) (row_with name rule values ∷ []) rows none

used_flag : (name : Text) (rows : List Row) → has_row name rows ≡ false → used (F name) [] rows ≡ rows ++ row_for name Alone ∷ []
used_flag name rows none = new_row (F name) name (codes "true" ∷ []) rows none

used_valued : (name value : Text) (rows : List Row) → has_row name rows ≡ false → used (V name) (value ∷ []) rows ≡ rows ++ row_with name (V name) (value ∷ []) ∷ []
used_valued name value rows none = new_row (V name) name (value ∷ []) rows none

flag_passes : (name : Text) (rows : List Row) → has_row name rows ≡ false → use_passes false (F name) [] rows ≡ true
flag_passes name rows none = ap (λ (t : Bool). (not t || false) && true) none

valued_passes : (name value : Text) (rows : List Row) → has_row name rows ≡ false → use_passes false (V name) (value ∷ []) rows ≡ true
valued_passes name value rows none = ap (λ (t : Bool). (not t || false) && true) none

-- ---- the walk

-- between two options: the rows, and an option whose value has come
abbrev pub at : List Row → Option (Text × List Text) → Walk
at rows pending = record { held = record { rows = rows; pending = pending; skip = 0 }; waiting = idle; position = 1; is_trailing = false; stopped = None }

-- behind a name whose value is the next word
abbrev pub at_name : List Row → Text → Walk
at_name rows name = record { held = record { rows = rows; pending = Some (name, []); skip = 0 }; waiting = option name; position = 1; is_trailing = false; stopped = None }

-- The walk stands between two options, and what it has read comes to these rows.
pub record StandsAt (s : Shape) (rows : List Row) (w : Walk) : Type 0 where
  pub before : List Row
  pub pending : Option (Text × List Text)
  pub is : w ≡ at before pending
  pub settles : settled_rows s.rules pending before ≡ rows
  pub passes : settle_passes s.rules false (at before pending).held ≡ true

-- a word of an option
long_is : (c : List Rule) (word name : Text) (value : Option Text) (rule : Rule) (h : Held) → bytes_eq word (45 ∷ 45 ∷ []) ≡ false → long_of word ≡ Some (name, value) → arg_by_long c name ≡ Some rule
    → word_met c [] false idle 1 word h ≡ after_flag c idle word (long_met c (Some rule) value h).0 (long_met c (Some rule) value h).1
long_is c word name value rule h dashes long found =
    ap (λ (b : Bool). if b then (h, trailing 1) else long_or_other c idle word (long_of word) h) dashes
    ∙ ap (λ (l : Option (Text × Option Text)). long_or_other c idle word l h) long
    ∙ ap (λ (a : Option Rule). after_flag c idle word (long_met c a value h).0 (long_met c a value h).1) found

walked_long : (c : List Rule) (word name : Text) (value : Option Text) (rule : Rule) (rows : List Row) (pending : Option (Text × List Text)) → bytes_eq word (45 ∷ 45 ∷ []) ≡ false → long_of word ≡ Some (name, value) → arg_by_long c name ≡ Some rule
    → (met : Held × Step) → after_flag c idle word (long_met c (Some rule) value (at rows pending).held).0 (long_met c (Some rule) value (at rows pending).held).1 ≡ met
    → walked c [] (at rows pending) word ≡ after_step c word (at rows pending) met.0 met.1
unfolding walked
walked_long c word name value rule rows pending dashes long found met is =
    ap (λ (m : Held × Step). after_step c word (at rows pending) m.0 m.1) (long_is c word name value rule (at rows pending).held dashes long found ∙ is)

both_true : (a b : Bool) → a ≡ true → b ≡ true → (a && b) ≡ true
both_true a b x y = ap (λ t. t && b) x ∙ y

turn_long : (s : Shape) (word name : Text) (value : Option Text) (rule : Rule) (rows : List Row) (pending : Option (Text × List Text)) → s.args_override_self ≡ false → bytes_eq word (45 ∷ 45 ∷ []) ≡ false → long_of word ≡ Some (name, value) → arg_by_long s.rules name ≡ Some rule
    → (held : Held) (waiting : Waiting) → after_flag s.rules idle word (long_met s.rules (Some rule) value (at rows pending).held).0 (long_met s.rules (Some rule) value (at rows pending).held).1 ≡ (held, next waiting)
    → long_passes s.rules false (Some rule) value (at rows pending).held ≡ true → turn_passes s [] (at rows pending) word ≡ true
turn_long s word name value rule rows pending once dashes long found held waiting is passes =
    let h = (at rows pending).held in
    let flag : flag_word_passes s.rules s.args_override_self (long_of word) word h ≡ true =
    ap (λ (again : Bool). flag_word_passes s.rules again (long_of word) word h) once
    ∙ ap (λ (l : Option (Text × Option Text)). flag_word_passes s.rules false l word h) long
    ∙ ap (λ (a : Option Rule). long_passes s.rules false a value h) found ∙ passes in
    let word_is : other_passes s None word h ≡ true = ap (λ (b : Bool). b || flag_word_passes s.rules s.args_override_self (long_of word) word h) dashes ∙ flag in
    both_true (other_passes s None word h) _ word_is (ap (λ (m : Held × Step). step_passes s 1 m.0 m.1) (long_is s.rules word name value rule h dashes long found ∙ is))

-- the word behind a name is its value
value_is : (c : List Rule) (name value : Text) (rows : List Row) → IsPlainWord value → arg_by_id c name ≡ Some (V name)
    → word_met c [] false (option name) 1 value (at_name rows name).held ≡ ((at rows (Some (name, value ∷ []))).held, next idle)
value_is c name value rows plain found =
    let h = (at_name rows name).held in
    ap (λ (b : Bool). if b then (h, trailing 1) else long_or_other c (option name) value (long_of value) h) (plain_is_no_dashes value plain)
    ∙ ap (λ (l : Option (Text × Option Text)). long_or_other c (option name) value l h) (plain_is_no_long value plain)
    ∙ ap (λ (o : Option Text). short_or_plain c (option name) value o h) (plain_is_no_short value plain)
    ∙ ap (λ (a : Option Rule). ((option_word a name value h).0, next (option_word a name value h).1)) found
    ∙ ap (λ (t : Bool). (pushed name value h, next (if nat_lt (if t then length (value ∷ []) else 0) 1 then option name else idle))) (same_bytes name)

walked_value : (c : List Rule) (name value : Text) (rows : List Row) → IsPlainWord value → arg_by_id c name ≡ Some (V name)
    → walked c [] (at_name rows name) value ≡ at rows (Some (name, value ∷ []))
unfolding walked
walked_value c name value rows plain found = ap (λ (m : Held × Step). after_step c value (at_name rows name) m.0 m.1) (value_is c name value rows plain found)

turn_value : (s : Shape) (name value : Text) (rows : List Row) → IsPlainWord value → arg_by_id s.rules name ≡ Some (V name) → turn_passes s [] (at_name rows name) value ≡ true
turn_value s name value rows plain found =
    let h = (at_name rows name).held in
    let flag : flag_word_passes s.rules s.args_override_self (long_of value) value h ≡ true =
    ap (λ (l : Option (Text × Option Text)). flag_word_passes s.rules s.args_override_self l value h) (plain_is_no_long value plain)
    ∙ ap (λ (o : Option Text). option_map_or (λ flags. bundle_passes s.rules s.args_override_self flags h) o true) (plain_is_no_short value plain) in
    let word_is : other_passes s None value h ≡ true = ap (λ (b : Bool). b || flag_word_passes s.rules s.args_override_self (long_of value) value h) (plain_is_no_dashes value plain) ∙ flag in
    both_true (other_passes s None value h) _ word_is (ap (λ (m : Held × Step). step_passes s 1 m.0 m.1) (value_is s.rules name value rows plain found))

-- What an option does to the walk: it adds its row, and its words pass.
abbrev Steps : Shape → List Row → Walk → Text → Spelling → Type 0
Steps s rows w name spelling =
    StandsAt s (rows ++ row_for name spelling ∷ []) (fold (walked s.rules []) w (spelled name spelling)) × (walk_passes s [] w (spelled name spelling) ≡ true)

step_from : (s : Shape) (flags valued : List Text) → Serves s flags valued → (name : Text) (spelling : Spelling) → IsAllowed flags valued name spelling → (rows before : List Row) (pending : Option (Text × List Text))
    → settled_rows s.rules pending before ≡ rows → settle_passes s.rules false (at before pending).held ≡ true → has_row name rows ≡ false → Steps s rows (at before pending) name spelling
unfolding walk_passes
step_from s flags valued serves name Alone allowed rows before pending settles passes none =
    let c = s.rules in
    let word = 45 ∷ 45 ∷ name in
    let h = (at before pending).held in
    let some = serves.flag_some name allowed in
    let dashes = dashes_alone name some.0 in
    let long = long_alone name some.0 some.1 in
    let found = serves.flag_long name allowed in
    let walks = walked_long c word name None (F name) before pending dashes long found (reacted c (F name) [] h, next idle) refl in
    let uses : use_passes false (F name) [] (settled_rows c pending before) ≡ true = ap (use_passes false (F name) []) settles ∙ flag_passes name rows none in
    let turn = turn_long s word name None (F name) before pending serves.once dashes long found (reacted c (F name) [] h) idle refl (both_true _ _ passes uses) in
    let stands : StandsAt s (rows ++ row_for name Alone ∷ []) (walked c [] (at before pending) word) =
    record { before = used (F name) [] (settled_rows c pending before); pending = None; is = walks; settles = ap (used (F name) []) settles ∙ used_flag name rows none; passes = refl } in
    (stands, ap (λ (t : Bool). t && true) turn)
step_from s flags valued serves name (Attached value) allowed rows before pending settles passes none =
    let c = s.rules in
    let word = 45 ∷ 45 ∷ name ++ (61 ∷ value) in
    let h = (at before pending).held in
    let some = serves.valued_some name allowed.0 in
    let dashes = more_than_dashes name (61 ∷ value) some.0 in
    let long = long_attached name value some.0 some.1 in
    let found = serves.valued_long name allowed.0 in
    let walks = walked_long c word name (Some value) (V name) before pending dashes long found (reacted c (V name) (value ∷ []) h, next idle) refl in
    let uses : use_passes false (V name) (value ∷ []) (settled_rows c pending before) ≡ true = ap (use_passes false (V name) (value ∷ [])) settles ∙ valued_passes name value rows none in
    let turn = turn_long s word name (Some value) (V name) before pending serves.once dashes long found (reacted c (V name) (value ∷ []) h) idle refl (both_true _ _ passes uses) in
    let stands : StandsAt s (rows ++ row_for name (Attached value) ∷ []) (walked c [] (at before pending) word) =
    record { before = used (V name) (value ∷ []) (settled_rows c pending before); pending = None; is = walks; settles = ap (used (V name) (value ∷ [])) settles ∙ used_valued name value rows none; passes = refl } in
    (stands, ap (λ (t : Bool). t && true) turn)
step_from s flags valued serves name (Apart value) allowed rows before pending settles passes none =
    let c = s.rules in
    let word = 45 ∷ 45 ∷ name in
    let h = (at before pending).held in
    let so_far = settled_rows c pending before in
    let some = serves.valued_some name allowed.0 in
    let dashes = dashes_alone name some.0 in
    let long = long_alone name some.0 some.1 in
    let found = serves.valued_long name allowed.0 in
    let known = serves.valued_id name allowed.0 in
    let walks : walked c [] (at before pending) word ≡ at_name so_far name = walked_long c word name None (V name) before pending dashes long found ((at_name so_far name).held, next (option name)) refl in
    let after = ap (λ (w : Walk). walked c [] w value) walks ∙ walked_value c name value so_far allowed.1 known in
    let uses : use_passes false (V name) (value ∷ []) so_far ≡ true = ap (use_passes false (V name) (value ∷ [])) settles ∙ valued_passes name value rows none in
    let turn = turn_long s word name None (V name) before pending serves.once dashes long found (at_name so_far name).held (option name) refl passes in
    let turn_two = ap (λ (w : Walk). turn_passes s [] w value) walks ∙ turn_value s name value so_far allowed.1 known in
    let stands : StandsAt s (rows ++ row_for name (Apart value) ∷ []) (walked c [] (walked c [] (at before pending) word) value) =
    record {
      before = so_far;
      pending = Some (name, value ∷ []);
      is = after;
      settles = ap (λ (a : Option Rule). used_by_id a (value ∷ []) so_far) known ∙ ap (used (V name) (value ∷ [])) settles ∙ used_valued name value rows none;
      passes = ap (λ (a : Option Rule). option_map_or (λ r. use_passes false r (value ∷ []) so_far) a true) known ∙ uses;
    } in
    (stands, both_true _ _ turn (ap (λ (t : Bool). t && true) turn_two))

pub step : (s : Shape) (flags valued : List Text) → Serves s flags valued → (name : Text) (spelling : Spelling) → IsAllowed flags valued name spelling → (rows : List Row) (w : Walk) → StandsAt s rows w → has_row name rows ≡ false → Steps s rows w name spelling
step s flags valued serves name spelling allowed rows w stands none =
    subst (λ (v : Walk). Steps s rows v name spelling) (sym stands.is) (step_from s flags valued serves name spelling allowed rows stands.before stands.pending stands.settles stands.passes none)

-- ---- all options

passes_more : (s : Shape) (w : Walk) (xs ys : List Text) → walk_passes s [] w xs ≡ true → walk_passes s [] (fold (walked s.rules []) w xs) ys ≡ true → walk_passes s [] w (xs ++ ys) ≡ true
unfolding walk_passes
passes_more s w [] ys x y = y
passes_more s w (word ∷ xs) ys x y =
    let parts = both (turn_passes s [] w word) (walk_passes s [] (walked s.rules [] w word) xs) x in
    both_true (turn_passes s [] w word) (walk_passes s [] (walked s.rules [] w word) (xs ++ ys)) parts.0 (passes_more s (walked s.rules [] w word) xs ys parts.1 y)

-- the rows have none of these names
abbrev NoneYet : List Row → List Given → Type 0
NoneYet rows given = AllByRecursion (λ option. has_row option.name rows ≡ false) given

pub row_name : (name : Text) (spelling : Spelling) → (row_for name spelling).id ≡ name
row_name name Alone = refl
row_name name (Attached value) = refl
row_name name (Apart value) = refl

still_none : (rows : List Row) (name : Text) (spelling : Spelling) (given : List Given) → NoneYet rows given → AllByRecursion (λ other. name ≢ other) (map (λ option. option.name) given) → NoneYet (rows ++ row_for name spelling ∷ []) given
still_none rows name spelling [] none differ = tt
still_none rows name spelling (other ∷ given) none differ = (
  list_any-append (λ r. bytes_eq r.id other.name) rows (row_for name spelling ∷ [])
      ∙ ap (λ (t : Bool). t || (bytes_eq (row_for name spelling).id other.name || false)) none.0
      ∙ ap (λ (id : Text). bytes_eq id other.name || false) (row_name name spelling)
      ∙ ap (λ (t : Bool). t || false) (other_bytes name other.name differ.0),
  still_none rows name spelling given none.1 differ.1,
)

pub walks : (s : Shape) (flags valued : List Text) → Serves s flags valued → (given : List Given) → Allowed flags valued given → AreDifferent (map (λ option. option.name) given)
    → (rows : List Row) (w : Walk) → StandsAt s rows w → NoneYet rows given
    → StandsAt s (rows ++ rows_for given) (fold (walked s.rules []) w (option_words given)) × (walk_passes s [] w (option_words given) ≡ true)
unfolding walk_passes
walks s flags valued serves [] allowed differ rows w stands none = (subst (λ (l : List Row). StandsAt s l w) (sym (append-nil rows)) stands, refl)
walks s flags valued serves (first ∷ given) allowed differ rows w stands none =
    let one = step s flags valued serves first.name first.spelling allowed.0 rows w stands none.0 in
    let words = spelled first.name first.spelling in
    let after = fold (walked s.rules []) w words in
    let more = walks s flags valued serves given allowed.1 differ.1 (rows ++ row_for first.name first.spelling ∷ []) after one.0 (still_none rows first.name first.spelling given none.1 differ.0) in
    let all : fold (walked s.rules []) after (option_words given) ≡ fold (walked s.rules []) w (words ++ option_words given) = sym (fold-append (walked s.rules []) w words (option_words given)) in (
      subst (StandsAt s (rows ++ rows_for (first ∷ given))) all (subst (λ (l : List Row). StandsAt s l (fold (walked s.rules []) after (option_words given))) (append_assoc rows (row_for first.name first.spelling ∷ []) (rows_for given)) more.0),
      passes_more s w words (option_words given) one.1 more.1,
    )
