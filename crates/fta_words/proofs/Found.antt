-- What stands in the matches that `clap` makes of words that are options.
use Rattle.std.proofs.Common.{◌≡◌, ◌<◌, Bool, true, false, ◌&&◌, ◌||◌, if◌then◌else◌, nat_lt, List, [], ◌∷◌, ◌++◌, length, fold, map, Option, Some, None, is_some, codes, refl, sym, ap, subst, ◌∙◌, arith}
use Rattle.std.specs.Prelude.{Contains, find, option_and_then, slice_get}
use Rattle.std.specs.List.{AllByRecursion, list_all}
use Rattle.std.specs.Option.{option_or}
use Rattle.std.specs.Str.{bytes_eq}
use Rattle.std.proofs.lemmas.Bool.{false≢true}
use Rattle.std.proofs.lemmas.Bool.Decides.{nat_tests}
use Rattle.std.proofs.lemmas.List.Folds.{find-append}
use Rattle.std.proofs.lemmas.List.Sums.{fold-append}
use Rattle.std.proofs.lemmas.Slice.Eq.{bytes_eq-Decides}
use Rattle.plain_values.specs.Name.{is_same_text}
use Rattle.clap.specs.Words.{Row, Shape, Text, built, first_of, is_simple, matches_of, one_of, takes}
use Rattle.clap.specs.Walk.{Walk, arg_by_id, arg_by_long, finished, has_row, nothing_held, reading_by, walk, walk_from, walked, with_default, with_values, more_values, row_text}
use Rattle.clap.specs.Takes.{default_passes, entered_passes, is_valid, settle_passes, walk_passes}
use Rattle.clap.specs.Simple.{entered}
use Rattle.clap.specs.declared.parser.matches.ValueSource.TheVariants.{DefaultValue}
use Rattle.clap.proofs.OnLiterals.{clap_on_literals}
use Rattle.fta_words.specs.Table.{all_flags, is_among}
use Rattle.fta_words.specs.Words.{Alone, Apart, AreOptions, Attached, Given, IsAllowed, Spelling, is_given, option_words, value_in, value_of}
use Rattle.fta_words.specs.inner.Parsed.{StandIn, all_valued, options_app}
use Rattle.fta_words.specs.inner.Reading.{Allowed}
use Rattle.fta_words.proofs.EachKind.{all_true}
use Rattle.fta_words.proofs.Names.{has_name, text-is, text-same}
use Rattle.fta_words.proofs.Parses.{F, Serves, StandsAt, V, at, at_end, other_bytes, row_for, row_name, rows_for, walks}
use Rattle.fta_words.proofs.Places.{each_of}
use Rattle.fta_words.proofs.Spelled.{all_apart}

-- ---- the command line

abbrev pub line : Shape
line = (built options_app).top

-- two functions that agree on a list agree on each of its names
each_equal : {B : Type 0} (f g : Text → B) (names : List Text) → map f names ≡ map g names → AllByRecursion (λ name. f name ≡ g name) names
each_equal f g [] same = tt
each_equal f g (name ∷ names) same = (cc (same), each_equal f g names (cc (same)))

found_by : {B : Type 0} (f g : Text → B) (names : List Text) → map f names ≡ map g names → (name : Text) → Contains names name → f name ≡ g name
found_by f g names same name has = each_of (λ n. f n ≡ g n) names name (each_equal f g names same) has

is_named : (name : Text) → nat_lt 0 (length name) ≡ true → 0 < length name
is_named name is = grind (arith, nat_tests)

each_named : (names : List Text) → list_all (λ name. nat_lt 0 (length name)) names ≡ true → (name : Text) → Contains names name → 0 < length name
each_named names all name has = is_named name (each_of (λ n. nat_lt 0 (length n) ≡ true) names name (all_true (λ n. nat_lt 0 (length n)) names all) has)

-- the command line has the flags and the options of all commands
serves : Serves line all_flags all_valued
unfolding clap_on_literals
serves =
    record {
      once = refl;
      flag_long = found_by (arg_by_long line.rules) (λ name. Some (F name)) all_flags refl;
      valued_long = found_by (arg_by_long line.rules) (λ name. Some (V name)) all_valued refl;
      valued_id = found_by (arg_by_id line.rules) (λ name. Some (V name)) all_valued refl;
      flag_some = λ name has. (each_named all_flags refl name has, all_apart.flag_names name has);
      valued_some = λ name has. (each_named all_valued refl name has, all_apart.valued_names name has);
    }

start : StandsAt line [] (walk_from nothing_held)
start = record { before = []; pending = None; is = refl; settles = refl; passes = refl }

none_yet : (given : List Given) → AllByRecursion (λ option. has_row option.name [] ≡ false) given
none_yet [] = tt
none_yet (option ∷ given) = (refl, none_yet given)

-- what the test of the words asks, by the end of the walk
end_passes : List Text → Walk → Bool
end_passes words w =
    entered_passes (built options_app) w.stopped
    && (walk_passes line [] (walk_from nothing_held) words
    && (settle_passes line.rules line.args_override_self w.held && (list_all default_passes line.rules && is_valid line (finished line.rules w.held) (is_some (entered (built options_app) w.stopped)))))

taken : (words : List Text) → takes options_app words ≡ end_passes words (fold (walked line.rules []) (walk_from nothing_held) words)
unfolding clap_on_literals end_passes
taken words = refl

end_passes-at : (words : List Text) (rows : List Row) (pending : Option (Text × List Text)) → walk_passes line [] (walk_from nothing_held) words ≡ true → settle_passes line.rules false (at rows pending).held ≡ true → end_passes words (at rows pending) ≡ true
unfolding clap_on_literals end_passes
end_passes-at words rows pending walk settle =
    ap (λ (t : Bool). t && (settle_passes line.rules false (at rows pending).held && true)) walk ∙ ap (λ (t : Bool). t && true) settle

-- the command line takes words that are options
pub takes_options : (given : List Given) → AreOptions all_flags all_valued given → takes options_app (option_words given) ≡ true
takes_options given options =
    let end = walks line all_flags all_valued serves given options.allowed options.once [] (walk_from nothing_held) start (none_yet given) in
    taken (option_words given) ∙ ap (end_passes (option_words given)) end.0.is ∙ end_passes-at (option_words given) end.0.before end.0.pending end.1 end.0.passes

-- the command line is simple
pub is_simple_line : is_simple options_app ≡ true
unfolding clap_on_literals
is_simple_line = refl

matched : (words : List Text) → matches_of options_app words ≡ finished line.rules (fold (walked line.rules []) (walk_from nothing_held) words).held
unfolding clap_on_literals
matched words = refl

rules_are : line.rules ≡ map V all_valued ++ map F all_flags
unfolding clap_on_literals
rules_are = refl

same_both : {X : Type 0} (t : Bool) (x : X) → (if t then x else x) ≡ x
same_both true x = refl
same_both false x = refl

-- an option with a value has no default
valued_defaults : (names : List Text) (rows : List Row) → fold with_default rows (map V names) ≡ rows
valued_defaults [] rows = refl
valued_defaults (name ∷ names) rows = ap (λ (r : List Row). fold with_default r (map V names)) (same_both (has_row name rows) rows) ∙ valued_defaults names rows

-- the rows of options, and then the defaults of the flags
abbrev pub with_flags : List Row → List Row
with_flags rows = fold with_default rows (map F all_flags)

pub rows_are : (given : List Given) → AreOptions all_flags all_valued given → matches_of options_app (option_words given) ≡ with_flags (rows_for given)
rows_are given options =
    let end = walks line all_flags all_valued serves given options.allowed options.once [] (walk_from nothing_held) start (none_yet given) in
    matched (option_words given) ∙ ap (λ (w : Walk). finished line.rules w.held) end.0.is
    ∙ ap (λ (rows : List Row). fold with_default rows line.rules) end.0.settles
    ∙ ap (fold with_default (rows_for given)) rules_are
    ∙ fold-append with_default (rows_for given) (map V all_valued) (map F all_flags)
    ∙ ap with_flags (valued_defaults all_valued (rows_for given))

-- ---- what is found

abbrev seek : Text → List Row → Option Row
seek id rows = find (λ r. bytes_eq r.id id) rows

abbrev default_row : Text → Row
default_row name = record { id = name; values = codes "false" ∷ []; count = None; source = Some DefaultValue; reading = reading_by (F name) }

or_nothing : {X : Type 0} (o : Option X) → option_or o None ≡ o
or_nothing None = refl
or_nothing (Some x) = refl

found_row : (id : Text) (rows : List Row) → has_row id rows ≡ is_some (seek id rows)
found_row id [] = refl
found_row id (row ∷ rows) = go (found_row id rows) (bytes_eq row.id id)
  where
    go : has_row id rows ≡ is_some (seek id rows) → (t : Bool) → (t || has_row id rows) ≡ is_some (if t then Some row else seek id rows)
    go rest true = refl
    go rest false = rest

-- a default is added where there is no row
with_row : (name : Text) (rows : List Row) → has_row name rows ≡ false → with_default rows (F name) ≡ rows ++ default_row name ∷ []
with_row name rows none = ap (λ (t : Bool). if t then rows else with_values name (reading_by (F name)) DefaultValue (codes "false" ∷ []) rows) none ∙ at_end name (more_values DefaultValue (codes "false" ∷ [])) (default_row name ∷ []) rows none

with_none : (name : Text) (rows : List Row) → has_row name rows ≡ true → with_default rows (F name) ≡ rows
with_none name rows some = ap (λ (t : Bool). if t then rows else with_values name (reading_by (F name)) DefaultValue (codes "false" ∷ []) rows) some

default_other : (id name : Text) (rows : List Row) → bytes_eq name id ≡ false → seek id (with_default rows (F name)) ≡ seek id rows
default_other id name rows differ = go (has_row name rows) refl
  where
    go : (t : Bool) → has_row name rows ≡ t → seek id (with_default rows (F name)) ≡ seek id rows
    go true some = ap (seek id) (with_none name rows some)
    go false none =
        ap (seek id) (with_row name rows none) ∙ find-append (λ r. bytes_eq r.id id) rows (default_row name ∷ [])
        ∙ ap (λ (t : Bool). option_or (seek id rows) (if t then Some (default_row name) else None)) differ ∙ or_nothing (seek id rows)

default_same : (name : Text) (rows : List Row) → seek name (with_default rows (F name)) ≡ option_or (seek name rows) (Some (default_row name))
default_same name rows = go (seek name rows) refl
  where
    go : (o : Option Row) → seek name rows ≡ o → seek name (with_default rows (F name)) ≡ option_or (seek name rows) (Some (default_row name))
    go None is =
        ap (seek name) (with_row name rows (found_row name rows ∙ ap is_some is)) ∙ find-append (λ r. bytes_eq r.id name) rows (default_row name ∷ [])
        ∙ ap (λ (t : Bool). option_or (seek name rows) (if t then Some (default_row name) else None)) ((bytes_eq-Decides name name).1 refl)
    go (Some row) is =
        ap (seek name) (with_none name rows (found_row name rows ∙ ap is_some is)) ∙ is ∙ sym (ap (λ (o : Option Row). option_or o (Some (default_row name))) is)

-- a name is compared the other way round
turned : (a b : Text) (t : Bool) → is_same_text a b ≡ t → bytes_eq b a ≡ t
turned a b true is = (bytes_eq-Decides b a).1 (sym (text-is a b is))
turned a b false is = other_bytes b a (λ same. false≢true (sym is ∙ text-same a b (sym same)))

row_named : (name : Text) (option : Given) (t : Bool) → is_same_text name option.name ≡ t → bytes_eq (row_for option.name option.spelling).id name ≡ t
row_named name option t is = ap (λ (id : Text). bytes_eq id name) (row_name option.name option.spelling) ∙ turned name option.name t is

-- the value of an option is found
found_value : (name : Text) → Contains all_valued name → (given : List Given) → Allowed all_flags all_valued given → first_of name (rows_for given) ≡ value_of name given
found_value name valued [] allowed = refl
found_value name valued (option ∷ given) allowed = go (is_same_text name option.name) refl (found_value name valued given allowed.1)
  where
    here : (spelling : Spelling) → IsAllowed all_flags all_valued option.name spelling → name ≡ option.name → slice_get (row_for option.name spelling).values 0 ≡ value_in spelling
    here Alone flag same = absurd (all_apart.apart option.name flag (subst (Contains all_valued) same valued))
    here (Attached value) is same = refl
    here (Apart value) is same = refl

    go : (t : Bool) → is_same_text name option.name ≡ t → first_of name (rows_for given) ≡ value_of name given
        → option_and_then (λ (r : Row). slice_get r.values 0) (if bytes_eq (row_for option.name option.spelling).id name then Some (row_for option.name option.spelling) else seek name (rows_for given)) ≡ (if is_same_text name option.name then value_in option.spelling else value_of name given)
    go true is rest =
        ap (λ (t : Bool). option_and_then (λ (r : Row). slice_get r.values 0) (if t then Some (row_for option.name option.spelling) else seek name (rows_for given))) (row_named name option true is)
        ∙ here option.spelling allowed.0 (text-is name option.name is) ∙ sym (ap (λ (t : Bool). if t then value_in option.spelling else value_of name given) is)
    go false is rest =
        ap (λ (t : Bool). option_and_then (λ (r : Row). slice_get r.values 0) (if t then Some (row_for option.name option.spelling) else seek name (rows_for given))) (row_named name option false is)
        ∙ rest ∙ sym (ap (λ (t : Bool). if t then value_in option.spelling else value_of name given) is)

-- and so is a flag
abbrev told : Bool → Option Text
told true = Some (codes "true")
told false = None

found_flag : (name : Text) → Contains all_flags name → (given : List Given) → Allowed all_flags all_valued given → one_of name (rows_for given) ≡ told (is_given name given)
found_flag name flag [] allowed = refl
found_flag name flag (option ∷ given) allowed = go (is_same_text name option.name) refl (found_flag name flag given allowed.1)
  where
    here : (spelling : Spelling) → IsAllowed all_flags all_valued option.name spelling → name ≡ option.name → row_text (row_for option.name spelling) ≡ Some (codes "true")
    here Alone is same = refl
    here (Attached value) is same = absurd (all_apart.apart option.name (subst (Contains all_flags) same flag) is.0)
    here (Apart value) is same = absurd (all_apart.apart option.name (subst (Contains all_flags) same flag) is.0)

    go : (t : Bool) → is_same_text name option.name ≡ t → one_of name (rows_for given) ≡ told (is_given name given)
        → option_and_then row_text (if bytes_eq (row_for option.name option.spelling).id name then Some (row_for option.name option.spelling) else seek name (rows_for given)) ≡ told (is_same_text name option.name || is_given name given)
    go true is rest =
        ap (λ (t : Bool). option_and_then row_text (if t then Some (row_for option.name option.spelling) else seek name (rows_for given))) (row_named name option true is)
        ∙ here option.spelling allowed.0 (text-is name option.name is) ∙ sym (ap (λ (t : Bool). told (t || is_given name given)) is)
    go false is rest =
        ap (λ (t : Bool). option_and_then row_text (if t then Some (row_for option.name option.spelling) else seek name (rows_for given))) (row_named name option false is)
        ∙ rest ∙ sym (ap (λ (t : Bool). told (t || is_given name given)) is)

nothing : ◌≡◌ {A = Option Text} None (Some (codes "true")) → ⊥
nothing same = cc

nothing_first : (first : Text) → ◌≡◌ {A = Option Text} None (Some first) → ⊥
nothing_first first same = cc

row_filled : (name : Text) (spelling : Spelling) → (first : Text) × (row_text (row_for name spelling) ≡ Some first)
row_filled name Alone = (codes "true", refl)
row_filled name (Attached value) = (value, refl)
row_filled name (Apart value) = (value, refl)

-- a row of an option has a text
filled_rows : (name : Text) (given : List Given) (row : Row) → seek name (rows_for given) ≡ Some row → (first : Text) × (row_text row ≡ Some first)
filled_rows name [] row some = cc
filled_rows name (option ∷ given) row some = go (bytes_eq (row_for option.name option.spelling).id name) (filled_rows name given row) some
  where
    go : (t : Bool) → (seek name (rows_for given) ≡ Some row → (first : Text) × (row_text row ≡ Some first)) → (if t then Some (row_for option.name option.spelling) else seek name (rows_for given)) ≡ Some row → (first : Text) × (row_text row ≡ Some first)
    go true rest same =
        let is : row_for option.name option.spelling ≡ row = cc (same) in
        let first = row_filled option.name option.spelling in
        (first.0, sym (ap row_text is) ∙ first.1)
    go false rest same = rest same

-- where a flag has a row or a default, its text is that
flag_text : (name : Text) (rows : List Row) (said : Bool) → one_of name rows ≡ told said → ((row : Row) → seek name rows ≡ Some row → (first : Text) × (row_text row ≡ Some first)) → (o : Option Row) → seek name rows ≡ o
    → option_and_then row_text (option_or o (Some (default_row name))) ≡ Some (if said then codes "true" else codes "false")
flag_text name rows true is filled None none = absurd (nothing (sym (ap (option_and_then row_text) none) ∙ is))
flag_text name rows false is filled None none = refl
flag_text name rows true is filled (Some row) some = sym (ap (option_and_then row_text) some) ∙ is
flag_text name rows false is filled (Some row) some = let first = filled row some in absurd (nothing_first first.0 (sym is ∙ ap (option_and_then row_text) some ∙ first.1))

-- a default twice is one
default_twice : {X : Type 0} (o : Option X) (x : X) → option_or (option_or o (Some x)) (Some x) ≡ option_or o (Some x)
default_twice None x = refl
default_twice (Some y) x = refl

-- where the defaults of flags have been added, a flag has a row, and what is no flag has the row that it had
sought : (names : List Text) (name : Text) (rows : List Row)
    → seek name (fold with_default rows (map F names)) ≡ (if is_among names name then option_or (seek name rows) (Some (default_row name)) else seek name rows)
sought [] name rows = refl
sought (first ∷ names) name rows = go (is_same_text first name) refl (sought names name (with_default rows (F first)))
  where
    behind : (t : Bool) → seek name (with_default rows (F first)) ≡ option_or (seek name rows) (Some (default_row name))
        → (if t then option_or (seek name (with_default rows (F first))) (Some (default_row name)) else seek name (with_default rows (F first))) ≡ option_or (seek name rows) (Some (default_row name))
    behind true is = ap (λ (o : Option Row). option_or o (Some (default_row name))) is ∙ default_twice (seek name rows) (default_row name)
    behind false is = is

    go : (t : Bool) → is_same_text first name ≡ t
        → seek name (fold with_default (with_default rows (F first)) (map F names)) ≡ (if is_among names name then option_or (seek name (with_default rows (F first))) (Some (default_row name)) else seek name (with_default rows (F first)))
        → seek name (fold with_default (with_default rows (F first)) (map F names)) ≡ (if is_same_text first name || is_among names name then option_or (seek name rows) (Some (default_row name)) else seek name rows)
    go true is rest =
        let same : seek name (with_default rows (F first)) ≡ option_or (seek name rows) (Some (default_row name)) = subst (λ (n : Text). seek name (with_default rows (F n)) ≡ option_or (seek name rows) (Some (default_row name))) (sym (text-is first name is)) (default_same name rows) in
        rest ∙ behind (is_among names name) same ∙ sym (ap (λ (t : Bool). if t || is_among names name then option_or (seek name rows) (Some (default_row name)) else seek name rows) is)
    go false is rest =
        rest ∙ ap (λ (o : Option Row). if is_among names name then option_or o (Some (default_row name)) else o) (default_other name first rows is)
        ∙ sym (ap (λ (t : Bool). if t || is_among names name then option_or (seek name rows) (Some (default_row name)) else seek name rows) is)

-- no option with a value is a flag
no_flag : (name : Text) → is_among all_valued name ≡ true → is_among all_flags name ≡ false
no_flag name valued = go (is_among all_flags name) refl
  where
    go : (t : Bool) → is_among all_flags name ≡ t → t ≡ false
    go true is = absurd (all_apart.apart name (has_name all_flags name is) (has_name all_valued name valued))
    go false is = refl

-- what the options say stands in the matches
pub stand_in : (given : List Given) → AreOptions all_flags all_valued given → StandIn (with_flags (rows_for given)) given
stand_in given options =
    record {
      values =
          λ name valued. ap (option_and_then (λ (r : Row). slice_get r.values 0))
          (sought all_flags name (rows_for given) ∙ ap (λ (t : Bool). if t then option_or (seek name (rows_for given)) (Some (default_row name)) else seek name (rows_for given)) (no_flag name valued))
          ∙ found_value name (has_name all_valued name valued) given options.allowed;
      flags =
          λ name flag. ap (option_and_then row_text)
          (sought all_flags name (rows_for given) ∙ ap (λ (t : Bool). if t then option_or (seek name (rows_for given)) (Some (default_row name)) else seek name (rows_for given)) flag)
          ∙ flag_text name (rows_for given) (is_given name given) (found_flag name (has_name all_flags name flag) given options.allowed) (filled_rows name given) (seek name (rows_for given)) refl;
    }
