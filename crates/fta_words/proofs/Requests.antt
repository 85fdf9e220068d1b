-- Requests: the reading of their words, and that words are one request at most.
use Rattle.std.proofs.Common.{◌≡◌, ℕ, Bool, true, false, if◌then◌else◌, List, [], ◌∷◌, ◌++◌, length, drop, take, Option, Some, None, codes, refl, sym, ap, subst, arith, ◌∙◌}
use Rattle.std.specs.Prelude.{option_map, option_to_list}
use Rattle.std.specs.List.{AllByRecursion}
use Rattle.std.specs.Option.{option_map_or}
use Rattle.std.proofs.lemmas.Bool.{false≢true}
use Rattle.plain_values.specs.Name.{folded, is_same_text}
use Rattle.plain_values.specs.Rising.{RisesWithin}
use Rattle.plain_values.specs.declared.name.Root.{Root}
use Rattle.fta_words.specs.declared.command.Form.{Form}
use Rattle.fta_words.specs.declared.command.Options.{Options}
use Rattle.fta_words.specs.declared.command.Request.{Request as RequestInCode}
use Rattle.fta_words.specs.declared.kind.Kind.{Kind}
use Rattle.fta_words.specs.declared.kind.Shape.{Shape}
use Rattle.fta_words.specs.declared.kind.Shape.TheVariants as shape
use Rattle.fta_words.specs.Table.{flags_of, formats_of, gate_choices, is_among, kind_named, name_of, profile_choices, required_of, shape_of, unrated_choices, valued_of}
use Rattle.fta_words.specs.Words.{Alone, Apart, AreChosen, AreHours, AreOptions, Attached, Given, IsAsked, IsChoice, IsFolded, IsNumberText, IsInFull, IsPlainWord, IsRequest, IsRoot, NamesModel, Request, Say, SayForm, Says, Spelling, before_options, before_to, file_words, files_in, in_full, is_fit, is_given, is_help_of, is_option, option_words, reports_for, shape_named, spelled, value_of, without_to, word_in_full}
use Rattle.fta_words.specs.inner.Reading.{AnswersInFull, IsRead, ReadsAs}
use Rattle.fta_words.specs.inner.Shown.{request_shown}
use Rattle.fta_words.proofs.AllKinds.{name_is_plain}
use Rattle.fta_words.proofs.EachKind.{named_again, same_kind}
use Rattle.fta_words.proofs.Names.{text-is}
use Rattle.fta_words.proofs.Places.{chosen_rise, one_chosen}
use Rattle.fta_words.proofs.PlainFront.{no_end, no_option}
use Rattle.fta_words.proofs.Roots.{one_root}
use Rattle.fta_words.proofs.Spelled.{kinds_apart, one_given}

-- ---- plain words, and then options

-- plain words before an option are those before the first option
pub front_of : (plain options : List (List ℕ)) → AllByRecursion IsPlainWord plain → before_options options ≡ [] → before_options (plain ++ options) ≡ plain
front_of [] options all none = none
front_of (word ∷ plain) options all none = no_end word (before_options (plain ++ options)) (is_option word) (no_option word all.0) ∙ ap (λ l. word ∷ l) (front_of plain options all.1 none)

behind : (plain options : List (List ℕ)) → drop (length plain) (plain ++ options) ≡ options
behind [] options = refl
behind (word ∷ plain) options = behind plain options

first_is_option : (name : List ℕ) (spelling : Spelling) (rest : List (List ℕ)) → before_options (spelled name spelling ++ rest) ≡ []
first_is_option name Alone rest = refl
first_is_option name (Attached value) rest = refl
first_is_option name (Apart value) rest = refl

begin_with_option : (given : List Given) → before_options (option_words given) ≡ []
begin_with_option [] = refl
begin_with_option (option ∷ given) = first_is_option option.name option.spelling (option_words given)

-- the words go on behind those before the first option
pub whole_words : (words : List (List ℕ)) → words ≡ before_options words ++ drop (length (before_options words)) words
whole_words [] = refl
whole_words (word ∷ words) = go (whole_words words) (is_option word)
  where
    go : words ≡ before_options words ++ drop (length (before_options words)) words → (t : Bool) → word ∷ words ≡ (if t then [] else word ∷ before_options words) ++ drop (length (if t then [] else word ∷ before_options words)) (word ∷ words)
    go rest true = refl
    go rest false = ap (λ l. word ∷ l) rest

-- the words before the first option are the name and the plain words
pub front_is : (reports words : List (List ℕ)) (request : Request) → (is : IsInFull reports words request) → before_options words ≡ name_of request.kind ∷ is.plain
front_is reports words request is =
    ap before_options is.words_are ∙ front_of (name_of request.kind ∷ is.plain) (option_words is.given) (name_is_plain request.kind, is.plain_words) (begin_with_option is.given)

-- and the words behind them are the options
back_is : (reports words : List (List ℕ)) (request : Request) → (is : IsInFull reports words request) → drop (length (before_options words)) words ≡ option_words is.given
back_is reports words request is =
    ap (λ l. drop (length l) words) (front_is reports words request is) ∙ ap (drop (length (name_of request.kind ∷ is.plain))) is.words_are
    ∙ behind (name_of request.kind ∷ is.plain) (option_words is.given)

-- ---- requests as they are read

pub to_read : (reports words : List (List ℕ)) (request : Request) → IsInFull reports words request → (k : Kind) (others : List (List ℕ)) → before_options words ≡ name_of k ∷ others
    → IsRead reports k others (drop (length (before_options words)) words) request
to_read reports words request is k others front =
    let whole : name_of request.kind ∷ is.plain ≡ name_of k ∷ others = sym (front_is reports words request is) ∙ front in
    let kinds : request.kind ≡ k = same_kind request.kind k (cc (whole)) in
    let plain : is.plain ≡ others = cc (whole) in
    record {
      kind_is = kinds;
      given = is.given;
      behind_are = back_is reports words request is;
      options = subst (λ j. AreOptions (flags_of j) (valued_of j) is.given) kinds is.options;
      required = subst (λ j. AllByRecursion (λ name. is_given name is.given ≡ true) (required_of j)) kinds is.required;
      fit = subst (λ j. is_fit j is.given ≡ true) kinds is.fit;
      asked =
          subst (λ j. IsAsked (shape_of j) others request.root request.target request.number request.of request.files) kinds
          (subst (λ p. IsAsked (shape_of request.kind) p request.root request.target request.number request.of request.files) plain is.asked);
      said = subst (λ j. Say j reports is.given request.options) kinds is.said;
    }

pub from_read : (reports words : List (List ℕ)) (k : Kind) (others : List (List ℕ)) → AllByRecursion IsPlainWord (before_options words) → before_options words ≡ name_of k ∷ others
    → (request : Request) → IsRead reports k others (drop (length (before_options words)) words) request → IsInFull reports words request
from_read reports words k others all front request read =
    let kinds = sym read.kind_is in
    let plain = subst (AllByRecursion IsPlainWord) front all in
    record {
      plain = others;
      given = read.given;
      words_are =
          whole_words words ∙ ap (λ l. l ++ drop (length (before_options words)) words) front ∙ ap (λ l. (name_of k ∷ others) ++ l) read.behind_are
          ∙ ap (λ j. name_of j ∷ (others ++ option_words read.given)) kinds;
      plain_words = plain.1;
      options = subst (λ j. AreOptions (flags_of j) (valued_of j) read.given) kinds read.options;
      required = subst (λ j. AllByRecursion (λ name. is_given name read.given ≡ true) (required_of j)) kinds read.required;
      fit = subst (λ j. is_fit j read.given ≡ true) kinds read.fit;
      asked = subst (λ j. IsAsked (shape_of j) others request.root request.target request.number request.of request.files) kinds read.asked;
      said = subst (λ j. Say j reports read.given request.options) kinds read.said;
    }

-- the answer of the plain words and those behind them is that of the words
pub answers_from : (reports words : List (List ℕ)) (k : Kind) (others : List (List ℕ)) → AllByRecursion IsPlainWord (before_options words) → before_options words ≡ name_of k ∷ others
    → (answer : Option RequestInCode) → ReadsAs reports k others (drop (length (before_options words)) words) answer → AnswersInFull reports words answer
answers_from reports words k others all front None none = λ request is. none request (to_read reports words request is k others front)
answers_from reports words k others all front (Some request) read = from_read reports words k others all front (request_shown request) read

-- ---- short forms

-- plain words alone are those before the first option
all_front : (plain : List (List ℕ)) → AllByRecursion IsPlainWord plain → before_options plain ≡ plain
all_front [] all = refl
all_front (word ∷ plain) all = no_end word (before_options plain) (is_option word) (no_option word all.0) ∙ ap (λ l. word ∷ l) (all_front plain all.1)

all_behind : (words : List (List ℕ)) → drop (length words) words ≡ []
all_behind [] = refl
all_behind (word ∷ words) = all_behind words

-- the answer of a short form's plain words, with nothing behind them, is that of its words in full
pub answers_short : (reports words : List (List ℕ)) (k : Kind) (plain : List (List ℕ)) → words ≡ name_of k ∷ plain → AllByRecursion IsPlainWord plain
    → (answer : Option RequestInCode) → ReadsAs reports k plain [] answer → AnswersInFull reports words answer
answers_short reports words k plain are all answer reads =
    let every : AllByRecursion IsPlainWord words = subst (AllByRecursion IsPlainWord) (sym are) (name_is_plain k, all) in
    let front : before_options words ≡ words = all_front words every in
    let none : drop (length (before_options words)) words ≡ [] = ap (λ (l : List (List ℕ)). drop (length l) words) front ∙ all_behind words in
    answers_from reports words k plain (subst (AllByRecursion IsPlainWord) (sym front) every) (front ∙ are) answer
    (subst (λ (l : List (List ℕ)). ReadsAs reports k plain l answer) (sym none) reads)

-- ---- one request

one_number : (text : List ℕ) (a b : ℕ) → IsNumberText text a → IsNumberText text b → a ≡ b
one_number text a b x y = x.number_is ∙ sym y.number_is

one_fold : (text a b : List ℕ) → IsFolded text a → IsFolded text b → a ≡ b
one_fold text a b x y = x ∙ sym y

one_hours : (text a b : List ℕ) → AreHours text a → AreHours text b → a ≡ b
one_hours text a b x y = x.1 ∙ sym y.1

one_said : {A : Type 0} (Is : List ℕ → A → Type 0) → ((text : List ℕ) (a b : A) → Is text a → Is text b → a ≡ b) → (said : Option (List ℕ)) (a b : Option A) → Says Is said a → Says Is said b → a ≡ b
one_said Is one None None None x y = refl
one_said Is one None None (Some b) x y = absurd y
one_said Is one None (Some a) b x y = absurd x
one_said Is one (Some text) None b x y = absurd x
one_said Is one (Some text) (Some a) None x y = absurd y
one_said Is one (Some text) (Some a) (Some b) x y = ap (λ v. Some v) (one text a b x y)

-- equal lists of one file each and a word name one file and one word
same_file : (files files₂ : List (List ℕ)) (word word₂ : List ℕ) → length files ≡ 1 → length files₂ ≡ 1 → files ++ word ∷ [] ≡ files₂ ++ word₂ ∷ [] → (files ≡ files₂) × (word ≡ word₂)
same_file [] files₂ word word₂ one other same = absurd (omega (arith, one))
same_file (file ∷ []) [] word word₂ one other same = absurd (omega (arith, other))
same_file (file ∷ []) (file₂ ∷ []) word word₂ one other same = (cc (same), cc (same))
same_file (file ∷ []) (file₂ ∷ more ∷ files₂) word word₂ one other same = absurd (omega (arith, other))
same_file (file ∷ more ∷ files) files₂ word word₂ one other same = absurd (omega (arith, one))

same_model : (w v : List ℕ) (root root₂ : Root) (files files₂ : List (List ℕ)) → w ≡ v → NamesModel w root files → NamesModel v root₂ files₂ → root ≡ root₂
same_model w v root root₂ files files₂ word x y = one_root (folded v) root root₂ (subst (λ l. IsRoot (folded l) root) word x.root_is) y.root_is

-- an option says one word at most
one_choice : (words : List (List ℕ)) (said : Option (List ℕ)) (a b : List ℕ) → IsChoice words said a → IsChoice words said b → a ≡ b
one_choice words None a b x y = x ∙ sym y
one_choice words (Some word) a b x y = x.1 ∙ sym y.1

-- options say of a tree one thing at most
pub one_form : (k : Kind) (given : List Given) (a b : Form) → SayForm k given a → SayForm k given b → a ≡ b
one_form k given a b x y =
    let format = one_choice (formats_of k) (value_of (codes "format") given) a.format b.format x.format y.format in
    let gates = one_choice gate_choices (value_of (codes "gates") given) a.gates b.gates x.gates y.gates in
    let unrated = one_choice unrated_choices (value_of (codes "unrated") given) a.unrated b.unrated x.unrated y.unrated in
    let profile = one_choice profile_choices (value_of (codes "profile") given) a.profile b.profile x.profile y.profile in
    λ i. record { format = format i; gates = gates i; unrated = unrated i; profile = profile i }

-- options say one thing at most
one_say : (k : Kind) (reports : List (List ℕ)) (given : List Given) (a b : Options) → Say k reports given a → Say k reports given b → a ≡ b
one_say k reports given a b x y =
    let p = a.paging in
    let q = b.paging in
    let limit = one_said IsNumberText one_number (value_of (codes "limit") given) p.limit q.limit x.limit y.limit in
    let after = one_said IsFolded one_fold (value_of (codes "after") given) p.after q.after x.after y.after in
    let max_order = one_said IsNumberText one_number (value_of (codes "max-order") given) p.max_order q.max_order x.max_order y.max_order in
    let hours = one_said AreHours one_hours (value_of (codes "hours") given) a.hours b.hours x.hours y.hours in
    let chosen = one_chosen (reports_for k reports) (value_of (codes "reports") given) a.chosen b.chosen x.chosen y.chosen in
    let same : ◌≡◌ {A = Options}
    (record { paging = record { limit = p.limit; after = p.after; max_order = p.max_order }; set = a.set; hours = a.hours; form = a.form; chosen = a.chosen; flags = a.flags })
    (record { paging = record { limit = q.limit; after = q.after; max_order = q.max_order }; set = b.set; hours = b.hours; form = b.form; chosen = b.chosen; flags = b.flags })
    = cc (limit, after, max_order, chosen, hours, x.set ∙ sym y.set, one_form k given a.form b.form x.form y.form, x.flags ∙ sym y.flags) in
    same

-- what two requests have in common that plain words make
record Agree (root root₂ : Root) (target target₂ : List ℕ) (number number₂ : ℕ) (of of₂ : Option Kind) (files files₂ : List (List ℕ)) : Type 0 where
  roots : root ≡ root₂
  targets : target ≡ target₂
  numbers : number ≡ number₂
  ofs : of ≡ of₂
  all_files : files ≡ files₂

-- names of commands are those of one command, or of none
one_topic : (a b : Option Kind) → option_to_list (option_map name_of a) ≡ option_to_list (option_map name_of b) → a ≡ b
one_topic None None same = refl
one_topic None (Some b) same = cc
one_topic (Some a) None same = cc
one_topic (Some a) (Some b) same = ap (λ k. Some k) (same_kind a b (cc (same)))

-- plain words of a shape say one thing at most
one_asked : (s : Shape) (words : List (List ℕ)) (root root₂ : Root) (target target₂ : List ℕ) (number number₂ : ℕ) (of of₂ : Option Kind) (files files₂ : List (List ℕ))
    → IsAsked s words root target number of files → IsAsked s words root₂ target₂ number₂ of₂ files₂ → Agree root root₂ target target₂ number number₂ of of₂ files files₂
one_asked shape.Model words root root₂ target target₂ number number₂ of of₂ files files₂ x y =
    let both : x.0 ∷ files ≡ y.0 ∷ files₂ = sym x.1 ∙ y.1 in
    let word : x.0 ≡ y.0 = cc (both) in
    record { roots = same_model x.0 y.0 root root₂ files files₂ word x.2 y.2; targets = x.3 ∙ sym y.3; numbers = x.4 ∙ sym y.4; ofs = x.5 ∙ sym y.5; all_files = cc (both) }
one_asked shape.Target words root root₂ target target₂ number number₂ of of₂ files files₂ x y =
    let both : x.0 ∷ x.1 ∷ files ≡ y.0 ∷ y.1 ∷ files₂ = sym x.2 ∙ y.2 in
    let word : x.0 ≡ y.0 = cc (both) in
    let named : x.1 ≡ y.1 = cc (both) in
    record { roots = same_model x.0 y.0 root root₂ files files₂ word x.3 y.3; targets = x.4 ∙ ap folded named ∙ sym y.4; numbers = x.5 ∙ sym y.5; ofs = x.6 ∙ sym y.6; all_files = cc (both) }
one_asked shape.Derivation words root root₂ target target₂ number number₂ of of₂ files files₂ x y =
    let both : x.0 ∷ x.1 ∷ files ≡ y.0 ∷ y.1 ∷ files₂ = sym x.2 ∙ y.2 in
    let word : x.0 ≡ y.0 = cc (both) in
    let named : x.1 ≡ y.1 = cc (both) in
    record { roots = same_model x.0 y.0 root root₂ files files₂ word x.3 y.3; targets = x.4 ∙ ap folded named ∙ sym y.4; numbers = x.5 ∙ sym y.5; ofs = x.6 ∙ sym y.6; all_files = cc (both) }
one_asked shape.Requirements words root root₂ target target₂ number number₂ of of₂ files files₂ x y =
    let both : x.0 ∷ files ≡ y.0 ∷ files₂ = sym x.1 ∙ y.1 in
    let word : x.0 ≡ y.0 = cc (both) in
    record { roots = same_model x.0 y.0 root root₂ files files₂ word x.2 y.2; targets = x.3 ∙ sym y.3; numbers = x.4 ∙ sym y.4; ofs = x.5 ∙ sym y.5; all_files = cc (both) }
one_asked shape.Compared words root root₂ target target₂ number number₂ of of₂ files files₂ x y =
    let both : x.0 ∷ x.1 ∷ x.2 ≡ y.0 ∷ y.1 ∷ y.2 = sym x.3 ∙ y.3 in
    let word : x.0 ≡ y.0 = cc (both) in
    let named : x.1 ≡ y.1 = cc (both) in
    let names : x.2 ≡ y.2 = cc (both) in
    record {
      roots = same_model x.0 y.0 root root₂ (before_to x.2) (before_to y.2) word x.4 y.4;
      targets = x.6 ∙ ap folded named ∙ sym y.6;
      numbers = x.7 ∙ ap (λ (l : List (List ℕ)). length (before_to l)) names ∙ sym y.7;
      ofs = x.8 ∙ sym y.8;
      all_files = x.9 ∙ ap without_to names ∙ sym y.9;
    }
one_asked shape.Number words root root₂ target target₂ number number₂ of of₂ files files₂ x y =
    let both : x.0 ∷ [] ≡ y.0 ∷ [] = sym x.1 ∙ y.1 in
    let word : x.0 ≡ y.0 = cc (both) in
    record { roots = x.5 ∙ sym y.5; targets = x.6 ∙ sym y.6; numbers = one_number y.0 number number₂ (subst (λ w. IsNumberText w number) word x.2) y.2; ofs = x.7 ∙ sym y.7; all_files = x.8 ∙ sym y.8 }
one_asked shape.File words root root₂ target target₂ number number₂ of of₂ files files₂ x y =
    record { roots = x.2 ∙ sym y.2; targets = x.3 ∙ sym y.3; numbers = x.4 ∙ sym y.4; ofs = x.5 ∙ sym y.5; all_files = sym x.0 ∙ y.0 }
one_asked shape.Place words root root₂ target target₂ number number₂ of of₂ files files₂ x y =
    let same = same_file files files₂ x.0 y.0 x.2 y.2 (sym x.1 ∙ y.1) in
    record { roots = x.4 ∙ sym y.4; targets = x.5 ∙ sym y.5; numbers = one_number y.0 number number₂ (subst (λ w. IsNumberText w number) same.1 x.3) y.3; ofs = x.6 ∙ sym y.6; all_files = same.0 }
one_asked shape.Code words root root₂ target target₂ number number₂ of of₂ files files₂ x y =
    let both : x.0 ∷ [] ≡ y.0 ∷ [] = sym x.1 ∙ y.1 in
    let word : x.0 ≡ y.0 = cc (both) in
    record { roots = x.4 ∙ sym y.4; targets = x.2 ∙ ap folded word ∙ sym y.2; numbers = x.5 ∙ sym y.5; ofs = x.6 ∙ sym y.6; all_files = x.7 ∙ sym y.7 }
one_asked shape.Topic words root root₂ target target₂ number number₂ of of₂ files files₂ x y =
    record { roots = x.1 ∙ sym y.1; targets = x.2 ∙ sym y.2; numbers = x.3 ∙ sym y.3; ofs = one_topic of of₂ (sym x.0 ∙ y.0); all_files = x.4 ∙ sym y.4 }
one_asked shape.Alone words root root₂ target target₂ number number₂ of of₂ files files₂ x y =
    record { roots = x.1 ∙ sym y.1; targets = x.2 ∙ sym y.2; numbers = x.3 ∙ sym y.3; ofs = x.4 ∙ sym y.4; all_files = x.5 ∙ sym y.5 }

-- plain words and those behind them are one request at most
one_read : (reports : List (List ℕ)) (k : Kind) (plain behind : List (List ℕ)) (a b : Request) → IsRead reports k plain behind a → IsRead reports k plain behind b → a ≡ b
one_read reports k plain behind a b x y =
    let given : x.given ≡ y.given = one_given (flags_of k) (valued_of k) (kinds_apart k) x.given y.given x.options.allowed y.options.allowed (sym x.behind_are ∙ y.behind_are) in
    let said : a.options ≡ b.options = one_say k reports y.given a.options b.options (subst (λ g. Say k reports g a.options) given x.said) y.said in
    let asked = one_asked (shape_of k) plain a.root b.root a.target b.target a.number b.number a.of b.of a.files b.files x.asked y.asked in
    let same : ◌≡◌ {A = Request}
    (record { kind = a.kind; root = a.root; target = a.target; number = a.number; of = a.of; files = a.files; options = a.options })
    (record { kind = b.kind; root = b.root; target = b.target; number = b.number; of = b.of; files = b.files; options = b.options })
    = cc (x.kind_is ∙ sym y.kind_is, asked.roots, asked.targets, asked.numbers, asked.ofs, asked.all_files, said) in
    same

-- words in full are one request at most
one_in_full : (reports words : List (List ℕ)) (a b : Request) → IsInFull reports words a → IsInFull reports words b → a ≡ b
one_in_full reports words a b x y =
    let front = front_is reports words b y in
    one_read reports b.kind y.plain (drop (length (before_options words)) words) a b (to_read reports words a x b.kind y.plain front) (to_read reports words b y b.kind y.plain front)

-- words are one request at most
pub one_request : (reports words : List (List ℕ)) (a b : Request) → IsRequest reports words a → IsRequest reports words b → a ≡ b
one_request reports words a b x y = one_in_full reports (in_full words) a b x y

-- ---- the words that name files

-- the only file of a list before a word
only_file : (files : List (List ℕ)) (word : List ℕ) → length files ≡ 1 → take 1 (files ++ word ∷ []) ≡ files
only_file [] word one = absurd (omega (arith, one))
only_file (file ∷ []) word one = refl
only_file (file ∷ more ∷ files) word one = absurd (omega (arith, one))

-- plain words of a shape with their name name these files
files_asked : (s : Shape) (name : List ℕ) (words : List (List ℕ)) (root : Root) (target : List ℕ) (number : ℕ) (of : Option Kind) (files : List (List ℕ))
    → IsAsked s words root target number of files → files_in s (name ∷ words) ≡ files
files_asked shape.Model name words root target number of files x = ap (drop 1) x.1
files_asked shape.Target name words root target number of files x = ap (drop 2) x.2
files_asked shape.Derivation name words root target number of files x = ap (drop 2) x.2
files_asked shape.Requirements name words root target number of files x = ap (drop 1) x.1
files_asked shape.Compared name words root target number of files x = ap (λ (l : List (List ℕ)). without_to (drop 2 l)) x.3 ∙ sym x.9
files_asked shape.Number name words root target number of files x = ap (drop 1) x.1 ∙ sym x.8
files_asked shape.File name words root target number of files x = x.0
files_asked shape.Place name words root target number of files x = ap (take 1) x.1 ∙ only_file files x.0 x.2
files_asked shape.Code name words root target number of files x = ap (drop 1) x.1 ∙ sym x.7
files_asked shape.Topic name words root target number None files x = ap (drop 2) x.0 ∙ sym x.4
files_asked shape.Topic name words root target number (Some of) files x = ap (drop 2) x.0 ∙ sym x.4
files_asked shape.Alone name words root target number of files x = ap (drop 2) x.0 ∙ sym x.5

-- the words in full that name files are the files of the request
files_in_full : (reports words : List (List ℕ)) (request : Request) → IsInFull reports words request → file_words words ≡ request.files
files_in_full reports words request is =
    let front = front_is reports words request is in
    ap file_words is.words_are ∙ ap (λ s. files_in s (before_options (name_of request.kind ∷ (is.plain ++ option_words is.given)))) (ap (λ k. option_map_or shape_of k shape.Target) (named_again request.kind))
    ∙ ap (files_in (shape_of request.kind)) (sym (ap before_options is.words_are) ∙ front)
    ∙ files_asked (shape_of request.kind) (name_of request.kind) is.plain request.root request.target request.number request.of request.files is.asked

-- no word that stands alone names a file
alone_no_file : (s : Shape) (word : List ℕ) (dash : Bool) → files_in s (if dash then [] else word ∷ []) ≡ []
alone_no_file shape.Model word true = refl
alone_no_file shape.Model word false = refl
alone_no_file shape.Number word true = refl
alone_no_file shape.Number word false = refl
alone_no_file shape.File word true = refl
alone_no_file shape.File word false = refl
alone_no_file shape.Place word true = refl
alone_no_file shape.Place word false = refl
alone_no_file shape.Target word true = refl
alone_no_file shape.Target word false = refl
alone_no_file shape.Derivation word true = refl
alone_no_file shape.Derivation word false = refl
alone_no_file shape.Requirements word true = refl
alone_no_file shape.Requirements word false = refl
alone_no_file shape.Compared word true = refl
alone_no_file shape.Compared word false = refl
alone_no_file shape.Code word true = refl
alone_no_file shape.Code word false = refl
alone_no_file shape.Topic word true = refl
alone_no_file shape.Topic word false = refl
alone_no_file shape.Alone word true = refl
alone_no_file shape.Alone word false = refl

word_no_file : (word : List ℕ) → file_words (word ∷ []) ≡ []
word_no_file word = alone_no_file (shape_named word) word (is_option word)

help_no_file : (name : List ℕ) (dash : Bool) → drop 3 (codes "help" ∷ (if dash then [] else name ∷ [])) ≡ []
help_no_file name true = refl
help_no_file name false = refl

-- two words of which the second is `--help` name no file
two_no_file : (name last : List ℕ) → is_help_of name last ≡ true → file_words (name ∷ last ∷ []) ≡ []
two_no_file name last is = go (kind_named name) is
  where
    go : (k : Option Kind) → option_map_or (λ kind. is_same_text last (codes "--help")) k false ≡ true → file_words (name ∷ last ∷ []) ≡ []
    go None found = absurd (false≢true found)
    go (Some k) found = ap (λ (l : List ℕ). file_words (name ∷ l ∷ [])) (text-is last (codes "--help") found) ∙ alone_no_file (shape_named name) name (is_option name)

-- and so the words in full name the same files
files_kept : (words : List (List ℕ)) → file_words words ≡ file_words (in_full words)
files_kept [] = refl
files_kept (word ∷ []) = word_no_file word ∙ sym (word_no_file (word_in_full word))
files_kept (name ∷ last ∷ []) = go (is_help_of name last) refl
  where
    go : (h : Bool) → is_help_of name last ≡ h → file_words (name ∷ last ∷ []) ≡ file_words (if h then codes "help" ∷ name ∷ [] else name ∷ last ∷ [])
    go true is = two_no_file name last is ∙ sym (help_no_file name (is_option name))
    go false is = refl
files_kept (name ∷ next ∷ more ∷ words) = refl

-- the words that name files are the files of the request
pub file_words_are : (reports words : List (List ℕ)) (request : Request) → IsRequest reports words request → file_words words ≡ request.files
file_words_are reports words request is = files_kept words ∙ files_in_full reports (in_full words) request is

-- ---- the chosen reports

chosen_below : (choosable : Bool) (reports : List (List ℕ)) (text : Option (List ℕ)) (chosen : List ℕ) → AreChosen (if choosable then reports else []) text chosen → RisesWithin 0 (length reports) chosen
chosen_below true reports text chosen are = chosen_rise reports text chosen are
chosen_below false reports text [] are = tt
chosen_below false reports text (place ∷ places) are = let rises = chosen_rise [] text (place ∷ places) are in absurd (omega (arith, rises.1))

-- the places of the chosen reports rise, and each is one of a report
pub places_rise : (reports words : List (List ℕ)) (request : Request) → IsInFull reports words request → RisesWithin 0 (length reports) request.options.chosen
places_rise reports words request is =
    chosen_below (is_among (valued_of request.kind) (codes "reports")) reports (value_of (codes "reports") is.given) request.options.chosen is.said.chosen
