use Rattle.std.proofs.Common.{◌≡◌, ◌<◌, List, ℕ, [], length, false, not, ◌∷◌, sym, ◌∙◌, ap, refl, arith, rules}
use Rattle.std.proofs.lemmas.Bool.{false≢true}
use Rattle.fta_words.specs.Words.{option_words}
use Rattle.fta_words.specs.Table.{flags_of, valued_of}
use Rattle.fta_words.proofs.Spelled.{kinds_apart, none_given, options_fewer, options_more}
use Rattle.fta_words.proofs.options.+are_options.Goals as goal

no_words : (words : List (List ℕ)) → length words ≡ 0 → words ≡ []
no_words [] zero = refl
no_words (word ∷ words) zero = absurd (omega (arith, zero))

pub returns-then-is_empty : goal.returns-then-is_empty
returns-then-is_empty t c =
    let zero : length c.args.words.now ≡ 0 = search rules in
    let empty = no_words c.args.words.now zero in
    (λ yes. ([], empty, record { allowed = tt; once = tt }), λ all. refl)

pub returns-in_default : goal.returns-in_default
returns-in_default t c =
    let some : 0 < length c.args.words.now = search rules in (
      λ never. absurd (false≢true never),
      λ all.
          let none = none_given (flags_of c.args.kind) (valued_of c.args.kind) c.args.words.now c.in_default.ensures all.0 all.1 all.2.allowed in
          let empty : ◌≡◌ {A = List (List ℕ)} c.args.words.now [] = all.1 ∙ ap option_words none in
          absurd (omega (arith, ap length empty)),
    )

pub returns-then-not-is_given : goal.returns-then-not-is_given
returns-then-not-is_given t c =
    let none : c.is_given.result ≡ false = search rules in (
      λ more. options_more (flags_of c.args.kind) (valued_of c.args.kind) _ _ _ c.in-Some.ensures c.is_given.result c.is_given.ensures none (c.are_options.ensures.0 more),
      λ all. c.are_options.ensures.1 (options_fewer (flags_of c.args.kind) (valued_of c.args.kind) (kinds_apart c.args.kind) _ _ _ c.in-Some.ensures c.is_given.result c.is_given.ensures all).1,
    )

pub returns-else-not-is_given : goal.returns-else-not-is_given
returns-else-not-is_given t c = (
  λ yes. absurd (false≢true (sym (ap not c.if-not-is_given.false) ∙ yes)),
  λ all.
      let fewer = options_fewer (flags_of c.args.kind) (valued_of c.args.kind) (kinds_apart c.args.kind) _ _ _ c.in-Some.ensures c.is_given.result c.is_given.ensures all in
      let none = fewer.0 in
      search rules,
)
