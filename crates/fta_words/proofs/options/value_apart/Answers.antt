use Rattle.std.proofs.Common.{◌≡◌, ◌∷◌, List, ℕ, ap, subst, sym, ◌∙◌, rules}
use Rattle.std.proofs.lemmas.Bool.{false≢true}
use Rattle.fta_words.specs.Words.{Apart, IsPlainWord}
use Rattle.fta_words.specs.Table.{flags_of, valued_of}
use Rattle.fta_words.proofs.Spelled.{none_apart}
use Rattle.fta_words.proofs.options.value_apart.Goals.{else-has_valued-via-then-has_valued+else-is_plain, else-has_valued-via-else-has_valued}
use Rattle.fta_words.proofs.options.value_apart.Goals as goal

pub returns-then-is_plain : goal.returns-then-is_plain
returns-then-is_plain c =
    let value = c.items.result.now in
    let whole : c.args.words.now ≡ value ∷ c.in-Some.rest.now = search rules in
    record {
      spelling = Apart value;
      words_are = ap (λ (l : List (List ℕ)). (45 ∷ 45 ∷ c.args.name.now) ∷ l) whole;
      allowed = (search rules, search rules);
    }

pub returns : goal.returns
returns c =
    let whole : c.args.words.now ≡ c.in-Some.value.now ∷ c.in-Some.rest.now = search rules in
    none_apart (flags_of c.args.kind) (valued_of c.args.kind) c.args.name.now c.args.words.now c.requires
    (λ has. false≢true (sym c.if-has_flag.false ∙ c.has_flag.ensures.1 has))
    (λ value later is has plain.
    let same : ◌≡◌ {A = List (List ℕ)} (value ∷ later) (c.in-Some.value.now ∷ c.in-Some.rest.now) = sym is ∙ whole in
    let its : value ≡ c.in-Some.value.now = cc (same) in
    elim c.else-has_valued.branch [
      | else-has_valued-via-then-has_valued+else-is_plain w ↦ false≢true (sym w.if-is_plain.false ∙ w.is_plain.ensures.1 (subst IsPlainWord (its ∙ sym w.items.ensures.items) plain))
      | else-has_valued-via-else-has_valued w ↦ false≢true (sym w.if-has_valued.false ∙ c.has_valued.ensures.1 has)
    ])
