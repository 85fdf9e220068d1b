use Rattle.std.proofs.Common.{sym, ◌∙◌, ap}
use Rattle.plain_values.specs.Name.{is_same_text}
use Rattle.fta_words.specs.Words.{is_given}
use Rattle.fta_words.specs.Table.{flags_of, valued_of}
use Rattle.fta_words.proofs.Spelled.{first_is, kinds_apart, none_given, said_here, said_later}
use Rattle.fta_words.proofs.options.is_given.Goals as goal

pub returns-then-is_same : goal.returns-then-is_same
returns-then-is_same c = λ given same allowed.
    let left = c.loop-next.invariant given same allowed in
    let is = first_is (flags_of c.args.kind) (valued_of c.args.kind) (kinds_apart c.args.kind) _ _ _ c.in-Some.ensures left.0 left.1 left.2 in
    let name = c.args.name.now in
    let test = ap (is_same_text name) is.3 ∙ sym c.is_same.ensures.value ∙ c.if-is_same.true in
    sym (left.3 ∙ said_here name left.0 is.0 is.1 is.2 test)

pub loop-next-preserved : goal.loop-next-preserved
loop-next-preserved c = λ given same allowed.
    let left = c.loop-next.invariant given same allowed in
    let is = first_is (flags_of c.args.kind) (valued_of c.args.kind) (kinds_apart c.args.kind) _ _ _ c.in-Some.ensures left.0 left.1 left.2 in
    let name = c.args.name.now in
    let test = ap (is_same_text name) is.3 ∙ sym c.is_same.ensures.value ∙ c.if-is_same.false in
    (is.1, is.4, is.5, left.3 ∙ said_later name left.0 is.0 is.1 is.2 test)

pub returns : goal.returns
returns c = λ given same allowed.
    let left = c.loop-next.invariant given same allowed in
    let none = none_given (flags_of c.args.kind) (valued_of c.args.kind) _ c.in_default.ensures left.0 left.1 left.2 in
    sym (left.3 ∙ ap (is_given c.args.name.now) none)
