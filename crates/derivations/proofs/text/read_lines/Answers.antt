use Rattle.std.proofs.Common.{List, ◌+◌, ◌≡◌, length, sym, refl, ◌∙◌, ap, subst, drop, ◌++◌, slice_range}
use Rattle.fault_system.specs.Truth.{member}
use Rattle.derivations.specs.declared.derivation.Firing.{Firing}
use Rattle.derivations.specs.Text.{HaveLines, lines_of}
use Rattle.derivations.specs.inner.Reading.{step_of}
use Rattle.derivations.proofs.Outer.{bad-end, bad-line, next-line, whole-text}
use Rattle.derivations.proofs.Unique.{never-bad, only-steps}
use Rattle.derivations.proofs.text.read_lines.Goals as goal

pub returns-then-end-bytes-clause-read : goal.returns-then-end-bytes-clause-read
returns-then-end-bytes-clause-read c =
    let before = c.loop-at.invariant in
    bad-end c.args.facts.now c.args.names.now (member c.args.events.now) c.requires.differ.0 c.requires.differ.1 c.requires.line_names.0 c.requires.line_names.1 c.args.bytes.now c.loop-at.at c.loop-at.steps c.items.ensures.few c.loop-at-test.true before.lines before.text c.line_end-end.result c.line_end-end.ensures.value c.if-end-bytes.true

pub returns-in_default-clause-read : goal.returns-in_default-clause-read
returns-in_default-clause-read c =
    let before = c.loop-at.invariant in
    let line = slice_range c.args.bytes.now c.loop-at.at c.line_end-end.result in
    bad-line c.args.facts.now c.args.names.now (member c.args.events.now) c.requires.differ.0 c.requires.differ.1 c.requires.line_names.0 c.requires.line_names.1 c.args.bytes.now c.loop-at.at c.loop-at.steps c.items.ensures.few c.loop-at-test.true before.lines before.text c.line_end-end.result line c.line_end-end.ensures.value refl
    (ap (λ (steps : List Firing). step_of c.args.facts.now c.args.names.now (member c.args.events.now) (length steps) line) (sym c.items.ensures.items) ∙ c.in_ok-step.ensures ∙ c.in_default.is)

pub loop-at-preserved : goal.loop-at-preserved
loop-at-preserved c =
    let before = c.loop-at.invariant in
    let line = slice_range c.args.bytes.now c.loop-at.at c.line_end-end.result in
    let kept = next-line c.args.facts.now c.args.names.now (member c.args.events.now) c.requires.differ.0 c.requires.differ.1 c.requires.line_names.0 c.requires.line_names.1 c.args.bytes.now c.loop-at.at c.loop-at.steps c.items.ensures.few c.loop-at-test.true before.lines before.text c.line_end-end.result line c.in-Some.step c.line_end-end.ensures.value c.if-end-bytes.false refl
    (ap (λ (steps : List Firing). step_of c.args.facts.now c.args.names.now (member c.args.events.now) (length steps) line) (sym c.items.ensures.items) ∙ c.in_ok-step.ensures ∙ c.in-Some.is) in
    record {
      within = kept.fits;
      lines = subst (λ (more : List Firing). HaveLines c.args.facts.now c.args.names.now (member c.args.events.now) 0 more) (sym c.in_ok-push.ensures.ok) kept.have;
      text = subst (λ (more : List Firing). c.args.bytes.now ≡ lines_of c.args.facts.now c.args.names.now 0 more ++ drop (c.line_end-end.result + 1) c.args.bytes.now) (sym c.in_ok-push.ensures.ok) kept.whole;
    }

pub returns-then-end-bytes-clause-only : goal.returns-then-end-bytes-clause-only
returns-then-end-bytes-clause-only c = λ steps few text. never-bad c.args.facts.now c.args.names.now (member c.args.events.now) c.requires.differ.0 c.requires.differ.1 c.requires.line_names.0 c.requires.line_names.1 c.args.bytes.now c.loop-at.at steps few text (returns-then-end-bytes-clause-read c)

pub returns-in_default-clause-only : goal.returns-in_default-clause-only
returns-in_default-clause-only c = λ steps few text. never-bad c.args.facts.now c.args.names.now (member c.args.events.now) c.requires.differ.0 c.requires.differ.1 c.requires.line_names.0 c.requires.line_names.1 c.args.bytes.now c.loop-at.at steps few text (returns-in_default-clause-read c)

pub returns-clause-only : goal.returns-clause-only
returns-clause-only c = λ steps few text. only-steps c.args.facts.now c.args.names.now (member c.args.events.now) c.requires.differ.0 c.requires.differ.1 c.requires.line_names.0 c.requires.line_names.1 c.args.bytes.now c.loop-at.steps steps few
    (whole-text c.args.facts.now c.args.names.now (member c.args.events.now) c.args.bytes.now c.loop-at.at c.loop-at.steps c.loop-at-test.false c.loop-at.invariant.lines c.loop-at.invariant.text) text
