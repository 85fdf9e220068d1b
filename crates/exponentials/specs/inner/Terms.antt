-- Bounds of the partial of the series, term by term.
use Rattle.std.specs.Prelude.{ℕ, ◌+◌, ◌*◌, ◌^◌, ◌<◌, ◌≤◌, min}
use Rattle.decimals.specs.Decimals.{parts}
use Rattle.exponentials.specs.declared.span.Span.{Span}
use Rattle.exponentials.specs.declared.series.Terms.{Terms}
use Rattle.exponentials.specs.Exponentials.{below, partial}
use Rattle.exponentials.specs.inner.Spans.{IsWithin}

-- the last term and the partial lie within their bounds
pub record AreSummed (whole a b n : ℕ) (terms : Terms) : Type 0 where
  pub term : IsWithin whole (a ^ n) (below b n) terms.term
  pub latest : IsWithin whole (partial a b n).latest (below b n) terms.latest
  pub other : IsWithin whole (partial a b n).other (below b n) terms.other

-- for each x within its bounds
abbrev pub AreTerms : ℕ → Span → ℕ → Terms → Type 0
AreTerms whole x n terms = (a b : ℕ) → 0 < b → a ≤ b → IsWithin whole a b x → AreSummed whole a b n terms

-- a term times x, divided by a count
pub record IsNextTerm (whole count : ℕ) (term x result : Span) : Type 0 where
  pub low : 10 ^ whole * (parts result.low * count) ≤ parts term.low * parts x.low
  pub high : min (10 ^ whole * 10 ^ whole) (parts term.high * parts x.high) ≤ 10 ^ whole * (parts result.high * count)

-- two partial together
pub record IsSum (whole : ℕ) (one other result : Span) : Type 0 where
  pub low : parts result.low ≤ parts one.low + parts other.low
  pub high : min (10 ^ whole) (parts one.high + parts other.high) ≤ parts result.high

-- a product
pub record IsProduct (whole : ℕ) (one other result : Span) : Type 0 where
  pub low : 10 ^ whole * parts result.low ≤ parts one.low * parts other.low
  pub high : min (10 ^ whole * 10 ^ whole) (parts one.high * parts other.high) ≤ 10 ^ whole * parts result.high
