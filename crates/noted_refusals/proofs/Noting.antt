-- Refusals that are noted one after the other.
pub use Rattle.noted_refusals.proofs.Laws.{noted-more as noted_more}
