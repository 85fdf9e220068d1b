-- The requests, and what of them the words give.
pub use Rattle.fta_words.specs.declared.kind.Kind.{Kind}
pub use Rattle.fta_words.specs.Words.{Request, IsRequest, GiveRequest, GiveNoRequest, file_words, is_set}
