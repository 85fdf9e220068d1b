use Rattle.aadl_lexer.proofs.Folding.{front_text}
use Rattle.aadl_lexer.proofs.lexer.core_piece.Goals as goal

pub take_front-requires-clause-form : goal.take_front-requires-clause-form
take_front-requires-clause-form c = front_text _ _ _ c.in_ok-front.ensures.ok.longest.form
