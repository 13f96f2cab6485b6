use Rattle.std.proofs.Common.{◌∙◌, sym}
use Rattle.suit_lift.proofs.SameCards.{among_cards}
use Rattle.suit_answer_tests.proofs.lifts.is_among.Goals as goal

pub returns : goal.returns
returns c told = among_cards c.args.moves.now c.args.mv.now (sym c.contains.ensures.value ∙ told)
