use Rattle.suit_program.proofs.lemmas.Duality.ReadingsMeet.{supported_replies_meet}
use Rattle.suit_program.proofs.duality.laws.supported_replies_meet.Goals as goal

pub returns : goal.returns
returns c = supported_replies_meet
