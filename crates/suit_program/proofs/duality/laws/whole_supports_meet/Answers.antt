use Rattle.suit_program.proofs.lemmas.Duality.ReadingsMeet.{whole_supports_meet}
use Rattle.suit_program.proofs.duality.laws.whole_supports_meet.Goals as goal

pub returns : goal.returns
returns c = whole_supports_meet
