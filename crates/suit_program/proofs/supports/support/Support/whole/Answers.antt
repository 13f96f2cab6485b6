use Rattle.std.proofs.Common.{refl}
use Rattle.suit_program.proofs.lemmas.Supports.FirstAndWhole.{whole_seen}
use Rattle.suit_program.proofs.supports.support.Support.whole.Goals as goal

pub returns : goal.returns
returns c = λ question. whole_seen question _ refl
