use Rattle.std.proofs.Common.{refl}
use Rattle.suit_program.proofs.lemmas.Supports.FirstAndWhole.{first_seen}
use Rattle.suit_program.proofs.supports.support.Support.first.Goals as goal

pub returns : goal.returns
returns c = λ question. first_seen question _ refl c.none.ensures.names c.new.ensures.items
