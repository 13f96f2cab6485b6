use Rattle.suit_cards.specs.Ranks.{letters}
use Rattle.suit_cards.proofs.RankLetters.{letter_of_is}
use Rattle.suit_cards.proofs.ranks.Rank.letter.Goals as goal

pub returns-clause-ascii : goal.returns-clause-ascii
unfolding letters
returns-clause-ascii c = (letter_of_is c.self.inside.number c.self.invariant).ascii

pub returns-clause-reads_back : goal.returns-clause-reads_back
unfolding letters
returns-clause-reads_back c = rw (← c.self.view_is) (letter_of_is c.self.inside.number c.self.invariant).back
