use Rattle.std.proofs.Common.{refl}
use Rattle.suit_cards.specs.Holdings.{suit}
use Rattle.suit_cards.specs.Ranks.{letters}
use Rattle.suit_cards.specs.Reading.{spots_from, holding_read}
use Rattle.suit_num.specs.Binomials.{next_row, binomial_row, binomial}
use Rattle.suit_game.specs.Layouts.{choices_of, layouts}
use Rattle.suit_question.specs.Keywords.{keyword_named}
use Rattle.suit_text.specs.Loose.{pieces_of}
use Rattle.suit_text.specs.Loose.{words_of}
use Rattle.suit_question.specs.Reading.{first_saying, asked_by, end_of}
use Rattle.suit_question.proofs.examples.ends.Goals as goal

pub returns : goal.returns
unfolding suit letters spots_from holding_read next_row binomial_row binomial choices_of layouts pieces_of words_of
    keyword_named first_saying asked_by end_of
returns c = record { nothing = refl; first = refl; spaced = refl; last = refl; none = refl }
