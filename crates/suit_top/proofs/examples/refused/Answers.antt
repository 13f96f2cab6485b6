use Rattle.std.proofs.Common.{refl}
use Rattle.suit_cards.specs.Holdings.{suit}
use Rattle.suit_cards.specs.Ranks.{letters}
use Rattle.suit_cards.specs.Reading.{spots_from, holding_read}
use Rattle.suit_num.specs.Binomials.{next_row, binomial_row, binomial}
use Rattle.suit_game.specs.Blocks.{blocks_of}
use Rattle.suit_game.specs.Layouts.{choices_of, layouts}
use Rattle.suit_game.specs.Positions.{without}
use Rattle.suit_question.specs.Keywords.{keyword_named}
use Rattle.suit_text.specs.Loose.{pieces_of}
use Rattle.suit_question.specs.Reading.{first_saying, asked_by}
use Rattle.suit_text.specs.Loose.{words_of}
use Rattle.suit_classes.specs.Classes.{class_below}
use Rattle.suit_layouts.specs.ClassLayouts.{class_layouts, class_weight, counts_up_to, weighed}
use Rattle.suit_top.specs.Commands.Weigh.{count_text, layout_line, weights_text}
use Rattle.std.specs.Fmt.{digits}
use Rattle.suit_top.proofs.examples.refused.Goals as goal

pub returns : goal.returns
unfolding digits suit letters spots_from holding_read next_row binomial_row binomial blocks_of choices_of layouts
    without keyword_named pieces_of first_saying asked_by words_of class_below class_layouts class_weight counts_up_to
    weighed count_text layout_line weights_text
returns c = record { twice = refl; vacant = refl; other_word = refl }
