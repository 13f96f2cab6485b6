-- How a question is written.
use Rattle.std.specs.Prelude.{List, [], ◌∷◌, ◌++◌, codes, decimal}
use Rattle.std.specs.List.{flat_map}
use Rattle.suit_cards.specs.Cards.{Text}
use Rattle.suit_cards.specs.Holdings.{text_of}
use Rattle.suit_game.specs.declared.question.Question.{Question}
use Rattle.suit_game.specs.declared.question.LeadAt.{LeadAt}
use Rattle.suit_game.specs.declared.question.LeadAt.TheVariants.{N, S, Either}
use Rattle.suit_game.specs.declared.question.Entries.{Entries}
use Rattle.suit_game.specs.declared.question.Entries.TheVariants.{Count, Free}
use Rattle.suit_game.specs.declared.question.Goal.{Goal}
use Rattle.suit_game.specs.declared.question.Goal.TheVariants.{AtLeast, Tricks}
use Rattle.suit_text.specs.Writing.{line_text}

-- where the lead stands
abbrev pub lead_text : LeadAt → Text
lead_text N = codes "N"
lead_text S = codes "S"
lead_text Either = codes "either"

-- free entries, or their number
abbrev pub entries_text : Entries → Text
entries_text Free = codes "free"
entries_text (Count left) = decimal left

-- all tricks that can be, or their number
abbrev pub goal_text : Goal → Text
goal_text Tricks = codes "tricks"
goal_text (AtLeast least) = decimal least

-- the lines of the hands and of the lead
abbrev pub hand_lines : Question → List (List Text)
hand_lines question =
    (codes "north" ∷ text_of question.north ∷ [])
    ∷ (codes "south" ∷ text_of question.south ∷ [])
    ∷ (codes "start" ∷ lead_text question.start ∷ [])
    ∷ (codes "regain" ∷ lead_text question.regain ∷ [])
    ∷ []

-- the lines of what is known of the other suits and of West
abbrev pub place_lines : Question → List (List Text)
place_lines question =
    (codes "entries" ∷ entries_text question.entries_n ∷ entries_text question.entries_s ∷ [])
    ∷ (codes "vacant" ∷ decimal question.vacant_w ∷ decimal question.vacant_e ∷ [])
    ∷ (codes "west" ∷ decimal question.west_least ∷ decimal question.west_most ∷ [])
    ∷ []

-- the lines of the goal and the budgets, and the end
abbrev pub goal_lines : Question → List (List Text)
goal_lines question =
    (codes "goal" ∷ goal_text question.goal ∷ [])
    ∷ (codes "nodes" ∷ decimal question.nodes ∷ [])
    ∷ (codes "pivots" ∷ decimal question.pivots ∷ [])
    ∷ (codes "end" ∷ [])
    ∷ []

-- the eleven lines of a question, each as its words
abbrev pub question_lines : Question → List (List Text)
question_lines question = hand_lines question ++ (place_lines question ++ goal_lines question)

-- the text of a question
abbrev pub text_written : Question → Text
text_written question = flat_map line_text (question_lines question)
