-- Classes: the runs of touching cards that North, South or the defenders held at the start.
use Rattle.std.specs.Prelude.{ℕ, zero, suc, ◌+◌, ◌-◌, ◌==◌, Bool, true, false, Option, find, filter, map, length}
use Rattle.std.specs.Prelude.{if◌then◌else◌}
use Rattle.std.specs.List.{range_with_len}
use Rattle.std.specs.Option.{option_map_or}
use Rattle.suit_cards.specs.Cards.{Cards, Indices, Sizes}
use Rattle.suit_cards.specs.Holdings.{holds, suit}
use Rattle.suit_game.specs.declared.question.Question.{Question}
use Rattle.suit_classes.specs.declared.classes.Owner.{Owner}
use Rattle.suit_classes.specs.declared.classes.Owner.TheVariants as owners

-- declarer's hands at the start: they settle the classes
pub record Hands : Type 0 where
  pub north : Cards
  pub south : Cards

abbrev pub hands_of : Question → Hands
hands_of question = record { north = question.north; south = question.south }

-- who held a rank
abbrev pub holder : Hands → ℕ → Owner
holder hands rank =
    if holds hands.north rank then owners.N else if holds hands.south rank then owners.S else owners.Defence

abbrev pub same_owner : Owner → Owner → Bool
same_owner owners.N owners.N = true
same_owner owners.S owners.S = true
same_owner owners.Defence owners.Defence = true
same_owner _ _ = false

-- the number of the class of the rank so many below the ace: that of the rank above it where both were held alike, and
-- else the next
unfoldable pub class_below : Hands → ℕ → ℕ
class_below hands zero = 0
class_below hands (suc n) =
    class_below hands n + (if same_owner (holder hands (14 - n)) (holder hands (14 - suc n)) then 0 else 1)

-- the class of a rank
abbrev pub class_of : Hands → ℕ → ℕ
class_of hands rank = class_below hands (14 - rank)

-- how many classes there are: they are numbered from 0
abbrev pub class_count : Hands → ℕ
class_count hands = class_of hands 2 + 1

-- the highest rank of a class
abbrev pub class_top : Hands → ℕ → Option ℕ
class_top hands class = find (λ rank. class_of hands rank == class) suit

-- who held a class; where there is no such class nobody of declarer's did
abbrev pub class_owner : Hands → ℕ → Owner
class_owner hands class = option_map_or (holder hands) (class_top hands class) owners.Defence

-- the ranks of a class, falling
abbrev pub class_ranks : Hands → ℕ → Cards
class_ranks hands class = filter (λ rank. class_of hands rank == class) suit

-- how many cards a class has
abbrev pub class_size : Hands → ℕ → ℕ
class_size hands class = length (class_ranks hands class)

-- the classes that the defenders held, told by their numbers
abbrev pub defence_classes : Hands → Indices
defence_classes hands =
    filter (λ class. same_owner (class_owner hands class) owners.Defence) (range_with_len 0 (class_count hands))

-- and their sizes
abbrev pub defence_sizes : Hands → Sizes
defence_sizes hands = map (class_size hands) (defence_classes hands)

-- the sizes of the classes that the defenders hold in a question
abbrev pub sizes_of : Question → Sizes
sizes_of question = defence_sizes (hands_of question)
