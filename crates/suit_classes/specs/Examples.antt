-- Worked examples of the class game, written down by hand.
use Rattle.std.specs.Prelude.{◌≡◌, true, false, [], ◌∷◌, Some, None, map}
use Rattle.suit_cards.specs.declared.seats.Seat.TheVariants.{S}
use Rattle.suit_game.specs.declared.question.Goal.TheVariants.{AtLeast, Tricks}
use Rattle.suit_game.specs.declared.moves.Move.TheVariants as cards
use Rattle.suit_game.specs.Examples.{eleven_cards, ten_cards, tenace}
use Rattle.suit_game.specs.Positions.{after}
use Rattle.suit_classes.specs.declared.classes.Owner.TheVariants as owners
use Rattle.suit_classes.specs.declared.class_moves.ClassMove.TheVariants.{Lead, Follow, ShowOut}
use Rattle.suit_classes.specs.Classes.{hands_of, class_count, class_of, class_owner, class_size, class_top}
use Rattle.suit_classes.specs.Classes.{defence_classes, defence_sizes}
use Rattle.suit_classes.specs.ClassGame.{counts_of, is_decided, merged_moves}
use Rattle.suit_classes.specs.ClassMoves.{merged}

-- the ace, the king, the queen down to the four, the three and the two
abbrev pub ClassesOfTenCards : Type 0
ClassesOfTenCards =
    (map (class_of (hands_of ten_cards)) (14 ∷ 13 ∷ 12 ∷ 8 ∷ 4 ∷ 3 ∷ 2 ∷ []) ≡ 0 ∷ 1 ∷ 2 ∷ 2 ∷ 2 ∷ 3 ∷ 4 ∷ [])
    × (class_count (hands_of ten_cards) ≡ 5)
    ×
    (map (class_owner (hands_of ten_cards)) (0 ∷ 1 ∷ 2 ∷ 3 ∷ 4 ∷ []) ≡ owners.N ∷ owners.Defence ∷ owners.N ∷ owners.S
    ∷ owners.Defence ∷ [])
    × (map (class_top (hands_of ten_cards)) (0 ∷ 2 ∷ 4 ∷ 5 ∷ []) ≡ Some 14 ∷ Some 12 ∷ Some 2 ∷ None ∷ [])
    × (map (class_size (hands_of ten_cards)) (0 ∷ 1 ∷ 2 ∷ 3 ∷ 4 ∷ []) ≡ 1 ∷ 1 ∷ 9 ∷ 1 ∷ 1 ∷ [])

-- the king and the queen are one class of the defenders'
abbrev pub DefenceOfElevenCards : Type 0
DefenceOfElevenCards =
    (defence_classes (hands_of eleven_cards) ≡ 1 ∷ []) × (defence_sizes (hands_of eleven_cards) ≡ 2 ∷ [])

-- West's counts: the king, and of the jack down to the four the ten and the four
abbrev pub CountsInATenace : Type 0
CountsInATenace = counts_of (hands_of (tenace Tricks)) (13 ∷ 10 ∷ 4 ∷ []) ≡ 1 ∷ 2 ∷ []

-- South's three, West's two and North's ace, and then nothing
abbrev pub MergedHistory : Type 0
MergedHistory =
    merged (hands_of ten_cards) (cards.Lead S 3 ∷ cards.Follow 2 ∷ cards.Follow 14 ∷ cards.ShowOut ∷ [])
    ≡ Lead S 3 ∷ Follow 4 ∷ Follow 0 ∷ ShowOut ∷ []

-- each class once: West's king and low cards, and North's leads after the king has fallen
abbrev pub MovesOnce : Type 0
MovesOnce =
    (merged_moves (tenace Tricks) (13 ∷ 10 ∷ 4 ∷ []) (cards.Lead S 3 ∷ []) ≡ Follow 1 ∷ Follow 3 ∷ [])
    × (merged_moves (tenace Tricks) [] (cards.Lead S 3 ∷ []) ≡ ShowOut ∷ [])
    × (merged_moves ten_cards (13 ∷ []) (cards.Lead S 3 ∷ cards.Follow 13 ∷ []) ≡ Follow 0 ∷ Follow 2 ∷ [])

-- a goal of two tricks is out of reach once one is lost, and open before
abbrev pub DecidedInATenace : Type 0
DecidedInATenace =
    (is_decided (tenace (AtLeast 2)) (after (tenace (AtLeast 2)) []) ≡ false)
    ×
    (is_decided (tenace (AtLeast 2)) (after (tenace (AtLeast 2)) (cards.Lead S 3 ∷ cards.Follow 4 ∷ cards.Follow 12
    ∷ [])) ≡ false)
    ×
    (is_decided (tenace (AtLeast 2)) (after (tenace (AtLeast 2)) (cards.Lead S 3 ∷ cards.Follow 4 ∷ cards.Follow 12
    ∷ cards.Follow 5 ∷ [])) ≡ false)
    ×
    (is_decided (tenace (AtLeast 2)) (after (tenace (AtLeast 2)) (cards.Lead S 3 ∷ cards.Follow 4 ∷ cards.Follow 12
    ∷ cards.Follow 13 ∷ [])) ≡ true)
    × (is_decided (tenace (AtLeast 0)) (after (tenace (AtLeast 0)) []) ≡ true)
    × (is_decided (tenace (AtLeast 3)) (after (tenace (AtLeast 3)) []) ≡ true)
