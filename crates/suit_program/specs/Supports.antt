-- Supports: at each turn the first move and some more. And what play with the moves of a support reaches.
pub mod Additions
pub mod Marks
use Rattle.std.specs.Prelude.{ℕ, zero, suc, ◌&&◌, ◌||◌, nat_lt, Bool, true, false, List, [], ◌∷◌, ◌++◌, length}
use Rattle.std.specs.Prelude.{filter, not, bytes_eq, if◌then◌else◌}
use Rattle.std.specs.List.{flat_map, list_any}
use Rattle.suit_cards.specs.Cards.{ClassLayout}
use Rattle.suit_game.specs.declared.question.Question.{Question}
use Rattle.suit_game.specs.declared.limits.TheConstants.{MOST_MOVES}
use Rattle.suit_classes.specs.declared.class_moves.ClassMove.{ClassMove}
use Rattle.suit_classes.specs.WhatIsAllowed.{every_move, is_among}
use Rattle.suit_classes.specs.Classes.{sizes_of}
use Rattle.suit_classes.specs.ClassMoves.{ClassHistory, same_class_move}
use Rattle.suit_classes.specs.ClassPlaces.{class_after, class_decided, class_moves, class_turn}
use Rattle.suit_layouts.specs.ClassLayouts.{class_layouts}
use Rattle.suit_plans.specs.declared.moves.DeclarerMove.{DeclarerMove}
use Rattle.suit_plans.specs.declared.moves.DefenceMove.{DefenceMove}
use Rattle.suit_plans.specs.Masses.{is_declarers, is_defences}
use Rattle.suit_plans.specs.Orders.{same_class_history}
use Rattle.suit_plans.specs.ReplyLaws.{counts_at}

-- a support: the moves that it names, of declarer's at class histories, and of the defence's at class histories in
-- class layouts; that the first move of a turn is always in it need not be named, and a move that is not legal counts
-- for nothing
pub record Support : Type 0 where
  pub declarers : ClassHistory → ClassMove → Bool
  pub defences : ClassLayout → ClassHistory → ClassMove → Bool

-- the support of first moves alone
abbrev pub first_support : Support
first_support = record { declarers = λ history move. false; defences = λ west history move. false }

-- the support of all moves
abbrev pub whole_support : Support
whole_support = record { declarers = λ history move. true; defences = λ west history move. true }

-- the class layouts of a question, each with its weight
abbrev pub layouts_of : Question → List (ClassLayout × ℕ)
layouts_of question = class_layouts question (sizes_of question)

-- the moves at a class history where West has these counts, none where play is decided; declarer's do not rest on them,
-- so that none need be given for his
abbrev pub legal_moves : Question → ClassLayout → ClassHistory → List ClassMove
legal_moves question west history =
    if class_decided (class_after question history) then [] else class_moves (class_after question history) west

-- whether a support names a move of the side on turn
abbrev pub names : Question → Support → ClassLayout → ClassHistory → ClassMove → Bool
names question support west history move =
    if is_declarers (class_turn (class_after question history)) then support.declarers history move
    else support.defences west history move

-- the first of some moves, and those of the others that pass a test
abbrev pub first_and : (ClassMove → Bool) → List ClassMove → List ClassMove
first_and named [] = []
first_and named (first ∷ moves) = first ∷ filter named moves

-- the moves of a support at a class history where West has these counts
unfoldable pub supported_moves : Question → Support → ClassLayout → ClassHistory → List ClassMove
supported_moves question support west history =
    first_and (names question support west history) (legal_moves question west history)

-- whether declarer has a choice at a class history: two moves or more
unfoldable pub declarer_chooses : Question → ClassHistory → Bool
declarer_chooses question history =
    is_declarers (class_turn (class_after question history)) && nat_lt 1 (length (legal_moves question [] history))

-- whether the defence has one where West has these counts
unfoldable pub defence_chooses : Question → ClassLayout → ClassHistory → Bool
defence_chooses question west history =
    is_defences (class_turn (class_after question history)) && nat_lt 1 (length (legal_moves question west history))

-- whether some moves, one after the other from a class history on, are in a support
unfoldable pub goes_supported : Question → Support → ClassLayout → ClassHistory → List ClassMove → Bool
goes_supported question support west history [] = true
goes_supported question support west history (move ∷ moves) =
    is_among (supported_moves question support west history) move
    && goes_supported question support west (history ++ move ∷ []) moves

-- whether a class history is reached where West has these counts: each of its moves is legal and in the support
unfoldable pub is_reached : Question → Support → ClassLayout → ClassHistory → Bool
is_reached question support west history = goes_supported question support west [] history

-- the class layouts in which a class history is reached
unfoldable pub reached_layouts : Question → Support → ClassHistory → List (ClassLayout × ℕ)
reached_layouts question support history =
    filter (λ (layout : ClassLayout × ℕ). is_reached question support layout.0 history) (layouts_of question)

-- the moves with which a class history goes on that is reached: those of the support in some class layout in which it
-- is, in order
unfoldable pub next_moves : Question → Support → ClassHistory → List ClassMove
next_moves question support history =
    filter (is_among (flat_map (λ (layout : ClassLayout × ℕ). supported_moves question support layout.0 history)
    (reached_layouts question support history))) every_move

-- a class history and those that go on from it by at most so many of such moves, in order
unfoldable pub histories_from : Question → Support → ℕ → ClassHistory → List ClassHistory
histories_from question support zero history = history ∷ []
histories_from question support (suc more) history =
    history ∷ flat_map (λ move. histories_from question support more (history ++ move ∷ []))
    (next_moves question support history)

-- the class histories that are reached in some class layout, in order
unfoldable pub reached_histories : Question → Support → List ClassHistory
reached_histories question support = histories_from question support MOST_MOVES []

-- whether some moves of declarer's have a move at a class history
unfoldable pub has_declarers : List DeclarerMove → ClassHistory → ClassMove → Bool
has_declarers moves history move =
    list_any (λ (entry : DeclarerMove). same_class_history entry.history history && same_class_move entry.mv move) moves

-- whether some moves of the defence's have one where West has these counts
unfoldable pub has_defences : Question → List DefenceMove → ClassLayout → ClassHistory → ClassMove → Bool
has_defences question moves west history move =
    list_any (λ (entry : DefenceMove). bytes_eq (counts_at question entry.layout) west
    && same_class_history entry.history history && same_class_move entry.mv move) moves

-- a support with more moves
unfoldable pub with_moves : Question → Support → List DeclarerMove → List DefenceMove → Support
with_moves question support own theirs = record {
  declarers = λ history move. support.declarers history move || has_declarers own history move;
  defences = λ west history move. support.defences west history move || has_defences question theirs west history move;
}

-- whether a support has not all of some moves
unfoldable pub are_new : Question → Support → List DeclarerMove → List DefenceMove → Bool
are_new question support own theirs =
    list_any (λ (entry : DeclarerMove). not (is_among (supported_moves question support [] entry.history) entry.mv)) own
    || list_any (λ (entry : DefenceMove). not (is_among
    (supported_moves question support (counts_at question entry.layout) entry.history) entry.mv)) theirs
