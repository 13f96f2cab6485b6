-- Marks: the moves that a support names, as trees along class histories. What a support names is told by them.
use Rattle.std.specs.Prelude.{◌≡◌, ℕ, zero, suc, ◌<◌, ◌&&◌, ◌||◌, Bool, true}
use Rattle.std.specs.Prelude.{false, List, [], ◌∷◌, ◌++◌, Option, Some, None, All, Contains}
use Rattle.std.specs.Prelude.{bytes_eq, length, fold, slice_get, if◌then◌else◌}
use Rattle.std.specs.List.{list_any}
use Rattle.suit_cards.specs.Cards.{ClassLayout}
use Rattle.suit_game.specs.declared.question.Question.{Question}
use Rattle.suit_game.specs.Validity.{IsValid}
use Rattle.suit_classes.specs.declared.class_moves.ClassMove.{ClassMove}
use Rattle.suit_classes.specs.WhatIsAllowed.{allows, is_among}
use Rattle.suit_classes.specs.ClassMoves.{ClassHistory, same_class_move}
use Rattle.suit_classes.specs.ClassPlaces.{class_after, class_decided, class_turn}
use Rattle.suit_plans.specs.declared.moves.DeclarerMove.{DeclarerMove}
use Rattle.suit_plans.specs.declared.moves.DefenceMove.{DefenceMove}
use Rattle.suit_plans.specs.Orders.{same_class_history}
use Rattle.suit_plans.specs.Masses.{is_declarers, is_defences}
use Rattle.suit_plans.specs.Properness.{some_allows}
use Rattle.suit_plans.specs.ReplyLaws.{counts_at}
use Rattle.suit_tree.specs.declared.tree.Tree.{Tree}
use Rattle.suit_tree.specs.Trees.{IsTreeOf, layout_indices}
use Rattle.suit_program.specs.declared.supports.mark.Mark.{Mark, out-Mark}
use Rattle.suit_program.specs.declared.supports.support.Support.{Support as MarkedSupport}
use Rattle.suit_program.specs.Supports.{Support, layouts_of, legal_moves, whole_support}

-- the last move of a mark's class history
abbrev pub last_of : Mark → ClassMove
last_of mark = (out-Mark mark).by

-- the moves that it names there
abbrev pub named_by : Mark → List ClassMove
named_by mark = (out-Mark mark).moves.items

-- the marks of the class histories with one move more
abbrev pub marks_below : Mark → List Mark
marks_below mark = (out-Mark mark).next.items

-- of some marks the first with this last move
unfoldable pub mark_by : ClassMove → List Mark → Option Mark
mark_by move [] = None
mark_by move (mark ∷ marks) = if same_class_move (last_of mark) move then Some mark else mark_by move marks

-- the mark with one move more, where there is one
abbrev pub mark_after : Option Mark → ClassMove → Option Mark
mark_after None move = None
mark_after (Some mark) move = mark_by move (marks_below mark)

-- whether a mark names a move at its class history
abbrev pub names_here : Option Mark → ClassMove → Bool
names_here None move = false
names_here (Some mark) move = is_among (named_by mark) move

-- whether it names one at the class history that goes on from its own by these moves
unfoldable pub named_on : Option Mark → ClassHistory → ClassMove → Bool
named_on mark moves move = names_here (fold mark_after mark moves) move

-- a mark names nothing
abbrev pub NamesNone : Mark → Type 0
NamesNone mark = (moves : ClassHistory) (move : ClassMove) → named_on (Some mark) moves move ≡ false

-- two marks name the same, and stand below the same move
pub record AreAlike (here there : Mark) : Type 0 where
  pub last : last_of here ≡ last_of there
  pub names : (moves : ClassHistory) (move : ClassMove) → named_on (Some here) moves move
      ≡ named_on (Some there) moves move

-- one mark names what another does, and a move more
pub record NamesMore (here there : Mark) (moves : ClassHistory) (move : ClassMove) : Type 0 where
  pub last : last_of here ≡ last_of there
  pub names : (others : ClassHistory) (other : ClassMove) → named_on (Some here) others other
      ≡ (named_on (Some there) others other || (same_class_history moves others && same_class_move move other))

-- the first mark with a last move stands at an index
unfoldable pub IsPlaceOf : ClassMove → List Mark → ℕ → Type 0
IsPlaceOf move [] at = ⊥
IsPlaceOf move (mark ∷ marks) zero = same_class_move (last_of mark) move ≡ true
IsPlaceOf move (mark ∷ marks) (suc at) =
    (same_class_move (last_of mark) move ≡ false) × IsPlaceOf move marks at

-- the mark of the defence's moves in the class layout with an index
abbrev pub defence_mark : MarkedSupport → ℕ → Option Mark
defence_mark support index = slice_get support.defences.items index

-- whether a support names a move of the defence's where West has these counts
unfoldable pub defence_named : Question → MarkedSupport → ClassLayout → ClassHistory → ClassMove → Bool
defence_named question support west history move =
    list_any (λ index. bytes_eq (counts_at question index) west && named_on (defence_mark support index) history move)
    (layout_indices (layouts_of question))

-- what a support names, where it is one of a question
unfoldable pub support_seen : Question → MarkedSupport → Support
support_seen question support =
    if support.all then whole_support
    else record {
      declarers = named_on (Some support.declarers);
      defences = defence_named question support;
    }

-- no position before the end of a class history is decided
abbrev pub GoesPastNone : Question → ClassHistory → Type 0
GoesPastNone question history = (start rest : ClassHistory) → history ≡ start ++ rest → (rest ≡ [] → ⊥)
    → class_decided (class_after question start) ≡ false

-- a move of declarer's is legal at its class history, which some class layout allows and which the tree has
pub record IsOwnMove (question : Question) (entry : DeclarerMove) : Type 0 where
  pub allowed : some_allows question entry.history ≡ true
  pub past : GoesPastNone question entry.history
  pub turn : is_declarers (class_turn (class_after question entry.history)) ≡ true
  pub legal : Contains (legal_moves question [] entry.history) entry.mv

-- a move of the defence's is legal at its class history in its class layout, which allows the history
pub record IsTheirMove (question : Question) (entry : DefenceMove) : Type 0 where
  pub listed : entry.layout < length (layouts_of question)
  pub allowed : allows question (counts_at question entry.layout) entry.history ≡ true
  pub past : GoesPastNone question entry.history
  pub turn : is_defences (class_turn (class_after question entry.history)) ≡ true
  pub legal : Contains (legal_moves question (counts_at question entry.layout) entry.history) entry.mv

-- moves that may be added to a support of the question whose tree this is: each is legal for its side at its place
pub record AreLegalIn (tree : Tree) (own : List DeclarerMove) (theirs : List DefenceMove) : Type 0 where
  pub question : Question
  pub valid : IsValid question
  pub grown : IsTreeOf question tree
  pub own_moves : All (IsOwnMove question) own
  pub their_moves : All (IsTheirMove question) theirs

-- a tree is that of some valid question
pub record IsGrownTree (tree : Tree) : Type 0 where
  pub question : Question
  pub valid : IsValid question
  pub grown : IsTreeOf question tree
