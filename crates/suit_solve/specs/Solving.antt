-- A question on its way through the rounds.
use Rattle.std.specs.Prelude.{⊤, ◌≡◌, ◌<◌, ◌≤◌, ◌+◌, ℕ, suc, List, Option, Some, None, Result, Ok, Err}
use Rattle.suit_game.specs.declared.question.Question.{Question}
use Rattle.suit_game.specs.Validity.{IsValid}
use Rattle.suit_plans.specs.declared.moves.DeclarerMove.{DeclarerMove}
use Rattle.suit_plans.specs.declared.moves.DefenceMove.{DefenceMove}
use Rattle.suit_tree.specs.WhatIsCounted.{node_count}
use Rattle.suit_tree.specs.declared.tree.Tree.{Tree}
use Rattle.suit_tree.specs.Trees.{IsTreeOf}
use Rattle.suit_program.specs.Supports.{Support, first_support, with_moves}
use Rattle.suit_program.specs.Supports.Marks.{support_seen}
use Rattle.suit_answer.specs.declared.answer.Answer.{Answer}
use Rattle.suit_solve.specs.declared.ends.SolveEnd.{SolveEnd}
use Rattle.suit_solve.specs.declared.ends.SolveEnd.TheVariants as ends
use Rattle.suit_solve.specs.declared.solving.Solving.{Solving}
use Rattle.suit_solve.specs.Fates.{lacking}
use Rattle.suit_solve.specs.Plays.{IsRoundEnd}
use Rattle.suit_solve.specs.Rounds.{Met, Apart, round_within}

-- a question, the support of the round that comes next, and the number of that round
pub record SolvingView : Type 0 where
  pub question : Question
  pub support : Support
  pub round : ℕ

-- how far a question has come
abbrev pub solving_seen : Solving → SolvingView
solving_seen solving = record {
  question = solving.question.now;
  support = support_seen solving.question.now solving.support;
  round = solving.round;
}

-- before the first round
abbrev pub first_view : Question → SolvingView
first_view question = record { question = question; support = first_support; round = 0 }

-- after a round that has named these moves
abbrev pub next_view : SolvingView → (own : List DeclarerMove) (theirs : List DefenceMove) → SolvingView
next_view view own theirs = record {
  question = view.question;
  support = with_moves view.question view.support own theirs;
  round = suc view.round;
}

-- no round has begun for this reason: the tree is past its budget, or memory was wanted
abbrev pub IsUnbegun : Question → SolveEnd → Type 0
IsUnbegun question (ends.Nodes budget) = (budget ≡ question.nodes) × (question.nodes < node_count question)
IsUnbegun question (ends.Support round) = ⊥
IsUnbegun question (ends.Pivots round) = ⊥
IsUnbegun question (ends.Wide round) = ⊥
IsUnbegun question ends.Memory = ⊤

-- a round whose run may make so many pivots has been played: it has met, it has named moves and the next one comes, or
-- it has ended without an answer
abbrev pub Steps : SolvingView → (pivots : ℕ) → Result (Option Answer) SolveEnd → SolvingView → Type 0
Steps old pivots (Ok (Some answer)) new = (round_within old.question pivots old.support ≡ Met answer) × (new ≡ old)
Steps old pivots (Ok None) new = (own : List DeclarerMove) × (theirs : List DefenceMove)
    × (round_within old.question pivots old.support ≡ Apart own theirs) × (new ≡ next_view old own theirs)
Steps old pivots (Err end) new =
    IsRoundEnd (round_within old.question pivots old.support) old.round end × (new ≡ old)

-- what holds of a question on its way: its tree is within its budget, and each round has named a move that the support
-- lacked
pub record IsOnItsWay (question : Question) (tree : Tree) (support : Support) (round : ℕ) : Type 0 where
  pub valid : IsValid question
  pub grown : IsTreeOf question tree
  pub within : node_count question ≤ question.nodes
  pub early : round + lacking question support ≤ lacking question first_support

abbrev pub IsUnderWay : Solving → Type 0
IsUnderWay solving = IsOnItsWay solving.question.now solving.tree (solving_seen solving).support solving.round
