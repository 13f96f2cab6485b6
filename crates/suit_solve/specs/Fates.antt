-- What becomes of a question.
use Rattle.std.specs.Prelude.{⊤, ◌≡◌, ℕ, zero, suc, not, nat_lt, Result, Ok, Err, filter, length, sum_by}
use Rattle.std.specs.Prelude.{if◌then◌else◌}
use Rattle.suit_cards.specs.Cards.{ClassLayout}
use Rattle.suit_game.specs.declared.question.Question.{Question}
use Rattle.suit_classes.specs.WhatIsAllowed.{is_among}
use Rattle.suit_classes.specs.ClassMoves.{ClassHistory}
use Rattle.suit_tree.specs.WhatIsCounted.{counted_histories, node_count}
use Rattle.suit_program.specs.Supports.{Support, first_support, layouts_of, legal_moves, supported_moves, with_moves}
use Rattle.suit_answer.specs.declared.answer.Answer.{Answer}
use Rattle.suit_solve.specs.declared.ends.SolveEnd.{SolveEnd}
use Rattle.suit_solve.specs.declared.ends.SolveEnd.TheVariants as ends
use Rattle.suit_solve.specs.Rounds.{RoundEnd, PastSize, PastPivots, PastWidth, Met, Apart, Limitless, round_end}

-- what becomes of a question: an answer, or why there is none; it is never want of memory
abbrev pub Fate : Type 0
Fate = Result Answer SolveEnd

-- how many legal moves of a class history a support has not where West has these counts
abbrev pub lacking_at : Question → Support → ClassLayout → ClassHistory → ℕ
lacking_at question support west history =
    length (filter (λ move. not (is_among (supported_moves question support west history) move))
    (legal_moves question west history))

-- how many moves of the tree of a question it has not, over all class layouts
unfoldable pub lacking : Question → Support → ℕ
lacking question support =
    sum_by (λ (layout : ClassLayout × ℕ). sum_by (lacking_at question support layout.0)
    (counted_histories question layout.0)) (layouts_of question)

-- what becomes of a question in a round that ends so, where it is told what comes of a support in the next one
abbrev pub fate_after : Question → Support → (round : ℕ) → (Support → ℕ → Fate) → RoundEnd → Fate
fate_after question support round later PastSize = Err (ends.Support round)
fate_after question support round later PastPivots = Err (ends.Pivots round)
fate_after question support round later PastWidth = Err (ends.Wide round)
fate_after question support round later (Met answer) = Ok answer
fate_after question support round later (Apart own theirs) =
    later (with_moves question support own theirs) (suc round)
fate_after question support round later Limitless = Err ends.Memory

-- what becomes of it with a support, in a round and in fewer rounds than this after it
unfoldable pub fate_from : Question → ℕ → Support → (round : ℕ) → Fate
fate_from question zero support round = Err ends.Memory
fate_from question (suc more) support round =
    fate_after question support round (fate_from question more) (round_end question support)

-- what becomes of it from the support of first moves on: each round but the last adds a move of the tree, so that so
-- many are enough
abbrev pub fate_in_rounds : Question → Fate
fate_in_rounds question = fate_from question (suc (lacking question first_support)) first_support 0

-- what becomes of a question: its tree is counted first
unfoldable pub fate : Question → Fate
fate question =
    if nat_lt question.nodes (node_count question) then Err (ends.Nodes question.nodes) else fate_in_rounds question

-- a question has ended so: this is its fate, or memory was wanted
abbrev pub IsEnd : Question → SolveEnd → Type 0
IsEnd question (ends.Nodes budget) = fate question ≡ Err (ends.Nodes budget)
IsEnd question (ends.Support round) = fate question ≡ Err (ends.Support round)
IsEnd question (ends.Pivots round) = fate question ≡ Err (ends.Pivots round)
IsEnd question (ends.Wide round) = fate question ≡ Err (ends.Wide round)
IsEnd question ends.Memory = ⊤
