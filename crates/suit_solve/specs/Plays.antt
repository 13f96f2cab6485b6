-- How a round is told that was played.
use Rattle.std.specs.Prelude.{⊤, ◌≡◌, ℕ}
use Rattle.suit_solve.specs.declared.ends.SolveEnd.{SolveEnd}
use Rattle.suit_solve.specs.declared.ends.SolveEnd.TheVariants as ends
use Rattle.suit_solve.specs.declared.round.Round.{Round}
use Rattle.suit_solve.specs.declared.round.Round.TheVariants as rounds
use Rattle.suit_solve.specs.Rounds.{RoundEnd, PastSize, PastPivots, PastWidth, Met, Apart}

-- the end of a round in which a plan and a defence were read
abbrev pub ended_so : Round → RoundEnd
ended_so (rounds.Met answer) = Met answer
ended_so (rounds.Apart own theirs) = Apart own theirs

-- a round that ends so has ended with this reason, or memory was wanted
abbrev pub IsRoundEnd : RoundEnd → ℕ → SolveEnd → Type 0
IsRoundEnd end round (ends.Nodes budget) = ⊥
IsRoundEnd end round (ends.Support told) = (end ≡ PastSize) × (told ≡ round)
IsRoundEnd end round (ends.Pivots told) = (end ≡ PastPivots) × (told ≡ round)
IsRoundEnd end round (ends.Wide told) = (end ≡ PastWidth) × (told ≡ round)
IsRoundEnd end round ends.Memory = ⊤
