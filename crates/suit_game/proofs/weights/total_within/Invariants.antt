use Rattle.std.proofs.Common.{◌≡◌, ◌*◌, ◌^◌, ◌≤◌}
use Rattle.std.specs.List.{sum_by, range_with_len}
use Rattle.suit_num.specs.Binomials.{binomial}
use Rattle.suit_game.specs.Weights.{weight_in_range}
use Rattle.suit_game.proofs.weights.total_within.Given as goal

abbrev pub invariant-loop-west_len : goal.invariant-loop-west_len
invariant-loop-west_len l = record {
  sum : l.total ≡ sum_by (λ count. binomial l.missing count * weight_in_range l.question count)
      (range_with_len 0 l.west_len);
  small : l.total ≤ l.west_len * 2 ^ 39;
}
