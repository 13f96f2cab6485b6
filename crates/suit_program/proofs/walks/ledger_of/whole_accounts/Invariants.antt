use Rattle.std.proofs.Common.{◌≡◌, [], get_or, map, pos}
use Rattle.std.specs.List.{range_with_len}
use Rattle.suit_program.proofs.walks.ledger_of.whole_accounts.Given as goal

abbrev pub invariant-loop-index : goal.invariant-loop-index
invariant-loop-index l =
    l.accounts.items
    ≡ map (λ index. record { index = index; row = 0; factor = pos (get_or l.layouts index ([], 0)).1 })
    (range_with_len 0 l.index)
