use Rattle.std.proofs.Common.{rules}
use Rattle.suit_cards.proofs.RankLetters.{IsSome-rank_named}
use Rattle.suit_cards.proofs.ranks.Rank.of.Goals as goal

pub returns-in_err-index-clause-value : goal.returns-in_err-index-clause-value
returns-in_err-index-clause-value c = search rules

pub returns-in_err-index-clause-known : goal.returns-in_err-index-clause-known
returns-in_err-index-clause-known c = rw (returns-in_err-index-clause-value c) (IsSome-rank_named c.args.letter)

pub returns-clause-value : goal.returns-clause-value
returns-clause-value c = search rules

pub returns-clause-known : goal.returns-clause-known
returns-clause-known c = rw (← returns-clause-value c) at (IsSome-rank_named c.args.letter)
