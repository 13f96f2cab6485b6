use Rattle.std.proofs.Common.{◌≡◌, List, ℕ, [], ◌∷◌, sym, ap, ◌∙◌, subst, arith}
use Rattle.suit_cards.specs.Ranks.{IsRank}
use Rattle.suit_cards.specs.Holdings.{IsHolding, with_rank}
use Rattle.suit_cards.proofs.SingleRank.{with_rank-alone}
use Rattle.suit_cards.proofs.holdings.Holding.of.Goals as goal

alone : (held ranks : List ℕ) (rank : ℕ) → ranks ≡ with_rank held rank → held ≡ [] → IsRank rank → ranks ≡ rank ∷ []
alone held ranks rank is none is_rank = is ∙ ap (λ (others : List ℕ). with_rank others rank) none
    ∙ with_rank-alone rank is_rank

pub returns-clause-value : goal.returns-clause-value
returns-clause-value c = alone c.default.result c.with.result c.args.rank c.with.ensures.value c.default.ensures
    c.with.ensures.rank

pub returns-clause-holding : goal.returns-clause-holding
returns-clause-holding c =
    subst IsHolding (sym (alone c.default.result c.with.result c.args.rank c.with.ensures.value c.default.ensures
    c.with.ensures.rank))
    (c.with.ensures.rank.0, omega (arith, c.with.ensures.rank.1), tt)
