-- A holding of no card and one more has that card alone.
use Rattle.std.proofs.Common.{◌≡◌, ℕ, zero, suc, ◌+◌, ◌-◌, ◌<◌, [], ◌∷◌, refl, subst, arith}
use Rattle.suit_cards.specs.Ranks.{IsRank}
use Rattle.suit_cards.specs.Holdings.{with_rank, suit}

pub with_rank-none : (index : ℕ) → index < 13 → with_rank [] (index + 2) ≡ (index + 2) ∷ []
unfolding suit
with_rank-none zero below = refl
with_rank-none (suc zero) below = refl
with_rank-none (suc (suc zero)) below = refl
with_rank-none (suc (suc (suc zero))) below = refl
with_rank-none (suc (suc (suc (suc zero)))) below = refl
with_rank-none (suc (suc (suc (suc (suc zero))))) below = refl
with_rank-none (suc (suc (suc (suc (suc (suc zero)))))) below = refl
with_rank-none (suc (suc (suc (suc (suc (suc (suc zero))))))) below = refl
with_rank-none (suc (suc (suc (suc (suc (suc (suc (suc zero)))))))) below = refl
with_rank-none (suc (suc (suc (suc (suc (suc (suc (suc (suc zero))))))))) below = refl
with_rank-none (suc (suc (suc (suc (suc (suc (suc (suc (suc (suc zero)))))))))) below = refl
with_rank-none (suc (suc (suc (suc (suc (suc (suc (suc (suc (suc (suc zero))))))))))) below = refl
with_rank-none (suc (suc (suc (suc (suc (suc (suc (suc (suc (suc (suc (suc zero)))))))))))) below = refl
with_rank-none (suc (suc (suc (suc (suc (suc (suc (suc (suc (suc (suc (suc (suc n))))))))))))) below =
    absurd (omega arith)

-- so a rank alone is its holding
pub with_rank-alone : (rank : ℕ) → IsRank rank → with_rank [] rank ≡ rank ∷ []
with_rank-alone rank is_rank =
    let back : rank - 2 + 2 ≡ rank = omega (arith, is_rank.0) in
    subst (λ (n : ℕ). with_rank [] n ≡ n ∷ []) back (with_rank-none (rank - 2) (omega (arith, is_rank.0, is_rank.1)))
