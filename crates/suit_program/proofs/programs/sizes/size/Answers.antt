use Rattle.std.proofs.Common.{◌≡◌, ◌+◌, ◌-◌, ◌^◌, ℕ, [], ap, sym, ◌∙◌, arith}
use Rattle.std.specs.Prelude.{min}
use Rattle.suit_program.specs.Supports.Marks.{support_seen}
use Rattle.suit_program.proofs.lemmas.Walks.SizeFromHere.{whole_size}
use Rattle.suit_program.proofs.programs.sizes.size.Goals as goal

pub returns : goal.returns
returns c =
    λ question valid grown.
    c.size_from.ensures question (support_seen question c.args.support.now) [] (c.start.ensures question valid grown)
    ∙ ap (λ (n : ℕ). min n (2 ^ 32 - 1))
    (nothing _ ∙ sym (whole_size question (support_seen question c.args.support.now)))
  where
    nothing : (n : ℕ) → 0 + n ≡ n
    nothing n = omega arith
