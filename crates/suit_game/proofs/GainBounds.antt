-- A bound for the pays under all layouts is one for the gain.
use Rattle.std.proofs.Common.{◌≡◌, ℕ, ◌≤◌, true, nat_le, List, [], length, map, inl, inr, arith}
use Rattle.std.proofs.lemmas.Bool.{cases_Bool, leb-true, le-leb}
use Rattle.std.specs.List.{AllByRecursion}
use Rattle.suit_game.specs.declared.question.Question.{Question}
use Rattle.suit_game.specs.declared.question.Goal.{Goal}
use Rattle.suit_game.specs.declared.question.Goal.TheVariants.{AtLeast, Tricks}
use Rattle.suit_game.specs.Fractions.{Fraction, IsAtLeast, IsAtMost}
use Rattle.suit_game.specs.Layouts.{layouts, weight}
use Rattle.suit_game.specs.Question.{missing}
use Rattle.suit_game.specs.Positions.{payoff}
use Rattle.suit_game.specs.Strategies.{Way, DefenceWay}
use Rattle.suit_game.specs.Gains.{pay, gain}
use Rattle.suit_game.proofs.MeansLieBetween.{mean-least, mean-most}
use Rattle.suit_game.proofs.LayoutCards.{IsPart, layouts-parts}
use Rattle.suit_lists.proofs.Elements.{each_gives}
use Rattle.suit_lists.proofs.Maps.{each_map}

-- more tricks are never worth less
pub payoff-grows : (goal : Goal) (fewer more : ℕ) → fewer ≤ more → payoff goal fewer ≤ payoff goal more
payoff-grows Tricks fewer more order = order
payoff-grows (AtLeast least) fewer more order =
    elim (cases_Bool (nat_le least fewer)) [
      | inl enough ↦
          let too : nat_le least more ≡ true = le-leb least more (omega (arith, leb-true least fewer enough)) in
          rw (enough, too) (omega arith)
      | inr short ↦ rw short (omega arith)
    ]

-- what holds of the pay under each layout holds of each item of the gain
each_pay : (Good : Fraction → Type 0) (question : Question) (declarer : Way) (defence : DefenceWay)
    → ((west : List ℕ) → IsPart 15 (missing question) west → Good (pay question declarer defence west []))
    → AllByRecursion (λ (item : ℕ × Fraction). Good item.1)
    (map (λ (west : List ℕ). (weight question (length west), pay question declarer defence west []))
    (layouts question))
each_pay Good question declarer defence each =
    each_map (λ (item : ℕ × Fraction). Good item.1) (λ (west : List ℕ). (
      weight question (length west),
      pay question declarer defence west [],
    )) (layouts question)
    (each_gives (IsPart 15 (missing question)) (λ (west : List ℕ). Good (pay question declarer defence west []))
    (layouts question)
    each (layouts-parts question))

-- a bound for the pays under all layouts is one for the gain
pub gain-least : (num den : ℕ) (question : Question) (declarer : Way) (defence : DefenceWay)
    → ((west : List ℕ) → IsPart 15 (missing question) west → IsAtLeast (pay question declarer defence west []) num den)
    → IsAtLeast (gain question declarer defence) num den
gain-least num den question declarer defence each =
    mean-least num den _ (each_pay (λ fraction. IsAtLeast fraction num den) question declarer defence each)

pub gain-most : (num den : ℕ) (question : Question) (declarer : Way) (defence : DefenceWay)
    → ((west : List ℕ) → IsPart 15 (missing question) west → IsAtMost (pay question declarer defence west []) num den)
    → IsAtMost (gain question declarer defence) num den
gain-most num den question declarer defence each =
    mean-most num den _ (each_pay (λ fraction. IsAtMost fraction num den) question declarer defence each)
