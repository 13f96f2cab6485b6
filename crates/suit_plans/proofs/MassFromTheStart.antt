-- The mass of a class history, from its first moves on.
use Rattle.std.proofs.Common.{◌≡◌, ℕ, ◌+◌, ◌<◌, ◌≤◌, List, length, get_or, drop, take, ℤ, refl, sym, ap, ◌∙◌}
use Rattle.std.proofs.lemmas.List.{drop_more, drop_all, take_more}
use Rattle.suit_cards.specs.Cards.{ClassLayout}
use Rattle.suit_game.specs.declared.question.Question.{Question}
use Rattle.suit_classes.specs.declared.class_moves.ClassMove.{ClassMove}
use Rattle.suit_plans.specs.declared.player.PlayerRows.{PlayerRows}
use Rattle.suit_plans.specs.declared.player.PlayerRows.TheVariants.{Declarer, Defence}
use Rattle.suit_plans.specs.Masses.{Side, mass_from, let_through}
use Rattle.suit_plans.specs.Players.{side_with}
use Rattle.suit_classes.specs.ClassMoves.{ClassHistory}

-- a side begins with the mass that it is given
pub begins_with : (rows : PlayerRows) (counts : ClassLayout) (whole : ℤ) → (side_with rows counts whole).whole ≡ whole
begins_with (Declarer rows) counts whole = refl
begins_with (Defence rows) counts whole = refl

-- one move more of a history hands on what it gets
pub mass_walked : (question : Question) (side : Side) (history : ClassHistory) (place : ℕ) (d : ClassMove)
    (mass next : ℤ) → place < length history
    → next ≡ let_through question side (take place history) mass (get_or history place d)
    → mass_from question side (take (place + 1) history) next (drop (place + 1) history)
    ≡ mass_from question side (take place history) mass (drop place history)
unfolding mass_from
mass_walked question side history place d mass next below handed =
    ap (λ (m : ℤ). mass_from question side (take (place + 1) history) m (drop (place + 1) history)) handed
    ∙ ap (λ (h : ClassHistory). mass_from question side h
    (let_through question side (take place history) mass (get_or history place d)) (drop (place + 1) history))
    (take_more history place d below)
    ∙ sym (ap (λ (l : List ClassMove). mass_from question side (take place history) mass l)
    (drop_more history place d below))

-- at its end nothing is left to hand on
pub mass_ended : (question : Question) (side : Side) (history : ClassHistory) (place : ℕ) (mass : ℤ)
    → length history ≤ place
    → mass_from question side (take place history) mass (drop place history) ≡ mass
unfolding mass_from
mass_ended question side history place mass past =
    ap (λ (l : List ClassMove). mass_from question side (take place history) mass l) (drop_all place history past)
