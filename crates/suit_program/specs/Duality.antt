-- Weak duality: no plan earns more than a defence lets declarer earn.
use Rattle.std.specs.Prelude.{false, true, [], map, ℕ, ℤ, pos, ◌*ℤ◌, ◌≤ℤ◌}
use Rattle.std.specs.Int.{int_max}
use Rattle.suit_cards.specs.Cards.{ClassLayout}
use Rattle.suit_game.specs.declared.question.Question.{Question}
use Rattle.suit_game.specs.Validity.{IsValid}
use Rattle.suit_classes.specs.ClassPlaces.{class_after, class_payoff}
use Rattle.suit_plans.specs.declared.plan.Plan.{Plan}
use Rattle.suit_plans.specs.declared.defence.Defence.{Defence}
use Rattle.suit_plans.specs.BestReplies.{Reply, least, most, worth}
use Rattle.suit_plans.specs.Masses.{defence_mass, plan_mass}
use Rattle.suit_plans.specs.Properness.{IsProperDefence, IsProperPlan, sum_of}
use Rattle.suit_program.specs.Supports.{layouts_of, legal_moves}

-- a plan and a defence as they meet in a class layout: nobody replies, and a decided class history earns its payoff for
-- what both let through
abbrev pub meeting : Question → Plan → Defence → ClassLayout → Reply
meeting question plan defence west = record {
  moves = λ history. legal_moves question west history;
  replies = λ history. false;
  best = int_max;
  earned = λ history. pos (class_payoff (class_after question history))
      *ℤ (plan_mass question plan history *ℤ defence_mass question defence west history);
  live = λ history. true;
}

-- what they earn when they meet: over all class layouts, the sum of the payoffs for both masses, not yet divided by
-- both denominators and the total weight
unfoldable pub meets : Question → Plan → Defence → ℤ
meets question plan defence =
    sum_of (map (λ (layout : ClassLayout × ℕ). worth (meeting question plan defence layout.0) []) (layouts_of question))

-- it lies between what the plan earns at least and what the defence lets declarer earn at most, each over its own
-- denominator
abbrev pub MeetingsLieBetween : Type 0
MeetingsLieBetween = (question : Question) (plan : Plan) (defence : Defence) → IsValid question
    → IsProperPlan question plan → IsProperDefence question defence
    → ((least question plan *ℤ defence.den) ≤ℤ meets question plan defence)
    × (meets question plan defence ≤ℤ (most question defence *ℤ plan.den))

-- so the least is at most the most; both are over the total weight, which counts for neither
abbrev pub WeakDuality : Type 0
WeakDuality = (question : Question) (plan : Plan) (defence : Defence) → IsValid question
    → IsProperPlan question plan → IsProperDefence question defence
    → (least question plan *ℤ defence.den) ≤ℤ (most question defence *ℤ plan.den)
