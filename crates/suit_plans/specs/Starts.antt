-- Where a walk through a class history starts. Only private contracts cite this.
use Rattle.std.specs.Prelude.{◌≡◌, ◌<◌}
use Rattle.suit_cards.specs.Cards.{ClassLayout}
use Rattle.suit_game.specs.declared.question.Question.{Question}
use Rattle.suit_game.specs.Validity.{IsValid}
use Rattle.suit_classes.specs.declared.class_view.ClassView.{ClassView}
use Rattle.suit_classes.specs.ClassPlaces.{class_start}
use Rattle.suit_plans.specs.Masses.{weight_of}

-- the first position of a question of which counts of West's are a class layout of positive weight
pub record IsStart (start : ClassView) (counts : ClassLayout) : Type 0 where
  pub question : Question
  pub valid : IsValid question
  pub weighs : 0 < weight_of question counts
  pub first : start ≡ class_start question
