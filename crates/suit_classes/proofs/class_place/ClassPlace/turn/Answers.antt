use Rattle.std.proofs.Common.{◌∙◌, ap}
use Rattle.suit_classes.specs.ClassPlaces.{class_turn}
use Rattle.suit_classes.proofs.ClassGameAgrees.{class_game_agrees}
use Rattle.suit_classes.proofs.class_place.ClassPlace.turn.Goals as goal

pub returns-clause-cards : goal.returns-clause-cards
returns-clause-cards c = λ question west history stands.
    c.turn_now.ensures.value ∙ ap class_turn stands.place ∙ (class_game_agrees question west history stands.play).turn
