use Rattle.std.proofs.Common.{◌∙◌, ap}
use Rattle.suit_classes.specs.ClassPlaces.{class_decided}
use Rattle.suit_classes.proofs.ClassGameAgrees.{class_game_agrees}
use Rattle.suit_classes.proofs.class_place.ClassPlace.decided.Goals as goal

pub returns-clause-cards : goal.returns-clause-cards
returns-clause-cards c = λ question west history stands.
    c.is_decided.ensures ∙ ap class_decided stands.place ∙ (class_game_agrees question west history stands.play).decided
