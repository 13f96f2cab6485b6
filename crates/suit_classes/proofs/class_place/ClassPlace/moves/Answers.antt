use Rattle.std.proofs.Common.{◌∙◌, ap}
use Rattle.suit_classes.specs.Classes.{hands_of}
use Rattle.suit_classes.specs.ClassMoves.{merged}
use Rattle.suit_classes.specs.ClassPlaces.{ClassView, class_after, class_moves}
use Rattle.suit_classes.proofs.ClassGameAgrees.{class_game_agrees}
use Rattle.suit_classes.proofs.class_place.ClassPlace.moves.Goals as goal

pub returns-clause-cards : goal.returns-clause-cards
returns-clause-cards c = λ question west history stands counts.
    c.moves_for.ensures ∙ ap (λ (view : ClassView). class_moves view c.args.counts.now) stands.place
    ∙ ap (class_moves (class_after question (merged (hands_of question) history))) counts
    ∙ (class_game_agrees question west history stands.play).moves
