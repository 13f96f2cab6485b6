use Rattle.suit_game.specs.PlaceViews.{IsAt, IsPlay}
use Rattle.suit_answer_tests.proofs.lifts.played.Given as goal

abbrev pub invariant-loop-word : goal.invariant-loop-word
invariant-loop-word l =
    IsPlay l.play.question l.play.west l.play.history.items × IsAt l.play.question l.play.history.items l.play.place
