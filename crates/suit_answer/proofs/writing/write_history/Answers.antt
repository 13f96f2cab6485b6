use Rattle.std.proofs.Common.{sym}
use Rattle.std.proofs.lemmas.List.{append-nil}
use Rattle.suit_cards.specs.declared.seats.Seat.TheVariants.{N}
use Rattle.suit_classes.specs.declared.class_moves.ClassMove.TheVariants.{Lead}
use Rattle.suit_answer.specs.Letters.{move_word}
use Rattle.suit_answer.proofs.WordsInARow.{spaced_none, wrote_word}
use Rattle.suit_answer.proofs.writing.write_history.Goals as goal

pub loop-mv-init : goal.loop-mv-init
loop-mv-init c = rw spaced_none (sym (append-nil c.args.text.now.items))

pub loop-mv-preserved : goal.loop-mv-preserved
loop-mv-preserved c =
    wrote_word (move_word c.args.letters.now) c.args.history.now c.loop-mv.mv-index (Lead N 0) _ _ _ _
    c.loop-mv-test.true c.loop-mv.invariant c.in_ok-push.ensures.items c.in_ok-write_move.ensures
