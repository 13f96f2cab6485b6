use Rattle.std.proofs.Common.{◌≡◌, ◌++◌, ℤ, sym, pos, get_or, arith}
use Rattle.std.specs.Prelude.{FitsSigned}
use Rattle.std.specs.Int.{w128}
use Rattle.std.specs.Fmt.{signed_decimal}
use Rattle.std.proofs.lemmas.Int.{to_z-of_z, ints}
use Rattle.std.proofs.lemmas.List.{append-nil}
use Rattle.suit_cards.specs.declared.seats.Seat.TheVariants.{N}
use Rattle.suit_classes.specs.declared.class_moves.ClassMove.TheVariants.{Lead}
use Rattle.suit_num.specs.Narrow.{IsNarrow}
use Rattle.suit_answer.specs.Letters.{move_word}
use Rattle.suit_answer.proofs.WordsInARow.{spaced_none, wrote_words}
use Rattle.suit_answer.proofs.writing.write_shares.Goals as goal

narrow_fits : (z : ℤ) → IsNarrow z → FitsSigned w128 z
narrow_fits z narrow = omega (arith, ints)

pub loop-mv-init : goal.loop-mv-init
loop-mv-init c = rw spaced_none (sym (append-nil c.args.text.now.items))

pub loop-mv-preserved : goal.loop-mv-preserved
loop-mv-preserved c =
    let share = get_or c.args.shares.now c.loop-mv.mv-index (Lead N 0, pos 0) in
    let writable = c.requires c.loop-mv.mv-index (Lead N 0, pos 0) c.loop-mv-test.true in
    let narrow : IsNarrow share.1 = writable.1.narrow in
    let fits : FitsSigned w128 share.1 = narrow_fits share.1 narrow in
    let number : c.write_number.new.text.items ≡ c.push-in-loop-mv.new.self.items ++ signed_decimal share.1 =
    simp to_z-of_z at c.in_ok-write_number.ensures in
    wrote_words (λ x. move_word c.args.letters.now x.0) (λ x. signed_decimal x.1) c.args.shares.now c.loop-mv.mv-index
    (Lead N 0, pos 0) _ _ _ _ _ _ c.loop-mv-test.true c.loop-mv.invariant c.in_ok-push.ensures.items
    c.in_ok-write_move.ensures c.in_ok-push-2.ensures.items number
