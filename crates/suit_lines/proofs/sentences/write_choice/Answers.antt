use Rattle.std.proofs.Common.{◌≡◌, ◌++◌, List, ℤ, ap, ◌∙◌, arith, get_or, length, map, rules, sym, to_z, of_z}
use Rattle.std.specs.Int.{w128}
use Rattle.std.proofs.lemmas.Int.{to_z-of_z}
use Rattle.std.specs.Prelude.{codes, nat_lt, pos, FitsSigned}
use Rattle.std.proofs.lemmas.List.{take_all}
use Rattle.suit_classes.specs.declared.class_moves.ClassMove.{ClassMove}
use Rattle.suit_classes.specs.declared.class_moves.ClassMove.TheVariants.{Lead}
use Rattle.suit_cards.specs.declared.seats.Seat.TheVariants.{N}
use Rattle.suit_lines.specs.Sentences.{joined, move_share_words}
use Rattle.suit_lines.proofs.OneMoreTextJoined.{joined_none, words_more}
use Rattle.suit_lines.proofs.sentences.write_choice.Goals as goal

pub loop-index-init : goal.loop-index-init
loop-index-init c = joined_none (codes "; ") c.args.text.now.items

pub loop-index-preserved : goal.loop-index-preserved
loop-index-preserved c =
    let fits : FitsSigned w128 c.args.mass = search rules in
    let split = nat_lt 1 (length c.args.shares.now) in
    let share = get_or c.args.shares.now c.loop-index.index (Lead N 0, pos 0) in
    let plain : c.write_share.new.text.items
    ≡ c.write_between.new.text.items ++ move_share_words c.args.letters.now c.args.turn c.args.mass split share =
    simp to_z-of_z at c.in_ok-write_share.ensures in
    words_more (codes "; ") (move_share_words c.args.letters.now c.args.turn (to_z w128 (of_z w128 c.args.mass)) split)
    c.args.shares.now c.loop-index.index (Lead N 0, pos 0) c.args.text.now.items c.loop-index.text.items
    c.write_between.new.text.items c.write_share.new.text.items c.loop-index-test.true c.loop-index.invariant
    c.in_ok-write_between.ensures
    (plain ∙ ap (λ (z : ℤ). c.write_between.new.text.items
    ++ move_share_words c.args.letters.now c.args.turn z split share) (sym (to_z-of_z w128 c.args.mass fits)))

pub returns : goal.returns
returns c =
    let fits : FitsSigned w128 c.args.mass = search rules in
    let split = nat_lt 1 (length c.args.shares.now) in
    c.loop-index.invariant
    ∙ ap (λ (shares : List (ClassMove × ℤ)). c.args.text.now.items
    ++ joined (codes "; ")
    (map (move_share_words c.args.letters.now c.args.turn (to_z w128 (of_z w128 c.args.mass)) split)
    shares)) (take_all c.loop-index.index c.args.shares.now (omega arith))
    ∙ ap (λ (z : ℤ). c.args.text.now.items
    ++ joined (codes "; ") (map (move_share_words c.args.letters.now c.args.turn z split) c.args.shares.now))
    (to_z-of_z w128 c.args.mass fits)
