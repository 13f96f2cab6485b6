use Rattle.std.proofs.Common.{◌≡◌, ◌++◌, ◌≤◌, List, ℕ, length, get_or, take, sym, ap, ◌∙◌, arith}
use Rattle.std.specs.Prelude.{codes}
use Rattle.std.proofs.lemmas.Bool.{eqb-false}
use Rattle.std.proofs.lemmas.List.{append-nil, length-take, take_all, take_more}
use Rattle.suit_cards.specs.declared.seats.Seat.TheVariants.{N}
use Rattle.suit_classes.specs.declared.class_moves.ClassMove.{ClassMove}
use Rattle.suit_classes.specs.declared.class_moves.ClassMove.TheVariants.{Lead}
use Rattle.suit_classes.specs.declared.class_turn.ClassTurn.{ClassTurn}
use Rattle.suit_classes.specs.ClassPlaces.{class_after, class_start}
use Rattle.suit_game.specs.declared.limits.TheConstants.{MOST_MOVES}
use Rattle.suit_lines.specs.Sentences.{joined, move_words, words_from}
use Rattle.suit_lines.proofs.OneMoreTextJoined.{moves_more, opening_some, then_written}
use Rattle.suit_lines.proofs.sentences.write_opening.Goals as goal

pub loop-index-init : goal.loop-index-init
unfolding joined words_from
loop-index-init c = record {
  so_far = sym (append-nil c.extend_from_slice-2.new.self.items);
  place = c.start-place.ensures;
}

pub loop-index-preserved : goal.loop-index-preserved
loop-index-preserved c =
    let index = c.loop-index.index in
    let history = c.args.history.now in
    let short : length (take index history) ≤ MOST_MOVES =
    omega (arith, length-take index history, c.loop-index-test.true, c.requires.short) in
    record {
      so_far = moves_more (codes ", ") c.args.letters.now c.args.question.now history index (Lead N 0)
          c.loop-index.place c.extend_from_slice-2.new.self.items c.loop-index.text.items
          c.write_between.new.text.items c.write_move.new.text.items c.loop-index-test.true
          c.loop-index.invariant.place c.loop-index.invariant.so_far c.in_ok-write_between.ensures
          (c.in_ok-write_move.ensures
          ∙ ap (λ (turn : ClassTurn). c.write_between.new.text.items
          ++ move_words c.args.letters.now turn (get_or history index (Lead N 0))) c.turn.ensures.value);
      place = c.step-place.ensures c.args.question.now (take index history) short c.loop-index.invariant.place
          ∙ ap (class_after c.args.question.now) (sym (take_more history index (Lead N 0) c.loop-index-test.true));
    }

pub returns : goal.returns
returns c =
    let history = c.args.history.now in
    let start = class_start c.args.question.now in
    let words : c.loop-index.text.items
    ≡ c.extend_from_slice-2.new.self.items ++ joined (codes ", ") (words_from c.args.letters.now start history) =
    c.loop-index.invariant.so_far
    ∙ ap (λ (moves : List ClassMove). c.extend_from_slice-2.new.self.items
    ++ joined (codes ", ") (words_from c.args.letters.now start moves))
    (take_all c.loop-index.index history (omega arith)) in
    then_written c.args.text.now.items _ c.loop-index.text.items (codes ": ") _
    (then_written c.args.text.now.items (codes "After ") c.extend_from_slice-2.new.self.items
    (joined (codes ", ") (words_from c.args.letters.now start history)) c.loop-index.text.items
    c.in_ok-extend_from_slice-2.ensures.items words) c.in_ok-extend_from_slice-3.ensures.items
    ∙ ap (λ (l : List ℕ). c.args.text.now.items ++ l)
    (sym (opening_some c.args.letters.now start history
    (λ none. eqb-false (length history) 0 (sym c.if-is_empty.ensures) none)))
