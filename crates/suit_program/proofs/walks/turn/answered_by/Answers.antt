use Rattle.std.proofs.Common.{◌∙◌, ◌+◌, ◌<◌, ◌^◌, ◌++◌, ◌∷◌, [], List, ap, arith, rules, SFits, sym, take, true, false}
use Rattle.std.proofs.Common.{ℕ, ℤ}
use Rattle.std.specs.Int.{w64}
use Rattle.std.proofs.lemmas.Int.{to_z-of_z}
use Rattle.std.specs.Prelude.{◌≡◌}
use Rattle.suit_classes.specs.declared.class_moves.ClassMove.{ClassMove}
use Rattle.suit_classes.specs.WhatIsAllowed.{is_among}
use Rattle.suit_program.specs.declared.walks.ledger.Account.{Account}
use Rattle.suit_program.specs.Walks.Writing.{advanced, answer_seen, place_in}
use Rattle.suit_program.proofs.lemmas.Walks.AccountsAfterAMove.{answered_found, answered_more, answered_past, so_far}
use Rattle.suit_program.proofs.walks.turn.answered_by.Goals.{then-is_among+in_ok-push, else-is_among}
use Rattle.suit_program.proofs.walks.turn.answered_by.Goals as goal

pub loop-answer-init : goal.loop-answer-init
loop-answer-init c = c.in_ok-after.ensures.items

pub overflow_add-answer : goal.overflow_add-answer
overflow_add-answer c =
    let answer = c.answer-item.result in
    let among : is_among answer.moves.items c.args.mv ≡ true =
    ap (λ (l : List ClassMove). is_among l c.args.mv) (sym c.deref.ensures.0) ∙ sym c.if-is_among.ensures in
    let found = answered_found c.args.mv c.args.answers.now c.loop-answer.answer-index answer c.loop-answer-test.true
    c.answer-item.is among in
    let few : answer.account.row + place_in answer.moves.items c.args.mv < 2 ^ 32 =
    c.requires (advanced c.args.mv (answer_seen answer)) found in
    let place : c.place_in-place.result ≡ place_in answer.moves.items c.args.mv =
    c.place_in-place.ensures ∙ ap (λ (l : List ClassMove). place_in l c.args.mv) c.deref-then-is_among.ensures.0 in
    let all : answer.account.row + c.place_in-place.result < 2 ^ 32 = omega (arith, few, place) in
    search rules

pub loop-answer-preserved : goal.loop-answer-preserved
loop-answer-preserved c =
    let answer = c.answer-item.result in
    elim c.if-is_among.branch [
      | then-is_among+in_ok-push w ↦
          let among : is_among answer.moves.items c.args.mv ≡ true =
          ap (λ (l : List ClassMove). is_among l c.args.mv) (sym c.deref.ensures.0) ∙ sym w.if-is_among.ensures in
          let fits : SFits w64 answer.account.factor = search rules in
          ap (λ v. v.items) w.after-is ∙ w.in_ok-push.ensures.items
          ∙ ap (λ (z : ℤ). c.loop-answer.after.items ++ record {
            index = answer.account.index;
            row = answer.account.row + w.place_in-place.result;
            factor = z;
          } ∷ []) (to_z-of_z w64 answer.account.factor fits)
          ∙ ap (λ (l : List Account). l ++ record {
            index = answer.account.index;
            row = answer.account.row + w.place_in-place.result;
            factor = answer.account.factor;
          } ∷ []) c.loop-answer.invariant
          ∙ ap (λ (n : ℕ). so_far c.args.mv (take c.loop-answer.answer-index c.args.answers.now) ++ record {
            index = answer.account.index;
            row = answer.account.row + n;
            factor = answer.account.factor;
          } ∷ []) (w.place_in-place.ensures
          ∙ ap (λ (l : List ClassMove). place_in l c.args.mv) w.deref-then-is_among.ensures.0)
          ∙ sym (answered_more c.args.mv c.args.answers.now c.loop-answer.answer-index answer c.loop-answer-test.true
          c.answer-item.is among)
      | else-is_among w ↦
          let not : is_among answer.moves.items c.args.mv ≡ false =
          ap (λ (l : List ClassMove). is_among l c.args.mv) (sym c.deref.ensures.0) ∙ sym w.if-is_among.ensures in
          ap (λ v. v.items) w.after-is ∙ c.loop-answer.invariant
          ∙ sym (answered_past c.args.mv c.args.answers.now c.loop-answer.answer-index answer c.loop-answer-test.true
          c.answer-item.is not)
    ]
