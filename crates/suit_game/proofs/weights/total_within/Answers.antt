use Rattle.std.proofs.Common.{length, ap, ◌∙◌, arith}
use Rattle.suit_game.proofs.WhatAllLayoutsWeigh.{term-small, total_more, total_whole}
use Rattle.suit_game.proofs.weights.total_within.Goals as goal

pub overflow_mul-total : goal.overflow_mul-total
overflow_mul-total c =
    let term = term-small c.args.question.now c.len-missing.result c.loop-west_len.west_len _ _
    c.len-missing.ensures.most c.requires c.choose.ensures c.weight_within.ensures in
    record { fits = omega (arith, term) }

pub overflow_add-total : goal.overflow_add-total
overflow_add-total c =
    let term = term-small c.args.question.now c.len-missing.result c.loop-west_len.west_len _ _
    c.len-missing.ensures.most c.requires c.choose.ensures c.weight_within.ensures in
    record { fits = omega (arith, term, c.loop-west_len.invariant.small, c.len-missing.ensures.most) }

pub loop-west_len-preserved : goal.loop-west_len-preserved
loop-west_len-preserved c =
    let term = term-small c.args.question.now c.len-missing.result c.loop-west_len.west_len _ _
    c.len-missing.ensures.most c.requires c.choose.ensures c.weight_within.ensures in
    record {
      sum = total_more c.args.question.now c.len-missing.result c.loop-west_len.west_len _ _ _
          c.loop-west_len.invariant.sum c.choose.ensures c.weight_within.ensures;
      small = omega (arith, term, c.loop-west_len.invariant.small);
    }

pub returns-2 : goal.returns-2
returns-2 c =
    let all = total_more c.args.question.now c.len-missing.result c.loop-west_len.west_len _ _ _
    c.loop-west_len.invariant.sum c.choose.ensures c.weight_within.ensures in
    total_whole c.args.question.now c.len-missing.result c.loop-west_len.west_len _ (c.len-missing.ensures.value
    ∙ ap length c.missing.ensures.value) (omega arith) all
