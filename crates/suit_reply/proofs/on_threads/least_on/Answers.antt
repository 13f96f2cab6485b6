use Rattle.std.proofs.Common.{◌≡◌, ◌+◌, ◌-◌, ◌*◌, ◌/◌, ◌%◌, ◌<◌, ◌++◌, ◌∷◌, [], List, Ok, ℕ, length, min, SFits, ℤ}
use Rattle.std.proofs.Common.{◌+ℤ◌, to_z, of_z, append-nil, append_assoc, arith, rules, refl, sym, ap, ◌∙◌, subst}
use Rattle.std.specs.Int.{w128}
use Rattle.std.proofs.lemmas.Int.{to_z-of_z}
use Rattle.std.proofs.lemmas.List.{length-append, nil_from_length}
use Rattle.suit_lists.proofs.Basics.{next_inside}
use Rattle.suit_plans.specs.declared.moves.DefenceMove.{DefenceMove}
use Rattle.suit_reply.specs.AgainstPlan.{IsPlanFor}
use Rattle.suit_reply.specs.LayoutsReplies.{IsReplyIn}
use Rattle.suit_reply.proofs.LeastChunkByChunk.{all_chunks, chunk_fits, chunk_more, next_told}
use Rattle.suit_reply.proofs.OwnMovesGoOn.{layouts_of}
use Rattle.suit_reply.proofs.LeastLayoutByLayout.{all_moves, all_numbers, none_so_far}
use Rattle.suit_reply.proofs.on_threads.least_on.Goals as goal

pub loop-reply-init : goal.loop-reply-init
loop-reply-init g c = (
  refl,
  λ case.
      none_so_far case.question c.args.plan.now 0 (min (0 * c.max-size.result) (length c.args.tree.now.layouts.items))
      c.new-moves.result.items (omega arith) c.new-moves.ensures.items,
)

pub overflow_add-number : goal.overflow_add-number
overflow_add-number g c =
    let case : IsPlanFor c.args.tree.now c.args.plan.now = c.requires in
    let plan = c.args.plan.now in
    let size : ℕ = c.max-size.result in
    let many : ℕ = length c.args.tree.now.layouts.items in
    let done : ℕ = length c.loop-reply.yielded in
    let number : ℤ = to_z w128 c.loop-reply.number-bits in
    let replies = c.in_ok-reply-items.reply-items in
    let reply = c.in_ok-reply.reply in
    let later = c.next.new.self.rest.items in
    let parts : replies.items ≡ c.loop-reply.yielded ++ Ok reply ∷ later =
    sym (c.loop-reply.invariant.0 ∙ c.into_iter-reply-iterator.ensures.into_iter_gives.0)
    ∙ ap (λ l. c.loop-reply.yielded ++ l) (c.in-Some.ensures.steps.0 ∙ ap (λ r. r ∷ later) c.in_ok-reply.was) in
    let below : done < replies.len =
    omega (arith, replies.ok.0, next_inside replies.items c.loop-reply.yielded (Ok reply) later parts) in
    let within : done * size < many = (c.in_ok-reply-items.ensures.each done (Ok reply) below).0 in
    let some : 0 < min size (many - done * size) = omega (arith, within, c.max-size.ensures) in
    let here = next_told (λ n found. (case : IsPlanFor c.args.tree.now plan) → IsReplyIn case.question plan (n * size)
    (min size (many - n * size)) found.number found.moves.items) replies.items c.loop-reply.yielded later reply parts
    (λ n d inside. (c.in_ok-reply-items.ensures.each n d (omega (arith, inside, replies.ok.0))).1) in
    let fits : SFits w128 reply.number = search rules in
    let same : to_z w128 (of_z w128 reply.number) ≡ reply.number = to_z-of_z w128 reply.number fits in
    let both : SFits w128 (number +ℤ to_z w128 (of_z w128 reply.number)) =
    subst (λ (z : ℤ). SFits w128 (number +ℤ z)) (sym same)
    (chunk_fits case.question plan many size done (min size (many - done * size)) some refl number reply.number
    c.loop-reply.moves.items reply.moves.items case.valid case.proper (ap (λ l. length l) case.grown.layouts)
    (c.loop-reply.invariant.1 case) (here case)) in
    both

pub loop-reply-preserved : goal.loop-reply-preserved
loop-reply-preserved g c =
    let next = c.in-Some.reply in
    let yielded = c.loop-reply.yielded in (
      append_assoc yielded (next ∷ []) c.next.new.self.rest.items
          ∙ ap (λ l. yielded ++ l) (sym c.in-Some.ensures.steps.0) ∙ c.loop-reply.invariant.0,
      λ case.
          let plan = c.args.plan.now in
          let size : ℕ = c.max-size.result in
          let many : ℕ = length c.args.tree.now.layouts.items in
          let done : ℕ = length c.loop-reply.yielded in
          let number : ℤ = to_z w128 c.loop-reply.number-bits in
          let replies = c.in_ok-reply-items.reply-items in
          let reply = c.in_ok-reply.reply in
          let later = c.next.new.self.rest.items in
          let parts : replies.items ≡ c.loop-reply.yielded ++ Ok reply ∷ later =
          sym (c.loop-reply.invariant.0 ∙ c.into_iter-reply-iterator.ensures.into_iter_gives.0)
          ∙ ap (λ l. c.loop-reply.yielded ++ l) (c.in-Some.ensures.steps.0 ∙ ap (λ r. r ∷ later) c.in_ok-reply.was) in
          let below : done < replies.len =
          omega (arith, replies.ok.0, next_inside replies.items c.loop-reply.yielded (Ok reply) later parts) in
          let within : done * size < many = (c.in_ok-reply-items.ensures.each done (Ok reply) below).0 in
          let some : 0 < min size (many - done * size) = omega (arith, within, c.max-size.ensures) in
          let here = next_told (λ n found. (case : IsPlanFor c.args.tree.now plan)
          → IsReplyIn case.question plan (n * size)
          (min size (many - n * size)) found.number found.moves.items) replies.items c.loop-reply.yielded later reply
          parts
          (λ n d inside. (c.in_ok-reply-items.ensures.each n d (omega (arith, inside, replies.ok.0))).1) in
          let fits : SFits w128 reply.number = search rules in
          let same : to_z w128 (of_z w128 reply.number) ≡ reply.number = to_z-of_z w128 reply.number fits in
          let both : SFits w128 (number +ℤ to_z w128 (of_z w128 reply.number)) =
          subst (λ (z : ℤ). SFits w128 (number +ℤ z)) (sym same)
          (chunk_fits case.question plan many size done (min size (many - done * size)) some refl number reply.number
          c.loop-reply.moves.items reply.moves.items case.valid case.proper (ap (λ l. length l) case.grown.layouts)
          (c.loop-reply.invariant.1 case) (here case)) in
          let sum : to_z w128 (of_z w128 (number +ℤ to_z w128 (of_z w128 reply.number))) ≡ number +ℤ reply.number =
          to_z-of_z w128 (number +ℤ to_z w128 (of_z w128 reply.number)) both ∙ ap (λ (z : ℤ). number +ℤ z) same in
          let longer : length (yielded ++ next ∷ []) ≡ done + 1 = length-append yielded (next ∷ []) in
          subst (λ (n : ℕ). IsReplyIn case.question plan 0 (min (n * size) many)
          (to_z w128 (of_z w128 (number +ℤ to_z w128 (of_z w128 reply.number)))) c.append.new.self.items) (sym longer)
          (subst (λ (z : ℤ). IsReplyIn case.question plan 0 (min ((done + 1) * size) many) z c.append.new.self.items)
          (sym sum)
          (subst (λ (l : List DefenceMove). IsReplyIn case.question plan 0 (min ((done + 1) * size) many)
          (number +ℤ reply.number) l) (sym c.in_ok-append.ensures.items)
          (chunk_more case.question plan many size done (min size (many - done * size)) some refl number reply.number
          c.loop-reply.moves.items reply.moves.items (c.loop-reply.invariant.1 case) (here case)))),
    )

pub returns-clause-number : goal.returns-clause-number
returns-clause-number g c = λ case.
    let rest = c.loop-reply.reply-iterator.rest in
    let size : ℕ = c.max-size.result in
    let many : ℕ = length c.args.tree.now.layouts.items in
    let replies = c.in_ok-reply-items.reply-items in
    let none : rest.items ≡ [] = nil_from_length rest.items (sym rest.ok.0 ∙ c.in-None.ensures.steps.0) in
    let all : c.loop-reply.yielded ≡ replies.items =
    sym (append-nil c.loop-reply.yielded) ∙ ap (λ l. c.loop-reply.yielded ++ l) (sym none)
    ∙ c.loop-reply.invariant.0 ∙ c.into_iter-reply-iterator.ensures.into_iter_gives.0 in
    let chunks : length c.loop-reply.yielded ≡ many / size + min 1 (many % size) =
    ap (λ l. length l) all ∙ sym replies.ok.0 ∙ c.in_ok-reply-items.ensures.chunks in
    let covered : min (length c.loop-reply.yielded * size) many ≡ length (layouts_of case.question) =
    all_chunks many size (length c.loop-reply.yielded) (omega (arith, c.max-size.ensures)) chunks
    ∙ ap (λ l. length l) case.grown.layouts in
    all_numbers case.question c.args.plan.now (min (length c.loop-reply.yielded * size) many)
    (to_z w128 c.loop-reply.number-bits) c.loop-reply.moves.items covered (c.loop-reply.invariant.1 case)

pub returns-clause-reply : goal.returns-clause-reply
returns-clause-reply g c = λ case.
    let rest = c.loop-reply.reply-iterator.rest in
    let size : ℕ = c.max-size.result in
    let many : ℕ = length c.args.tree.now.layouts.items in
    let replies = c.in_ok-reply-items.reply-items in
    let none : rest.items ≡ [] = nil_from_length rest.items (sym rest.ok.0 ∙ c.in-None.ensures.steps.0) in
    let all : c.loop-reply.yielded ≡ replies.items =
    sym (append-nil c.loop-reply.yielded) ∙ ap (λ l. c.loop-reply.yielded ++ l) (sym none)
    ∙ c.loop-reply.invariant.0 ∙ c.into_iter-reply-iterator.ensures.into_iter_gives.0 in
    let chunks : length c.loop-reply.yielded ≡ many / size + min 1 (many % size) =
    ap (λ l. length l) all ∙ sym replies.ok.0 ∙ c.in_ok-reply-items.ensures.chunks in
    let covered : min (length c.loop-reply.yielded * size) many ≡ length (layouts_of case.question) =
    all_chunks many size (length c.loop-reply.yielded) (omega (arith, c.max-size.ensures)) chunks
    ∙ ap (λ l. length l) case.grown.layouts in
    c.of.ensures
    ∙ all_moves case.question c.args.plan.now (min (length c.loop-reply.yielded * size) many)
    (to_z w128 c.loop-reply.number-bits) c.loop-reply.moves.items covered (c.loop-reply.invariant.1 case)
