use Rattle.std.proofs.Common.{◌≡◌, ◌++◌, [], ◌∷◌, List, get_or, length, map, refl, sym, ap, ◌∙◌, arith}
use Rattle.std.proofs.Common.{rules}
use Rattle.std.specs.Prelude.{Contains, filter, pos, FitsSigned}
use Rattle.std.specs.Int.{w128}
use Rattle.std.proofs.lemmas.Int.{to_z-of_z}
use Rattle.std.proofs.lemmas.List.{length-append}
use Rattle.std.proofs.lemmas.List.Elements.{Contains-get_or}
use Rattle.suit_lists.proofs.Elements.{Contains-same}
use Rattle.suit_cards.specs.declared.seats.Seat.TheVariants.{N}
use Rattle.suit_classes.specs.declared.class_moves.ClassMove.{ClassMove}
use Rattle.suit_classes.specs.declared.class_moves.ClassMove.TheVariants.{Lead}
use Rattle.suit_classes.specs.ClassMoves.{ClassHistory}
use Rattle.suit_plans.specs.BestReplies.{public_moves}
use Rattle.suit_plans.proofs.ProperOrders.{plan_in_order}
use Rattle.suit_lines.specs.Told.{is_live, live_shares, share_of}
use Rattle.suit_lines.specs.Walks.{own_line}
use Rattle.suit_lines.proofs.WalkWhereMassGoes.{lines_all, moves_are, share_fits, shares_are, stands_longer}
use Rattle.suit_lines.proofs.WalkWhereMassGoes.{stands_next}
use Rattle.suit_lines.proofs.WalkWhereMassGoes.{stands_same, stands_short}
use Rattle.suit_lines.proofs.telling.Telling.+write_from.Goals as goal

pub live_shares-requires-clause-order : goal.live_shares-requires-clause-order
live_shares-requires-clause-order t c =
    plan_in_order c.args.self.now.question.now c.args.self.now.plan.now c.requires.stands.proper

pub write_line-requires-clause-moves : goal.write_line-requires-clause-moves
write_line-requires-clause-moves t c =
    c.deref-4.ensures.value
    ∙ moves_are c.args.self.now.question.now c.args.self.now.plan.now c.args.history.now.items c.args.place.now
    c.args.mass (map (λ layout. layout.now) c.args.layouts.now) c.in_ok-moves.moves.items c.requires.stands
    c.in_ok-moves.ensures
    ∙ ap (public_moves c.args.self.now.question.now) (sym c.deref-3.ensures.value)

pub write_line-requires-clause-shares : goal.write_line-requires-clause-shares
write_line-requires-clause-shares t c =
    let question = c.args.self.now.question.now in
    let plan = c.args.self.now.plan.now in
    let history = c.args.history.now.items in
    let goes = moves_are question plan history c.args.place.now c.args.mass
    (map (λ layout. layout.now) c.args.layouts.now) c.in_ok-moves.moves.items c.requires.stands c.in_ok-moves.ensures in
    let told = c.in_ok-shares.ensures
    ∙ ap (λ (h : ClassHistory). filter is_live (map (share_of question plan h) c.deref-2.result.now))
    c.deref.ensures.value
    ∙ ap (λ (l : List ClassMove). filter is_live (map (share_of question plan history) l)) c.deref-2.ensures.value in
    c.deref-5.ensures.value
    ∙ shares_are question plan history c.in_ok-moves.moves.items c.in_ok-shares.shares.items goes told
    ∙ ap (live_shares question plan) (sym c.deref-3.ensures.value)

pub write_from-requires : goal.write_from-requires
write_from-requires t c =
    let question = c.args.self.now.question.now in
    let plan = c.args.self.now.plan.now in
    let history = c.args.history.now.items in
    let place = c.args.place.now in
    let all = map (λ layout. layout.now) c.args.layouts.now in
    let stands = c.requires.stands in
    let shares = c.deref-mv-items.result.now in
    let share = get_or shares c.loop-mv.mv-index (Lead N 0, pos 0) in
    let goes = moves_are question plan history place c.args.mass all c.in_ok-moves.moves.items stands
    c.in_ok-moves.ensures in
    let told = c.in_ok-shares.ensures
    ∙ ap (λ (h : ClassHistory). filter is_live (map (share_of question plan h) c.deref-2.result.now))
    c.deref.ensures.value
    ∙ ap (λ (l : List ClassMove). filter is_live (map (share_of question plan history) l)) c.deref-2.ensures.value in
    let are = c.deref-mv-items.ensures.value
    ∙ shares_are question plan history c.in_ok-moves.moves.items c.in_ok-shares.shares.items goes told in
    let found : Contains (live_shares question plan history) share =
    Contains-same share are
    (Contains-get_or shares c.loop-mv.mv-index (Lead N 0, pos 0) c.loop-mv-test.true) in
    let pushed : c.push.new.self.items ≡ history ++ share.0 ∷ [] =
    c.in_ok-push.ensures.items ∙ ap (λ (h : ClassHistory). h ++ share.0 ∷ []) c.loop-mv.invariant.kept in
    let short = stands_short question plan history place c.args.mass all stands in
    let longer = stands_longer question plan history share stands.valid found in
    let whole : FitsSigned w128 c.args.mass = search rules in
    let fits = share_fits question plan history place c.args.mass all share stands found whole in
    let counts = map (λ layout. layout.now) c.deref-in-loop-mv.result.now in
    let kept = ap (map (λ layout. layout.now)) c.deref-in-loop-mv.ensures.value ∙ c.in_ok-kept.ensures in
    let next = stands_next question plan history place c.args.mass all share c.step-next.result counts stands found
    (c.step-next.ensures question history short stands.place) kept in (
      omega (arith, c.decreases, longer, length-append history (share.0 ∷ []), ap length pushed),
      (
        c.requires.letters,
        stands_same question plan (history ++ share.0 ∷ []) c.push.new.self.items c.step-next.result
            c.step-next.result share.1 _ counts counts pushed refl (to_z-of_z w128 share.1 fits) refl next,
      ),
    )

pub returns-clause-lines : goal.returns-clause-lines
returns-clause-lines t c =
    let question = c.args.self.now.question.now in
    let plan = c.args.self.now.plan.now in
    let history = c.args.history.now.items in
    let all = map (λ layout. layout.now) c.args.layouts.now in
    let goes = moves_are question plan history c.args.place.now c.args.mass all c.in_ok-moves.moves.items
    c.requires.stands c.in_ok-moves.ensures in
    let told = c.in_ok-shares.ensures
    ∙ ap (λ (h : ClassHistory). filter is_live (map (share_of question plan h) c.deref-2.result.now))
    c.deref.ensures.value
    ∙ ap (λ (l : List ClassMove). filter is_live (map (share_of question plan history) l)) c.deref-2.ensures.value in
    let are = c.deref-mv-items.ensures.value
    ∙ shares_are question plan history c.in_ok-moves.moves.items c.in_ok-shares.shares.items goes told in
    let own = c.in_ok-write_line.ensures
    ∙ ap (λ (h : ClassHistory). c.args.text.now.items ++ own_line question plan h) c.deref-3.ensures.value in
    lines_all question plan history c.deref-mv-items.result.now c.loop-mv.mv-index c.args.text.now.items
    c.write_line.new.text.items c.loop-mv.text.items c.requires.stands.valid c.requires.stands.proper
    (stands_short question plan history c.args.place.now c.args.mass all c.requires.stands) c.loop-mv-test.false are own
    c.loop-mv.invariant.so_far
