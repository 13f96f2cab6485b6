use Rattle.std.proofs.Common.{rules, ◌≡◌, ◌∙◌, sym, ap, pos, get_or, true, false, Bool, cond, SFits, ◌++◌}
use Rattle.std.proofs.Common.{◌+◌}
use Rattle.std.proofs.Common.{[], ◌∷◌, append-nil, take, ℕ, ℤ, length, ◌<◌}
use Rattle.std.specs.Prelude.{not}
use Rattle.std.specs.Ordering.{int_eq}
use Rattle.std.specs.Int.{w128}
use Rattle.std.proofs.lemmas.Int.{to_z-of_z}
use Rattle.std.proofs.lemmas.List.Elements.{filter_more}
use Rattle.suit_cards.specs.declared.seats.Seat.TheVariants.{N}
use Rattle.suit_classes.specs.declared.class_moves.ClassMove.{ClassMove}
use Rattle.suit_classes.specs.declared.class_moves.ClassMove.TheVariants.{Lead}
use Rattle.suit_plans.specs.Masses.{Shares}
use Rattle.suit_program.specs.Readings.Sharing.{without_nothing}
use Rattle.suit_program.proofs.readings.sharing.without_nothing.Goals as goal
use Rattle.suit_program.proofs.readings.sharing.without_nothing.Goals.{then-is_some+in_ok-push, else-is_some}

abbrev is_some : ClassMove × ℤ → Bool
is_some count = not (int_eq count.1 (pos 0))

-- a count more is kept where it is not 0
kept_more : (b : Bool) (kept now shares : Shares) (i : ℕ) (d : ClassMove × ℤ) → i < length shares
    → kept ≡ without_nothing (take i shares) → b ≡ is_some (get_or shares i d)
    → now ≡ kept ++ cond b (get_or shares i d ∷ []) []
    → now ≡ without_nothing (take (i + 1) shares)
kept_more b kept now shares i d below so_far is with =
    with
    ∙ ap (λ l. l ++ cond b (get_or shares i d ∷ []) []) so_far
    ∙ ap (λ x. without_nothing (take i shares) ++ cond x (get_or shares i d ∷ []) []) is
    ∙ sym (filter_more is_some shares i d below)

pub loop-count-preserved : goal.loop-count-preserved
loop-count-preserved c =
    let shares = c.items-count-items.result.now in
    let i = c.loop-count.count-index in
    let count : SFits w128 (get_or shares i (Lead N 0, pos 0)).1 = search rules in
    elim c.if-is_some.branch [
      | then-is_some+in_ok-push w ↦
          ap (λ v. v.items) w.kept-is
          ∙ kept_more true c.loop-count.kept.items w.push.new.self.items shares i (Lead N 0, pos 0)
          c.loop-count-test.true
          c.loop-count.invariant
          (w.if-is_some.ensures ∙ ap (λ (z : ℤ). not (int_eq z (pos 0))) (to_z-of_z w128 _ count))
          w.in_ok-push.ensures.items
      | else-is_some w ↦
          ap (λ v. v.items) w.kept-is
          ∙ kept_more false c.loop-count.kept.items c.loop-count.kept.items shares i (Lead N 0, pos 0)
          c.loop-count-test.true c.loop-count.invariant
          (w.if-is_some.ensures ∙ ap (λ (z : ℤ). not (int_eq z (pos 0))) (to_z-of_z w128 _ count))
          (sym (append-nil c.loop-count.kept.items))
    ]
