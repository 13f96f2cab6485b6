-- The front that was copied is the front of what was left.
use Rattle.std.proofs.Common.{◌≡◌, ℕ, ◌+◌, ◌-◌, ◌≤◌, ◌++◌, List, length, take, drop, sym, ap, ◌∙◌, subst, arith}
use Rattle.std.proofs.Common.{length-append, length-drop, min}
use Rattle.std.proofs.lemmas.List.{drop-drop, drop_all, take_all, length-take, length-take-le, take-append-drop}
use Rattle.std.proofs.Math.Seq.{take-append_seam}
use Rattle.suit_ports.proofs.sure.SureSourceSource.take.Goals as goal

front_given : (items front rest : List ℕ) (given count : ℕ) → front ≡ take count (drop given items)
    → count ≤ length (drop given items)
    → drop given items ≡ take count (front ++ rest) ++ drop (given + count) items
front_given items front rest given count is_front fits =
    let long : length front ≡ count = ap length is_front ∙ length-take-le count (drop given items) fits in
    let whole : take count (front ++ rest) ≡ front =
    subst (λ (k : ℕ). take k (front ++ rest) ≡ front) long (take-append_seam front rest) in
    sym (take-append-drop count (drop given items))
    ∙ ap (λ (l : List ℕ). l ++ drop count (drop given items)) (sym is_front ∙ sym whole)
    ∙ ap (λ (l : List ℕ). take count (front ++ rest) ++ l) (drop-drop count given items)

pub returns-clause-bytes : goal.returns-clause-bytes
returns-clause-bytes c =
    let items = c.self.inside.bytes.items in
    let given = c.self.inside.given in
    let count = c.min-count.result in
    let left_is : take (length c.deref.result.now - given) (drop given c.deref.result.now) ≡ drop given items =
    take_all _ (drop given c.deref.result.now) (omega (arith, length-drop {A = ℕ}))
    ∙ ap (drop given) c.deref.ensures.value in
    let front_is : c.copy_from_slice.new.self ≡ take count (drop given items) = c.copy_from_slice.ensures.after
    ∙ ap (take count) left_is in
    let least : count ≡ min (length c.args.into.now) (length (drop given items)) = c.min-count.ensures
    ∙ ap (λ (l : List ℕ). min (length c.args.into.now) (length l)) left_is in (
      sym c.self.view_is ∙ front_given items c.copy_from_slice.new.self (drop count c.args.into.now) given count
          front_is (omega (arith, least)),
      λ none some. drop_all (given + count) items (omega (
        arith,
        least,
        length-drop {A = ℕ},
        length-append {A = ℕ},
        c.copy_from_slice.ensures.len,
        length-take {A = ℕ},
      )),
    )
