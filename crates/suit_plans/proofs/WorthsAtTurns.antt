-- What a class history is worth to a reply, by the moves with which it goes on (`worth_next`).
use Rattle.std.proofs.Common.{◌≡◌, ◌⊎◌, ℕ, zero, suc, ◌-◌, ◌<◌, Bool, true, false, List, [], ◌∷◌, ◌++◌, length, map}
use Rattle.std.proofs.Common.{refl, sym, ap, ◌∙◌, subst, inl, inr, arith}
use Rattle.std.specs.Prelude.{Contains, if◌then◌else◌, ℤ, ◌≤ℤ◌, int_lt}
use Rattle.std.specs.Int.{int_max, int_min}
use Rattle.std.specs.Int.Signed.{≤ℤ_refl}
use Rattle.std.proofs.lemmas.Int.{ints, clamps}
use Rattle.std.proofs.lemmas.List.{length-append}
use Rattle.suit_lists.proofs.Elements.{Contains-cons_cases, Contains-first, Contains-later, Contains-nil}
use Rattle.suit_lists.proofs.Firsts.{HasFirst}
use Rattle.suit_lists.proofs.Maps.{map_same}
use Rattle.suit_classes.specs.declared.class_moves.ClassMove.{ClassMove}
use Rattle.suit_plans.specs.BestReplies.{Reply, best_of, worth, worth_at, worth_within}
use Rattle.suit_plans.specs.Properness.{sum_of}
use Rattle.suit_plans.specs.ReplyLaws.{IsLeastOf, IsMostOf, WorthsUnfold, worths_with}
use Rattle.suit_game.specs.declared.limits.TheConstants.{MOST_MOVES}
use Rattle.suit_classes.specs.ClassMoves.{ClassHistory}

-- one move less is left after a move more
pub left_after : (history : ClassHistory) (move : ClassMove) (more : ℕ) → suc more ≡ MOST_MOVES - length history
    → more ≡ MOST_MOVES - length (history ++ move ∷ [])
left_after history move more left = omega (arith, left, length-append history (move ∷ []))

-- a class history of fewer than 52 moves is worth what its moves make of it
pub worth_next : WorthsUnfold
unfolding worth_within
worth_next reply history short =
    let more : ℕ = 51 - length history in
    let here : MOST_MOVES - length history ≡ suc more = omega (arith, short) in
    ap (λ (n : ℕ). worth_within n reply history) here
    ∙ ap (worth_at reply history)
    (map_same (λ move. worth_within more reply (history ++ move ∷ [])) (λ move. worth reply (history ++ move ∷ []))
    (reply.moves history)
    (λ move found. ap (λ (n : ℕ). worth_within n reply (history ++ move ∷ []))
    (left_after history move more (sym here))))

-- one without moves is worth what is earned there
pub ended_worth : (reply : Reply) (more : ℕ) (history : ClassHistory) → reply.moves history ≡ []
    → worth_within more reply history ≡ reply.earned history
unfolding worth_within
ended_worth reply zero history none = refl
ended_worth reply (suc more) history none =
    ap (λ (l : List ClassMove). worth_at reply history (map (λ move. worth_within more reply (history ++ move ∷ [])) l))
    none

module _ (reply : Reply) (history : ClassHistory) (short : length history
    < MOST_MOVES) (some : HasFirst (reply.moves history)) where
  -- the worth of a turn by its first move and the others
  at_turn : (own : Bool) → reply.replies history ≡ own
      → worth reply history
      ≡ (if own then best_of reply.best (worths_with reply history (some.first ∷ some.more))
      else sum_of (worths_with reply history (some.first ∷ some.more)))
  at_turn own turn =
      let worths : List ClassMove → List ℤ = worths_with reply history in
      worth_next reply history short
      ∙ ap (λ (l : List ClassMove). worth_at reply history (worths l)) some.parts
      ∙ ap (λ (b : Bool). if b then best_of reply.best (worths (some.first ∷ some.more))
      else sum_of (worths (some.first ∷ some.more))) turn

  -- at a turn of the other side it is the sum
  pub summed_turn : reply.replies history ≡ false
      → worth reply history ≡ sum_of (worths_with reply history (reply.moves history))
  summed_turn other = at_turn false other
      ∙ ap (λ (l : List ClassMove). sum_of (worths_with reply history l)) (sym some.parts)

  -- at one of its own the best
  pub best_turn : reply.replies history ≡ true
      → worth reply history ≡ best_of reply.best (worths_with reply history (reply.moves history))
  best_turn own = at_turn true own
      ∙ ap (λ (l : List ClassMove). best_of reply.best (worths_with reply history l)) (sym some.parts)

-- a choice of two numbers is one of them
pub chosen_one : (b : Bool) (one other : ℤ) → ((if b then one else other) ≡ one) ⊎ ((if b then one else other) ≡ other)
chosen_one true one other = inl refl
chosen_one false one other = inr refl

-- so is the lesser of two
pub min_picks : (one other : ℤ) → (int_min one other ≡ one) ⊎ (int_min one other ≡ other)
min_picks one other = elim (chosen_one (int_lt other one) other one) [ inl later ↦ inr later | inr first ↦ inl first ]

-- and the greater
pub max_picks : (one other : ℤ) → (int_max one other ≡ one) ⊎ (int_max one other ≡ other)
max_picks one other = chosen_one (int_lt other one) one other

-- the lesser is at most either, and the greater at least
lesser_first : (one other : ℤ) → int_min one other ≤ℤ one
lesser_first one other = omega (arith, ints, clamps)

lesser_later : (one other third : ℤ) → other ≤ℤ third → int_min one other ≤ℤ third
lesser_later one other third le = omega (arith, ints, clamps, le)

greater_first : (one other : ℤ) → one ≤ℤ int_max one other
greater_first one other = omega (arith, ints, clamps)

greater_later : (one other third : ℤ) → third ≤ℤ other → third ≤ℤ int_max one other
greater_later one other third le = omega (arith, ints, clamps, le)

module _ (best : ℤ → ℤ → ℤ) (picks : (one other : ℤ) → (best one other ≡ one) ⊎ (best one other ≡ other)) where
  -- the best of some numbers is one of them
  pub best_attained : (number : ℤ) (numbers : List ℤ) → Contains (number ∷ numbers) (best_of best (number ∷ numbers))
  unfolding best_of
  best_attained number [] = Contains-first number []
  best_attained number (next ∷ numbers) =
      let rest : ℤ = best_of best (next ∷ numbers) in
      elim (picks number rest) [
        | inl one ↦ subst (Contains (number ∷ next ∷ numbers)) (sym one) (Contains-first number (next ∷ numbers))
        | inr other ↦ subst (Contains (number ∷ next ∷ numbers)) (sym other)
            (Contains-later number (next ∷ numbers) rest (best_attained next numbers))
      ]

  -- and bounds them all, where it bounds both of two
  best_bounds : (Bounds : ℤ → ℤ → Type 0) → ((one : ℤ) → Bounds one one)
      → ((one other : ℤ) → Bounds (best one other) one)
      → ((one other third : ℤ) → Bounds other third → Bounds (best one other) third)
      → (number : ℤ) (numbers : List ℤ) (other : ℤ) → Contains (number ∷ numbers) other
      → Bounds (best_of best (number ∷ numbers)) other
  unfolding best_of
  best_bounds Bounds self first later number [] other found = elim (Contains-cons_cases number [] other found) [
    | inl here ↦ subst (Bounds number) here (self number)
    | inr there ↦ absurd (Contains-nil other there)
  ]
  best_bounds Bounds self first later number (next ∷ numbers) other found =
      elim (Contains-cons_cases number (next ∷ numbers) other found) [
        | inl here ↦ subst (Bounds (best number (best_of best (next ∷ numbers)))) here
            (first number (best_of best (next ∷ numbers)))
        | inr there ↦ later number (best_of best (next ∷ numbers)) other
            (best_bounds Bounds self first later next numbers other there)
      ]

-- the best of some numbers by the lesser of two is the least of them
pub least_of : (numbers : List ℤ) → HasFirst numbers → IsLeastOf numbers (best_of int_min numbers)
least_of numbers some = subst (λ (l : List ℤ). IsLeastOf l (best_of int_min l)) (sym some.parts)
    (record {
      attained = best_attained int_min min_picks some.first some.more;
      least = λ other found. best_bounds int_min min_picks (λ best number. best
          ≤ℤ number) ≤ℤ_refl lesser_first lesser_later some.first some.more other found;
    })

-- by the greater of two it is the most
pub most_of : (numbers : List ℤ) → HasFirst numbers → IsMostOf numbers (best_of int_max numbers)
most_of numbers some = subst (λ (l : List ℤ). IsMostOf l (best_of int_max l)) (sym some.parts)
    (record {
      attained = best_attained int_max max_picks some.first some.more;
      most = λ other found. best_bounds int_max max_picks (λ best number. number
          ≤ℤ best) ≤ℤ_refl greater_first greater_later some.first some.more other found;
    })
