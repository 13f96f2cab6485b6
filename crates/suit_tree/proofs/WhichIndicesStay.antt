-- Which of some indices are kept, one after the other, and that they are those at which a move may be made
-- (kept_keeping).
use Rattle.std.proofs.Common.{◌≡◌, ◌<◌, ◌≤◌, ℕ, All, zero, suc, ◌+◌, Bool, true, false, cond, List, [], ◌∷◌, ◌++◌}
use Rattle.std.proofs.Common.{length, drop, get_or, refl, sym, ap, ◌∙◌, arith}
use Rattle.std.specs.Prelude.{if◌then◌else◌}
use Rattle.std.specs.List.{AllZip}
use native.Mathlib.Numerals.{unary_clauses}
use Rattle.std.proofs.lemmas.List.{append_assoc, append-nil}
use Rattle.std.proofs.lemmas.List.Elements.{All-filter}
use Rattle.std.proofs.Math.ListN.{drop_of_length-le}
use Rattle.suit_cards.specs.Cards.{ClassLayout, Indices}
use Rattle.suit_classes.specs.declared.class_moves.ClassMove.{ClassMove}
use Rattle.suit_classes.specs.declared.class_view.ClassView.{ClassView}
use Rattle.suit_classes.specs.ClassPlaces.{class_moves}
use Rattle.suit_classes.specs.WhatIsAllowed.{is_among}
use Rattle.suit_tree.specs.declared.offers.Offers.{Offers}
use Rattle.suit_tree.specs.Growing.{Tells, is_offered, keeping, kept_of}
use Rattle.suit_tree.specs.Trees.{counts_at}

kept_here : (index : ℕ) (rest : Indices) (b : Bool)
    → (if b then index ∷ rest else rest) ≡ (if b then index ∷ [] else []) ++ rest
kept_here index rest true = refl
kept_here index rest false = refl

kept_behind : (indices : Indices) (offers : List Offers) (move : ClassMove) (i : ℕ) (d : Offers) → i < length indices
    → length indices ≡ length offers
    → kept_of (drop i indices) (drop i offers) move
    ≡ (if is_offered (get_or offers i d) move then get_or indices i 0 ∷ [] else [])
    ++ kept_of (drop (suc i) indices) (drop (suc i) offers) move
unfolding kept_of
kept_behind [] offers move i d less same = absurd (omega (arith, less))
kept_behind (index ∷ indices) [] move i d less same = absurd (omega (arith, same))
kept_behind (index ∷ indices) (one ∷ offers) move zero d less same =
    kept_here index (kept_of indices offers move) (is_offered one move)
kept_behind (index ∷ indices) (one ∷ offers) move (suc i) d less same =
    kept_behind indices offers move i d (omega (arith, less)) (omega (arith, same))

module _ (indices : Indices) (offers : List Offers) (move : ClassMove) (i : ℕ) where
  -- what is kept of the indices from one on: this one, or not, and what is kept of those behind it
  kept_step : (d : Offers) → i < length indices → length indices ≡ length offers
      → kept_of (drop i indices) (drop i offers) move
      ≡ (if is_offered (get_or offers i d) move then get_or indices i 0 ∷ [] else [])
      ++ kept_of (drop (i + 1) indices) (drop (i + 1) offers) move
  kept_step d less same = simp unary_clauses (kept_behind indices offers move i d less same)

  -- the index is kept
  pub kept_taken : (d : Offers) (kept after whole : Indices) → i < length indices → length indices ≡ length offers
      → is_offered (get_or offers i d) move ≡ true → after ≡ kept ++ get_or indices i 0 ∷ []
      → kept ++ kept_of (drop i indices) (drop i offers) move ≡ whole
      → after ++ kept_of (drop (i + 1) indices) (drop (i + 1) offers) move ≡ whole
  kept_taken d kept after whole less same offered now before =
      let rest : Indices = kept_of (drop (i + 1) indices) (drop (i + 1) offers) move in
      ap (λ (l : Indices). l ++ rest) now ∙ append_assoc kept (get_or indices i 0 ∷ []) rest
      ∙ ap (λ (b : Bool). kept ++ ((if b then get_or indices i 0 ∷ [] else []) ++ rest)) (sym offered)
      ∙ ap (λ (l : Indices). kept ++ l) (sym (kept_step d less same)) ∙ before

  -- or it is not
  pub kept_left : (d : Offers) (kept whole : Indices) → i < length indices → length indices ≡ length offers
      → is_offered (get_or offers i d) move ≡ false → kept ++ kept_of (drop i indices) (drop i offers) move ≡ whole
      → kept ++ kept_of (drop (i + 1) indices) (drop (i + 1) offers) move ≡ whole
  kept_left d kept whole less same offered before =
      let rest : Indices = kept_of (drop (i + 1) indices) (drop (i + 1) offers) move in
      ap (λ (b : Bool). kept ++ ((if b then get_or indices i 0 ∷ [] else []) ++ rest)) (sym offered)
      ∙ ap (λ (l : Indices). kept ++ l) (sym (kept_step d less same)) ∙ before

  -- behind the last index nothing is kept
  pub kept_none : (kept whole : Indices) → length indices ≤ i
      → kept ++ kept_of (drop i indices) (drop i offers) move ≡ whole → kept ≡ whole
  unfolding kept_of
  kept_none kept whole past before =
      sym (append-nil kept) ∙ ap (λ (l : Indices). kept
      ++ kept_of l (drop i offers) move) (sym (drop_of_length-le indices past)) ∙ before

kept_most : (indices : Indices) (offers : List Offers) (move : ClassMove)
    → length (kept_of indices offers move) ≤ length indices
unfolding kept_of
kept_most [] offers move = omega arith
kept_most (index ∷ indices) [] move = omega arith
kept_most (index ∷ indices) (one ∷ offers) move =
    either (is_offered one move) index (kept_of indices offers move) (length indices) (kept_most indices offers move)
  where
    either : (b : Bool) (index : ℕ) (kept : Indices) (n : ℕ) → length kept ≤ n
        → length (if b then index ∷ kept else kept) ≤ suc n
    either true index kept n most = omega (arith, most)
    either false index kept n most = omega (arith, most)

-- where as many are kept, all are
pub kept_all : (indices : Indices) (offers : List Offers) (move : ClassMove)
    → length (kept_of indices offers move) ≡ length indices
    → kept_of indices offers move ≡ indices
unfolding kept_of
kept_all [] offers move long = refl
kept_all (index ∷ indices) [] move long = absurd (omega (arith, long))
kept_all (index ∷ indices) (one ∷ offers) move long =
    either (is_offered one move) index (kept_of indices offers move) indices long (kept_most indices offers move)
    (kept_all indices offers move)
  where
    either : (b : Bool) (index : ℕ) (kept indices : Indices)
        → length (if b then index ∷ kept else kept) ≡ suc (length indices)
        → length kept ≤ length indices → (length kept ≡ length indices → kept ≡ indices)
        → (if b then index ∷ kept else kept) ≡ index ∷ indices
    either true index kept indices long most all = ap (λ (l : Indices). index ∷ l) (all (omega (arith, long)))
    either false index kept indices long most all = absurd (omega (arith, long, most))

kept_either : (b c : Bool) (index : ℕ) (these those : Indices) → b ≡ c → these ≡ those
    → (if b then index ∷ these else these) ≡ cond c (index ∷ those) those
kept_either b c index these those same alike = rw (same, alike) refl

module _ (layouts : List (ClassLayout × ℕ)) (view : ClassView) (move : ClassMove) where
  -- with the offers at each index, those are kept at which the move may be made
  pub kept_keeping : (indices : Indices) (offers : List Offers)
      → AllZip (λ index told. Tells told (class_moves view (counts_at layouts index))) indices offers
      → ((told : Offers) (moves : List ClassMove) → Tells told moves → is_offered told move ≡ is_among moves move)
      → kept_of indices offers move ≡ keeping layouts view indices move
  unfolding kept_of keeping
  kept_keeping [] [] each tells = refl
  kept_keeping [] (one ∷ offers) each tells = absurd each
  kept_keeping (index ∷ indices) [] each tells = absurd each
  kept_keeping (index ∷ indices) (one ∷ offers) each tells =
      let moves : List ClassMove = class_moves view (counts_at layouts index) in
      kept_either (is_offered one move) (is_among moves move) index (kept_of indices offers move)
      (keeping layouts view indices move)
      (tells one moves each.0) (kept_keeping indices offers each.1 tells)

  -- what holds of all indices holds of those that are kept
  pub all_kept : (indices : Indices) (P : ℕ → Type 0) → All P indices → All P (keeping layouts view indices move)
  unfolding keeping
  all_kept indices P all = All-filter (λ index. is_among (class_moves view (counts_at layouts index)) move) P indices
      all
