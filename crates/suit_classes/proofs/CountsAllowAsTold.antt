-- What counts are told to allow is what they allow.
use Rattle.std.proofs.Common.{◌≡◌, ℕ, ◌≤◌, Bool, true, cond, List, [], ◌∷◌, ◌++◌, length, map, drop, refl, sym}
use Rattle.std.proofs.Common.{ap, ◌∙◌, subst, arith}
use Rattle.std.specs.Prelude.{◌↔◌, ◌==◌, Contains}
use Rattle.std.specs.List.{AllByRecursion, count_by, flat_map}
use Rattle.std.proofs.lemmas.Bool.{and_from, and_parts}
use Rattle.std.proofs.lemmas.Simd.{map-map}
use Rattle.std.proofs.lemmas.List.{append-nil, append_assoc, take_at, drop_at}
use Rattle.std.proofs.lemmas.List.Sums.{length-filter}
use Rattle.suit_lists.proofs.Elements.{each_gives}
use Rattle.suit_lists.proofs.Maps.{map_same}
use Rattle.suit_lists.proofs.Sums.{sum_by_alike}
use Rattle.suit_classes.specs.ClassMoves.{ClassHistory}
use Rattle.suit_cards.specs.Cards.{Cards, ClassLayout}
use Rattle.suit_cards.specs.Holdings.{FallsBelow, IsHolding, holds}
use Rattle.suit_cards.proofs.SuitRuns.{holds-filter_suit}
use Rattle.suit_game.specs.declared.question.Question.{Question}
use Rattle.suit_game.specs.Validity.{IsValid}
use Rattle.suit_game.proofs.LayoutCards.{layouts_are_deals}
use Rattle.suit_classes.specs.Classes.{Hands, hands_of, class_of, class_ranks, defence_classes, defence_sizes, sizes_of}
use Rattle.suit_classes.specs.ClassGame.{Allows, cards_in, counts_of}
use Rattle.suit_classes.specs.ClassPlaces.{ClassView, class_after, class_moves, class_step}
use Rattle.suit_classes.proofs.AllowedMoveByMove.{allowed_moves, layouts_allow_none}
use Rattle.suit_classes.proofs.RankBlocks.{missing_in_blocks}
use Rattle.suit_classes.proofs.SmallCounts.{class_after_move}
use Rattle.suit_game.specs.Layouts.{layouts}
use Rattle.suit_game.specs.Blocks.{blocks_of, counts_in, counts_of as block_counts}
use Rattle.suit_classes.proofs.SameMoves.{among-Contains, among_contained}
use Rattle.suit_classes.specs.WhatIsAllowed.{allows, allows_from, is_among}

-- what allows a history allows each beginning of it
pub allows_before : (question : Question) (counts : ClassLayout) (before later : ClassHistory)
    → Allows question counts (before ++ later) → Allows question counts before
allows_before question counts before [] allowed = subst (Allows question counts) (append-nil before) allowed
allows_before question counts before (move ∷ later) allowed =
    let more : Allows question counts ((before ++ move ∷ []) ++ later) =
    subst (Allows question counts) (sym (append_assoc before (move ∷ []) later)) allowed in
    ((allowed_moves question counts before move).0 (allows_before question counts (before ++ move ∷ []) later more)).0

-- counts that allow a history allow it with more moves where they are told to allow these from its position on
pub allows_from_after : (question : Question) (counts : ClassLayout) (before later : ClassHistory)
    → Allows question counts before
    → (allows_from counts (class_after question before) later ≡ true) ↔ Allows question counts (before ++ later)
unfolding allows_from
allows_from_after question counts before [] allowed =
    (λ told. subst (Allows question counts) (sym (append-nil before)) allowed, λ more. refl)
allows_from_after question counts before (move ∷ later) allowed =
    let view : ClassView = class_after question before in
    let after : class_after question (before ++ move ∷ []) ≡ class_step view move =
    class_after_move question before move in
    let joined : (before ++ move ∷ []) ++ later ≡ before ++ move ∷ later = append_assoc before (move ∷ []) later in
    let next =
    λ (more : Allows question counts (before ++ move ∷ [])). allows_from_after question counts
    (before ++ move ∷ []) later more in (
      λ told.
          let parts =
          and_parts (is_among (class_moves view counts) move) (allows_from counts (class_step view move) later) told in
          let more =
          (allowed_moves question counts before move).1
          (allowed, among-Contains (class_moves view counts) move parts.0) in
          subst (Allows question counts) joined
          ((next more).0 (subst (λ (v : ClassView). allows_from counts v later ≡ true) (sym after) parts.1)),
      λ all.
          let whole : Allows question counts ((before ++ move ∷ []) ++ later) =
          subst (Allows question counts) (sym joined) all in
          let more = allows_before question counts (before ++ move ∷ []) later whole in
          let here = ((allowed_moves question counts before move).0 more).1 in
          and_from (is_among (class_moves view counts) move) (allows_from counts (class_step view move) later)
          (among_contained (class_moves view counts) move here)
          (subst (λ (v : ClassView). allows_from counts v later ≡ true) after ((next more).1 whole)),
    )

-- pieces of a list, joined, are its blocks of their lengths
blocks-joined : (piece : ℕ → List ℕ) (xs : List ℕ)
    → blocks_of (flat_map piece xs) (map (λ x. length (piece x)) xs) ≡ map piece xs
unfolding blocks_of
blocks-joined piece [] = refl
blocks-joined piece (x ∷ xs) =
    let later : List ℕ = flat_map piece xs in
    let sizes : List ℕ = map (λ y. length (piece y)) xs in
    ap (λ (l : List ℕ). l ∷ blocks_of (drop (length (piece x)) (piece x ++ later)) sizes)
    (take_at (piece x) later (length (piece x)) refl)
    ∙ ap (λ (l : List ℕ). piece x ∷ blocks_of l sizes) (drop_at (piece x) later (length (piece x)) refl)
    ∙ ap (λ (l : List (List ℕ)). piece x ∷ l) (blocks-joined piece xs)

ranks_told : (hands : Hands) (class top : ℕ) (west : Cards) → top ≤ 15 → FallsBelow top west
    → AllByRecursion (λ card. holds (class_ranks hands class) card ≡ (class_of hands card == class)) west
ranks_told hands class top [] low falls = tt
ranks_told hands class top (card ∷ west) low falls = (
  holds-filter_suit (λ rank. class_of hands rank == class) card falls.0 (omega (arith, falls.1)),
  ranks_told hands class card west (omega (arith, falls.1)) falls.2,
)

-- a holding has as many cards in the ranks of a class as it has of the class
count_told : (hands : Hands) (west : Cards) (class : ℕ) → IsHolding west
    → count_by (λ card. holds (class_ranks hands class) card) west ≡ cards_in hands west class
count_told hands west class holding =
    let held : ℕ → ℕ = λ card. cond (holds (class_ranks hands class) card) 1 0 in
    let named : ℕ → ℕ = λ card. cond (class_of hands card == class) 1 0 in
    sum_by_alike held named west
    (each_gives (λ card. holds (class_ranks hands class) card ≡ (class_of hands card == class)) (λ card. held card
    ≡ named card) west
    (λ card same. ap {B = ℕ} (λ (b : Bool). cond b 1 0) same) (ranks_told hands class 15 west (omega arith) holding))
    ∙ sym (length-filter (λ card. class_of hands card == class) west)

-- West's counts by blocks of the missing cards are his counts in the defenders' classes
pub counts_alike : (question : Question) (west : Cards) → IsHolding west
    → block_counts question (sizes_of question) west ≡ counts_of (hands_of question) west
counts_alike question west holding =
    let hands : Hands = hands_of question in
    let classes : List ℕ = defence_classes hands in
    ap (λ (cards : Cards). counts_in (blocks_of cards (defence_sizes hands)) west) (sym (missing_in_blocks hands))
    ∙ ap (λ (blocks : List (List ℕ)). counts_in blocks west) (blocks-joined (class_ranks hands) classes)
    ∙ map-map (λ block. count_by (λ card. holds block card) west) (class_ranks hands) classes
    ∙ map_same (λ class. count_by (λ card. holds (class_ranks hands class) card) west) (cards_in hands west) classes
    (λ class found. count_told hands west class holding)

-- the counts by blocks of a layout allow the empty history
pub layouts_allow : (question : Question) (west : Cards) (counts : ClassLayout) → IsValid question
    → Contains (layouts question) west
    → block_counts question (sizes_of question) west ≡ counts → Allows question counts []
layouts_allow question west counts valid found are =
    let holding = (layouts_are_deals question west valid.north valid.south valid.apart found).1 in
    subst (λ (told : ClassLayout). Allows question told []) (sym (counts_alike question west holding) ∙ are)
    (layouts_allow_none question west valid found)

-- counts that allow the empty history are told to allow the histories that they allow
pub allows_tells : (question : Question) (counts : ClassLayout) (history : ClassHistory) → Allows question counts []
    → (allows question counts history ≡ true) ↔ Allows question counts history
unfolding allows
allows_tells question counts history none = allows_from_after question counts [] history none
