-- `move_back`: what is written for a move is read back as it.
use Rattle.std.proofs.Common.{ℕ, zero, suc, ◌-◌, ◌<◌, ◌≤◌, ◌≡◌, ◌==◌, nat_lt, true, false, cond}
use Rattle.std.proofs.Common.{length, get_or, Option, Some, None, Ok, refl, sym, ap, ◌∙◌, subst, arith}
use Rattle.std.proofs.Common.{inl, inr, lit<}
use Rattle.std.specs.Prelude.{slice_index}
use Rattle.std.specs.List.{AllByRecursion, position_or_len}
use Rattle.std.specs.Option.{option_map_or}
use Rattle.std.proofs.lemmas.Bool.{cases_lt}
use Rattle.std.proofs.lemmas.Bool.Decides.{nat_tests}
use Rattle.std.proofs.lemmas.List.Elements.{All-contains, All-from_recursion}
use Rattle.std.proofs.lemmas.List.FromFn.{get_or-map-range_with_len, length-map-range_with_len}
use Rattle.std.proofs.lemmas.List.Sums.{position_or_len_is}
use Rattle.suit_cards.specs.Cards.{Text}
use Rattle.suit_cards.specs.Holdings.{suit}
use Rattle.suit_cards.specs.Ranks.{IsRank, letters, letter_of, rank_named}
use Rattle.suit_cards.specs.declared.seats.Seat.TheVariants.{N, E, S, W}
use Rattle.suit_cards.proofs.RankLetters.{Contains-suit, letter_of_is}
use Rattle.suit_classes.specs.Classes.{Hands, class_below, class_count, class_of, class_top}
use Rattle.suit_classes.specs.declared.class_moves.ClassMove.{ClassMove}
use Rattle.suit_classes.specs.declared.class_moves.ClassMove.TheVariants.{Lead, Follow, ShowOut}
use Rattle.suit_classes.proofs.ClassNumbers.{class_below-reached, class_below-rises, class_top-first}
use Rattle.suit_answer.specs.Letters.{class_letter, class_letters, class_named, move_read, move_due, move_word}
use Rattle.suit_answer.specs.Writable.{IsWritableMove}
use Rattle.suit_answer.proofs.NumberBack.{IsWord}

-- a letter that stands for nothing else
pub record IsLetter (letter : ℕ) : Type 0 where
  pub above : 45 < letter
  pub no_colon : (letter == 58) ≡ false

-- letters that can be told apart
pub record AreLetters (names : Text) : Type 0 where
  pub each : (i : ℕ) → i < length names → IsLetter (get_or names i 0)
  pub apart : (i k : ℕ) → k < i → i < length names → get_or names k 0 ≡ get_or names i 0 → ⊥

not_same : (a b : ℕ) → (a ≡ b → ⊥) → (a == b) ≡ false
not_same a b h = grind (arith, nat_tests)

is_same : (a : ℕ) → (a == a) ≡ true
is_same a = grind (arith, nat_tests)

found_at : (at n : ℕ) → at < n → cond (nat_lt at n) (Some at) None ≡ Some at
found_at at n h = let passes : nat_lt at n ≡ true = grind (arith, nat_tests) in rw passes refl

-- the class of a letter is found again
named_back : (names : Text) (class : ℕ) → AreLetters names → class < length names
    → class_named names (slice_index names class) ≡ Some class
named_back names class good within =
    let byte = slice_index names class in
    let at : position_or_len (λ letter. letter == byte) names ≡ class =
    position_or_len_is (λ letter. letter == byte) names class 0 (omega arith)
    (λ k low. not_same (get_or names k 0) byte (good.apart class k low within)) (λ _. is_same byte) in
    rw at (found_at class (length names) within)

no_dash : (byte : ℕ) → IsLetter byte → (byte == 45) ≡ false
no_dash byte h = let above = h.above in grind (arith, nat_tests)

read_back : (names : Text) (move : ClassMove) → AreLetters names → IsWritableMove (length names) move
    → move_read names (move_word names move) ≡ Some move
read_back names (Lead N class) good h = rw (named_back names class good h) refl
read_back names (Lead S class) good h = rw (named_back names class good h) refl
read_back names (Lead E class) good h = absurd h
read_back names (Lead W class) good h = absurd h
read_back names (Follow class) good h =
    rw (no_dash (slice_index names class) (good.each class h), named_back names class good h) refl
read_back names ShowOut good h = refl

-- a move that is written is read back
pub move_back : (names : Text) (line : ℕ) (move : ClassMove) → AreLetters names → IsWritableMove (length names) move
    → move_due names line (move_word names move) ≡ Ok move
unfolding move_due
move_back names line move good h = rw (read_back names move good h) refl

letter_plain : (letter : ℕ) → IsLetter letter → 32 < letter
letter_plain letter h = let above = h.above in omega arith

pub move_is_word : (names : Text) (move : ClassMove) → AreLetters names → IsWritableMove (length names) move
    → IsWord (move_word names move)
move_is_word names (Lead N class) good h =
    record { some = refl; plain = (lit< tt, (letter_plain _ (good.each class h), tt)); no_colon = refl }
move_is_word names (Lead S class) good h =
    record { some = refl; plain = (lit< tt, (letter_plain _ (good.each class h), tt)); no_colon = refl }
move_is_word names (Lead E class) good h = absurd h
move_is_word names (Lead W class) good h = absurd h
move_is_word names (Follow class) good h = record {
  some = refl;
  plain = (letter_plain _ (good.each class h), tt);
  no_colon = rw ((good.each class h).no_colon) refl;
}
move_is_word names ShowOut good h = record { some = refl; plain = (lit< tt, tt); no_colon = refl }

each_rank : AllByRecursion (λ rank. IsLetter (letter_of rank)) suit
unfolding suit letters
each_rank = (
  record { above = lit< tt; no_colon = refl },
  (
    record { above = lit< tt; no_colon = refl },
    (
      record { above = lit< tt; no_colon = refl },
      (
        record { above = lit< tt; no_colon = refl },
        (
          record { above = lit< tt; no_colon = refl },
          (
            record { above = lit< tt; no_colon = refl },
            (
              record { above = lit< tt; no_colon = refl },
              (
                record { above = lit< tt; no_colon = refl },
                (
                  record { above = lit< tt; no_colon = refl },
                  (
                    record { above = lit< tt; no_colon = refl },
                    (
                      record { above = lit< tt; no_colon = refl },
                      (
                        record { above = lit< tt; no_colon = refl },
                        (
                          record { above = lit< tt; no_colon = refl },
                          tt,
                        ),
                      ),
                    ),
                  ),
                ),
              ),
            ),
          ),
        ),
      ),
    ),
  ),
)

rank_letter : (rank : ℕ) → IsRank rank → IsLetter (letter_of rank)
rank_letter rank is = All-contains (λ r. IsLetter (letter_of r)) suit rank
    (All-from_recursion (λ r. IsLetter (letter_of r)) suit each_rank) (Contains-suit rank is)

-- the first place of a class
record FirstPlace (hands : Hands) (n class : ℕ) : Type 0 where
  place : ℕ
  within : place ≤ n
  is : class_below hands place ≡ class
  before : (k : ℕ) → k < place → class_below hands k ≡ class → ⊥

first_place : (hands : Hands) (n class : ℕ) → class_below hands n ≡ class → FirstPlace hands n class
first_place hands zero class e =
    record { place = 0; within = omega arith; is = e; before = λ k low. absurd (omega arith) }
first_place hands (suc n) class e = elim (cases_lt (class_below hands n) class) [
  | inl less ↦ record {
    place = suc n;
    within = omega arith;
    is = e;
    before = λ k low same. omega (arith, class_below-rises hands k n (omega arith));
  }
  | inr more ↦
      let here : class_below hands n ≡ class = omega (arith, class_below-rises hands n (suc n) (omega arith)) in
      let first = first_place hands n class here in
      let near : first.place ≤ n = first.within in
      record { place = first.place; within = omega arith; is = first.is; before = first.before }
]

-- the highest rank of a class
record Top (hands : Hands) (class : ℕ) : Type 0 where
  rank : ℕ
  is : class_top hands class ≡ Some rank
  is_rank : IsRank rank
  of : class_of hands rank ≡ class

top_of : (hands : Hands) (class : ℕ) → class < class_count hands → Top hands class
top_of hands class within =
    let reached = class_below-reached hands 12 class (omega arith) in
    let first = first_place hands reached.0 class reached.2 in
    let near : first.place ≤ reached.0 = first.within in
    let low : reached.0 ≤ 12 = reached.1 in
    let back : 14 - (14 - first.place) ≡ first.place = omega arith in
    record {
      rank = 14 - first.place;
      is = class_top-first hands class first.place (14 - first.place) (omega arith) (omega arith) first.is first.before;
      is_rank = (omega arith, omega arith);
      of = ap (class_below hands) back ∙ first.is;
    }

letter_is : (hands : Hands) (class : ℕ) (top : Top hands class) → class_letter hands class ≡ letter_of top.rank
letter_is hands class top = ap (λ (rank : Option ℕ). option_map_or letter_of rank 0) top.is

ranks_same : (here there : ℕ) → IsRank here → IsRank there → letter_of here ≡ letter_of there → here ≡ there
ranks_same here there p q e =
    let left : rank_named (letter_of here) ≡ Some here = (letter_of_is here p).back in
    let right : rank_named (letter_of there) ≡ Some there = (letter_of_is there q).back in
    let same : rank_named (letter_of here) ≡ rank_named (letter_of there) = ap rank_named e in
    cc

-- the letters of a question's classes can be told apart
pub letters_good : (hands : Hands) → AreLetters (class_letters hands)
unfolding class_letters
letters_good hands =
    let count = class_count hands in
    let long : length (class_letters hands) ≡ count = length-map-range_with_len (class_letter hands) 0 count in
    let at = λ (i : ℕ) (low : i < count). get_or-map-range_with_len (class_letter hands) 0 count i i 0 low
    (omega arith) in
    record {
      each = λ i low. let within : i < count = omega arith in
          let top = top_of hands i within in
          subst IsLetter (sym (at i within ∙ letter_is hands i top)) (rank_letter top.rank top.is_rank);
      apart = λ i k low within same. let high : i < count = omega arith in
          let less : k < count = omega arith in
          let there = top_of hands i high in
          let here = top_of hands k less in
          let letters_same : letter_of here.rank ≡ letter_of there.rank =
          sym (at k less ∙ letter_is hands k here) ∙ same ∙ (at i high ∙ letter_is hands i there) in
          let rank_same = ranks_same here.rank there.rank here.is_rank there.is_rank letters_same in
          let class_same : k ≡ i = sym here.of ∙ ap (class_of hands) rank_same ∙ there.of in
          omega arith;
    }
