use Rattle.std.proofs.Common.{◌≡◌, ℕ, ◌+◌, ◌<◌, ◌∙◌, suc, inl, inr, true, false, nat_eq, Option, Some, None, refl}
use Rattle.std.proofs.Common.{arith, lit<}
use Rattle.std.specs.Prelude.{◌↔◌, All, Contains, IsSome, filter, position, nat_lt, Bool, cond, List, [], ◌∷◌, length}
use Rattle.std.specs.Option.{option_map}
use Rattle.std.specs.Char.{to_ascii_uppercase}
use Rattle.std.proofs.lemmas.List.Quantifiers.{position-Some}
use Rattle.std.proofs.lemmas.List.Elements.{All-from_recursion, All-contains}
use Rattle.suit_cards.specs.Holdings.{suit, holds}
use Rattle.std.specs.Option.{is_some}
use Rattle.std.specs.List.{position_or_len, list_any}
use Rattle.std.proofs.lemmas.Bool.{cases_Bool, lt-ltb}
use Rattle.std.proofs.lemmas.Bool.Decides.{nat_tests}
use Rattle.std.proofs.lemmas.Cmp.{nat_eq_equiv}
use Rattle.suit_cards.specs.Ranks.{IsRank, letters, letter_of, rank_named}
use Rattle.suit_cards.proofs.WhetherARankIsHeld.{holds_tells}
use Rattle.suit_cards.proofs.SuitRuns.{holds-filter_suit}

-- a test that passes all keeps the suit
suit-filter_all : filter (λ _. true) suit ≡ suit
unfolding suit
suit-filter_all = refl

-- each rank is in the suit
pub Contains-suit : (rank : ℕ) → IsRank rank → Contains suit rank
Contains-suit rank is =
    (holds_tells suit rank).0 (rw suit-filter_all at (holds-filter_suit (λ _. true) rank is.0 (omega (arith, is.1))))

-- a byte of text that stands for a rank, and for nothing else
pub record IsLetterOf (letter rank : ℕ) : Type 0 where
  pub back : rank_named letter ≡ Some rank
  pub ascii : letter < 128
  pub not_one : nat_eq letter 49 ≡ false
  pub not_dash : nat_eq letter 45 ≡ false

-- each letter of a rank stands for it
each_letter : All (λ rank. IsLetterOf (letter_of rank) rank) suit
unfolding suit letters
each_letter = All-from_recursion (λ rank. IsLetterOf (letter_of rank) rank) suit (
  record { back = refl; ascii = lit< tt; not_one = refl; not_dash = refl },
  (
    record { back = refl; ascii = lit< tt; not_one = refl; not_dash = refl },
    (
      record { back = refl; ascii = lit< tt; not_one = refl; not_dash = refl },
      (
        record { back = refl; ascii = lit< tt; not_one = refl; not_dash = refl },
        (
          record { back = refl; ascii = lit< tt; not_one = refl; not_dash = refl },
          (
            record { back = refl; ascii = lit< tt; not_one = refl; not_dash = refl },
            (
              record { back = refl; ascii = lit< tt; not_one = refl; not_dash = refl },
              (
                record { back = refl; ascii = lit< tt; not_one = refl; not_dash = refl },
                (
                  record { back = refl; ascii = lit< tt; not_one = refl; not_dash = refl },
                  (
                    record { back = refl; ascii = lit< tt; not_one = refl; not_dash = refl },
                    (
                      record { back = refl; ascii = lit< tt; not_one = refl; not_dash = refl },
                      (
                        record { back = refl; ascii = lit< tt; not_one = refl; not_dash = refl },
                        (
                          record { back = refl; ascii = lit< tt; not_one = refl; not_dash = refl },
                          tt,
                        ),
                      ),
                    ),
                  ),
                ),
              ),
            ),
          ),
        ),
      ),
    ),
  ),
)

-- the letter of a rank stands for it, and is one byte of text
pub letter_of_is : (rank : ℕ) → IsRank rank → IsLetterOf (letter_of rank) rank
letter_of_is rank is = All-contains (λ r. IsLetterOf (letter_of r) r) suit rank each_letter (Contains-suit rank is)

-- where a letter is found, its index tells a rank
found_rank : (byte rank : ℕ) (found : Option ℕ)
    → position (λ letter. nat_eq letter (to_ascii_uppercase byte)) letters ≡ found
    → option_map (λ index. index + 2) found ≡ Some rank → IsRank rank
unfolding letters
found_rank byte rank None is named = absurd cc
found_rank byte rank (Some index) is named =
    let within = (position-Some (λ letter. nat_eq letter (to_ascii_uppercase byte)) letters index 0 is).0 in
    let at : index + 2 ≡ rank = cc in
    (omega arith, omega arith)

-- what a byte stands for is a rank
pub IsRank-named : (byte rank : ℕ) → rank_named byte ≡ Some rank → IsRank rank
IsRank-named byte rank named = found_rank byte rank _ refl named

-- one more on either side changes no comparison
after_one : (n m : ℕ) → nat_lt (1 + n) (suc m) ≡ nat_lt n m
after_one n m = grind (arith, nat_tests)

-- there is a value where the test passes
some_if : (b : Bool) (n : ℕ) → is_some (cond b (Some n) None) ≡ b
some_if true n = refl
some_if false n = refl

-- an index is found where an element passes
found_if : (test : ℕ → Bool) (xs : List ℕ) → nat_lt (position_or_len test xs) (length xs) ≡ list_any test xs
found_if test [] = refl
found_if test (x ∷ xs) = elim (cases_Bool (test x)) [
  | inl passes ↦ rw passes (lt-ltb 0 (length (x ∷ xs)) (omega arith))
  | inr fails ↦ rw fails (after_one (position_or_len test xs) (length xs) ∙ found_if test xs)
]

-- what is mapped is there where it was
some_mapped : (index : Option ℕ) → is_some (option_map (λ n. n + 2) index) ≡ is_some index
some_mapped None = refl
some_mapped (Some n) = refl

-- a letter is sought from either side
same_either_way : (capital : ℕ) (xs : List ℕ) → list_any (λ letter. nat_eq letter capital) xs ≡ holds xs capital
same_either_way capital [] = refl
same_either_way capital (x ∷ xs) = rw (nat_eq_equiv.symm x capital, same_either_way capital xs) refl

-- a byte stands for a rank exactly where its capital is one of the letters
pub IsSome-rank_named : (byte : ℕ) → IsSome (rank_named byte) ↔ Contains letters (to_ascii_uppercase byte)
IsSome-rank_named byte =
    let capital = to_ascii_uppercase byte in
    let index = position (λ letter. nat_eq letter capital) letters in
    let same : is_some (rank_named byte) ≡ holds letters capital =
    some_mapped index
    ∙ some_if (nat_lt (position_or_len (λ letter. nat_eq letter capital) letters) (length letters)) _
    ∙ found_if (λ letter. nat_eq letter capital) letters
    ∙ same_either_way capital letters in
    rw same (holds_tells letters capital)
