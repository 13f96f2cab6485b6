-- `number_within_back`: values that are written are read back.
use Rattle.std.proofs.Common.{ℕ, ◌^◌, ◌<◌, ◌≤◌, ◌≡◌, ◌==◌, true}
use Rattle.std.proofs.Common.{false, List, [], ◌∷◌, map, decimal}
use Rattle.std.proofs.Common.{codes, Ok, arith, refl, lit<, lit≤}
use Rattle.std.specs.Char.{to_ascii_lowercase, is_ascii_digit}
use Rattle.std.specs.List.{AllByRecursion}
use Rattle.std.specs.Str.{all_ascii_digits}
use Rattle.std.proofs.lemmas.Bool.Decides.{nat_tests}
use Rattle.std.proofs.lemmas.List.Elements.{All-from_recursion, All-contains}
use Rattle.suit_cards.specs.Holdings.{IsHolding, FallsBelow, suit, text_of}
use Rattle.suit_cards.specs.Ranks.{letters, letter_of}
use Rattle.suit_cards.proofs.RankLetters.{Contains-suit}
use Rattle.suit_cards.proofs.HoldingTextReadsBack.{holding_read-text_of}
use Rattle.suit_game.specs.Validity.{AreEntries, IsGoal}
use Rattle.suit_game.specs.declared.limits.TheConstants.{HAND_SIZE}
use Rattle.suit_game.specs.declared.question.LeadAt.{LeadAt}
use Rattle.suit_game.specs.declared.question.LeadAt.TheVariants.{N, S, Either}
use Rattle.suit_game.specs.declared.question.Entries.{Entries}
use Rattle.suit_game.specs.declared.question.Entries.TheVariants.{Count, Free}
use Rattle.suit_game.specs.declared.question.Goal.{Goal}
use Rattle.suit_game.specs.declared.question.Goal.TheVariants.{AtLeast, Tricks}
use Rattle.suit_question.specs.Values.{number_within, holding_named, lead_named, entries_named, goal_named}
use Rattle.suit_question.specs.Writing.{lead_text, entries_text, goal_text}
use Rattle.suit_question.specs.declared.values.TheConstants.{MOST_DIGITS}
use Rattle.suit_text.specs.Loose.{is_word}
use Rattle.suit_text.proofs.LooseLinesBack.{ArePlain, IsPlainWord}
use Rattle.suit_text.proofs.LooseNumbersBack.{digits_written, number_back, both_true, number_plain}
use Rattle.suit_text.proofs.ShortNumbers.{is_within}

-- a number in its range is read back
pub number_within_back : (least most number : ℕ) → least ≤ number → number ≤ most → number < 10 ^ MOST_DIGITS
    → number_within least most (decimal number) ≡ Ok number
number_within_back least most number low high small =
    rw (number_back MOST_DIGITS number (lit< tt) (lit≤ tt) small, is_within least number low, is_within number most high) refl

pub count_back : (count : ℕ) → count ≤ HAND_SIZE → number_within 0 HAND_SIZE (decimal count) ≡ Ok count
count_back count few = number_within_back 0 HAND_SIZE count (omega arith) few (omega arith)

-- digits make no word whose first letter is none
digit_first : (byte : ℕ) → is_ascii_digit byte ≡ true → (to_ascii_lowercase byte == 102) ≡ false
digit_first byte h = grind (arith, nat_tests)

digit_first_t : (byte : ℕ) → is_ascii_digit byte ≡ true → (to_ascii_lowercase byte == 116) ≡ false
digit_first_t byte h = grind (arith, nat_tests)

not_free : (text : List ℕ) → all_ascii_digits text ≡ true → is_word (codes "free") text ≡ false
not_free [] h = refl
not_free (byte ∷ rest) h = rw (digit_first byte (both_true _ _ h).0) refl

not_tricks : (text : List ℕ) → all_ascii_digits text ≡ true → is_word (codes "tricks") text ≡ false
not_tricks [] h = refl
not_tricks (byte ∷ rest) h = rw (digit_first_t byte (both_true _ _ h).0) refl

pub entries_back : (entries : Entries) → AreEntries entries → entries_named (entries_text entries) ≡ Ok entries
entries_back Free h = refl
entries_back (Count left) h =
    rw (not_free (decimal left) (digits_written left (omega arith)), count_back left h) refl

pub goal_back : (goal : Goal) → IsGoal goal → goal_named (goal_text goal) ≡ Ok goal
goal_back Tricks h = refl
goal_back (AtLeast least) h =
    rw (not_tricks (decimal least) (digits_written least (omega arith)), count_back least h) refl

pub lead_back : (lead : LeadAt) → lead_named (lead_text lead) ≡ Ok lead
lead_back N = refl
lead_back S = refl
lead_back Either = refl

pub holding_back : (ranks : List ℕ) → IsHolding ranks → holding_named (text_of ranks) ≡ Ok ranks
holding_back ranks is = rw (holding_read-text_of ranks is) refl

pub entries_plain : (entries : Entries) → AreEntries entries → IsPlainWord (entries_text entries)
entries_plain Free h = record { some = lit< tt; plain = (lit< tt, (lit< tt, (lit< tt, (lit< tt, tt)))) }
entries_plain (Count left) h = number_plain left (omega arith)

pub goal_plain : (goal : Goal) → IsGoal goal → IsPlainWord (goal_text goal)
goal_plain Tricks h =
    record { some = lit< tt; plain = (lit< tt, (lit< tt, (lit< tt, (lit< tt, (lit< tt, (lit< tt, tt)))))) }
goal_plain (AtLeast least) h = number_plain least (omega arith)

pub lead_plain : (lead : LeadAt) → IsPlainWord (lead_text lead)
lead_plain N = record { some = lit< tt; plain = (lit< tt, tt) }
lead_plain S = record { some = lit< tt; plain = (lit< tt, tt) }
lead_plain Either =
    record { some = lit< tt; plain = (lit< tt, (lit< tt, (lit< tt, (lit< tt, (lit< tt, (lit< tt, tt)))))) }

each_letter : AllByRecursion (λ rank. 32 < letter_of rank) suit
unfolding suit letters
each_letter = (
  lit< tt,
  (
    lit< tt,
    (
      lit< tt,
      (lit< tt, (lit< tt, (lit< tt, (lit< tt, (lit< tt, (lit< tt, (lit< tt, (lit< tt, (lit< tt, (lit< tt, tt)))))))))),
    ),
  ),
)

letters_plain : (rank : ℕ) → 2 ≤ rank → rank ≤ 14 → 32 < letter_of rank
letters_plain rank low high =
    All-contains (λ r. 32 < letter_of r) suit rank (All-from_recursion _ suit each_letter)
    (Contains-suit rank (low, high))

ranks_plain : (top : ℕ) (ranks : List ℕ) → top ≤ 15 → FallsBelow top ranks → ArePlain (map letter_of ranks)
ranks_plain top [] h falls = tt
ranks_plain top (rank ∷ rest) h falls =
    (letters_plain rank falls.0 (omega (arith, falls.1)), ranks_plain rank rest (omega (arith, falls.1)) falls.2)

pub holding_plain : (ranks : List ℕ) → IsHolding ranks → IsPlainWord (text_of ranks)
holding_plain [] is = record { some = lit< tt; plain = (lit< tt, tt) }
holding_plain (rank ∷ rest) is = record { some = omega arith; plain = ranks_plain 15 (rank ∷ rest) (lit≤ tt) is }
