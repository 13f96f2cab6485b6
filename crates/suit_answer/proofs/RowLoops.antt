-- `goes_on`, `cut_off`, `bad_row` and `is_done`: reading rows one after the other, as a loop does.
use Rattle.std.proofs.Common.{ℕ, suc, ◌+◌, ◌-◌, ◌<◌, ◌≤◌, ◌≡◌, List, [], ◌∷◌, ◌++◌, Result, Ok, Err, refl, sym, ap}
use Rattle.std.proofs.Common.{◌∙◌, arith}
use Rattle.std.proofs.lemmas.List.{append-nil}
use Rattle.suit_cards.specs.Cards.{Text}
use Rattle.suit_text.specs.Strict.{words_of}
use Rattle.suit_answer.specs.Lines.{line_due}
use Rattle.suit_answer.specs.Reading.{rows_due}
use Rattle.suit_answer.specs.Results.{Stops}
use Rattle.suit_answer.specs.declared.faults.AnswerFault.{AnswerFault}
use Rattle.suit_answer.specs.declared.faults.ReadEnd.{ReadEnd}
use Rattle.suit_answer.specs.declared.faults.ReadEnd.TheVariants as ends
use Rattle.suit_answer.proofs.Fronts.{with_front, front_grows}

module _ {R : Type 0} (row : ℕ → List Text → Result R AnswerFault) (front : List R) (line count i : ℕ)
    (pieces : List Text) (total : Result (List R × List Text) AnswerFault) where
  -- one line more is read
  pub goes_on : (next : Text) (rest : List Text) (first : R) → i < count → line_due (line + i) pieces ≡ Ok (next, rest)
      → row (line + i) (words_of next) ≡ Ok first
      → with_front front (rows_due row (line + i) (count - i) pieces) ≡ total
      → with_front (front ++ first ∷ []) (rows_due row (line + (i + 1)) (count - (i + 1)) rest) ≡ total
  unfolding rows_due
  goes_on next rest first less cut read so_far =
      let left : count - i ≡ suc (count - (i + 1)) = omega arith in
      let number : line + (i + 1) ≡ line + i + 1 = omega arith in
      let one : with_front front (rows_due row (line + i) (count - i) pieces)
      ≡ with_front (front ++ first ∷ []) (rows_due row (line + (i + 1)) (count - (i + 1)) rest) =
      rw (left, cut, read, number) (front_grows front first (rows_due row (line + i + 1) (count - (i + 1)) rest)) in
      sym one ∙ so_far

  -- the next line is cut off
  pub cut_off : (stop : ReadEnd) → i < count → Stops stop (line_due (line + i) pieces)
      → with_front front (rows_due row (line + i) (count - i) pieces) ≡ total → Stops stop total
  unfolding rows_due
  cut_off ends.Memory less cut so_far = tt
  cut_off (ends.Fault fault) less cut so_far =
      let left : count - i ≡ suc (count - (i + 1)) = omega arith in
      let one : with_front front (rows_due row (line + i) (count - i) pieces) ≡ Err fault = rw (left, cut) refl in
      sym so_far ∙ one

  -- the next line is at fault
  pub bad_row : (stop : ReadEnd) (next : Text) (rest : List Text) → i < count
      → line_due (line + i) pieces ≡ Ok (next, rest) → Stops stop (row (line + i) (words_of next))
      → with_front front (rows_due row (line + i) (count - i) pieces) ≡ total → Stops stop total
  unfolding rows_due
  bad_row ends.Memory next rest less cut read so_far = tt
  bad_row (ends.Fault fault) next rest less cut read so_far =
      let left : count - i ≡ suc (count - (i + 1)) = omega arith in
      let one : with_front front (rows_due row (line + i) (count - i) pieces) ≡ Err fault = rw (left, cut, read) refl in
      sym so_far ∙ one

  -- all rows are read
  pub is_done : count ≤ i → with_front front (rows_due row (line + i) (count - i) pieces) ≡ total
      → total ≡ Ok (front, pieces)
  unfolding rows_due
  is_done all so_far =
      let left : count - i ≡ 0 = omega arith in
      let one : with_front front (rows_due row (line + i) (count - i) pieces) ≡ Ok (front, pieces) =
      rw left (ap (λ (rows : List R). Ok (rows, pieces)) (append-nil front)) in
      sym so_far ∙ one
