-- Questions that are judged as records have the outcomes of a summary (`summary_met`).
use Rattle.std.proofs.Common.{◌≡◌, ◌≢◌, ◌<◌, ◌∷◌, [], List, ℕ, All, Ok, IfOk, length, get_or, sym, subst, arith}
use Rattle.suit_lists.proofs.Basics.{ArePlaced}
use Rattle.suit_cards.specs.Cards.{Text}
use Rattle.suit_game.specs.Validity.{IsValid}
use Rattle.suit_game.specs.declared.question.Question.{Question}
use Rattle.suit_table.specs.Judging.{IsFound, IsTold}
use Rattle.suit_table.specs.Outcomes.{Fit}
use Rattle.suit_table.specs.Summaries.{IsOutcome, IsSummary, summary_line}
use Rattle.suit_table.specs.declared.judging.Entry.{Entry}
use Rattle.suit_table.specs.declared.judging.Finding.{Finding}
use Rattle.suit_table.specs.declared.judging.Finding.TheVariants.{Judged, Faulty}
use Rattle.suit_table.specs.declared.judging.Told.{Told}
use Rattle.suit_table.specs.declared.outcomes.Outcome.{Outcome}
use Rattle.suit_table.specs.declared.outcomes.Outcome.TheVariants.{Memory}
use Rattle.suit_table.proofs.OutcomesFitQuestions.{are_outcomes}

-- a record has read the question
abbrev pub HasRead : Entry → Question → Type 0
HasRead entry question = entry.read ≡ Ok question

pub all_valid : (questions : List Question) (entries : List Entry) → length entries ≡ length questions
    → ((index : ℕ) (question : Question) (entry : Entry) → index < length questions
    → HasRead (get_or entries index entry) (get_or questions index question))
    → All IsValid questions → All (λ (entry : Entry). IfOk entry.read IsValid) entries
all_valid [] entries same read valid index entry below = absurd (omega arith)
all_valid (question ∷ questions) entries same read valid index entry below =
    subst (λ r. IfOk r IsValid) (sym (read index question entry (omega arith))) (valid index question (omega arith))

-- what is found of a question and its outcome
found_fits : (Fits : Fit) (question : Question) (finding : Finding) (outcome : Outcome)
    → IsFound Fits (Ok question) finding → IsOutcome finding outcome → Fits question outcome × (outcome ≢ Memory)
found_fits Fits question (Judged asked found) outcome is of =
    (subst (λ (o : Outcome). Fits question o) (sym of.0) is.1, of.1)
found_fits Fits question (Faulty kind) outcome is of = absurd is

module _ (Fits : Fit) (questions : List Question) (entries : List Entry) (told : List Told) (outcomes : List Outcome)
    (many : length entries ≡ length questions) (judged : length told ≡ length entries)
    (counted : length outcomes ≡ length told)
    (read : (index : ℕ) (question : Question) (entry : Entry) → index < length questions
    → HasRead (get_or entries index entry) (get_or questions index question))
    (each : ArePlaced (IsTold Fits) entries told)
    (out : ArePlaced (λ (one : Told) (outcome : Outcome). IsOutcome one.finding outcome) told outcomes) where
  fits_at : (index : ℕ) (question : Question) (entry : Entry) (one : Told) (outcome : Outcome)
      → index < length questions
      → Fits (get_or questions index question) (get_or outcomes index outcome)
      × (get_or outcomes index outcome ≢ Memory)
  fits_at index question entry one outcome below =
      let found : IsFound Fits (get_or entries index entry).read (get_or told index one).finding =
      (each index entry one (omega arith)).found in
      found_fits Fits (get_or questions index question) (get_or told index one).finding (get_or outcomes index outcome)
      (subst (λ r. IsFound Fits r (get_or told index one).finding) (read index question entry below) found)
      (out index one outcome (omega arith))

-- the same with no entry and no told record at hand
fits_in : (Fits : Fit) (questions : List Question) (entries : List Entry) (told : List Told) (outcomes : List Outcome)
    → length entries ≡ length questions → length told ≡ length entries → length outcomes ≡ length told
    → ((index : ℕ) (question : Question) (entry : Entry) → index < length questions
    → HasRead (get_or entries index entry) (get_or questions index question))
    → ArePlaced (IsTold Fits) entries told
    → ArePlaced (λ (one : Told) (outcome : Outcome). IsOutcome one.finding outcome) told outcomes
    → ArePlaced (λ (question : Question) (outcome : Outcome). Fits question outcome × (outcome ≢ Memory))
    questions outcomes
fits_in Fits questions [] told outcomes many judged counted read each out index question outcome below =
    absurd (omega arith)
fits_in Fits questions (entry ∷ entries) [] outcomes many judged counted read each out index question outcome below =
    absurd (omega arith)
fits_in Fits questions (entry ∷ entries) (one ∷ told) outcomes many judged counted read each out index question outcome
    below =
    fits_at Fits questions (entry ∷ entries) (one ∷ told) outcomes many judged counted read each out index question
    entry one outcome below

none_memory : (Fits : Fit) (questions : List Question) (outcomes : List Outcome)
    → length outcomes ≡ length questions
    → ArePlaced (λ (question : Question) (outcome : Outcome). Fits question outcome × (outcome ≢ Memory))
    questions outcomes
    → All (λ (outcome : Outcome). outcome ≢ Memory) outcomes
none_memory Fits [] outcomes same placed index outcome below = absurd (omega arith)
none_memory Fits (question ∷ questions) outcomes same placed index outcome below =
    (placed index question outcome (omega arith)).1

pub summary_met : (Fits : Fit) (questions : List Question) (entries : List Entry) (told : List Told)
    (outcomes : List Outcome) (text : Text)
    → length entries ≡ length questions → length told ≡ length entries → length outcomes ≡ length told
    → ((index : ℕ) (question : Question) (entry : Entry) → index < length questions
    → HasRead (get_or entries index entry) (get_or questions index question))
    → ArePlaced (IsTold Fits) entries told
    → ArePlaced (λ (one : Told) (outcome : Outcome). IsOutcome one.finding outcome) told outcomes
    → text ≡ summary_line outcomes → IsSummary Fits questions text
summary_met Fits questions entries told outcomes text many judged counted read each out is =
    let placed = fits_in Fits questions entries told outcomes many judged counted read each out in
    let same : length outcomes ≡ length questions = omega arith in
    record {
      outcomes = outcomes;
      fit =
          are_outcomes Fits questions outcomes same
          (λ index question outcome below. (placed index question outcome below).0);
      told = none_memory Fits questions outcomes same placed;
      is_text = is;
    }
