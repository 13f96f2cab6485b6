-- A question that ends with its line feed ends there whatever follows it (`asked_end`).
use Rattle.std.proofs.Common.{◌≡◌, ℕ, ◌+◌, ◌==◌, Bool, true, false, List, [], ◌∷◌, ◌++◌, length, map, Result, Ok, Err}
use Rattle.std.proofs.Common.{refl}
use Rattle.std.proofs.Common.{sym, ap, ◌∙◌, cond, take, drop}
use Rattle.std.specs.Prelude.{if◌then◌else◌}
use Rattle.suit_cards.specs.Cards.{Text}
use Rattle.suit_game.specs.declared.question.Question.{Question}
use Rattle.suit_question.specs.Columns.{no_columns, told_at}
use Rattle.suit_text.specs.Loose.{line_of, pieces_of}
use Rattle.suit_question.specs.Reading.{asked_by, end_index, end_of, ended, line_put, question_read}
use Rattle.suit_question.specs.Results.{◌>>=◌}
use Rattle.suit_question.specs.Words.{is_end, is_skipped}
use Rattle.suit_text.specs.Loose.{with_first, words_of}
use Rattle.suit_question.specs.declared.columns.Columns.{Columns}
use Rattle.suit_question.specs.declared.faults.QuestionFault.{QuestionFault}

-- ---- pieces

-- a text with a line feed has a piece
record HasPieces (text : Text) : Type 0 where
  first : Text
  more : List Text
  pieces : pieces_of text ≡ first ∷ more

first_piece : (byte : ℕ) (pieces : List Text) → (first : Text) × (more : List Text)
    × (with_first byte pieces ≡ first ∷ more)
first_piece byte [] = (byte ∷ [], [], refl)
first_piece byte (piece ∷ pieces) = (byte ∷ piece, pieces, refl)

either_piece : (b : Bool) (byte : ℕ) (pieces : List Text) → (first : Text) × (more : List Text)
    × (cond b ((byte ∷ []) ∷ pieces) (with_first byte pieces) ≡ first ∷ more)
either_piece true byte pieces = (byte ∷ [], pieces, refl)
either_piece false byte pieces = first_piece byte pieces

has_pieces : (byte : ℕ) (rest : Text) → HasPieces (byte ∷ rest)
unfolding pieces_of
has_pieces byte rest =
    let some = either_piece (byte == 10) byte (pieces_of rest) in
    record { first = some.0; more = some.1; pieces = some.2 }

fed_pieces : (front : Text) → HasPieces (front ++ 10 ∷ [])
fed_pieces [] = has_pieces 10 []
fed_pieces (byte ∷ front) = has_pieces byte (front ++ 10 ∷ [])

with_first-append : (byte : ℕ) (first : Text) (more others : List Text)
    → with_first byte ((first ∷ more) ++ others) ≡ with_first byte (first ∷ more) ++ others
with_first-append byte first more others = refl

pieces_either : (b : Bool) (byte : ℕ) (first : Text) (more pieces others : List Text) → pieces ≡ first ∷ more
    → cond b ((byte ∷ []) ∷ (pieces ++ others)) (with_first byte (pieces ++ others))
    ≡ cond b ((byte ∷ []) ∷ pieces) (with_first byte pieces) ++ others
pieces_either true byte first more pieces others is = refl
pieces_either false byte first more pieces others is =
    ap (λ (l : List Text). with_first byte (l ++ others)) is
    ∙ sym (ap (λ (l : List Text). with_first byte l ++ others) is)

-- the pieces of two texts are those of both, where the first ends with a line feed
pieces-append : (front text : Text)
    → pieces_of ((front ++ 10 ∷ []) ++ text) ≡ pieces_of (front ++ 10 ∷ []) ++ pieces_of text
unfolding pieces_of
pieces-append [] text = refl
pieces-append (byte ∷ front) text =
    let some = fed_pieces front in
    ap (λ (l : List Text). cond (byte == 10) ((byte ∷ []) ∷ l) (with_first byte l)) (pieces-append front text)
    ∙ pieces_either (byte == 10) byte some.first some.more (pieces_of (front ++ 10 ∷ [])) (pieces_of text) some.pieces

-- ---- lines

unless_fault : (found : Result Columns QuestionFault) (next : Columns → Result Question QuestionFault)
    (question : Question) → (found >>= next) ≡ Ok question → (after : Columns) × (next after ≡ Ok question)
unless_fault (Err fault) next question is = absurd (cc)
unless_fault (Ok after) next question is = (after, is)

-- the lines of some pieces, each as its words
abbrev said : List Text → List (List Text)
said pieces = map (λ piece. words_of (line_of piece)) pieces

-- where lines ask a question, their end line is among them
end_of-append : (columns : Columns) (number : ℕ) (pieces others : List Text) (question : Question)
    → asked_by columns number (said pieces) ≡ Ok question → end_of (pieces ++ others) ≡ end_of pieces
unfolding asked_by end_of
end_of-append columns number [] others question is = absurd (cc)
end_of-append columns number (piece ∷ pieces) others question is =
    by_skip (λ after line same. end_of-append after line pieces others question same)
    (is_skipped (words_of (line_of piece))) is
  where
    later : (ends : Bool) (more less : ℕ) → (ends ≡ false → more ≡ less)
        → length piece + (if ends then 0 else more) ≡ length piece + (if ends then 0 else less)
    later true more less same = refl
    later false more less same = ap (λ (n : ℕ). length piece + n) (same refl)

    by_end : ((after : Columns) (line : ℕ) → asked_by after line (said pieces) ≡ Ok question
        → end_of (pieces ++ others) ≡ end_of pieces) → (ends : Bool)
        → (if ends then ended columns number (said pieces)
        else (told_at number (line_put columns (words_of (line_of piece)))
        >>= λ after. asked_by after (number + 1) (said pieces))) ≡ Ok question
        → length piece + (if ends then 0 else end_of (pieces ++ others))
        ≡ length piece + (if ends then 0 else end_of pieces)
    by_end more true e = refl
    by_end more false e =
        let after = unless_fault (told_at number (line_put columns (words_of (line_of piece))))
        (λ after. asked_by after (number + 1) (said pieces)) question e in
        ap (λ (n : ℕ). length piece + n) (more after.0 (number + 1) after.1)

    by_skip : ((after : Columns) (line : ℕ) → asked_by after line (said pieces) ≡ Ok question
        → end_of (pieces ++ others) ≡ end_of pieces) → (skips : Bool)
        → (if skips then asked_by columns (number + 1) (said pieces)
        else if is_end (words_of (line_of piece)) then ended columns number (said pieces)
        else (told_at number (line_put columns (words_of (line_of piece)))
        >>= λ after. asked_by after (number + 1) (said pieces))) ≡ Ok question
        → length piece + (if is_end (words_of (line_of piece)) then 0 else end_of (pieces ++ others))
        ≡ length piece + (if is_end (words_of (line_of piece)) then 0 else end_of pieces)
    by_skip more true e =
        later (is_end (words_of (line_of piece))) (end_of (pieces ++ others)) (end_of pieces)
        (λ goes. more columns (number + 1) e)
    by_skip more false e = by_end more (is_end (words_of (line_of piece))) e

-- so its end is that of the text, whatever follows
pub asked_end : (front text : Text) (question : Question) → question_read (front ++ 10 ∷ []) ≡ Ok question
    → end_index ((front ++ 10 ∷ []) ++ text) ≡ end_index (front ++ 10 ∷ [])
asked_end front text question is =
    ap end_of (pieces-append front text)
    ∙ end_of-append no_columns 1 (pieces_of (front ++ 10 ∷ [])) (pieces_of text) question is

-- the first bytes of two texts, and the others
pub take_first : (front text : Text) → take (length front) (front ++ text) ≡ front
take_first [] text = refl
take_first (byte ∷ front) text = ap (λ (l : Text). byte ∷ l) (take_first front text)

pub drop_first : (front text : Text) → drop (length front) (front ++ text) ≡ text
drop_first [] text = refl
drop_first (byte ∷ front) text = drop_first front text
