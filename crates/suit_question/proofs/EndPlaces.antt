-- `end_later`: where the question of a text ends.
use Rattle.std.proofs.Common.{ℕ, ◌+◌, ◌≡◌, true, false, List, [], length, arith, refl}
use Rattle.suit_question.specs.Words.{is_end}
use Rattle.suit_question.specs.Reading.{end_of, end_index}
use Rattle.suit_text.specs.Loose.{words_of, BeginsPiece}
use Rattle.suit_text.proofs.LooseLines.{no_pieces}

-- the place after the end, where the first line is the end
pub end_here : (text line rest : List ℕ) → BeginsPiece text line rest → is_end (words_of line) ≡ true
    → end_index text + length rest ≡ length text
unfolding end_of
end_here text line rest h e = rw (h.pieces, h.has_line, e) (omega (arith, h.whole))

-- the place after the end, where the first line is not the end
pub end_later : (text line rest : List ℕ) → BeginsPiece text line rest → is_end (words_of line) ≡ false
    → end_index text + length rest ≡ length text + end_index rest
unfolding end_of
end_later text line rest h e = rw (h.pieces, h.has_line, e) (omega (arith, h.whole))

pub no_end : (text : List ℕ) → text ≡ [] → end_index text ≡ 0
unfolding end_of
no_end text h = rw (h, no_pieces) refl
