-- What is told of each class layout by its index, one more at a time (`shared_more`, `added_more`, `through_more`,
-- `readers_more`, `empty_more`).
use Rattle.std.proofs.Common.{◌≡◌, ℕ, ◌+◌, ◌<◌, ◌≤◌, List, [], ◌∷◌, ◌++◌, length, get_or, inl, inr}
use Rattle.std.proofs.Common.{sym, ap, ◌∙◌, subst, arith, length-append}
use Rattle.std.specs.Prelude.{Option, ℤ, set}
use Rattle.std.proofs.lemmas.Bool.{cases_eq}
use Rattle.std.proofs.lemmas.List.{get_or_default, get_or-set_other, get_or-set_same, length-set}
use Rattle.suit_lists.proofs.Indices.{each_more}
use Rattle.suit_cards.specs.Cards.{ClassLayout}
use Rattle.suit_classes.specs.declared.class_moves.ClassMove.{ClassMove}
use Rattle.suit_classes.specs.ClassMoves.{ClassHistory}
use Rattle.suit_plans.specs.Masses.{Shares}
use Rattle.suit_program.specs.declared.walks.defence_reader.DefenceReader.{DefenceReader}
use Rattle.suit_program.specs.declared.walks.defence_walk.DefenceWalk.{DefenceWalk}
use Rattle.suit_program.specs.declared.walks.reach.Reach.{Reach}
use Rattle.suit_program.specs.Walks.DefenceLists.{AreAdded, AreEmptyLists, AreReaders, AreShared, IsReaderAt, RowList}
use Rattle.suit_program.specs.Walks.DefenceWalks.{IsDefenceTurn, their_row_of, turn_shares}
use Rattle.suit_program.specs.Readings.Sharing.{AreThrough, through}

-- shares in one more class layout
pub shared_more : (walk : DefenceWalk) (reach : Reach) (row : ℕ) (masses : List ℤ)
    (shares now : List (Option Shares)) (held : Option Shares) (n : ℕ) → n < length walk.readers.now
    → length masses ≡ length walk.readers.now → length shares ≡ n → now ≡ shares ++ held ∷ []
    → (reader : DefenceReader) → reader ≡ get_or walk.readers.now n reader → (mass : ℤ)
    → ((turn : IsDefenceTurn reader reach row (get_or masses n mass)) → held ≡ turn_shares turn)
    → AreShared walk reach row masses n shares → AreShared walk reach row masses (n + 1) now
shared_more walk reach row masses shares now held n below many long is reader same mass told before =
    λ index other lot none less.
    each_more (λ i some. (turn : IsDefenceTurn (get_or walk.readers.now i other) reach row (get_or masses i lot))
    → some ≡ turn_shares turn) shares now held n long is
    (λ i d under. before i other lot d under)
    (subst (λ (z : ℤ). (turn : IsDefenceTurn (get_or walk.readers.now n other) reach row z) → held ≡ turn_shares turn)
    (get_or_default masses n mass lot (omega (arith, below, many)))
    (subst (λ (r : DefenceReader). (turn : IsDefenceTurn r reach row (get_or masses n mass)) → held ≡ turn_shares turn)
    (same ∙ get_or_default walk.readers.now n reader other below) told)) index none less

-- what a move lets through of one more mass
pub through_more : (shares : List (Option Shares)) (masses : List ℤ) (move : ClassMove) (passed now : List ℤ)
    (one : ℤ) (n : ℕ) → n < length shares → n < length masses → length passed ≡ n → now ≡ passed ++ one ∷ []
    → (held : Option Shares) (mass : ℤ) → one ≡ through (get_or shares n held) (get_or masses n mass) move
    → AreThrough shares masses move n passed → AreThrough shares masses move (n + 1) now
through_more shares masses move passed now one n below under long is held mass told before =
    λ index other lot none less.
    each_more (λ i z. z ≡ through (get_or shares i other) (get_or masses i lot) move) passed now one n long is
    (λ i d within. before i other lot d within)
    (told
    ∙ ap (λ (o : Option Shares). through o (get_or masses n mass) move) (get_or_default shares n held other below)
    ∙ ap (λ (z : ℤ). through (get_or shares n other) z move) (get_or_default masses n mass lot under)) index none less

-- a row in one more class layout
pub record AreAddedSoFar (walk : DefenceWalk) (history : ClassHistory) (masses : List ℤ)
    (shares : List (Option Shares)) (count : ℕ) (old new : List RowList) : Type 0 where
  pub long : length new ≡ length old
  pub added : AreAdded walk history masses shares count old new
  pub kept : (index : ℕ) (list : RowList) → count ≤ index → get_or new index list ≡ get_or old index list

pub added_more : (walk : DefenceWalk) (history : ClassHistory) (masses : List ℤ) (shares : List (Option Shares))
    (n : ℕ) (old new : List RowList) (some list : RowList) → n < length walk.readers.now
    → length masses ≡ length walk.readers.now → length shares ≡ length walk.readers.now
    → length old ≡ length walk.readers.now → (reader : DefenceReader) → reader ≡ get_or walk.readers.now n reader
    → (mass : ℤ) (held : Option Shares)
    → list.items ≡ (get_or new n some).items
    ++ their_row_of reader.west.now history (get_or masses n mass) (get_or shares n held)
    → AreAddedSoFar walk history masses shares n old new
    → AreAddedSoFar walk history masses shares (n + 1) old (set new n list)
added_more walk history masses shares n old new some list below many given lists reader same mass held is before =
    record {
      long = length-set new n list ∙ before.long;
      added = λ index other lot none any less. elim (cases_eq index n) [
        | inl here ↦
            ap (λ (k : ℕ). (get_or (set new n list) k any).items) here
            ∙ ap (λ (l : RowList). l.items)
            (get_or-set_same new n list any (omega (arith, below, lists, before.long)))
            ∙ is
            ∙ ap (λ (l : RowList). l.items
            ++ their_row_of reader.west.now history (get_or masses n mass) (get_or shares n held))
            (before.kept n some (omega arith) ∙ get_or_default old n some any (omega (arith, below, lists)))
            ∙ ap (λ (r : DefenceReader). (get_or old n any).items
            ++ their_row_of r.west.now history (get_or masses n mass) (get_or shares n held))
            (same ∙ get_or_default walk.readers.now n reader other below)
            ∙ ap (λ (z : ℤ). (get_or old n any).items
            ++ their_row_of (get_or walk.readers.now n other).west.now history z (get_or shares n held))
            (get_or_default masses n mass lot (omega (arith, below, many)))
            ∙ ap (λ (o : Option Shares). (get_or old n any).items
            ++ their_row_of (get_or walk.readers.now n other).west.now history (get_or masses n lot) o)
            (get_or_default shares n held none (omega (arith, below, given)))
            ∙ ap (λ (k : ℕ). (get_or old k any).items
            ++ their_row_of (get_or walk.readers.now k other).west.now history (get_or masses k lot)
            (get_or shares k none)) (sym here)
        | inr apart ↦
            ap (λ (l : RowList). l.items) (get_or-set_other new n index list any apart)
            ∙ before.added index other lot none any (omega (arith, less, apart))
      ];
      kept = λ index any past.
          get_or-set_other new n index list any (λ (e : index ≡ n). absurd (omega (arith, e, past)))
          ∙ before.kept index any (omega (arith, past));
    }

-- one more reader
pub readers_more : (layouts : List (ClassLayout × ℕ)) (prices : List ℤ) (readers now : List DefenceReader)
    (reader : DefenceReader) (n : ℕ) → now ≡ readers ++ reader ∷ [] → IsReaderAt layouts prices n reader
    → AreReaders layouts prices n readers → AreReaders layouts prices (n + 1) now
readers_more layouts prices readers now reader n is here before = record {
  long = ap (λ (l : List DefenceReader). length l) is ∙ length-append readers (reader ∷ [])
      ∙ ap (λ (k : ℕ). k + 1) before.long;
  each = each_more (IsReaderAt layouts prices) readers now reader n before.long is before.each here;
}

-- one more empty list
pub empty_more : (lists now : List RowList) (list : RowList) (n : ℕ) → now ≡ lists ++ list ∷ [] → list.items ≡ []
    → AreEmptyLists n lists → AreEmptyLists (n + 1) now
empty_more lists now list n is none before = record {
  long = ap (λ (l : List RowList). length l) is ∙ length-append lists (list ∷ [])
      ∙ ap (λ (k : ℕ). k + 1) before.long;
  each = each_more (λ i some. some.items ≡ []) lists now list n before.long is before.each none;
}
