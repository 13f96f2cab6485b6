-- The entries of each row, collected one posting after another (`entry_placed`).
use Rattle.std.proofs.Common.{◌≡◌, inl, inr, ℕ, zero, suc, ◌+◌, ◌<◌, true, false, List, [], ◌∷◌, ◌++◌, length}
use Rattle.std.proofs.Common.{take, get_or, map, refl, sym, ap, ◌∙◌, arith, Vec, Global}
use Rattle.std.specs.Prelude.{set, ◌==◌, filter}
use Rattle.std.proofs.lemmas.Bool.{cases_eq, eq-eqb, ne_eqb}
use Rattle.std.proofs.lemmas.List.{append-nil, length-append, length-set, get_or-set_same, get_or-set_other, map-append}
use Rattle.std.proofs.lemmas.List.{take_more}
use Rattle.std.proofs.lemmas.List.Elements.{filter-append}
use Rattle.suit_linear.specs.declared.sparse.Entry.{Entry}
use Rattle.suit_program.specs.declared.walks.ledger.Posting.{Posting}
use Rattle.suit_program.specs.Walks.Ledgers.{entries_of}

-- lists of no entries
pub record AreEmpty (count : ℕ) (lists : List (Vec Entry Global)) : Type 0 where
  pub same : length lists ≡ count
  pub each : (row : ℕ) (other : Vec Entry Global) → row < length lists → (get_or lists row other).items ≡ []

empty_each : (lists : List (Vec Entry Global)) (list : Vec Entry Global) → list.items ≡ []
    → ((row : ℕ) (other : Vec Entry Global) → row < length lists → (get_or lists row other).items ≡ [])
    → (row : ℕ) (other : Vec Entry Global) → row < length (lists ++ list ∷ [])
    → (get_or (lists ++ list ∷ []) row other).items ≡ []
empty_each [] list is each zero other below = is
empty_each [] list is each (suc row) other below = absurd (omega (arith, below))
empty_each (first ∷ lists) list is each zero other below = each 0 other (omega arith)
empty_each (first ∷ lists) list is each (suc row) other below =
    empty_each lists list is (λ r o b. each (suc r) o (omega (arith, b))) row other (omega (arith, below))

pub empty_more : (count : ℕ) (lists : List (Vec Entry Global)) (list : Vec Entry Global) → list.items ≡ []
    → AreEmpty count lists → AreEmpty (count + 1) (lists ++ list ∷ [])
empty_more count lists list is h = record {
  same = length-append lists (list ∷ []) ∙ ap (λ (n : ℕ). n + 1) h.same;
  each = empty_each lists list is h.each;
}

-- one more posting
entries_split : (postings : List Posting) (count : ℕ) (other : Posting) (row : ℕ) → count < length postings
    → entries_of (take (count + 1) postings) row
    ≡ entries_of (take count postings) row ++ entries_of (get_or postings count other ∷ []) row
entries_split postings count other row less =
    ap (λ (l : List Posting). entries_of l row) (take_more postings count other less)
    ∙ ap (map (λ (posting : Posting). posting.entry))
    (filter-append (λ (posting : Posting). posting.row == row) (take count postings) (get_or postings count other ∷ []))
    ∙ map-append (λ (posting : Posting). posting.entry)
    (filter (λ (posting : Posting). posting.row == row) (take count postings))
    (filter (λ (posting : Posting). posting.row == row) (get_or postings count other ∷ []))

one_here : (posting : Posting) (row : ℕ) → (posting.row == row) ≡ true → entries_of (posting ∷ []) row ≡ posting.entry
    ∷ []
one_here posting row is = rw is refl

one_other : (posting : Posting) (row : ℕ) → (posting.row == row) ≡ false → entries_of (posting ∷ []) row ≡ []
one_other posting row is = rw is refl

-- the lists have the entries of so many postings
pub record AreCollected (rows count : ℕ) (postings : List Posting) (lists : List (Vec Entry Global)) : Type 0 where
  pub same : length lists ≡ rows
  pub each : (row : ℕ) (other : Vec Entry Global) → row < rows
      → (get_or lists row other).items ≡ entries_of (take count postings) row

pub entry_placed : (rows count : ℕ) (postings : List Posting) (lists : List (Vec Entry Global)) (other : Posting)
    (none list : Vec Entry Global) → count < length postings → (get_or postings count other).row < rows
    → list.items ≡ (get_or lists (get_or postings count other).row none).items
    ++ (get_or postings count other).entry ∷ []
    → AreCollected rows count postings lists
    → AreCollected rows (count + 1) postings (set lists (get_or postings count other).row list)
entry_placed rows count postings lists other none list less within is h =
    let posting : Posting = get_or postings count other in
    record {
      same = length-set lists posting.row list ∙ h.same;
      each = λ row any below.
          elim (cases_eq row (get_or postings count other).row) [
            | inl here ↦
                ap (λ (n : ℕ). (get_or (set lists posting.row list) n any).items) here
                ∙ ap (λ (v : Vec Entry Global). v.items)
                (get_or-set_same lists posting.row list any (omega (arith, within, h.same)))
                ∙ is
                ∙ ap (λ (l : List Entry). l ++ posting.entry ∷ []) (h.each posting.row none within)
                ∙ ap (λ (n : ℕ). entries_of (take count postings) n ++ posting.entry ∷ []) (sym here)
                ∙ ap (λ (l : List Entry). entries_of (take count postings) row ++ l)
                (sym (one_here posting row (eq-eqb posting.row row (sym here))))
                ∙ sym (entries_split postings count other row less)
            | inr differs ↦
                ap (λ (v : Vec Entry Global). v.items) (get_or-set_other lists posting.row row list any differs)
                ∙ h.each row any below
                ∙ sym (append-nil (entries_of (take count postings) row))
                ∙ ap (λ (l : List Entry). entries_of (take count postings) row ++ l)
                (sym (one_other posting row (ne_eqb posting.row row (λ (e : posting.row ≡ row). differs (sym e)))))
                ∙ sym (entries_split postings count other row less)
          ];
    }
