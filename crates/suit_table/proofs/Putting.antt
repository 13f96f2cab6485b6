-- The fields of a record, put one after another (`put_more`, `put_fault`, `put_all`).
use Rattle.std.proofs.Common.{◌≡◌, ◌<◌, ◌+◌, ℕ, zero, suc, List, [], ◌∷◌, Option, Some, None, Ok, Err}
use Rattle.std.proofs.Common.{drop, length, refl, arith, add-one}
use Rattle.csv.specs.Records.{field_at}
use Rattle.suit_question.specs.Columns.{column_numbered, finished, no_columns, told_at}
use Rattle.suit_question.specs.declared.columns.Columns.{Columns}
use Rattle.suit_question.specs.declared.faults.QuestionFault.{QuestionFault}
use Rattle.suit_question.specs.declared.faults.QuestionKind.{QuestionKind}
use Rattle.suit_table.specs.Fields.{field_put, fields_put, question_named, trimmed}

-- the field at a place stands before those that come after it
pub field_there : (fields : List (List ℕ)) (at : ℕ) (field : List ℕ) → Some field ≡ field_at fields at
    → (drop at fields ≡ field ∷ drop (suc at) fields) × (at < length fields)
unfolding field_at
field_there [] at field is = cc is
field_there (first ∷ rest) zero field is = (cc, omega arith)
field_there (first ∷ rest) (suc at) field is =
    let later = field_there rest at field is in (later.0, omega arith)

pub field_past : (fields : List (List ℕ)) (at : ℕ) → ◌≡◌ {A = Option (List ℕ)} None (field_at fields at)
    → drop at fields ≡ []
unfolding field_at
field_past [] zero is = refl
field_past [] (suc at) is = refl
field_past (first ∷ rest) zero is = cc is
field_past (first ∷ rest) (suc at) is = field_past rest at is

-- one more is put
pub put_more : (number : ℕ) (columns after : Columns) (fields : List (List ℕ)) (at : ℕ) (field : List ℕ)
    → Some field ≡ field_at fields at → field_put columns (column_numbered number) (trimmed field) ≡ Ok after
    → fields_put number columns (drop at fields) ≡ fields_put (number + 1) after (drop (at + 1) fields)
unfolding fields_put
put_more number columns after fields at field is put =
    rw ((field_there fields at field is).0, put, add-one number, add-one at) refl

-- one has a fault
pub put_fault : (number : ℕ) (columns : Columns) (fields : List (List ℕ)) (at : ℕ) (field : List ℕ)
    (kind : QuestionKind) → Some field ≡ field_at fields at
    → field_put columns (column_numbered number) (trimmed field) ≡ Err kind
    → fields_put number columns (drop at fields) ≡ Err kind
unfolding fields_put
put_fault number columns fields at field kind is put = rw ((field_there fields at field is).0, put) refl

-- all are put
pub put_all : (number : ℕ) (columns : Columns) (fields : List (List ℕ)) (at : ℕ)
    → ◌≡◌ {A = Option (List ℕ)} None (field_at fields at) → fields_put number columns (drop at fields) ≡ Ok columns
unfolding fields_put
put_all number columns fields at is = rw (field_past fields at is) refl

pub faulty : (number : ℕ) (fields : List (List ℕ)) (fault : QuestionFault)
    → fields_put 1 no_columns fields ≡ Err fault.kind → fault.line ≡ number → Err fault ≡ question_named number fields
faulty number fields fault is line = rw (is, ← line) refl

pub complete : (number : ℕ) (fields : List (List ℕ)) (columns : Columns) → fields_put 1 no_columns fields ≡ Ok columns
    → told_at number (finished columns) ≡ question_named number fields
complete number fields columns is = rw is refl
