-- What is posted to a ledger, step by step (`posted_extends`, `posted_adds`, `paid_more`, `passed_next`, `held_next`).
use Rattle.std.proofs.Common.{◌≡◌, ℕ, zero, suc, ◌+◌, ◌<◌, ◌≤◌, Bool, true, false, List, [], ◌∷◌, ◌++◌, length, get_or}
use Rattle.std.proofs.Common.{map, take, refl, sym, ap, ◌∙◌, subst, arith}
use Rattle.std.specs.Prelude.{Contains, ◌==◌, if◌then◌else◌, ℤ, pos, negsuc, ◌+ℤ◌, ◌-ℤ◌, ◌*ℤ◌}
use Rattle.std.proofs.lemmas.Int.{ints}
use Rattle.std.proofs.lemmas.List.{take_all, take_more}
use Rattle.suit_lists.proofs.Elements.{Contains-same, append_cases}
use Rattle.suit_num.proofs.IntegerLaws.{mul_assoc}
use Rattle.suit_plans.specs.Properness.{sum_of}
use Rattle.suit_program.specs.declared.walks.ledger.Account.{Account}
use Rattle.suit_program.specs.declared.walks.ledger.Ledger.{Ledger}
use Rattle.suit_program.specs.declared.walks.ledger.Posting.{Posting}
use Rattle.suit_program.specs.Walks.Ledgers.{Adds, Extends, Given, IsFit, credit, given_in, in_each, posted, value_of}
use Rattle.suit_program.proofs.lemmas.Supports.SumsByPlay.{sum_append}

last : (x : ℤ) → x +ℤ pos 0 ≡ x
last x = omega (arith, ints)

module _ (old new : Ledger) (row column : ℕ) (number written : ℤ) (is_number : written ≡ number)
    (items : new.postings.items ≡ old.postings.items ++ record {
      row = row;
      entry = record { column = column; number = written };
    } ∷ []) where
  pub posted_extends : new.columns ≡ old.columns → new.rows ≡ old.rows → row < old.rows → Extends old new 0 0
  posted_extends columns rows below = record {
    columns = omega (arith, columns);
    rows = omega (arith, rows);
    within = λ has posting found.
        let here : row < new.rows = omega (arith, rows, below) in
        append_cases old.postings.items
        (record { row = row; entry = record { column = column; number = written } }) posting
        (Contains-same posting items found) (λ other. other.row < new.rows)
        (λ other held. let is = has other held in omega (arith, is, rows)) here;
  }

  pub posted_adds : Adds old new (λ given other. if row == other then number *ℤ given column else pos 0)
  unfolding value_of sum_of
  posted_adds = record {
    values = λ given other.
        ap (λ (l : List Posting). sum_of (map (posted given other) l)) items
        ∙ sum_append (posted given other) old.postings.items (record {
          row = row;
          entry = record { column = column; number = written };
        } ∷ [])
        ∙ ap (λ (z : ℤ). sum_of (map (posted given other) old.postings.items) +ℤ z)
        (last (if row == other then written *ℤ given column else pos 0)
        ∙ ap (λ (z : ℤ). if row == other then z *ℤ given column else pos 0) is_number);
  }

-- a posting of so many times a factor is a credit
pub credit_adds : (old new : Ledger) (account : Account) (column times : ℕ) (number : ℤ)
    → number ≡ account.factor *ℤ pos times
    → Adds old new (λ given other. if account.row == other then number *ℤ given column else pos 0)
    → Adds old new (λ given row. credit row account (pos times *ℤ given column))
credit_adds old new account column times number is adds = record {
  values = λ given row. adds.values given row
      ∙ ap (λ (z : ℤ). value_of old given row +ℤ (if account.row == row then z else pos 0))
      (ap (λ (z : ℤ). z *ℤ given column) is ∙ mul_assoc account.factor (pos times) (given column));
}

-- nothing is added
pub adds_none : (old new : Ledger) → new.postings ≡ old.postings → Adds old new (λ given row. pos 0)
unfolding value_of
adds_none old new same = record {
  values = λ given row. ap (λ p. sum_of (map (posted given row) p.items)) same
      ∙ sym (last (sum_of (map (posted given row) old.postings.items)));
}

-- what is added one after the other
pub adds_both : (a b c : Ledger) (f g h : Given → ℕ → ℤ)
    → ((given : Given) (row : ℕ) → h given row ≡ f given row +ℤ g given row)
    → Adds a b f → Adds b c g → Adds a c h
adds_both a b c f g h same first second = record {
  values = λ given row. sums (value_of a given row) (value_of b given row) (value_of c given row) (f given row)
      (g given row) (h given row) (first.values given row) (second.values given row) (same given row);
}
  where
    sums : (a b c f g h : ℤ) → b ≡ a +ℤ f → c ≡ b +ℤ g → h ≡ f +ℤ g → c ≡ a +ℤ h
    sums a b c f g h p q r = omega (arith, ints, p, q, r)

pub extends_more : (a b c : Ledger) (columns rows : ℕ) → Extends a b columns rows → Extends b c 0 0
    → Extends a c columns rows
extends_more a b c columns rows first second =
    let one = first.columns in let two = second.columns in let three = first.rows in let four = second.rows in
    record {
      columns = omega (arith, one, two);
      rows = omega (arith, three, four);
      within = λ has. second.within (first.within has);
    }

-- ---- the payoff

abbrev pub paid : ℕ → ℕ → List Account → Given → ℕ → ℤ
paid payoff mass accounts given row =
    sum_of (map (λ (account : Account). credit row account (pos payoff *ℤ given mass)) accounts)

pub paid_none : (ledger : Ledger) (payoff mass : ℕ) → Adds ledger ledger (paid payoff mass [])
unfolding sum_of
paid_none ledger payoff mass = adds_none ledger ledger refl

pub paid_more : (a b c : Ledger) (payoff mass index : ℕ) (accounts : List Account) (account : Account)
    → index < length accounts → Adds a b (paid payoff mass (take index accounts))
    → Adds b c (λ given row. credit row (get_or accounts index account) (pos payoff *ℤ given mass))
    → Adds a c (paid payoff mass (take (index + 1) accounts))
unfolding sum_of
paid_more a b c payoff mass index accounts account below first second =
    let here : Account = get_or accounts index account in
    adds_both a b c (paid payoff mass (take index accounts))
    (λ given row. credit row here (pos payoff *ℤ given mass)) (paid payoff mass (take (index + 1) accounts))
    (λ given row.
    ap (λ (l : List Account). paid payoff mass l given row) (take_more accounts index account below)
    ∙ sum_append (λ (account : Account). credit row account (pos payoff *ℤ given mass)) (take index accounts)
    (here ∷ [])
    ∙ ap (λ (z : ℤ). paid payoff mass (take index accounts) given row +ℤ z)
    (last (credit row here (pos payoff *ℤ given mass)))) first second

-- ---- the columns of declarer's moves

at_end : (first count : ℕ) → suc first + count ≡ first + suc count
at_end first count = omega arith

given_in_more : (given : Given) (first count : ℕ)
    → given_in given first (count + 1) ≡ given_in given first count +ℤ given (first + count)
unfolding given_in
given_in_more given first zero = ends (given first) (given (first + 0)) (ap given (omega arith))
  where
    ends : (x y : ℤ) → x ≡ y → x +ℤ pos 0 ≡ pos 0 +ℤ y
    ends x y p = omega (arith, ints, p)
given_in_more given first (suc count) =
    let e : suc count + 1 ≡ suc (count + 1) = omega arith in
    ap (given_in given first) e
    ∙ ends (given first) (given_in given (suc first) (count + 1)) (given_in given (suc first) count)
    (given (suc first + count)) (given (first + suc count)) (given_in_more given (suc first) count)
    (ap given (at_end first count))
  where
    ends : (a b c d e : ℤ) → b ≡ c +ℤ d → d ≡ e → a +ℤ b ≡ (a +ℤ c) +ℤ e
    ends a b c d e p q = omega (arith, ints, p, q)

abbrev pub passes : ℕ → ℕ → ℕ → ℕ → Given → ℕ → ℤ
passes rows first count mass given row =
    if rows == row then given_in given first count -ℤ given mass else pos 0

pub passed_first : (a b c : Ledger) (rows first mass : ℕ) → b.postings ≡ a.postings
    → Adds b c (λ given other. if rows == other then negsuc 0 *ℤ given mass else pos 0)
    → Adds a c (passes rows first 0 mass)
unfolding given_in
passed_first a b c rows first mass same adds =
    adds_both a b c (λ given row. pos 0) (λ given other. if rows == other then negsuc 0 *ℤ given mass else pos 0)
    (passes rows first 0 mass) (λ given row. case (rows == row) (given mass)) (adds_none a b same) adds
  where
    case : (b : Bool) (x : ℤ) → (if b then pos 0 -ℤ x else pos 0) ≡ pos 0 +ℤ (if b then negsuc 0 *ℤ x else pos 0)
    case true x = omega (arith, ints)
    case false x = omega (arith, ints)

pub passed_next : (a b c : Ledger) (rows first mass index : ℕ) → Adds a b (passes rows first index mass)
    → Adds b c (λ given other. if rows == other then pos 1 *ℤ given (first + index) else pos 0)
    → Adds a c (passes rows first (index + 1) mass)
passed_next a b c rows first mass index one adds =
    adds_both a b c (passes rows first index mass)
    (λ given other. if rows == other then pos 1 *ℤ given (first + index) else pos 0)
    (passes rows first (index + 1) mass)
    (λ given row. case (rows == row) (given mass) (given_in given first index) (given (first + index))
    (given_in given first (index + 1)) (given_in_more given first index)) one adds
  where
    case : (b : Bool) (x s y t : ℤ) → t ≡ s +ℤ y → (if b then t -ℤ x else pos 0)
        ≡ (if b then s -ℤ x else pos 0) +ℤ (if b then pos 1 *ℤ y else pos 0)
    case true x s y t p = omega (arith, ints, p)
    case false x s y t p = omega (arith, ints)

-- ---- the rows of the defence's moves

in_each_more : (first count : ℕ) (number : ℤ) (row : ℕ)
    → in_each first (count + 1) number row
    ≡ in_each first count number row +ℤ (if first + count == row then number else pos 0)
unfolding in_each
in_each_more first zero number row =
    ends (if first == row then number else pos 0) (if first + 0 == row then number else pos 0)
    (ap (λ (n : ℕ). if n == row then number else pos 0) (omega arith))
  where
    ends : (x y : ℤ) → x ≡ y → x +ℤ pos 0 ≡ pos 0 +ℤ y
    ends x y p = omega (arith, ints, p)
in_each_more first (suc count) number row =
    let e : suc count + 1 ≡ suc (count + 1) = omega arith in
    ap (λ (n : ℕ). in_each first n number row) e
    ∙ ends (if first == row then number else pos 0) (in_each (suc first) (count + 1) number row)
    (in_each (suc first) count number row) (if suc first + count == row then number else pos 0)
    (if first + suc count == row then number else pos 0) (in_each_more (suc first) count number row)
    (ap (λ (n : ℕ). if n == row then number else pos 0) (at_end first count))
  where
    ends : (a b c d e : ℤ) → b ≡ c +ℤ d → d ≡ e → a +ℤ b ≡ (a +ℤ c) +ℤ e
    ends a b c d e p q = omega (arith, ints, p, q)

abbrev pub holds_to : Account → ℕ → ℕ → ℕ → Given → ℕ → ℤ
holds_to account column first count given row =
    credit row account (given column) +ℤ in_each first count (given column) row

pub held_first : (a b c : Ledger) (account : Account) (column first : ℕ) → b.postings ≡ a.postings
    → Adds b c (λ given row. credit row account (pos 1 *ℤ given column))
    → Adds a c (holds_to account column first 0)
unfolding in_each
held_first a b c account column first same adds =
    adds_both a b c (λ given row. pos 0) (λ given row. credit row account (pos 1 *ℤ given column))
    (holds_to account column first 0)
    (λ given row. case (account.row == row) account.factor (given column)) (adds_none a b same) adds
  where
    once : (x : ℤ) → pos 1 *ℤ x ≡ x
    once x = omega (arith, ints)

    zeros : (x : ℤ) → x +ℤ pos 0 ≡ pos 0 +ℤ x
    zeros x = omega (arith, ints)

    case : (b : Bool) (f x : ℤ) → (if b then f *ℤ x else pos 0) +ℤ pos 0
        ≡ pos 0 +ℤ (if b then f *ℤ (pos 1 *ℤ x) else pos 0)
    case true f x = zeros (f *ℤ x) ∙ ap (λ (z : ℤ). pos 0 +ℤ f *ℤ z) (sym (once x))
    case false f x = omega (arith, ints)

pub held_next : (a b c : Ledger) (account : Account) (column first index : ℕ)
    → Adds a b (holds_to account column first index)
    → Adds b c (λ given other. if first + index == other then pos 1 *ℤ given column else pos 0)
    → Adds a c (holds_to account column first (index + 1))
held_next a b c account column first index one adds =
    adds_both a b c (holds_to account column first index)
    (λ given other. if first + index == other then pos 1 *ℤ given column else pos 0)
    (holds_to account column first (index + 1))
    (λ given row. case (first + index == row) (credit row account (given column)) (given column)
    (in_each first index (given column) row) (in_each first (index + 1) (given column) row)
    (in_each_more first index (given column) row)) one adds
  where
    case : (b : Bool) (c x s t : ℤ) → t ≡ s +ℤ (if b then x else pos 0)
        → c +ℤ t ≡ (c +ℤ s) +ℤ (if b then pos 1 *ℤ x else pos 0)
    case true c x s t p = omega (arith, ints, p)
    case false c x s t p = omega (arith, ints, p)

-- a ledger with more columns and rows and then a posting
pub widened : (a b c : Ledger) (columns rows : ℕ) → b.columns ≡ a.columns + columns → b.rows ≡ a.rows + rows
    → b.postings ≡ a.postings → Extends b c 0 0 → Extends a c columns rows
widened a b c columns rows wide long same extends =
    let one = extends.columns in let two = extends.rows in
    record {
      columns = omega (arith, one, wide);
      rows = omega (arith, two, long);
      within = λ has. extends.within (λ posting found.
          let is = has posting (subst (λ p. Contains p.items posting) same found) in omega (arith, is, long));
    }

pub extends_none : (ledger : Ledger) → Extends ledger ledger 0 0
extends_none ledger = record { columns = omega arith; rows = omega arith; within = λ has. has }

-- an account is still of a row that there is
pub fit_after : (old new : Ledger) (account : Account) → Extends old new 0 0 → IsFit old.rows account
    → IsFit new.rows account
fit_after old new account extends fit =
    let rows = extends.rows in let row = fit.row in
    record { row = omega (arith, rows, row); low = fit.low; few = fit.few }

pub paid_all : (a b : Ledger) (payoff mass index : ℕ) (accounts : List Account) → length accounts ≤ index
    → Adds a b (paid payoff mass (take index accounts)) → Adds a b (paid payoff mass accounts)
paid_all a b payoff mass index accounts past adds = record {
  values = λ given row. adds.values given row
      ∙ ap (λ (l : List Account). value_of a given row +ℤ paid payoff mass l given row) (take_all index accounts past);
}

-- with more rows an account is as fit
pub fit_later : (rows all : ℕ) (account : Account) → rows ≤ all → IsFit rows account → IsFit all account
fit_later rows all account more fit =
    let row = fit.row in record { row = omega (arith, row, more); low = fit.low; few = fit.few }
