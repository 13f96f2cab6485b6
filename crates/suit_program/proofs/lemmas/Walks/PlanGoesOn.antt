-- How a plan's reader goes on from a class history to those with one move more (`first_after`, `first_rows`,
-- `next_stop`, `more_after`, `more_rows`, `last_after`, `last_rows`).
use Rattle.std.proofs.Common.{◌≡◌, ℕ, ◌+◌, ◌<◌, ◌≤◌, Bool, true, false, cond, List, [], ◌∷◌, ◌++◌, length, get_or, take}
use Rattle.std.proofs.Common.{refl, sym, ap, ◌∙◌, subst, arith, append_assoc, length-append}
use Rattle.std.specs.Prelude.{◌&&◌, Option, Some, None, if◌then◌else◌, ℤ}
use Rattle.suit_game.specs.declared.question.Question.{Question}
use Rattle.suit_classes.specs.declared.class_moves.ClassMove.{ClassMove}
use Rattle.suit_classes.specs.ClassMoves.{ClassHistory}
use Rattle.suit_plans.specs.declared.plan.Row.{Row}
use Rattle.suit_plans.specs.Masses.{Shares, count_of}
use Rattle.suit_tree.specs.declared.node.Node.{Node}
use Rattle.suit_tree.specs.Nodes.{children_of, move_of}
use Rattle.suit_program.specs.declared.walks.plan_reader.PlanReader.{PlanReader}
use Rattle.suit_program.specs.declared.walks.reach.Reach.{Reach}
use Rattle.suit_program.specs.Walks.PlanWalks.{IsPlanStop, reading_of, row_here, row_of_shares, shares_here}
use Rattle.suit_program.specs.Programs.Points.{Column}
use Rattle.suit_program.specs.Programs.{columns, columns_at}
use Rattle.suit_program.specs.Walks.Reaches.{IsReach, goes_on}
use Rattle.suit_program.specs.Readings.{Reading, has_row, read_mass, read_shares, row_counts}
use Rattle.suit_program.specs.Readings.Sharing.{through, wants_row, without_nothing}
use Rattle.suit_program.specs.Supports.{Support}
use Rattle.suit_program.specs.Walks.{StandsIn, walked}
use Rattle.suit_program.proofs.lemmas.Walks.NoNode.{no_node}
use Rattle.suit_program.proofs.lemmas.Walks.WhatAWalkGathers.{gathered, gathered_first, gathered_last, gathered_more}
use Rattle.suit_program.proofs.lemmas.Walks.WhatAWalkGathers.{stands_below}
use Rattle.suit_program.proofs.lemmas.Readings.MassesNoLess.{read_mass-push}

-- ---- one class history

-- the row that the shares of its mass make is its row
row_case : (b : Bool) (reading : Reading) (history : ClassHistory) → reading.chooses history ≡ b
    → row_of_shares history (read_mass reading history) (if b then Some (read_shares reading history) else None)
    ≡ row_here reading history
unfolding has_row row_counts
row_case true reading history is =
    ap (λ (b : Bool). if b && wants_row (read_mass reading history) (read_shares reading history)
    then record { history = history; counts = without_nothing (read_shares reading history) } ∷ [] else []) (sym is)
row_case false reading history is =
    ap (λ (b : Bool). if b && wants_row (read_mass reading history) (read_shares reading history)
    then record { history = history; counts = without_nothing (read_shares reading history) } ∷ [] else []) (sym is)

row_same : (reading : Reading) (history told : ClassHistory) (mass : ℤ) (shares : Option Shares) → told ≡ history
    → mass ≡ read_mass reading history → shares ≡ shares_here reading history
    → row_of_shares told mass shares ≡ row_here reading history
row_same reading history told mass shares here is held =
    ap (λ (h : ClassHistory). row_of_shares h mass shares) here
    ∙ ap (λ (z : ℤ). row_of_shares history z shares) is
    ∙ ap (row_of_shares history (read_mass reading history)) held
    ∙ row_case (reading.chooses history) reading history refl

-- the mass that goes on with a move
through_case : (b : Bool) (reading : Reading) (history : ClassHistory) (move : ClassMove) (mass : ℤ)
    → through (if b then Some (read_shares reading history) else None) mass move
    ≡ (if b then count_of (read_shares reading history) move else mass)
through_case true reading history move mass = refl
through_case false reading history move mass = refl

pub mass_on : (reading : Reading) (history : ClassHistory) (move mv : ClassMove) (mass passed : ℤ) (shares : Option
    Shares)
    → mass ≡ read_mass reading history → shares ≡ shares_here reading history → mv ≡ move
    → passed ≡ through shares mass mv → passed ≡ read_mass reading (history ++ move ∷ [])
mass_on reading history move mv mass passed shares is held same gives =
    gives ∙ ap (through shares mass) same ∙ ap (λ (o : Option Shares). through o mass move) held
    ∙ ap (λ (z : ℤ). through (shares_here reading history) z move) is
    ∙ through_case (reading.chooses history) reading history move (read_mass reading history)
    ∙ sym (read_mass-push reading history move)

-- ---- the walk

-- the same stop, of which the mass is told otherwise
abbrev pub with_mass : {reader : PlanReader} {reach : Reach} {history : ClassHistory} {column : ℕ} {mass : ℤ}
    → IsPlanStop reader reach history column mass → (other : ℤ) → other ≡ mass
    → IsPlanStop reader reach history column other
with_mass stop other same = record {
  turn = record {
    question = stop.turn.question;
    support = stop.turn.support;
    history = stop.turn.history;
    optimum = stop.turn.optimum;
    readable = stop.turn.readable;
    parts = stop.turn.parts;
    den = stop.turn.den;
    reached = stop.turn.reached;
    columns = stop.turn.columns;
    is_mass = same ∙ stop.turn.is_mass;
  };
  here = stop.here;
}

module _ (reader : PlanReader) (reach : Reach) (history : ClassHistory) (column : ℕ) (mass : ℤ)
    (stop : IsPlanStop reader reach history column mass) where
  abbrev q : Question
  q = stop.turn.question

  abbrev s : Support
  s = stop.turn.support

  abbrev at : ClassHistory
  at = stop.turn.history

  abbrev reading : Reading
  reading = reading_of q s stop.turn.optimum

  abbrev pub columns_in : List Node → List Column
  columns_in nodes = gathered (columns_at q s) q s at nodes

  abbrev pub rows_in : List Node → List Row
  rows_in nodes = gathered (row_here reading) q s at nodes

  pub first_after : (n after : ℕ) → n ≡ length (columns_at q s at) → after ≡ column + n
      → after ≡ column + length (columns_in [])
  first_after n after count is =
      is ∙ ap (λ (k : ℕ). column + k) count
      ∙ ap (λ l. column + length l) (sym (gathered_first (columns_at q s) q s at))

  pub first_rows : (old now : List Row) (told : ClassHistory) (shares : Option Shares)
      → now ≡ old ++ row_of_shares told mass shares → told ≡ history → shares ≡ shares_here reading at
      → now ≡ old ++ rows_in []
  first_rows old now told shares is here held =
      is ∙ ap (λ l. old ++ l) (row_same reading at told mass shares (here ∙ sym stop.here) stop.turn.is_mass held
      ∙ sym (gathered_first (row_here reading) q s at))

  module _ (nodes : List Node) (same : nodes ≡ children_of reach.node) (i : ℕ) (below : i < length nodes) where
    abbrev child : Node
    child = get_or nodes i no_node

    pub columns_on : (after : ℕ) → true ≡ goes_on q s at child → after ≡ column + length (columns_in (take i nodes))
        → StandsIn (columns q s) after (walked (columns_at q s) q s (at ++ move_of child ∷ []))
    columns_on after goes is =
        subst (λ (n : ℕ). StandsIn (columns q s) n (walked (columns_at q s) q s (at ++ move_of child ∷ []))) (sym is)
        (moved nodes same below (sym goes))
      where
        moved : (all : List Node) → all ≡ children_of reach.node → i < length all
            → goes_on q s at (get_or all i no_node) ≡ true
            → StandsIn (columns q s) (column + length (columns_in (take i all)))
            (walked (columns_at q s) q s (at ++ move_of (get_or all i no_node) ∷ []))
        moved all is within on =
            subst (λ (l : List Node). StandsIn (columns q s) (column + length (columns_in (take i l)))
            (walked (columns_at q s) q s (at ++ move_of (get_or l i no_node) ∷ []))) (sym is)
            (stands_below (columns_at q s) q s at reach stop.turn.reached (columns q s) column i no_node
            (subst (λ (l : List Node). i < length l) is within)
            (subst (λ (l : List Node). goes_on q s at (get_or l i no_node) ≡ true) is on) stop.turn.columns)

    pub pushed_here : (mv : ClassMove) (pushed : ClassHistory) → mv ≡ move_of child → pushed ≡ history ++ mv ∷ []
        → at ++ move_of child ∷ [] ≡ pushed
    pushed_here mv pushed moves longer =
        ap (λ (h : ClassHistory). h ++ move_of child ∷ []) stop.here
        ∙ ap (λ (m : ClassMove). history ++ m ∷ []) (sym moves) ∙ sym longer

    -- the stop at the node below
    abbrev pub next_stop : (next : Reach) → true ≡ goes_on q s at child
        → IsReach q s (at ++ move_of child ∷ []) next → (after : ℕ)
        → after ≡ column + length (columns_in (take i nodes)) → (mv : ClassMove) → mv ≡ move_of child
        → (shares : Option Shares) → shares ≡ shares_here reading at → (passed : ℤ) → passed ≡ through shares mass mv
        → (pushed : ClassHistory) → pushed ≡ history ++ mv ∷ [] → IsPlanStop reader next pushed after passed
    next_stop next goes reached after is mv moves shares held passed gives pushed longer = record {
      turn = record {
        question = q;
        support = s;
        history = at ++ move_of child ∷ [];
        optimum = stop.turn.optimum;
        readable = stop.turn.readable;
        parts = stop.turn.parts;
        den = stop.turn.den;
        reached = reached;
        columns = columns_on after goes is;
        is_mass = mass_on reading at (move_of child) mv mass passed shares stop.turn.is_mass held moves gives;
      };
      here = pushed_here mv pushed moves longer;
    }

    pub more_after : (goes : Bool) → goes ≡ goes_on q s at child → (after now : ℕ)
        → after ≡ column + length (columns_in (take i nodes))
        → now ≡ after + length (cond goes (walked (columns_at q s) q s (at ++ move_of child ∷ [])) [])
        → now ≡ column + length (columns_in (take (i + 1) nodes))
    more_after goes is after now so_far more =
        let under = cond goes (walked (columns_at q s) q s (at ++ move_of child ∷ [])) [] in
        sums after now column (length (columns_in (take i nodes))) (length under) so_far more
        ∙ ap (λ (n : ℕ). column + n) (sym (length-append (columns_in (take i nodes)) under)
        ∙ ap (λ (b : Bool). length (columns_in (take i nodes)
        ++ cond b (walked (columns_at q s) q s (at ++ move_of child ∷ [])) [])) is
        ∙ ap (λ l. length l) (sym (gathered_more (columns_at q s) q s at nodes i no_node below)))
      where
        sums : (after now column a b : ℕ) → after ≡ column + a → now ≡ after + b → now ≡ column + (a + b)
        sums after now column a b p q = omega (arith, p, q)

    pub more_rows : (goes : Bool) → goes ≡ goes_on q s at child → (old before now : List Row)
        → before ≡ old ++ rows_in (take i nodes)
        → now ≡ before ++ cond goes (walked (row_here reading) q s (at ++ move_of child ∷ [])) []
        → now ≡ old ++ rows_in (take (i + 1) nodes)
    more_rows goes is old before now so_far more =
        let under : Bool → List Row = λ b. cond b (walked (row_here reading) q s (at ++ move_of child ∷ [])) [] in
        more ∙ ap (λ (l : List Row). l ++ under goes) so_far ∙ append_assoc old (rows_in (take i nodes)) (under goes)
        ∙ ap (λ (b : Bool). old ++ (rows_in (take i nodes) ++ under b)) is
        ∙ ap (λ (l : List Row). old ++ l) (sym (gathered_more (row_here reading) q s at nodes i no_node below))

  module _ (nodes : List Node) (same : nodes ≡ children_of reach.node) (i : ℕ) (past : length nodes ≤ i) where
    pub last_after : (after : ℕ) → after ≡ column + length (columns_in (take i nodes))
        → after ≡ column + length (walked (columns_at q s) q s at)
    last_after after is =
        is ∙ ap (λ (l : List Node). column + length (columns_in (take i l))) same
        ∙ ap (λ l. column + length l) (gathered_last (columns_at q s) q s at reach stop.turn.reached i
        (subst (λ (l : List Node). length l ≤ i) same past))

    pub last_rows : (old now : List Row) → now ≡ old ++ rows_in (take i nodes)
        → now ≡ old ++ walked (row_here reading) q s at
    last_rows old now is =
        is ∙ ap (λ (l : List Node). old ++ rows_in (take i l)) same
        ∙ ap (λ (l : List Row). old ++ l) (gathered_last (row_here reading) q s at reach stop.turn.reached i
        (subst (λ (l : List Node). length l ≤ i) same past))
