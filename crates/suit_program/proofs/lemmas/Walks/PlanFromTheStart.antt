-- The walk of a plan's reader from the empty class history on (`start_stop`), and that its rows are those of the plan
-- (`plan_whole`).
use Rattle.std.proofs.Common.{◌≡◌, Bool, true, false, cond, List, [], ◌∷◌, ◌++◌, map, refl}
use Rattle.std.proofs.Common.{sym, ap}
use Rattle.std.proofs.Common.{◌∙◌, arith, append-nil}
use Rattle.std.specs.Prelude.{filter, if◌then◌else◌, ℤ}
use Rattle.std.specs.List.{flat_map}
use Rattle.suit_game.specs.declared.question.Question.{Question}
use Rattle.suit_classes.specs.ClassMoves.{ClassHistory}
use Rattle.suit_plans.specs.declared.plan.Row.{Row}
use Rattle.suit_linear.specs.declared.ends.Optimum.{Optimum}
use Rattle.suit_tree.specs.declared.tree.Tree.{Tree}
use Rattle.suit_program.specs.declared.walks.plan_reader.PlanReader.{PlanReader}
use Rattle.suit_program.specs.declared.walks.reach.Reach.{Reach}
use Rattle.suit_program.specs.declared.supports.support.Support.{Support as MarkedSupport}
use Rattle.suit_program.specs.Supports.Marks.{support_seen}
use Rattle.suit_program.specs.Walks.PlanWalks.{IsPlanStop, reading_of, row_here}
use Rattle.suit_program.specs.Programs.{columns, columns_at}
use Rattle.suit_program.specs.Walks.Reaches.{IsReach}
use Rattle.suit_program.specs.Readings.ReadingOfAnOptimum.{IsPlanCase}
use Rattle.suit_program.specs.Readings.ReadingLaws.{plan_read}
use Rattle.suit_program.specs.Readings.{Reading, has_row, parts_of, plan_at, plan_den, plan_point, read_from, read_mass}
use Rattle.suit_program.specs.Readings.{row_counts}
use Rattle.suit_program.specs.Supports.{Support, reached_histories}
use Rattle.suit_program.specs.Walks.{StandsIn, walked}

-- all that a walk gathers stands in the list of all
pub stands_whole : (question : Question) (support : Support)
    → StandsIn (columns question support) 0 (walked (columns_at question support) question support [])
unfolding columns reached_histories
stands_whole question support = record {
  rest = [];
  from = sym (append-nil (columns question support));
  within = omega arith;
}

pub first_mass : (question : Question) (support : Support) (optimum : Optimum)
    → plan_den question support (parts_of optimum.point) ≡ read_mass (reading_of question support optimum) []
unfolding read_mass read_from plan_point
first_mass question support optimum = refl

module _ (tree : Tree) (marked : MarkedSupport) (optimum : Optimum) (den : ℤ)
    (case : IsPlanCase tree marked optimum den) where
  abbrev s : Support
  s = support_seen case.question marked

  -- the reader at the empty class history
  abbrev pub start_stop : (reader : PlanReader) → reader.parts.now ≡ optimum.point → reader.den ≡ den → (reach : Reach)
      → IsReach case.question s [] reach → (mass : ℤ) → mass ≡ den → (history : ClassHistory) → history ≡ []
      → IsPlanStop reader reach history 0 mass
  start_stop reader parts same reach reached mass is history none = record {
    turn = record {
      question = case.question;
      support = s;
      history = [];
      optimum = optimum;
      readable = case.readable;
      parts = sym parts;
      den = same ∙ case.is_den;
      reached = reached;
      columns = stands_whole case.question s;
      is_mass = is ∙ case.is_den ∙ first_mass case.question s optimum;
    };
    here = sym none;
  }

  abbrev row_at : Reading → ClassHistory → Row
  row_at reading history = record { history = history; counts = row_counts reading history }

  one_kept : (b : Bool) (reading : Reading) (history : ClassHistory) (later : List Row) (kept : List ClassHistory)
      → later ≡ map (row_at reading) kept
      → (if b then row_at reading history ∷ [] else []) ++ later ≡ map (row_at reading) (cond b (history ∷ kept) kept)
  one_kept true reading history later kept same = ap (λ (l : List Row). row_at reading history ∷ l) same
  one_kept false reading history later kept same = same

  kept_flat : (reading : Reading) (histories : List ClassHistory)
      → flat_map (row_here reading) histories ≡ map (row_at reading) (filter (has_row reading) histories)
  kept_flat reading [] = refl
  kept_flat reading (history ∷ histories) =
      one_kept (has_row reading history) reading history (flat_map (row_here reading) histories)
      (filter (has_row reading) histories) (kept_flat reading histories)

  -- its rows, and its denominator, are those of the plan
  pub plan_whole : (rows : List Row) (told : ℤ) → told ≡ den
      → rows ≡ [] ++ walked (row_here (reading_of case.question s optimum)) case.question s []
      → record { den = told; rows = rows } ≡ plan_read case.question s optimum
  unfolding plan_at plan_point reached_histories
  plan_whole rows told same is =
      ap (λ (z : ℤ). record { den = z; rows = rows }) (same ∙ case.is_den)
      ∙ ap (λ (l : List Row). record { den = plan_den case.question s (parts_of optimum.point); rows = l })
      (is ∙ kept_flat (reading_of case.question s optimum) (reached_histories case.question s))
