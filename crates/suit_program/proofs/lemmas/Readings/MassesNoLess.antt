-- The masses of a plan that is read are no less than those of the point (`masses_are_read`).
use Rattle.std.proofs.Common.{◌≡◌, Bool, true, false, List, [], ◌∷◌, ◌++◌, Some, None, refl, sym, ap, ◌∙◌, subst, arith}
use Rattle.std.proofs.Common.{append-nil, append_assoc}
use Rattle.std.specs.Prelude.{◌&&◌, nat_lt, length, if◌then◌else◌, ℤ, pos, ◌≤ℤ◌}
use Rattle.std.proofs.lemmas.Int.{ints}
use Rattle.suit_game.specs.declared.question.Question.{Question}
use Rattle.suit_classes.specs.declared.class_moves.ClassMove.{ClassMove}
use Rattle.suit_classes.specs.ClassPlaces.{class_after, class_moves, class_turn}
use Rattle.suit_plans.specs.Masses.{count_of, is_declarers, is_first, let_through, mass_from, mass_of, share}
use Rattle.suit_program.specs.Programs.Points.{IsPositive, Point}
use Rattle.suit_program.specs.Readings.{Reading, plan_reading, read_from, read_mass, read_through, topped_up}
use Rattle.suit_program.specs.Readings.ReadingLaws.{MassesAreRead}
use Rattle.suit_program.specs.Supports.{Support, declarer_chooses, legal_moves}
use Rattle.suit_program.specs.Programs.Worths.{passed, player}
use Rattle.suit_program.proofs.lemmas.Readings.MassSharedOut.{topped_more}
use Rattle.suit_program.proofs.lemmas.Programs.SumsInOrder.{le_trans}
use Rattle.suit_program.proofs.lemmas.Programs.WorthWithinMass.{through_low}

-- ---- one move more

read_from-push : (reading : Reading) (history : List ClassMove) (mass : ℤ) (moves : List ClassMove) (move : ClassMove)
    → read_from reading history mass (moves ++ move ∷ [])
    ≡ read_through reading (history ++ moves) (read_from reading history mass moves) move
unfolding read_from
read_from-push reading history mass [] move =
    ap (λ (h : List ClassMove). read_through reading h mass move) (sym (append-nil history))
read_from-push reading history mass (first ∷ moves) move =
    let now : ℤ = read_through reading history mass first in
    read_from-push reading (history ++ first ∷ []) now moves move
    ∙ ap (λ (h : List ClassMove). read_through reading h (read_from reading (history ++ first ∷ []) now moves) move)
    (append_assoc history (first ∷ []) moves)

-- a class history with one move more has the mass that the move lets through
pub read_mass-push : (reading : Reading) (history : List ClassMove) (move : ClassMove)
    → read_mass reading (history ++ move ∷ []) ≡ read_through reading history (read_mass reading history) move
unfolding read_mass
read_mass-push reading history move = read_from-push reading [] reading.whole history move

-- ---- no less

module _ (question : Question) (support : Support) (point : Point) where
  abbrev reading : Reading
  reading = plan_reading question support point

  -- at a turn of declarer's
  share_below : (history : List ClassMove) (chooses leads : Bool) (x y : ℤ) (move : ClassMove) → x ≤ℤ y → pos 0 ≤ℤ y
      → share (if chooses then Some (passed question support point history) else None) leads x move
      ≤ℤ (if chooses then count_of (topped_up y (passed question support point history)) move else y)
  share_below history true leads x y move le low = topped_more y (passed question support point history) move
  share_below history false true x y move le low = le
  share_below history false false x y move le low = low

  -- he chooses at no other
  pub not_own : (history : List ClassMove) → is_declarers (class_turn (class_after question history)) ≡ false
      → declarer_chooses question history ≡ false
  unfolding declarer_chooses
  not_own history not = ap (λ (b : Bool). b && nat_lt 1 (length (legal_moves question [] history))) not

  turn_below : (history : List ClassMove) (own : Bool) (x y : ℤ) (move : ClassMove)
      → is_declarers (class_turn (class_after question history)) ≡ own → x ≤ℤ y → pos 0 ≤ℤ y
      → let_through question (player question support point) history x move ≤ℤ read_through reading history y move
  turn_below history true x y move turn le low =
      let leads : Bool = is_first (class_moves (class_after question history) []) move in
      subst (λ (b : Bool). (if b then share (if declarer_chooses question history
      then Some (passed question support point history) else None) leads x move else x)
      ≤ℤ read_through reading history y move) (sym turn)
      (share_below history (declarer_chooses question history) leads x y move le low)
  turn_below history false x y move turn le low =
      let leads : Bool = is_first (class_moves (class_after question history) []) move in
      subst (λ (b : Bool). (if b then share (if declarer_chooses question history
      then Some (passed question support point history) else None) leads x move else x)
      ≤ℤ read_through reading history y move) (sym turn)
      (subst (λ (b : Bool). x ≤ℤ (if b then count_of (topped_up y (passed question support point history)) move else y))
      (sym (not_own history turn)) le)

  from_below : (history : List ClassMove) (x y : ℤ) (moves : List ClassMove) → IsPositive point → pos 0 ≤ℤ x → x ≤ℤ y
      → mass_from question (player question support point) history x moves ≤ℤ read_from reading history y moves
  unfolding mass_from read_from
  from_below history x y [] positive low le = le
  from_below history x y (move ∷ moves) positive low le =
      from_below (history ++ move ∷ []) (let_through question (player question support point) history x move)
      (read_through reading history y move) moves positive
      (through_low question support point positive history x move low)
      (turn_below history (is_declarers (class_turn (class_after question history))) x y move refl le
      (le_trans (pos 0) x y low le))

pub masses_are_read : MassesAreRead
unfolding mass_of read_mass
masses_are_read question support point positive history =
    from_below question support point [] point.one point.one history positive positive.one (itself point.one)
  where
    itself : (z : ℤ) → z ≤ℤ z
    itself z = omega (arith, ints)
