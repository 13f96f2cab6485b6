-- Masses and worths are linear in the point, so that the numbers of the program tell them (`rows_tell`, `costs_tell`).
use Rattle.std.proofs.Common.{◌≡◌, ℕ, zero, suc, Bool, true, false, List, [], ◌∷◌, ◌++◌, Some, None, map, refl, ap}
use Rattle.std.proofs.Common.{◌∙◌, arith}
use Rattle.std.specs.Prelude.{◌-◌, length, if◌then◌else◌, ℤ, pos, neg_ℤ, ◌+ℤ◌, ◌-ℤ◌, ◌*ℤ◌}
use Rattle.std.proofs.lemmas.Int.{ints}
use Rattle.std.proofs.Math.IntN.{*ℤ_comm}
use Rattle.suit_cards.specs.Cards.{ClassLayout}
use Rattle.suit_num.proofs.IntegerLaws.{mul-add_left, mul-neg_left, mul_left_comm}
use Rattle.suit_game.specs.declared.question.Question.{Question}
use Rattle.suit_game.specs.declared.limits.TheConstants.{MOST_MOVES}
use Rattle.suit_classes.specs.declared.class_moves.ClassMove.{ClassMove}
use Rattle.suit_classes.specs.ClassMoves.{same_class_move}
use Rattle.suit_classes.specs.ClassPlaces.{class_after, class_moves, class_payoff, class_turn}
use Rattle.suit_plans.specs.Masses.{count_of, is_declarers, is_first, let_through, mass_from, mass_of, share}
use Rattle.suit_plans.specs.Properness.{sum_of}
use Rattle.suit_linear.specs.Points.{dot}
use Rattle.suit_program.specs.Programs.ProgramLaws.{CostsTell, RowsTell}
use Rattle.suit_program.specs.Programs.Points.{Column, Held, Passed, Point, given_to, no_point, point_of, unit_point}
use Rattle.suit_program.specs.Programs.{Answered, Limit, Shared, columns, excess, program_of, sum_passed}
use Rattle.suit_program.specs.Supports.{Support, declarer_chooses, defence_chooses, layouts_of, supported_moves}
use Rattle.suit_program.specs.Programs.Worths.{mass_at, objective_at, passed, player, summed, worth_at, worth_within}

-- a point is a multiple of one and another
pub record AreCombined (k : ℤ) (first second all : Point) : Type 0 where
  pub at : (column : Column) → all.at column ≡ k *ℤ first.at column +ℤ second.at column
  pub one : all.one ≡ k *ℤ first.one +ℤ second.one

-- a number that rests on a point is linear in it
abbrev pub IsLinear : (Point → ℤ) → Type 0
IsLinear f = (k : ℤ) (first second all : Point) → AreCombined k first second all → f all ≡ k *ℤ f first +ℤ f second

-- ---- numbers

choice_linear : (b : Bool) (k x y z u v w : ℤ) → z ≡ k *ℤ x +ℤ y → w ≡ k *ℤ u +ℤ v
    → (if b then z else w) ≡ k *ℤ (if b then x else u) +ℤ (if b then y else v)
choice_linear true k x y z u v w one other = one
choice_linear false k x y z u v w one other = other

zero_linear : (k : ℤ) → pos 0 ≡ k *ℤ pos 0 +ℤ pos 0
zero_linear k = omega (arith, ints)

times_linear : (n k x y z : ℤ) → z ≡ k *ℤ x +ℤ y → n *ℤ z ≡ k *ℤ (n *ℤ x) +ℤ n *ℤ y
times_linear n k x y z is =
    ap (λ (a : ℤ). n *ℤ a) is ∙ mul-add_left n (k *ℤ x) y ∙ ap (λ (a : ℤ). a +ℤ n *ℤ y) (mul_left_comm n k x)

added_linear : (k x y z u v w : ℤ) → z ≡ k *ℤ x +ℤ y → w ≡ k *ℤ u +ℤ v → z +ℤ w ≡ k *ℤ (x +ℤ u) +ℤ (y +ℤ v)
added_linear k x y z u v w one other = let parts = mul-add_left k x u in omega (arith, ints, one, other, parts)

less_linear : (k x y z u v w : ℤ) → z ≡ k *ℤ x +ℤ y → w ≡ k *ℤ u +ℤ v → z -ℤ w ≡ k *ℤ (x -ℤ u) +ℤ (y -ℤ v)
less_linear k x y z u v w one other =
    let parts = mul-add_left k (x -ℤ u) u in
    let whole : (x -ℤ u) +ℤ u ≡ x = omega (arith, ints) in
    let product : k *ℤ ((x -ℤ u) +ℤ u) ≡ k *ℤ x = ap (λ (a : ℤ). k *ℤ a) whole in
    omega (arith, ints, one, other, parts, product)

sum_linear : {X : Type 0} (k : ℤ) (f g h : X → ℤ) (xs : List X) → ((x : X) → h x ≡ k *ℤ f x +ℤ g x)
    → sum_of (map h xs) ≡ k *ℤ sum_of (map f xs) +ℤ sum_of (map g xs)
unfolding sum_of
sum_linear k f g h [] is = zero_linear k
sum_linear k f g h (x ∷ xs) is =
    added_linear k (f x) (g x) (h x) (sum_of (map f xs)) (sum_of (map g xs)) (sum_of (map h xs)) (is x)
    (sum_linear k f g h xs is)

module _ (question : Question) (support : Support) (k : ℤ) (first second all : Point)
    (combined : AreCombined k first second all) where
  -- ---- masses

  count_linear : (history : List ClassMove) (move : ClassMove) (moves : List ClassMove)
      → count_of (map (λ other. (other, all.at (Passed history other))) moves) move
      ≡ k *ℤ count_of (map (λ other. (other, first.at (Passed history other))) moves) move
      +ℤ count_of (map (λ other. (other, second.at (Passed history other))) moves) move
  unfolding count_of
  count_linear history move [] = zero_linear k
  count_linear history move (other ∷ moves) =
      choice_linear (same_class_move other move) k (first.at (Passed history other))
      (second.at (Passed history other)) (all.at (Passed history other))
      (count_of (map (λ next. (next, first.at (Passed history next))) moves) move)
      (count_of (map (λ next. (next, second.at (Passed history next))) moves) move)
      (count_of (map (λ next. (next, all.at (Passed history next))) moves) move)
      (combined.at (Passed history other)) (count_linear history move moves)

  share_linear : (history : List ClassMove) (chooses leads : Bool) (x y z : ℤ) (move : ClassMove)
      → z ≡ k *ℤ x +ℤ y
      → share (if chooses then Some (passed question support all history) else None) leads z move
      ≡ k *ℤ share (if chooses then Some (passed question support first history) else None) leads x move
      +ℤ share (if chooses then Some (passed question support second history) else None) leads y move
  share_linear history true leads x y z move is =
      count_linear history move (supported_moves question support [] history)
  share_linear history false true x y z move is = is
  share_linear history false false x y z move is = zero_linear k

  from_linear : (history : List ClassMove) (x y z : ℤ) (moves : List ClassMove) → z ≡ k *ℤ x +ℤ y
      → mass_from question (player question support all) history z moves
      ≡ k *ℤ mass_from question (player question support first) history x moves
      +ℤ mass_from question (player question support second) history y moves
  unfolding mass_from
  from_linear history x y z [] is = is
  from_linear history x y z (move ∷ moves) is =
      let leads : Bool = is_first (class_moves (class_after question history) []) move in
      from_linear (history ++ move ∷ [])
      (let_through question (player question support first) history x move)
      (let_through question (player question support second) history y move)
      (let_through question (player question support all) history z move) moves
      (choice_linear (is_declarers (class_turn (class_after question history))) k
      (share (if declarer_chooses question history then Some (passed question support first history) else None) leads x
      move)
      (share (if declarer_chooses question history then Some (passed question support second history) else None) leads y
      move)
      (share (if declarer_chooses question history then Some (passed question support all history) else None) leads z
      move) x y z
      (share_linear history (declarer_chooses question history) leads x y z move is) is)

  pub masses_linear : (history : List ClassMove)
      → mass_at question support all history
      ≡ k *ℤ mass_at question support first history +ℤ mass_at question support second history
  unfolding mass_of
  masses_linear history = from_linear [] first.one second.one all.one history combined.one

  -- ---- worths

  summed_linear : (history : List ClassMove) (f g h : ClassMove → ℤ) (moves : List ClassMove)
      → ((move : ClassMove) → h move ≡ k *ℤ f move +ℤ g move)
      → summed question support all history (map h moves)
      ≡ k *ℤ summed question support first history (map f moves)
      +ℤ summed question support second history (map g moves)
  summed_linear history f g h [] is =
      times_linear (pos (class_payoff (class_after question history))) k (mass_at question support first history)
      (mass_at question support second history) (mass_at question support all history) (masses_linear history)
  summed_linear history f g h (move ∷ moves) is = sum_linear k f g h (move ∷ moves) is

  pub within_linear : (more : ℕ) (west : ClassLayout) (history : List ClassMove)
      → worth_within question support all more west history
      ≡ k *ℤ worth_within question support first more west history
      +ℤ worth_within question support second more west history
  unfolding worth_within
  within_linear zero west history = zero_linear k
  within_linear (suc more) west history =
      let next : Point → ClassMove → ℤ =
      λ point move. worth_within question support point more west (history ++ move ∷ []) in
      let moves : List ClassMove = supported_moves question support west history in
      choice_linear (defence_chooses question west history) k (first.at (Held west history))
      (second.at (Held west history)) (all.at (Held west history))
      (summed question support first history (map (next first) moves))
      (summed question support second history (map (next second) moves))
      (summed question support all history (map (next all) moves))
      (combined.at (Held west history))
      (summed_linear history (next first) (next second) (next all) moves
      (λ move. within_linear more west (history ++ move ∷ [])))

  pub objectives_linear : objective_at question support all
      ≡ k *ℤ objective_at question support first +ℤ objective_at question support second
  unfolding objective_at
  objectives_linear =
      sum_linear k (λ (layout : ClassLayout × ℕ). pos layout.1 *ℤ worth_at question support first layout.0 [])
      (λ layout. pos layout.1 *ℤ worth_at question support second layout.0 [])
      (λ layout. pos layout.1 *ℤ worth_at question support all layout.0 []) (layouts_of question)
      (λ layout. times_linear (pos layout.1) k (worth_at question support first layout.0 [])
      (worth_at question support second layout.0 []) (worth_at question support all layout.0 [])
      (within_linear (suc MOST_MOVES) layout.0 []))

  -- ---- rows

  pub sums_linear : (history : List ClassMove)
      → sum_passed question support all history
      ≡ k *ℤ sum_passed question support first history +ℤ sum_passed question support second history
  sums_linear history =
      sum_linear k (λ move. first.at (Passed history move)) (λ move. second.at (Passed history move))
      (λ move. all.at (Passed history move)) (supported_moves question support [] history)
      (λ move. combined.at (Passed history move))

  pub excess_linear : (limit : Limit)
      → excess question support all limit
      ≡ k *ℤ excess question support first limit +ℤ excess question support second limit
  unfolding excess
  excess_linear (Shared history) =
      less_linear k (sum_passed question support first history) (sum_passed question support second history)
      (sum_passed question support all history) (mass_at question support first history)
      (mass_at question support second history) (mass_at question support all history) (sums_linear history)
      (masses_linear history)
  excess_linear (Answered west history move) =
      less_linear k (first.at (Held west history)) (second.at (Held west history)) (all.at (Held west history))
      (worth_at question support first west (history ++ move ∷ []))
      (worth_at question support second west (history ++ move ∷ []))
      (worth_at question support all west (history ++ move ∷ [])) (combined.at (Held west history))
      (within_linear (suc MOST_MOVES - length (history ++ move ∷ [])) west (history ++ move ∷ []))

-- ---- the numbers of a program

-- nothing at all
abbrev pub nowhere : Point
nowhere = record { at = λ column. pos 0; one = pos 0 }

module _ (f : Point → ℤ) (linear : IsLinear f) where
  pub nowhere_nothing : f nowhere ≡ pos 0
  nowhere_nothing =
      let twice : f nowhere ≡ pos 1 *ℤ f nowhere +ℤ f nowhere = linear (pos 1) nowhere nowhere nowhere (record {
        at = λ column. refl;
        one = refl;
      }) in
      omega (arith, ints, twice)

  none_given : (given : ℕ → ℤ) (den : ℤ) → f (point_of [] given den) ≡ f no_point *ℤ den
  unfolding given_to
  none_given given den =
      let all : f (point_of [] given den) ≡ den *ℤ f no_point +ℤ f nowhere =
      linear den no_point nowhere (point_of [] given den)
      (record { at = λ column. zero_linear den; one = omega (arith, ints) }) in
      let turned = *ℤ_comm den (f no_point) in
      omega (arith, ints, all, turned, nowhere_nothing)

  -- a linear number is told by what it is at the units
  pub told_by_units : (all : List Column) (given : ℕ → ℤ) (den : ℤ)
      → f (point_of all given den) ≡ dot (map (λ column. f (unit_point column)) all) given +ℤ f no_point *ℤ den
  unfolding given_to dot
  told_by_units [] given den =
      let none = none_given given den in
      omega (arith, ints, none)
  told_by_units (column ∷ all) given den =
      let later : ℕ → ℤ = λ index. given (suc index) in
      let parts : f (point_of (column ∷ all) given den)
      ≡ given 0 *ℤ f (unit_point column) +ℤ f (point_of all later den) =
      linear (given 0) (unit_point column) (point_of all later den) (point_of (column ∷ all) given den)
      (record { at = λ other. refl; one = omega (arith, ints) }) in
      let rest = told_by_units all later den in
      let turned = *ℤ_comm (given 0) (f (unit_point column)) in
      omega (arith, ints, parts, rest, turned)

pub rows_tell : RowsTell
rows_tell question support given den limit =
    let f : Point → ℤ = λ point. excess question support point limit in
    let told = told_by_units f
    (λ k first second all combined. excess_linear question support k first second all combined limit)
    (columns question support) given den in
    let turned = mul-neg_left (f no_point) den in
    finish (f (point_of (columns question support) given den))
    (dot (map (λ column. f (unit_point column)) (columns question support)) given) (f no_point *ℤ den)
    (neg_ℤ (f no_point) *ℤ den) told turned
  where
    finish : (a b c d : ℤ) → a ≡ b +ℤ c → d ≡ neg_ℤ c → a ≡ b -ℤ d
    finish a b c d told turned = omega (arith, ints, told, turned)

pub costs_tell : CostsTell
unfolding program_of
costs_tell question support given den =
    told_by_units (objective_at question support)
    (λ k first second all combined. objectives_linear question support k first second all combined)
    (columns question support) given den
