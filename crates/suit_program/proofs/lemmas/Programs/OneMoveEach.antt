-- The point at which declarer makes one supported move at each choice (`taken_masses`, `taken_tight`).
use Rattle.std.proofs.Common.{◌≡◌, ℕ, Bool, true, false, List, [], ◌∷◌, ◌++◌, map, refl, sym, ap, ◌∙◌, subst, inl, inr}
use Rattle.std.proofs.Common.{append_assoc, append-nil, arith}
use Rattle.std.specs.Prelude.{Contains, ◌&&◌, if◌then◌else◌, ℤ, pos, ◌+ℤ◌, ◌-ℤ◌, ◌*ℤ◌}
use Rattle.std.specs.List.{AllByRecursion, flat_map}
use Rattle.std.proofs.lemmas.Bool.{and_parts, cases_Bool, false≢true, false_from_ne_true}
use Rattle.std.proofs.lemmas.Int.{ints}
use Rattle.suit_lists.proofs.Chains.{Chained}
use Rattle.suit_lists.proofs.Elements.{Contains-cons_cases, Contains-nil, Contains-same, each_at}
use Rattle.suit_lists.proofs.FlatMaps.{Contains-flat_map, each_flat_map, flat_map_from}
use Rattle.suit_lists.proofs.Maps.{Contains-map, map_same}
use Rattle.suit_lists.proofs.Once.{IsOnce}
use Rattle.suit_cards.specs.Cards.{ClassLayout}
use Rattle.suit_game.specs.declared.question.Question.{Question}
use Rattle.suit_game.specs.Validity.{IsValid}
use Rattle.suit_classes.specs.declared.class_moves.ClassMove.{ClassMove}
use Rattle.suit_classes.specs.ClassMoves.{same_class_move}
use Rattle.suit_classes.proofs.SameMoves.{same_move-itself, same_move_is}
use Rattle.suit_plans.specs.Masses.{mass_from, mass_of}
use Rattle.suit_plans.specs.Orders.{history_before, same_class_history}
use Rattle.suit_plans.specs.Properness.{sum_of}
use Rattle.suit_plans.proofs.HistoryOrder.{same_class_history-itself, same_class_history_is}
use Rattle.suit_plans.proofs.KeyOrder.{history-never}
use Rattle.suit_plans.proofs.NumberSums.{sum_nothing}
use Rattle.suit_program.specs.Programs.Points.{Column, Held, Passed, Point, given_to, point_of, same_column}
use Rattle.suit_program.specs.Programs.{Answered, Limit, Shared, columns, columns_at, excess, held_column, limits}
use Rattle.suit_program.specs.Programs.{sum_passed}
use Rattle.suit_program.specs.Supports.{Support, declarer_chooses, is_reached, layouts_of, reached_histories}
use Rattle.suit_program.specs.Supports.{reached_layouts, supported_moves}
use Rattle.suit_program.specs.Programs.Worths.{mass_at}
use Rattle.suit_program.proofs.lemmas.Programs.WithinTheRows.{their_only}
use Rattle.suit_program.proofs.lemmas.Supports.WhatIsReached.{AtOwn, AtTheirs, IsSomewhere, StandsAt, limits_reached}
use Rattle.suit_program.proofs.lemmas.Supports.WhatIsReached.{reached_fits, reached_listed, reached_next, reached_none}
use Rattle.suit_program.proofs.lemmas.Supports.ReachedInOrder.{reached_chained}
use Rattle.suit_program.proofs.lemmas.Supports.TurnCases.{Ended, Forced, Own, Theirs, TurnAt, mass_passed}
use Rattle.suit_program.proofs.lemmas.Supports.TurnCases.{supported_once, turn_at}

abbrev ones : ℕ → ℤ
ones index = pos 1

abbrev number : Bool → ℤ
number b = if b then pos 1 else pos 0

-- ---- columns that are 1

given_append : (xs ys : List Column) (wanted : Column)
    → given_to (xs ++ ys) ones wanted ≡ given_to xs ones wanted +ℤ given_to ys ones wanted
unfolding given_to
given_append [] ys wanted = nothing (given_to ys ones wanted)
  where
    nothing : (x : ℤ) → x ≡ pos 0 +ℤ x
    nothing x = omega (arith, ints)
given_append (column ∷ xs) ys wanted =
    let rest = given_append xs ys wanted in
    grouped (pos 1 *ℤ number (same_column column wanted)) (given_to (xs ++ ys) ones wanted) (given_to xs ones wanted)
    (given_to ys ones wanted) rest
  where
    grouped : (x y u v : ℤ) → y ≡ u +ℤ v → x +ℤ y ≡ (x +ℤ u) +ℤ v
    grouped x y u v is = omega (arith, ints, is)

given_none : (all : List Column) (wanted : Column)
    → AllByRecursion (λ column. same_column column wanted ≡ false) all → given_to all ones wanted ≡ pos 0
unfolding given_to
given_none [] wanted none = refl
given_none (column ∷ all) wanted none =
    let rest = given_none all wanted none.1 in
    let here : pos 1 *ℤ number (same_column column wanted) ≡ pos 0 =
    ap (λ (b : Bool). pos 1 *ℤ number b) none.0 in
    both (pos 1 *ℤ number (same_column column wanted)) (given_to all ones wanted) here rest
  where
    both : (x y : ℤ) → x ≡ pos 0 → y ≡ pos 0 → x +ℤ y ≡ pos 0
    both x y p q = omega (arith, ints, p, q)

module _ (question : Question) (support : Support) (valid : IsValid question) (taken : List ClassMove → ClassMove)
    (takes : (history : List ClassMove) → declarer_chooses question history ≡ true
    → Contains (supported_moves question support [] history) (taken history)) where
  -- whether declarer's moves are those taken, from a class history on
  unfoldable pub chosen_from : List ClassMove → List ClassMove → Bool
  chosen_from history [] = true
  chosen_from history (move ∷ moves) =
      (if declarer_chooses question history then same_class_move (taken history) move else true)
      && chosen_from (history ++ move ∷ []) moves

  unfoldable pub chosen : List ClassMove → Bool
  chosen history = chosen_from [] history

  and_swap : (a b c : Bool) → (a && (b && c)) ≡ ((a && b) && c)
  and_swap true b c = refl
  and_swap false b c = refl

  and_all : (b : Bool) → (b && true) ≡ b
  and_all true = refl
  and_all false = refl

  chosen_from-push : (history moves : List ClassMove) (move : ClassMove)
      → chosen_from history (moves ++ move ∷ [])
      ≡ (chosen_from history moves && (if declarer_chooses question (history ++ moves)
      then same_class_move (taken (history ++ moves)) move else true))
  unfolding chosen_from
  chosen_from-push history [] move =
      and_all (if declarer_chooses question history then same_class_move (taken history) move else true)
      ∙ ap (λ (h : List ClassMove). if declarer_chooses question h then same_class_move (taken h) move else true)
      (sym (append-nil history))
  chosen_from-push history (first ∷ moves) move =
      let here : Bool =
      if declarer_chooses question history then same_class_move (taken history) first else true in
      ap (λ (b : Bool). here && b) (chosen_from-push (history ++ first ∷ []) moves move)
      ∙ and_swap here (chosen_from (history ++ first ∷ []) moves)
      (if declarer_chooses question ((history ++ first ∷ []) ++ moves)
      then same_class_move (taken ((history ++ first ∷ []) ++ moves)) move else true)
      ∙ ap (λ (h : List ClassMove). (here && chosen_from (history ++ first ∷ []) moves)
      && (if declarer_chooses question h then same_class_move (taken h) move else true))
      (append_assoc history (first ∷ []) moves)

  pub chosen-push : (history : List ClassMove) (move : ClassMove)
      → chosen (history ++ move ∷ [])
      ≡ (chosen history && (if declarer_chooses question history then same_class_move (taken history) move else true))
  unfolding chosen
  chosen-push history move = chosen_from-push [] history move

  pub chosen_none : chosen [] ≡ true
  unfolding chosen chosen_from
  chosen_none = refl

  -- ---- the point

  -- the column of the move that is taken at a class history
  abbrev picked : List ClassMove → List Column
  picked history = if declarer_chooses question history && chosen history then Passed history (taken history) ∷ []
      else []

  abbrev pub taken_columns : List Column
  taken_columns = flat_map picked (reached_histories question support)

  abbrev pub taken_point : Point
  taken_point = point_of taken_columns ones (pos 1)

  picked_case : (history : List ClassMove) (b : Bool) (column : Column)
      → Contains (if b then Passed history (taken history) ∷ [] else []) column
      → (b ≡ true) × (column ≡ Passed history (taken history))
  picked_case history true column found = elim (Contains-cons_cases (Passed history (taken history)) [] column found) [
    | inl here ↦ (refl, sym here)
    | inr there ↦ absurd (Contains-nil column there)
  ]
  picked_case history false column found = absurd (Contains-nil column found)

  -- its columns are columns of the program
  pub taken_listed : (column : Column) → Contains taken_columns column → Contains (columns question support) column
  unfolding columns columns_at
  taken_listed column found =
      let from = flat_map_from picked (reached_histories question support) column found in
      let parts = picked_case from.0 (declarer_chooses question from.0 && chosen from.0) column from.2 in
      let chooses = (and_parts (declarer_chooses question from.0) (chosen from.0) parts.0).0 in
      Contains-flat_map (columns_at question support) (reached_histories question support) from.0 column from.1
      (subst (λ (b : Bool). Contains (if b then map (Passed from.0) (supported_moves question support [] from.0)
      else flat_map (held_column question from.0) (reached_layouts question support from.0)) column) (sym chooses)
      (subst (Contains (map (Passed from.0) (supported_moves question support [] from.0))) (sym parts.1)
      (Contains-map (Passed from.0) (supported_moves question support [] from.0) (taken from.0)
      (takes from.0 chooses))))

  held_case : (history : List ClassMove) (b : Bool) (west : ClassLayout) (other : List ClassMove)
      → AllByRecursion (λ column. same_column column (Held west other) ≡ false)
      (if b then Passed history (taken history) ∷ [] else [])
  unfolding same_column
  held_case history true west other = (refl, tt)
  held_case history false west other = tt

  -- the defence's columns are 0
  pub taken_held : (west : ClassLayout) (history : List ClassMove) → taken_point.at (Held west history) ≡ pos 0
  taken_held west history =
      given_none taken_columns (Held west history)
      (each_flat_map (λ column. same_column column (Held west history) ≡ false) picked
      (reached_histories question support)
      (λ other found. held_case other (declarer_chooses question other && chosen other) west history))

  apart_case : (other : List ClassMove) (b : Bool) (history : List ClassMove) (move : ClassMove)
      → (other ≡ history → ⊥)
      → AllByRecursion (λ column. same_column column (Passed history move) ≡ false)
      (if b then Passed other (taken other) ∷ [] else [])
  unfolding same_column
  apart_case other true history move apart = (
    ap (λ (b : Bool). b && same_class_move (taken other) move)
        (false_from_ne_true (same_class_history other history)
        (λ same. apart (same_class_history_is other history same))),
    tt,
  )
  apart_case other false history move apart = tt

  -- one class history of some in order
  given_in : (histories : List (List ClassMove)) (history : List ClassMove) (move : ClassMove)
      → Chained (λ here there. history_before here there ≡ true) histories → Contains histories history
      → given_to (flat_map picked histories) ones (Passed history move)
      ≡ given_to (picked history) ones (Passed history move)
  unfolding Chained
  given_in [] history move chain found = absurd (Contains-nil history found)
  given_in (first ∷ histories) history move chain found =
      given_append (picked first) (flat_map picked histories) (Passed history move)
      ∙ elim (cases_Bool (same_class_history first history)) [
        | inl same ↦
            let here : first ≡ history = same_class_history_is first history same in
            let rest : given_to (flat_map picked histories) ones (Passed history move) ≡ pos 0 =
            given_none (flat_map picked histories) (Passed history move)
            (each_flat_map (λ column. same_column column (Passed history move) ≡ false) picked histories
            (λ other later. apart_case other (declarer_chooses question other && chosen other) history move
            (λ is. false≢true (sym (history-never history) ∙ subst (λ (h : List ClassMove). history_before h history
            ≡ true) here (subst (λ (h : List ClassMove). history_before first h ≡ true) is
            (each_at (λ there. history_before first there ≡ true) histories other chain.0 later)))))) in
            ap (λ (z : ℤ). given_to (picked first) ones (Passed history move) +ℤ z) rest
            ∙ alone (given_to (picked first) ones (Passed history move))
            ∙ ap (λ (h : List ClassMove). given_to (picked h) ones (Passed history move)) here
        | inr other ↦
            let none : given_to (picked first) ones (Passed history move) ≡ pos 0 =
            given_none (picked first) (Passed history move)
            (apart_case first (declarer_chooses question first && chosen first) history move
            (λ is. false≢true (sym other ∙ subst (λ (h : List ClassMove). same_class_history first h ≡ true) is
            (same_class_history-itself first)))) in
            ap (λ (z : ℤ). z +ℤ given_to (flat_map picked histories) ones (Passed history move)) none
            ∙ before (given_to (flat_map picked histories) ones (Passed history move))
            ∙ given_in histories history move chain.1 (elim (Contains-cons_cases first histories history found) [
              | inl is ↦ absurd (false≢true (sym other ∙ subst (λ (h : List ClassMove). same_class_history first h
                  ≡ true) is (same_class_history-itself first)))
              | inr there ↦ there
            ])
      ]
    where
      alone : (x : ℤ) → x +ℤ pos 0 ≡ x
      alone x = omega (arith, ints)

      before : (x : ℤ) → pos 0 +ℤ x ≡ x
      before x = omega (arith, ints)

  one_case : (history : List ClassMove) (move : ClassMove) (b : Bool)
      → given_to (if true && b then Passed history (taken history) ∷ [] else []) ones (Passed history move)
      ≡ number (b && same_class_move (taken history) move)
  unfolding given_to same_column
  one_case history move true =
      ap (λ (b : Bool). pos 1 *ℤ number (b && same_class_move (taken history) move) +ℤ pos 0)
      (same_class_history-itself history) ∙ single (number (same_class_move (taken history) move))
    where
      single : (x : ℤ) → pos 1 *ℤ x +ℤ pos 0 ≡ x
      single x = omega (arith, ints)
  one_case history move false = refl

  -- at a choice of declarer's that is reached
  pub taken_passed : (history : List ClassMove) (move : ClassMove)
      → Contains (reached_histories question support) history
      → declarer_chooses question history ≡ true
      → taken_point.at (Passed history move) ≡ number (chosen history && same_class_move (taken history) move)
  taken_passed history move found chooses =
      given_in (reached_histories question support) history move (reached_chained question support) found
      ∙ ap (λ (b : Bool). given_to (if b && chosen history then Passed history (taken history) ∷ [] else []) ones
      (Passed history move)) chooses
      ∙ one_case history move (chosen history)

  -- ---- masses

  module _ (layout : ClassLayout × ℕ) (listed : Contains (layouts_of question) layout) where
    abbrev IsTaken : List ClassMove → Type 0
    IsTaken history = (is_reached question support layout.0 history ≡ true)
        × (mass_at question support taken_point history ≡ number (chosen history))

    stays : (history : List ClassMove) (move : ClassMove) → declarer_chooses question history ≡ false
        → mass_at question support taken_point (history ++ move ∷ []) ≡ mass_at question support taken_point history
        → mass_at question support taken_point history ≡ number (chosen history)
        → mass_at question support taken_point (history ++ move ∷ []) ≡ number (chosen (history ++ move ∷ []))
    stays history move waits same is =
        same ∙ is ∙ ap number (sym (and_all (chosen history)))
        ∙ ap (λ (b : Bool). number (chosen history && (if b then same_class_move (taken history) move else true)))
        (sym waits) ∙ ap number (sym (chosen-push history move))

    next_taken : (history : List ClassMove) (move : ClassMove) → is_reached question support layout.0 history ≡ true
        → mass_at question support taken_point history ≡ number (chosen history)
        → Contains (supported_moves question support layout.0 history) move
        → TurnAt question support layout.0 history
        → mass_at question support taken_point (history ++ move ∷ []) ≡ number (chosen (history ++ move ∷ []))
    next_taken history move reached is found (Ended over none waits) =
        absurd (Contains-nil move (Contains-same move none found))
    next_taken history move reached is found (Forced only alone one nobody same) =
        elim (Contains-cons_cases only [] move (Contains-same move one found)) [
          | inl here ↦ stays history move nobody.0 (subst (λ (m : ClassMove). mass_at question support taken_point
              (history ++ m ∷ []) ≡ mass_at question support taken_point history) here (same taken_point)) is
          | inr there ↦ absurd (Contains-nil move there)
        ]
    next_taken history move reached is found (Own chooses waits same some) =
        mass_passed question support taken_point history move chooses
        (Contains-same move same found)
        ∙ taken_passed history move (reached_listed question support valid layout listed history reached) chooses
        ∙ ap (λ (b : Bool). number (chosen history && (if b then same_class_move (taken history) move else true)))
        (sym chooses) ∙ ap number (sym (chosen-push history move))
    next_taken history move reached is found (Theirs chooses some same) =
        stays history move (their_only question layout.0 history chooses) (same taken_point move) is

    pub taken_masses : (history : List ClassMove) → is_reached question support layout.0 history ≡ true
        → mass_at question support taken_point history ≡ number (chosen history)
    unfolding mass_of mass_from chosen chosen_from
    taken_masses history reached =
        (reached_fits question support layout.0 IsTaken
        (λ before move fits found. (
          reached_next question support layout.0 before move fits.0 found,
          next_taken before move fits.0 fits.1 found (turn_at question support layout.0 before),
        ))
        (reached_none question support layout.0, refl) history reached).1

  -- ---- rows

  none_same : (moves : List ClassMove) (wanted : ClassMove) → AllByRecursion (λ later. wanted ≡ later → ⊥) moves
      → sum_of (map (λ move. number (same_class_move wanted move)) moves) ≡ pos 0
  none_same moves wanted apart =
      sum_nothing (λ move. number (same_class_move wanted move)) moves
      (λ move found. ap number (false_from_ne_true (same_class_move wanted move)
      (λ same. each_at (λ later. wanted ≡ later → ⊥) moves move apart found (same_move_is wanted move same))))

  -- of moves of which none comes twice one is a move among them
  one_same : (moves : List ClassMove) (wanted : ClassMove) → IsOnce moves → Contains moves wanted
      → sum_of (map (λ move. number (same_class_move wanted move)) moves) ≡ pos 1
  unfolding sum_of IsOnce
  one_same [] wanted once found = absurd (Contains-nil wanted found)
  one_same (move ∷ moves) wanted once found = elim (cases_Bool (same_class_move wanted move)) [
    | inl same ↦
        let here : number (same_class_move wanted move) ≡ pos 1 = ap number same in
        let rest = none_same moves wanted (subst (λ (m : ClassMove). AllByRecursion (λ later. m ≡ later → ⊥) moves)
        (sym (same_move_is wanted move same)) once.0) in
        both (number (same_class_move wanted move))
        (sum_of (map (λ other. number (same_class_move wanted other)) moves)) (pos 1) (pos 0) here rest refl
    | inr other ↦
        let here : number (same_class_move wanted move) ≡ pos 0 = ap number other in
        let rest = one_same moves wanted once.1 (elim (Contains-cons_cases move moves wanted found) [
          | inl is ↦ absurd (false≢true (sym other ∙ subst (λ (m : ClassMove). same_class_move wanted m ≡ true)
              (sym is) (same_move-itself wanted)))
          | inr there ↦ there
        ]) in
        both (number (same_class_move wanted move))
        (sum_of (map (λ next. number (same_class_move wanted next)) moves)) (pos 0) (pos 1) here rest refl
  ]
    where
      both : (x y u v : ℤ) → x ≡ u → y ≡ v → u +ℤ v ≡ pos 1 → x +ℤ y ≡ pos 1
      both x y u v p q is = omega (arith, ints, p, q, is)

  all_or_none : (b : Bool) (moves : List ClassMove) (wanted : ClassMove) → IsOnce moves → Contains moves wanted
      → sum_of (map (λ move. number (b && same_class_move wanted move)) moves) ≡ number b
  all_or_none true moves wanted once found = one_same moves wanted once found
  all_or_none false moves wanted once found = sum_nothing (λ move. pos 0) moves (λ move there. refl)

  tight_at : (history : List ClassMove) → declarer_chooses question history ≡ true
      → IsSomewhere question support history → excess question support taken_point (Shared history) ≡ pos 0
  unfolding excess
  tight_at history chooses there =
      let moves : List ClassMove = supported_moves question support [] history in
      let found = reached_listed question support valid there.layout there.listed history there.reached in
      let sum : sum_passed question support taken_point history ≡ number (chosen history) =
      ap sum_of (map_same (λ move. taken_point.at (Passed history move))
      (λ move. number (chosen history && same_class_move (taken history) move)) moves
      (λ move in_moves. taken_passed history move found chooses))
      ∙ all_or_none (chosen history) moves (taken history) (supported_once question support [] history)
      (takes history chooses) in
      let mass = taken_masses there.layout there.listed history there.reached in
      none (sum_passed question support taken_point history) (mass_at question support taken_point history)
      (number (chosen history)) sum mass
    where
      none : (x y z : ℤ) → x ≡ z → y ≡ z → x -ℤ y ≡ pos 0
      none x y z p q = omega (arith, ints, p, q)

  tight_in : (limit : Limit) → StandsAt question support limit → (history : List ClassMove) → limit ≡ Shared history
      → excess question support taken_point (Shared history) ≡ pos 0
  tight_in limit (AtOwn there chooses somewhere) history is =
      subst (λ (h : List ClassMove). excess question support taken_point (Shared h)
      ≡ pos 0) (shared_same there history is)
      (tight_at there chooses somewhere)
    where
      shared_same : (one other : List ClassMove) → Shared one ≡ Shared other → one ≡ other
      shared_same one other same = cc
  tight_in limit (AtTheirs layout there move listed reached chooses found) history is =
      absurd (apart layout.0 there move is)
    where
      apart : (west : ClassLayout) (there : List ClassMove) (move : ClassMove)
          → Answered west there move ≡ Shared history
          → ⊥
      apart west there move same = cc

  -- it keeps declarer's rows exactly
  pub taken_tight : (history : List ClassMove) → Contains (limits question support) (Shared history)
      → excess question support taken_point (Shared history) ≡ pos 0
  taken_tight history found =
      tight_in (Shared history) (limits_reached question support valid (Shared history) found) history refl
