-- How what reads a defence goes on from a class history to those with one move more: the row of the program
-- (`first_after`, `more_after`, `last_after`), the stop in a class layout (`next_stop`), its rows (`first_rows`,
-- `more_rows`, `last_rows`), and the stops in all class layouts (`next_stops`).
use Rattle.std.proofs.Common.{◌≡◌, ℕ, ◌+◌, ◌<◌, ◌≤◌, Bool, true, cond, List, [], ◌∷◌, ◌++◌, length, get_or, take}
use Rattle.std.proofs.Common.{sym, ap, ◌∙◌, subst, arith, append_assoc, length-append, None}
use Rattle.std.specs.Prelude.{Option, ℤ, pos, ◌≤ℤ◌}
use Rattle.suit_game.specs.declared.question.Question.{Question}
use Rattle.suit_classes.specs.declared.class_moves.ClassMove.{ClassMove}
use Rattle.suit_classes.specs.ClassMoves.{ClassHistory}
use Rattle.suit_plans.specs.declared.defence.DefenceRow.{DefenceRow}
use Rattle.suit_plans.specs.Masses.{Shares}
use Rattle.suit_tree.specs.declared.node.Node.{Node}
use Rattle.suit_tree.specs.Nodes.{children_of, move_of}
use Rattle.suit_program.specs.declared.walks.defence_reader.DefenceReader.{DefenceReader}
use Rattle.suit_program.specs.declared.walks.defence_walk.DefenceWalk.{DefenceWalk}
use Rattle.suit_program.specs.declared.walks.reach.Reach.{Reach}
use Rattle.suit_program.specs.Walks.DefenceLists.{AreDefenceStops, AreShared}
use Rattle.suit_program.specs.Walks.DefenceWalks.{IsDefenceStop, their_row_of, turn_row, turn_shares}
use Rattle.suit_program.specs.Programs.{Limit, limits, limits_at}
use Rattle.suit_program.specs.Walks.Reaches.{IsReach, goes_on}
use Rattle.suit_program.specs.Readings.Sharing.{AreThrough, through}
use Rattle.suit_program.specs.Supports.{Support}
use Rattle.suit_program.specs.Walks.{StandsIn, walked}
use Rattle.suit_program.proofs.lemmas.Walks.DefenceAtATurn.{mass_below, row_told, through_low}
use Rattle.suit_program.proofs.lemmas.Walks.NoNode.{no_node}
use Rattle.suit_program.proofs.lemmas.Walks.WhatAWalkGathers.{gathered, gathered_first, gathered_last, gathered_more}
use Rattle.suit_program.proofs.lemmas.Walks.WhatAWalkGathers.{stands_below}
use Rattle.suit_program.proofs.lemmas.Walks.WhatAWalkGathers.{stands_here}

-- ---- the row of the program

module _ (q : Question) (s : Support) (at : ClassHistory) (reach : Reach) (reached : IsReach q s at reach) (row : ℕ)
  where
    abbrev pub limits_in : List Node → List Limit
    limits_in nodes = gathered (limits_at q s) q s at nodes

    pub first_after : (n after : ℕ) → n ≡ length (limits_at q s at) → after ≡ row + n
        → after ≡ row + length (limits_in [])
    first_after n after count is =
        is ∙ ap (λ (k : ℕ). row + k) count
        ∙ ap (λ (l : List Limit). row + length l) (sym (gathered_first (limits_at q s) q s at))

    pub more_after : (nodes : List Node) (i : ℕ) → i < length nodes → (goes : Bool)
        → goes ≡ goes_on q s at (get_or nodes i no_node) → (after now : ℕ)
        → after ≡ row + length (limits_in (take i nodes))
        → now ≡ after + length (cond goes (walked (limits_at q s) q s (at ++ move_of (get_or nodes i no_node) ∷ [])) [])
        → now ≡ row + length (limits_in (take (i + 1) nodes))
    more_after nodes i below goes is after now so_far more =
        let child : Node = get_or nodes i no_node in
        let under : List Limit = cond goes (walked (limits_at q s) q s (at ++ move_of child ∷ [])) [] in
        sums after now row (length (limits_in (take i nodes))) (length under) so_far more
        ∙ ap (λ (n : ℕ). row + n) (sym (length-append (limits_in (take i nodes)) under)
        ∙ ap (λ (b : Bool). length (limits_in (take i nodes)
        ++ cond b (walked (limits_at q s) q s (at ++ move_of child ∷ [])) [])) is
        ∙ ap (λ (l : List Limit). length l) (sym (gathered_more (limits_at q s) q s at nodes i no_node below)))
      where
        sums : (after now row a b : ℕ) → after ≡ row + a → now ≡ after + b → now ≡ row + (a + b)
        sums after now row a b p q = omega (arith, p, q)

    pub last_after : (nodes : List Node) → nodes ≡ children_of reach.node → (i : ℕ) → length nodes ≤ i → (after : ℕ)
        → after ≡ row + length (limits_in (take i nodes)) → after ≡ row + length (walked (limits_at q s) q s at)
    last_after nodes same i past after is =
        is ∙ ap (λ (l : List Node). row + length (limits_in (take i l))) same
        ∙ ap (λ (l : List Limit). row + length l) (gathered_last (limits_at q s) q s at reach reached i
        (subst (λ (l : List Node). length l ≤ i) same past))

    -- the rows of the class history end within the prices
    pub rows_within : (prices : List ℤ) → length prices ≡ length (limits q s)
        → StandsIn (limits q s) row (walked (limits_at q s) q s at) → (n : ℕ) → n ≡ length (limits_at q s at)
        → row + n ≤ length prices
    rows_within prices long stands n count =
        let within = (stands_here (limits_at q s) q s at reach reached (limits q s) row stands).within in
        omega (arith, within, count, long)

    -- those below a node stand after those of the nodes before
    pub limits_on : (nodes : List Node) → nodes ≡ children_of reach.node → (i : ℕ) → i < length nodes → (after : ℕ)
        → true ≡ goes_on q s at (get_or nodes i no_node) → after ≡ row + length (limits_in (take i nodes))
        → StandsIn (limits q s) row (walked (limits_at q s) q s at)
        → StandsIn (limits q s) after (walked (limits_at q s) q s (at ++ move_of (get_or nodes i no_node) ∷ []))
    limits_on nodes same i below after goes is stands =
        subst (λ (n : ℕ). StandsIn (limits q s) n
        (walked (limits_at q s) q s (at ++ move_of (get_or nodes i no_node) ∷ []))) (sym is)
        (moved nodes same below (sym goes))
      where
        moved : (all : List Node) → all ≡ children_of reach.node → i < length all
            → goes_on q s at (get_or all i no_node) ≡ true
            → StandsIn (limits q s) (row + length (limits_in (take i all)))
            (walked (limits_at q s) q s (at ++ move_of (get_or all i no_node) ∷ []))
        moved all is within on =
            subst (λ (l : List Node). StandsIn (limits q s) (row + length (limits_in (take i l)))
            (walked (limits_at q s) q s (at ++ move_of (get_or l i no_node) ∷ []))) (sym is)
            (stands_below (limits_at q s) q s at reach reached (limits q s) row i no_node
            (subst (λ (l : List Node). i < length l) is within)
            (subst (λ (l : List Node). goes_on q s at (get_or l i no_node) ≡ true) is on) stands)

-- ---- a class layout

module _ (reader : DefenceReader) (reach : Reach) (history : ClassHistory) (row : ℕ) (mass : ℤ)
    (stop : IsDefenceStop reader reach history row mass) where
  abbrev q : Question
  q = stop.turn.question

  abbrev s : Support
  s = stop.turn.support

  abbrev at : ClassHistory
  at = stop.turn.history

  abbrev here_row : ClassHistory → List DefenceRow
  here_row = turn_row stop.turn

  abbrev pub rows_in : List Node → List DefenceRow
  rows_in nodes = gathered here_row q s at nodes

  pub first_rows : (old now : List DefenceRow) (shares : Option Shares)
      → now ≡ old ++ their_row_of reader.west.now history mass shares → shares ≡ turn_shares stop.turn
      → now ≡ old ++ rows_in []
  first_rows old now shares is held =
      is ∙ ap (λ (h : ClassHistory). old ++ their_row_of reader.west.now h mass shares) (sym stop.here)
      ∙ ap (λ (l : List DefenceRow). old ++ l)
      (row_told q s reader.prices.now stop.turn.scale reader.west.now at shares mass held stop.turn.is_mass
      ∙ sym (gathered_first here_row q s at))

  module _ (nodes : List Node) (same : nodes ≡ children_of reach.node) (i : ℕ) (below : i < length nodes) where
    abbrev child : Node
    child = get_or nodes i no_node

    pub pushed_here : (mv : ClassMove) (pushed : ClassHistory) → mv ≡ move_of child → pushed ≡ history ++ mv ∷ []
        → at ++ move_of child ∷ [] ≡ pushed
    pushed_here mv pushed moves longer =
        ap (λ (h : ClassHistory). h ++ move_of child ∷ []) stop.here
        ∙ ap (λ (m : ClassMove). history ++ m ∷ []) (sym moves) ∙ sym longer

    -- the stop at the node below
    abbrev pub next_stop : (next : Reach) → true ≡ goes_on q s at child
        → IsReach q s (at ++ move_of child ∷ []) next → (after : ℕ)
        → after ≡ row + length (limits_in q s at reach stop.turn.reached row (take i nodes)) → (mv : ClassMove)
        → mv ≡ move_of child
        → (shares : Option Shares) → shares ≡ turn_shares stop.turn → (passed : ℤ) → passed ≡ through shares mass mv
        → (pushed : ClassHistory) → pushed ≡ history ++ mv ∷ [] → IsDefenceStop reader next pushed after passed
    next_stop next goes reached after is mv moves shares held passed gives pushed longer = record {
      turn = record {
        question = q;
        support = s;
        history = at ++ move_of child ∷ [];
        scale = stop.turn.scale;
        long = stop.turn.long;
        low = stop.turn.low;
        listed = stop.turn.listed;
        west = stop.turn.west;
        reached = reached;
        rows = limits_on q s at reach stop.turn.reached row nodes same i below after goes is stop.turn.rows;
        some = subst (λ (z : ℤ). pos 0 ≤ℤ z) (sym gives)
            (through_low q s reader.prices.now stop.turn.scale reader.west.now at shares mass mv held stop.turn.low
            stop.turn.is_mass stop.turn.some);
        is_mass = λ there.
            gives ∙ ap (through shares mass) moves
            ∙ mass_below q s reader.prices.now stop.turn.scale reader.west.now at shares mass (move_of child) held
            stop.turn.is_mass there;
      };
      here = pushed_here mv pushed moves longer;
    }

    pub more_rows : (goes : Bool) → goes ≡ goes_on q s at child → (old before now : List DefenceRow)
        → before ≡ old ++ rows_in (take i nodes)
        → now ≡ before ++ cond goes (walked here_row q s (at ++ move_of child ∷ [])) []
        → now ≡ old ++ rows_in (take (i + 1) nodes)
    more_rows goes is old before now so_far more =
        let under : Bool → List DefenceRow = λ b. cond b (walked here_row q s (at ++ move_of child ∷ [])) [] in
        more ∙ ap (λ (l : List DefenceRow). l ++ under goes) so_far
        ∙ append_assoc old (rows_in (take i nodes)) (under goes)
        ∙ ap (λ (b : Bool). old ++ (rows_in (take i nodes) ++ under b)) is
        ∙ ap (λ (l : List DefenceRow). old ++ l) (sym (gathered_more here_row q s at nodes i no_node below))

  module _ (nodes : List Node) (same : nodes ≡ children_of reach.node) (i : ℕ) (past : length nodes ≤ i) where
    pub last_rows : (old now : List DefenceRow) → now ≡ old ++ rows_in (take i nodes)
        → now ≡ old ++ walked here_row q s at
    last_rows old now is =
        is ∙ ap (λ (l : List Node). old ++ rows_in (take i l)) same
        ∙ ap (λ (l : List DefenceRow). old ++ l) (gathered_last here_row q s at reach stop.turn.reached i
        (subst (λ (l : List Node). length l ≤ i) same past))

-- ---- all class layouts

-- the stops at the node below
abbrev pub next_stops : (walk : DefenceWalk) (reach : Reach) (history : ClassHistory) (row : ℕ) (masses : List ℤ)
    → (stops : AreDefenceStops walk reach history row masses) → (nodes : List Node) → nodes ≡ children_of reach.node
    → (i : ℕ) → i < length nodes → (next : Reach)
    → ((question : Question) (support : Support) (told : ClassHistory) → IsReach question support told reach
    → true ≡ goes_on question support told (get_or nodes i no_node))
    → ((question : Question) (support : Support) (told : ClassHistory) → IsReach question support told reach
    → IsReach question support (told ++ move_of (get_or nodes i no_node) ∷ []) next)
    → (after : ℕ)
    → ((question : Question) (support : Support) (told : ClassHistory) → IsReach question support told reach
    → after ≡ row + length (gathered (limits_at question support) question support told (take i nodes)))
    → (mv : ClassMove) → mv ≡ move_of (get_or nodes i no_node) → (shares : List (Option Shares))
    → AreShared walk reach row masses (length walk.readers.now) shares → (passed : List ℤ)
    → length passed ≡ length masses → AreThrough shares masses mv (length masses) passed → (pushed : ClassHistory)
    → pushed ≡ history ++ mv ∷ [] → AreDefenceStops walk next pushed after passed
next_stops walk reach history row masses stops nodes same i below next goes reached after is mv moves shares told
    passed long gives pushed longer = record {
      question = stops.question;
      support = stops.support;
      told = stops.told ++ move_of (get_or nodes i no_node) ∷ [];
      reached = reached stops.question stops.support stops.told stops.reached;
      here = ap (λ (h : ClassHistory). h ++ move_of (get_or nodes i no_node) ∷ []) stops.here
          ∙ ap (λ (m : ClassMove). history ++ m ∷ []) (sym moves) ∙ sym longer;
      long = stops.long;
      rows = limits_on stops.question stops.support stops.told reach stops.reached row nodes same i below after
          (goes stops.question stops.support stops.told stops.reached)
          (is stops.question stops.support stops.told stops.reached) stops.rows;
      many = long ∙ stops.many;
      each = λ index reader mass listed.
          let stop = stops.each index reader mass listed in
          let turn = stop.turn in
          next_stop (get_or walk.readers.now index reader) reach history row (get_or masses index mass) stop nodes same
          i below next (goes turn.question turn.support turn.history turn.reached)
          (reached turn.question turn.support turn.history turn.reached) after
          (is turn.question turn.support turn.history turn.reached) mv moves (get_or shares index None)
          (told index reader mass None listed turn) (get_or passed index mass)
          (gives index None mass mass (subst (λ (n : ℕ). index < n) (sym stops.many) listed)) pushed longer;
    }
