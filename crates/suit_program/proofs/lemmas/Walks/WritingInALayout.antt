-- What is written at a turn of the defence for a class layout in the reach's list (`layout_writes`, `layout_keeps`).
use Rattle.std.proofs.Common.{◌≡◌, ℕ, zero, suc, ◌+◌, ◌<◌, ◌≤◌, Bool, true, false, List, [], ◌∷◌, ◌++◌, length, get_or}
use Rattle.std.proofs.Common.{map, refl, sym, ap, ◌∙◌, subst, append-nil, arith}
use Rattle.std.specs.Prelude.{Contains, if◌then◌else◌, negsuc, ◌+ℤ◌}
use Rattle.std.proofs.lemmas.List.{length-map}
use Rattle.std.proofs.lemmas.List.Elements.{Contains-get_or}
use Rattle.suit_lists.proofs.Elements.{Contains-same}
use Rattle.suit_lists.proofs.Maps.{Contains-map}
use Rattle.suit_cards.specs.Cards.{ClassLayout}
use Rattle.suit_game.specs.declared.limits.TheConstants.{MOST_SUPPORT}
use Rattle.suit_classes.specs.declared.class_moves.ClassMove.{ClassMove}
use Rattle.suit_classes.specs.ClassPlaces.{class_after, class_turn}
use Rattle.suit_plans.specs.Masses.{is_defences}
use Rattle.suit_plans.specs.ReplyLaws.{counts_at}
use Rattle.suit_program.specs.declared.walks.ledger.Account.{Account}
use Rattle.suit_program.specs.declared.walks.ledger.Ledger.{Ledger}
use Rattle.suit_program.specs.declared.walks.reach.Reach.{Reach}
use Rattle.suit_program.specs.declared.walks.reach.ReachedLayout.{ReachedLayout}
use Rattle.suit_program.specs.declared.walks.turn.LayoutMoves.{LayoutMoves}
use Rattle.suit_program.specs.Walks.Ledgers.{Adds, Extends, credit, in_each}
use Rattle.suit_program.specs.Programs.Points.{Held}
use Rattle.suit_program.specs.Programs.{Answered, Limit, answered_limits, held_column}
use Rattle.suit_program.specs.Walks.Reaches.{IsSomeReach, Reached, reached_indices}
use Rattle.suit_program.specs.Supports.{defence_chooses, supported_moves}
use Rattle.suit_program.specs.Walks.Writing.{AreAnswered, IsAnswerAsked, answered_rows, layout_of}
use Rattle.suit_program.proofs.lemmas.Walks.WritingByLayout.{answered_held, answered_kept}

mapped_index : (layouts : List ReachedLayout) (place : ℕ) (none : ReachedLayout) → place < length layouts
    → get_or (map (λ (layout : ReachedLayout). layout.index) layouts) place 0 ≡ (get_or layouts place none).index
mapped_index [] place none below = absurd (omega (arith, below))
mapped_index (first ∷ layouts) zero none below = refl
mapped_index (first ∷ layouts) (suc place) none below = mapped_index layouts place none (omega (arith, below))

-- what a reach tells of the moves in a class layout, and of a choice there
abbrev pub TellsMoves : Reach → ReachedLayout → List ClassMove → Type 0
TellsMoves reach layout moves = Reached reach (λ question support history. Contains reach.layouts.items layout
    → is_defences (class_turn (class_after question history)) ≡ true
    → moves ≡ supported_moves question support (counts_at question layout.index) history)

abbrev pub TellsChoice : Reach → ReachedLayout → Bool → Type 0
TellsChoice reach layout chooses = Reached reach (λ question support history.
    Contains (reached_indices question support history) layout.index
    → chooses ≡ defence_chooses question (counts_at question layout.index) history)

module _ (ledger : Ledger) (reach : Reach) (place : ℕ) (account : Account) (layout : ReachedLayout)
    (is : layout ≡ get_or reach.layouts.items place layout) where
  pub some_reach : IsAnswerAsked ledger reach place account → IsSomeReach reach
  some_reach case =
      record { question = case.question; support = case.support; history = case.history; reached = case.reached }

  module _ (case : IsAnswerAsked ledger reach place account) where
    abbrev west : ClassLayout
    west = counts_at case.question account.index

    index_same : layout.index ≡ account.index
    index_same =
        ap (λ (l : ReachedLayout). l.index) is
        ∙ sym (mapped_index reach.layouts.items place layout case.within) ∙ sym case.same

    layout_found : Contains reach.layouts.items layout
    layout_found =
        subst (λ (l : ReachedLayout). Contains reach.layouts.items l) (sym is)
        (Contains-get_or reach.layouts.items place layout case.within)

    index_found : Contains (reached_indices case.question case.support case.history) layout.index
    index_found =
        Contains-same layout.index case.reached.layouts
        (Contains-map (λ (other : ReachedLayout). other.index) reach.layouts.items layout layout_found)

    moves_there : (moves : List ClassMove) → TellsMoves reach layout moves
        → moves ≡ supported_moves case.question case.support west case.history
    moves_there moves tells =
        tells case.question case.support case.history case.reached layout_found case.theirs
        ∙ ap (λ (n : ℕ). supported_moves case.question case.support (counts_at case.question n) case.history) index_same

    choice_there : (chooses : Bool) → TellsChoice reach layout chooses
        → defence_chooses case.question west case.history ≡ chooses
    choice_there chooses tells =
        sym (tells case.question case.support case.history case.reached index_found
        ∙ ap (λ (n : ℕ). defence_chooses case.question (counts_at case.question n) case.history) index_same)

    -- there is room where there is a choice
    pub layout_room : (moves : List ClassMove) (chooses : Bool) → TellsMoves reach layout moves
        → TellsChoice reach layout chooses → chooses ≡ true
        → (ledger.columns < MOST_SUPPORT) × (ledger.rows + length moves ≤ suc MOST_SUPPORT)
    unfolding held_column answered_limits
    layout_room moves chooses tells_moves tells chosen =
        let there = choice_there chooses tells ∙ chosen in
        let mine : List ClassMove = supported_moves case.question case.support west case.history in
        let one = ap (λ (b : Bool). length ((if b then Held west case.history ∷ [] else []) ++ [])) there in
        let many : length (answered_rows case.question case.support case.history (account ∷ [])) ≡ length moves =
        ap (λ (l : List Limit). length l) (append-nil
        (answered_limits case.question case.support case.history (layout_of case.question account)))
        ∙ ap (λ (b : Bool). length (if b then map (Answered west case.history) mine else [])) there
        ∙ length-map mine (Answered west case.history)
        ∙ ap (λ (l : List ClassMove). length l) (sym (moves_there moves tells_moves)) in
        let columns = case.columns in let rows = case.rows in
        (omega (arith, columns, one), omega (arith, rows, many))

    pub layout_writes : (answer : LayoutMoves) (new : Ledger) (count : ℕ) (chooses : Bool)
        → TellsMoves reach layout answer.moves.items → TellsChoice reach layout chooses → chooses ≡ true
        → count ≡ length answer.moves.items
        → answer.account ≡ record { index = account.index; row = ledger.rows; factor = negsuc 0 }
        → Extends ledger new 1 count
        → Adds ledger new (λ given row. credit row account (given ledger.columns)
        +ℤ in_each ledger.rows count (given ledger.columns) row)
        → AreAnswered case.question case.support case.history (account ∷ []) ledger new (answer ∷ [])
    layout_writes answer new count chooses tells_moves tells chosen count_is opens extends adds =
        answered_held case.question case.support case.history account ledger new answer count
        (choice_there chooses tells ∙ chosen) (moves_there answer.moves.items tells_moves) count_is opens extends adds

    pub layout_keeps : (answer : LayoutMoves) (chooses : Bool) → TellsMoves reach layout answer.moves.items
        → TellsChoice reach layout chooses → chooses ≡ false → answer.account ≡ account
        → AreAnswered case.question case.support case.history (account ∷ []) ledger ledger (answer ∷ [])
    layout_keeps answer chooses tells_moves tells waits stays =
        answered_kept case.question case.support case.history account ledger answer
        (choice_there chooses tells ∙ waits) (moves_there answer.moves.items tells_moves) stays
