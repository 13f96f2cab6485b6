-- What supports name: the first moves alone (`first_seen`), or all moves (`whole_seen`).
use Rattle.std.proofs.Common.{◌≡◌, ◌∷◌, [], Bool, true, false, None, Some, ap, ◌∙◌, refl, ℕ, List}
use Rattle.std.proofs.Math.Path.{fun_ext}
use Rattle.std.specs.Prelude.{bytes_eq, slice_get, ◌&&◌, ◌||◌, if◌then◌else◌}
use Rattle.std.specs.List.{list_any}
use Rattle.suit_cards.specs.Cards.{ClassLayout, Indices}
use Rattle.suit_game.specs.declared.question.Question.{Question}
use Rattle.suit_classes.specs.declared.class_moves.ClassMove.{ClassMove}
use Rattle.suit_classes.specs.ClassMoves.{ClassHistory}
use Rattle.suit_plans.specs.ReplyLaws.{counts_at}
use Rattle.suit_tree.specs.Trees.{layout_indices}
use Rattle.suit_program.specs.declared.supports.mark.Mark.{Mark}
use Rattle.suit_program.specs.declared.supports.support.Support.{Support as MarkedSupport}
use Rattle.suit_program.specs.Supports.Marks.{NamesNone, defence_named, named_on, support_seen}
use Rattle.suit_program.specs.Supports.{Support, first_support, layouts_of, whole_support}
use Rattle.suit_program.proofs.lemmas.Supports.WhatMarksName.{none_named}

seen_if : Question → MarkedSupport → Bool → Support
seen_if question support b =
    if b then whole_support
    else record { declarers = named_on (Some support.declarers); defences = defence_named question support }

-- a support of all moves names all
pub whole_seen : (question : Question) (support : MarkedSupport) → support.all ≡ true
    → support_seen question support ≡ whole_support
unfolding support_seen
whole_seen question support all = ap (λ (b : Bool). if b then whole_support
    else record { declarers = named_on (Some support.declarers); defences = defence_named question support }) all

-- two supports name the same where they do of declarer's and of the defence's moves
pub same_support : (here there : Support)
    → ((history : ClassHistory) (move : ClassMove) → here.declarers history move ≡ there.declarers history move)
    → ((west : ClassLayout) (history : ClassHistory) (move : ClassMove)
    → here.defences west history move ≡ there.defences west history move) → here ≡ there
same_support here there own theirs =
    ap (λ (f : ClassHistory → ClassMove → Bool). record { declarers = f; defences = here.defences })
    (fun_ext (λ history. fun_ext (λ move. own history move)))
    ∙ ap (λ (f : ClassLayout → ClassHistory → ClassMove → Bool). record { declarers = there.declarers; defences = f })
    (fun_ext (λ west. fun_ext (λ history. fun_ext (λ move. theirs west history move))))

nobody : (question : Question) (west : ClassLayout) (history : ClassHistory) (move : ClassMove) (indices : Indices)
    → list_any (λ index. bytes_eq (counts_at question index) west && named_on None history move) indices ≡ false
nobody question west history move [] = refl
nobody question west history move (index ∷ indices) =
    ap (λ (b : Bool). (bytes_eq (counts_at question index) west && b)
    || list_any (λ other. bytes_eq (counts_at question other) west && named_on None history move) indices)
    (none_named history move)
    ∙ neither (bytes_eq (counts_at question index) west)
    (list_any (λ other. bytes_eq (counts_at question other) west && named_on None history move) indices)
    ∙ nobody question west history move indices
  where
    neither : (b c : Bool) → ((b && false) || c) ≡ c
    neither true c = refl
    neither false c = refl

none_there : (items : List Mark) → items ≡ [] → (index : ℕ) → slice_get items index ≡ None
none_there items is index = ap (λ (l : List Mark). slice_get l index) is

-- a support that names nothing is that of the first moves
pub first_seen : (question : Question) (support : MarkedSupport) → support.all ≡ false
    → NamesNone support.declarers → support.defences.items ≡ [] → support_seen question support ≡ first_support
unfolding support_seen defence_named
first_seen question support all own theirs =
    ap (λ (b : Bool). if b then whole_support
    else record { declarers = named_on (Some support.declarers); defences = defence_named question support }) all
    ∙ same_support (record { declarers = named_on (Some support.declarers); defences = defence_named question support })
    first_support own
    (λ west history move.
    ap (λ (l : List Mark). list_any (λ index. bytes_eq (counts_at question index) west
    && named_on (slice_get l index) history move) (layout_indices (layouts_of question))) theirs
    ∙ nobody question west history move (layout_indices (layouts_of question)))
