-- Texts with another between each two, with one text more: joined_push; and the words of one move more: words_push.
use Rattle.std.proofs.Common.{◌≡◌, ℕ, suc, Bool, ◌+◌, ◌<◌, List, [], ◌∷◌, ◌++◌, length, map, take, get_or, refl, sym}
use Rattle.std.proofs.Common.{ap, ◌∙◌}
use Rattle.std.proofs.Common.{append_assoc, append-nil, arith}
use Rattle.std.specs.Prelude.{codes, fold, nat_lt, if◌then◌else◌}
use Rattle.std.specs.List.{flat_map}
use Rattle.std.proofs.lemmas.Bool.{lt-ltb}
use Rattle.std.proofs.lemmas.List.{flat_map_more, length-map, length-take, map_push, take_more}
use Rattle.suit_game.specs.declared.question.Question.{Question}
use Rattle.suit_cards.specs.Cards.{Text}
use Rattle.suit_classes.specs.declared.class_moves.ClassMove.{ClassMove}
use Rattle.suit_classes.specs.ClassPlaces.{ClassView, class_after, class_start, class_step, class_turn}
use Rattle.suit_lines.specs.Sentences.{joined, move_words, opening, words_from}

-- what stands before a text, unless it is the first
abbrev pub joint : Text → ℕ → Text
joint between index = if nat_lt 0 index then between else []

joint_later : (between : Text) (index : ℕ) → 0 < index → joint between index ≡ between
joint_later between index some = ap (λ (b : Bool). if b then between else []) (lt-ltb 0 index some)

pub joined_push : (between : Text) (texts : List Text) (text : Text)
    → joined between (texts ++ text ∷ []) ≡ (joined between texts ++ joint between (length texts)) ++ text
unfolding joined
joined_push between [] text = append-nil text
joined_push between (first ∷ texts) text =
    let join : Text → Text = λ next. between ++ next in
    ap (λ (l : Text). first ++ l) (sym (flat_map_more join [] texts text))
    ∙ sym (append_assoc first (flat_map join texts) (between ++ text))
    ∙ sym (append_assoc (first ++ flat_map join texts) between text)
    ∙ ap (λ (l : Text). ((first ++ flat_map join texts) ++ l) ++ text)
    (sym (joint_later between (length (first ∷ texts)) (omega arith)))

pub words_push : (letters : Text) (view : ClassView) (moves : List ClassMove) (move : ClassMove)
    → words_from letters view (moves ++ move ∷ [])
    ≡ words_from letters view moves ++ move_words letters (class_turn (fold class_step view moves)) move ∷ []
unfolding words_from
words_push letters view [] move = refl
words_push letters view (first ∷ moves) move =
    ap (λ (l : List Text). move_words letters (class_turn view) first ∷ l)
    (words_push letters (class_step view first) moves move)

pub length-words : (letters : Text) (view : ClassView) (moves : List ClassMove)
    → length (words_from letters view moves) ≡ length moves
unfolding words_from
length-words letters view [] = refl
length-words letters view (move ∷ moves) = ap suc (length-words letters (class_step view move) moves)

-- pieces that are written one after the other
pub then_written : (old first text second new : Text) → text ≡ old ++ first → new ≡ text ++ second
    → new ≡ old ++ (first ++ second)
then_written old first text second new so_far next =
    next ∙ ap (λ (l : Text). l ++ second) so_far ∙ append_assoc old first second

pub joined_none : (between old : Text) → old ≡ old ++ joined between []
unfolding joined
joined_none between old = sym (append-nil old)

-- one text more is written
joined_more : (between : Text) (texts : List Text) (word : Text) (index : ℕ) (old text gap new : Text)
    → length texts ≡ index
    → text ≡ old ++ joined between texts → gap ≡ text ++ joint between index → new ≡ gap ++ word
    → new ≡ old ++ joined between (texts ++ word ∷ [])
joined_more between texts word index old text gap new long so_far space next =
    then_written old (joined between texts ++ joint between index) gap word new
    (then_written old (joined between texts) text (joint between index) gap so_far space) next
    ∙ ap (λ (n : ℕ). old ++ ((joined between texts ++ joint between n) ++ word)) (sym long)
    ∙ ap (λ (l : Text). old ++ l) (sym (joined_push between texts word))

-- the words of one element more
pub words_more : {X : Type 0} (between : Text) (word : X → Text) (xs : List X) (i : ℕ) (d : X)
    (old text gap new : Text) → i < length xs
    → text ≡ old ++ joined between (map word (take i xs)) → gap ≡ text ++ joint between i
    → new ≡ gap ++ word (get_or xs i d)
    → new ≡ old ++ joined between (map word (take (i + 1) xs))
words_more {X} between word xs i d old text gap new below so_far space next =
    let long : length (map word (take i xs)) ≡ i =
    omega (arith, length-map (take i xs) word, length-take i xs) in
    joined_more between (map word (take i xs)) (word (get_or xs i d)) i old text gap new long so_far space next
    ∙ ap (λ (l : List Text). old ++ joined between l)
    (sym (ap (map word) (take_more xs i d below) ∙ map_push word (take i xs) (get_or xs i d)))

-- the words of one move more
pub moves_more : (between letters : Text) (question : Question) (history : List ClassMove) (i : ℕ) (d : ClassMove)
    (view : ClassView) (old text gap new : Text) → i < length history → view ≡ class_after question (take i history)
    → text ≡ old ++ joined between (words_from letters (class_start question) (take i history))
    → gap ≡ text ++ joint between i → new ≡ gap ++ move_words letters (class_turn view) (get_or history i d)
    → new ≡ old ++ joined between (words_from letters (class_start question) (take (i + 1) history))
moves_more between letters question history i d view old text gap new below at so_far space next =
    let start : ClassView = class_start question in
    let made : List ClassMove = take i history in
    let word : Text = move_words letters (class_turn view) (get_or history i d) in
    let long : length (words_from letters start made) ≡ i =
    omega (arith, length-words letters start made, length-take i history) in
    let words : words_from letters start (take (i + 1) history) ≡ words_from letters start made ++ word ∷ [] =
    ap (words_from letters start) (take_more history i d below)
    ∙ words_push letters start made (get_or history i d)
    ∙ ap (λ (v : ClassView). words_from letters start made
    ++ move_words letters (class_turn v) (get_or history i d) ∷ []) (sym at) in
    joined_more between (words_from letters start made) word i old text gap new long so_far space next
    ∙ ap (λ (l : List Text). old ++ joined between l) (sym words)

-- the line of a class history that is not empty opens with its words
pub opening_some : (letters : Text) (start : ClassView) (history : List ClassMove) → (length history ≡ 0 → ⊥)
    → opening letters start history
    ≡ codes "After " ++ joined (codes ", ") (words_from letters start history) ++ codes ": "
opening_some letters start [] some = absurd (some refl)
opening_some letters start (move ∷ moves) some = refl
