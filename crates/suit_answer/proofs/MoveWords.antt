-- `move_taken`: a word that stands for a move is what is written for it.
use Rattle.std.proofs.Common.{ℕ, ◌<◌, ◌≡◌, ◌==◌, Bool, true, false, cond, [], ◌∷◌, length}
use Rattle.std.proofs.Common.{Option, Some, None, Ok, refl, sym, ap, subst, arith}
use Rattle.std.specs.Prelude.{slice_index}
use Rattle.std.specs.Option.{ok_or, option_map, option_and_then}
use Rattle.std.proofs.lemmas.Bool.Decides.{nat_tests}
use Rattle.std.proofs.lemmas.List.Quantifiers.{position-Some}
use Rattle.suit_cards.specs.Cards.{Text}
use Rattle.suit_cards.specs.declared.seats.Seat.TheVariants.{N, S}
use Rattle.suit_classes.specs.declared.class_moves.ClassMove.{ClassMove}
use Rattle.suit_classes.specs.declared.class_moves.ClassMove.TheVariants.{Lead, Follow, ShowOut}
use Rattle.suit_answer.specs.Letters.{class_named, move_read, move_due, move_word}
use Rattle.suit_answer.specs.Writable.{IsWritableMove}
use Rattle.suit_answer.specs.declared.faults.AnswerFault.TheVariants.{Move}

is_byte : (a b : ℕ) → (a == b) ≡ true → a ≡ b
is_byte a b h = grind (arith, nat_tests)

-- the class of a letter
named_taken : (letters : Text) (byte class : ℕ) → class_named letters byte ≡ Some class
    → (class < length letters) × (slice_index letters class ≡ byte)
named_taken letters byte class h =
    let found = position-Some (λ letter. letter == byte) letters class 0 h in
    (found.0, is_byte (slice_index letters class) byte found.1)

Taken : Text → Text → ClassMove → Type 0
Taken letters word move = (word ≡ move_word letters move) × IsWritableMove (length letters) move

follow_by : (letters : Text) (byte : ℕ) (o : Option ℕ) (b : Bool) (move : ClassMove) → class_named letters byte ≡ o
    → (byte == 45) ≡ b → cond b (Some ShowOut) (option_map (λ class. Follow class) o) ≡ Some move
    → Taken letters (byte ∷ []) move
unfolding Taken
follow_by letters byte o true move e dash h =
    let P : ClassMove → Type 0 = λ m. (byte ∷ [] ≡ move_word letters m) × IsWritableMove (length letters) m in
    let same : ShowOut ≡ move = cc in
    subst P same (ap (λ (x : ℕ). x ∷ []) (is_byte byte 45 dash), tt)
follow_by letters byte None false move e dash h = absurd cc
follow_by letters byte (Some class) false move e dash h =
    let P : ClassMove → Type 0 = λ m. (byte ∷ [] ≡ move_word letters m) × IsWritableMove (length letters) m in
    let same : Follow class ≡ move = cc in
    let named = named_taken letters byte class e in
    subst P same (ap (λ (x : ℕ). x ∷ []) (sym named.1), named.0)

lead_by : (letters : Text) (hand byte : ℕ) (o : Option ℕ) (n s : Bool) (move : ClassMove)
    → class_named letters byte ≡ o → (hand == 78) ≡ n → (hand == 83) ≡ s
    → option_and_then (λ seat. option_map (λ class. Lead seat class) o) (cond n (Some N) (cond s (Some S) None))
    ≡ Some move
    → Taken letters (hand ∷ byte ∷ []) move
unfolding Taken
lead_by letters hand byte None true s move e en es h = absurd cc
lead_by letters hand byte None false true move e en es h = absurd cc
lead_by letters hand byte o false false move e en es h = absurd cc
lead_by letters hand byte (Some class) true s move e en es h =
    let P : ClassMove → Type 0 =
    λ m. (hand ∷ byte ∷ [] ≡ move_word letters m) × IsWritableMove (length letters) m in
    let same : Lead N class ≡ move = cc in
    let named = named_taken letters byte class e in
    subst P same ((λ i. is_byte hand 78 en i ∷ sym named.1 i ∷ []), named.0)
lead_by letters hand byte (Some class) false true move e en es h =
    let P : ClassMove → Type 0 =
    λ m. (hand ∷ byte ∷ [] ≡ move_word letters m) × IsWritableMove (length letters) m in
    let same : Lead S class ≡ move = cc in
    let named = named_taken letters byte class e in
    subst P same ((λ i. is_byte hand 83 es i ∷ sym named.1 i ∷ []), named.0)

read_taken : (letters word : Text) (move : ClassMove) → move_read letters word ≡ Some move → Taken letters word move
read_taken letters [] move h = absurd cc
read_taken letters (byte ∷ []) move h =
    follow_by letters byte (class_named letters byte) (byte == 45) move refl refl h
read_taken letters (hand ∷ byte ∷ []) move h =
    lead_by letters hand byte (class_named letters byte) (hand == 78) (hand == 83) move refl refl refl h
read_taken letters (a ∷ b ∷ c ∷ bytes) move h = absurd cc

due_taken : (line : ℕ) (o : Option ClassMove) (move : ClassMove) → ok_or o (Move line) ≡ Ok move → o ≡ Some move
due_taken line None move h = absurd cc
due_taken line (Some m) move h = cc

-- a move that is read is what is written of it
pub move_taken : (letters : Text) (line : ℕ) (word : Text) (move : ClassMove) → move_due letters line word ≡ Ok move
    → (word ≡ move_word letters move) × IsWritableMove (length letters) move
unfolding move_due Taken
move_taken letters line word move h = read_taken letters word move (due_taken line (move_read letters word) move h)
