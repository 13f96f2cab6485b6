-- `front_grows`: what a loop has read, and what it has still to read.
use Rattle.std.proofs.Common.{◌≡◌, ◌∷◌, [], ◌++◌, List, Result, Ok, Err, refl, ap, append_assoc}
use Rattle.suit_answer.specs.Results.{◌>>=◌}
use Rattle.suit_answer.specs.declared.faults.AnswerFault.{AnswerFault}

-- what was read before goes in front, with what is left behind it
abbrev pub with_front : {A B : Type 0} → List A → Result (List A × B) AnswerFault → Result (List A × B) AnswerFault
with_front front read = read >>= λ more. Ok (front ++ more.0, more.1)

-- the same, where nothing is left
abbrev pub in_front : {A : Type 0} → List A → Result (List A) AnswerFault → Result (List A) AnswerFault
in_front front read = read >>= λ more. Ok (front ++ more)

-- one more
pub front_grows : {A B : Type 0} (front : List A) (x : A) (read : Result (List A × B) AnswerFault)
    → with_front front (read >>= λ more. Ok (x ∷ more.0, more.1)) ≡ with_front (front ++ x ∷ []) read
front_grows front x (Ok more) = ap (λ xs. Ok (xs, more.1)) (simp append_assoc)
front_grows front x (Err fault) = refl
