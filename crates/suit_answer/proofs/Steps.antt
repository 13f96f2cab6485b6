-- `bind_ok`: what is known where steps did not fail.
use Rattle.std.proofs.Common.{◌≡◌, Bool, true, false, cond, ℕ, List, Option, Some, None, Result, Ok, Err, refl}
use Rattle.std.specs.Option.{ok_or}
use Rattle.std.specs.Str.{bytes_eq}
use Rattle.std.proofs.lemmas.Slice.Eq.{bytes_eq-Decides}
use Rattle.suit_answer.specs.Results.{◌>>=◌}
use Rattle.suit_answer.specs.declared.faults.AnswerFault.{AnswerFault}

-- a step and the step after it did not fail
pub bind_ok : {A B : Type 0} (r : Result A AnswerFault) (next : A → Result B AnswerFault) (y : B)
    → (r >>= next) ≡ Ok y → (x : A) × (r ≡ Ok x) × (next x ≡ Ok y)
bind_ok (Ok x) next y e = (x, refl, e)
bind_ok (Err fault) next y e = absurd cc

abbrev done : {A : Type 0} → A → Result A AnswerFault
done x = Ok x

pub ok_is : {A : Type 0} (x y : A) → done x ≡ done y → x ≡ y
ok_is x y e = cc

-- a test was passed
pub chosen_ok : {A : Type 0} (b : Bool) (r : Result A AnswerFault) (fault : AnswerFault) (y : A)
    → cond b r (Err fault) ≡ Ok y → (b ≡ true) × (r ≡ Ok y)
chosen_ok true r fault y e = (refl, e)
chosen_ok false r fault y e = absurd cc

-- there was something
pub some_ok : {A : Type 0} (o : Option A) (fault : AnswerFault) (y : A) → ok_or o fault ≡ Ok y → o ≡ Some y
some_ok None fault y e = absurd cc
some_ok (Some x) fault y e = cc

-- texts that are told to be the same are the same
pub same_text : (here there : List ℕ) → bytes_eq here there ≡ true → here ≡ there
same_text here there e = (bytes_eq-Decides here there).0 e
