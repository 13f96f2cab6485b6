-- One step after another, each of which can fail.
use Rattle.std.specs.Prelude.{Result, Ok, Err}

-- the next step, after one that did not fail
infixl 10 ◌>>=◌
abbrev pub ◌>>=◌ : {A B E : Type 0} → Result A E → (A → Result B E) → Result B E
(Err fault) >>= next = Err fault
(Ok found) >>= next = next found

-- what was found, changed
abbrev pub found_as : {A B E : Type 0} → (A → B) → Result A E → Result B E
found_as change (Err fault) = Err fault
found_as change (Ok found) = Ok (change found)

-- the fault, told in other words
abbrev pub told_as : {A D E : Type 0} → (D → E) → Result A D → Result A E
told_as change (Err fault) = Err (change fault)
told_as change (Ok found) = Ok found
