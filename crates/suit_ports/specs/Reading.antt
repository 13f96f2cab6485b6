-- What `read_all` took, by how it ended.
use Rattle.std.specs.Prelude.{◌≡◌, ℕ, ◌+◌, ◌≤◌, Vec, Result, Ok, Err, length}
use Rattle.suit_ports.specs.declared.transfer.ReadEnd.{ReadEnd}
use Rattle.suit_ports.specs.declared.transfer.ReadEnd.TheVariants.{Fault, Long, Memory}
use Rattle.suit_ports.specs.Bytes.{Bytes}

-- Ok has the bytes taken, at most as many as the limit; only Long took more, and then one more
abbrev pub Took : {A : Type 0} → ℕ → Result (Vec ℕ A) ReadEnd → Bytes → Type 0
Took limit (Ok bytes) taken = (bytes.items ≡ taken) × (length taken ≤ limit)
Took limit (Err Long) taken = length taken ≡ limit + 1
Took limit (Err Fault) taken = length taken ≤ limit
Took limit (Err Memory) taken = length taken ≤ limit
