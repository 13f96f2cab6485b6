-- The whole room of a sink, and puts that find none left.
use Rattle.std.specs.Prelude.{◌≡◌, ℕ, ◌<◌, Option, None, Some, IfSome, Result, Ok, length, ⊤}
use Rattle.suit_ports.specs.Bytes.{Bytes}

-- who tells a room goes on telling the same
abbrev pub KeepsRoom : Option ℕ → Option ℕ → Type 0
KeepsRoom before after = IfSome before (λ room. after ≡ Some room)

-- nothing is left of the room, if it is told; a sink that tells no bytes is asked for nothing here, and hides no empty
-- put by it: whoever tells a room tells its bytes (the law `room_with_bytes` of each sink), so only a sink with no room
-- to fill is excused
abbrev pub IsFull : Option Bytes → Option ℕ → Type 0
IsFull (Some bytes) (Some room) = length bytes ≡ room
IsFull (Some bytes) None = ⊤
IsFull None (Some room) = ⊤
IsFull None None = ⊤

-- a put took nothing, though there was something to take
abbrev pub TookNone : {E : Type 0} → Result ℕ E → Bytes → Type 0
TookNone result piece = (result ≡ Ok 0) × (0 < length piece)
