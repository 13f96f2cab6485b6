-- What a sink in memory holds, and what a put leaves.
use Rattle.std.specs.Prelude.{ℕ, ◌+◌, ◌-◌, ◌^◌, ◌++◌, ◌&&◌, ◌==◌, nat_lt, length, min, take, if◌then◌else◌}
use Rattle.suit_ports.specs.Bytes.{Bytes}

-- the bytes written, how many it can hold in all, and how many puts took no byte of some
pub record Held : Type 0 where
  pub bytes : Bytes
  pub room : ℕ
  pub empties : ℕ

-- how many bytes of a piece still fit
abbrev pub fitting : Held → Bytes → ℕ
fitting held piece = min (length piece) (held.room - length held.bytes)

-- one more, as far as a `u64` can count
abbrev pub one_more : ℕ → ℕ
one_more count = min (count + 1) (2 ^ 64 - 1)

-- a put appends what fits of the piece, and counts where that is nothing of some
abbrev pub put_into : Held → Bytes → Held
put_into held piece = record {
  bytes = held.bytes ++ take (fitting held piece) piece;
  room = held.room;
  empties = if (fitting held piece == 0) && nat_lt 0 (length piece) then one_more held.empties else held.empties;
}
