-- A name for what flows through the ports.
use Rattle.std.specs.Prelude.{ℕ, List}

-- bytes in the order in which they flow
abbrev pub Bytes : Type 0
Bytes = List ℕ
