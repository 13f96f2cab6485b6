use Rattle.std.specs.Prelude.{ℤ, ◌<◌, ◌^◌, unsigned_abs}

-- the number fits 127 bits and a sign
abbrev pub IsNarrow : ℤ → Type 0
IsNarrow z = unsigned_abs z < 2 ^ 127
