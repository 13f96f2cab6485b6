-- The numbers that are drawn, one after another, from a number that is carried on.
use Rattle.std.specs.Prelude.{ℕ, zero, suc, ◌+◌, ◌*◌, ◌/◌, ◌%◌, ◌^◌}

-- the state after one draw
abbrev pub next : ℕ → ℕ
next state = (state * 1664525 + 1013904223) % 2 ^ 32

-- the state after so many draws
unfoldable pub state_after : ℕ → ℕ → ℕ
state_after zero state = state
state_after (suc draws) state = next (state_after draws state)

-- what the draw of a number, counted from 1, answers below a bound
abbrev pub drawn : ℕ → ℕ → ℕ → ℕ
drawn state draw bound = state_after draw state / 65536 % bound
