-- The counts that a port tells: of its faults, and for a sink of its empty puts.
use Rattle.std.specs.Prelude.{◌≡◌, ℕ, ◌-◌, ◌^◌, ◌<◌, ◌≤◌, ◌⊎◌}

-- a count is a `u64`, and no call lowers it
pub record CountStands (before after : ℕ) : Type 0 where
  pub never_falls : before ≤ after
  pub fits : after < 2 ^ 64

-- a call raised a count: it is greater than before, or so high already that it cannot grow
abbrev pub Rose : ℕ → ℕ → Type 0
Rose before after = (before < after) ⊎ (after ≡ 2 ^ 64 - 1)
