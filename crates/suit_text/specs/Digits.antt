-- Digits, which both dialects read alike.
use Rattle.std.specs.Prelude.{ℕ, ◌^◌, ◌&&◌, nat_lt, Option, Some, None, if◌then◌else◌}
use Rattle.std.specs.Str.{all_ascii_digits}
use Rattle.std.specs.Str.Parse.{digits_value}
use Rattle.suit_cards.specs.Cards.{Text}

-- the number that digits stand for, which is to be at most 2^127 - 1
abbrev pub digits_read : Text → Option ℕ
digits_read text =
    if all_ascii_digits text && nat_lt (digits_value 10 text) (2 ^ 127) then Some (digits_value 10 text) else None
