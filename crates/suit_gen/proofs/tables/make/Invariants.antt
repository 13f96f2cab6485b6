use Rattle.std.proofs.Common.{◌≡◌, ◌-◌, ◌++◌, string_bytes}
use Rattle.std.specs.List.{flat_map}
use Rattle.suit_gen.specs.Deals.{deals_from}
use Rattle.suit_gen.specs.Records.{record_text}
use Rattle.suit_gen.proofs.tables.make.Given as goal

abbrev pub invariant-loop : goal.invariant-loop
invariant-loop l = string_bytes l.text ++ flat_map record_text (deals_from (l.count - l.counter) l.draws.state)
    ≡ flat_map record_text (deals_from l.count l.number)
