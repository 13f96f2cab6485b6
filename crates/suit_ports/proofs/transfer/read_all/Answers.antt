-- What the last call gave comes after what was read before it.
use Rattle.std.proofs.Common.{◌++◌, ℕ, take, arith, length-append}
use Rattle.std.proofs.lemmas.List.{length-take}
use Rattle.std.proofs.lemmas.Result.{err_from_is_err_and}
use Rattle.std.proofs.KnownBytes.{Consumes-trans}
use Rattle.suit_ports.proofs.transfer.read_all.Goals as goal

pub returns-then-count-limit-clause-taken : goal.returns-then-count-limit-clause-taken
returns-then-count-limit-clause-taken g c = (
  c.loop-bytes.bytes.items ++ take c.in_ok-count.count c.take.new.into,
  omega (arith, length-append {A = ℕ}, length-take {A = ℕ}, c.in_ok-count.ensures.bound, c.take.auto.into),
  Consumes-trans _ _ _ _ _ c.loop-bytes.invariant.so_far c.in_ok-count.ensures.bytes.0,
)

pub returns-in_err-extend_from_slice-clause-taken :
    goal.returns-in_err-extend_from_slice-clause-taken
returns-in_err-extend_from_slice-clause-taken g c =
    let end = err_from_is_err_and c.from_residual-in_err-extend_from_slice.result
    c.from_residual-in_err-extend_from_slice.ensures.1 in
    rw (end.1, end.2) (
      c.loop-bytes.bytes.items ++ take c.in_ok-count.count c.take.new.into,
      omega (arith, length-append {A = ℕ}, length-take {A = ℕ}, c.in_ok-count.ensures.bound, c.take.auto.into),
      Consumes-trans _ _ _ _ _ c.loop-bytes.invariant.so_far c.in_ok-count.ensures.bytes.0,
    )
