-- What a put took comes after what was sent before it.
use Rattle.std.proofs.Common.{◌≡◌, ◌++◌, ◌-◌, ◌+◌, ◌<◌, ◌≤◌, ℕ, Result, Ok, List, length, take, drop, sym, ap, ◌∙◌}
use Rattle.std.proofs.Common.{subst, arith, rules}
use Rattle.std.proofs.Math.Seq.{take-add}
use Rattle.std.proofs.lemmas.List.{take-take}
use Rattle.std.proofs.KnownBytes.{Appends-trans}
use Rattle.std.specs.Io.KnownBytes.{Appends}
use Rattle.suit_ports.specs.declared.source.PortFault.{PortFault}
use Rattle.suit_ports.proofs.transfer.write_all_of.Goals as goal

one_count : (r : Result ℕ PortFault) (m n : ℕ) → r ≡ Ok m → r ≡ Ok n → m ≡ n
one_count r m n is_m is_n = cc

same_unless_more : {m n : ℕ} → m ≤ n → (m < n → ⊥) → n ≡ m
same_unless_more at_most no_more = omega arith

pub loop-sent-preserved : goal.loop-sent-preserved
loop-sent-preserved g c =
    let sent = c.loop-sent.sent in
    let bytes = c.args.bytes.now in
    let joined : take (sent + c.in-Ok.count) bytes ≡ take sent bytes
    ++ take c.in-Ok.count (take (length bytes - sent) (drop sent bytes)) =
    take-add sent c.in-Ok.count bytes
    ∙ ap (λ (l : List ℕ). take sent bytes
    ++ l) (sym (take-take c.in-Ok.count (length bytes - sent) (drop sent bytes) (omega (
      arith,
      c.in-Ok.ensures.bound,
    )))) in
    let no_rise : g.K.Sink.empties c.loop-sent.sink < g.K.Sink.empties c.put.new.self → ⊥ =
    λ rose. c.in-Ok.count-test.1 (one_count c.put.result _ _ c.in-Ok.is (c.put.ensures.only_empty rose).0) in
    record {
      within = search rules;
      so_far = subst (Appends (g.K.Sink.written c.args.sink.now) (g.K.Sink.written c.put.new.self)) (sym joined)
          (Appends-trans _ _ _ _ _ c.loop-sent.invariant.so_far c.in-Ok.ensures.bytes);
      room_kept = search rules;
      faults_never_fall = omega (arith, c.in-Ok.ensures.counts.never_falls);
      no_empties = same_unless_more c.in-Ok.ensures.empty_counts.never_falls no_rise ∙ c.loop-sent.invariant.no_empties;
    }
