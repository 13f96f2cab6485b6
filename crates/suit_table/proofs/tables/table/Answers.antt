-- What is told of the records is their lines.
use Rattle.suit_table.proofs.Telling.{table_of}
use Rattle.suit_table.proofs.tables.table.Goals as goal

pub returns : goal.returns
returns g c =
    let fit = rw c.deref.ensures.value at c.in_default.ensures in
    let read = rw c.deref-2.ensures.value at c.in_ok-entries.ensures.entries in
    let count = rw c.deref-3.ensures.value at c.in_ok-told.ensures.count in
    let each = rw c.deref-3.ensures.value at c.in_ok-told.ensures.each in
    let text = rw c.deref-4.ensures.value at c.in_ok-text_of.ensures in
    record {
      lines = table_of (g.J.Judge.fits c.args.judge.now) c.args.bytes.now c.in_ok-text_of.field-0.items
          c.in_ok-records.records.items c.in_ok-entries.entries.items c.in_ok-told.told.items
          c.in_ok-records.ensures.records fit read count each text;
      end = tt;
    }
