-- Each record of the reader is the next that the text has, and at the end they are all.
use Rattle.std.proofs.Common.{Bor, List, ℕ, ◌≡◌, ◌∙◌, sym, refl, rules, inl, inr, true, map, Some, ◌∷◌, []}
use Rattle.std.specs.Result.{is_ok}
use Rattle.std.proofs.lemmas.List.{map-append, length-map}
use Rattle.csv.specs.Reading.{AreRecords, Reached, default_config, strip_bom}
use Rattle.csv.specs.Records.{fields_of}
use Rattle.csv.specs.declared.parser.State.TheVariants as st
use Rattle.csv.proofs.ReadFacts.{rows-end, rows-more}
use Rattle.suit_table.proofs.Reaching.{all_of, count_of}
use Rattle.suit_table.proofs.records.read_records.Goals as goal

pub loop-record-init : goal.loop-record-init
unfolding Reached
loop-record-init c =
    let from = c.from_reader-reader.ensures in
    let start = c.into_iter-record-iterator.ensures.into_iter_gives ∙ refl in
    let reader = c.into_byte_records-record-items.ensures.rdr in
    let left = c.into_byte_records-record-items.ensures.left in
    rw (start, reader, c.new-records.ensures.items) (
      rw (c.flexible.ensures, c.has_headers.ensures) at from.trim ∙ c.new.ensures.trim,
      inr (inr (rw (c.flexible.ensures, c.has_headers.ensures) at from.has_headers, from.headers)),
      left,
      rw (c.flexible.ensures, c.has_headers.ensures) at from.config ∙ c.new.ensures.config,
      strip_bom c.args.bytes.now,
      from.source,
      (sym from.state, refl),
    )

pub loop-record-preserved : goal.loop-record-preserved
loop-record-preserved c =
    let before = c.loop-record.invariant in
    let read = rw (c.in-Some.is, c.in-Ok.is) at ((c.next.ensures.steps before.2 before.0).0 before.1) in
    let good : is_ok c.push.result ≡ true = search rules in
    let items = rw good at c.push.ensures.items in
    let more = rows-more (λ (s : Bor (List ℕ)). Some s.now) c.loop-record.record-iterator.rdr c.next.new.self.rdr
    (fields_of c.in-Ok.record) default_config st.StartRecord (strip_bom c.args.bytes.now) before.4
    (map fields_of c.loop-record.records.items) before.3 before.5 before.6 read.0 in (
      read.0.3 ∙ before.0,
      inl read.1,
      read.2,
      read.0.2 ∙ before.3,
      more.0,
      more.1,
      rw (items, map-append fields_of c.loop-record.records.items (c.in-Ok.record ∷ [])) more.2,
    )

pub returns : goal.returns
returns c =
    let before = c.loop-record.invariant in
    let read = rw c.in-None.is at ((c.next.ensures.steps before.2 before.0).0 before.1) in
    let rows = map fields_of c.loop-record.records.items in
    let none = rows-end (λ (s : Bor (List ℕ)). Some s.now) c.loop-record.record-iterator.rdr c.next.new.self.rdr []
    default_config before.4 before.3 before.5 read in
    let are : AreRecords default_config st.StartRecord (strip_bom c.args.bytes.now) rows =
    (c.loop-record.record-iterator.rdr.state, before.4, before.6, none) in
    let few = count_of default_config c.args.bytes.now rows are in
    record {
      records = all_of default_config (strip_bom c.args.bytes.now) rows are;
      count = rw length-map at few;
    }
