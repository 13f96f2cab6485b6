-- Each record is read under the next number.
use Rattle.std.proofs.Common.{◌∙◌, ◌∷◌, ◌++◌, [], sym, arith}
use Rattle.std.specs.Prelude.{IfOk}
use Rattle.std.proofs.lemmas.List.Elements.{All-push, All-same}
use Rattle.suit_game.specs.Validity.{IsValid}
use Rattle.suit_table.specs.declared.judging.Entry.{Entry}
use Rattle.suit_table.proofs.Entering.{enter_all, enter_more, fit_at}
use Rattle.suit_table.proofs.tables.entries_of.Goals as goal

pub question_named-read-requires : goal.question_named-read-requires
question_named-read-requires c = fit_at c.args.records.now c.requires.fit c.loop-fields.fields-index
    c.fields-item.result c.loop-fields-test.true c.fields-item.is

pub loop-fields-preserved : goal.loop-fields-preserved
loop-fields-preserved c =
    let before = c.loop-fields.invariant in
    let items = c.in_ok-push.ensures.items in
    let one : Entry = record { number = c.loop-fields.number; read = c.question_named-read.result } in
    let valid = All-push (λ (entry : Entry). IfOk entry.read IsValid) c.loop-fields.entries.items one before.valid
    c.question_named-read.ensures.valid in
    let more = enter_more c.loop-fields.number c.args.records.now c.loop-fields.fields-index c.fields-item.result
    c.loop-fields.entries.items c.loop-fields-test.true c.fields-item.is in
    record {
      number = omega arith;
      read = before.read ∙ (rw (items, c.question_named-read.ensures.named) more);
      valid = All-same (λ (entry : Entry). IfOk entry.read IsValid) c.push.new.self.items
          (c.loop-fields.entries.items ++ (one ∷ [])) items valid;
    }

pub returns-clause-entries : goal.returns-clause-entries
returns-clause-entries c =
    let all = enter_all c.loop-fields.number c.args.records.now c.loop-fields.fields-index
    c.loop-fields.entries.items c.loop-fields-test.false in
    sym (c.loop-fields.invariant.read ∙ all)
