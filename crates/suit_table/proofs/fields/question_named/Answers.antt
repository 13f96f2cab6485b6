-- The next field is put into the next column.
use Rattle.std.proofs.Common.{◌≡◌, ◌∙◌, Err, arith, rules}
use Rattle.csv.specs.Records.{fields_of}
use Rattle.suit_table.proofs.Putting.{complete, faulty, field_there, put_all, put_fault, put_more}
use Rattle.suit_table.proofs.fields.question_named.Goals as goal

pub put_field-requires : goal.put_field-requires
put_field-requires c =
    let before = c.loop-field.invariant in
    let fields = fields_of c.args.fields.now in
    let at = rw before.same at c.in-Some.ensures.steps.1 in
    let there = field_there fields c.loop-field.field-iterator.at c.in-Some.field.now at in
    (omega arith, omega (arith, there.1))

pub returns-in_err-put_field-clause-named : goal.returns-in_err-put_field-clause-named
returns-in_err-put_field-clause-named c =
    let before = c.loop-field.invariant in
    let fields = fields_of c.args.fields.now in
    let at = rw before.same at c.in-Some.ensures.steps.1 in
    let fault = c.in_err-put_field.field-0.0 in
    let wrong = put_fault c.loop-field.column c.loop-field.draft fields c.loop-field.field-iterator.at
    c.in-Some.field.now fault.kind at c.in_err-put_field.ensures.fault in
    let is : c.from_residual.result ≡ Err fault = search rules in
    is ∙ faulty c.args.number fields fault (before.rest ∙ wrong) c.in_err-put_field.ensures.line

pub loop-field-preserved : goal.loop-field-preserved
loop-field-preserved c =
    let before = c.loop-field.invariant in
    let steps = c.in-Some.ensures.steps in
    let fields = fields_of c.args.fields.now in
    let at = rw before.same at steps.1 in
    let there = field_there fields c.loop-field.field-iterator.at c.in-Some.field.now at in
    let more = put_more c.loop-field.column c.loop-field.draft c.put_field.new.draft fields
    c.loop-field.field-iterator.at c.in-Some.field.now at c.in_ok-put_field.ensures.ok in
    record {
      same = rw steps.0 before.same;
      column = omega (arith, steps.2, before.column);
      within = omega (arith, steps.2, there.1);
      rest = rw steps.2 (before.rest ∙ more);
    }

pub returns-clause-named : goal.returns-clause-named
returns-clause-named c =
    let before = c.loop-field.invariant in
    let fields = fields_of c.args.fields.now in
    let past = rw before.same at c.in-None.ensures.steps.1 in
    let all = put_all c.loop-field.column c.loop-field.draft fields c.loop-field.field-iterator.at past in
    c.finish.ensures.value ∙ complete c.args.number fields c.loop-field.draft (before.rest ∙ all)
