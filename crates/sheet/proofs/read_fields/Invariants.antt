use Rattle.sheet.specs.Reading.{fields_from}
use Rattle.sheet.specs.Fields.{fields_of}
use Rattle.sheet.specs.Said.{call_said}
use lib.Seq.{sets}
use mathlib.Core.Path.{◌≡◌}
use Prim.Native.Nat.{◌≤◌}
use Rattle.sheet.proofs.read_fields.Given as goal

abbrev pub invariant-loop-field : goal.invariant-loop-field
invariant-loop-field l =
    let call = call_said l.row in
    let left = fields_of l.field-iterator.rest.now in
    let fields = fields_of l.fn.fields.rest.now in
    record {
      within : l.count ≤ l.row.most;
      line : (fields_from call l.count left).line ≡ (fields_from call 0 fields).line;
      values : sets l.args l.count (fields_from call l.count left).values ≡ sets l.initial.args 0 (fields_from call 0 fields).values;
    }
