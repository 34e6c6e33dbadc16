use Rattle.std.proofs.lemmas.Iterator.Consumers.{YieldsList-from_first, nth_from_yields_List}
use mathlib.Core.Path.{refl}
use lib.ListN.{length}
use Rattle.sheet.specs.Fields.{fields_of}
use Rattle.sheet.proofs.Decoding.{some_bytes, none_bytes}
use Rattle.sheet.proofs.field_bytes.Goals as goal

pub returns-in-Some : goal.returns-in-Some
returns-in-Some c =
    let line = c.args.line.now in
    let e = nth_from_yields_List c.nth.result c.nth.new.self c.args.field c.nth.ensures.ran (YieldsList-from_first (λ f. f.now) (λ fs. fields_of fs.rest.now) (fields_of line) refl) in
    rw (some_bytes (length c.args.out.now) line c.args.field c.nth.result e c.in-Some.field c.in-Some.is) c.put_bytes.ensures

pub returns-in-None : goal.returns-in-None
returns-in-None c =
    let line = c.args.line.now in
    let e = nth_from_yields_List c.nth.result c.nth.new.self c.args.field c.nth.ensures.ran (YieldsList-from_first (λ f. f.now) (λ fs. fields_of fs.rest.now) (fields_of line) refl) in
    rw (none_bytes (length c.args.out.now) line c.args.field c.nth.result e c.in-None.is) (refl, refl)
