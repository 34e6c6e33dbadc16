use Rattle.std.proofs.Common.{rules, ◌≡◌, refl, map}
use borrow.Author.Tests.{tests}
use Rattle.std.specs.Slice.Iter.{iter_rest}
use Rattle.std.proofs.lemmas.Iterator.{YieldsList-from_slice}
use Rattle.std.proofs.lemmas.Iterator.Search.{find_from_yields_List}
use Rattle.std.specs.Prelude.{option_map}
use Rattle.sheet.specs.Said.{call_said}
use Rattle.sheet.specs.Calls.{calls, row, bytes_of}
use Rattle.sheet.proofs.Finding.{row_said, has_name, row_found}
use Rattle.sheet.proofs.find_row.Goals as goal

pub returns : goal.returns
unfolding calls row bytes_of
returns c =
    let e : map row_said (iter_rest c.iter.result) ≡ calls = rw c.iter.ensures.rest refl in
    let f = find_from_yields_List (has_name c.args.name.now) _ _ c.find.result c.find.ensures.ran (YieldsList-from_slice (iter_rest c.iter.result) refl) (λ x b q k. search (rules, tests)) in
    let g : option_map call_said c.map.result ≡ option_map (λ x. (row_said x.now).call) c.find.result = search rules in
    row_found c.args.name.now _ _ _ e f g
