use Rattle.sheet.proofs.Decoding.{chunks, all_stored, all_count, all_out}
use borrow.Author.Rules.{rules}
use Rattle.sheet.proofs.put_bytes.Goals as goal

pub byte_of-requires : goal.byte_of-requires
byte_of-requires c = let next = c.in-Some.ensures.steps in search (rules, chunks)

pub loop-i-preserved : goal.loop-i-preserved
loop-i-preserved c =
    let next = c.in-Some.ensures.steps in
    record {
      two = search (rules, chunks);
      digits = search (rules, chunks);
      room = search (rules, chunks);
      stored = search (rules, chunks);
    }

pub returns : goal.returns
returns c = let last = c.in-None.ensures.steps in search (rules, all_stored, all_count, all_out)
