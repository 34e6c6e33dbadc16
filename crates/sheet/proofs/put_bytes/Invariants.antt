use Rattle.sheet.specs.Bytes.{pairs_of}
use Rattle.digits.specs.Digits.{only_digits}
use Rattle.std.specs.Slice.Iter.{chunks_exact_rest, chunks_exact_size}
use Rattle.std.specs.Iterator.Adapters.{enumerate_source, enumerate_count}
use lib.ListN.{length}
use lib.Seq.{sets}
use mathlib.Core.Bool.{true}
use mathlib.Core.Path.{◌≡◌}
use Prim.Native.Nat.{◌+◌, ◌/◌, ◌≤◌}
use Rattle.sheet.proofs.put_bytes.Given as goal

abbrev pub invariant-loop-i : goal.invariant-loop-i
invariant-loop-i l =
    let place = enumerate_count l.i-iterator in
    let chunks = enumerate_source l.i-iterator in
    let left = chunks_exact_rest chunks in
    record {
      two : chunks_exact_size chunks ≡ 2;
      digits : only_digits 16 left ≡ true;
      room : place + length left / 2 ≤ length l.out;
      stored : sets l.out place (pairs_of left) ≡ sets l.initial.out 0 (pairs_of l.s);
    }
