use Rattle.std.proofs.Common.{ap, arith, List, ℕ, Bor}
use Rattle.std.proofs.lemmas.Result.{err_from_is_err_and}
use Rattle.compression.proofs.Reading.{scanned_none, scanned_fits, scanned_one, scanned_end, scanned_broken}
use Rattle.compression.proofs.scan.Goals as goal

pub loop-length-init : goal.loop-length-init
loop-length-init c = scanned_none c.new-reader.result (ap (λ (b : Bor (List ℕ)). b.now) c.new-reader.ensures.0) c.new-reader.ensures.1

pub returns-in_err-length : goal.returns-in_err-length
returns-in_err-length c =
    let p = err_from_is_err_and c.from_residual.result c.from_residual.ensures.1 in
    rw (p.1, p.2) (scanned_broken c.loop-length.invariant _ c.next_record.ensures _ c.in_err-length.ensures.value)

pub loop-length-smaller : goal.loop-length-smaller
loop-length-smaller c =
    omega (arith, scanned_fits c.loop-length.invariant _ c.next_record.ensures _ (rw c.in-Some.is at c.in_ok-length.ensures.value))

pub loop-length-preserved : goal.loop-length-preserved
loop-length-preserved c = scanned_one c.loop-length.invariant _ c.next_record.ensures _ (rw c.in-Some.is at c.in_ok-length.ensures.value)

pub returns : goal.returns
returns c = scanned_end c.loop-length.invariant _ c.next_record.ensures (rw c.in_default.is at c.in_ok-length.ensures.value)
