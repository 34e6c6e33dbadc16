use Rattle.std.proofs.Common.{arith}
use borrow.Author.Rules.{rules}
use Rattle.std.proofs.lemmas.Result.{err_from_is_err_and}
use Rattle.compression.proofs.Answers.{answer_broken, seen_whole, answer_no_place, answer_no_room, answer_done}
use Rattle.compression.proofs.delta_decode.Goals as goal

pub returns-in_err-seen : goal.returns-in_err-seen
returns-in_err-seen c =
    let p = err_from_is_err_and c.from_residual.result c.from_residual.ensures.1 in
    rw (p.1, p.2) (answer_broken _ _ _ _ _ c.in_err-seen.ensures)

pub returns-then-lengths-seen : goal.returns-then-lengths-seen
returns-then-lengths-seen c = answer_no_place _ _ _ _ _ c.in_ok-seen.ensures (search rules)

pub returns-then-out-seen : goal.returns-then-out-seen
returns-then-out-seen c = answer_no_room _ _ _ _ _ c.in_ok-seen.ensures (search rules) (search rules)

pub unpack_all-requires : goal.unpack_all-requires
unpack_all-requires c =
    let a = c.args in
    let s = seen_whole a.reference.now a.packet.now a.out.now a.lengths.now c.in_ok-seen.seen c.in_ok-seen.ensures in
    (s.0, omega arith, omega arith)

pub returns : goal.returns
returns c = answer_done _ _ _ _ _ c.in_ok-seen.ensures (search rules) (search rules) c.unpack_all.ensures.0 c.unpack_all.ensures.1
