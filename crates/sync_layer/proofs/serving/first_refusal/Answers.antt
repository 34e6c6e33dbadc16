use Rattle.std.proofs.Common.{◌≡◌, Err, arith, refl, sym}
use Rattle.std.proofs.lemmas.Result.{err_from_is_err_and}
use Rattle.frame_info.proofs.Refusals.{number_some}
use Rattle.sync_layer.specs.Lists.{first_refusal}
use Rattle.sync_layer.proofs.Refusing.{first_next, first_here}
use Rattle.sync_layer.proofs.serving.first_refusal.Goals as goal

pub loop-i-init : goal.loop-i-init
unfolding first_refusal
loop-i-init g c = λ number h. refl

pub loop-i-preserved : goal.loop-i-preserved
loop-i-preserved g c =
    λ number h. first_next number _ _ (c.loop-i.invariant number h) (h _ _ c.loop-i-test.true c.in_ok-refusal.ensures)

pub returns : goal.returns
returns g c =
    let e : c.args.n ≡ c.loop-i.i = omega (arith, c.loop-i.auto.i-end) in
    λ number h. rw e (sym (c.loop-i.invariant number h))

pub returns-in_err-refusal : goal.returns-in_err-refusal
returns-in_err-refusal g c =
    let p = err_from_is_err_and c.from_residual.result c.from_residual.ensures.1 in
    let m = number_some c.in_err-refusal.field-0.0 in
    rw (p.1, p.2)
    (λ number h. first_here number _ _ _ c.loop-i-test.true (c.loop-i.invariant number h) (h _ (Err c.in_err-refusal.field-0.0) c.loop-i-test.true c.in_err-refusal.ensures) m)
