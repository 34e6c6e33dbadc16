use native.Mathlib.Omega.{arith}
use mathlib.Core.Path.{◌∙◌}
use mir.Facts.{to_z-of_z}
use Rattle.std.proofs.lemmas.Result.{err_from_is_err_and}
use Rattle.frame_info.proofs.Refusals.{number_some}
use Rattle.desk_face.specs.Face as face
use Rattle.desk_face.proofs.Face.{words_kept}
use Rattle.desk_face.proofs.show.Goals as goal

pub returns-in_err-console : goal.returns-in_err-console
unfolding face.look_room face.room_of_row face.show_on face.does
returns-in_err-console c =
    let told = rw (to_z-of_z c.ranges.frame, c.desk_at-desk.ensures) at c.in_err-console.ensures in
    let kept = told.1 ∙ words_kept _ _ _ _ told.0 in
    let p = err_from_is_err_and c.from_residual.result c.from_residual.ensures.1 in
    rw (p.1, p.2) (grind (arith, number_some, told.0, kept))
