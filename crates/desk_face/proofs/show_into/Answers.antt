use mathlib.Core.Path.{◌∙◌}
use mathlib.Core.List.{[]}
use lib.ListN.{replicate}
use mir.Facts.{to_z-of_z}
use Rattle.sync_layer.specs.Seats.{max_seats}
use Rattle.desk.specs.Desk.{desk_of}
use Rattle.desk_face.proofs.Face.{words_moved}
use Rattle.desk_face.proofs.show_into.Goals as goal

pub returns : goal.returns
returns c =
    let few = c.requires.0.ready.few in
    let told = rw (to_z-of_z c.ranges.frame) at c.in_ok-console.ensures in (
      told.0,
      c.put_row.ensures ∙ words_moved (desk_of c.args.desk c.args.seats.now [] c.args.slots.now) c.args.frame c.in_ok-console.console c.show.new.out (replicate max_seats 0) c.args.shown.now told.0 told.1 few,
    )
