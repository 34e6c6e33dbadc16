use Rattle.std.proofs.Common.{◌∙◌, to_z-of_z, w32}
use denote.Floats.{passes}
use Rattle.time_sync.proofs.Bits.{cut_right}
use Rattle.time_sync.proofs.truncated.Goals as goal

pub returns : goal.returns
returns c =
    let e = to_z-of_z {w = w32} (record { sfits = c.saturating_f32_to_i32.type_inv }) ∙ c.saturating_f32_to_i32.ensures in
    (e, e ∙ cut_right c.args.x (passes _ c.well_formed.0.1) c.requires)
