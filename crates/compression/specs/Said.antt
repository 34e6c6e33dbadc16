-- A call's `Result`, read as the answer that its definition gives: 0 beside what it found, or the number of its refusal alone. No two of them read
-- alike, so the answer is determined.
use Rattle.std.specs.Prelude.{ℕ, Option, Some, None, Result, Ok, Err}
use Rattle.frame_info.specs.Refusal.{done, number_of}
use Rattle.frame_info.specs.declared.refusal.Refusal.{Refusal}
use Rattle.compression.specs.Promise.{pack_refused, unpack_refused}
use Rattle.frame_info.specs.declared.refusal.Refusal.TheVariants.{HalfLength, FewerBytes}
use Rattle.compression.specs.declared.Record.{Record}
use Rattle.compression.specs.declared.Record.TheVariants.{End, Half, Short, Whole}
use Rattle.compression.specs.declared.Unpacked as declared_unpacked
use Rattle.compression.specs.Answer.{Packed, Unpacked}

abbrev pub packed_said : Result ℕ Refusal → Packed
packed_said (Ok n) = record { no = done; bytes = n }
packed_said (Err e) = pack_refused (number_of e)

abbrev pub unpacked_said : Result declared_unpacked.Unpacked Refusal → Unpacked
unpacked_said (Ok u) = record { no = done; bytes = u.bytes; lengths = u.lengths }
unpacked_said (Err e) = unpack_refused (number_of e)

-- the length of a whole record, none at the end, and why the packet breaks elsewhere
abbrev pub length_of : Record → Result (Option ℕ) Refusal
length_of End = Ok None
length_of Half = Err HalfLength
length_of Short = Err FewerBytes
length_of (Whole n) = Ok (Some n)
