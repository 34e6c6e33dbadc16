-- The code's float constants are the whole numbers that the definitions name. Assumes nothing.
use Rattle.std.proofs.Common.{◌≡◌, false, pos, refl}
use lib.Ieee.{fin, binary32, of_bits, of_int}
use Rattle.time_sync.specs.Averages.{in_binary32}

pub thirty : in_binary32 (pos 30) ≡ fin false 15 (pos 1)
unfolding of_int
thirty = refl

pub two : in_binary32 (pos 2) ≡ fin false 1 (pos 1)
unfolding of_int
two = refl

pub none : in_binary32 (pos 0) ≡ fin false 0 (pos 0)
unfolding of_int
none = refl

pub bits_thirty : of_bits binary32 0x41f0_0000 ≡ in_binary32 (pos 30)
unfolding of_bits of_int
bits_thirty = refl

pub bits_two : of_bits binary32 0x4000_0000 ≡ in_binary32 (pos 2)
unfolding of_bits of_int
bits_two = refl

pub bits_none : of_bits binary32 0 ≡ in_binary32 (pos 0)
unfolding of_bits of_int
bits_none = refl
