-- A control word, and the guesses that are made of it.
use Rattle.std.specs.Prelude.{ℕ, ◌-◌, ◌%◌, ◌/◌, ltb, eqb, ℤ, pos, negsuc}
use Rattle.frame_info.specs.Choice.{pick}
use Rattle.frame_info.specs.declared.PlayerInput.{PlayerInput}

-- the word of a hand that does nothing
abbrev pub blank : ℕ
blank = 0

-- an input: a frame and a word
abbrev pub player_input : ℤ → ℕ → PlayerInput
player_input f w = record { frame = f; input = w }

-- bits 0 to 7 are the jog, signed: 128 to 255 stand for -128 to -1
abbrev pub jog_of : ℕ → ℤ
jog_of w = pick (ltb (w % 256) 128) (pos (w % 256)) (negsuc (255 - w % 256))

-- bit 8 is the box, 1 for variable density
abbrev pub box_of : ℕ → ℕ
box_of w = w / 256 % 2

-- predictor 0 repeats the word, 1 is always blank, 2 repeats it with the jog cleared; so does any other number, which setups refuse
unfoldable pub predicted : ℕ → ℕ → ℕ
predicted p w = pick (eqb p 0) w (pick (eqb p 1) blank (w - w % 256))
