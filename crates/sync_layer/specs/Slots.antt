-- The saved slots in a lent list of numbers: limit + 1 slots, frame f in slot f mod that number.
use Rattle.std.specs.Prelude.{ℕ, zero, suc, ◌+◌, ◌*◌, ◌%◌, max, List, [], ◌∷◌, get_or, set, leb}
use Rattle.frame_info.specs.Choice.{pick}
use Rattle.console.specs.declared.Console.{Console}
use Rattle.sync_layer.specs.Lists.{write_row}

-- The sizes. A slot is 64 bytes; its layout needs 4 + max_seats numbers.
abbrev pub max_limit : ℕ
max_limit = 15

abbrev pub slot_words : ℕ
slot_words = 16

-- The layout of a slot: the frame as a count, then head, kind and seal; from 4 on the words that the desk served.
abbrev pub served_from : ℕ
served_from = 4

abbrev pub slot_of : ℕ → ℕ → ℕ
slot_of limit f = f % (limit + 1) * slot_words

-- number k of frame f's slot
abbrev pub slot_at : ℕ → List ℕ → ℕ → ℕ → ℕ
slot_at limit l f k = get_or l (slot_of limit f + k) 0

-- the state that frame f's slot holds
abbrev pub state_in : ℕ → List ℕ → ℕ → Console
state_in limit l f = record { head = slot_at limit l f 1; kind = slot_at limit l f 2; seal = slot_at limit l f 3 }

-- Save stores frame and state; the words of the slot stay.
unfoldable pub save_slot : ℕ → List ℕ → ℕ → Console → List ℕ
save_slot limit l f c =
    write_row served_from l (slot_of limit f) (λ k. get_or ((f + 1) ∷ c.head ∷ c.kind ∷ c.seal ∷ []) k 0)

-- slots 0 to n - 1 hold no frame
unfoldable pub clear_slots : ℕ → List ℕ → List ℕ
clear_slots zero l = l
clear_slots (suc n) l = set (clear_slots n l) (n * slot_words) 0

-- a frame's count where it is within two others, else none
abbrev pub within : ℕ → ℕ → ℕ → ℕ
within low high c = pick (leb low c) (pick (leb c high) c 0) 0

-- the highest frame's count that slots 0 to n - 1 hold within two others, 0 where there is none
unfoldable pub highest_in : ℕ → List ℕ → ℕ → ℕ → ℕ
highest_in zero l low high = 0
highest_in (suc n) l low high = max (highest_in n l low high) (within low high (get_or l (n * slot_words) 0))
