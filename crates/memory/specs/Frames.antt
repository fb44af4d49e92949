-- The frame that an address lies in. Assumes nothing.
use Rattle.std.specs.Prelude.{ℕ, ◌*◌, ◌/◌, List, take, drop, slice_index_or}
use Rattle.memory.specs.declared.protected.Mark.{Mark}
use Rattle.memory.specs.declared.protected.Mark.TheVariants.{Ordinary}
use Rattle.memory.specs.Protected.{Meaning}

-- an address lies in the frame of its quotient by 4,096
abbrev pub frame_of : ℕ → ℕ
frame_of addr = addr / 4096

-- the 4,096 bytes of a frame
unfoldable pub frame_bytes : Meaning → ℕ → List ℕ
frame_bytes m frame = take 4096 (drop (frame * 4096) m.bytes)

-- the mark of the frame that an address lies in; ordinary beyond the memory
abbrev pub mark_over : Meaning → ℕ → Mark
mark_over m addr = slice_index_or m.marks (frame_of addr) Ordinary
