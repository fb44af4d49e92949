-- What a protected memory means, and what its calls answer and leave. Assumes nothing.
use Rattle.std.specs.Prelude.{ℕ, ◌*◌, ◌%◌, Bool, true, false, if◌then◌else◌, ◌&&◌, List, length, replicate, Ok, Err, codes, Result, ◌==◌, nat_lt, slice_index_or, slice_set}
use Rattle.memory.specs.declared.protected.Mark.{Mark}
use Rattle.memory.specs.declared.protected.Mark.TheVariants.{Ordinary, Secure}
use Rattle.memory.specs.declared.protected.Declined.{Declined}
use Rattle.memory.specs.Bytes.{number_at, octets, over}

-- a mark's number
abbrev pub number_of : Mark → ℕ
number_of Ordinary = 0
number_of Secure = 1

-- a mark's test
abbrev pub is_secure : Mark → Bool
is_secure Ordinary = false
is_secure Secure = true

-- a mark's text
abbrev pub mark_text : Mark → List ℕ
mark_text Ordinary = codes "ordinary"
mark_text Secure = codes "secure"

-- a memory means its bytes, and one mark for each frame of 4,096 of them
pub record Meaning : Type 0 where
  pub bytes : List ℕ
  pub marks : List Mark

-- the number of bytes
abbrev pub size_of : Meaning → ℕ
size_of m = length m.bytes

-- the number of frames
abbrev pub frames_of : Meaning → ℕ
frames_of m = length m.marks

-- a doubleword lies at each multiple of 8 below the size, and nowhere else
abbrev pub lies_below : ℕ → ℕ → Bool
lies_below addr size = addr % 8 == 0 && nat_lt addr size

abbrev pub holds : Meaning → ℕ → Bool
holds m addr = lies_below addr (size_of m)

-- a frame lies in the memory where its number is below the number of frames
abbrev pub has_frame : Meaning → ℕ → Bool
has_frame m frame = nat_lt frame (frames_of m)

-- the one refusal
abbrev pub declined : Declined
declined = record {}

-- a call that only acts answers that it is done, or declines
abbrev pub answered : Bool → Result (Unit {0}) Declined
answered b = if b then Ok tt else Err declined

-- a read answers the doubleword, or declines where none lies
abbrev pub read_at : Meaning → ℕ → Result ℕ Declined
read_at m addr = if holds m addr then Ok (number_at 8 m.bytes addr) else Err declined

-- bytes with a doubleword stored at an address, where it may be
abbrev pub stored : Bool → List ℕ → ℕ → ℕ → List ℕ
stored may bs addr v = if may then over bs addr (octets 8 v) else bs

-- a write changes the doubleword's eight bytes, and nothing where none lies
abbrev pub written : Meaning → ℕ → ℕ → Meaning
written m addr v = record { bytes = stored (holds m addr) m.bytes addr v; marks = m.marks }

-- a question for a mark answers it, or declines a frame beyond the memory
abbrev pub mark_at : Meaning → ℕ → Result Mark Declined
mark_at m frame = if has_frame m frame then Ok (slice_index_or m.marks frame Ordinary) else Err declined

-- setting a mark changes that mark alone, and nothing beyond the memory
abbrev pub marked : Meaning → ℕ → Mark → Meaning
marked m frame k = record { bytes = m.bytes; marks = if has_frame m frame then slice_set m.marks frame k else m.marks }

-- filling a frame with zeros changes its 4,096 bytes alone, and nothing beyond the memory
abbrev pub zeroed : Meaning → ℕ → Meaning
zeroed m frame = record { bytes = if has_frame m frame then over m.bytes (frame * 4096) (replicate 4096 0) else m.bytes; marks = m.marks }
