-- An access is a program of questions to the memory. `run` asks them, and nothing else touches the memory. Assumes nothing.
use Rattle.std.specs.Prelude.{ℕ, ◌+◌, ◌*◌, ◌/◌, Bool, false, if◌then◌else◌, not, ◌&&◌, Some, None, Ok, Err, Option, Result, bit_or, nat_lt, slice_index_or}
use Rattle.memory.specs.declared.protected.Mark.TheVariants.{Ordinary}
use Rattle.memory.specs.Bytes.{number_at}
use Rattle.memory.specs.Protected.{Meaning, size_of, holds, has_frame, is_secure, written}
use Rattle.translation.specs.declared.fault.Kind.{Kind}
use Rattle.translation.specs.declared.fault.Cause.{Cause}
use Rattle.translation.specs.declared.fault.Cause.TheVariants.{Index, Secure, Beyond}
use Rattle.translation.specs.declared.fault.Layer.{Layer}
use Rattle.translation.specs.declared.fault.Layer.TheVariants.{Partition, Storage}
use Rattle.translation.specs.declared.fault.Purpose.TheVariants.{PartitionEntry}
use Rattle.translation.specs.declared.fault.Fault.{Fault}
use Rattle.translation.specs.declared.fault.Setting.{Setting}
use Rattle.translation.specs.declared.fault.Site.{Site}
use Rattle.translation.specs.declared.tables.Leaf.{Leaf}
use Rattle.translation.specs.declared.tables.Half.{Half}
use Rattle.translation.specs.declared.tables.Half.TheVariants.{First, Second}
use Rattle.translation.specs.Fault.{fault_at, faulted}
use Rattle.translation.specs.Tables.{settling_bits, is_settled}

-- ---- the questions
pub data Program : Type 0 → Type 1 where
  -- the answer, with no question
  ret : {A : Type 0} → A → Program A
  -- go on with a check's value, or stop with its cause at a layer
  check : {A : Type 0} → Site → Layer → Result A Cause → Program A
  -- reach a real address, or stop
  reach : Site → ℕ → Program (Unit {0})
  -- the first or the second doubleword of the partition's entry, whatever its mark; counted
  partition_word : Half → Program ℕ
  -- reach a table's doubleword and read it; counted
  table_word : Site → ℕ → Program ℕ
  -- a table's doubleword that was reached before; counted
  reached_word : ℕ → Program ℕ
  -- settle a leaf, or none
  settle : Kind → Option Leaf → Program (Unit {0})
  -- add the bits of settling to a doubleword that was reached before
  amend : Kind → ℕ → Program (Unit {0})
  -- a doubleword that was reached before, not counted
  datum_word : ℕ → Program ℕ
  -- write a doubleword that was reached before
  put_word : ℕ → ℕ → Program (Unit {0})
  -- how many doublewords were counted so far
  tally : Program ℕ
  -- one program, and then another that depends on its answer
  bind : {A B : Type 0} → Program A → (A → Program B) → Program B

-- ---- reaching
-- the frame that an address lies in is secure; none beyond the memory is
abbrev pub secure_at : Meaning → ℕ → Bool
secure_at m a = if has_frame m (a / 4096) then is_secure (slice_index_or m.marks (a / 4096) Ordinary) else false

-- an address can be reached: it lies in the memory, and not in a secure frame where those are refused
abbrev pub reachable : Setting → Meaning → ℕ → Bool
reachable s m a = nat_lt a (size_of m) && not (s.confined && secure_at m a)

-- the doubleword in which an address lies, and 0 beyond the memory
abbrev pub doubleword : Meaning → ℕ → ℕ
doubleword m a = if holds m (a / 8 * 8) then number_at 8 m.bytes (a / 8 * 8) else 0

-- ---- what they answer and leave
-- the memory, and how many table doublewords were read
pub record State : Type 0 where
  pub memory : Meaning
  pub count : ℕ

abbrev pub state : Meaning → ℕ → State
state m n = record { memory = m; count = n }

abbrev pub Outcome : Type 0 → Type 0
Outcome A = Result A Fault × State

-- to reach: beyond the memory is cause 8, then a secure frame that is refused is cause 7
abbrev pub reached : Setting → State → Site → ℕ → Result (Unit {0}) Fault
reached s st site a =
    if nat_lt a (size_of st.memory)
    then (if s.confined && secure_at st.memory a then Err (fault_at s site Storage Secure a st.count) else Ok tt)
    else Err (fault_at s site Storage Beyond a st.count)

abbrev pub partition_site : Site
partition_site = record { purpose = PartitionEntry; depth = 0; guest = 0 }

-- a doubleword's offset in the partition's entry
abbrev pub half_offset : Half → ℕ
half_offset First = 0
half_offset Second = 8

-- a partition's entry has 16 bytes for each LPID
abbrev pub entry_place : Setting → Half → ℕ
entry_place s half = s.table + (16 * s.lpid + half_offset half)

-- it is checked for its index, and for the memory's end, and for no mark
abbrev pub entered : Setting → State → Half → Result (Unit {0}) Fault
entered s st half =
    if nat_lt s.lpid s.entries
    then (if nat_lt (entry_place s half) (size_of st.memory) then Ok tt else Err (fault_at s partition_site Storage Beyond (entry_place s half) st.count))
    else Err (fault_at s partition_site Partition Index 0 st.count)

abbrev pub counted : State → State
counted st = state st.memory (st.count + 1)

-- what was reached is read and written; an address that was not gives 0 and keeps its bytes
abbrev pub read_reached : Setting → Meaning → ℕ → ℕ
read_reached s m a = if reachable s m a then doubleword m a else 0

abbrev pub write_reached : Setting → Meaning → ℕ → ℕ → Meaning
write_reached s m a v = if reachable s m a then written m (a / 8 * 8) v else m

-- with R, and C for a store, added to the doubleword at a place as it stands
unfoldable pub amended : Setting → Meaning → Kind → ℕ → Meaning
amended s m k place = write_reached s m place (bit_or (read_reached s m place) (settling_bits k))

-- to settle a leaf: nothing where its bits stand already, else they are added; for LPID 0 there is no leaf
unfoldable pub settled : Setting → Meaning → Kind → Option Leaf → Meaning
settled s m k None = m
settled s m k (Some l) = if is_settled k l.word then m else amended s m k l.place

abbrev pub then_do : {A B : Type 0} → Outcome A → (A → State → Outcome B) → Outcome B
then_do o f = elim o.0 [ Ok x ↦ f x o.1 | Err e ↦ (Err e, o.1) ]

abbrev pub run : {A : Type 0} → Setting → State → Program A → Outcome A
run s st (ret a) = (Ok a, st)
run s st (check site l r) = (faulted s site l st.count r, st)
run s st (reach site a) = (reached s st site a, st)
run s st (partition_word half) = then_do (entered s st half, st) (λ _ st. (Ok (doubleword st.memory (entry_place s half)), counted st))
run s st (table_word site a) = then_do (reached s st site a, st) (λ _ st. (Ok (doubleword st.memory a), counted st))
run s st (reached_word a) = (Ok (read_reached s st.memory a), counted st)
run s st (settle k l) = (Ok tt, state (settled s st.memory k l) st.count)
run s st (amend k a) = (Ok tt, state (amended s st.memory k a) st.count)
run s st (datum_word a) = (Ok (read_reached s st.memory a), st)
run s st (put_word a v) = (Ok tt, state (write_reached s st.memory a v) st.count)
run s st tally = (Ok st.count, st)
run s st (bind p f) = then_do (run s st p) (λ a st. run s st (f a))
