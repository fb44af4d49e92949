-- The reference table: what one memory answers to eighteen accesses, and how it stands after them. Assumes nothing.
use Rattle.std.specs.Prelude.{◌≡◌, ℕ, Bool, true, false, replicate, Ok, Err}
use Rattle.memory.specs.declared.protected.Mark.TheVariants.{Ordinary, Secure as Marked}
use Rattle.memory.specs.Bytes.{number_at}
use Rattle.memory.specs.Protected.{Meaning, written, marked}
use Rattle.translation.specs.declared.fault.Cause.{Cause}
use Rattle.translation.specs.declared.fault.Cause.TheVariants.{Segment, Invalid, Right, Secure, Beyond}
use Rattle.translation.specs.declared.fault.Layer.{Layer}
use Rattle.translation.specs.declared.fault.Layer.TheVariants.{Process, Partition, Storage}
use Rattle.translation.specs.declared.fault.Purpose.{Purpose}
use Rattle.translation.specs.declared.fault.Purpose.TheVariants.{Datum, ProcessEntry, ProcessTree}
use Rattle.translation.specs.declared.fault.Fault.{Fault}
use Rattle.translation.specs.declared.registers.Registers.{Registers}
use Rattle.translation.specs.declared.registers.Context.{Context}
use Rattle.translation.specs.declared.datum.Ask.TheVariants.{ToLoad, ToFetch}
use Rattle.translation.specs.Program.{Outcome}
use Rattle.translation.specs.Access.{accessed}

-- ---- the memory
-- eight ordinary frames of zeros
abbrev pub zeros : Meaning
zeros = record { bytes = replicate 32768 0; marks = replicate 8 Ordinary }

-- LPID 1's partition entry, its tree of one leaf, PID 1's process entry, its tree of one leaf
abbrev pub tables : Meaning
tables =
    written (written (written (written (written zeros 0x1010 0x8000_0000_0000_200A) 0x1018 0x8000_0000_0000_4000)
    0x2000 0xC000_0000_0000_0003) 0x4010 0x600A) 0x6000 0xC000_0000_0000_0002

-- with one secure frame
abbrev pub secured : ℕ → Meaning
secured frame = marked tables frame Marked

-- with one doubleword changed
abbrev pub altered : ℕ → ℕ → Meaning
altered at v = written tables at v

-- ---- the registers and the contexts
abbrev pub registers : Registers
registers = record { ptcr = 0x1000; hrmor = 0x3000; urmor = 0; facility = true }

-- a user's, ordinary or secure
abbrev pub user : Bool → Context
user s = record { s = s; hv = false; pr = true; ir = true; dr = true; sf = true; lpid = 1; pid = 1 }

-- a hypervisor's, with translation off
abbrev pub hypervisor : Context
hypervisor = record { s = false; hv = true; pr = false; ir = false; dr = false; sf = true; lpid = 1; pid = 1 }

-- ---- the accesses
-- a load of 8 bytes
abbrev pub load : Context → Meaning → ℕ → Outcome (ℕ × ℕ × ℕ)
load c m a = accessed registers c m ToLoad 8 a

-- a fetch of 4
abbrev pub fetch : Context → Meaning → ℕ → Outcome (ℕ × ℕ × ℕ)
fetch c m a = accessed registers c m ToFetch 4 a

-- the doubleword at an address, after
abbrev pub word_after : Outcome (ℕ × ℕ × ℕ) → ℕ → ℕ
word_after o a = number_at 8 o.1.memory.bytes a

-- a fault: its cause, layer, purpose, depth, addresses (effective, guest, real), vector and count; no access here is a store
abbrev pub fault : Cause → Layer → Purpose → ℕ → ℕ × ℕ × ℕ → ℕ → ℕ → Fault
fault cause layer purpose depth at vector count =
    record {
      cause = cause;
      layer = layer;
      purpose = purpose;
      depth = depth;
      ea = at.0;
      guest = at.1;
      real = at.2;
      vector = vector;
      store = false;
      count = count;
    }

-- the load of address 0 that reads 0 there and 8 doublewords, and sets reference in the process leaf and both bits in the partition's
pub record Settles (m : Meaning) (o : Outcome (ℕ × ℕ × ℕ)) : Type 0 where
  pub answer : o.0 ≡ Ok (0, 0, 8)
  pub partition_first : word_after o 0x1010 ≡ 0x8000_0000_0000_200A
  pub partition_second : word_after o 0x1018 ≡ 0x8000_0000_0000_4000
  pub partition_leaf : word_after o 0x2000 ≡ 0xC000_0000_0000_0183
  pub process_entry : word_after o 0x4010 ≡ 0x600A
  pub process_leaf : word_after o 0x6000 ≡ 0xC000_0000_0000_0102
  pub marks : o.1.memory.marks ≡ m.marks

-- an access that stops with a fault, before the process leaf is settled
pub record Stops (o : Outcome (ℕ × ℕ × ℕ)) (f : Fault) : Type 0 where
  pub answer : o.0 ≡ Err f
  pub process_leaf : word_after o 0x6000 ≡ 0xC000_0000_0000_0002

-- the loads of address 0 where the process leaf has R already, and where its page is at 2^32
abbrev pub referenced : Outcome (ℕ × ℕ × ℕ)
referenced = load (user false) (altered 0x6000 0xC000_0000_0000_0102) 0

abbrev pub far : Outcome (ℕ × ℕ × ℕ)
far = load (user false) (altered 0x6000 0xC000_0001_0000_0002) 0

abbrev pub first : Outcome (ℕ × ℕ × ℕ)
first = load (user false) tables 0

pub record ReferenceTable : Type 0 where
  -- 1. the first load settles both leaves, and the same load again reads one doubleword less and changes nothing
  pub first_load : Settles tables first
  pub again : (load (user false) first.1.memory 0).0 ≡ Ok (0, 0, 7)
  pub again_after : (load (user false) first.1.memory 0).1.memory ≡ first.1.memory
  -- 2. the last doubleword, and the first beyond the memory
  pub last : (load (user false) tables 0x7FF8).0 ≡ Ok (0, 0x7FF8, 8)
  pub beyond : Stops (load (user false) tables 0x8000) (fault Beyond Storage Datum 1 (0x8000, 0x8000, 0x8000) 0x200 7)
  -- 3. an entry that is not valid, and an offset beyond the process tree
  pub invalid : Stops (load (user false) tables 0x7FFF_FFF8) (fault Invalid Process ProcessTree 1 (0x7FFF_FFF8, 0, 0) 0x300 6)
  pub outside : Stops (load (user false) tables 0x8000_0000) (fault Segment Process ProcessTree 0 (0x8000_0000, 0, 0) 0x380 4)
  -- 4. a quadrant that is not the thread's
  pub no_segment : Stops (load (user false) tables 0x4000_0000_0000_0000) (fault Segment Process Datum 0 (0x4000_0000_0000_0000, 0, 0) 0x380 0)
  -- 5. a fetch where nothing may be executed
  pub no_right : Stops (fetch (user false) tables 0) (fault Right Process ProcessTree 1 (0, 0, 0) 0x400 6)
  -- 6. a secure datum is refused to an ordinary thread, and not to a secure one
  pub secure_datum : Stops (load (user false) (secured 0) 0) (fault Secure Storage Datum 1 (0, 0, 0) 0xE00 7)
  pub secure_thread : Settles (secured 0) (load (user true) (secured 0) 0)
  -- 7. a secure partition table is read, a secure partition tree is not
  pub secure_table : Settles (secured 1) (load (user false) (secured 1) 0)
  pub secure_tree : Stops (load (user false) (secured 2) 0) (fault Secure Storage ProcessEntry 0 (0, 0x4010, 0x2000) 0xE00 2)
  -- 8. real addresses, with HRMOR and without; HRMOR is ORed: added to 0x1000, it would give 0x4000
  pub offset_real : (load hypervisor tables 0x1000).0 ≡ Ok (0, 0x3000, 0)
  pub plain_real : (load hypervisor tables 0x8000_0000_0000_1000).0 ≡ Ok (0, 0x1000, 0)
  -- 9. a process leaf that has R already is not written: to settle it all the same would read 8 doublewords, and set C in the partition leaf
  pub referenced_load : referenced.0 ≡ Ok (0, 0, 7)
  pub referenced_partition_leaf : word_after referenced 0x2000 ≡ 0xC000_0000_0000_0103
  -- 10. a process leaf's page beyond the partition's tree: cut to 32 bits, its address would be 0, and the load would be answered
  pub far_page : far.0 ≡ Err (fault Invalid Partition Datum 0 (0, 0x1_0000_0000, 0) 0xE00 6)
  pub far_page_leaf : word_after far 0x6000 ≡ 0xC000_0001_0000_0002
  -- 11. a partition leaf's page beyond the memory: cut to 32 bits, the process entry would be found at 0x4010
  pub far_partition_page : Stops (load (user false) (altered 0x2000 0xC000_0001_0000_0003) 0) (fault Beyond Storage ProcessEntry 1 (0, 0x4010, 0x1_0000_4010) 0x200 3)
  -- 12. a process tree beyond the partition's tree: cut to 32 bits, its base would be 0x6000, and the load would be answered
  pub far_tree : Stops (load (user false) (altered 0x4010 0x1_0000_600A) 0) (fault Invalid Partition ProcessTree 0 (0, 0x1_0000_6000, 0) 0xE00 4)
