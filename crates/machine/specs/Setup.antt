-- Which register images a setup takes. Assumes nothing.
use Rattle.std.specs.Prelude.{ℕ, ◌+◌, ◌%◌, ◌^◌, Bool, false, if◌then◌else◌, not, ◌&&◌, Ok, Err, Result, ◌==◌, nat_lt}
use Rattle.translation.specs.declared.registers.Registers.{Registers}
use Rattle.translation.specs.Fields.{bits, table_base, table_size}
use Rattle.machine.specs.declared.refusal.Refusal.{Refusal}
use Rattle.machine.specs.declared.refusal.Refusal.TheVariants.{PartitionTable, RealOffset}

-- all zero at first, and the facility off
abbrev pub no_registers : Registers
no_registers = record { ptcr = 0; hrmor = 0; urmor = 0; facility = false }

-- PTCR has no bit among 0:3 and 52:58
abbrev pub clear : ℕ → Bool
clear v = bits v 0 3 == 0 && bits v 52 58 == 0

-- its size field is at most 24, and its base a multiple of the table's size, 2^(12 + size)
abbrev pub placed : ℕ → ℕ → Bool
placed size base = not (nat_lt 24 size) && base % 2 ^ (size + 12) == 0

abbrev pub names_table : ℕ → Bool
names_table v = clear v && placed (table_size v) (table_base v)

-- HRMOR and URMOR are multiples of 4,096 below 2^57
abbrev pub is_offset : ℕ → Bool
is_offset v = v % 4096 == 0 && nat_lt v (2 ^ 57)

abbrev pub offset_of : ℕ → Result ℕ Refusal
offset_of v = if is_offset v then Ok v else Err RealOffset

-- a refused image changes nothing
abbrev pub refuse : Bool → Refusal → Registers → Registers → Result (Unit {0}) Refusal × Registers
refuse good e before after = if good then (Ok tt, after) else (Err e, before)

abbrev pub with_ptcr : Registers → ℕ → Result (Unit {0}) Refusal × Registers
with_ptcr r v = refuse (names_table v) PartitionTable r (record { ptcr = v; hrmor = r.hrmor; urmor = r.urmor; facility = r.facility })

abbrev pub with_hrmor : Registers → ℕ → Result (Unit {0}) Refusal × Registers
with_hrmor r v = refuse (is_offset v) RealOffset r (record { ptcr = r.ptcr; hrmor = v; urmor = r.urmor; facility = r.facility })

abbrev pub with_urmor : Registers → ℕ → Result (Unit {0}) Refusal × Registers
with_urmor r v = refuse (is_offset v) RealOffset r (record { ptcr = r.ptcr; hrmor = r.hrmor; urmor = v; facility = r.facility })

abbrev pub with_facility : Registers → Bool → Registers
with_facility r on = record { ptcr = r.ptcr; hrmor = r.hrmor; urmor = r.urmor; facility = on }
