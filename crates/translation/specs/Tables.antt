-- What descriptors and entries say. Assumes nothing.
use Rattle.std.specs.Prelude.{ℕ, ◌+◌, ◌-◌, ◌*◌, ◌/◌, ◌%◌, ◌^◌, Bool, if◌then◌else◌, not, ◌&&◌, ◌||◌, Some, None, Ok, Err, Result, ◌==◌, nat_le, nat_lt}
use Rattle.translation.specs.declared.fault.Kind.{Kind}
use Rattle.translation.specs.declared.fault.Kind.TheVariants.{Load, Store, Fetch}
use Rattle.translation.specs.declared.fault.Cause.{Cause}
use Rattle.translation.specs.declared.fault.Cause.TheVariants.{Segment, Index, Unsupported, Invalid, Right, SettlingRight}
use Rattle.translation.specs.declared.fault.Purpose.{Purpose}
use Rattle.translation.specs.declared.fault.Purpose.TheVariants.{Datum, PartitionEntry, ProcessEntry, ProcessTree, Settling}
use Rattle.translation.specs.declared.tables.Table.{Table}
use Rattle.translation.specs.declared.tables.Leaf.{Leaf}
use Rattle.translation.specs.declared.tables.Step.{Step}
use Rattle.translation.specs.declared.tables.Step.TheVariants.{Next, Found}
use Rattle.translation.specs.declared.tables.Partition.{Partition}
use Rattle.translation.specs.Fields.{table_base, table_size, next_base, next_width, tree_size, valid, leaf, page_base, referenced, changed, privileged, may_read, may_write, may_execute}

-- a flaw stops with its cause; without it the rest follows
abbrev pub unless : {B : Type 0} → Bool → Cause → Result B Cause → Result B Cause
unless flaw c r = if flaw then Err c else r

-- a table is not supported if its width is not 5 to 16, it leaves fewer than 12 bits, or its base is no multiple of its size
abbrev pub flawed_table : ℕ → ℕ → ℕ → Bool
flawed_table width base left = nat_lt width 5 || (nat_lt 16 width || (nat_lt left (width + 12) || not (base % 2 ^ (width + 3) == 0)))

-- the table that a doubleword names, where `left` bits are still to translate
unfoldable pub table_of : ℕ → ℕ → Result Table Cause
table_of v left =
    unless (flawed_table (next_width v) (next_base v) left) Unsupported
    (Ok (record { base = next_base v; width = next_width v; left = left - next_width v }))

-- a leaf is supported if 12, 16, 21 or 30 bits are left
abbrev pub page_bits : ℕ → Bool
page_bits left = left == 12 || (left == 16 || (left == 21 || left == 30))

-- they are the offset, and page number bits below are ignored
abbrev pub page_address : ℕ → ℕ → ℕ → ℕ
page_address left addr v = page_base v - page_base v % 2 ^ left + addr % 2 ^ left

unfoldable pub leaf_of : ℕ → ℕ → ℕ → ℕ → ℕ → Result Leaf Cause
leaf_of left addr place depth v =
    unless (not (page_bits left)) Unsupported (Ok (record { place = place; word = v; address = page_address left addr v; depth = depth }))

abbrev pub next : Result Table Cause → Result Step Cause
next (Ok t) = Ok (Next t)
next (Err c) = Err c

abbrev pub found : Result Leaf Cause → Result Step Cause
found (Ok l) = Ok (Found l)
found (Err c) = Err c

-- in an entry V comes first, then the unsupported forms
unfoldable pub step_of : ℕ → ℕ → ℕ → ℕ → ℕ → Result Step Cause
step_of left addr place depth v = unless (not (valid v)) Invalid (if leaf v then found (leaf_of left addr place depth v) else next (table_of v left))

-- a table takes its index from the bits above those left, and its entries have eight bytes
unfoldable pub place_of : Table → ℕ → ℕ
place_of t addr = t.base + addr / 2 ^ t.left % 2 ^ t.width * 8

-- a tree is supported if its RTS is at most 21; it translates RTS + 31 bits
unfoldable pub tree_of : ℕ → Result Table Cause
tree_of v = unless (nat_lt 21 (tree_size v)) Unsupported (table_of v (tree_size v + 31))

-- a root table translates the addresses below 2^(RTS + 31)
abbrev pub translates : Table → ℕ → Bool
translates t addr = addr / 2 ^ (t.left + t.width) == 0

abbrev pub inside_of : Table → ℕ → Cause → Result (Unit {0}) Cause
inside_of t addr otherwise = if translates t addr then Ok tt else Err otherwise

abbrev pub under : ℕ → Result Table Cause → Result Partition Cause
under second (Ok t) = Ok (record { tree = Some t; process_table = second })
under second (Err c) = Err c

-- HR and GR, bit 0 of each doubleword, are 1; for a nonzero LPID the first names the partition's tree
unfoldable pub partition_of : ℕ → ℕ → ℕ → Result Partition Cause
partition_of lpid first second =
    unless (not (valid first)) Unsupported (unless (not (valid second)) Unsupported
    (if lpid == 0 then Ok (record { tree = None; process_table = second }) else under second (tree_of first)))

-- a process table is not supported if its size field is above 24 or its base is no multiple of its size
abbrev pub flawed_process_table : ℕ → ℕ → Bool
flawed_process_table size base = nat_lt 24 size || not (base % 2 ^ (size + 12) == 0)

-- a table of 2^(12 + size) bytes has an entry of 16 for each index below 2^(8 + size)
abbrev pub outside : ℕ → ℕ → Bool
outside size index = nat_le (2 ^ (size + 8)) index

-- where a process's entry stands
unfoldable pub process_place : ℕ → ℕ → Result ℕ Cause
process_place table pid =
    unless (flawed_process_table (table_size table) (table_base table)) Unsupported
    (unless (outside (table_size table) pid) Index (Ok (table_base table + 16 * pid)))

abbrev pub with_offset : Result Table Cause → ℕ → Result Table Cause
with_offset (Ok t) offset = if translates t offset then Ok t else Err Segment
with_offset (Err c) offset = Err c

-- the process descriptor first, then the offset
unfoldable pub process_tree : ℕ → ℕ → Result Table Cause
process_tree descriptor offset = with_offset (tree_of descriptor) offset

-- a load needs read or read-write, a store read-write, a fetch execute
abbrev pub allows : Kind → ℕ → Bool
allows Load v = may_read v || may_write v
allows Store v = may_write v
allows Fetch v = may_execute v

abbrev pub missing : Purpose → Cause
missing Datum = Right
missing PartitionEntry = Right
missing ProcessEntry = Right
missing ProcessTree = Right
missing Settling = SettlingRight

-- a partition leaf's right; its privileged bit has no effect
unfoldable pub right_of : Purpose → Kind → ℕ → Result (Unit {0}) Cause
right_of p k v = if allows k v then Ok tt else Err (missing p)

-- a process leaf's right; its privileged bit excludes problem state
unfoldable pub process_right : Bool → Kind → ℕ → Result (Unit {0}) Cause
process_right problem k v = unless (problem && privileged v) Right (if allows k v then Ok tt else Err Right)

-- R, and C for a store
abbrev pub settling_bits : Kind → ℕ
settling_bits Load = 0x100
settling_bits Store = 0x180
settling_bits Fetch = 0x100

-- those bits stand
abbrev pub is_settled : Kind → ℕ → Bool
is_settled Load v = referenced v
is_settled Store v = referenced v && changed v
is_settled Fetch v = referenced v
