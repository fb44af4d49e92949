-- Bit fields of a doubleword; bit 0 is the most significant. Assumes nothing.
use Rattle.std.specs.Prelude.{ℕ, ◌+◌, ◌-◌, ◌*◌, ◌/◌, ◌%◌, ◌^◌, Bool, ◌==◌}

-- bits i to j, as a number
abbrev pub bits : ℕ → ℕ → ℕ → ℕ
bits v i j = v / 2 ^ (63 - j) % 2 ^ (j + 1 - i)

-- bit i is 1
abbrev pub bit : ℕ → ℕ → Bool
bit v i = bits v i i == 1

-- PTCR and a partition entry's second doubleword: a table's base in bits 4:51, with 12 zero bits below
abbrev pub table_base : ℕ → ℕ
table_base v = bits v 4 51 * 2 ^ 12

-- and its size field in bits 59:63; the table has 2^(12 + size) bytes
abbrev pub table_size : ℕ → ℕ
table_size v = bits v 59 63

-- a root descriptor and a page directory entry: the next table's base in bits 4:55, with 8 zero bits below
abbrev pub next_base : ℕ → ℕ
next_base v = bits v 4 55 * 2 ^ 8

-- and its width in bits 59:63; the table has 2^width entries
abbrev pub next_width : ℕ → ℕ
next_width v = bits v 59 63

-- a root descriptor's RTS: bits 1:2 followed by 56:58; the tree translates RTS + 31 bits
abbrev pub tree_size : ℕ → ℕ
tree_size v = bits v 1 2 * 8 + bits v 56 58

-- an entry is valid where V, bit 0, is 1
abbrev pub valid : ℕ → Bool
valid v = bit v 0

-- and a page table entry, a leaf, where L, bit 1, is 1
abbrev pub leaf : ℕ → Bool
leaf v = bit v 1

-- a leaf's page number in bits 7:51, with 12 zero bits below
abbrev pub page_base : ℕ → ℕ
page_base v = bits v 7 51 * 2 ^ 12

-- reference and change
abbrev pub referenced : ℕ → Bool
referenced v = bit v 55

abbrev pub changed : ℕ → Bool
changed v = bit v 56

-- access authority: privileged, read, read-write, execute
abbrev pub privileged : ℕ → Bool
privileged v = bit v 60

abbrev pub may_read : ℕ → Bool
may_read v = bit v 61

abbrev pub may_write : ℕ → Bool
may_write v = bit v 62

abbrev pub may_execute : ℕ → Bool
may_execute v = bit v 63
