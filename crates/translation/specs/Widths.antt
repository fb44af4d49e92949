-- The widths of data, and what part of a doubleword a datum is. Assumes nothing.
use Rattle.std.specs.Prelude.{ℕ, ◌+◌, ◌-◌, ◌*◌, ◌/◌, ◌%◌, ◌^◌, Bool, if◌then◌else◌, List, codes, Ok, Err, Result, ◌==◌, nat_lt}
use Rattle.translation.specs.declared.widths.Width.{Width}
use Rattle.translation.specs.declared.widths.Width.TheVariants.{Byte, Halfword, Word, Doubleword}
use Rattle.translation.specs.declared.widths.Unaskable.{Unaskable}
use Rattle.translation.specs.declared.widths.Unaskable.TheVariants.{OddWidth, Misaligned, TooWide}

-- a width is 1, 2, 4 or 8 bytes
abbrev pub bytes_of : Width → ℕ
bytes_of Byte = 1
bytes_of Halfword = 2
bytes_of Word = 4
bytes_of Doubleword = 8

-- the refusals' numbers
abbrev pub unaskable_number : Unaskable → ℕ
unaskable_number OddWidth = 5
unaskable_number Misaligned = 6
unaskable_number TooWide = 7

-- a refusal in words
abbrev pub unaskable_text : Unaskable → List ℕ
unaskable_text OddWidth = codes "the width is not 1, 2, 4 or 8"
unaskable_text Misaligned = codes "the address is no multiple of the width"
unaskable_text TooWide = codes "the value does not fit the width"

-- the width of a number of bytes, if there is one
abbrev pub width_of : ℕ → Result Width Unaskable
width_of n = if n == 1 then Ok Byte else if n == 2 then Ok Halfword else if n == 4 then Ok Word else if n == 8 then Ok Doubleword else Err OddWidth

-- the address base plus index, and the width: 5 where there is no such width, then 6 where the address is no multiple of it
abbrev pub aligned_at : ℕ → Result Width Unaskable → Result (ℕ × Width) Unaskable
aligned_at a (Ok w) = if a % bytes_of w == 0 then Ok (a, w) else Err Misaligned
aligned_at a (Err e) = Err e

abbrev pub asked : ℕ → ℕ → ℕ → Result (ℕ × Width) Unaskable
asked width base index = aligned_at ((base + index) % 2 ^ 64) (width_of width)

-- how far above the doubleword's last byte a datum at an offset ends, in bits
abbrev pub above : ℕ → ℕ → ℕ
above w offset = 8 * (8 - w - offset)

-- the datum of w bytes at an offset in a doubleword
unfoldable pub part : ℕ → ℕ → ℕ → ℕ
part w offset v = v / 2 ^ above w offset % 2 ^ (8 * w)

-- the doubleword with another datum there
unfoldable pub merged : ℕ → ℕ → ℕ → ℕ → ℕ
merged w offset v x = v - part w offset v * 2 ^ above w offset + x * 2 ^ above w offset

-- a value fits a width: it is below 2^(8 × width)
abbrev pub fits : Width → ℕ → Bool
fits w x = nat_lt x (2 ^ (8 * bytes_of w))

-- a store's operand: 7 where the value does not fit
abbrev pub fitting : ℕ → Width → ℕ → Result (ℕ × Width × ℕ) Unaskable
fitting a w x = if fits w x then Ok (a, w, x) else Err TooWide

-- a fetch's address: 6 where it is no multiple of 4
abbrev pub fetched : ℕ → ℕ → Result ℕ Unaskable
fetched base index = if (base + index) % 2 ^ 64 % 4 == 0 then Ok ((base + index) % 2 ^ 64) else Err Misaligned
