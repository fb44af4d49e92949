-- Parts of a doubleword: what taking one out and putting another in keeps below 2 ^ 64.
use Rattle.std.proofs.Common.{◌≡◌, ℕ, ◌+◌, ◌-◌, ◌*◌, ◌/◌, ◌%◌, ◌^◌, ◌<◌, ◌≤◌, sym, refl, ap, mul-le-mul_right, mod-eq_of_lt, div-one, arith}
use native.Mathlib.Nat.{mod-le}
use lib.Arith.{digits_lt}
use Rattle.std.proofs.lemmas.Nat.{pow_pos, pow-add, mod-pow-add, shr_split, mod_below, div_below, one_shl}
use Rattle.translation.specs.Widths.{bytes_of, above, part, merged}
use Rattle.translation.specs.declared.widths.Width.{Width}
use Rattle.translation.specs.declared.widths.Width.TheVariants.{Byte, Halfword, Word, Doubleword}

-- all of a doubleword is the doubleword
whole_at : (v k : ℕ) → k ≡ 0 → v < 2 ^ 64 → v ≡ v / 2 ^ k % 2 ^ 64
whole_at v k e h = rw e (rw (div-one v) (sym (mod-eq_of_lt h)))

pub whole : (w : Width) (o v : ℕ) → w ≡ Doubleword → bytes_of w + o ≤ 8 → v < 2 ^ 64 → v ≡ part (bytes_of w) o v
unfolding part
whole w o v e h p = rw e (whole_at v (above 8 o) (omega arith) p)

-- a part in its place is no more than the doubleword
part_le : (v j k : ℕ) → v / 2 ^ k % 2 ^ j * 2 ^ k ≤ v
part_le v j k = omega (arith, mul-le-mul_right (2 ^ k) (mod-le (v / 2 ^ k) (2 ^ j)), shr_split v k)

-- so many bits above and below make 64
split : (m : ℕ) → m ≤ 64 → 2 ^ (64 - m) * 2 ^ m ≡ 2 ^ 64
split m h = let e : 64 - m + m ≡ 64 = omega arith in rw (← pow-add 2 (64 - m) m) (ap (λ (n : ℕ). 2 ^ n) e)

-- another part in its place, and what stands below that, fit the bits there
low_fits : (j k x r : ℕ) → x < 2 ^ j → r < 2 ^ k → x * 2 ^ k + r < 2 ^ (j + k)
low_fits j k x r h p = rw (pow-add 2 j k) (digits_lt h p)

-- and what stands above, too, fits a doubleword
all_fits : (m v l : ℕ) → m ≤ 64 → v < 2 ^ 64 → l < 2 ^ m → v / 2 ^ m * 2 ^ m + l < 2 ^ 64
all_fits m v l h p q =
    rw (← split m h) (digits_lt (div_below v (2 ^ m) (2 ^ (64 - m)) (pow_pos m) (rw (split m h) p)) q)

put_fits : (v x j k : ℕ) → j + k ≤ 64 → v < 2 ^ 64 → x < 2 ^ j → v - v / 2 ^ k % 2 ^ j * 2 ^ k + x * 2 ^ k < 2 ^ 64
put_fits v x j k h p q =
    let low = low_fits j k x (v % 2 ^ k) q (mod_below v (2 ^ k) (pow_pos k)) in
    let all = all_fits (j + k) v (x * 2 ^ k + v % 2 ^ k) h p low in
    omega (arith, mod-pow-add v j k, shr_split v (j + k))

-- a width is at least a byte, and below eight but for a doubleword
pub some_bytes : (w : Width) → 0 < bytes_of w
some_bytes Byte = omega arith
some_bytes Halfword = omega arith
some_bytes Word = omega arith
some_bytes Doubleword = omega arith

pub few_bytes : (w : Width) → (w ≡ Doubleword → ⊥) → bytes_of w < 8
few_bytes Byte n = omega arith
few_bytes Halfword n = omega arith
few_bytes Word n = omega arith
few_bytes Doubleword n = absurd (n refl)

-- the code's part, of a bytes, at a shift s
pub part_is : (w o v a s : ℕ) → a ≡ w → s ≡ above w o → w < 8 → v / 2 ^ s % ((1 * 2 ^ (8 * a)) % 2 ^ 64) ≡ part w o v
unfolding part
part_is w o v a s e f h = rw (e, f, one_shl (8 * w) 64 (omega arith))

-- the code's power of two, at a shift s
pub power : (w o s : ℕ) → s ≡ above w o → 0 < w → (1 * 2 ^ s) % 2 ^ 64 ≡ 2 ^ above w o
power w o s f h = rw f (one_shl (above w o) 64 (omega arith))

-- the code's merged doubleword, of the old part p and that power t
pub old_le : (w o v p t : ℕ) → p ≡ part w o v → t ≡ 2 ^ above w o → p * t ≤ v
unfolding part
old_le w o v p t e f = rw (e, f) (part_le v (8 * w) (above w o))

pub merged_is : (w o v x p t : ℕ) → p ≡ part w o v → t ≡ 2 ^ above w o → v - p * t + x * t ≡ merged w o v x
unfolding merged
merged_is w o v x p t e f = rw (e, f)

pub merged_fits : (w o v x p t : ℕ) → p ≡ part w o v → t ≡ 2 ^ above w o → w + o ≤ 8 → v < 2 ^ 64 → x < 2 ^ (8 * w) → v - p * t + x * t < 2 ^ 64
unfolding part
merged_fits w o v x p t e f h q r = rw (e, f) (put_fits v x (8 * w) (above w o) (omega arith) q r)

pub new_fits : (w o v x p t : ℕ) → p ≡ part w o v → t ≡ 2 ^ above w o → w + o ≤ 8 → v < 2 ^ 64 → x < 2 ^ (8 * w) → x * t < 2 ^ 64
new_fits w o v x p t e f h q r = omega (arith, merged_fits w o v x p t e f h q r)

-- what the proofs of a part and of a merged doubleword use
pub ruleset parts = (whole, part_is)

pub ruleset merges = (power, old_le, merged_is, merged_fits, new_fits)
