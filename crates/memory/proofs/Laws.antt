-- Laws of a memory's meaning, for whoever builds on it. Assumes nothing.
use Rattle.std.proofs.Common.{◌≡◌, ℕ, ◌+◌, ◌*◌, ◌%◌, ◌^◌, ◌<◌, ◌≤◌, Bool, true, false, cond, ◌⊎◌, length, get_or, take, drop, replicate, Ok, Err, sym, refl, ap, ◌∙◌, inl, inr, arith, length-set}
use Rattle.std.proofs.lemmas.List.{drop-drop}
use Rattle.std.proofs.lemmas.Bool.{cond_both, cond-true, cases_lt}
use Rattle.memory.specs.declared.protected.Mark.{Mark}
use Rattle.memory.specs.Bytes.{Octets, spell, octets, number_at}
use Rattle.memory.specs.Protected.{Meaning, size_of, frames_of, declined, lies_below, holds, has_frame, read_at, written, marked, zeroed, stored}
use Rattle.memory.specs.Soundness.{Sound}
use Rattle.memory.specs.Frames.{frame_of, frame_bytes}
use Rattle.memory.proofs.Lists.{length_over, length_octets, number_there, number_elsewhere, over_other, over_both, octets_over, octets_octets, octets_zeros, number_below, number_take}
use Rattle.memory.proofs.Buffers.{lies_even, lies_within}

-- a choice, and a function of a choice by an equal test
pub cond_through : {X Y : Type 0} (f : X → Y) (b c : Bool) (x y : X) (z : Y) → b ≡ c → (c ≡ true → z ≡ f x) → cond b z (f y) ≡ f (cond c x y)
cond_through f b true x y z e h = ap (λ t. cond t z (f y)) e ∙ h refl
cond_through f b false x y z e h = ap (λ t. cond t z (f y)) e

-- ---- lengths
-- a write keeps the size
pub size_written : (m : Meaning) (addr v : ℕ) → size_of (written m addr v) ≡ size_of m
size_written m addr v = cond_both (holds m addr) _ _ (λ bs. length bs ≡ size_of m) (λ h. length_over m.bytes addr (octets 8 v)) (λ h. refl)

-- zeroing keeps the size
pub size_zeroed : (m : Meaning) (frame : ℕ) → size_of (zeroed m frame) ≡ size_of m
size_zeroed m frame = cond_both (has_frame m frame) _ _ (λ bs. length bs ≡ size_of m) (λ h. length_over m.bytes (frame * 4096) (replicate 4096 0)) (λ h. refl)

-- setting a mark keeps the number of frames
pub frames_marked : (m : Meaning) (frame : ℕ) (k : Mark) → frames_of (marked m frame k) ≡ frames_of m
frames_marked m frame k = cond_both (has_frame m frame) _ _ (λ ms. length ms ≡ frames_of m) (λ h. length-set m.marks frame k) (λ h. refl)

-- so doublewords lie where they lay
pub holds_written : (m : Meaning) (addr v at : ℕ) → holds (written m addr v) at ≡ holds m at
holds_written m addr v at = ap (lies_below at) (size_written m addr v)

-- a doubleword ends within the memory
pub holds_room : (m : Meaning) (addr : ℕ) → Sound m → holds m addr ≡ true → addr + 8 ≤ size_of m
holds_room m addr s h = lies_within addr (size_of m) (omega (arith, s.framed)) h

-- ---- reading
-- a doubleword is below 2^64
pub read_below : (m : Meaning) (addr : ℕ) → Sound m → number_at 8 m.bytes addr < 2 ^ 64
read_below m addr s = number_below 8 m.bytes addr s.byte

-- reading back what was written
pub read_back : (m : Meaning) (addr v : ℕ) → Sound m → v < 2 ^ 64 → read_at (written m addr v) addr ≡ cond (holds m addr) (Ok v) (Err declined)
read_back m addr v s small =
    cond_through (λ r. r) _ _ _ _ _ (holds_written m addr v addr) (λ h.
    ap (λ bs. Ok (number_at 8 bs addr)) (cond-true _ _ _ h) ∙ ap Ok (number_there 8 m.bytes addr v (holds_room m addr s h) small))

-- reading elsewhere
pub read_elsewhere : (m : Meaning) (addr v at : ℕ) → (at ≡ addr → ⊥) → read_at (written m addr v) at ≡ read_at m at
read_elsewhere m addr v at ne =
    cond_through (λ r. r) _ _ _ _ _ (holds_written m addr v at) (λ h.
    ap Ok (cond_both (holds m addr) _ _ (λ bs. number_at 8 bs at ≡ number_at 8 m.bytes at) (λ k. number_elsewhere 8 m.bytes addr (octets 8 v) at (apart h k)) (λ k. refl)))
  where
    apart : holds m at ≡ true → holds m addr ≡ true → (at + 8 ≤ addr) ⊎ (addr + length (octets 8 v) ≤ at)
    apart h k =
        let e = lies_even at (size_of m) h in
        let f = lies_even addr (size_of m) k in
        let n = length_octets 8 v in
        elim (cases_lt at addr) [ inl l ↦ inl (omega arith) | inr l ↦ inr (omega arith) ]

-- ---- frames
-- an address in the memory lies in one of its frames
pub frame_within : (m : Meaning) (addr : ℕ) → Sound m → addr < size_of m → frame_of addr < frames_of m
frame_within m addr s l = omega (arith, s.framed)

-- the bytes of a doubleword lie in one frame
pub one_frame : (addr i : ℕ) → addr % 8 ≡ 0 → i < 8 → frame_of (addr + i) ≡ frame_of addr
one_frame addr i even small = omega arith

-- a write leaves each byte of another frame
pub written_other_frame : (m : Meaning) (addr v k : ℕ) → (frame_of k ≡ frame_of addr → ⊥) → get_or (written m addr v).bytes k 0 ≡ get_or m.bytes k 0
written_other_frame m addr v k ne =
    cond_both (holds m addr) _ _ (λ bs. get_or bs k 0 ≡ get_or m.bytes k 0) (λ h. over_other m.bytes addr (octets 8 v) k (away (lies_even addr (size_of m) h))) (λ h. refl)
  where
    away : addr % 8 ≡ 0 → (k < addr) ⊎ (addr + length (octets 8 v) ≤ k)
    away even =
        let n = length_octets 8 v in
        elim (cases_lt k addr) [
          | inl l ↦ inl l
          | inr l ↦ elim (cases_lt k (addr + 8)) [ inl u ↦ absurd (let e : frame_of k ≡ frame_of addr = omega arith in ne e) | inr u ↦ inr (omega arith) ]
        ]

-- the same write to two memories of one size: bytes that agreed before agree after
pub written_alike : (m n : Meaning) (addr v k : ℕ) → size_of m ≡ size_of n → get_or m.bytes k 0 ≡ get_or n.bytes k 0 → get_or (written m addr v).bytes k 0 ≡ get_or (written n addr v).bytes k 0
written_alike m n addr v k e h =
    ap (λ t. get_or (stored t m.bytes addr v) k 0) (ap (lies_below addr) e) ∙ go (holds n addr)
  where
    go : (b : Bool) → get_or (stored b m.bytes addr v) k 0 ≡ get_or (stored b n.bytes addr v) k 0
    go true = over_both m.bytes n.bytes addr (octets 8 v) k e (λ apart. h)
    go false = h

-- a doubleword in the frame that its address lies in
pub number_in_frame : (m : Meaning) (w addr : ℕ) → addr % 4096 + w ≤ 4096 → number_at w m.bytes addr ≡ number_at w (frame_bytes m (frame_of addr)) (addr % 4096)
unfolding frame_bytes number_at
number_in_frame m w addr h =
    let at : frame_of addr * 4096 + addr % 4096 ≡ addr = omega arith in
    sym (number_take w 4096 (drop (frame_of addr * 4096) m.bytes) (addr % 4096) h
    ∙ ap (λ bs. spell 0 (take w bs)) (drop-drop (addr % 4096) (frame_of addr * 4096) m.bytes)
    ∙ ap (number_at w m.bytes) at)

-- ---- soundness lasts
pub sound_written : (m : Meaning) (addr v : ℕ) → Sound m → Sound (written m addr v)
sound_written m addr v s =
    let e = size_written m addr v in
    record { framed = e ∙ s.framed; small = omega (arith, s.small); byte = cond_both (holds m addr) _ _ Octets (λ h. octets_over m.bytes addr (octets 8 v) s.byte (octets_octets 8 v)) (λ h. s.byte) }

pub sound_marked : (m : Meaning) (frame : ℕ) (k : Mark) → Sound m → Sound (marked m frame k)
sound_marked m frame k s = record { framed = s.framed ∙ ap (λ n. n * 4096) (sym (frames_marked m frame k)); small = s.small; byte = s.byte }

pub sound_zeroed : (m : Meaning) (frame : ℕ) → Sound m → Sound (zeroed m frame)
sound_zeroed m frame s =
    let e = size_zeroed m frame in
    record { framed = e ∙ s.framed; small = omega (arith, s.small); byte = cond_both (has_frame m frame) _ _ Octets (λ h. octets_over m.bytes (frame * 4096) (replicate 4096 0) s.byte (octets_zeros 4096)) (λ h. s.byte) }
