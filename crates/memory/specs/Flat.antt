-- What the flat memory means over its two buffers. Assumes nothing.
use Rattle.std.specs.Prelude.{◌≡◌, ℕ, zero, suc, ◌*◌, ◌/◌, ◌%◌, ◌<◌, ◌≤◌, min, Bool, if◌then◌else◌, List, [], ◌∷◌, map, length, take, drop, ◌==◌, slice_index, slice_set, refl}
use Rattle.std.proofs.Common.{sym, ap, ◌∙◌, arith, mod-lt, lit<, length-take}
use Rattle.std.proofs.lemmas.List.{length-map}
use Rattle.memory.specs.Bytes.{Octets, octets_take}
use Rattle.memory.specs.Soundness.{Sound, ReflexiveTransitive}
use Rattle.memory.specs.declared.flat.Flat.{Flat}
use Rattle.memory.specs.declared.protected.Mark.{Mark}
use Rattle.memory.specs.declared.protected.Mark.TheVariants.{Ordinary, Secure}
use Rattle.memory.specs.Protected.{Meaning, size_of, frames_of, number_of}

-- the frames that a byte buffer and a mark buffer of these lengths both cover, at most 2^28
abbrev pub covered : ℕ → ℕ → ℕ
covered bytes marks = min (min (bytes / 4096) marks) 268435456

-- a mark byte that is not 0 says secure
abbrev pub mark_of : ℕ → Mark
mark_of b = if b == 0 then Ordinary else Secure

-- a buffer's elements are bytes, which this says of any list of numbers
abbrev pub as_octets : List ℕ → List ℕ
as_octets bs = map (λ b. b % 256) bs

-- its bytes and marks are those of the frames that both buffers cover
abbrev pub flat : List ℕ → List ℕ → Meaning
flat bs ms =
    let n = covered (length bs) (length ms) in
    record { bytes = take (n * 4096) (as_octets bs); marks = map mark_of (take n ms) }

-- what a flat memory means: what its two buffers do
abbrev pub flat_of : Flat → Meaning
flat_of m = flat m.bytes.now m.marks.now

-- a mark buffer with a mark's number stored at a frame, where it may be
abbrev pub restored : Bool → List ℕ → ℕ → Mark → List ℕ
restored may ms frame k = if may then slice_set ms frame (number_of k) else ms

-- `n` frames are what a flat memory has, and both buffers cover them
pub record Counted (n : ℕ) (m : Flat) : Type 0 where
  pub frames : n ≡ frames_of (flat_of m)
  pub size : n * 4096 ≡ size_of (flat_of m)
  pub in_bytes : n * 4096 ≤ length m.bytes.now
  pub in_marks : n ≤ length m.marks.now

-- what no call on a flat memory changes: the buffers' lengths, the bytes past its size, the mark bytes past its frames;
-- and a mark byte above 1 is one that stood there before
pub record Keeps (bs ms cs ns : List ℕ) : Type 0 where
  pub bytes_length : length cs ≡ length bs
  pub marks_length : length ns ≡ length ms
  pub bytes_past : drop (size_of (flat bs ms)) cs ≡ drop (size_of (flat bs ms)) bs
  pub marks_past : drop (frames_of (flat bs ms)) ns ≡ drop (frames_of (flat bs ms)) ms
  pub mark_bytes : (f : ℕ) → 1 < slice_index ns f → slice_index ns f ≡ slice_index ms f

-- the second is over the buffers of the first, and what lies outside the memory is as it was
abbrev pub Stays : Flat → Flat → Type 0
Stays m n = (n.bytes.ghost_name ≡ m.bytes.ghost_name) × (n.marks.ghost_name ≡ m.marks.ghost_name) × Keeps m.bytes.now m.marks.now n.bytes.now n.marks.now

pub flat_frames : (bs ms : List ℕ) → frames_of (flat bs ms) ≡ covered (length bs) (length ms)
flat_frames bs ms = simp (length-take, length-map) (omega arith)

pub flat_size : (bs ms : List ℕ) → size_of (flat bs ms) ≡ covered (length bs) (length ms) * 4096
flat_size bs ms = simp (length-take, length-map) (omega arith)

pub keeps_itself : (bs ms : List ℕ) → Keeps bs ms bs ms
keeps_itself bs ms = record { bytes_length = refl; marks_length = refl; bytes_past = refl; marks_past = refl; mark_bytes = λ f above. refl }

pub keeps_on : (bs ms cs ns ds os : List ℕ) → Keeps bs ms cs ns → Keeps cs ns ds os → Keeps bs ms ds os
keeps_on bs ms cs ns ds os p q =
    let same : covered (length cs) (length ns) ≡ covered (length bs) (length ms) = λ i. covered (p.bytes_length i) (p.marks_length i) in
    let size : size_of (flat cs ns) ≡ size_of (flat bs ms) = flat_size cs ns ∙ ap (λ n. n * 4096) same ∙ sym (flat_size bs ms) in
    let count : frames_of (flat cs ns) ≡ frames_of (flat bs ms) = flat_frames cs ns ∙ same ∙ sym (flat_frames bs ms) in
    record {
      bytes_length = q.bytes_length ∙ p.bytes_length;
      marks_length = q.marks_length ∙ p.marks_length;
      bytes_past = ap (λ n. drop n ds) (sym size) ∙ q.bytes_past ∙ ap (λ n. drop n cs) size ∙ p.bytes_past;
      marks_past = ap (λ n. drop n os) (sym count) ∙ q.marks_past ∙ ap (λ n. drop n ns) count ∙ p.marks_past;
      mark_bytes = λ f above. let e = q.mark_bytes f above in e ∙ p.mark_bytes f (omega arith);
    }

pub stays : ReflexiveTransitive Stays
stays =
    record {
      same = λ m. (refl, refl, keeps_itself m.bytes.now m.marks.now);
      then = λ l m n p q. (q.0 ∙ p.0, q.1 ∙ p.1, keeps_on _ _ _ _ _ _ p.2 q.2);
    }

as_octets_below : (bs : List ℕ) → Octets (as_octets bs)
as_octets_below [] i = lit< tt
as_octets_below (b ∷ bs) zero = mod-lt b (lit< tt)
as_octets_below (b ∷ bs) (suc i) = as_octets_below bs i

pub flat_sound : (bs ms : List ℕ) → Sound (flat bs ms)
flat_sound bs ms =
    let n = flat_frames bs ms in
    let s = flat_size bs ms in
    record { framed = omega arith; small = omega arith; byte = octets_take _ (as_octets bs) (as_octets_below bs) }
