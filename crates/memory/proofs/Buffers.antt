-- What the calls of a flat memory leave. Assumes nothing.
use Rattle.std.proofs.Common.{◌≡◌, ℕ, zero, suc, ◌+◌, ◌*◌, ◌%◌, ◌<◌, ◌≤◌, true, eqb, ltb, List, [], ◌∷◌, map, length, get_or, take, drop, set, sym, refl, ap, ◌∙◌, inl, inr, mod-eq_of_lt, arith, length-set, length-take, drop-set-lt}
use lib.Seq.{take-set-lt}
use Rattle.std.proofs.lemmas.List.{map-set, get_or-map, get_or-take, get_or-set_same, get_or-set_other}
use Rattle.std.proofs.lemmas.Bool.{cond-true, and_parts, eqb-true, ltb-true, cases_eq}
use Rattle.memory.specs.declared.protected.Mark.{Mark}
use Rattle.memory.specs.declared.protected.Mark.TheVariants.{Ordinary, Secure}
use Rattle.memory.specs.Bytes.{Octets, number_at, octets, over}
use Rattle.memory.specs.Protected.{size_of, frames_of, lies_below, holds, has_frame, written, marked, number_of}
use Rattle.memory.specs.Flat.{covered, flat, as_octets, mark_of, Keeps, flat_frames, flat_size}
use Rattle.memory.proofs.Lists.{length_over, take_over, drop_over, length_octets, octets_octets, number_take}

-- a doubleword lies at a multiple of 8
pub lies_even : (addr size : ℕ) → lies_below addr size ≡ true → addr % 8 ≡ 0
lies_even addr size h = eqb-true (addr % 8) 0 (and_parts (eqb (addr % 8) 0) (ltb addr size) h).0

-- a doubleword that lies below a size that is a multiple of 8 ends there too
pub lies_within : (addr size : ℕ) → size % 8 ≡ 0 → lies_below addr size ≡ true → addr + 8 ≤ size
lies_within addr size whole h =
    let even = lies_even addr size h in
    let below : addr < size = ltb-true addr size (and_parts (eqb (addr % 8) 0) (ltb addr size) h).1 in
    omega arith

-- what bytes are as octets
pub same_octets : (bs : List ℕ) → Octets bs → as_octets bs ≡ bs
same_octets [] o = refl
same_octets (b ∷ bs) o =
    let first : b % 256 ≡ b = mod-eq_of_lt (o 0) in
    let rest = same_octets bs (λ i. o (suc i)) in
    λ i. first i ∷ rest i

-- and of bytes laid over others
map_over : (bs : List ℕ) (at : ℕ) (vs : List ℕ) → as_octets (over bs at vs) ≡ over (as_octets bs) at (as_octets vs)
unfolding over
map_over [] at vs = refl
map_over (b ∷ bs) at [] = refl
map_over (b ∷ bs) zero (v ∷ vs) = ap (λ xs. v % 256 ∷ xs) (map_over bs zero vs)
map_over (b ∷ bs) (suc at) (v ∷ vs) = ap (λ xs. b % 256 ∷ xs) (map_over bs at (v ∷ vs))

as_octets_over : (bs : List ℕ) (at v : ℕ) → as_octets (over bs at (octets 8 v)) ≡ over (as_octets bs) at (octets 8 v)
as_octets_over bs at v = map_over bs at (octets 8 v) ∙ ap (over (as_octets bs) at) (same_octets (octets 8 v) (octets_octets 8 v))

-- at a doubleword of a flat memory
module _ (bs ms : List ℕ) (addr : ℕ) (h : holds (flat bs ms) addr ≡ true) where
  pub room : addr + 8 ≤ size_of (flat bs ms)
  room = lies_within addr (size_of (flat bs ms)) (let s = flat_size bs ms in omega arith) h

  pub bytes_inside : addr + 8 ≤ length bs
  bytes_inside = let r = room in let s = flat_size bs ms in omega arith

  pub flat_number : Octets bs → number_at 8 (flat bs ms).bytes addr ≡ number_at 8 bs addr
  flat_number o =
      number_take 8 (covered (length bs) (length ms) * 4096) (as_octets bs) addr (let s = flat_size bs ms in let r = room in omega arith)
      ∙ ap (λ xs. number_at 8 xs addr) (same_octets bs o)

  module _ (v : ℕ) (cs : List ℕ) (e : cs ≡ over bs addr (octets 8 v)) where
    long : length cs ≡ length bs
    long = ap length e ∙ length_over bs addr (octets 8 v)

    same : covered (length cs) (length ms) ≡ covered (length bs) (length ms)
    same = ap (λ n. covered n (length ms)) long

    pub flat_written : flat cs ms ≡ written (flat bs ms) addr v
    flat_written =
        let bytes : (flat cs ms).bytes ≡ (written (flat bs ms) addr v).bytes =
        ap (λ n. take (n * 4096) (as_octets cs)) same
        ∙ ap (take (covered (length bs) (length ms) * 4096)) (ap as_octets e ∙ as_octets_over bs addr v)
        ∙ take_over (covered (length bs) (length ms) * 4096) (as_octets bs) addr (octets 8 v) ∙ sym (cond-true _ _ _ h) in
        let marks : (flat cs ms).marks ≡ (flat bs ms).marks = ap (λ n. map mark_of (take n ms)) same in
        λ i. record { bytes = bytes i; marks = marks i }

    pub written_keeps : Keeps bs ms cs ms
    written_keeps =
        let fits : addr + length (octets 8 v) ≤ size_of (flat bs ms) = omega (arith, length_octets 8 v, room) in
        record {
          bytes_length = long;
          marks_length = refl;
          bytes_past = ap (drop (size_of (flat bs ms))) e ∙ drop_over (size_of (flat bs ms)) bs addr (octets 8 v) fits;
          marks_past = refl;
          mark_bytes = λ f above. refl;
        }

-- the mark that a mark's number means
number_mark : (k : Mark) → mark_of (number_of k) ≡ k
number_mark Ordinary = refl
number_mark Secure = refl

number_small : (k : Mark) → number_of k ≤ 1
number_small Ordinary = omega arith
number_small Secure = omega arith

-- at a frame of a flat memory
module _ (bs ms : List ℕ) (frame : ℕ) (h : has_frame (flat bs ms) frame ≡ true) where
  frame_below : frame < covered (length bs) (length ms)
  frame_below = let l = ltb-true frame (frames_of (flat bs ms)) h in let n = flat_frames bs ms in omega arith

  pub frame_inside : frame < length ms
  frame_inside = let l = frame_below in omega arith

  pub flat_mark : get_or (flat bs ms).marks frame Ordinary ≡ mark_of (get_or ms frame 0)
  flat_mark =
      let n = covered (length bs) (length ms) in
      let l = frame_below in
      get_or-map mark_of (take n ms) frame 0 Ordinary (simp length-take (omega arith)) ∙ ap mark_of (get_or-take n ms frame 0 l)

  module _ (k : Mark) (ns : List ℕ) (e : ns ≡ set ms frame (number_of k)) where
    wide : length ns ≡ length ms
    wide = ap length e ∙ length-set ms frame (number_of k)

    pub flat_marked : flat bs ns ≡ marked (flat bs ms) frame k
    flat_marked =
        let n = covered (length bs) (length ms) in
        let count : covered (length bs) (length ns) ≡ n = ap (covered (length bs)) wide in
        let marks : (flat bs ns).marks ≡ (marked (flat bs ms) frame k).marks =
        ap (λ c. map mark_of (take c ns)) count ∙ ap (λ xs. map mark_of (take n xs)) e
        ∙ ap (map mark_of) (take-set-lt n ms frame (number_of k) frame_below) ∙ map-set mark_of (take n ms) frame (number_of k)
        ∙ ap (set (flat bs ms).marks frame) (number_mark k) ∙ sym (cond-true _ _ _ h) in
        let bytes : (flat bs ns).bytes ≡ (flat bs ms).bytes = ap (λ c. take (c * 4096) (as_octets bs)) count in
        λ i. record { bytes = bytes i; marks = marks i }

    pub marked_keeps : Keeps bs ms bs ns
    marked_keeps =
        record {
          bytes_length = refl;
          marks_length = wide;
          bytes_past = refl;
          marks_past = ap (drop (frames_of (flat bs ms))) e ∙ drop-set-lt (frames_of (flat bs ms)) ms frame (number_of k) (ltb-true frame (frames_of (flat bs ms)) h);
          mark_bytes = λ f above.
              elim (cases_eq f frame) [
                | inl at ↦
                    let there : get_or ns f 0 ≡ number_of k = ap (λ xs. get_or xs f 0) e ∙ ap (λ j. get_or (set ms frame (number_of k)) j 0) at ∙ get_or-set_same ms frame (number_of k) 0 frame_inside in
                    absurd (omega (arith, number_small k))
                | inr ne ↦ ap (λ xs. get_or xs f 0) e ∙ get_or-set_other ms frame f (number_of k) 0 ne
              ];
        }
