-- A call on two memories end to end is a call on one of them. Assumes nothing.
use Rattle.std.proofs.Common.{◌≡◌, ℕ, ◌+◌, ◌-◌, ◌%◌, ◌<◌, ◌≤◌, min, Bool, true, false, cond, ◌&&◌, eqb, ltb, leb, ◌⊎◌, List, ◌++◌, get_or, take, drop, set, Some, None, Ok, Option, sym, refl, ap, ◌∙◌, subst, inl, inr, arith, length-append, length-take, drop-set-lt, MatchOption}
use lib.Seq.{take-set-lt}
use Rattle.std.proofs.lemmas.List.{get_or-take, get_or_append_left, get_or-append_right, set-append_left, set-append_right}
use Rattle.std.proofs.lemmas.Bool.{cond_both, lt-ltb, le-ltb, ltb-true, ltb-false, leb-true, leb-false, cases_lt}
use Rattle.memory.specs.declared.protected.Mark.{Mark}
use Rattle.memory.specs.declared.protected.Mark.TheVariants.{Ordinary}
use Rattle.memory.specs.Bytes.{number_at, octets, over}
use Rattle.memory.specs.Protected.{Meaning, size_of, frames_of, holds, read_at, written, has_frame, mark_at, marked}
use Rattle.memory.specs.Soundness.{Sound}
use Rattle.memory.specs.Paired.{joined, beyond, in_second, Passes, Goes}
use Rattle.memory.proofs.Lists.{take_over, drop_over, over_left, over_right, number_take, number_left, number_right, length_octets}
use Rattle.memory.proofs.Buffers.{lies_even, lies_within}
use Rattle.memory.proofs.Laws.{cond_through}

-- tests of places that lie on the same side of their ends
same_test : (a b m n : ℕ) → ((a < m) × (b < n)) ⊎ ((m ≤ a) × (n ≤ b)) → ltb a m ≡ ltb b n
same_test a b m n (inl h) = lt-ltb a m h.0 ∙ sym (lt-ltb b n h.1)
same_test a b m n (inr h) = le-ltb a m h.0 ∙ sym (le-ltb b n h.1)

-- a part of a whole, whose bytes and marks F and G give for each bytes and marks of the part
module _ (F : List ℕ → List ℕ) (G : List Mark → List Mark) (m : Meaning) where
  abbrev whole : Meaning → Meaning
  whole k = record { bytes = take 1099511627776 (F k.bytes); marks = take 268435456 (G k.marks) }

  abbrev cut : Meaning → Meaning
  cut k = record { bytes = drop 1099511627776 (F k.bytes); marks = drop 268435456 (G k.marks) }

  byte_passes : (at up : ℕ) → holds (whole m) at ≡ holds m up
      → (holds m up ≡ true → (at + 8 ≤ 1099511627776) × (number_at 8 (F m.bytes) at ≡ number_at 8 m.bytes up) × ((v : ℕ) → over (F m.bytes) at (octets 8 v) ≡ F (over m.bytes up (octets 8 v))))
      → Passes holds read_at written whole cut m at up
  byte_passes at up there h =
      record {
        there = there;
        answer = cond_through (λ r. r) _ _ _ _ _ there (λ l. ap Ok (number_take 8 _ (F m.bytes) at (h l).0 ∙ (h l).1));
        after = λ v k e. ap whole e ∙ sym (λ i. record { bytes = stored v i; marks = (whole m).marks });
        leaves = λ v k e. ap cut e ∙ (λ i. record { bytes = past v i; marks = (cut m).marks });
      }
    where
      stored : (v : ℕ) → (written (whole m) at v).bytes ≡ (whole (written m up v)).bytes
      stored v = cond_through (λ bs. take 1099511627776 (F bs)) _ _ _ _ _ there (λ l. sym (take_over 1099511627776 (F m.bytes) at (octets 8 v)) ∙ ap (take 1099511627776) ((h l).2 v))

      past : (v : ℕ) → (cut (written m up v)).bytes ≡ (cut m).bytes
      past v =
          cond_both (holds m up) _ _ (λ bs. drop 1099511627776 (F bs) ≡ (cut m).bytes)
          (λ l. ap (drop 1099511627776) (sym ((h l).2 v)) ∙ drop_over 1099511627776 (F m.bytes) at (octets 8 v) (omega (arith, length_octets 8 v, (h l).0))) (λ l. refl)

  frame_passes : (at up : ℕ) → has_frame (whole m) at ≡ has_frame m up
      → (has_frame m up ≡ true → (at < 268435456) × (get_or (G m.marks) at Ordinary ≡ get_or m.marks up Ordinary) × ((t : Mark) → set (G m.marks) at t ≡ G (set m.marks up t)))
      → Passes has_frame mark_at marked whole cut m at up
  frame_passes at up there h =
      record {
        there = there;
        answer = cond_through (λ r. r) _ _ _ _ _ there (λ l. ap Ok (get_or-take _ (G m.marks) at Ordinary (h l).0 ∙ (h l).1));
        after = λ t k e. ap whole e ∙ sym (λ i. record { bytes = (whole m).bytes; marks = changed t i });
        leaves = λ t k e. ap cut e ∙ (λ i. record { bytes = (cut m).bytes; marks = past t i });
      }
    where
      changed : (t : Mark) → (marked (whole m) at t).marks ≡ (whole (marked m up t)).marks
      changed t = cond_through (λ ms. take 268435456 (G ms)) _ _ _ _ _ there (λ l. sym (take-set-lt _ (G m.marks) at t (h l).0) ∙ ap (take 268435456) ((h l).2 t))

      past : (t : Mark) → (cut (marked m up t)).marks ≡ (cut m).marks
      past t =
          cond_both (has_frame m up) _ _ (λ ms. drop 268435456 (G ms) ≡ (cut m).marks)
          (λ l. ap (drop 268435456) (sym ((h l).2 t)) ∙ drop-set-lt _ (G m.marks) at t (h l).0) (λ l. refl)

-- a place lies in the second part, or in the first or past the cut
cases_place : (at seam most : ℕ) (r : Option ℕ) (P : Type 0) (Q : ℕ → Type 0) → r ≡ in_second at seam most
    → ((at < seam) ⊎ (most ≤ at) → P) → (seam ≤ at → at < most → Q (at - seam)) → MatchOption r P Q
cases_place at seam most r P Q e f g = subst (λ (o : Option ℕ). MatchOption o P Q) (sym e) (go (leb seam at) (ltb at most) refl refl)
  where
    go : (x y : Bool) → leb seam at ≡ x → ltb at most ≡ y → MatchOption (cond (x && y) (Some (at - seam)) None) P Q
    go true true p q = g (leb-true seam at p) (ltb-true at most q)
    go true false p q = f (inr (ltb-false at most q))
    go false y p q = f (inl (leb-false seam at p))

-- the size of two memories end to end, and the number of frames
pub size_joined : (m n : Meaning) → size_of (joined m n) ≡ min 1099511627776 (size_of m + size_of n)
unfolding joined
size_joined m n = simp (length-take, length-append)

frames_joined : (m n : Meaning) → frames_of (joined m n) ≡ min 268435456 (frames_of m + frames_of n)
unfolding joined
frames_joined m n = simp (length-take, length-append)

module _ (m n : Meaning) (p : Sound m) (q : Sound n) where
  pub byte_goes : (addr : ℕ) (r : Option ℕ) → r ≡ in_second addr (size_of m) 1099511627776 → Goes holds read_at written m n addr r
  unfolding joined beyond
  byte_goes addr r e = cases_place addr (size_of m) 1099511627776 r _ _ e first second
    where
      even : size_of m % 8 ≡ 0
      even = omega (arith, p.framed)

      first : (addr < size_of m) ⊎ (1099511627776 ≤ addr) → Passes holds read_at written (λ k. joined k n) (λ k. beyond k n) m addr addr
      first low =
          let size = size_joined m n in
          let small = p.small in
          byte_passes (λ bs. bs ++ n.bytes) (λ ms. ms ++ n.marks) m addr addr
          (ap (λ t. eqb (addr % 8) 0 && t) (same_test addr addr (size_of (joined m n)) (size_of m) (elim low [ inl l ↦ inl (omega arith, l) | inr u ↦ inr (omega arith, omega arith) ]))) (λ h.
          let room = lies_within addr (size_of m) even h in
          (omega arith, number_left 8 m.bytes n.bytes addr room, λ v. over_left m.bytes n.bytes addr (octets 8 v) (omega (arith, length_octets 8 v))))

      second : size_of m ≤ addr → addr < 1099511627776 → Passes holds read_at written (joined m) (beyond m) n addr (addr - size_of m)
      second high below =
          let size = size_joined m n in
          let up = addr - size_of m in
          let on : size_of m + up ≡ addr = omega arith in
          let alike : addr % 8 ≡ up % 8 = omega (arith, even) in
          byte_passes (λ bs. m.bytes ++ bs) (λ ms. m.marks ++ ms) n addr up
          (ap (λ r. eqb r 0 && ltb addr (size_of (joined m n))) alike ∙ ap (λ t. eqb (up % 8) 0 && t) (same_test addr up (size_of (joined m n)) (size_of n) (elim (cases_lt up (size_of n)) [ inl l ↦ inl (omega arith, l) | inr u ↦ inr (omega arith, u) ]))) (λ h.
          let whole : up % 8 ≡ 0 = lies_even up (size_of n) h in
          (omega arith, ap (number_at 8 (m.bytes ++ n.bytes)) (sym on) ∙ number_right 8 m.bytes n.bytes up, λ v. ap (λ i. over (m.bytes ++ n.bytes) i (octets 8 v)) (sym on) ∙ over_right m.bytes n.bytes up (octets 8 v)))

  pub frame_goes : (f : ℕ) (r : Option ℕ) → r ≡ in_second f (frames_of m) 268435456 → Goes has_frame mark_at marked m n f r
  unfolding joined beyond
  frame_goes f r e = cases_place f (frames_of m) 268435456 r _ _ e first second
    where
      few : frames_of m ≤ 268435456
      few = omega (arith, p.framed, p.small)

      first : (f < frames_of m) ⊎ (268435456 ≤ f) → Passes has_frame mark_at marked (λ k. joined k n) (λ k. beyond k n) m f f
      first low =
          let count = frames_joined m n in
          let most = few in
          frame_passes (λ bs. bs ++ n.bytes) (λ ms. ms ++ n.marks) m f f (same_test f f (frames_of (joined m n)) (frames_of m) (elim low [ inl l ↦ inl (omega arith, l) | inr u ↦ inr (omega arith, omega arith) ])) (λ h.
          let l = ltb-true f (frames_of m) h in
          (omega arith, get_or_append_left m.marks n.marks Ordinary f l, λ t. set-append_left m.marks n.marks f t l))

      second : frames_of m ≤ f → f < 268435456 → Passes has_frame mark_at marked (joined m) (beyond m) n f (f - frames_of m)
      second high below =
          let count = frames_joined m n in
          let up = f - frames_of m in
          frame_passes (λ bs. m.bytes ++ bs) (λ ms. m.marks ++ ms) n f up (same_test f up (frames_of (joined m n)) (frames_of n) (elim (cases_lt up (frames_of n)) [ inl l ↦ inl (omega arith, l) | inr u ↦ inr (omega arith, u) ])) (λ h.
          (below, get_or-append_right m.marks n.marks (frames_of m) f Ordinary refl high, λ t. set-append_right m.marks n.marks (frames_of m) f t refl high))
