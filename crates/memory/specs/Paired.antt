-- What two memories end to end mean. Assumes nothing.
use Rattle.std.specs.Prelude.{◌≡◌, ℕ, ◌-◌, if◌then◌else◌, ◌&&◌, ◌++◌, take, drop, Bool, Some, None, Option, MatchOption, Result, nat_le, nat_lt, refl}
use Rattle.std.proofs.Common.{◌∙◌, arith, length-take, length-append}
use Rattle.memory.specs.Bytes.{octets_take, octets_append}
use Rattle.memory.specs.declared.paired.Paired.{Paired}
use Rattle.memory.specs.declared.protected.Declined.{Declined}
use Rattle.memory.specs.Protected.{Meaning}
use Rattle.memory.specs.Soundness.{Sound, ReflexiveTransitive}

-- the first's bytes and then the second's, cut off at 2^40 bytes, and so their marks
unfoldable pub joined : Meaning → Meaning → Meaning
joined m n = record { bytes = take 1099511627776 (m.bytes ++ n.bytes); marks = take 268435456 (m.marks ++ n.marks) }

-- what is cut off
unfoldable pub beyond : Meaning → Meaning → Meaning
beyond m n = record { bytes = drop 1099511627776 (m.bytes ++ n.bytes); marks = drop 268435456 (m.marks ++ n.marks) }

-- the place in the second part of what lies at `at`, where the second begins at `seam` and the whole ends at `most`
abbrev pub in_second : ℕ → ℕ → ℕ → Option ℕ
in_second at seam most = if nat_le seam at && nat_lt at most then Some (at - seam) else None

pub joined_sound : (m n : Meaning) → Sound m → Sound n → Sound (joined m n)
unfolding joined
joined_sound m n p q =
    record {
      framed = simp (length-take, length-append) (omega arith);
      small = simp (length-take, length-append) (omega arith);
      byte = octets_take 1099511627776 (m.bytes ++ n.bytes) (octets_append m.bytes n.bytes p.byte q.byte);
    }

-- a call at the place `at` of the pair is one at the place `up` of a part, where `whole` is what the pair means for each
-- meaning of the part, and `cut` what is cut off: `test` says whether a place lies in a memory, `asks` is what a question
-- there answers, and `sets` what a change there leaves
pub record Passes {X V : Type 0} (test : Meaning → ℕ → Bool) (asks : Meaning → ℕ → Result X Declined) (sets : Meaning → ℕ → V → Meaning) (whole cut : Meaning → Meaning) (m : Meaning) (at up : ℕ) : Type 0 where
  pub there : test (whole m) at ≡ test m up
  pub answer : asks (whole m) at ≡ asks m up
  pub after : (v : V) (k : Meaning) → k ≡ sets m up v → whole k ≡ sets (whole m) at v
  pub leaves : (v : V) (k : Meaning) → k ≡ sets m up v → cut k ≡ cut m

-- a call at a place of the pair goes to the second where `second` is its place there, and else to the first as it is
abbrev pub Goes : {X V : Type 0} → (Meaning → ℕ → Bool) → (Meaning → ℕ → Result X Declined) → (Meaning → ℕ → V → Meaning) → Meaning → Meaning → ℕ → Option ℕ → Type 0
Goes test asks sets m n at second =
    MatchOption second (Passes test asks sets (λ k. joined k n) (λ k. beyond k n) m at at) (Passes test asks sets (joined m) (beyond m) n at)

-- each part keeps what it keeps, and what is cut off is as it was
abbrev pub BothKeep : {A B : Type 0} → (A → Meaning) → (B → Meaning) → (A → A → Type 0) → (B → B → Type 0) → Paired A B → Paired A B → Type 0
BothKeep f g R S p q = R p.first q.first × S p.second q.second × (beyond (f q.first) (g q.second) ≡ beyond (f p.first) (g p.second))

pub both_keeping : {A B : Type 0} (f : A → Meaning) (g : B → Meaning) {R : A → A → Type 0} {S : B → B → Type 0} → ReflexiveTransitive R → ReflexiveTransitive S → ReflexiveTransitive (BothKeep f g R S)
both_keeping f g r s =
    record {
      same = λ p. (r.same p.first, s.same p.second, refl);
      then = λ o p q d e. (r.then _ _ _ d.0 e.0, s.then _ _ _ d.1 e.1, e.2 ∙ d.2);
    }
