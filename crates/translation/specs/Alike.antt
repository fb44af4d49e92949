-- What an ordinary thread may see of a memory, and what its accesses leave alone. Assumes nothing.
use Rattle.std.specs.Prelude.{◌≡◌, ℕ, ◌+◌, ◌*◌, ◌<◌, ◌≤◌, true, false, ◌⊎◌, slice_index}
use Rattle.memory.specs.Protected.{Meaning, size_of}
use Rattle.translation.specs.declared.fault.Setting.{Setting}
use Rattle.translation.specs.Program.{State, Outcome, secure_at}

-- an address lies in the partition table
abbrev pub InTable : Setting → ℕ → Type 0
InTable s a = (s.table ≤ a) × (a < s.table + 16 * s.entries)

-- two memories alike for an ordinary thread: the same marks, so the same size, and the same bytes in ordinary frames and in the partition table
pub record Alike (s : Setting) (m n : Meaning) : Type 0 where
  pub marks : m.marks ≡ n.marks
  pub size : size_of m ≡ size_of n
  pub bytes : (a : ℕ) → (secure_at m a ≡ false) ⊎ InTable s a → slice_index m.bytes a ≡ slice_index n.bytes a

-- two states with such memories, and with one count
pub record AlikeState (s : Setting) (x y : State) : Type 0 where
  pub memory : Alike s x.memory y.memory
  pub count : x.count ≡ y.count

-- one answer, and such states
pub record SameOutcome {A : Type 0} (s : Setting) (o p : Outcome A) : Type 0 where
  pub answer : o.0 ≡ p.0
  pub state : AlikeState s o.1 p.1

-- what an ordinary thread's access leaves alone: every mark, the size, and every byte of a secure frame
pub record Kept (m n : Meaning) : Type 0 where
  pub marks : n.marks ≡ m.marks
  pub size : size_of n ≡ size_of m
  pub bytes : (a : ℕ) → secure_at m a ≡ true → slice_index n.bytes a ≡ slice_index m.bytes a
