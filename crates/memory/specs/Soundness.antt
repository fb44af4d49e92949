-- What every protected memory shows of its meaning. Assumes nothing.
use Rattle.std.specs.Prelude.{◌≡◌, ◌*◌, ◌≤◌, length}
use Rattle.memory.specs.Bytes.{Octets}
use Rattle.memory.specs.Protected.{Meaning}

-- the bytes are whole frames, one mark each, at most 2^40 of them, and each is below 256
pub record Sound (m : Meaning) : Type 0 where
  pub framed : length m.bytes ≡ length m.marks * 4096
  pub small : length m.bytes ≤ 1099511627776
  pub byte : Octets m.bytes

-- a relation that holds from each value to itself, and from the first to the third where it holds step by step
pub record ReflexiveTransitive {M : Type 0} (R : M → M → Type 0) : Type 0 where
  pub same : (m : M) → R m m
  pub then : (l m n : M) → R l m → R m n → R l n
