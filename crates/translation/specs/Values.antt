-- What contracts see of a table and of a setting, and what holds of each. Assumes nothing.
use Rattle.std.specs.Prelude.{ℕ, ◌+◌, ◌^◌, ◌<◌, ◌≤◌, Bool}
use Rattle.translation.specs.declared.fault.Kind.{Kind}

-- a table of a tree: its base, the width of its index, and how many bits are still to translate below that
pub record TableValue : Type 0 where
  pub base : ℕ
  pub width : ℕ
  pub left : ℕ

-- a walk can go on from it
pub record IsWalkable (base width left : ℕ) : Type 0 where
  pub below : base < 2 ^ 60
  pub narrow : width ≤ 16
  pub both : left + width ≤ 52

-- what stays the same over one access
pub record SettingValue : Type 0 where
  pub confined : Bool
  pub table : ℕ
  pub entries : ℕ
  pub lpid : ℕ
  pub ea : ℕ
  pub kind : Kind

-- the partition table's place and size, as PTCR names them
pub record IsNamed (table entries : ℕ) : Type 0 where
  pub below : table < 2 ^ 60
  pub few : entries < 2 ^ 40
