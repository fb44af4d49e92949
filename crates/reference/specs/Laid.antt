-- Doublewords written one after the other. Assumes nothing.
use Rattle.std.specs.Prelude.{ℕ, if◌then◌else◌, List, [], ◌∷◌, Ok, Err, Result}
use Rattle.memory.specs.declared.protected.Declined.{Declined}
use Rattle.memory.specs.Protected.{Meaning, holds, written, declined}

-- what writing doublewords in order answers and leaves: the first that the memory does not hold is declined, and ends it
abbrev pub laid : List (ℕ × ℕ) → Meaning → Result (Unit {0}) Declined × Meaning
laid [] m = (Ok tt, m)
laid (word ∷ rest) m = if holds m word.0 then laid rest (written m word.0 word.1) else (Err declined, m)
