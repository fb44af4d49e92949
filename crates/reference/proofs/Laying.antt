-- One turn of the loop that writes doublewords.
use Rattle.std.proofs.Common.{◌≡◌, ℕ, ◌+◌, ◌<◌, if◌then◌else◌, List, Err, length, drop, slice_index_or}
use Rattle.std.proofs.lemmas.List.{at_drop_more}
use Rattle.memory.specs.Protected.{Meaning, holds, written, declined}
use Rattle.reference.specs.Laid.{laid}

-- a word that the memory holds is written, and the rest follows; one that it does not hold ends it
pub turn : (ws : List (ℕ × ℕ)) (i : ℕ) (m : Meaning) → i < length ws → laid (drop i ws) m ≡ (if holds m (slice_index_or ws i (0, 0)).0 then laid (drop (i + 1) ws) (written m (slice_index_or ws i (0, 0)).0 (slice_index_or ws i (0, 0)).1) else (Err declined, m))
turn ws i m h = at_drop_more (λ rest. laid rest m) ws i (0, 0) h
