-- The numbers of threads. Assumes nothing.
use Rattle.std.specs.Prelude.{◌≡◌, ℕ, ◌≤◌, Result, MatchResult}
use Rattle.machine.specs.declared.refusal.Refusal.{Refusal}
use Rattle.machine.specs.declared.refusal.Refusal.TheVariants.{NoThread}
use Rattle.machine.specs.declared.threads.ThreadNumber.{ThreadNumber}

-- the result is the thread's number, or refusal 3 for a number of 8 or more
abbrev pub Numbers : ℕ → Result ThreadNumber Refusal → Type 0
Numbers t r = MatchResult r (λ n. n.index ≡ t) (λ e. (e ≡ NoThread) × (8 ≤ t))
