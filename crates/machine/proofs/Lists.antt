-- A list of calls, one call at a time. Assumes nothing.
use Rattle.std.proofs.Common.{◌≡◌, ℕ, ◌+◌, ◌<◌, ◌≤◌, List, [], ◌∷◌, ◌++◌, length, get_or, drop, append_assoc, add-one, drop-cons}
use Rattle.std.proofs.lemmas.List.{drop_all}
use Rattle.machine.specs.declared.calls.Call.{Call}
use Rattle.machine.specs.declared.calls.Answer.{Answer}
use Rattle.machine.specs.State.{State}
use Rattle.machine.specs.Calls.{step}
use Rattle.machine.specs.Runs.{runs}

-- one call more: what was answered, and then the run of what is left, is as it was
pub run_more : (s u : State) (cs : List Call) (i : ℕ) (c : Call) (a : Answer) (vs ws : List Answer)
    → i < length cs → a ≡ (step s (get_or cs i c)).0 → u ≡ (step s (get_or cs i c)).1 → ws ≡ vs ++ a ∷ []
    → (ws ++ (runs u (drop (i + 1) cs)).0 ≡ vs ++ (runs s (drop i cs)).0) × ((runs u (drop (i + 1) cs)).1 ≡ (runs s (drop i cs)).1)
unfolding runs
run_more s u cs i c a vs ws h p q e = (rw (e, p, q, add-one, drop-cons cs i c, append_assoc), rw (q, add-one, drop-cons cs i c))

-- no call is left
pub run_done : (s : State) (cs : List Call) (i : ℕ) → length cs ≤ i → runs s (drop i cs) ≡ ([], s)
unfolding runs
run_done s cs i h = rw drop_all
