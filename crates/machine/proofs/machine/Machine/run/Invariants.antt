use Rattle.std.proofs.Common.{◌≡◌, ◌≤◌, ◌++◌, length, drop, vec_items, vec_len, vec_capacity}
use Rattle.machine.specs.State.{state_of}
use Rattle.machine.specs.Runs.{runs}
use Rattle.machine.proofs.machine.Machine.run.Given as goal

-- what is answered already, and then the run of the calls to come, is the whole run
abbrev pub invariant-loop-call : goal.invariant-loop-call
invariant-loop-call g l =
    let whole = runs (state_of g.M.ProtectedMemory.meaning l.initial.self) l.calls in
    let rest = runs (state_of g.M.ProtectedMemory.meaning l.self) (drop l.call-index l.calls) in
    record {
      tells : vec_items l.answers ++ rest.0 ≡ whole.0;
      leaves : rest.1 ≡ whole.1;
      counted : vec_len l.answers ≡ l.call-index;
      room : length l.calls ≤ vec_capacity l.answers;
      keeps : g.M.ProtectedMemory.keeps l.initial.self.memory l.self.memory;
    }
