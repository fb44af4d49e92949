use Rattle.std.proofs.Common.{◌≡◌, ◌+◌, ◌-◌, ◌*◌, ◌≤◌}
use Rattle.translation.specs.Program.{run}
use Rattle.translation.specs.Access.{walk}
use Rattle.translation.specs.Underway.{state_of, Later}
use Rattle.translation.proofs.walk.walk.Given as goal

-- what is left to walk gives what the whole walk gives
abbrev pub invariant-loop-depth : goal.invariant-loop-depth
invariant-loop-depth g l =
    let M = g.M.ProtectedMemory in
    let T = g.T.Tree in
    record {
      count : l.access.count ≤ l.initial.access.count + T.most * l.depth;
      later : Later M.keeps l.initial.access l.access;
      rest : run l.initial.access.setting (state_of M.meaning l.initial.access) (walk (T.entry l.tree) (T.layer l.tree) (T.purpose l.tree) (T.guest l.tree) l.addr 4 0 l.root)
          ≡ run l.access.setting (state_of M.meaning l.access) (walk (T.entry l.tree) (T.layer l.tree) (T.purpose l.tree) (T.guest l.tree) l.addr (4 - l.depth) l.depth l.table);
    }
