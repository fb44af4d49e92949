use Rattle.std.proofs.Common.{rules}
use Rattle.translation.specs.Access.{process_access}
use Rattle.translation.proofs.Performing.{steps}
use Rattle.translation.proofs.reach.Access.process_access.Goals as goal

pub returns-in_err-leaf-clause-performs : goal.returns-in_err-leaf-clause-performs
unfolding process_access
returns-in_err-leaf-clause-performs g c = let k = g.M.ProtectedMemory.keeping in rw (← c.kind-kind.ensures) (search (rules, steps))

pub returns-in_err-reached-clause-performs : goal.returns-in_err-reached-clause-performs
unfolding process_access
returns-in_err-reached-clause-performs g c = let k = g.M.ProtectedMemory.keeping in rw (← c.kind-kind.ensures) (search (rules, steps))

pub returns-in_err-settle_process-clause-performs : goal.returns-in_err-settle_process-clause-performs
unfolding process_access
returns-in_err-settle_process-clause-performs g c = let k = g.M.ProtectedMemory.keeping in rw (← c.kind-kind.ensures) (search (rules, steps))

pub returns-clause-performs : goal.returns-clause-performs
unfolding process_access
returns-clause-performs g c = let k = g.M.ProtectedMemory.keeping in rw (← c.kind-kind.ensures) (search (rules, steps))
