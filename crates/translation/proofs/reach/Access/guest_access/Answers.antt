use Rattle.std.proofs.Common.{rules}
use Rattle.translation.specs.Access.{guest_access}
use Rattle.translation.proofs.Performing.{steps}
use Rattle.translation.proofs.reach.Access.guest_access.Goals as goal

pub returns-clause-performs : goal.returns-clause-performs
unfolding guest_access
returns-clause-performs g c = let k = g.M.ProtectedMemory.keeping in rw (← c.kind-kind.ensures) (search (rules, steps))
