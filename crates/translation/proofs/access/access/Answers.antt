use Rattle.std.proofs.Common.{sym, subst, ap}
use Rattle.translation.specs.Program.{State}
use Rattle.translation.specs.Access.{FewRead}
use Rattle.translation.proofs.Accesses.{access_isolated}
use Rattle.translation.proofs.Counts.{few_read}
use Rattle.translation.proofs.access.access.Goals as goal

pub returns-clause-few : goal.returns-clause-few
returns-clause-few g c =
    let performs = c.access_by.ensures.performs in
    subst FewRead (sym performs.answer) (few_read _ _ _ _ _ _ _ _ (rw (← ap (λ (s : State). s.count) performs.after) c.access_by.ensures.few))

pub returns-clause-isolated : goal.returns-clause-isolated
returns-clause-isolated g c = access_isolated _ _ _ _ _ _
