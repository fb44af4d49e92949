use Rattle.memory.proofs.paired.PairedProtectedMemory.set_mark.Goals as goal

pub returns-in-Some-clause-keeps : goal.returns-in-Some-clause-keeps
returns-in-Some-clause-keeps g c = (g.A.ProtectedMemory.keeping.same _, c.set_mark.ensures.keeps, c.in-Some.ensures.leaves _ _ c.set_mark.ensures.after)

pub returns-in-None-clause-keeps : goal.returns-in-None-clause-keeps
returns-in-None-clause-keeps g c = (c.set_mark-in-None.ensures.keeps, g.B.ProtectedMemory.keeping.same _, c.in-None.ensures.leaves _ _ c.set_mark-in-None.ensures.after)
