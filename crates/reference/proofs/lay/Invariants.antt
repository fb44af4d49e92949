use Rattle.std.proofs.Common.{◌≡◌, drop}
use Rattle.reference.specs.Laid.{laid}
use Rattle.reference.proofs.lay.Given as goal

-- what is left to write gives, from the memory as it is, what the whole gives from the first
abbrev pub invariant-loop-addr : goal.invariant-loop-addr
invariant-loop-addr g l =
    let M = g.M.ProtectedMemory in
    (laid l.words (M.meaning l.initial.memory) ≡ laid (drop l.addr-index l.words) (M.meaning l.memory)) × M.keeps l.initial.memory l.memory
