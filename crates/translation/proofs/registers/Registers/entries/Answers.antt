use Rattle.std.proofs.Common.{◌+◌, arith}
use Rattle.std.proofs.lemmas.Nat.{pow_below}
use Rattle.translation.proofs.registers.Registers.entries.Goals as goal

pub returns-clause-small : goal.returns-clause-small
returns-clause-small c =
    let k = pow_below (c.table_size.result + 8) 40 (omega arith) in omega arith
