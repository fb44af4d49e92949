use Rattle.std.proofs.Common.{rules}
use Rattle.memory.proofs.Lists.{number_eight}
use Rattle.memory.proofs.flat.doubleword.Goals as goal

pub returns-clause-value : goal.returns-clause-value
returns-clause-value c = number_eight _ _ _ _ (search rules) (rw c.unwrap.ensures at c.first_chunk.ensures.cases) c.from_be_bytes.ensures c.from_be_bytes.type_inv
