-- What can be asked of a datum. Assumes nothing.
use Rattle.std.specs.Prelude.{ℕ}
use Rattle.translation.specs.declared.datum.Ask.{Ask}
use Rattle.translation.specs.declared.datum.Ask.TheVariants.{ToLoad, ToFetch, ToStore}

-- the value that a store brings, 0 for a load or a fetch
abbrev pub stored_value : Ask → ℕ
stored_value ToLoad = 0
stored_value ToFetch = 0
stored_value (ToStore x) = x
