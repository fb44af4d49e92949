-- What an access of an ordinary thread tells and changes, with the secure memory facility on. Assumes nothing.
use Rattle.std.specs.Prelude.{◌≡◌, ℕ, true}
use Rattle.memory.specs.Protected.{Meaning}
use Rattle.translation.specs.declared.fault.Setting.{Setting}
use Rattle.translation.specs.declared.registers.Registers.{Registers}
use Rattle.translation.specs.declared.registers.Context.{Context}
use Rattle.translation.specs.declared.datum.Ask.{Ask}
use Rattle.translation.specs.Route.{effective, route_of, lpid_of, setting_of, confined}
use Rattle.translation.specs.Access.{kind_of, accessed}
use Rattle.translation.specs.Alike.{Alike, SameOutcome, Kept}

-- what stays the same over an access
abbrev pub setting_for : Registers → Context → Ask → ℕ → Setting
setting_for r c ask address =
    let ea = effective c address in
    setting_of r c (kind_of ask) ea (lpid_of (route_of r c (kind_of ask) ea))

-- over any memory that is alike in marks, ordinary bytes and partition table bytes, the access answers the same, and
-- leaves memories that are alike again
abbrev pub TellsNothing : Registers → Context → Meaning → Ask → ℕ → ℕ → Type 0
TellsNothing r c m ask w address =
    (n : Meaning) → Alike (setting_for r c ask address) m n
    → SameOutcome (setting_for r c ask address) (accessed r c m ask w address) (accessed r c n ask w address)

-- and it changes no mark and no byte of a secure frame
abbrev pub ChangesNothing : Registers → Context → Meaning → Ask → ℕ → ℕ → Type 0
ChangesNothing r c m ask w address = Kept m (accessed r c m ask w address).1.memory

abbrev pub Isolated : Registers → Context → Meaning → Ask → ℕ → ℕ → Type 0
Isolated r c m ask w address = confined r c ≡ true → TellsNothing r c m ask w address × ChangesNothing r c m ask w address
