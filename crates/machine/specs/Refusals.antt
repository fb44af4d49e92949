-- Why a call is declined. Assumes nothing.
use Rattle.std.specs.Prelude.{ℕ, List, codes}
use Rattle.translation.specs.declared.widths.Unaskable.{Unaskable}
use Rattle.translation.specs.declared.widths.Unaskable.TheVariants as unaskable
use Rattle.translation.specs.Fault.{fault_text}
use Rattle.machine.specs.declared.refusal.Refusal.{Refusal}
use Rattle.machine.specs.declared.refusal.Refusal.TheVariants.{PartitionTable, RealOffset, NoThread, BadContext, OddWidth, Misaligned, TooWide, NotUltravisor, NoFrame}
use Rattle.machine.specs.declared.refusal.Stop.{Stop}
use Rattle.machine.specs.declared.refusal.Stop.TheVariants.{Declined, Faulted}

-- a refusal's number; a call answers the first that holds
abbrev pub refusal_number : Refusal → ℕ
refusal_number PartitionTable = 1
refusal_number RealOffset = 2
refusal_number NoThread = 3
refusal_number BadContext = 4
refusal_number OddWidth = 5
refusal_number Misaligned = 6
refusal_number TooWide = 7
refusal_number NotUltravisor = 8
refusal_number NoFrame = 9

-- a refusal's text
abbrev pub refusal_text : Refusal → List ℕ
refusal_text PartitionTable = codes "declined (1): PTCR names no partition table"
refusal_text RealOffset = codes "declined (2): the offset is no multiple of 4096 below 2^57"
refusal_text NoThread = codes "declined (3): there is no such thread"
refusal_text BadContext = codes "declined (4): no thread may have this context"
refusal_text OddWidth = codes "declined (5): the width is not 1, 2, 4 or 8"
refusal_text Misaligned = codes "declined (6): the address is no multiple of the width"
refusal_text TooWide = codes "declined (7): the value does not fit the width"
refusal_text NotUltravisor = codes "declined (8): only an ultravisor may mark frames"
refusal_text NoFrame = codes "declined (9): the frame lies beyond the memory"

-- what cannot be asked of an access is declined
abbrev pub refusal_of : Unaskable → Refusal
refusal_of unaskable.OddWidth = OddWidth
refusal_of unaskable.Misaligned = Misaligned
refusal_of unaskable.TooWide = TooWide

-- a stop's text: that of its refusal or of its fault
abbrev pub stop_text : Stop → List ℕ
stop_text (Declined r) = refusal_text r
stop_text (Faulted f) = fault_text f
