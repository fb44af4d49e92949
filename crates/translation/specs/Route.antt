-- The effective address, and which tables it goes through. Assumes nothing.
use Rattle.std.specs.Prelude.{ℕ, ◌+◌, ◌*◌, ◌%◌, ◌^◌, Bool, if◌then◌else◌, not, ◌&&◌, ◌==◌, bit_or}
use Rattle.translation.specs.declared.fault.Kind.{Kind}
use Rattle.translation.specs.declared.fault.Setting.{Setting}
use Rattle.translation.specs.declared.registers.Registers.{Registers}
use Rattle.translation.specs.declared.registers.Context.{Context}
use Rattle.translation.specs.declared.registers.Route.{Route}
use Rattle.translation.specs.declared.registers.Route.TheVariants.{NoSegment, AtReal, AtGuest, AtProcess}
use Rattle.translation.specs.Fields.{bits, bit, table_base, table_size}
use Rattle.translation.specs.Fault.{is_fetch}

-- SF = 0 clears bits 0:31
abbrev pub effective : Context → ℕ → ℕ
effective c address = if c.sf then address else address % 2 ^ 32

-- IR is for fetches, DR for data
abbrev pub relocated : Context → Kind → Bool
relocated c k = if is_fetch k then c.ir else c.dr

-- HRMOR and URMOR hold a multiple of 4,096 below 2^57; other bits of an image are ignored
abbrev pub real_offset : ℕ → ℕ
real_offset v = bits v 7 51 * 2 ^ 12

-- translation off, HV = 1: EA bits 4:63, ORed with URMOR (S = 1) or HRMOR (S = 0) if EA bit 0 is 0
abbrev pub real_address : Registers → Context → ℕ → ℕ
real_address r c ea = if bit ea 0 then bits ea 4 63 else bit_or (bits ea 4 63) (real_offset (if c.s then r.urmor else r.hrmor))

-- translation on, HV = 0: EA bits 0:1 are 00 for own LPID and PID, 11 for own LPID and PID 0, the rest no segment
abbrev pub own_quadrant : Context → ℕ → Route
own_quadrant c ea =
    if bits ea 0 1 == 0 then AtProcess c.lpid c.pid (bits ea 2 63)
    else if bits ea 0 1 == 3 then AtProcess c.lpid 0 (bits ea 2 63) else NoSegment

-- translation on, HV = 1: 00 for LPID 0 and own PID, 01 both own, 10 own LPID and PID 0, 11 both 0
abbrev pub hypervisor_quadrant : Context → ℕ → Route
hypervisor_quadrant c ea =
    if bits ea 0 1 == 0 then AtProcess 0 c.pid (bits ea 2 63)
    else if bits ea 0 1 == 1 then AtProcess c.lpid c.pid (bits ea 2 63)
    else if bits ea 0 1 == 2 then AtProcess c.lpid 0 (bits ea 2 63) else AtProcess 0 0 (bits ea 2 63)

-- translation off, HV = 0: EA bits 4:63 are a guest real address for own LPID
unfoldable pub route_of : Registers → Context → Kind → ℕ → Route
route_of r c k ea =
    if relocated c k then (if c.hv then hypervisor_quadrant c ea else own_quadrant c ea)
    else if c.hv then AtReal (real_address r c ea) else AtGuest c.lpid (bits ea 4 63)

-- the LPID of the route; 0 for real addresses
abbrev pub lpid_of : Route → ℕ
lpid_of NoSegment = 0
lpid_of (AtReal a) = 0
lpid_of (AtGuest l a) = l
lpid_of (AtProcess l p o) = l

-- an ordinary thread is refused secure frames where the facility is on
abbrev pub confined : Registers → Context → Bool
confined r c = not c.s && r.facility

-- the partition table has 2^(12 + size) bytes, 16 for each LPID
abbrev pub table_entries : ℕ → ℕ
table_entries v = 2 ^ (table_size v + 8)

-- what stays the same over one access
abbrev pub setting_of : Registers → Context → Kind → ℕ → ℕ → Setting
setting_of r c k ea lpid =
    record {
      confined = confined r c;
      table = table_base r.ptcr;
      entries = table_entries r.ptcr;
      lpid = lpid;
      ea = ea;
      kind = k;
    }
