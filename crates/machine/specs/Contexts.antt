-- The rules of contexts. Assumes nothing.
use Rattle.std.specs.Prelude.{Bool, true, false, not, ◌&&◌, ◌||◌, ◌==◌, nat_lt}
use Rattle.translation.specs.declared.registers.Context.{Context}
use Rattle.translation.specs.declared.registers.Registers.{Registers}

-- a thread starts with HV = SF = 1, and all else 0
abbrev pub first_context : Context
first_context = record { s = false; hv = true; pr = false; ir = false; dr = false; sf = true; lpid = 0; pid = 0 }

-- LPID is at most 4,095, and PID at most 1,048,575
abbrev pub in_range : Context → Bool
in_range c = nat_lt c.lpid 4096 && nat_lt c.pid 1048576

-- a thread is ultravisor while S = HV = 1
abbrev pub is_ultravisor : Context → Bool
is_ultravisor c = c.s && c.hv

-- S, HV and PR are not all 1, and S = HV = 1 has IR = DR = 0
abbrev pub ultravisor_rule : Context → Bool
ultravisor_rule c = not (is_ultravisor c) || (not c.pr && (not c.ir && not c.dr))

-- PR = 1 has IR = DR = 1
abbrev pub problem_rule : Context → Bool
problem_rule c = not c.pr || (c.ir && c.dr)

-- HV = 0 has LPID at least 1
abbrev pub guest_rule : Context → Bool
guest_rule c = c.hv || not (c.lpid == 0)

-- S = 1 only with the facility on
abbrev pub secure_rule : Registers → Context → Bool
secure_rule r c = not c.s || r.facility

-- a context that a thread may enter
abbrev pub allowed : Registers → Context → Bool
allowed r c = in_range c && (ultravisor_rule c && (problem_rule c && (guest_rule c && secure_rule r c)))
