-- An access of an ordinary thread is isolated. Assumes nothing.
use Rattle.std.proofs.Common.{◌≡◌, ℕ, ◌%◌, refl, arith}
use Rattle.memory.specs.Protected.{Meaning, size_of}
use Rattle.translation.specs.declared.registers.Registers.{Registers}
use Rattle.translation.specs.declared.registers.Context.{Context}
use Rattle.translation.specs.declared.datum.Ask.{Ask}
use Rattle.translation.specs.Fields.{table_base}
use Rattle.translation.specs.Program.{state}
use Rattle.translation.specs.Route.{effective, route_of}
use Rattle.translation.specs.Access.{kind_of, access_by, accessed}
use Rattle.translation.specs.Isolation.{Isolated, setting_for}
use Rattle.translation.proofs.Isolation.{isolated, kept, marks_stay, size_stays}

pub access_isolated : (r : Registers) (c : Context) (m : Meaning) (ask : Ask) (w address : ℕ) → Isolated r c m ask w address
access_isolated r c m ask w address on =
    let s = setting_for r c ask address in
    let ea = effective c address in
    let p = access_by (route_of r c (kind_of ask) ea) (kind_of ask) c.pr ask w (ea % 8) in
    let whole : table_base r.ptcr % 8 ≡ 0 = omega arith in
    (λ n alike. isolated _ s p (state m 0) (state n 0) on whole (record { memory = alike; count = refl }), kept _ s p (state m 0) on)

-- no access, of whatever thread, changes a mark or the size
pub access_marks : (r : Registers) (c : Context) (m : Meaning) (ask : Ask) (w address : ℕ) → (accessed r c m ask w address).1.memory.marks ≡ m.marks
access_marks r c m ask w address = marks_stay _ _ (access_by (route_of r c (kind_of ask) (effective c address)) (kind_of ask) c.pr ask w (effective c address % 8)) (state m 0)

pub access_size : (r : Registers) (c : Context) (m : Meaning) (ask : Ask) (w address : ℕ) → size_of (accessed r c m ask w address).1.memory ≡ size_of m
access_size r c m ask w address = size_stays _ _ (access_by (route_of r c (kind_of ask) (effective c address)) (kind_of ask) c.pr ask w (effective c address % 8)) (state m 0)
