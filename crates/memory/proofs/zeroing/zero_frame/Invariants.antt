use Rattle.std.proofs.Common.{◌≡◌, ◌*◌, replicate}
use Rattle.memory.specs.Bytes.{over}
use Rattle.memory.proofs.zeroing.zero_frame.Given as goal

-- the first 8 × i bytes of the frame are zero, and nothing else has changed
abbrev pub invariant-loop-i : goal.invariant-loop-i
invariant-loop-i g l =
    let M = g.M.ProtectedMemory in
    let before = M.meaning l.initial.memory in
    (M.meaning l.memory ≡ record { bytes = over before.bytes l.base (replicate (8 * l.i) 0); marks = before.marks }) × M.keeps l.initial.memory l.memory
