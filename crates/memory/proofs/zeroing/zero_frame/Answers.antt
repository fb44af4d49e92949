use Rattle.std.proofs.Common.{◌≡◌, ◌*◌, length, replicate, sym, ap, ◌∙◌, arith}
use Rattle.std.proofs.lemmas.Bool.{cond-true, lt-ltb}
use Rattle.memory.specs.Bytes.{over}
use Rattle.memory.specs.Protected.{Meaning}
use Rattle.memory.proofs.zeroing.zero_frame.Goals as goal

pub returns-clause-after : goal.returns-clause-after
returns-clause-after g c =
    let before : Meaning = g.M.ProtectedMemory.meaning c.args.memory.now in
    let full : 8 * c.loop-i.i ≡ 4096 = omega arith in
    let has = lt-ltb c.args.frame (length before.marks) (omega (arith, c.frames.ensures)) in
    c.loop-i.invariant.0
    ∙ ap (λ k. record { bytes = over before.bytes (c.args.frame * 4096) (replicate k 0); marks = before.marks }) full
    ∙ ap (λ bs. record { bytes = bs; marks = before.marks }) (sym (cond-true _ _ _ has))
