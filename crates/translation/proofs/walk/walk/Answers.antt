use Rattle.std.proofs.Common.{◌≡◌, ◌-◌, ◌<◌, Err, refl, ap, ◌∙◌, arith, rules}
use Rattle.translation.specs.declared.fault.Cause.TheVariants.{Unsupported}
use Rattle.translation.specs.Program.{run}
use Rattle.translation.specs.Access.{walk}
use Rattle.translation.specs.Underway.{state_of}
use Rattle.translation.proofs.Performing.{steps, checked_in, afterwards, alike}
use Rattle.translation.proofs.Walks.{walk_turn, from_turn}
use Rattle.translation.proofs.walk.walk.Goals as goal

pub returns-in_err-word-clause-performs : goal.returns-in_err-word-clause-performs
returns-in_err-word-clause-performs g c =
    let k = g.M.ProtectedMemory.keeping in
    from_turn k _ _ _ _ c.loop-depth-test.true c.loop-depth.invariant.rest c.loop-depth.invariant.later (rw (← c.place_of-place.ensures) (search (rules, steps, checked_in)))

pub returns-in_err-leaf-clause-performs : goal.returns-in_err-leaf-clause-performs
returns-in_err-leaf-clause-performs g c =
    let k = g.M.ProtectedMemory.keeping in
    from_turn k _ _ _ _ c.loop-depth-test.true c.loop-depth.invariant.rest c.loop-depth.invariant.later (rw (← c.place_of-place.ensures) (search (rules, steps, checked_in)))

pub returns-in-Found-clause-performs : goal.returns-in-Found-clause-performs
returns-in-Found-clause-performs g c =
    let k = g.M.ProtectedMemory.keeping in
    from_turn k _ _ _ _ c.loop-depth-test.true c.loop-depth.invariant.rest c.loop-depth.invariant.later (rw (← c.place_of-place.ensures) (search (rules, steps, checked_in)))

pub loop-depth-preserved : goal.loop-depth-preserved
loop-depth-preserved g c =
    let M = g.M.ProtectedMemory in
    let h : c.loop-depth.depth < 4 = c.loop-depth-test.true in
    record {
      count = search rules;
      later = afterwards M.keeping c.loop-depth.invariant.later c.entry.ensures.performs.later;
      rest = rw (c.loop-depth.invariant.rest, walk_turn) (search rules);
    }

pub returns-clause-performs : goal.returns-clause-performs
unfolding walk
returns-clause-performs g c =
    let M = g.M.ProtectedMemory in
    let T = g.T.Tree in
    let tree = c.args.tree.now in
    let now = c.loop-depth.access in
    let z : c.loop-depth.depth ≡ 4 = omega arith in
    let rest = ap (λ n. run now.setting (state_of M.meaning now) (walk (T.entry tree) (T.layer tree) (T.purpose tree) (T.guest tree) c.args.addr (4 - n) n c.loop-depth.table)) z in
    alike M.keeping (c.loop-depth.invariant.rest ∙ rest) c.loop-depth.invariant.later
    (checked_in M.keeping {had = Err Unsupported} c.check-2.ensures c.site-2.ensures c.layer-2.ensures refl)
