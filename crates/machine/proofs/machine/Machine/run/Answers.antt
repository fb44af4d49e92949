use Rattle.std.proofs.Common.{◌++◌, vec_items, sym, ap, ◌∙◌, append-nil, rules}
use Rattle.machine.specs.State.{state_of}
use Rattle.machine.proofs.Lists.{run_more, run_done}
use Rattle.machine.proofs.Isolation.{isolated}
use Rattle.machine.proofs.machine.Machine.run.Goals as goal

pub loop-call-preserved : goal.loop-call-preserved
loop-call-preserved g c =
    let e = run_more _ _ c.args.calls.now c.loop-call.call-index _ _ _ _ c.loop-call-test.true
    c.call.ensures.steps.answers c.call.ensures.steps.leaves c.push_reserved.ensures.items in
    record {
      tells = e.0 ∙ c.loop-call.invariant.tells;
      leaves = e.1 ∙ c.loop-call.invariant.leaves;
      counted = search rules;
      room = search rules;
      keeps = g.M.ProtectedMemory.keeping.then _ _ _ c.loop-call.invariant.keeps c.call.ensures.kept;
    }

pub returns : goal.returns
returns g c =
    let e = run_done (state_of g.M.ProtectedMemory.meaning c.loop-call.self) c.args.calls.now c.loop-call.call-index c.loop-call-test.false in
    record {
      runs = record {
        tells = sym (append-nil (vec_items c.loop-call.answers)) ∙ ap (λ o. vec_items c.loop-call.answers ++ o.0) (sym e) ∙ c.loop-call.invariant.tells;
        leaves = ap (λ o. o.1) (sym e) ∙ c.loop-call.invariant.leaves;
      };
      isolated = isolated _ _;
      keeps = c.loop-call.invariant.keeps;
    }

pub returns-in_err-answers : goal.returns-in_err-answers
returns-in_err-answers g c = record { runs = search rules; isolated = isolated _ _; keeps = g.M.ProtectedMemory.keeping.same _ }
