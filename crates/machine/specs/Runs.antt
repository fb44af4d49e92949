-- Lists of calls. Assumes nothing.
use Rattle.std.specs.Prelude.{◌≡◌, List, [], ◌∷◌}
use Rattle.machine.specs.declared.calls.Call.{Call}
use Rattle.machine.specs.declared.calls.Answer.{Answer}
use Rattle.machine.specs.State.{State}
use Rattle.machine.specs.Calls.{step}

-- each call goes on from the state that the one before it left
unfoldable pub runs : State → List Call → List Answer × State
runs s [] = ([], s)
runs s (c ∷ cs) = ((step s c).0 ∷ (runs (step s c).1 cs).0, (runs (step s c).1 cs).1)

-- a list of calls in a state answers these and leaves that state
pub record Ran (before : State) (cs : List Call) (answers : List Answer) (after : State) : Type 0 where
  pub tells : answers ≡ (runs before cs).0
  pub leaves : after ≡ (runs before cs).1
