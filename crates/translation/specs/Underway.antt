-- How an access under way goes on. Assumes nothing.
use Rattle.std.specs.Prelude.{◌≡◌, Result}
use Rattle.memory.specs.Protected.{Meaning}
use Rattle.translation.specs.declared.fault.Fault.{Fault}
use Rattle.translation.specs.declared.reach.Access.{Access}
use Rattle.translation.specs.Program.{Program, State, state, run}

-- what its memory means, and the count
abbrev pub state_of : {M : Type 0} → (M → Meaning) → Access M → State
state_of meaning a = state (meaning a.memory.now) a.count

-- the second is the first at a later time: its setting, its memory's storage, and what that keeps, are the same
pub record Later {M : Type 0} (keeps : M → M → Type 0) (a b : Access M) : Type 0 where
  pub setting : b.setting ≡ a.setting
  pub storage : b.memory.ghost_name ≡ a.memory.ghost_name
  pub kept : keeps a.memory.now b.memory.now

-- it performs a program: it answers r and is left in a state, as the program run in its setting and state does
pub record Performs {A M : Type 0} (meaning : M → Meaning) (keeps : M → M → Type 0) (a : Access M) (p : Program A) (r : Result A Fault) (b : Access M) : Type 0 where
  pub answer : r ≡ (run a.setting (state_of meaning a) p).0
  pub after : state_of meaning b ≡ (run a.setting (state_of meaning a) p).1
  pub later : Later keeps a b

-- it changes its memory alone, to one that means this
pub record LeavesMemory {M : Type 0} (meaning : M → Meaning) (keeps : M → M → Type 0) (a : Access M) (m : Meaning) (b : Access M) : Type 0 where
  pub memory : meaning b.memory.now ≡ m
  pub count : b.count ≡ a.count
  pub later : Later keeps a b
