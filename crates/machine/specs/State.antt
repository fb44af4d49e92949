-- A machine's state, and how it starts. Assumes nothing.
use Rattle.std.specs.Prelude.{ℕ, Bool, false, if◌then◌else◌, not, List, replicate, Some, None, Ok, Err, Result, nat_lt, slice_index_or, slice_set}
use Rattle.memory.specs.Protected.{Meaning}
use Rattle.translation.specs.declared.fault.Fault.{Fault}
use Rattle.translation.specs.declared.registers.Registers.{Registers}
use Rattle.translation.specs.declared.registers.Context.{Context}
use Rattle.machine.specs.declared.refusal.Refusal.{Refusal}
use Rattle.machine.specs.declared.refusal.Refusal.TheVariants.{NoThread}
use Rattle.machine.specs.declared.threads.Thread.{Thread}
use Rattle.machine.specs.Contexts.{first_context}

-- the registers, the threads with their contexts and fault records, and what the memory means
pub record State : Type 0 where
  pub registers : Registers
  pub threads : List Thread
  pub memory : Meaning

-- what a machine holds: its registers, its threads, and the memory itself
pub record Held (M : Type 0) : Type 0 where
  pub registers : Registers
  pub threads : List Thread
  pub memory : M

abbrev pub state_of : {M : Type 0} → (M → Meaning) → Held M → State
state_of meaning m = record { registers = m.registers; threads = m.threads; memory = meaning m.memory }

-- a thread starts with its first context and no fault record
abbrev pub first_thread : Thread
first_thread = record { context = first_context; fault = None }

-- eight such threads, over any registers and memory
abbrev pub started : Registers → Meaning → State
started r m = record { registers = r; threads = replicate 8 first_thread; memory = m }

-- what stands for a thread past the end of a list of threads
abbrev pub no_thread : Thread
no_thread = record { context = record { s = false; hv = false; pr = false; ir = false; dr = false; sf = false; lpid = 0; pid = 0 }; fault = None }

abbrev pub thread_at : List Thread → ℕ → Thread
thread_at ts t = slice_index_or ts t no_thread

-- threads are numbered 0 to 7
abbrev pub thread_of : List Thread → ℕ → Result Thread Refusal
thread_of ts t = if nat_lt t 8 then Ok (thread_at ts t) else Err NoThread

abbrev pub context_of : List Thread → ℕ → Result Context Refusal
context_of ts t = if nat_lt t 8 then Ok (thread_at ts t).context else Err NoThread

-- one thread changed, the others as they were
abbrev pub with_thread : State → ℕ → Thread → State
with_thread s t th = record { registers = s.registers; threads = slice_set s.threads t th; memory = s.memory }

abbrev pub with_memory : State → Meaning → State
with_memory s m = record { registers = s.registers; threads = s.threads; memory = m }

abbrev pub same_side : Bool → Bool → Bool
same_side a b = if a then b else not b

-- entering a context erases the fault record if S changes
abbrev pub entering : Thread → Context → Thread
entering th c = record { context = c; fault = if same_side th.context.s c.s then th.fault else None }

-- a fault becomes the record of its thread
abbrev pub faulting : Thread → Fault → Thread
faulting th f = record { context = th.context; fault = Some f }
