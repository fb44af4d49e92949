-- Ordinary threads learn nothing of secure memory and change nothing in it, over whole lists of calls. Assumes nothing.
--
-- This file is to be read alone. From elsewhere it takes `State`, a machine's registers, threads and memory; `step s c`,
-- what the call c answers in state s, and the state after it; `runs s cs`, the same for a list of calls, each from the
-- state that the one before it left; and `started r m`, a newly started machine.
use Rattle.std.specs.Prelude.{◌≡◌, ℕ, zero, suc, ◌+◌, ◌*◌, Bool, true, false, if◌then◌else◌, not, ◌&&◌, ◌||◌, List, [], ◌∷◌, length, Some, None, Option, ◌==◌, nat_le, nat_lt, slice_index, slice_index_or}
use Rattle.memory.specs.declared.protected.Mark.TheVariants.{Ordinary}
use Rattle.memory.specs.Protected.{Meaning, size_of, frames_of, has_frame, number_of}
use Rattle.translation.specs.declared.fault.Fault.{Fault}
use Rattle.translation.specs.declared.registers.Registers.{Registers}
use Rattle.translation.specs.Fault.{cause_number, layer_number, purpose_number}
use Rattle.translation.specs.Fields.{table_base}
use Rattle.translation.specs.Route.{table_entries}
use Rattle.translation.specs.Program.{secure_at}
use Rattle.machine.specs.declared.calls.Call.{Call}
use Rattle.machine.specs.declared.calls.Call.TheVariants.{Enter, Load, Store, Fetch, Mark, Report}
use Rattle.machine.specs.declared.calls.Answer.{Answer}
use Rattle.machine.specs.State.{State, started, thread_at}
use Rattle.machine.specs.Calls.{caller, step}
use Rattle.machine.specs.Runs.{runs}

-- ---- sides
-- a thread is secure while S = 1 and otherwise ordinary; a number above 7 is neither
abbrev pub secure_thread : State → ℕ → Bool
secure_thread s t = nat_lt t 8 && (thread_at s.threads t).context.s

abbrev pub ordinary_thread : State → ℕ → Bool
ordinary_thread s t = nat_lt t 8 && not (thread_at s.threads t).context.s

-- ---- what ordinary threads may see of the memory
-- an address lies in the partition table that PTCR names, 16 bytes for each LPID
abbrev pub in_table : Registers → ℕ → Bool
in_table r a = nat_le (table_base r.ptcr) a && nat_lt a (table_base r.ptcr + 16 * table_entries r.ptcr)

-- a byte in an ordinary frame, or in the partition table
abbrev pub visible : Registers → Meaning → ℕ → Bool
visible r m a = not (secure_at m a) || in_table r a

-- two memories that differ at most in secure bytes outside the partition table: the same marks, so the same size
pub record AlikeMemories (r : Registers) (m n : Meaning) : Type 0 where
  pub marks : m.marks ≡ n.marks
  pub size : size_of m ≡ size_of n
  pub bytes : (a : ℕ) → visible r m a ≡ true → slice_index m.bytes a ≡ slice_index n.bytes a

-- ---- how much two states differ, counted
-- two lists of numbers are the same
abbrev pub same : List ℕ → List ℕ → Bool
same [] [] = true
same [] (y ∷ ys) = false
same (x ∷ xs) [] = false
same (x ∷ xs) (y ∷ ys) = x == y && same xs ys

-- at how many places below n two readings differ
unfoldable pub differing : (ℕ → List ℕ) → (ℕ → List ℕ) → ℕ → ℕ
differing f g zero = 0
differing f g (suc n) = differing f g n + (if same (f n) (g n) then 0 else 1)

-- a reading of a place is its value, and nothing where there is none to be read
abbrev pub reading : Bool → ℕ → List ℕ
reading there v = if there then v ∷ [] else []

abbrev pub flag : Bool → ℕ
flag b = if b then 1 else 0

-- the mark of frame f
abbrev pub mark_read : State → ℕ → List ℕ
mark_read s f = reading (has_frame s.memory f) (number_of (slice_index_or s.memory.marks f Ordinary))

-- the byte at address a, where ordinary threads may see it
abbrev pub visible_read : State → ℕ → List ℕ
visible_read s a = reading (nat_lt a (size_of s.memory) && visible s.registers s.memory a) (slice_index s.memory.bytes a)

-- the byte at address a, where its frame is secure
abbrev pub secret_read : State → ℕ → List ℕ
secret_read s a = reading (nat_lt a (size_of s.memory) && secure_at s.memory a) (slice_index s.memory.bytes a)

-- the context of thread t
abbrev pub context_read : State → ℕ → List ℕ
context_read s t =
    let c = (thread_at s.threads t).context in
    flag c.s ∷ flag c.hv ∷ flag c.pr ∷ flag c.ir ∷ flag c.dr ∷ flag c.sf ∷ c.lpid ∷ c.pid ∷ []

-- the numbers of a fault record, or none
abbrev pub fault_numbers : Option Fault → List ℕ
fault_numbers None = []
fault_numbers (Some f) =
    cause_number f.cause ∷ layer_number f.layer ∷ purpose_number f.purpose ∷ f.depth ∷ f.ea ∷ f.guest ∷ f.real ∷ f.vector ∷ flag f.store ∷ f.count ∷ []

-- the fault record of thread t, where it is ordinary
abbrev pub fault_read : State → ℕ → List ℕ
fault_read s t = if (thread_at s.threads t).context.s then [] else fault_numbers (thread_at s.threads t).fault

-- all frames and all addresses of two states
abbrev pub frames_in : State → State → ℕ
frames_in s u = frames_of s.memory + frames_of u.memory

abbrev pub bytes_in : State → State → ℕ
bytes_in s u = size_of s.memory + size_of u.memory

-- how many marks, bytes that ordinary threads may see, contexts, and fault records of ordinary threads differ
abbrev pub differences : State → State → ℕ
differences s u =
    differing (mark_read s) (mark_read u) (frames_in s u) + differing (visible_read s) (visible_read u) (bytes_in s u)
    + differing (context_read s) (context_read u) 8 + differing (fault_read s) (fault_read u) 8

-- how many marks, and bytes in secure frames, differ
abbrev pub secret_differences : State → State → ℕ
secret_differences s u = differing (mark_read s) (mark_read u) (frames_in s u) + differing (secret_read s) (secret_read u) (bytes_in s u)

-- ---- lists of calls
abbrev pub next : State → Call → State
next s c = (step s c).1

-- loads, stores and fetches, also where they are declined
abbrev pub is_access : Call → Bool
is_access (Enter t c) = false
is_access (Load t w b i) = true
is_access (Store t w b i v) = true
is_access (Fetch t b i) = true
is_access (Mark t f k) = false
is_access (Report t) = false

abbrev pub is_report : Call → Bool
is_report (Enter t c) = false
is_report (Load t w b i) = false
is_report (Store t w b i v) = false
is_report (Fetch t b i) = false
is_report (Mark t f k) = false
is_report (Report t) = true

-- a call of a secure thread that ordinary threads do not see: an access or a report, judged as the call arrives
abbrev pub struck : State → Call → Bool
struck s c = (is_access c || is_report c) && secure_thread s (caller c)

abbrev pub unless_struck : {A : Type 0} → Bool → A → List A → List A
unless_struck true x xs = xs
unless_struck false x xs = x ∷ xs

-- the calls that remain once those are struck out
abbrev pub remaining : State → List Call → List Call
remaining s [] = []
remaining s (c ∷ cs) = unless_struck (struck s c) c (remaining (next s c) cs)

-- what each remaining call answered, and the state after it
abbrev pub watched : State → List Call → List (Answer × State)
watched s [] = []
watched s (c ∷ cs) = unless_struck (struck s c) (step s c) (watched (next s c) cs)

-- each struck access changes no byte but secure ones outside the partition table
abbrev pub Harmless : State → List Call → Type 0
Harmless s [] = Unit {0}
Harmless s (c ∷ cs) =
    ((is_access c && secure_thread s (caller c)) ≡ true → (a : ℕ) → visible s.registers s.memory a ≡ true
    → slice_index s.memory.bytes a ≡ slice_index (next s c).memory.bytes a)
    × Harmless (next s c) cs

-- ---- the way out: what ordinary threads learn
-- the same answers, and no difference after any of these calls
abbrev pub Agreeing : List (Answer × State) → List (Answer × State) → Type 0
Agreeing [] [] = Unit {0}
Agreeing [] (y ∷ ys) = ⊥
Agreeing (x ∷ xs) [] = ⊥
Agreeing (x ∷ xs) (y ∷ ys) = ((x.0 ≡ y.0) × (differences x.1 y.1 ≡ 0)) × Agreeing xs ys

pub record ToldApartByNothing (s : State) (cs : List Call) (u : State) (ds : List Call) : Type 0 where
  pub calls : Agreeing (watched s cs) (watched u ds)
  pub end : differences (runs s cs).1 (runs u ds).1 ≡ 0

-- two newly started machines with the facility on, alike in registers, marks, ordinary bytes and partition table, and
-- two lists whose remaining calls are the same, with no struck access that changes a byte which ordinary threads may see
abbrev pub LearnsNothing : Registers → Meaning → List Call → Type 0
LearnsNothing r m cs =
    (n : Meaning) (ds : List Call) → r.facility ≡ true → AlikeMemories r m n → remaining (started r m) cs ≡ remaining (started r n) ds
    → Harmless (started r m) cs → Harmless (started r n) ds → ToldApartByNothing (started r m) cs (started r n) ds

-- the same of machines in the midst of their work, alike in contexts and ordinary threads' fault records too
pub record Alike (s u : State) : Type 0 where
  pub registers : s.registers ≡ u.registers
  pub memory : AlikeMemories s.registers s.memory u.memory
  pub threads : length s.threads ≡ length u.threads
  pub contexts : (t : ℕ) → (thread_at s.threads t).context ≡ (thread_at u.threads t).context
  pub faults : (t : ℕ) → (thread_at s.threads t).context.s ≡ false → (thread_at s.threads t).fault ≡ (thread_at u.threads t).fault

abbrev pub LearnsNothingOn : State → List Call → Type 0
LearnsNothingOn s cs =
    (u : State) (ds : List Call) → s.registers.facility ≡ true → Alike s u → remaining s cs ≡ remaining u ds → Harmless s cs → Harmless u ds
    → ToldApartByNothing s cs u ds

-- ---- the way in: what ordinary threads change
-- how many marks, and bytes in secure frames, the calls of ordinary threads change
abbrev pub altered : State → List Call → ℕ
altered s [] = 0
altered s (c ∷ cs) = (if ordinary_thread s (caller c) then secret_differences s (next s c) else 0) + altered (next s c) cs

abbrev pub AltersNothing : State → List Call → Type 0
AltersNothing s cs = s.registers.facility ≡ true → altered s cs ≡ 0

-- ---- both, of a list of calls on one machine against every other machine and list
pub record Isolated (s : State) (cs : List Call) : Type 0 where
  -- where it is newly started
  pub out : (r : Registers) (m : Meaning) → s ≡ started r m → LearnsNothing r m cs
  -- and in any state
  pub on : LearnsNothingOn s cs
  pub into : AltersNothing s cs
