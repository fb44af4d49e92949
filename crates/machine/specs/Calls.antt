-- What each call answers, and the state after it. Assumes nothing.
use Rattle.std.specs.Prelude.{◌≡◌, ℕ, Bool, if◌then◌else◌, List, Ok, Err, Result, slice_index_or, slice_set}
use Rattle.memory.specs.declared.protected.Mark.{Mark as Marking}
use Rattle.memory.specs.declared.protected.Mark.TheVariants.{Ordinary, Secure}
use Rattle.memory.specs.Protected.{Meaning, has_frame, marked, zeroed}
use Rattle.translation.specs.declared.fault.Fault.{Fault}
use Rattle.translation.specs.declared.registers.Context.{Context}
use Rattle.translation.specs.declared.widths.Width.{Width}
use Rattle.translation.specs.declared.widths.Unaskable.{Unaskable}
use Rattle.translation.specs.declared.datum.Ask.{Ask}
use Rattle.translation.specs.declared.datum.Ask.TheVariants.{ToLoad, ToFetch, ToStore}
use Rattle.translation.specs.Widths.{bytes_of, asked, fitting, fetched}
use Rattle.translation.specs.Program.{Outcome}
use Rattle.translation.specs.Access.{accessed, without_value}
use Rattle.machine.specs.declared.refusal.Refusal.{Refusal}
use Rattle.machine.specs.declared.refusal.Refusal.TheVariants.{BadContext, NotUltravisor, NoFrame}
use Rattle.machine.specs.declared.refusal.Stop.{Stop}
use Rattle.machine.specs.declared.refusal.Stop.TheVariants.{Declined, Faulted}
use Rattle.machine.specs.declared.threads.Thread.{Thread}
use Rattle.machine.specs.declared.calls.Call.{Call}
use Rattle.machine.specs.declared.calls.Call.TheVariants.{Enter, Load, Store, Fetch, Mark, Report}
use Rattle.machine.specs.declared.calls.Answer.{Answer}
use Rattle.machine.specs.declared.calls.Answer.TheVariants.{Done, Loaded, Stored, Reported}
use Rattle.machine.specs.Refusals.{refusal_of}
use Rattle.machine.specs.Contexts.{is_ultravisor, allowed}
use Rattle.machine.specs.State.{State, Held, state_of, Held, thread_at, thread_of, with_thread, with_memory, entering, faulting}

-- the thread that makes a call
abbrev pub caller : Call → ℕ
caller (Enter t c) = t
caller (Load t w b i) = t
caller (Store t w b i v) = t
caller (Fetch t b i) = t
caller (Mark t f k) = t
caller (Report t) = t

-- a declined call answers its refusal
abbrev pub refused : Call → Refusal → Answer
refused (Enter t c) r = Done (Err r)
refused (Load t w b i) r = Loaded (Err (Declined r))
refused (Store t w b i v) r = Stored (Err (Declined r))
refused (Fetch t b i) r = Loaded (Err (Declined r))
refused (Mark t f k) r = Done (Err r)
refused (Report t) r = Reported (Err r)

-- ---- accesses
-- what an access asks, of how many bytes, at which address
pub record Request : Type 0 where
  pub ask : Ask
  pub width : ℕ
  pub address : ℕ

abbrev pub request : Ask → ℕ → ℕ → Request
request k w a = record { ask = k; width = w; address = a }

-- a load asks at base plus index: 5 for its width, then 6 for its address. SF = 0 clears a multiple of every width, so
-- the effective address is a multiple of the width just where that sum is
abbrev pub load_of : Result (ℕ × Width) Unaskable → Result Request Unaskable
load_of (Ok o) = Ok (request ToLoad (bytes_of o.1) o.0)
load_of (Err e) = Err e

-- a store likewise, then 7 for its value
abbrev pub value_of : Result (ℕ × Width × ℕ) Unaskable → Result Request Unaskable
value_of (Ok o) = Ok (request (ToStore o.2) (bytes_of o.1) o.0)
value_of (Err e) = Err e

abbrev pub store_of : Result (ℕ × Width) Unaskable → ℕ → Result Request Unaskable
store_of (Ok o) v = value_of (fitting o.0 o.1 v)
store_of (Err e) v = Err e

-- a fetch has four bytes: 6 for its address
abbrev pub fetch_of : Result ℕ Unaskable → Result Request Unaskable
fetch_of (Ok a) = Ok (request ToFetch 4 a)
fetch_of (Err e) = Err e

abbrev pub stopped : {A : Type 0} → Result A Fault → Result A Stop
stopped (Ok a) = Ok a
stopped (Err f) = Err (Faulted f)

-- a load or a fetch answers three numbers, a store two
abbrev pub loaded : Result (ℕ × ℕ × ℕ) Fault → Answer
loaded a = Loaded (stopped a)

abbrev pub stored : Result (ℕ × ℕ × ℕ) Fault → Answer
stored a = Stored (stopped (without_value a))

-- a fault becomes the thread's record; an answer leaves the record that stands
abbrev pub recorded : {A : Type 0} → List Thread → ℕ → Result A Fault → List Thread
recorded ts t (Ok a) = ts
recorded ts t (Err f) = slice_set ts t (faulting (thread_at ts t) f)

-- what a machine holds after that
abbrev pub concluding : {M A : Type 0} → Held M → ℕ → Result A Fault → Held M
concluding m t a = record { registers = m.registers; threads = recorded m.threads t a; memory = m.memory }

-- an access that was made
abbrev pub concluded : State → ℕ → (Result (ℕ × ℕ × ℕ) Fault → Answer) → Outcome (ℕ × ℕ × ℕ) → Answer × State
concluded s t tell o = (tell o.0, record { registers = s.registers; threads = recorded s.threads t o.0; memory = o.1.memory })

-- an access that can be asked is made in the thread's context
abbrev pub access_of : State → Call → (Result (ℕ × ℕ × ℕ) Fault → Answer) → Result Request Unaskable → Answer × State
access_of s c tell (Ok q) = concluded s (caller c) tell (accessed s.registers (thread_at s.threads (caller c)).context s.memory q.ask q.width q.address)
access_of s c tell (Err e) = (refused c (refusal_of e), s)

-- ---- marks
-- a frame is filled with zeros before it turns from secure to ordinary; a mark already so changes nothing
abbrev pub turned : Meaning → ℕ → Marking → Marking → Meaning
turned m f Ordinary Ordinary = m
turned m f Ordinary Secure = marked m f Secure
turned m f Secure Ordinary = marked (zeroed m f) f Ordinary
turned m f Secure Secure = m

abbrev pub remarked : Meaning → ℕ → Marking → Meaning
remarked m f k = turned m f (slice_index_or m.marks f Ordinary) k

-- ---- the calls
-- a change of context, where it is allowed
abbrev pub entered : Bool → State → ℕ → Context → Answer × State
entered may s t c = if may then (Done (Ok tt), with_thread s t (entering (thread_at s.threads t) c)) else (Done (Err BadContext), s)

-- a mark, by an ultravisor, of a frame that there is. Refusal 8 comes before 9
abbrev pub framed : Bool → State → ℕ → Marking → Answer × State
framed there s f k = if there then (Done (Ok tt), with_memory s (remarked s.memory f k)) else (Done (Err NoFrame), s)

abbrev pub marking : Bool → Bool → State → ℕ → Marking → Answer × State
marking may there s f k = if may then framed there s f k else (Done (Err NotUltravisor), s)

-- a call of a thread that there is
abbrev pub taken : State → Call → Answer × State
taken s (Enter t c) = entered (allowed s.registers c) s t c
taken s (Load t w b i) = access_of s (Load t w b i) loaded (load_of (asked w b i))
taken s (Store t w b i v) = access_of s (Store t w b i v) stored (store_of (asked w b i) v)
taken s (Fetch t b i) = access_of s (Fetch t b i) loaded (fetch_of (fetched b i))
taken s (Mark t f k) = marking (is_ultravisor (thread_at s.threads t).context) (has_frame s.memory f) s f k
taken s (Report t) = (Reported (Ok (thread_at s.threads t).fault), s)

-- one call: what it answers, and the state after it. Refusal 3 comes first
abbrev pub by_thread : State → Call → Result Thread Refusal → Answer × State
by_thread s c (Ok th) = taken s c
by_thread s c (Err r) = (refused c r, s)

abbrev pub step : State → Call → Answer × State
step s c = by_thread s c (thread_of s.threads (caller c))

-- a call in a state answers this and leaves that state
pub record Steps (before : State) (c : Call) (answer : Answer) (after : State) : Type 0 where
  pub answers : answer ≡ (step before c).0
  pub leaves : after ≡ (step before c).1

-- a machine makes a call: its state steps so, and its memory keeps what it keeps
pub record Makes {M : Type 0} (meaning : M → Meaning) (keeps : M → M → Type 0) (before : Held M) (c : Call) (answer : Answer) (after : Held M) : Type 0 where
  pub steps : Steps (state_of meaning before) c answer (state_of meaning after)
  pub kept : keeps before.memory after.memory
