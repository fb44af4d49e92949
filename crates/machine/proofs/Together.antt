-- One call: on two states that are alike, of a secure thread, and of an ordinary thread. Assumes nothing.
use Rattle.std.proofs.Common.{◌≡◌, ℕ, zero, suc, ◌+◌, ◌*◌, ◌/◌, ◌<◌, ◌≤◌, Bool, true, false, if◌then◌else◌, not, ◌&&◌, ◌||◌, ltb, ◌⊎◌, List, [], ◌∷◌, length, get_or, set, replicate, None, Ok, Err, Option, Result, sym, refl, ap, ◌∙◌, subst, inl, inr, arith, length-set, get_or-set_other}
use mathlib.Core.Bool.{false≢true}
use lib.ListN.{length-replicate}
use Rattle.std.proofs.lemmas.Bool.{and_parts, and_from, not_from_false, not-true, or_cases, or_left, or_right, cases_lt, lt-ltb, le-ltb, cond-true, cond-false, cond_both}
use Rattle.std.proofs.lemmas.List.{get_or_past}
use Rattle.memory.specs.declared.protected.Mark.{Mark as Marking}
use Rattle.memory.specs.declared.protected.Mark.TheVariants.{Ordinary, Secure}
use Rattle.memory.specs.Bytes.{over}
use Rattle.memory.specs.Protected.{Meaning, has_frame, is_secure}
use Rattle.memory.proofs.Lists.{length_over, over_both}
use Rattle.translation.specs.declared.fault.Fault.{Fault}
use Rattle.translation.specs.declared.registers.Registers.{Registers}
use Rattle.translation.specs.declared.registers.Context.{Context}
use Rattle.translation.specs.declared.widths.Unaskable.{Unaskable}
use Rattle.translation.specs.Widths.{asked, fetched}
use Rattle.translation.specs.Route.{confined}
use Rattle.translation.specs.Access.{accessed}
use Rattle.translation.specs.Alike.{Kept}
use Rattle.translation.proofs.Accesses.{access_isolated, access_marks, access_size}
use Rattle.machine.specs.declared.refusal.Refusal.{Refusal}
use Rattle.machine.specs.declared.refusal.Refusal.TheVariants.{NoThread}
use Rattle.machine.specs.declared.threads.Thread.{Thread}
use Rattle.machine.specs.declared.calls.Call.{Call}
use Rattle.machine.specs.declared.calls.Call.TheVariants.{Enter, Load, Store, Fetch, Mark, Report}
use Rattle.machine.specs.declared.calls.Answer.{Answer}
use Rattle.machine.specs.declared.calls.Answer.TheVariants.{Reported}
use Rattle.machine.specs.Contexts.{is_ultravisor, allowed}
use Rattle.machine.specs.State.{State, thread_at, thread_of, same_side, entering, faulting}
use Rattle.machine.specs.Calls.{caller, Request, loaded, stored, recorded, concluded, access_of, load_of, store_of, fetch_of, turned, remarked, entered, marking, taken, by_thread, step}
use Rattle.machine.specs.Isolation.{Alike, AlikeMemories, in_table, visible, secure_thread, ordinary_thread, is_access, struck, next}
use Rattle.machine.proofs.Differences.{secure_in}
use Rattle.machine.proofs.Likeness.{for_access, of_access, alike_same, Like, like_set, like_one, likes}

-- the same answer, and states that are alike
pub record Both (o p : Answer × State) : Type 0 where
  pub answer : o.0 ≡ p.0
  pub state : Alike o.1 p.1

-- ---- marks
-- whether a frame is secure, with no test for the end of the list
secure_is : (ms : List Marking) (f : ℕ) → secure_in ms f ≡ is_secure (get_or ms f Ordinary)
secure_is ms f =
    elim (cases_lt f (length ms)) [
      | inl l ↦ cond-true _ _ _ (lt-ltb f (length ms) l)
      | inr g ↦ cond-false _ _ _ (le-ltb f (length ms) g) ∙ sym (ap is_secure (get_or_past ms f Ordinary g))
    ]

-- a frame that is set secure hides nothing less
set_secure : (ms : List Marking) (f g : ℕ) → is_secure (get_or (set ms f Secure) g Ordinary) ≡ false → is_secure (get_or ms g Ordinary) ≡ false
set_secure [] f g e = refl
set_secure (k ∷ ms) zero zero e = absurd (false≢true (sym e))
set_secure (k ∷ ms) zero (suc g) e = e
set_secure (k ∷ ms) (suc f) zero e = e
set_secure (k ∷ ms) (suc f) (suc g) e = set_secure ms f g e

module _ (r : Registers) (m n : Meaning) (h : AlikeMemories r m n) (f : ℕ) where
  -- what is visible by other marks is so by these, where ordinary frames are
  still_visible : (ms : List Marking) (a : ℕ) → (secure_in ms (a / 4096) ≡ false → secure_in m.marks (a / 4096) ≡ false)
      → (not (secure_in ms (a / 4096)) || in_table r a) ≡ true → visible r m a ≡ true
  still_visible ms a shows v =
      elim (or_cases (not (secure_in ms (a / 4096))) (in_table r a) v) [
        | inl o ↦ or_left _ _ (not_from_false _ (shows (not-true _ o)))
        | inr t ↦ or_right _ _ t
      ]

  -- the marks set secure, or the bytes zeroed and the marks set ordinary, where the frame is there
  abbrev secured : Bool → Meaning → Meaning
  secured there o = record { bytes = o.bytes; marks = if there then set o.marks f Secure else o.marks }

  abbrev zeros : List ℕ → List ℕ
  zeros bs = over bs (f * 4096) (replicate 4096 0)

  abbrev released : Bool → Meaning → Meaning
  released there o = record { bytes = if there then zeros o.bytes else o.bytes; marks = if there then set o.marks f Ordinary else o.marks }

  secured_both : AlikeMemories r (secured true m) (secured true n)
  secured_both =
      record {
        marks = ap (λ (ms : List Marking). set ms f Secure) h.marks;
        size = h.size;
        bytes = λ a v. h.bytes a (still_visible (set m.marks f Secure) a
            (λ o. secure_is m.marks (a / 4096) ∙ set_secure m.marks f (a / 4096) (sym (secure_is (set m.marks f Secure) (a / 4096)) ∙ o)) v);
      }

  released_both : AlikeMemories r (released true m) (released true n)
  released_both =
      record {
        marks = ap (λ (ms : List Marking). set ms f Ordinary) h.marks;
        size = length_over m.bytes (f * 4096) (replicate 4096 0) ∙ h.size ∙ sym (length_over n.bytes (f * 4096) (replicate 4096 0));
        bytes = λ a v. over_both m.bytes n.bytes (f * 4096) (replicate 4096 0) a h.size (λ away.
            h.bytes a (still_visible (set m.marks f Ordinary) a (λ o. sym (set_other Ordinary (a / 4096) (elsewhere a away)) ∙ o) v));
      }
    where
      set_other : (k : Marking) (g : ℕ) → (g ≡ f → ⊥) → secure_in (set m.marks f k) g ≡ secure_in m.marks g
      set_other k g ne = secure_is (set m.marks f k) g ∙ ap is_secure (get_or-set_other m.marks f g k Ordinary ne) ∙ sym (secure_is m.marks g)

      elsewhere : (a : ℕ) → (a < f * 4096) ⊎ (f * 4096 + length {A = ℕ} (replicate 4096 0) ≤ a) → a / 4096 ≡ f → ⊥
      elsewhere a away e = let n : length {A = ℕ} (replicate 4096 0) ≡ 4096 = length-replicate {A = ℕ} 4096 0 in elim away [ inl l ↦ omega arith | inr l ↦ omega arith ]

  -- a frame beyond the memory changes nothing
  has_same : has_frame m f ≡ has_frame n f
  has_same = ap (λ (ms : List Marking). ltb f (length ms)) h.marks

  there_both : (change : Bool → Meaning → Meaning) → ((there : Bool) → AlikeMemories r (change there m) (change there n))
      → AlikeMemories r (change (has_frame m f) m) (change (has_frame n f) n)
  there_both change each = subst (λ (there : Bool). AlikeMemories r (change (has_frame m f) m) (change there n)) has_same (each (has_frame m f))

  turned_both : (old k : Marking) → AlikeMemories r (turned m f old k) (turned n f old k)
  turned_both Ordinary Ordinary = h
  turned_both Ordinary Secure = there_both secured (elim [ true ↦ secured_both | false ↦ h ])
  turned_both Secure Ordinary = there_both released (elim [ true ↦ released_both | false ↦ h ])
  turned_both Secure Secure = h

  remarked_both : (k : Marking) → AlikeMemories r (remarked m f k) (remarked n f k)
  remarked_both k =
      subst (λ (old : Marking). AlikeMemories r (turned m f (get_or m.marks f Ordinary) k) (turned n f old k))
      (ap (λ (ms : List Marking). get_or ms f Ordinary) h.marks) (turned_both (get_or m.marks f Ordinary) k)

-- ---- a call on two states with the same registers
abbrev state : Registers → List Thread → Meaning → State
state r ts m = record { registers = r; threads = ts; memory = m }

-- a thread that is not struck is ordinary
not_secure : (t : ℕ) (b : Bool) → ltb t 8 ≡ true → (ltb t 8 && b) ≡ false → b ≡ false
not_secure t b l e = sym (ap (λ (x : Bool). x && b) l) ∙ e

confined_on : (r : Registers) (c : Context) → r.facility ≡ true → c.s ≡ false → confined r c ≡ true
confined_on r c on o = and_from (not c.s) r.facility (not_from_false c.s o) on

module _ (r : Registers) (xs ys : List Thread) (m n : Meaning) (h : Alike (state r xs m) (state r ys n)) (on : r.facility ≡ true) where
  -- with one thread changed alike
  put_both : (t : ℕ) (x y : Thread) (m' n' : Meaning) → Like x y → AlikeMemories r m' n' → Alike (state r (set xs t x) m') (state r (set ys t y) n')
  put_both t x y m' n' l q =
      let each = like_set xs ys t x y h.threads (likes (state r xs m) (state r ys n) h) l in
      record {
        registers = refl;
        memory = q;
        threads = simp length-set h.threads;
        contexts = λ u. (each u).context;
        faults = λ u. (each u).fault;
      }

  -- with other memories that are alike
  held_both : (m' n' : Meaning) → AlikeMemories r m' n' → Alike (state r xs m') (state r ys n')
  held_both m' n' q = record { registers = refl; memory = q; threads = h.threads; contexts = h.contexts; faults = h.faults }

  recorded_both : (t : ℕ) (a : Result (ℕ × ℕ × ℕ) Fault) (m' n' : Meaning) → AlikeMemories r m' n' → Alike (state r (recorded xs t a) m') (state r (recorded ys t a) n')
  recorded_both t (Ok a) m' n' q = held_both m' n' q
  recorded_both t (Err f) m' n' q = put_both t _ _ m' n' (record { context = h.contexts t; fault = λ o. refl }) q

  access_both : (c : Call) (tell : Result (ℕ × ℕ × ℕ) Fault → Answer) (q : Result Request Unaskable) → (thread_at xs (caller c)).context.s ≡ false
      → Both (access_of (state r xs m) c tell q) (access_of (state r ys n) c tell q)
  access_both c tell (Err e) o = record { answer = refl; state = h }
  access_both c tell (Ok q) o =
      let x = (thread_at xs (caller c)).context in
      let same = (access_isolated r x m q.ask q.width q.address (confined_on r x on o)).0 n (for_access r m n x q.ask q.address h.memory) in
      let left = accessed r x m q.ask q.width q.address in
      let right = accessed r x n q.ask q.width q.address in
      subst (λ (y : Context). Both (concluded (state r xs m) (caller c) tell left) (concluded (state r ys n) (caller c) tell (accessed r y n q.ask q.width q.address)))
      (h.contexts (caller c))
      (record {
        answer = ap tell same.answer;
        state = subst (λ (a : Result (ℕ × ℕ × ℕ) Fault). Alike (state r (recorded xs (caller c) left.0) left.1.memory) (state r (recorded ys (caller c) a) right.1.memory))
            same.answer (recorded_both (caller c) left.0 _ _ (of_access r _ _ x q.ask q.address same.state.memory));
      })

  entered_like : (x y : Thread) (c : Context) → Like x y → Like (entering x c) (entering y c)
  entered_like x y c l =
      record {
        context = refl;
        fault = λ o. go x.context.s refl o ∙ ap (λ (d : Context). (if same_side d.s c.s then y.fault else None)) l.context;
      }
    where
      go : (b : Bool) → x.context.s ≡ b → c.s ≡ false → (if same_side b c.s then x.fault else None) ≡ (if same_side b c.s then y.fault else None)
      go true e o = subst (λ (d : Bool). (if d then x.fault else None) ≡ (if d then y.fault else None)) (sym o) refl
      go false e o = ap (λ (f : Option Fault). (if not c.s then f else None)) (l.fault e)

  entered_both : (may : Bool) (t : ℕ) (c : Context) → Both (entered may (state r xs m) t c) (entered may (state r ys n) t c)
  entered_both true t c = record { answer = refl; state = put_both t _ _ m n (entered_like (thread_at xs t) (thread_at ys t) c (likes (state r xs m) (state r ys n) h t)) h.memory }
  entered_both false t c = record { answer = refl; state = h }

  marking_both : (may there : Bool) (f : ℕ) (k : Marking) → Both (marking may there (state r xs m) f k) (marking may there (state r ys n) f k)
  marking_both true true f k = record { answer = refl; state = held_both _ _ (remarked_both r m n h.memory f k) }
  marking_both true false f k = record { answer = refl; state = h }
  marking_both false there f k = record { answer = refl; state = h }

  taken_both : (c : Call) → ltb (caller c) 8 ≡ true → struck (state r xs m) c ≡ false → Both (taken (state r xs m) c) (taken (state r ys n) c)
  taken_both (Enter t c) l s = entered_both (allowed r c) t c
  taken_both (Load t w b i) l s = access_both (Load t w b i) loaded (load_of (asked w b i)) (not_secure t (thread_at xs t).context.s l s)
  taken_both (Store t w b i v) l s = access_both (Store t w b i v) stored (store_of (asked w b i) v) (not_secure t (thread_at xs t).context.s l s)
  taken_both (Fetch t b i) l s = access_both (Fetch t b i) loaded (fetch_of (fetched b i)) (not_secure t (thread_at xs t).context.s l s)
  taken_both (Mark t f k) l s =
      let may = is_ultravisor (thread_at xs t).context in
      let here = has_frame m f in
      subst (λ (y : Context). Both (marking may here (state r xs m) f k) (marking (is_ultravisor y) (has_frame n f) (state r ys n) f k)) (h.contexts t)
      (subst (λ (there : Bool). Both (marking may here (state r xs m) f k) (marking may there (state r ys n) f k)) (has_same r m n h.memory f)
      (marking_both may here f k))
  taken_both (Report t) l s = record { answer = ap (λ (f : Option Fault). Reported (Ok f)) (h.faults t (not_secure t (thread_at xs t).context.s l s)); state = h }

  step_both : (c : Call) → struck (state r xs m) c ≡ false → Both (step (state r xs m) c) (step (state r ys n) c)
  step_both c s = go (ltb (caller c) 8) refl
    where
      go : (b : Bool) → ltb (caller c) 8 ≡ b → Both (by_thread (state r xs m) c (if b then Ok (thread_at xs (caller c)) else Err NoThread))
          (by_thread (state r ys n) c (if b then Ok (thread_at ys (caller c)) else Err NoThread))
      go true l = taken_both c l s
      go false l = record { answer = refl; state = h }

-- a call that is not struck answers the same on states that are alike, and leaves them alike
pub together : (s u : State) (c : Call) → Alike s u → s.registers.facility ≡ true → struck s c ≡ false → Both (step s c) (step u c)
together s u c h on k =
    subst (λ (r : Registers). Alike s (state r u.threads u.memory) → Both (step s c) (step (state r u.threads u.memory) c)) h.registers
    (λ h'. step_both s.registers s.threads u.threads s.memory u.memory h' on c k) h

-- ---- a call of a secure thread
-- the thread's record may change, and bytes that ordinary threads do not see
module _ (s : State) (c : Call) (secure : (thread_at s.threads (caller c)).context.s ≡ true) where
  recorded_aside : (a : Result (ℕ × ℕ × ℕ) Fault) (n : Meaning) → AlikeMemories s.registers s.memory n
      → Alike s (state s.registers (recorded s.threads (caller c) a) n)
  recorded_aside (Ok a) n q = record { registers = refl; memory = q; threads = refl; contexts = λ t. refl; faults = λ t o. refl }
  recorded_aside (Err f) n q =
      let x = thread_at s.threads (caller c) in
      let each = like_one s.threads (caller c) (faulting x f) (record { context = refl; fault = λ o. absurd (false≢true (sym o ∙ secure)) }) in
      record { registers = refl; memory = q; threads = sym (length-set s.threads (caller c) (faulting x f)); contexts = λ t. (each t).context; faults = λ t. (each t).fault }

  access_aside : (tell : Result (ℕ × ℕ × ℕ) Fault → Answer) (q : Result Request Unaskable)
      → ((a : ℕ) → visible s.registers s.memory a ≡ true → get_or s.memory.bytes a 0 ≡ get_or (access_of s c tell q).1.memory.bytes a 0)
      → Alike s (access_of s c tell q).1
  access_aside tell (Err e) quiet = alike_same s
  access_aside tell (Ok q) quiet =
      let x = (thread_at s.threads (caller c)).context in
      recorded_aside _ _ (record {
        marks = sym (access_marks s.registers x s.memory q.ask q.width q.address);
        size = sym (access_size s.registers x s.memory q.ask q.width q.address);
        bytes = quiet;
      })

-- what a struck access may do
abbrev pub Quiet : State → Call → State → Type 0
Quiet s c u = (is_access c && secure_thread s (caller c)) ≡ true → (a : ℕ) → visible s.registers s.memory a ≡ true → get_or s.memory.bytes a 0 ≡ get_or u.memory.bytes a 0

secure_of : (t : ℕ) (b : Bool) → (ltb t 8 && b) ≡ true → b ≡ true
secure_of t b e = (and_parts (ltb t 8) b e).1

taken_aside : (s : State) (c : Call) → struck s c ≡ true → Quiet s c (taken s c).1 → Alike s (taken s c).1
taken_aside s (Enter t c) k q = absurd (false≢true k)
taken_aside s (Load t w b i) k q = access_aside s (Load t w b i) (secure_of t _ k) loaded (load_of (asked w b i)) (q k)
taken_aside s (Store t w b i v) k q = access_aside s (Store t w b i v) (secure_of t _ k) stored (store_of (asked w b i) v) (q k)
taken_aside s (Fetch t b i) k q = access_aside s (Fetch t b i) (secure_of t _ k) loaded (fetch_of (fetched b i)) (q k)
taken_aside s (Mark t f k) e q = absurd (false≢true e)
taken_aside s (Report t) k q = alike_same s

-- a struck call leaves a state that is alike
pub aside : (s : State) (c : Call) → struck s c ≡ true → Quiet s c (next s c) → Alike s (next s c)
aside s c k q = go (thread_of s.threads (caller c)) q
  where
    go : (t : Result Thread Refusal) → Quiet s c (by_thread s c t).1 → Alike s (by_thread s c t).1
    go (Ok th) q = taken_aside s c k q
    go (Err r) q = alike_same s

-- ---- a call of an ordinary thread
-- marks, the size and secure bytes are as they were
kept_same : (m : Meaning) → Kept m m
kept_same m = record { marks = refl; size = refl; bytes = λ a h. refl }

access_kept : (s : State) (c : Call) (tell : Result (ℕ × ℕ × ℕ) Fault → Answer) (q : Result Request Unaskable) → s.registers.facility ≡ true
    → (thread_at s.threads (caller c)).context.s ≡ false → Kept s.memory (access_of s c tell q).1.memory
access_kept s c tell (Err e) on o = kept_same s.memory
access_kept s c tell (Ok q) on o =
    let x = (thread_at s.threads (caller c)).context in
    (access_isolated s.registers x s.memory q.ask q.width q.address (confined_on s.registers x on o)).1

taken_kept : (s : State) (c : Call) → s.registers.facility ≡ true → (thread_at s.threads (caller c)).context.s ≡ false → Kept s.memory (taken s c).1.memory
taken_kept s (Enter t c) on o = cond_both (allowed s.registers c) _ _ (λ (p : Answer × State). Kept s.memory p.1.memory) (λ _. kept_same s.memory) (λ _. kept_same s.memory)
taken_kept s (Load t w b i) on o = access_kept s (Load t w b i) loaded (load_of (asked w b i)) on o
taken_kept s (Store t w b i v) on o = access_kept s (Store t w b i v) stored (store_of (asked w b i) v) on o
taken_kept s (Fetch t b i) on o = access_kept s (Fetch t b i) loaded (fetch_of (fetched b i)) on o
taken_kept s (Mark t f k) on o =
    let hv = (thread_at s.threads t).context.hv in
    subst (λ (b : Bool). Kept s.memory (marking (b && hv) (has_frame s.memory f) s f k).1.memory) (sym o) (kept_same s.memory)
taken_kept s (Report t) on o = kept_same s.memory

pub step_kept : (s : State) (c : Call) → s.registers.facility ≡ true → ordinary_thread s (caller c) ≡ true → Kept s.memory (next s c).memory
step_kept s c on o = go (thread_of s.threads (caller c))
  where
    go : (t : Result Thread Refusal) → Kept s.memory (by_thread s c t).1.memory
    go (Ok th) = taken_kept s c on (not-true _ (and_parts (ltb (caller c) 8) _ o).1)
    go (Err r) = kept_same s.memory

-- ---- no call changes a register
access_registers : (s : State) (c : Call) (tell : Result (ℕ × ℕ × ℕ) Fault → Answer) (q : Result Request Unaskable) → (access_of s c tell q).1.registers ≡ s.registers
access_registers s c tell (Ok q) = refl
access_registers s c tell (Err e) = refl

taken_registers : (s : State) (c : Call) → (taken s c).1.registers ≡ s.registers
taken_registers s (Enter t c) = cond_both (allowed s.registers c) _ _ (λ (p : Answer × State). p.1.registers ≡ s.registers) (λ _. refl) (λ _. refl)
taken_registers s (Load t w b i) = access_registers s (Load t w b i) loaded (load_of (asked w b i))
taken_registers s (Store t w b i v) = access_registers s (Store t w b i v) stored (store_of (asked w b i) v)
taken_registers s (Fetch t b i) = access_registers s (Fetch t b i) loaded (fetch_of (fetched b i))
taken_registers s (Mark t f k) =
    let P : Answer × State → Type 0 = λ p. p.1.registers ≡ s.registers in
    cond_both (is_ultravisor (thread_at s.threads t).context) _ _ P (λ _. cond_both (has_frame s.memory f) _ _ P (λ _. refl) (λ _. refl)) (λ _. refl)
taken_registers s (Report t) = refl

pub registers_stay : (s : State) (c : Call) → (next s c).registers ≡ s.registers
registers_stay s c = go (thread_of s.threads (caller c))
  where
    go : (t : Result Thread Refusal) → (by_thread s c t).1.registers ≡ s.registers
    go (Ok th) = taken_registers s c
    go (Err r) = refl
