-- Likeness of states: an equivalence, and what it says of memories. Assumes nothing.
use Rattle.std.proofs.Common.{◌≡◌, ℕ, zero, suc, ◌+◌, ◌*◌, ◌/◌, true, false, not, ◌||◌, ltb, leb, ◌⊎◌, List, [], ◌∷◌, length, set, sym, refl, ap, ◌∙◌, subst, inl, inr, arith}
use Rattle.std.proofs.lemmas.Bool.{or_cases, or_left, or_right, not-true, not_from_false, and_parts, and_from, leb-true, ltb-true, le-leb, lt-ltb}
use Rattle.memory.specs.Protected.{Meaning}
use Rattle.translation.specs.declared.registers.Registers.{Registers}
use Rattle.translation.specs.declared.registers.Context.{Context}
use Rattle.translation.specs.declared.datum.Ask.{Ask}
use Rattle.translation.specs.Program.{secure_at}
use Rattle.translation.specs.Fields.{table_base}
use Rattle.translation.specs.Route.{table_entries}
use Rattle.translation.specs.Alike.{InTable, Alike as AlikeFor}
use Rattle.translation.specs.Isolation.{setting_for}
use Rattle.machine.specs.declared.threads.Thread.{Thread}
use Rattle.machine.specs.State.{State, no_thread, thread_at}
use Rattle.machine.specs.Isolation.{Alike, AlikeMemories, in_table, visible}
use Rattle.machine.proofs.Differences.{secure_in}

-- ---- memories
-- what is visible depends on the marks alone
pub visible_same : (r : Registers) (m n : Meaning) (a : ℕ) → m.marks ≡ n.marks → visible r m a ≡ visible r n a
visible_same r m n a e = λ i. not (secure_in (e i) (a / 4096)) || in_table r a

pub memory_same : (r : Registers) (m : Meaning) → AlikeMemories r m m
memory_same r m = record { marks = refl; size = refl; bytes = λ a v. refl }

memory_back : (r : Registers) (m n : Meaning) → AlikeMemories r m n → AlikeMemories r n m
memory_back r m n h = record { marks = sym h.marks; size = sym h.size; bytes = λ a v. sym (h.bytes a (visible_same r m n a h.marks ∙ v)) }

memory_on : (r : Registers) (l m n : Meaning) → AlikeMemories r l m → AlikeMemories r m n → AlikeMemories r l n
memory_on r l m n p q =
    record { marks = p.marks ∙ q.marks; size = p.size ∙ q.size; bytes = λ a v. p.bytes a v ∙ q.bytes a (sym (visible_same r l m a p.marks) ∙ v) }

-- as the isolation of one access has it
module _ (r : Registers) (m n : Meaning) (c : Context) (ask : Ask) (address : ℕ) where
  pub for_access : AlikeMemories r m n → AlikeFor (setting_for r c ask address) m n
  for_access h =
      record {
        marks = h.marks;
        size = h.size;
        bytes = λ a. elim [
          | inl o ↦ h.bytes a (or_left (not (secure_at m a)) (in_table r a) (not_from_false (secure_at m a) o))
          | inr t ↦ h.bytes a (or_right (not (secure_at m a)) (in_table r a)
              (and_from (leb (table_base r.ptcr) a) (ltb a (table_base r.ptcr + 16 * table_entries r.ptcr)) (le-leb _ _ t.0) (lt-ltb _ _ t.1)))
        ];
      }

  seen : (a : ℕ) → visible r m a ≡ true → (secure_at m a ≡ false) ⊎ InTable (setting_for r c ask address) a
  seen a v =
      elim (or_cases (not (secure_at m a)) (in_table r a) v) [
        | inl o ↦ inl (not-true (secure_at m a) o)
        | inr t ↦
            let p = and_parts (leb (table_base r.ptcr) a) (ltb a (table_base r.ptcr + 16 * table_entries r.ptcr)) t in
            inr (leb-true _ _ p.0, ltb-true _ _ p.1)
      ]

  pub of_access : AlikeFor (setting_for r c ask address) m n → AlikeMemories r m n
  of_access h = record { marks = h.marks; size = h.size; bytes = λ a v. h.bytes a (seen a v) }

-- ---- states
pub alike_same : (s : State) → Alike s s
alike_same s = record { registers = refl; memory = memory_same s.registers s.memory; threads = refl; contexts = λ t. refl; faults = λ t o. refl }

pub alike_back : (s u : State) → Alike s u → Alike u s
alike_back s u h =
    record {
      registers = sym h.registers;
      memory = subst (λ (r : Registers). AlikeMemories r u.memory s.memory) h.registers (memory_back s.registers s.memory u.memory h.memory);
      threads = sym h.threads;
      contexts = λ t. sym (h.contexts t);
      faults = λ t o. sym (h.faults t (ap (λ (c : Context). c.s) (h.contexts t) ∙ o));
    }

pub alike_on : (s u v : State) → Alike s u → Alike u v → Alike s v
alike_on s u v p q =
    record {
      registers = p.registers ∙ q.registers;
      memory = memory_on s.registers s.memory u.memory v.memory p.memory
          (subst (λ (r : Registers). AlikeMemories r u.memory v.memory) (sym p.registers) q.memory);
      threads = p.threads ∙ q.threads;
      contexts = λ t. p.contexts t ∙ q.contexts t;
      faults = λ t o. p.faults t o ∙ q.faults t (ap (λ (c : Context). c.s) (sym (p.contexts t)) ∙ o);
    }

-- ---- threads
-- two threads that ordinary threads cannot tell apart
pub record Like (x y : Thread) : Type 0 where
  pub context : x.context ≡ y.context
  pub fault : x.context.s ≡ false → x.fault ≡ y.fault

pub like_same : (x : Thread) → Like x x
like_same x = record { context = refl; fault = λ o. refl }

-- one thread changed in each of two lists
pub like_set : (xs ys : List Thread) (t : ℕ) (x y : Thread) → length xs ≡ length ys → ((u : ℕ) → Like (thread_at xs u) (thread_at ys u)) → Like x y
    → (u : ℕ) → Like (thread_at (set xs t x) u) (thread_at (set ys t y) u)
like_set [] [] t x y e each l u = each u
like_set [] (b ∷ ys) t x y e each l u = absurd (let z : 0 ≡ suc (length ys) = e in omega arith)
like_set (a ∷ xs) [] t x y e each l u = absurd (let z : suc (length xs) ≡ 0 = e in omega arith)
like_set (a ∷ xs) (b ∷ ys) zero x y e each l zero = l
like_set (a ∷ xs) (b ∷ ys) zero x y e each l (suc u) = each (suc u)
like_set (a ∷ xs) (b ∷ ys) (suc t) x y e each l zero = each zero
like_set (a ∷ xs) (b ∷ ys) (suc t) x y e each l (suc u) =
    like_set xs ys t x y (let z : suc (length xs) ≡ suc (length ys) = e in omega arith) (λ v. each (suc v)) l u

-- one thread changed to one like it
pub like_one : (xs : List Thread) (t : ℕ) (y : Thread) → Like (thread_at xs t) y → (u : ℕ) → Like (thread_at xs u) (thread_at (set xs t y) u)
like_one [] t y l u = like_same no_thread
like_one (a ∷ xs) zero y l zero = l
like_one (a ∷ xs) zero y l (suc u) = like_same (thread_at xs u)
like_one (a ∷ xs) (suc t) y l zero = like_same a
like_one (a ∷ xs) (suc t) y l (suc u) = like_one xs t y l u

pub likes : (s u : State) → Alike s u → (t : ℕ) → Like (thread_at s.threads t) (thread_at u.threads t)
likes s u h t = record { context = h.contexts t; fault = h.faults t }
