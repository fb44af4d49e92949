-- Ordinary threads learn nothing and alter nothing, over whole lists of calls. Assumes nothing.
use Rattle.std.proofs.Common.{◌≡◌, suc, Bool, true, false, if◌then◌else◌, List, [], ◌∷◌, length, sym, refl, ap, ◌∙◌, subst, arith}
use Rattle.memory.specs.Protected.{Meaning}
use Rattle.translation.specs.declared.registers.Registers.{Registers}
use Rattle.machine.specs.declared.calls.Call.{Call}
use Rattle.machine.specs.declared.calls.Answer.{Answer}
use Rattle.machine.specs.State.{State, started}
use Rattle.machine.specs.Calls.{caller, step}
use Rattle.machine.specs.Runs.{runs}
use Rattle.machine.specs.Isolation.{Alike, ordinary_thread, next, struck, unless_struck, remaining, watched, Harmless, secret_differences, Agreeing, LearnsNothing, LearnsNothingOn, AltersNothing, Isolated}
use Rattle.machine.proofs.Differences.{alike_differences, secret_same}
use Rattle.machine.proofs.Likeness.{alike_back, alike_on}
use Rattle.machine.proofs.Together.{together, aside, step_kept, registers_stay}

still_on : (s : State) (c : Call) → s.registers.facility ≡ true → (next s c).registers.facility ≡ true
still_on s c on = ap (λ (r : Registers). r.facility) (registers_stay s c) ∙ on

-- ---- the way out
nothing_left : (c : Call) (cs : List Call) → [] ≡ c ∷ cs → ⊥
nothing_left c cs e = let z : 0 ≡ suc (length cs) = ap length e in omega arith

-- two runs so far: what was watched agrees, and the states are alike
record Matched (ws vs : List (Answer × State)) (s u : State) : Type 0 where
  calls : Agreeing ws vs
  end : Alike s u

abbrev Matches : State → List Call → State → List Call → Type 0
Matches s cs u ds = Matched (watched s cs) (watched u ds) (runs s cs).1 (runs u ds).1

-- the first list has ended: what is left of the second is struck
module _ (s : State) where
  rest : (ds : List Call) (u : State) → Alike s u → [] ≡ remaining u ds → Harmless u ds → Matches s [] u ds
  unfolding runs
  rest [] u h e q = record { calls = tt; end = h }
  rest (d ∷ ds) u h e q = go (struck u d) refl e (λ h e. rest ds (next u d) h e q.1)
    where
      go : (b : Bool) → struck u d ≡ b → [] ≡ unless_struck b d (remaining (next u d) ds)
          → (Alike s (next u d) → [] ≡ remaining (next u d) ds → Matched [] (watched (next u d) ds) s (runs (next u d) ds).1)
          → Matched [] (unless_struck b (step u d) (watched (next u d) ds)) s (runs (next u d) ds).1
      go true k e later = later (alike_on s u (next u d) h (aside u d k q.0)) e
      go false k e later = absurd (nothing_left d _ e)

-- a remaining call of the first list meets its counterpart, behind what is struck of the second
module _ (s : State) (on : s.registers.facility ≡ true) (c : Call) (cs : List Call) (kept : struck s c ≡ false)
    (more : (u : State) (ds : List Call) → Alike (next s c) u → remaining (next s c) cs ≡ remaining u ds → Harmless u ds → Matches (next s c) cs u ds) where
  Met : List (Answer × State) → State → Type 0
  Met vs end = Matched (step s c ∷ watched (next s c) cs) vs (runs (next s c) cs).1 end

  pair : (u : State) (ds : List Call) → Alike s u → remaining (next s c) cs ≡ remaining (next u c) ds → Harmless (next u c) ds
      → Met (step u c ∷ watched (next u c) ds) (runs (next u c) ds).1
  unfolding Met
  pair u ds h e q =
      let b = together s u c h on kept in
      let z = more (next u c) ds b.state e q in
      record { calls = ((b.answer, alike_differences _ _ b.state), z.calls); end = z.end }

  meet : (ds : List Call) (u : State) → Alike s u → c ∷ remaining (next s c) cs ≡ remaining u ds → Harmless u ds → Met (watched u ds) (runs u ds).1
  unfolding Met runs
  meet [] u h e q = absurd (nothing_left c _ (sym e))
  meet (d ∷ ds) u h e q = go (struck u d) refl e (λ h e. meet ds (next u d) h e q.1)
    where
      go : (b : Bool) → struck u d ≡ b → c ∷ remaining (next s c) cs ≡ unless_struck b d (remaining (next u d) ds)
          → (Alike s (next u d) → c ∷ remaining (next s c) cs ≡ remaining (next u d) ds → Met (watched (next u d) ds) (runs (next u d) ds).1)
          → Met (unless_struck b (step u d) (watched (next u d) ds)) (runs (next u d) ds).1
      go true k e later = later (alike_on s u (next u d) h (aside u d k q.0)) e
      go false k e later =
          let p : c ≡ d = cc in
          let t : remaining (next s c) cs ≡ remaining (next u d) ds = cc in
          subst (λ (x : Call). remaining (next s c) cs ≡ remaining (next u x) ds → Harmless (next u x) ds → Met (step u x ∷ watched (next u x) ds) (runs (next u x) ds).1) p
          (λ t q. pair u ds h t q) t q.1

matches : (cs : List Call) (s : State) → s.registers.facility ≡ true → Harmless s cs
    → (u : State) (ds : List Call) → Alike s u → remaining s cs ≡ remaining u ds → Harmless u ds → Matches s cs u ds
unfolding Met runs
matches [] s on p u ds h e q = rest s ds u h e q
matches (c ∷ cs) s on p u ds h e q = go (struck s c) refl e (matches cs (next s c) (still_on s c on) p.1)
  where
    go : (b : Bool) → struck s c ≡ b → unless_struck b c (remaining (next s c) cs) ≡ remaining u ds
        → ((v : State) (es : List Call) → Alike (next s c) v → remaining (next s c) cs ≡ remaining v es → Harmless v es → Matches (next s c) cs v es)
        → Matched (unless_struck b (step s c) (watched (next s c) cs)) (watched u ds) (runs (next s c) cs).1 (runs u ds).1
    go true k e later = later u ds (alike_on (next s c) s u (alike_back s (next s c) (aside s c k p.0)) h) e q
    go false k e later = meet s on c cs k later ds u h e q

learns_nothing_on : (s : State) (cs : List Call) → LearnsNothingOn s cs
learns_nothing_on s cs u ds on h e p q =
    let z = matches cs s on p u ds h e q in
    record { calls = z.calls; end = alike_differences _ _ z.end }

learns_nothing : (r : Registers) (m : Meaning) (cs : List Call) → LearnsNothing r m cs
learns_nothing r m cs n ds on h =
    learns_nothing_on (started r m) cs (started r n) ds on (record { registers = refl; memory = h; threads = refl; contexts = λ t. refl; faults = λ t o. refl })

-- ---- the way in
alters_nothing : (cs : List Call) (s : State) → AltersNothing s cs
alters_nothing [] s on = refl
alters_nothing (c ∷ cs) s on =
    let later = alters_nothing cs (next s c) (still_on s c on) in
    let here = go (ordinary_thread s (caller c)) refl in
    omega arith
  where
    go : (b : Bool) → ordinary_thread s (caller c) ≡ b → (if b then secret_differences s (next s c) else 0) ≡ 0
    go true o = let k = step_kept s c on o in secret_same s (next s c) k.marks k.size k.bytes
    go false o = refl

pub isolated : (s : State) (cs : List Call) → Isolated s cs
isolated s cs = record { out = λ r m e. learns_nothing r m cs; on = learns_nothing_on s cs; into = alters_nothing cs s }
