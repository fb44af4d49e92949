-- Where two readings agree everywhere, nothing differs. Assumes nothing.
use Rattle.std.proofs.Common.{◌≡◌, ℕ, zero, suc, ◌+◌, ◌/◌, Bool, true, false, if◌then◌else◌, not, ◌&&◌, ◌||◌, eqb, ltb, List, [], ◌∷◌, length, get_or, Option, sym, refl, ap, ◌∙◌, arith}
use Rattle.std.proofs.lemmas.Bool.{eq-eqb, and_from}
use Rattle.memory.specs.declared.protected.Mark.{Mark}
use Rattle.memory.specs.declared.protected.Mark.TheVariants.{Ordinary}
use Rattle.memory.specs.Protected.{size_of, is_secure, number_of}
use Rattle.translation.specs.declared.fault.Fault.{Fault}
use Rattle.translation.specs.declared.registers.Context.{Context}
use Rattle.translation.specs.Program.{secure_at}
use Rattle.machine.specs.State.{State}
use Rattle.machine.specs.Isolation.{Alike, same, differing, reading, flag, in_table, visible, mark_read, visible_read, secret_read, context_read, fault_numbers, fault_read, differences, secret_differences, frames_in, bytes_in}

same_itself : (xs : List ℕ) → same xs xs ≡ true
same_itself [] = refl
same_itself (x ∷ xs) = and_from (eqb x x) (same xs xs) (eq-eqb x x refl) (same_itself xs)

differing_none : (f g : ℕ → List ℕ) (n : ℕ) → ((i : ℕ) → f i ≡ g i) → differing f g n ≡ 0
unfolding differing
differing_none f g zero each = refl
differing_none f g (suc n) each =
    let e : same (f n) (g n) ≡ true = ap (same (f n)) (sym (each n)) ∙ same_itself (f n) in
    let none = differing_none f g n each in
    ap (λ (b : Bool). differing f g n + (if b then 0 else 1)) e ∙ omega arith

-- a byte is read alike where it is the same, if it is read at all
read_same : (inside shown : Bool) (x y : ℕ) → (shown ≡ true → x ≡ y) → reading (inside && shown) x ≡ reading (inside && shown) y
read_same true true x y e = ap (λ v. v ∷ []) (e refl)
read_same true false x y e = refl
read_same false shown x y e = refl

-- whether the frame of an address is secure, by the marks alone
abbrev pub secure_in : List Mark → ℕ → Bool
secure_in ms f = if ltb f (length ms) then is_secure (get_or ms f Ordinary) else false

marks_same : (s u : State) → s.memory.marks ≡ u.memory.marks → (f : ℕ) → mark_read s f ≡ mark_read u f
marks_same s u e f = λ i. reading (ltb f (length (e i))) (number_of (get_or (e i) f Ordinary))

faults_same : (c d : Context) (f g : Option Fault) → c ≡ d → (c.s ≡ false → f ≡ g) → (if c.s then [] else fault_numbers f) ≡ (if d.s then [] else fault_numbers g)
faults_same c d f g e h = go c.s refl ∙ ap (λ (x : Context). (if x.s then [] else fault_numbers g)) e
  where
    go : (b : Bool) → c.s ≡ b → (if b then [] else fault_numbers f) ≡ (if b then [] else fault_numbers g)
    go true q = refl
    go false q = ap fault_numbers (h q)

-- states that are alike do not differ in what ordinary threads may see
pub alike_differences : (s u : State) → Alike s u → differences s u ≡ 0
alike_differences s u h =
    let marks = differing_none (mark_read s) (mark_read u) (frames_in s u) (marks_same s u h.memory.marks) in
    let bytes = differing_none (visible_read s) (visible_read u) (bytes_in s u) (λ a.
    read_same (ltb a (size_of s.memory)) (visible s.registers s.memory a) _ _ (h.memory.bytes a)
    ∙ (λ i. reading (ltb a (h.memory.size i) && (not (secure_in (h.memory.marks i) (a / 4096)) || in_table (h.registers i) a)) (get_or u.memory.bytes a 0))) in
    let contexts = differing_none (context_read s) (context_read u) 8 (λ t. ap (λ (c : Context).
    flag c.s ∷ flag c.hv ∷ flag c.pr ∷ flag c.ir ∷ flag c.dr ∷ flag c.sf ∷ c.lpid ∷ c.pid ∷ []) (h.contexts t)) in
    let faults = differing_none (fault_read s) (fault_read u) 8 (λ t. faults_same _ _ _ _ (h.contexts t) (h.faults t)) in
    omega arith

-- a state with the same marks and secure bytes differs in neither
pub secret_same : (s u : State) → u.memory.marks ≡ s.memory.marks → size_of u.memory ≡ size_of s.memory
    → ((a : ℕ) → secure_at s.memory a ≡ true → get_or u.memory.bytes a 0 ≡ get_or s.memory.bytes a 0) → secret_differences s u ≡ 0
secret_same s u m z b =
    let marks = differing_none (mark_read s) (mark_read u) (frames_in s u) (marks_same s u (sym m)) in
    let bytes = differing_none (secret_read s) (secret_read u) (bytes_in s u) (λ a.
    read_same (ltb a (size_of s.memory)) (secure_at s.memory a) _ _ (λ q. sym (b a q))
    ∙ (λ i. reading (ltb a (sym z i) && secure_in (sym m i) (a / 4096)) (get_or u.memory.bytes a 0))) in
    omega arith
