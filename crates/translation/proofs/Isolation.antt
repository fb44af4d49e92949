-- An ordinary thread's access depends on no secure byte and changes none, and no access changes a mark or the size. Assumes nothing.
use Rattle.std.proofs.Common.{◌≡◌, ℕ, ◌+◌, ◌*◌, ◌/◌, ◌%◌, ◌<◌, Bool, true, false, cond, not, ◌&&◌, ltb, List, length, get_or, Some, None, Ok, Err, Option, Result, sym, refl, ap, ◌∙◌, subst, inl, inr, arith}
use mathlib.Core.Bool.{false≢true}
use lib.Bits.{bit_or}
use Rattle.std.proofs.lemmas.Bool.{ltb-true}
use Rattle.memory.specs.declared.protected.Mark.{Mark}
use Rattle.memory.specs.declared.protected.Mark.TheVariants.{Ordinary}
use Rattle.memory.specs.Bytes.{number_at}
use Rattle.memory.specs.Protected.{Meaning, size_of, holds, lies_below, is_secure, written}
use Rattle.memory.proofs.Lists.{number_same}
use Rattle.memory.proofs.Laws.{size_written, written_alike, written_other_frame}
use Rattle.translation.specs.declared.fault.Kind.{Kind}
use Rattle.translation.specs.declared.fault.Cause.{Cause}
use Rattle.translation.specs.declared.fault.Cause.TheVariants.{Index, Secure, Beyond}
use Rattle.translation.specs.declared.fault.Layer.{Layer}
use Rattle.translation.specs.declared.fault.Layer.TheVariants.{Partition, Storage}
use Rattle.translation.specs.declared.fault.Fault.{Fault}
use Rattle.translation.specs.declared.fault.Setting.{Setting}
use Rattle.translation.specs.declared.fault.Site.{Site}
use Rattle.translation.specs.declared.tables.Leaf.{Leaf}
use Rattle.translation.specs.declared.tables.Half.{Half}
use Rattle.translation.specs.declared.tables.Half.TheVariants.{First, Second}
use Rattle.translation.specs.Fault.{fault_at}
use Rattle.translation.specs.Tables.{settling_bits, is_settled}
use Rattle.translation.specs.Program.{Program, ret, check, reach, partition_word, table_word, reached_word, settle, amend, datum_word, put_word, tally, bind, secure_at, reachable, doubleword, State, Outcome, reached, partition_site, entry_place, entered, counted, read_reached, write_reached, amended, settled, then_do, run}
use Rattle.translation.specs.Alike.{Alike, AlikeState, SameOutcome, Kept}

-- ---- marks
-- whether the frame of an address is secure, by the marks alone
abbrev secure_by : List Mark → ℕ → Bool
secure_by ms a = cond (ltb (a / 4096) (length ms)) (is_secure (get_or ms (a / 4096) Ordinary)) false

-- addresses of one frame have one mark
secure_frame : (m : Meaning) (a b : ℕ) → a / 4096 ≡ b / 4096 → secure_at m a ≡ secure_at m b
secure_frame m a b e = ap (λ (f : ℕ). cond (ltb f (length m.marks)) (is_secure (get_or m.marks f Ordinary)) false) e

open_cases : (c x z : Bool) → c ≡ true → (x && not (c && z)) ≡ true → z ≡ false
open_cases false x z b h = absurd (false≢true b)
open_cases true true true b h = absurd (false≢true h)
open_cases true true false b h = refl
open_cases true false z b h = absurd (false≢true h)

-- what a confined thread reaches is ordinary
reachable_open : (s : Setting) (m : Meaning) (a : ℕ) → s.confined ≡ true → reachable s m a ≡ true → secure_at m a ≡ false
reachable_open s m a c h = open_cases s.confined (ltb a (size_of m)) (secure_at m a) c h

reached_cases : (x y z : Bool) (f g : Fault) (u : Unit {0}) → x ≡ true → ◌≡◌ {A = Result (Unit {0}) Fault} (cond y (cond (x && z) (Err f) (Ok tt)) (Err g)) (Ok u) → z ≡ false
reached_cases false y z f g u b h = absurd (false≢true b)
reached_cases true true true f g u b h = absurd (let q : ◌≡◌ {A = ℕ} 0 1 = cc in omega arith)
reached_cases true true false f g u b h = refl
reached_cases true false z f g u b h = absurd (let q : ◌≡◌ {A = ℕ} 0 1 = cc in omega arith)

entered_cases : (y z : Bool) (f g : Fault) (u : Unit {0}) → ◌≡◌ {A = Result (Unit {0}) Fault} (cond y (cond z (Ok tt) (Err f)) (Err g)) (Ok u) → y ≡ true
entered_cases true z f g u h = refl
entered_cases false z f g u h = absurd (let q : ◌≡◌ {A = ℕ} 0 1 = cc in omega arith)

-- ---- two memories that are alike
module _ (s : Setting) (m n : Meaning) (h : Alike s m n) where
  reachable_same : (a : ℕ) → reachable s m a ≡ reachable s n a
  reachable_same a = λ i. ltb a (h.size i) && not (s.confined && secure_by (h.marks i) a)

  doubleword_same : (a : ℕ) → ((i : ℕ) → i < 8 → get_or m.bytes (a / 8 * 8 + i) 0 ≡ get_or n.bytes (a / 8 * 8 + i) 0) → doubleword m a ≡ doubleword n a
  doubleword_same a each =
      ap (λ (k : ℕ). cond (lies_below (a / 8 * 8) k) (number_at 8 m.bytes (a / 8 * 8)) 0) h.size
      ∙ ap (λ (v : ℕ). cond (holds n (a / 8 * 8)) v 0) (number_same 8 m.bytes n.bytes (a / 8 * 8) h.size each)

  -- a doubleword of an ordinary frame
  open_same : (a : ℕ) → secure_at m a ≡ false → doubleword m a ≡ doubleword n a
  open_same a o =
      doubleword_same a λ i l.
      let q : (a / 8 * 8 + i) / 4096 ≡ a / 4096 = omega arith in
      h.bytes (a / 8 * 8 + i) (inl (secure_frame m (a / 8 * 8 + i) a q ∙ o))

  -- a doubleword of the partition's entry
  entry_same : (half : Half) → s.table % 8 ≡ 0 → s.lpid < s.entries → doubleword m (entry_place s half) ≡ doubleword n (entry_place s half)
  entry_same Second even l = doubleword_same (entry_place s Second) λ i k. h.bytes _ (inr (omega arith, omega arith))
  entry_same First even l = doubleword_same (entry_place s First) λ i k. h.bytes _ (inr (omega arith, omega arith))

  read_same : (a : ℕ) → s.confined ≡ true → read_reached s m a ≡ read_reached s n a
  read_same a c = go (reachable s m a) (reachable_open s m a c) ∙ ap (λ (b : Bool). cond b (doubleword n a) 0) (reachable_same a)
    where
      go : (b : Bool) → (b ≡ true → secure_at m a ≡ false) → cond b (doubleword m a) 0 ≡ cond b (doubleword n a) 0
      go true o = open_same a (o refl)
      go false o = refl

  written_both : (a v : ℕ) → Alike s (written m a v) (written n a v)
  written_both a v =
      record {
        marks = h.marks;
        size = size_written m a v ∙ h.size ∙ sym (size_written n a v);
        bytes = λ k seen. written_alike m n a v k h.size (h.bytes k seen);
      }

  write_same : (a v w : ℕ) → v ≡ w → Alike s (write_reached s m a v) (write_reached s n a w)
  write_same a v w e =
      subst (λ (u : ℕ). Alike s (write_reached s m a v) (write_reached s n a u)) e
      (subst (λ (b : Bool). Alike s (write_reached s m a v) (cond b (written n (a / 8 * 8) v) n)) (reachable_same a) (go (reachable s m a)))
    where
      go : (b : Bool) → Alike s (cond b (written m (a / 8 * 8) v) m) (cond b (written n (a / 8 * 8) v) n)
      go true = written_both (a / 8 * 8) v
      go false = h

  amended_same : (k : Kind) (a : ℕ) → s.confined ≡ true → Alike s (amended s m k a) (amended s n k a)
  unfolding amended
  amended_same k a c = write_same a _ _ (ap (λ (v : ℕ). bit_or v (settling_bits k)) (read_same a c))

  settled_same : (k : Kind) (l : Option Leaf) → s.confined ≡ true → Alike s (settled s m k l) (settled s n k l)
  unfolding settled
  settled_same k None c = h
  settled_same k (Some l) c = go (is_settled k l.word)
    where
      go : (b : Bool) → Alike s (cond b m (amended s m k l.place)) (cond b n (amended s n k l.place))
      go true = h
      go false = amended_same k l.place c

-- ---- nothing comes out
then_same : {A B : Type 0} (s : Setting) (o p : Outcome A) (f : A → State → Outcome B) → SameOutcome s o p
    → ((a : A) → o.0 ≡ Ok a → SameOutcome s (f a o.1) (f a p.1)) → SameOutcome s (then_do o f) (then_do p f)
then_same {A} {B} s o p f q k = subst (λ (r : Result A Fault). SameOutcome s (then_do o f) (then_do (r, p.1) f)) q.answer (go o.0 k)
  where
    go : (r : Result A Fault) → ((a : A) → r ≡ Ok a → SameOutcome s (f a o.1) (f a p.1)) → SameOutcome s (then_do (r, o.1) f) (then_do (r, p.1) f)
    go (Ok a) k = k a refl
    go (Err x) k = record { answer = refl; state = q.state }

module _ (s : Setting) (x y : State) (h : AlikeState s x y) where
  reached_same : (site : Site) (a : ℕ) → SameOutcome s (reached s x site a, x) (reached s y site a, y)
  reached_same site a =
      record {
        answer = λ i. cond (ltb a (h.memory.size i))
            (cond (s.confined && secure_by (h.memory.marks i) a) (Err (fault_at s site Storage Secure a (h.count i))) (Ok tt))
            (Err (fault_at s site Storage Beyond a (h.count i)));
        state = h;
      }

  entered_same : (half : Half) → SameOutcome s (entered s x half, x) (entered s y half, y)
  entered_same half =
      record {
        answer = λ i. cond (ltb s.lpid s.entries)
            (cond (ltb (entry_place s half) (h.memory.size i)) (Ok tt) (Err (fault_at s partition_site Storage Beyond (entry_place s half) (h.count i))))
            (Err (fault_at s partition_site Partition Index 0 (h.count i)));
        state = h;
      }

  checked_same : {A : Type 0} (site : Site) (l : Layer) (r : Result A Cause) → SameOutcome s (run s x (check site l r)) (run s y (check site l r))
  checked_same site l (Ok a) = record { answer = refl; state = h }
  checked_same site l (Err c) = record { answer = λ i. Err (fault_at s site l c 0 (h.count i)); state = h }

  counted_same : AlikeState s (counted x) (counted y)
  counted_same = record { memory = h.memory; count = ap (λ (n : ℕ). n + 1) h.count }

  table_same : (site : Site) (a : ℕ) (u : Unit {0}) → s.confined ≡ true → reached s x site a ≡ Ok u → doubleword x.memory a ≡ doubleword y.memory a
  table_same site a u c k = open_same s x.memory y.memory h.memory a (reached_cases s.confined _ (secure_at x.memory a) _ _ u c k)

  partition_same : (half : Half) (u : Unit {0}) → s.table % 8 ≡ 0 → entered s x half ≡ Ok u
      → doubleword x.memory (entry_place s half) ≡ doubleword y.memory (entry_place s half)
  partition_same half u even k =
      entry_same s x.memory y.memory h.memory half even (ltb-true s.lpid s.entries (entered_cases (ltb s.lpid s.entries) _ _ _ u k))

-- an ordinary thread's access answers the same, and leaves alike, on memories that are alike for it
pub isolated : (A : Type 0) (s : Setting) (p : Program A) (x y : State) → s.confined ≡ true → s.table % 8 ≡ 0 → AlikeState s x y → SameOutcome s (run s x p) (run s y p)
isolated A s (ret a) x y c e h = record { answer = refl; state = h }
isolated A s (check site l r) x y c e h = checked_same s x y h site l r
isolated A s (reach site a) x y c e h = reached_same s x y h site a
isolated A s (partition_word half) x y c e h =
    then_same s _ _ (λ _ st. (Ok (doubleword st.memory (entry_place s half)), counted st)) (entered_same s x y h half)
    λ u k. record { answer = ap Ok (partition_same s x y h half u e k); state = counted_same s x y h }
isolated A s (table_word site a) x y c e h =
    then_same s _ _ (λ _ st. (Ok (doubleword st.memory a), counted st)) (reached_same s x y h site a)
    λ u k. record { answer = ap Ok (table_same s x y h site a u c k); state = counted_same s x y h }
isolated A s (reached_word a) x y c e h = record { answer = ap Ok (read_same s x.memory y.memory h.memory a c); state = counted_same s x y h }
isolated A s (settle k l) x y c e h = record { answer = refl; state = record { memory = settled_same s x.memory y.memory h.memory k l c; count = h.count } }
isolated A s (amend k a) x y c e h = record { answer = refl; state = record { memory = amended_same s x.memory y.memory h.memory k a c; count = h.count } }
isolated A s (datum_word a) x y c e h = record { answer = ap Ok (read_same s x.memory y.memory h.memory a c); state = h }
isolated A s (put_word a v) x y c e h = record { answer = refl; state = record { memory = write_same s x.memory y.memory h.memory a v v refl; count = h.count } }
isolated A s tally x y c e h = record { answer = ap Ok h.count; state = h }
isolated A s (bind p f) x y c e h =
    let o = isolated _ s p x y c e h in
    then_same s _ _ (λ a st. run s st (f a)) o λ a k. isolated A s (f a) _ _ c e o.state

-- ---- nothing goes in
kept_same : (m : Meaning) → Kept m m
kept_same m = record { marks = refl; size = refl; bytes = λ a h. refl }

kept_on : (l m n : Meaning) → Kept l m → Kept m n → Kept l n
kept_on l m n p q =
    record {
      marks = q.marks ∙ p.marks;
      size = q.size ∙ p.size;
      bytes = λ a h. q.bytes a (ap (λ (ms : List Mark). secure_by ms a) p.marks ∙ h) ∙ p.bytes a h;
    }

module _ (s : Setting) (m : Meaning) (c : s.confined ≡ true) where
  written_kept : (a v : ℕ) → secure_at m a ≡ false → Kept m (written m (a / 8 * 8) v)
  written_kept a v o =
      record {
        marks = refl;
        size = size_written m (a / 8 * 8) v;
        bytes = λ k h. written_other_frame m (a / 8 * 8) v k λ e.
            let q : k / 4096 ≡ a / 4096 = omega arith in
            false≢true (sym o ∙ sym (secure_frame m k a q) ∙ h);
      }

  write_kept : (a v : ℕ) → Kept m (write_reached s m a v)
  write_kept a v = go (reachable s m a) (reachable_open s m a c)
    where
      go : (b : Bool) → (b ≡ true → secure_at m a ≡ false) → Kept m (cond b (written m (a / 8 * 8) v) m)
      go true o = written_kept a v (o refl)
      go false o = kept_same m

  amended_kept : (k : Kind) (a : ℕ) → Kept m (amended s m k a)
  unfolding amended
  amended_kept k a = write_kept a _

  settled_kept : (k : Kind) (l : Option Leaf) → Kept m (settled s m k l)
  unfolding settled
  settled_kept k None = kept_same m
  settled_kept k (Some l) = go (is_settled k l.word)
    where
      go : (b : Bool) → Kept m (cond b m (amended s m k l.place))
      go true = kept_same m
      go false = amended_kept k l.place

then_kept : {A B : Type 0} (m : Meaning) (o : Outcome A) (f : A → State → Outcome B) → Kept m o.1.memory
    → ((a : A) (st : State) → Kept m st.memory → Kept m (f a st).1.memory) → Kept m (then_do o f).1.memory
then_kept {A} m o f h k = go o.0
  where
    go : (r : Result A Fault) → Kept m (then_do (r, o.1) f).1.memory
    go (Ok a) = k a o.1 h
    go (Err x) = h

-- an ordinary thread's access leaves every mark, the size and every secure byte
pub kept : (A : Type 0) (s : Setting) (p : Program A) (x : State) → s.confined ≡ true → Kept x.memory (run s x p).1.memory
kept A s (ret a) x c = kept_same x.memory
kept A s (check site l r) x c = kept_same x.memory
kept A s (reach site a) x c = kept_same x.memory
kept A s (partition_word half) x c =
    then_kept x.memory (entered s x half, x) (λ _ st. (Ok (doubleword st.memory (entry_place s half)), counted st)) (kept_same x.memory) λ a st h. h
kept A s (table_word site a) x c =
    then_kept x.memory (reached s x site a, x) (λ _ st. (Ok (doubleword st.memory a), counted st)) (kept_same x.memory) λ a st h. h
kept A s (reached_word a) x c = kept_same x.memory
kept A s (settle k l) x c = settled_kept s x.memory c k l
kept A s (amend k a) x c = amended_kept s x.memory c k a
kept A s (datum_word a) x c = kept_same x.memory
kept A s (put_word a v) x c = write_kept s x.memory c a v
kept A s tally x c = kept_same x.memory
kept A s (bind p f) x c =
    then_kept x.memory (run s x p) (λ a st. run s st (f a)) (kept _ s p x c) λ a st h. kept_on x.memory st.memory _ h (kept A s (f a) st c)

-- ---- whoever asks
-- the same marks, and as many bytes
record Shaped (m n : Meaning) : Type 0 where
  marks : n.marks ≡ m.marks
  size : size_of n ≡ size_of m

shaped_same : (m : Meaning) → Shaped m m
shaped_same m = record { marks = refl; size = refl }

shaped_on : (l m n : Meaning) → Shaped l m → Shaped m n → Shaped l n
shaped_on l m n p q = record { marks = q.marks ∙ p.marks; size = q.size ∙ p.size }

module _ (s : Setting) (m : Meaning) where
  write_shaped : (a v : ℕ) → Shaped m (write_reached s m a v)
  write_shaped a v = go (reachable s m a)
    where
      go : (b : Bool) → Shaped m (cond b (written m (a / 8 * 8) v) m)
      go true = record { marks = refl; size = size_written m (a / 8 * 8) v }
      go false = shaped_same m

  amended_shaped : (k : Kind) (a : ℕ) → Shaped m (amended s m k a)
  unfolding amended
  amended_shaped k a = write_shaped a _

  settled_shaped : (k : Kind) (l : Option Leaf) → Shaped m (settled s m k l)
  unfolding settled
  settled_shaped k None = shaped_same m
  settled_shaped k (Some l) = go (is_settled k l.word)
    where
      go : (b : Bool) → Shaped m (cond b m (amended s m k l.place))
      go true = shaped_same m
      go false = amended_shaped k l.place

then_shaped : {A B : Type 0} (m : Meaning) (o : Outcome A) (f : A → State → Outcome B) → Shaped m o.1.memory
    → ((a : A) (st : State) → Shaped m st.memory → Shaped m (f a st).1.memory) → Shaped m (then_do o f).1.memory
then_shaped {A} m o f h k = go o.0
  where
    go : (r : Result A Fault) → Shaped m (then_do (r, o.1) f).1.memory
    go (Ok a) = k a o.1 h
    go (Err x) = h

shaped : (A : Type 0) (s : Setting) (p : Program A) (x : State) → Shaped x.memory (run s x p).1.memory
shaped A s (ret a) x = shaped_same x.memory
shaped A s (check site l r) x = shaped_same x.memory
shaped A s (reach site a) x = shaped_same x.memory
shaped A s (partition_word half) x =
    then_shaped x.memory (entered s x half, x) (λ _ st. (Ok (doubleword st.memory (entry_place s half)), counted st)) (shaped_same x.memory) λ a st h. h
shaped A s (table_word site a) x =
    then_shaped x.memory (reached s x site a, x) (λ _ st. (Ok (doubleword st.memory a), counted st)) (shaped_same x.memory) λ a st h. h
shaped A s (reached_word a) x = shaped_same x.memory
shaped A s (settle k l) x = settled_shaped s x.memory k l
shaped A s (amend k a) x = amended_shaped s x.memory k a
shaped A s (datum_word a) x = shaped_same x.memory
shaped A s (put_word a v) x = write_shaped s x.memory a v
shaped A s tally x = shaped_same x.memory
shaped A s (bind p f) x =
    then_shaped x.memory (run s x p) (λ a st. run s st (f a)) (shaped _ s p x) λ a st h. shaped_on x.memory st.memory _ h (shaped A s (f a) st)

-- no access changes a mark
pub marks_stay : (A : Type 0) (s : Setting) (p : Program A) (x : State) → (run s x p).1.memory.marks ≡ x.memory.marks
marks_stay A s p x = (shaped A s p x).marks

-- no access changes the size
pub size_stays : (A : Type 0) (s : Setting) (p : Program A) (x : State) → size_of (run s x p).1.memory ≡ size_of x.memory
size_stays A s p x = (shaped A s p x).size
