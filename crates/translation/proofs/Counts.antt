-- A fault, and the answer of an access, hold the count at which the program ended. Assumes nothing.
use Rattle.std.proofs.Common.{◌≡◌, ℕ, ◌≤◌, Bool, true, false, cond, ◌&&◌, ltb, Ok, Err, Result, refl, subst, arith}
use Rattle.memory.specs.Protected.{size_of}
use Rattle.translation.specs.declared.fault.Kind.{Kind}
use Rattle.translation.specs.declared.fault.Cause.{Cause}
use Rattle.translation.specs.declared.fault.Cause.TheVariants.{Index, Secure, Beyond}
use Rattle.translation.specs.declared.fault.Layer.{Layer}
use Rattle.translation.specs.declared.fault.Layer.TheVariants.{Partition, Storage}
use Rattle.translation.specs.declared.fault.Fault.{Fault}
use Rattle.translation.specs.declared.fault.Setting.{Setting}
use Rattle.translation.specs.declared.fault.Site.{Site}
use Rattle.translation.specs.declared.tables.Half.{Half}
use Rattle.translation.specs.declared.registers.Route.{Route}
use Rattle.translation.specs.declared.registers.Route.TheVariants.{NoSegment, AtReal, AtGuest, AtProcess}
use Rattle.translation.specs.declared.datum.Ask.{Ask}
use Rattle.translation.specs.declared.datum.Ask.TheVariants.{ToLoad, ToFetch, ToStore}
use Rattle.translation.specs.Fault.{fault_at, faulted}
use Rattle.translation.specs.Program.{Program, ret, check, reach, partition_word, table_word, reached_word, settle, amend, datum_word, put_word, tally, bind, secure_at, doubleword, State, Outcome, reached, partition_site, entry_place, entered, counted, then_do, run}
use Rattle.translation.specs.Access.{use_datum, real_access, guest_access, process_access, access_by, FewRead}

-- ---- faults
-- a fault among the results holds a count
abbrev Stops : {A : Type 0} → Result A Fault → ℕ → Type 0
Stops (Ok a) n = Unit {0}
Stops (Err f) n = f.count ≡ n

fault_stops : (s : Setting) (site : Site) (l : Layer) (c : Cause) (real n : ℕ) → (fault_at s site l c real n).count ≡ n
unfolding fault_at
fault_stops s site l c real n = refl

faulted_stops : {A : Type 0} (s : Setting) (site : Site) (l : Layer) (n : ℕ) (r : Result A Cause) → Stops (faulted s site l n r) n
faulted_stops s site l n (Ok a) = tt
faulted_stops s site l n (Err c) = fault_stops s site l c 0 n

then_stops : {A B : Type 0} (o : Outcome A) (f : A → State → Outcome B) → Stops o.0 o.1.count
    → ((a : A) (st : State) → Stops (f a st).0 (f a st).1.count) → Stops (then_do o f).0 (then_do o f).1.count
then_stops {A} o f h k = go o.0 h
  where
    go : (r : Result A Fault) → Stops r o.1.count → Stops (then_do (r, o.1) f).0 (then_do (r, o.1) f).1.count
    go (Ok a) h = k a o.1
    go (Err x) h = h

module _ (s : Setting) (x : State) where
  reached_stops : (site : Site) (a : ℕ) → Stops (reached s x site a) x.count
  reached_stops site a = go (ltb a (size_of x.memory)) (s.confined && secure_at x.memory a)
    where
      go : (b c : Bool) → Stops {A = Unit {0}} (cond b (cond c (Err (fault_at s site Storage Secure a x.count)) (Ok tt)) (Err (fault_at s site Storage Beyond a x.count))) x.count
      go true true = fault_stops s site Storage Secure a x.count
      go true false = tt
      go false c = fault_stops s site Storage Beyond a x.count

  entered_stops : (half : Half) → Stops (entered s x half) x.count
  entered_stops half = go (ltb s.lpid s.entries) (ltb (entry_place s half) (size_of x.memory))
    where
      go : (b c : Bool) → Stops {A = Unit {0}} (cond b (cond c (Ok tt) (Err (fault_at s partition_site Storage Beyond (entry_place s half) x.count))) (Err (fault_at s partition_site Partition Index 0 x.count))) x.count
      go true true = tt
      go true false = fault_stops s partition_site Storage Beyond (entry_place s half) x.count
      go false c = fault_stops s partition_site Partition Index 0 x.count

stops : (A : Type 0) (s : Setting) (p : Program A) (x : State) → Stops (run s x p).0 (run s x p).1.count
stops A s (ret a) x = tt
stops A s (check site l r) x = faulted_stops s site l x.count r
stops A s (reach site a) x = reached_stops s x site a
stops A s (partition_word half) x =
    then_stops (entered s x half, x) (λ _ st. (Ok (doubleword st.memory (entry_place s half)), counted st)) (entered_stops s x half) λ a st. tt
stops A s (table_word site a) x =
    then_stops (reached s x site a, x) (λ _ st. (Ok (doubleword st.memory a), counted st)) (reached_stops s x site a) λ a st. tt
stops A s (reached_word a) x = tt
stops A s (settle k l) x = tt
stops A s (amend k a) x = tt
stops A s (datum_word a) x = tt
stops A s (put_word a v) x = tt
stops A s tally x = tt
stops A s (bind p f) x = then_stops (run s x p) (λ a st. run s st (f a)) (stops _ s p x) λ a st. stops A s (f a) st

-- a fault holds the count at which the program stopped
pub fault_counts : (A : Type 0) (s : Setting) (p : Program A) (x : State) (f : Fault) → (run s x p).0 ≡ Err f → f.count ≡ (run s x p).1.count
fault_counts A s p x f e = subst (λ (r : Result A Fault). Stops r (run s x p).1.count) e (stops A s p x)

-- ---- answers
-- an answer among the results holds a count
abbrev Tells : Result (ℕ × ℕ × ℕ) Fault → ℕ → Type 0
Tells (Ok t) n = t.2 ≡ n
Tells (Err f) n = Unit {0}

then_tells : {A : Type 0} (o : Outcome A) (f : A → State → Outcome (ℕ × ℕ × ℕ)) → ((a : A) (st : State) → Tells (f a st).0 (f a st).1.count)
    → Tells (then_do o f).0 (then_do o f).1.count
then_tells {A} o f k = go o.0
  where
    go : (r : Result A Fault) → Tells (then_do (r, o.1) f).0 (then_do (r, o.1) f).1.count
    go (Ok a) = k a o.1
    go (Err x) = tt

-- a program of which every answer holds the count
record Telling (s : Setting) (p : Program (ℕ × ℕ × ℕ)) : Type 0 where
  tells : (x : State) → Tells (run s x p).0 (run s x p).1.count

module _ (s : Setting) where
  after : {A : Type 0} {p : Program A} {f : A → Program (ℕ × ℕ × ℕ)} → ((a : A) → Telling s (f a)) → Telling s (bind p f)
  after {A} {p} {f} k = record { tells = λ x. then_tells (run s x p) (λ a st. run s st (f a)) λ a st. (k a).tells st }

  datum_tells : (ask : Ask) (w offset a : ℕ) → Telling s (use_datum ask w offset a)
  unfolding use_datum
  datum_tells ToLoad w offset a = record { tells = λ x. refl }
  datum_tells ToFetch w offset a = record { tells = λ x. refl }
  datum_tells (ToStore v) w offset a = record { tells = λ x. refl }

  real_tells : (ask : Ask) (w offset a : ℕ) → Telling s (real_access ask w offset a)
  unfolding real_access
  real_tells ask w offset a = after λ _. datum_tells ask w offset a

  guest_tells : (k : Kind) (lpid : ℕ) (ask : Ask) (w offset a : ℕ) → Telling s (guest_access k lpid ask w offset a)
  unfolding guest_access
  guest_tells k lpid ask w offset a = after λ e. after λ g. after λ _. datum_tells ask w offset g.real

  process_tells : (k : Kind) (lpid pid : ℕ) (problem : Bool) (ask : Ask) (w offset o : ℕ) → Telling s (process_access k lpid pid problem ask w offset o)
  unfolding process_access
  process_tells k lpid pid problem ask w offset o = after λ e. after λ d. after λ l. after λ g. after λ _. after λ _. datum_tells ask w offset g.real

  access_tells : (route : Route) (k : Kind) (problem : Bool) (ask : Ask) (w offset : ℕ) → Telling s (access_by route k problem ask w offset)
  unfolding access_by
  access_tells NoSegment k problem ask w offset = record { tells = λ x. tt }
  access_tells (AtReal a) k problem ask w offset = real_tells ask w offset a
  access_tells (AtGuest l a) k problem ask w offset = guest_tells k l ask w offset a
  access_tells (AtProcess l p o) k problem ask w offset = process_tells k l p problem ask w offset o

-- an access that goes through answers the count
pub access_counts : (s : Setting) (route : Route) (k : Kind) (problem : Bool) (ask : Ask) (w offset : ℕ) (x : State) (t : ℕ × ℕ × ℕ) → (run s x (access_by route k problem ask w offset)).0 ≡ Ok t → t.2 ≡ (run s x (access_by route k problem ask w offset)).1.count
access_counts s route k problem ask w offset x t e =
    subst (λ (r : Result (ℕ × ℕ × ℕ) Fault). Tells r (run s x (access_by route k problem ask w offset)).1.count) e ((access_tells s route k problem ask w offset).tells x)

-- ---- both
few_by : (r : Result (ℕ × ℕ × ℕ) Fault) (n : ℕ) → Stops r n → Tells r n → n ≤ 35 → FewRead r
few_by (Ok t) n h k l = omega arith
few_by (Err f) n h k l = omega arith

pub few_read : (s : Setting) (route : Route) (k : Kind) (problem : Bool) (ask : Ask) (w offset : ℕ) (x : State) → (run s x (access_by route k problem ask w offset)).1.count ≤ 35 → FewRead (run s x (access_by route k problem ask w offset)).0
few_read s route k problem ask w offset x h =
    few_by _ _ (stops _ s (access_by route k problem ask w offset) x) ((access_tells s route k problem ask w offset).tells x) h
