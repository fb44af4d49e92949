-- Programs whose second looks never matter. Assumes nothing.
use Rattle.std.proofs.Common.{◌≡◌, ℕ, zero, suc, ◌+◌, ◌-◌, ◌*◌, ◌/◌, ◌%◌, Bool, true, false, cond, not, ◌&&◌, ltb, List, length, get_or, Some, None, Ok, Err, Option, Result, sym, refl, ap, ◌∙◌, subst, arith}
use lib.Bits.{bit_or}
use Rattle.std.proofs.lemmas.Bool.{cond-true}
use Rattle.memory.specs.declared.protected.Mark.{Mark}
use Rattle.memory.specs.declared.protected.Mark.TheVariants.{Ordinary}
use Rattle.memory.specs.Protected.{Meaning, size_of, written, is_secure}
use Rattle.translation.specs.declared.fault.Kind.{Kind}
use Rattle.translation.specs.declared.fault.Kind.TheVariants.{Load, Store}
use Rattle.translation.specs.declared.fault.Cause.{Cause}
use Rattle.translation.specs.declared.fault.Cause.TheVariants.{Unsupported, Invalid}
use Rattle.translation.specs.declared.fault.Layer.{Layer}
use Rattle.translation.specs.declared.fault.Purpose.{Purpose}
use Rattle.translation.specs.declared.fault.Purpose.TheVariants.{Settling}
use Rattle.translation.specs.declared.fault.Fault.{Fault}
use Rattle.translation.specs.declared.fault.Setting.{Setting}
use Rattle.translation.specs.declared.fault.Site.{Site}
use Rattle.translation.specs.declared.tables.Table.{Table}
use Rattle.translation.specs.declared.tables.Leaf.{Leaf}
use Rattle.translation.specs.declared.tables.Half.{Half}
use Rattle.translation.specs.declared.tables.Half.TheVariants.{First, Second}
use Rattle.translation.specs.declared.tables.Step.{Step}
use Rattle.translation.specs.declared.tables.Step.TheVariants.{Next, Found}
use Rattle.translation.specs.declared.tables.Partition.{Partition as Entry}
use Rattle.translation.specs.declared.partition.Reached.{Reached}
use Rattle.translation.specs.declared.registers.Route.{Route}
use Rattle.translation.specs.declared.registers.Route.TheVariants.{NoSegment, AtReal, AtGuest, AtProcess}
use Rattle.translation.specs.declared.datum.Ask.{Ask}
use Rattle.translation.specs.declared.datum.Ask.TheVariants.{ToLoad, ToFetch, ToStore}
use Rattle.translation.specs.Fields.{valid, leaf, next_width, next_base}
use Rattle.translation.specs.Fault.{faulted}
use Rattle.translation.specs.Tables.{settling_bits, is_settled, place_of, step_of, leaf_of, table_of, unless, page_bits, page_address, flawed_table, found, next}
use Rattle.translation.specs.Program.{Program, ret, check, reach, partition_word, table_word, reached_word, settle, amend, datum_word, put_word, tally, bind, State, state, doubleword, secure_at, reachable, counted, reached, amended, settled, then_do, run}
use Rattle.translation.specs.Route.{effective, route_of, lpid_of, setting_of}
use Rattle.translation.specs.Access.{kind_of, walk, guest_reach, guest_word, partition_entry, process_entry, process_leaf, settle_process, use_datum, real_access, guest_access, process_access, access_by}
use Rattle.translation.proofs.Isolation.{marks_stay, size_stays}
use Rattle.translation_laws.specs.Unguarded.{plainly_amended, plainly_settled, run_plainly, GuardsIdle}

-- memories of the same marks and size
record Shape (m n : Meaning) : Type 0 where
  marks : n.marks ≡ m.marks
  size : size_of n ≡ size_of m

secure_by : List Mark → ℕ → Bool
secure_by ms a = cond (ltb (a / 4096) (length ms)) (is_secure (get_or ms (a / 4096) Ordinary)) false

reachable_same : (s : Setting) (m n : Meaning) (a : ℕ) → Shape m n → reachable s n a ≡ reachable s m a
unfolding secure_by
reachable_same s m n a h = λ i. ltb a (h.size i) && not (s.confined && secure_by (h.marks i) a)

shape_run : {A : Type 0} (s : Setting) (m : Meaning) (p : Program A) (x : State) → Shape m x.memory → Shape m (run s x p).1.memory
shape_run {A} s m p x h = record { marks = marks_stay A s p x ∙ h.marks; size = size_stays A s p x ∙ h.size }

reached_cases : (c y z : Bool) (f g : Fault) (u : Unit {0}) → ◌≡◌ {A = Result (Unit {0}) Fault} (cond y (cond (c && z) (Err f) (Ok tt)) (Err g)) (Ok u) → (y && not (c && z)) ≡ true
reached_cases true true true f g u h = absurd (let q : ◌≡◌ {A = ℕ} 0 1 = cc in omega arith)
reached_cases true true false f g u h = refl
reached_cases false true z f g u h = refl
reached_cases c false z f g u h = absurd (let q : ◌≡◌ {A = ℕ} 0 1 = cc in omega arith)

-- a program that answers and leaves the same without its second looks, and of whose answer Q holds, from every memory of
-- m's marks and size
record Sure {A : Type 0} (s : Setting) (m : Meaning) (p : Program A) (Q : A → Type 0) : Type 0 where
  same : (x : State) → Shape m x.memory → run s x p ≡ run_plainly s x p
  gives : (x : State) → Shape m x.memory → (a : A) → (run s x p).0 ≡ Ok a → Q a

-- nothing to say of an answer
abbrev Any : {A : Type 0} → A → Type 0
Any a = Unit {0}

-- ---- one question
module _ (s : Setting) (m : Meaning) where
  Can : ℕ → Type 0
  Can a = reachable s m a ≡ true

  can_here : (x : State) (a : ℕ) → Shape m x.memory → Can a → reachable s x.memory a ≡ true
  unfolding Can
  can_here x a h c = reachable_same s m x.memory a h ∙ c

  can_there : (x : State) (site : Site) (a : ℕ) (u : Unit {0}) → Shape m x.memory → reached s x site a ≡ Ok u → Can a
  unfolding Can
  can_there x site a u h e = sym (reachable_same s m x.memory a h) ∙ reached_cases s.confined (ltb a (size_of x.memory)) (secure_at x.memory a) _ _ u e

  sure_ret : {A : Type 0} (Q : A → Type 0) (a : A) → Q a → Sure s m (ret a) Q
  sure_ret {A} Q a q = record { same = λ x h. refl; gives = λ x h b e. subst Q (got b e) q }
    where
      got : (b : A) → ◌≡◌ {A = Result A Fault} (Ok a) (Ok b) → a ≡ b
      got b e = cc

  sure_check : {A : Type 0} (Q : A → Type 0) (site : Site) (l : Layer) (r : Result A Cause) → ((a : A) → r ≡ Ok a → Q a) → Sure s m (check site l r) Q
  sure_check {A} Q site l r q = record { same = λ x h. refl; gives = λ x h a e. q a (got x r a e) }
    where
      got : (x : State) (r : Result A Cause) (a : A) → faulted s site l x.count r ≡ Ok a → r ≡ Ok a
      got x (Ok b) a e = let k : b ≡ a = cc in ap Ok k
      got x (Err c) a e = absurd (let q : ◌≡◌ {A = ℕ} 0 1 = cc in omega arith)

  sure_reach : (site : Site) (a : ℕ) → Sure s m (reach site a) (λ _. Can a)
  sure_reach site a = record { same = λ x h. refl; gives = λ x h u e. can_there x site a u h e }

  sure_partition_word : (half : Half) → Sure s m (partition_word half) Any
  sure_partition_word half = record { same = λ x h. refl; gives = λ x h v e. tt }

  sure_table_word : (site : Site) (a : ℕ) → Sure s m (table_word site a) (λ _. Can a)
  sure_table_word site a = record { same = λ x h. refl; gives = λ x h v e. go x (reached s x site a) v (λ u k. can_there x site a u h k) e }
    where
      go : (x : State) (r : Result (Unit {0}) Fault) (v : ℕ) → ((u : Unit {0}) → r ≡ Ok u → Can a)
          → (then_do (r, x) (λ _ st. (Ok (doubleword st.memory a), counted st))).0 ≡ Ok v → Can a
      go x (Ok u) v f e = f u refl
      go x (Err e₁) v f e = absurd (let q : ◌≡◌ {A = ℕ} 0 1 = cc in omega arith)

  sure_reached_word : (a : ℕ) → Can a → Sure s m (reached_word a) Any
  sure_reached_word a c = record { same = λ x h. ap (λ v. (Ok v, counted x)) (cond-true _ _ _ (can_here x a h c)); gives = λ x h v e. tt }

  sure_datum_word : (a : ℕ) → Can a → Sure s m (datum_word a) Any
  sure_datum_word a c = record { same = λ x h. ap (λ v. (Ok v, x)) (cond-true _ _ _ (can_here x a h c)); gives = λ x h v e. tt }

  sure_put_word : (a v : ℕ) → Can a → Sure s m (put_word a v) Any
  sure_put_word a v c = record { same = λ x h. ap (λ n. (Ok tt, state n x.count)) (cond-true _ _ _ (can_here x a h c)); gives = λ x h u e. tt }

  amend_same : (k : Kind) (a : ℕ) (x : State) → Shape m x.memory → Can a → amended s x.memory k a ≡ plainly_amended x.memory k a
  unfolding amended plainly_amended
  amend_same k a x h c =
      cond-true _ _ _ (can_here x a h c) ∙ ap (λ v. written x.memory (a / 8 * 8) (bit_or v (settling_bits k))) (cond-true _ _ _ (can_here x a h c))

  sure_amend : (k : Kind) (a : ℕ) → Can a → Sure s m (amend k a) Any
  sure_amend k a c = record { same = λ x h. ap (λ n. (Ok tt, state n x.count)) (amend_same k a x h c); gives = λ x h u e. tt }

  -- a leaf's place can be reached
  abbrev LeafCan : Option Leaf → Type 0
  LeafCan None = Unit {0}
  LeafCan (Some l) = Can l.place

  settle_same : (k : Kind) (l : Option Leaf) (x : State) → Shape m x.memory → LeafCan l → settled s x.memory k l ≡ plainly_settled x.memory k l
  unfolding settled plainly_settled
  settle_same k None x h c = refl
  settle_same k (Some l) x h c = ap (λ n. cond (is_settled k l.word) x.memory n) (amend_same k l.place x h c)

  sure_settle : (k : Kind) (l : Option Leaf) → LeafCan l → Sure s m (settle k l) Any
  sure_settle k l c = record { same = λ x h. ap (λ n. (Ok tt, state n x.count)) (settle_same k l x h c); gives = λ x h u e. tt }

  sure_tally : Sure s m tally Any
  sure_tally = record { same = λ x h. refl; gives = λ x h v e. tt }

  -- ---- one after the other
  module _ {A B : Type 0} (p : Program A) (f : A → Program B) (Q : A → Type 0) (R : B → Type 0) (sp : Sure s m p Q) (sf : (a : A) → Q a → Sure s m (f a) R) where
    bind_same : (x : State) → Shape m x.memory → run s x (bind p f) ≡ run_plainly s x (bind p f)
    bind_same x h =
        go (run s x p).0 (run s x p).1 (shape_run s m p x h) (sp.gives x h)
        ∙ ap (λ o. then_do o (λ a st. run_plainly s st (f a))) (sp.same x h)
      where
        go : (r : Result A Fault) (st : State) → Shape m st.memory → ((a : A) → r ≡ Ok a → Q a)
            → then_do (r, st) (λ a st. run s st (f a)) ≡ then_do (r, st) (λ a st. run_plainly s st (f a))
        go (Ok a) st k q = (sf a (q a refl)).same st k
        go (Err e) st k q = refl

    bind_gives : (x : State) → Shape m x.memory → (b : B) → (run s x (bind p f)).0 ≡ Ok b → R b
    bind_gives x h b e = go (run s x p).0 (run s x p).1 (shape_run s m p x h) (sp.gives x h) e
      where
        go : (r : Result A Fault) (st : State) → Shape m st.memory → ((a : A) → r ≡ Ok a → Q a) → (then_do (r, st) (λ a st. run s st (f a))).0 ≡ Ok b → R b
        go (Ok a) st k q e = (sf a (q a refl)).gives st k b e
        go (Err z) st k q e = absurd (let q : ◌≡◌ {A = ℕ} 0 1 = cc in omega arith)

    sure_bind : Sure s m (bind p f) R
    sure_bind = record { same = bind_same; gives = bind_gives }

  -- ---- the steps
  -- an entry that is a leaf gives its own place
  found_place : (left addr place depth v : ℕ) (l : Leaf) → step_of left addr place depth v ≡ Ok (Found l) → l.place ≡ place
  unfolding step_of leaf_of table_of
  found_place left addr place depth v l e = go (valid v) (leaf v) (page_bits left) (flawed_table (next_width v) (next_base v) left) e
    where
      go : (x y z w : Bool)
          → unless (not x) Invalid (cond y (found (unless (not z) Unsupported (Ok (record { place = place; word = v; address = page_address left addr v; depth = depth }))))
          (next (unless w Unsupported (Ok (record { base = next_base v; width = next_width v; left = left - next_width v }))))) ≡ Ok (Found l) → l.place ≡ place
      go true true true w e = cc
      go true true false w e = absurd (let q : ◌≡◌ {A = ℕ} 0 1 = cc in omega arith)
      go true false z true e = absurd (let q : ◌≡◌ {A = ℕ} 0 1 = cc in omega arith)
      go true false z false e = absurd (let q : ◌≡◌ {A = ℕ} 0 1 = cc in omega arith)
      go false y z w e = absurd (let q : ◌≡◌ {A = ℕ} 0 1 = cc in omega arith)

  -- a walk's leaf stands where an entry was had
  sure_walk : (P : ℕ → Type 0) (get : ℕ → ℕ → Program ℕ) (l : Layer) (p : Purpose) (g addr : ℕ) → ((d place : ℕ) → Sure s m (get d place) (λ _. P place))
      → (n d : ℕ) (t : Table) → Sure s m (walk get l p g addr n d t) (λ f. P f.place)
  unfolding walk
  sure_walk P get l p g addr had zero d t = sure_check _ _ _ _ (λ a e. absurd (let q : ◌≡◌ {A = ℕ} 0 1 = cc in omega arith))
  sure_walk P get l p g addr had (suc n) d t =
      sure_bind _ _ (λ _. P (place_of t addr)) _ (had d (place_of t addr)) λ v q.
      sure_bind _ _ (λ e. step_of t.left addr (place_of t addr) (d + 1) v ≡ Ok e) _ (sure_check _ _ _ _ (λ a e. e)) (next_turn (λ u. sure_walk P get l p g addr had n (d + 1) u) v q)
    where
      next_turn : ((u : Table) → Sure s m (walk get l p g addr n (d + 1) u) (λ f. P f.place)) → (v : ℕ) → P (place_of t addr) → (e : Step) → step_of t.left addr (place_of t addr) (d + 1) v ≡ Ok e
          → Sure s m (elim e [ Next u ↦ walk get l p g addr n (d + 1) u | Found f ↦ ret f ]) (λ f. P f.place)
      next_turn rest v q (Next u) e = rest u
      next_turn rest v q (Found f) e = sure_ret _ f (subst P (sym (found_place t.left addr (place_of t addr) (d + 1) v f e)) q)

  record Got (g : Reached) : Type 0 where
    real : Can g.real
    leaf : LeafCan g.leaf

  sure_guest_reach : (tree : Option Table) (p : Purpose) (k : Kind) (a : ℕ) → Sure s m (guest_reach tree p k a) Got
  unfolding guest_reach
  sure_guest_reach None p k a = sure_bind _ _ (λ _. Can a) _ (sure_reach _ a) λ _ c. sure_ret _ _ (record { real = c; leaf = tt })
  sure_guest_reach (Some t) p k a =
      sure_bind _ _ Any _ (sure_check _ _ _ _ (λ _ e. tt)) λ _ _.
      sure_bind _ _ (λ l. Can l.place) _ (sure_walk Can _ _ _ _ _ (λ d place. sure_table_word _ place) 4 0 t) λ l c.
      sure_bind _ _ Any _ (sure_check _ _ _ _ (λ _ e. tt)) λ _ _.
      sure_bind _ _ (λ _. Can l.address) _ (sure_reach _ l.address) λ _ q.
      sure_ret _ _ (record { real = q; leaf = c })

  sure_guest_word : (tree : Option Table) (p : Purpose) (a : ℕ) → Sure s m (guest_word tree p a) Any
  unfolding guest_word
  sure_guest_word tree p a =
      sure_bind _ _ Got _ (sure_guest_reach tree p Load a) λ g q.
      sure_bind _ _ Any _ (sure_settle Load g.leaf q.leaf) λ _ _.
      sure_reached_word g.real q.real

  sure_partition : (lpid : ℕ) → Sure s m (partition_entry lpid) Any
  unfolding partition_entry
  sure_partition lpid =
      sure_bind _ _ Any _ (sure_partition_word First) λ x _.
      sure_bind _ _ Any _ (sure_partition_word Second) λ y _.
      sure_check _ _ _ _ (λ _ e. tt)

  sure_process_entry : (e : Entry) (pid : ℕ) → Sure s m (process_entry e pid) Any
  unfolding process_entry
  sure_process_entry e pid = sure_bind _ _ Any _ (sure_check _ _ _ _ (λ _ e. tt)) λ place _. sure_guest_word e.tree _ place

  sure_process_leaf : (tree : Option Table) (problem : Bool) (k : Kind) (offset descriptor : ℕ) → Sure s m (process_leaf tree problem k offset descriptor) Any
  unfolding process_leaf
  sure_process_leaf tree problem k offset descriptor =
      sure_bind _ _ Any _ (sure_check _ _ _ _ (λ _ e. tt)) λ t _.
      sure_bind _ _ (λ l. Unit {0}) _ (sure_walk (λ _. Unit {0}) _ _ _ _ _ (λ d place. sure_guest_word tree _ place) 4 0 t) λ l _.
      sure_bind _ _ Any _ (sure_check _ _ _ _ (λ _ e. tt)) λ _ _.
      sure_ret _ l tt

  sure_settle_process : (tree : Option Table) (k : Kind) (l : Leaf) → Sure s m (settle_process tree k l) Any
  unfolding settle_process
  sure_settle_process tree k l = go (is_settled k l.word)
    where
      go : (b : Bool) → Sure s m (cond b (ret tt) (bind (guest_reach tree Settling Store l.place) (λ g. bind (settle Store g.leaf) (λ _. amend k g.real)))) Any
      go true = sure_ret _ tt tt
      go false =
          sure_bind _ _ Got _ (sure_guest_reach tree Settling Store l.place) λ g q.
          sure_bind _ _ Any _ (sure_settle Store g.leaf q.leaf) λ _ _.
          sure_amend k g.real q.real

  sure_use : (ask : Ask) (w offset a : ℕ) → Can a → Sure s m (use_datum ask w offset a) Any
  unfolding use_datum
  sure_use ToLoad w offset a c = sure_bind _ _ Any _ (sure_datum_word a c) λ v _. sure_bind _ _ Any _ sure_tally λ n _. sure_ret _ _ tt
  sure_use ToFetch w offset a c = sure_bind _ _ Any _ (sure_datum_word a c) λ v _. sure_bind _ _ Any _ sure_tally λ n _. sure_ret _ _ tt
  sure_use (ToStore x) w offset a c =
      sure_bind _ _ Any _ (sure_datum_word a c) λ v _.
      sure_bind _ _ Any _ (sure_put_word a _ c) λ _ _.
      sure_bind _ _ Any _ sure_tally λ n _. sure_ret _ _ tt

  sure_access : (route : Route) (k : Kind) (problem : Bool) (ask : Ask) (w offset : ℕ) → Sure s m (access_by route k problem ask w offset) Any
  unfolding access_by real_access guest_access process_access
  sure_access NoSegment k problem ask w offset = sure_check _ _ _ _ (λ _ e. tt)
  sure_access (AtReal a) k problem ask w offset = sure_bind _ _ (λ _. Can a) _ (sure_reach _ a) λ _ c. sure_use ask w offset a c
  sure_access (AtGuest l a) k problem ask w offset =
      sure_bind _ _ Any _ (sure_partition l) λ e _.
      sure_bind _ _ Got _ (sure_guest_reach e.tree _ k a) λ g q.
      sure_bind _ _ Any _ (sure_settle k g.leaf q.leaf) λ _ _.
      sure_use ask w offset g.real q.real
  sure_access (AtProcess l p o) k problem ask w offset =
      sure_bind _ _ Any _ (sure_partition l) λ e _.
      sure_bind _ _ Any _ (sure_process_entry e p) λ d _.
      sure_bind _ _ Any _ (sure_process_leaf e.tree problem k o d) λ f _.
      sure_bind _ _ Got _ (sure_guest_reach e.tree _ k f.address) λ g q.
      sure_bind _ _ Any _ (sure_settle_process e.tree k f) λ _ _.
      sure_bind _ _ Any _ (sure_settle k g.leaf q.leaf) λ _ _.
      sure_use ask w offset g.real q.real

pub guards_idle : GuardsIdle
guards_idle r c m ask w address =
    let ea = effective c address in
    let route = route_of r c (kind_of ask) ea in
    let s = setting_of r c (kind_of ask) ea (lpid_of route) in
    (sure_access s m route (kind_of ask) c.pr ask w (ea % 8)).same (state m 0) (record { marks = refl; size = refl })
