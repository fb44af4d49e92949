-- The reference table holds, by computation. Assumes nothing.
use Rattle.std.proofs.Common.{◌≡◌, ℕ, Bool, true, false, cond, ◌&&◌, List, Some, None, Ok, Err, Option, Result, refl, ap, ◌∙◌}
use mathlib.Core.Bool.{false≢true}
use Rattle.memory.specs.declared.protected.Mark.{Mark}
use Rattle.memory.specs.Bytes.{spell, octets, number_at, over}
use Rattle.memory.specs.Protected.{Meaning}
use Rattle.translation.specs.declared.fault.Cause.TheVariants.{Segment, Invalid, Right, Secure, Beyond}
use Rattle.translation.specs.declared.fault.Layer.TheVariants.{Process, Partition, Storage}
use Rattle.translation.specs.declared.fault.Purpose.TheVariants.{Datum, ProcessEntry, ProcessTree}
use Rattle.translation.specs.declared.fault.Fault.{Fault}
use Rattle.translation.specs.declared.fault.Kind.{Kind}
use Rattle.translation.specs.declared.fault.Kind.TheVariants.{Load}
use Rattle.translation.specs.declared.fault.Setting.{Setting}
use Rattle.translation.specs.declared.tables.Leaf.{Leaf}
use Rattle.translation.specs.declared.datum.Ask.TheVariants.{ToLoad}
use Rattle.translation.specs.Fault.{fault_at}
use Rattle.translation.specs.Tables.{table_of, leaf_of, step_of, place_of, tree_of, partition_of, process_place, process_tree, right_of, process_right, is_settled}
use Rattle.translation.specs.Widths.{part}
use Rattle.translation.specs.Program.{Program, ret, check, reach, partition_word, table_word, reached_word, settle, amend, datum_word, put_word, tally, bind, State, state, Outcome, doubleword, entry_place, counted, reached, entered, amended, settled, then_do, run}
use Rattle.translation.specs.Route.{route_of, lpid_of, setting_of}
use Rattle.translation.specs.Access.{walk, guest_reach, guest_word, partition_entry, process_entry, process_leaf, settle_process, use_datum, real_access, process_access, access_by}
use Rattle.translation_laws.specs.Table.{tables, secured, altered, registers, user, hypervisor, load, fetch, word_after, fault, Settles, Stops, referenced, far, first, ReferenceTable}

-- all that computes in an access, named once
abbrev opens : Unit {0}
unfolding spell octets number_at over fault_at table_of leaf_of step_of place_of tree_of partition_of process_place process_tree right_of process_right part amended settled route_of walk guest_reach guest_word partition_entry process_entry process_leaf settle_process use_datum real_access process_access access_by
opens = tt

-- all that is said of an access, so that it is computed once
abbrev seen : Outcome (ℕ × ℕ × ℕ) → Result (ℕ × ℕ × ℕ) Fault × ℕ × ℕ × ℕ × ℕ × ℕ × List Mark
seen o = (o.0, word_after o 0x1010, word_after o 0x1018, word_after o 0x2000, word_after o 0x4010, word_after o 0x6000, o.1.memory.marks)

settles : (m : Meaning) (o : Outcome (ℕ × ℕ × ℕ)) → seen o ≡ (Ok (0, 0, 8), 0x8000_0000_0000_200A, 0x8000_0000_0000_4000, 0xC000_0000_0000_0183, 0x600A, 0xC000_0000_0000_0102, m.marks) → Settles m o
settles m o e =
    record {
      answer = ap (λ t. t.0) e;
      partition_first = ap (λ t. t.1) e;
      partition_second = ap (λ t. t.2) e;
      partition_leaf = ap (λ t. t.3) e;
      process_entry = ap (λ t. t.4) e;
      process_leaf = ap (λ t. t.5) e;
      marks = ap (λ t. t.6) e;
    }

abbrev ending : Outcome (ℕ × ℕ × ℕ) → Result (ℕ × ℕ × ℕ) Fault × ℕ
ending o = (o.0, word_after o 0x6000)

stops : (o : Outcome (ℕ × ℕ × ℕ)) (f : Fault) → ending o ≡ (Err f, 0xC000_0000_0000_0002) → Stops o f
stops o f e = record { answer = ap (λ t. t.0) e; process_leaf = ap (λ t. t.1) e }

first_load : Settles tables first
unfolding opens
first_load = settles tables first refl

again : (load (user false) first.1.memory 0).0 ≡ Ok (0, 0, 7)
unfolding opens
again = refl

-- to run a program changes nothing where each leaf that it settles stands settled, and it writes nowhere else
abbrev stands : Kind → Option Leaf → Bool
stands k None = true
stands k (Some l) = is_settled k l.word

abbrev quiet : {A : Type 0} → Setting → State → Program A → Bool
quiet s st (ret a) = true
quiet s st (check site l r) = true
quiet s st (reach site a) = true
quiet s st (partition_word half) = true
quiet s st (table_word site a) = true
quiet s st (reached_word a) = true
quiet s st (settle k l) = stands k l
quiet s st (amend k a) = false
quiet s st (datum_word a) = true
quiet s st (put_word a v) = false
quiet s st tally = true
quiet s st (bind p f) = quiet s st p && elim (run s st p).0 [ Ok a ↦ quiet s (run s st p).1 (f a) | Err e ↦ true ]

stands_kept : (s : Setting) (m : Meaning) (k : Kind) (l : Option Leaf) → stands k l ≡ true → settled s m k l ≡ m
unfolding settled
stands_kept s m k None h = refl
stands_kept s m k (Some l) h = ap (λ (b : Bool). cond b m (amended s m k l.place)) h

then_kept : {A B : Type 0} (m : Meaning) (o : Outcome A) (f : A → State → Outcome B) (q : A → State → Bool) →
    ((a : A) (st : State) → q a st ≡ true → (f a st).1.memory ≡ st.memory) →
    o.1.memory ≡ m → elim o.0 [ Ok a ↦ q a o.1 | Err e ↦ true ] ≡ true → (then_do o f).1.memory ≡ m
then_kept m (Ok a, st) f q on e h = on a st h ∙ e
then_kept m (Err x, st) f q on e h = e

both_true : (a b : Bool) → (a && b) ≡ true → (a ≡ true) × (b ≡ true)
both_true true b h = (refl, h)
both_true false b h = absurd (false≢true h)

always : {A : Type 0} (r : Result A Fault) → elim r [ Ok a ↦ true | Err e ↦ true ] ≡ true
always (Ok a) = refl
always (Err e) = refl

quiet_kept : {A : Type 0} (s : Setting) (st : State) (p : Program A) → quiet s st p ≡ true → (run s st p).1.memory ≡ st.memory
quiet_kept s st (ret a) h = refl
quiet_kept s st (check site l r) h = refl
quiet_kept s st (reach site a) h = refl
quiet_kept s st (partition_word half) h = then_kept st.memory (entered s st half, st) (λ _ st. (Ok (doubleword st.memory (entry_place s half)), counted st)) (λ _ _. true) (λ a st h. refl) refl (always (entered s st half))
quiet_kept s st (table_word site a) h = then_kept st.memory (reached s st site a, st) (λ _ st. (Ok (doubleword st.memory a), counted st)) (λ _ _. true) (λ a st h. refl) refl (always (reached s st site a))
quiet_kept s st (reached_word a) h = refl
quiet_kept s st (settle k l) h = stands_kept s st.memory k l h
quiet_kept s st (amend k a) h = absurd (false≢true h)
quiet_kept s st (datum_word a) h = refl
quiet_kept s st (put_word a v) h = absurd (false≢true h)
quiet_kept s st tally h = refl
quiet_kept s st (bind p f) h =
    let b = both_true (quiet s st p) (elim (run s st p).0 [ Ok a ↦ quiet s (run s st p).1 (f a) | Err e ↦ true ]) h in
    then_kept st.memory (run s st p) (λ a st. run s st (f a)) (λ a st. quiet s st (f a)) (λ a st. quiet_kept s st (f a))
    (quiet_kept s st p b.0) b.1

-- the user's load of address 0
abbrev load_setting : Setting
load_setting = setting_of registers (user false) Load 0 (lpid_of (route_of registers (user false) Load 0))

abbrev load_program : Program (ℕ × ℕ × ℕ)
load_program = access_by (route_of registers (user false) Load 0) Load true ToLoad 8 0

load_kept : (m : Meaning) → quiet load_setting (state m 0) load_program ≡ true → (load (user false) m 0).1.memory ≡ m
load_kept m h = quiet_kept load_setting (state m 0) load_program h

again_after : (load (user false) first.1.memory 0).1.memory ≡ first.1.memory
unfolding opens
again_after = load_kept first.1.memory refl

last : (load (user false) tables 0x7FF8).0 ≡ Ok (0, 0x7FF8, 8)
unfolding opens
last = refl

beyond : Stops (load (user false) tables 0x8000) (fault Beyond Storage Datum 1 (0x8000, 0x8000, 0x8000) 0x200 7)
unfolding opens
beyond = stops (load (user false) tables 0x8000) _ refl

invalid : Stops (load (user false) tables 0x7FFF_FFF8) (fault Invalid Process ProcessTree 1 (0x7FFF_FFF8, 0, 0) 0x300 6)
unfolding opens
invalid = stops (load (user false) tables 0x7FFF_FFF8) _ refl

outside : Stops (load (user false) tables 0x8000_0000) (fault Segment Process ProcessTree 0 (0x8000_0000, 0, 0) 0x380 4)
unfolding opens
outside = stops (load (user false) tables 0x8000_0000) _ refl

no_segment : Stops (load (user false) tables 0x4000_0000_0000_0000) (fault Segment Process Datum 0 (0x4000_0000_0000_0000, 0, 0) 0x380 0)
unfolding opens
no_segment = stops (load (user false) tables 0x4000_0000_0000_0000) _ refl

no_right : Stops (fetch (user false) tables 0) (fault Right Process ProcessTree 1 (0, 0, 0) 0x400 6)
unfolding opens
no_right = stops (fetch (user false) tables 0) _ refl

secure_datum : Stops (load (user false) (secured 0) 0) (fault Secure Storage Datum 1 (0, 0, 0) 0xE00 7)
unfolding opens
secure_datum = stops (load (user false) (secured 0) 0) _ refl

secure_thread : Settles (secured 0) (load (user true) (secured 0) 0)
unfolding opens
secure_thread = settles (secured 0) (load (user true) (secured 0) 0) refl

secure_table : Settles (secured 1) (load (user false) (secured 1) 0)
unfolding opens
secure_table = settles (secured 1) (load (user false) (secured 1) 0) refl

secure_tree : Stops (load (user false) (secured 2) 0) (fault Secure Storage ProcessEntry 0 (0, 0x4010, 0x2000) 0xE00 2)
unfolding opens
secure_tree = stops (load (user false) (secured 2) 0) _ refl

offset_real : (load hypervisor tables 0x1000).0 ≡ Ok (0, 0x3000, 0)
unfolding opens
offset_real = refl

plain_real : (load hypervisor tables 0x8000_0000_0000_1000).0 ≡ Ok (0, 0x1000, 0)
unfolding opens
plain_real = refl

-- the answer and the partition leaf
abbrev partition_ending : Outcome (ℕ × ℕ × ℕ) → Result (ℕ × ℕ × ℕ) Fault × ℕ
partition_ending o = (o.0, word_after o 0x2000)

referenced_both : partition_ending referenced ≡ (Ok (0, 0, 7), 0xC000_0000_0000_0103)
unfolding opens
referenced_both = refl

far_both : ending far ≡ (Err (fault Invalid Partition Datum 0 (0, 0x1_0000_0000, 0) 0xE00 6), 0xC000_0001_0000_0002)
unfolding opens
far_both = refl

far_partition_page : Stops (load (user false) (altered 0x2000 0xC000_0001_0000_0003) 0) (fault Beyond Storage ProcessEntry 1 (0, 0x4010, 0x1_0000_4010) 0x200 3)
unfolding opens
far_partition_page = stops (load (user false) (altered 0x2000 0xC000_0001_0000_0003) 0) _ refl

far_tree : Stops (load (user false) (altered 0x4010 0x1_0000_600A) 0) (fault Invalid Partition ProcessTree 0 (0, 0x1_0000_6000, 0) 0xE00 4)
unfolding opens
far_tree = stops (load (user false) (altered 0x4010 0x1_0000_600A) 0) _ refl

pub reference_table : ReferenceTable
reference_table =
    record {
      first_load = first_load;
      again = again;
      again_after = again_after;
      last = last;
      beyond = beyond;
      invalid = invalid;
      outside = outside;
      no_segment = no_segment;
      no_right = no_right;
      secure_datum = secure_datum;
      secure_thread = secure_thread;
      secure_table = secure_table;
      secure_tree = secure_tree;
      offset_real = offset_real;
      plain_real = plain_real;
      referenced_load = ap (λ t. t.0) referenced_both;
      referenced_partition_leaf = ap (λ t. t.1) referenced_both;
      far_page = ap (λ t. t.0) far_both;
      far_page_leaf = ap (λ t. t.1) far_both;
      far_partition_page = far_partition_page;
      far_tree = far_tree;
    }
