-- One access, step by step. Assumes nothing.
use Rattle.std.specs.Prelude.{ℕ, zero, suc, ◌+◌, ◌%◌, ◌≤◌, Bool, cond, Some, None, Ok, Err, Option, Result}
use Rattle.translation.specs.declared.fault.Kind.{Kind}
use Rattle.translation.specs.declared.fault.Kind.TheVariants.{Load, Store, Fetch}
use Rattle.translation.specs.declared.fault.Cause.TheVariants.{Segment, Unsupported, Invalid}
use Rattle.translation.specs.declared.fault.Layer.{Layer}
use Rattle.translation.specs.declared.fault.Layer.TheVariants.{Process, Partition}
use Rattle.translation.specs.declared.fault.Purpose.{Purpose}
use Rattle.translation.specs.declared.fault.Purpose.TheVariants.{Datum, ProcessEntry, ProcessTree, Settling}
use Rattle.translation.specs.declared.fault.Fault.{Fault}
use Rattle.translation.specs.declared.fault.Site.{Site}
use Rattle.translation.specs.declared.tables.Table.{Table}
use Rattle.translation.specs.declared.tables.Leaf.{Leaf}
use Rattle.translation.specs.declared.tables.Half.TheVariants.{First, Second}
use Rattle.translation.specs.declared.tables.Step.TheVariants.{Next, Found}
use Rattle.translation.specs.declared.tables.Partition.{Partition as Entry}
use Rattle.translation.specs.declared.partition.Reached.{Reached}
use Rattle.translation.specs.declared.registers.Registers.{Registers}
use Rattle.translation.specs.declared.registers.Context.{Context}
use Rattle.translation.specs.declared.registers.Route.{Route}
use Rattle.translation.specs.declared.registers.Route.TheVariants.{NoSegment, AtReal, AtGuest, AtProcess}
use Rattle.translation.specs.declared.datum.Ask.{Ask}
use Rattle.translation.specs.declared.datum.Ask.TheVariants.{ToLoad, ToFetch, ToStore}
use Rattle.memory.specs.Protected.{Meaning}
use Rattle.translation.specs.Widths.{part, merged}
use Rattle.translation.specs.Route.{effective, route_of, lpid_of, setting_of}
use Rattle.translation.specs.Program.{Program, ret, check, reach, partition_word, table_word, reached_word, settle, amend, datum_word, put_word, tally, bind, partition_site, state, Outcome, run}
use Rattle.translation.specs.Tables.{place_of, step_of, inside_of, partition_of, process_place, process_tree, right_of, process_right, is_settled}

abbrev pub site_of : Purpose → ℕ → ℕ → Site
site_of p d g = record { purpose = p; depth = d; guest = g }

-- a walk of at most n more tables on an address: how entries are had, at which layer it stops, and for what purpose and
-- guest address; d entries were read before
unfoldable pub walk : (ℕ → ℕ → Program ℕ) → Layer → Purpose → ℕ → ℕ → ℕ → ℕ → Table → Program Leaf
walk get l p g addr zero d t = check (site_of p d g) l (Err Unsupported)
walk get l p g addr (suc n) d t =
    bind (get d (place_of t addr)) (λ v.
    bind (check (site_of p (d + 1) g) l (step_of t.left addr (place_of t addr) (d + 1) v)) (λ s.
    elim s [ Next u ↦ walk get l p g addr n (d + 1) u | Found f ↦ ret f ]))

-- a partition's tree: each entry is reached and read
abbrev pub partition_walk : Purpose → ℕ → ℕ → ℕ → Table → Program Leaf
partition_walk p a = walk (λ d place. table_word (site_of p d a) place) Partition p a a

-- to guest-reach an address: walk the partition's tree on it, check the leaf's right, and reach what it gives;
-- for LPID 0 there is no such tree: the address is real, and is only reached
unfoldable pub guest_reach : Option Table → Purpose → Kind → ℕ → Program Reached
guest_reach None p k a = bind (reach (site_of p 0 0) a) (λ _. ret (record { real = a; leaf = None }))
guest_reach (Some t) p k a =
    bind (check (site_of p 0 a) Partition (inside_of t a Invalid)) (λ _.
    bind (partition_walk p a 4 0 t) (λ l.
    bind (check (site_of p l.depth a) Partition (right_of p k l.word)) (λ _.
    bind (reach (site_of p l.depth a) l.address) (λ _.
    ret (record { real = l.address; leaf = Some l })))))

-- a table's doubleword that was guest-reached: the leaf that led there settled for a load, and then read
abbrev pub settled_word : Reached → Program ℕ
settled_word g = bind (settle Load g.leaf) (λ _. reached_word g.real)

-- a table's doubleword under the partition: guest-reached for a load, that leaf settled, and then read
unfoldable pub guest_word : Option Table → Purpose → ℕ → Program ℕ
guest_word under p a = bind (guest_reach under p Load a) (λ g. settled_word g)

-- step 5: both doublewords of the partition's entry
unfoldable pub partition_entry : ℕ → Program Entry
partition_entry lpid =
    bind (partition_word First) (λ x.
    bind (partition_word Second) (λ y.
    check partition_site Partition (partition_of lpid x y)))

-- step 6: the process entry's first doubleword
unfoldable pub process_entry : Entry → ℕ → Program ℕ
process_entry e pid =
    bind (check (site_of ProcessEntry 0 0) Process (process_place e.process_table pid)) (λ place.
    guest_word e.tree ProcessEntry place)

-- step 7: the process tree, and its leaf's right
abbrev pub process_walk : Option Table → ℕ → ℕ → ℕ → Table → Program Leaf
process_walk under offset = walk (λ d place. guest_word under ProcessTree place) Process ProcessTree 0 offset

unfoldable pub process_leaf : Option Table → Bool → Kind → ℕ → ℕ → Program Leaf
process_leaf under problem k offset descriptor =
    bind (check (site_of ProcessTree 0 0) Process (process_tree descriptor offset)) (λ t.
    bind (process_walk under offset 4 0 t) (λ l.
    bind (check (site_of ProcessTree l.depth 0) Process (process_right problem k l.word)) (λ _.
    ret l)))

-- a leaf that was guest-reached: the leaf that led there settled for a store, and then its bits added
abbrev pub settle_reached : Kind → Reached → Program (Unit {0})
settle_reached k g = bind (settle Store g.leaf) (λ _. amend k g.real)

-- step 9: the process leaf, where its bits do not stand, is guest-reached for a store, that leaf settled, then it
-- (`cond`, since `if` does not choose between programs, which are in Type 1)
unfoldable pub settle_process : Option Table → Kind → Leaf → Program (Unit {0})
settle_process under k l =
    cond (is_settled k l.word) (ret tt)
    (bind (guest_reach under Settling Store l.place) (λ g. settle_reached k g))

-- ---- the datum
abbrev pub kind_of : Ask → Kind
kind_of ToLoad = Load
kind_of ToFetch = Fetch
kind_of (ToStore v) = Store

-- the datum's value (0 for a store), its real address, and the count; w bytes wide, at an offset in its doubleword
unfoldable pub use_datum : Ask → ℕ → ℕ → ℕ → Program (ℕ × ℕ × ℕ)
use_datum ToLoad w offset a = bind (datum_word a) (λ v. bind tally (λ n. ret (part w offset v, a, n)))
use_datum ToFetch w offset a = bind (datum_word a) (λ v. bind tally (λ n. ret (part w offset v, a, n)))
use_datum (ToStore x) w offset a = bind (datum_word a) (λ v. bind (put_word a (merged w offset v x)) (λ _. bind tally (λ n. ret (0, a, n))))

-- ---- the steps together
-- a real address is reached and used
unfoldable pub real_access : Ask → ℕ → ℕ → ℕ → Program (ℕ × ℕ × ℕ)
real_access ask w offset a = bind (reach (site_of Datum 0 0) a) (λ _. use_datum ask w offset a)

-- a guest real address: steps 5, 8 and 10
unfoldable pub guest_access : Kind → ℕ → Ask → ℕ → ℕ → ℕ → Program (ℕ × ℕ × ℕ)
guest_access k lpid ask w offset a =
    bind (partition_entry lpid) (λ e.
    bind (guest_reach e.tree Datum k a) (λ g.
    bind (settle k g.leaf) (λ _.
    use_datum ask w offset g.real)))

-- an offset in a process's tree: steps 5 to 10
unfoldable pub process_access : Kind → ℕ → ℕ → Bool → Ask → ℕ → ℕ → ℕ → Program (ℕ × ℕ × ℕ)
process_access k lpid pid problem ask w offset o =
    bind (partition_entry lpid) (λ e.
    bind (process_entry e pid) (λ d.
    bind (process_leaf e.tree problem k o d) (λ l.
    bind (guest_reach e.tree Datum k l.address) (λ g.
    bind (settle_process e.tree k l) (λ _.
    bind (settle k g.leaf) (λ _.
    use_datum ask w offset g.real))))))

-- an access by its route
unfoldable pub access_by : Route → Kind → Bool → Ask → ℕ → ℕ → Program (ℕ × ℕ × ℕ)
access_by NoSegment k problem ask w offset = check (site_of Datum 0 0) Process (Err Segment)
access_by (AtReal a) k problem ask w offset = real_access ask w offset a
access_by (AtGuest l a) k problem ask w offset = guest_access k l ask w offset a
access_by (AtProcess l p o) k problem ask w offset = process_access k l p problem ask w offset o

-- ---- one access: what it answers, and what the memory means then
abbrev pub accessed : Registers → Context → Meaning → Ask → ℕ → ℕ → Outcome (ℕ × ℕ × ℕ)
accessed r c m ask w address =
    let ea = effective c address in
    let route = route_of r c (kind_of ask) ea in
    run (setting_of r c (kind_of ask) ea (lpid_of route)) (state m 0) (access_by route (kind_of ask) c.pr ask w (ea % 8))

-- a store answers its real address and the count
abbrev pub without_value : Result (ℕ × ℕ × ℕ) Fault → Result (ℕ × ℕ) Fault
without_value (Ok t) = Ok (t.1, t.2)
without_value (Err f) = Err f

-- an answer or a fault tells at most 35 table doublewords
abbrev pub FewRead : Result (ℕ × ℕ × ℕ) Fault → Type 0
FewRead (Ok t) = t.2 ≤ 35
FewRead (Err f) = f.count ≤ 35

-- and so of a store
abbrev pub FewPlaced : Result (ℕ × ℕ) Fault → Type 0
FewPlaced (Ok t) = t.1 ≤ 35
FewPlaced (Err f) = f.count ≤ 35
