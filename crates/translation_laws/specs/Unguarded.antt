-- An access whose questions rely on what was reached before, with no second look. Assumes nothing.
use Rattle.std.specs.Prelude.{◌≡◌, ℕ, ◌*◌, ◌/◌, ◌%◌, if◌then◌else◌, Some, None, Ok, Option, bit_or}
use Rattle.memory.specs.Protected.{Meaning, written}
use Rattle.translation.specs.declared.fault.Kind.{Kind}
use Rattle.translation.specs.declared.fault.Setting.{Setting}
use Rattle.translation.specs.declared.tables.Leaf.{Leaf}
use Rattle.translation.specs.declared.registers.Registers.{Registers}
use Rattle.translation.specs.declared.registers.Context.{Context}
use Rattle.translation.specs.declared.datum.Ask.{Ask}
use Rattle.translation.specs.Fault.{faulted}
use Rattle.translation.specs.Tables.{settling_bits, is_settled}
use Rattle.translation.specs.Program.{Program, ret, check, reach, partition_word, table_word, reached_word, settle, amend, datum_word, put_word, tally, bind, State, state, Outcome, doubleword, entry_place, counted, reached, entered, then_do}
use Rattle.translation.specs.Route.{effective, route_of, lpid_of, setting_of}
use Rattle.translation.specs.Access.{kind_of, access_by, accessed}

-- the bits of settling added, and a leaf settled, at whatever address
unfoldable pub plainly_amended : Meaning → Kind → ℕ → Meaning
plainly_amended m k place = written m (place / 8 * 8) (bit_or (doubleword m place) (settling_bits k))

unfoldable pub plainly_settled : Meaning → Kind → Option Leaf → Meaning
plainly_settled m k None = m
plainly_settled m k (Some l) = if is_settled k l.word then m else plainly_amended m k l.place

-- the same questions as `run` asks, where those that rely on an earlier reach look at no mark and no size
abbrev pub run_plainly : {A : Type 0} → Setting → State → Program A → Outcome A
run_plainly s st (ret a) = (Ok a, st)
run_plainly s st (check site l r) = (faulted s site l st.count r, st)
run_plainly s st (reach site a) = (reached s st site a, st)
run_plainly s st (partition_word half) = then_do (entered s st half, st) (λ _ st. (Ok (doubleword st.memory (entry_place s half)), counted st))
run_plainly s st (table_word site a) = then_do (reached s st site a, st) (λ _ st. (Ok (doubleword st.memory a), counted st))
run_plainly s st (reached_word a) = (Ok (doubleword st.memory a), counted st)
run_plainly s st (settle k l) = (Ok tt, state (plainly_settled st.memory k l) st.count)
run_plainly s st (amend k a) = (Ok tt, state (plainly_amended st.memory k a) st.count)
run_plainly s st (datum_word a) = (Ok (doubleword st.memory a), st)
run_plainly s st (put_word a v) = (Ok tt, state (written st.memory (a / 8 * 8) v) st.count)
run_plainly s st tally = (Ok st.count, st)
run_plainly s st (bind p f) = then_do (run_plainly s st p) (λ a st. run_plainly s st (f a))

-- one access so
abbrev pub plainly_accessed : Registers → Context → Meaning → Ask → ℕ → ℕ → Outcome (ℕ × ℕ × ℕ)
plainly_accessed r c m ask w address =
    let ea = effective c address in
    let route = route_of r c (kind_of ask) ea in
    run_plainly (setting_of r c (kind_of ask) ea (lpid_of route)) (state m 0) (access_by route (kind_of ask) c.pr ask w (ea % 8))

-- every access answers and leaves the same without the second look
abbrev pub GuardsIdle : Type 0
GuardsIdle = (r : Registers) (c : Context) (m : Meaning) (ask : Ask) (w address : ℕ) → accessed r c m ask w address ≡ plainly_accessed r c m ask w address
