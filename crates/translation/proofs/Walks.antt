-- One turn of a walk. Assumes nothing.
use Rattle.std.proofs.Common.{◌≡◌, ℕ, suc, ◌+◌, ◌-◌, ◌<◌, Result, ap, ◌∙◌, arith}
use Rattle.memory.specs.Protected.{Meaning}
use Rattle.memory.specs.Soundness.{ReflexiveTransitive}
use Rattle.translation.specs.declared.fault.Purpose.{Purpose}
use Rattle.translation.specs.declared.fault.Layer.{Layer}
use Rattle.translation.specs.declared.fault.Fault.{Fault}
use Rattle.translation.specs.declared.tables.Table.{Table}
use Rattle.translation.specs.declared.tables.Leaf.{Leaf}
use Rattle.translation.specs.declared.tables.Step.TheVariants.{Next, Found}
use Rattle.translation.specs.declared.reach.Access.{Access}
use Rattle.translation.specs.Program.{Program, ret, check, bind, run}
use Rattle.translation.specs.Underway.{state_of, Later, Performs}
use Rattle.translation.specs.Tables.{place_of, step_of}
use Rattle.translation.specs.Access.{walk, site_of}
use Rattle.translation.proofs.Performing.{alike}

-- a walk that has read d entries, fewer than four, goes on with the next
pub walk_turn : (get : ℕ → ℕ → Program ℕ) (l : Layer) (p : Purpose) (g addr d : ℕ) (t : Table) → d < 4
    → walk get l p g addr (4 - d) d t
    ≡ bind (get d (place_of t addr)) (λ v.
    bind (check (site_of p (d + 1) g) l (step_of t.left addr (place_of t addr) (d + 1) v)) (λ s.
    elim s [ Next u ↦ walk get l p g addr (4 - (d + 1)) (d + 1) u | Found f ↦ ret f ]))
unfolding walk
walk_turn get l p g addr d t h =
    let k : 4 - d ≡ suc (4 - (d + 1)) = omega arith in
    ap (λ (n : ℕ). walk get l p g addr n d t) k

-- a walk is performed from where it began, as one of its turns is later
pub from_turn : {M : Type 0} {meaning : M → Meaning} {keeps : M → M → Type 0} (keeping : ReflexiveTransitive keeps)
    (get : ℕ → ℕ → Program ℕ) (addr : ℕ) (root t : Table) {a b c : Access M} {l : Layer} {p : Purpose} {g d : ℕ} {r : Result Leaf Fault} → d < 4
    → run a.setting (state_of meaning a) (walk get l p g addr 4 0 root) ≡ run b.setting (state_of meaning b) (walk get l p g addr (4 - d) d t)
    → Later keeps a b
    → Performs meaning keeps b (bind (get d (place_of t addr)) (λ v.
    bind (check (site_of p (d + 1) g) l (step_of t.left addr (place_of t addr) (d + 1) v)) (λ s.
    elim s [ Next u ↦ walk get l p g addr (4 - (d + 1)) (d + 1) u | Found f ↦ ret f ]))) r c
    → Performs meaning keeps a (walk get l p g addr 4 0 root) r c
from_turn {meaning = meaning} keeping get addr root t {b = b} {l = l} {p} {g} {d} h e w q =
    alike keeping (e ∙ ap (run b.setting (state_of meaning b)) (walk_turn get l p g addr d t h)) w q
