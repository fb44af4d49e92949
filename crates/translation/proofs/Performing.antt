-- How programs are performed one after another. Assumes nothing.
use Rattle.std.proofs.Common.{◌≡◌, ℕ, Ok, Err, Option, Result, sym, refl, ap, ◌∙◌, subst}
use Rattle.memory.specs.Protected.{Meaning}
use Rattle.memory.specs.Soundness.{ReflexiveTransitive}
use Rattle.translation.specs.declared.fault.Kind.{Kind}
use Rattle.translation.specs.declared.fault.Cause.{Cause}
use Rattle.translation.specs.declared.fault.Layer.{Layer}
use Rattle.translation.specs.declared.fault.Fault.{Fault}
use Rattle.translation.specs.declared.fault.Site.{Site}
use Rattle.translation.specs.declared.tables.Leaf.{Leaf}
use Rattle.translation.specs.declared.reach.Access.{Access}
use Rattle.translation.specs.Fault.{faulted}
use Rattle.translation.specs.Program.{Program, ret, check, reach, table_word, settle, amend, bind, state, Outcome, reached, settled, amended, then_do, run}
use Rattle.translation.specs.Underway.{state_of, Later, Performs, LeavesMemory}

module _ {M : Type 0} {keeps : M → M → Type 0} (keeping : ReflexiveTransitive keeps) where
  -- an access is itself later, and what is later than a later one is later
  pub now : {a : Access M} → Later keeps a a
  now = record { setting = refl; storage = refl; kept = keeping.same _ }

  pub afterwards : {a b c : Access M} → Later keeps a b → Later keeps b c → Later keeps a c
  afterwards p q = record { setting = q.setting ∙ p.setting; storage = q.storage ∙ p.storage; kept = keeping.then _ _ _ p.kept q.kept }

module _ {M : Type 0} {meaning : M → Meaning} {keeps : M → M → Type 0} where
  -- what is left of a program once its first part answered a value
  pub goes_on : {A B : Type 0} {a b : Access M} {p : Program A} (f : A → Program B) {r : Result A Fault} {x : A}
      → Performs meaning keeps a p r b → r ≡ Ok x → run b.setting (state_of meaning b) (f x) ≡ run a.setting (state_of meaning a) (bind p f)
  goes_on {A} {B} {a} {b} {p} f {r} {x} h e =
      let k : Ok x ≡ (run a.setting (state_of meaning a) p).0 = sym e ∙ h.answer in
      λ i. then_do (k i, h.after i) (λ y st. run (h.later.setting i) st (f y))

  -- a table's doubleword at a site, by whatever that is equal to
  pub tabled : {a b : Access M} {at site : Site} {x : ℕ} {r : Result ℕ Fault} → Performs meaning keeps a (table_word at x) r b → at ≡ site
      → Performs meaning keeps a (table_word site x) r b
  tabled {a} {b} {x = x} {r} h e = subst (λ (w : Site). Performs meaning keeps a (table_word w x) r b) e h

module _ {M : Type 0} {meaning : M → Meaning} {keeps : M → M → Type 0} (keeping : ReflexiveTransitive keeps) where
  -- what answers a value goes on with it
  pub onward : {A B : Type 0} {a b c : Access M} {p : Program A} {f : A → Program B} {r : Result A Fault} {x : A} {q : Result B Fault}
      → Performs meaning keeps a p r b → r ≡ Ok x → Performs meaning keeps b (f x) q c → Performs meaning keeps a (bind p f) q c
  onward {A} {B} {a} {b} {c} {p} {f} {r} {x} {q} h e n =
      let link : run b.setting (state_of meaning b) (f x) ≡ run a.setting (state_of meaning a) (bind p f) = goes_on f h e in
      record { answer = n.answer ∙ ap (λ (o : Outcome B). o.0) link; after = n.after ∙ ap (λ (o : Outcome B). o.1) link; later = afterwards keeping h.later n.later }

  -- what stops with a fault answers it
  pub halted : {A B : Type 0} {a b : Access M} {p : Program A} {f : A → Program B} {r : Result A Fault} {e : Fault} {q : Result B Fault}
      → Performs meaning keeps a p r b → r ≡ Err e → q ≡ Err e → Performs meaning keeps a (bind p f) q b
  halted {A} {B} {a} {b} {p} {f} {r} {e} {q} h d w =
      let k : Err e ≡ (run a.setting (state_of meaning a) p).0 = sym d ∙ h.answer in
      let link : ◌≡◌ {A = Outcome B} (Err e, state_of meaning b) (run a.setting (state_of meaning a) (bind p f))
      = λ i. then_do (k i, h.after i) (λ y st. run a.setting st (f y)) in
      record { answer = w ∙ ap (λ (o : Outcome B). o.0) link; after = ap (λ (o : Outcome B). o.1) link; later = h.later }

  -- an answer with no question
  pub answered : {A : Type 0} {a : Access M} {x : A} → Performs meaning keeps a (ret x) (Ok x) a
  answered = record { answer = refl; after = refl; later = now keeping }

  -- settling a leaf, and adding its bits to a doubleword
  pub settling : {a b : Access M} {k : Kind} {l : Option Leaf} → LeavesMemory meaning keeps a (settled a.setting (meaning a.memory.now) k l) b
      → Performs meaning keeps a (settle k l) (Ok tt) b
  settling h = record { answer = refl; after = λ i. state (h.memory i) (h.count i); later = h.later }

  pub amending : {a b : Access M} {k : Kind} {place : ℕ} → LeavesMemory meaning keeps a (amended a.setting (meaning a.memory.now) k place) b
      → Performs meaning keeps a (amend k place) (Ok tt) b
  amending h = record { answer = refl; after = λ i. state (h.memory i) (h.count i); later = h.later }

  -- a check of an answer at a site and a layer, by whatever they are equal to
  pub checked_in : {A : Type 0} {a : Access M} {at site : Site} {by l : Layer} {had answer : Result A Cause} {r : Result A Fault}
      → r ≡ faulted a.setting at by a.count had → at ≡ site → by ≡ l → had ≡ answer → Performs meaning keeps a (check site l answer) r a
  checked_in {a = a} e p w q = record { answer = e ∙ (λ i. faulted a.setting (p i) (w i) a.count (q i)); after = refl; later = now keeping }

  pub checked : {A : Type 0} {a : Access M} {at site : Site} {l : Layer} {had answer : Result A Cause} {r : Result A Fault}
      → r ≡ faulted a.setting at l a.count had → at ≡ site → had ≡ answer → Performs meaning keeps a (check site l answer) r a
  checked e p q = checked_in e p refl q

  -- and so of reaching
  pub reaching : {a : Access M} {at site : Site} {x : ℕ} {r : Result (Unit {0}) Fault}
      → r ≡ reached a.setting (state_of meaning a) at x → at ≡ site → Performs meaning keeps a (reach site x) r a
  reaching {a = a} {x = x} e p = record { answer = e ∙ (λ i. reached a.setting (state_of meaning a) (p i) x); after = refl; later = now keeping }

  -- a program that runs as another does from an earlier time, is performed from there as that is
  pub alike : {A : Type 0} {a b c : Access M} {p q : Program A} {r : Result A Fault} → run a.setting (state_of meaning a) p ≡ run b.setting (state_of meaning b) q
      → Later keeps a b → Performs meaning keeps b q r c → Performs meaning keeps a p r c
  alike {A} e l h = record { answer = h.answer ∙ sym (ap (λ (o : Outcome A). o.0) e); after = h.after ∙ sym (ap (λ (o : Outcome A). o.1) e); later = afterwards keeping l h.later }

-- one step after another: what a function that takes several is proved by
pub ruleset steps = (onward, halted, answered, settling, amending, checked, reaching)
