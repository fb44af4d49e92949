-- What a leaf says of its page's use. Assumes nothing.
use Rattle.std.specs.Prelude.{ℕ, Bool, true, false, List, codes}
use Rattle.translation.specs.Fields.{referenced, changed}

-- the reference and change bits in words
abbrev pub used_text : Bool → Bool → List ℕ
used_text false false = codes "neither referenced nor changed"
used_text false true = codes "changed"
used_text true false = codes "referenced"
used_text true true = codes "referenced and changed"

-- a leaf's, in words
abbrev pub bits_text : ℕ → List ℕ
bits_text v = used_text (referenced v) (changed v)
