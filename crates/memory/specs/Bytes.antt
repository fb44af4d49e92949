-- Big-endian numbers in lists of bytes. Assumes nothing.
use Rattle.std.specs.Prelude.{ℕ, zero, suc, ◌+◌, ◌*◌, ◌/◌, ◌%◌, ◌^◌, ◌<◌, List, [], ◌∷◌, ◌++◌, take, drop, slice_index}
use Rattle.std.proofs.Common.{lit<}

-- every element is a byte
abbrev pub Octets : List ℕ → Type 0
Octets bs = (i : ℕ) → slice_index bs i < 256

-- the front of a list of bytes is one too
pub octets_take : (n : ℕ) (bs : List ℕ) → Octets bs → Octets (take n bs)
octets_take zero bs o i = lit< tt
octets_take (suc n) [] o i = lit< tt
octets_take (suc n) (b ∷ bs) o zero = o 0
octets_take (suc n) (b ∷ bs) o (suc i) = octets_take n bs (λ j. o (suc j)) i

-- and so are two end to end
pub octets_append : (xs ys : List ℕ) → Octets xs → Octets ys → Octets (xs ++ ys)
octets_append [] ys p q i = q i
octets_append (x ∷ xs) ys p q zero = p 0
octets_append (x ∷ xs) ys p q (suc i) = octets_append xs ys (λ j. p (suc j)) q i

-- the number that bytes spell after `n`, the most significant first
unfoldable pub spell : ℕ → List ℕ → ℕ
spell n [] = n
spell n (b ∷ bs) = spell (n * 256 + b) bs

-- the last `w` bytes of a number, the most significant first
unfoldable pub octets : ℕ → ℕ → List ℕ
octets zero v = []
octets (suc w) v = (v / 256 ^ w % 256) ∷ octets w v

-- the number that the `w` bytes from `at` on spell
unfoldable pub number_at : ℕ → List ℕ → ℕ → ℕ
number_at w bs at = spell 0 (take w (drop at bs))

-- a list with other bytes laid over those from `at` on; it keeps its length
unfoldable pub over : List ℕ → ℕ → List ℕ → List ℕ
over [] at vs = []
over (b ∷ bs) at [] = b ∷ bs
over (b ∷ bs) zero (v ∷ vs) = v ∷ over bs zero vs
over (b ∷ bs) (suc at) (v ∷ vs) = b ∷ over bs at (v ∷ vs)
