-- Bytes laid over a list, and the numbers that bytes spell. Assumes nothing.
use Rattle.std.proofs.Common.{◌≡◌, ℕ, zero, suc, ◌+◌, ◌*◌, ◌/◌, ◌%◌, ◌^◌, ◌<◌, ◌≤◌, ◌⊎◌, List, [], ◌∷◌, ◌++◌, length, get_or, take, drop, replicate, sym, refl, ap, ◌∙◌, inl, inr, add-zero, add_assoc, mul-le-mul_right, mod-lt, mod-eq_of_lt, mul_assoc, add-mul, mul-le-mul_left, one-mul, zero-add, zero-mul, div-one, arith, lit<, length-drop, length-take, subst, ◌-◌}
use native.Mathlib.Nat.{pow-succ', one-le-pow}
use lib.Arith.{mod-mul}
use lib.ListN.{length-replicate}
use lib.Seq.{drop-append-add}
use Rattle.std.proofs.lemmas.List.{ext_get_or, get_or-take, get_or-drop, drop-take, replicate-append-replicate, take-take, take_rest, take-append-le, drop-append-le, drop_more, length-take-le}
use Rattle.std.proofs.lemmas.Nat.{be_bytes_8}
use Rattle.std.proofs.lemmas.Bool.{cases_lt}
use Rattle.std.specs.Array.{IsFirstChunk}
use Rattle.std.specs.Int.{w64, from_be_bytes}
use Rattle.memory.specs.Bytes.{Octets, octets_take, spell, octets, number_at, over}

-- bytes laid over a list keep its length
pub length_over : (bs : List ℕ) (at : ℕ) (vs : List ℕ) → length (over bs at vs) ≡ length bs
unfolding over
length_over [] at vs = refl
length_over (b ∷ bs) at [] = refl
length_over (b ∷ bs) zero (v ∷ vs) = ap suc (length_over bs zero vs)
length_over (b ∷ bs) (suc at) (v ∷ vs) = ap suc (length_over bs at (v ∷ vs))

-- no bytes change nothing
pub over_none : (bs : List ℕ) (at : ℕ) → over bs at [] ≡ bs
unfolding over
over_none [] at = refl
over_none (b ∷ bs) at = refl

-- a front of a list that bytes were laid over
pub take_over : (n : ℕ) (bs : List ℕ) (at : ℕ) (vs : List ℕ) → take n (over bs at vs) ≡ over (take n bs) at vs
unfolding over
take_over zero bs at vs = refl
take_over (suc n) [] at vs = refl
take_over (suc n) (b ∷ bs) at [] = refl
take_over (suc n) (b ∷ bs) zero (v ∷ vs) = ap (λ xs. v ∷ xs) (take_over n bs zero vs)
take_over (suc n) (b ∷ bs) (suc at) (v ∷ vs) = ap (λ xs. b ∷ xs) (take_over n bs at (v ∷ vs))

-- what lies behind the bytes laid over a list
pub drop_over : (n : ℕ) (bs : List ℕ) (at : ℕ) (vs : List ℕ) → at + length vs ≤ n → drop n (over bs at vs) ≡ drop n bs
unfolding over
drop_over n [] at vs h = refl
drop_over n (b ∷ bs) at [] h = refl
drop_over zero (b ∷ bs) at (v ∷ vs) h = absurd (omega arith)
drop_over (suc n) (b ∷ bs) zero (v ∷ vs) h = drop_over n bs zero vs (omega arith)
drop_over (suc n) (b ∷ bs) (suc at) (v ∷ vs) h = drop_over n bs at (v ∷ vs) (omega arith)

-- bytes laid over the first of two lists
pub over_left : (bs cs : List ℕ) (at : ℕ) (vs : List ℕ) → at + length vs ≤ length bs → over (bs ++ cs) at vs ≡ over bs at vs ++ cs
unfolding over
over_left [] cs at [] h = over_none cs at
over_left [] cs at (v ∷ vs) h = absurd (omega arith)
over_left (b ∷ bs) cs at [] h = refl
over_left (b ∷ bs) cs zero (v ∷ vs) h = ap (λ xs. v ∷ xs) (over_left bs cs zero vs (omega arith))
over_left (b ∷ bs) cs (suc at) (v ∷ vs) h = ap (λ xs. b ∷ xs) (over_left bs cs at (v ∷ vs) (omega arith))

-- bytes laid over the second of two lists
pub over_right : (bs cs : List ℕ) (at : ℕ) (vs : List ℕ) → over (bs ++ cs) (length bs + at) vs ≡ bs ++ over cs at vs
unfolding over
over_right [] cs at vs = ap (λ i. over cs i vs) (zero-add at)
over_right (b ∷ bs) cs at [] = ap (λ xs. b ∷ (bs ++ xs)) (sym (over_none cs at))
over_right (b ∷ bs) cs at (v ∷ vs) =
    let on : length (b ∷ bs) + at ≡ suc (length bs + at) = omega arith in
    ap (λ i. over (b ∷ (bs ++ cs)) i (v ∷ vs)) on ∙ ap (λ xs. b ∷ xs) (over_right bs cs at (v ∷ vs))

-- bytes, and then others right behind them
pub over_over : (bs : List ℕ) (at : ℕ) (vs ws : List ℕ) → over (over bs at vs) (at + length vs) ws ≡ over bs at (vs ++ ws)
unfolding over
over_over [] at vs ws = refl
over_over (b ∷ bs) at [] ws = ap (λ i. over (b ∷ bs) i ws) (add-zero at)
over_over (b ∷ bs) zero (v ∷ vs) [] = over_none (v ∷ over bs zero vs) (zero + length (v ∷ vs)) ∙ ap (λ xs. v ∷ xs) (sym (over_none (over bs zero vs) (zero + length vs)) ∙ over_over bs zero vs [])
over_over (b ∷ bs) zero (v ∷ vs) (w ∷ ws) =
    let on : zero + length (v ∷ vs) ≡ suc (zero + length vs) = omega arith in
    ap (λ i. over (v ∷ over bs zero vs) i (w ∷ ws)) on ∙ ap (λ xs. v ∷ xs) (over_over bs zero vs (w ∷ ws))
over_over (b ∷ bs) (suc at) (v ∷ vs) [] = over_none (b ∷ over bs at (v ∷ vs)) (suc at + length (v ∷ vs)) ∙ ap (λ xs. b ∷ xs) (sym (over_none (over bs at (v ∷ vs)) (at + length (v ∷ vs))) ∙ over_over bs at (v ∷ vs) [])
over_over (b ∷ bs) (suc at) (v ∷ vs) (w ∷ ws) =
    let on : suc at + length (v ∷ vs) ≡ suc (at + length (v ∷ vs)) = omega arith in
    ap (λ i. over (b ∷ over bs at (v ∷ vs)) i (w ∷ ws)) on ∙ ap (λ xs. b ∷ xs) (over_over bs at (v ∷ vs) (w ∷ ws))

-- a byte that nothing was laid over
pub over_other : (bs : List ℕ) (at : ℕ) (vs : List ℕ) (k : ℕ) → (k < at) ⊎ (at + length vs ≤ k) → get_or (over bs at vs) k 0 ≡ get_or bs k 0
unfolding over
over_other [] at vs k h = refl
over_other (b ∷ bs) at [] k h = refl
over_other (b ∷ bs) zero (v ∷ vs) zero h = absurd (elim h [ inl p ↦ omega arith | inr p ↦ omega arith ])
over_other (b ∷ bs) zero (v ∷ vs) (suc k) h = over_other bs zero vs k (elim h [ inl p ↦ absurd (omega arith) | inr p ↦ inr (omega arith) ])
over_other (b ∷ bs) (suc at) (v ∷ vs) zero h = refl
over_other (b ∷ bs) (suc at) (v ∷ vs) (suc k) h = over_other bs at (v ∷ vs) k (elim h [ inl p ↦ inl (omega arith) | inr p ↦ inr (omega arith) ])

-- the same bytes laid over two lists that agree elsewhere
pub over_both : (bs cs : List ℕ) (at : ℕ) (vs : List ℕ) (k : ℕ) → length bs ≡ length cs → ((k < at) ⊎ (at + length vs ≤ k) → get_or bs k 0 ≡ get_or cs k 0)
    → get_or (over bs at vs) k 0 ≡ get_or (over cs at vs) k 0
unfolding over
over_both [] [] at vs k e h = refl
over_both [] (c ∷ cs) at vs k e h = absurd (let z : 0 ≡ suc (length cs) = e in omega arith)
over_both (b ∷ bs) [] at vs k e h = absurd (let z : suc (length bs) ≡ 0 = e in omega arith)
over_both (b ∷ bs) (c ∷ cs) at [] k e h = h (elim (cases_lt k at) [ inl p ↦ inl p | inr p ↦ inr (omega arith) ])
over_both (b ∷ bs) (c ∷ cs) zero (v ∷ vs) zero e h = refl
over_both (b ∷ bs) (c ∷ cs) zero (v ∷ vs) (suc k) e h =
    over_both bs cs zero vs k (let z : suc (length bs) ≡ suc (length cs) = e in omega arith)
    (elim [ inl p ↦ absurd (omega arith) | inr p ↦ h (inr (omega arith)) ])
over_both (b ∷ bs) (c ∷ cs) (suc at) (v ∷ vs) zero e h = h (inl (omega arith))
over_both (b ∷ bs) (c ∷ cs) (suc at) (v ∷ vs) (suc k) e h =
    over_both bs cs at (v ∷ vs) k (let z : suc (length bs) ≡ suc (length cs) = e in omega arith)
    (elim [ inl p ↦ h (inl (omega arith)) | inr p ↦ h (inr (omega arith)) ])

-- the bytes that were laid over a list
pub over_there : (bs : List ℕ) (at : ℕ) (vs : List ℕ) → at + length vs ≤ length bs → take (length vs) (drop at (over bs at vs)) ≡ vs
unfolding over
over_there bs at [] h = refl
over_there [] at (v ∷ vs) h = absurd (omega arith)
over_there (b ∷ bs) zero (v ∷ vs) h = ap (λ xs. v ∷ xs) (over_there bs zero vs (omega arith))
over_there (b ∷ bs) (suc at) (v ∷ vs) h = over_there bs at (v ∷ vs) (omega arith)

pub length_octets : (w v : ℕ) → length (octets w v) ≡ w
unfolding octets
length_octets zero v = refl
length_octets (suc w) v = ap suc (length_octets w v)

-- the last bytes of a number spell its remainder
pub spell_octets : (w v n : ℕ) → spell n (octets w v) ≡ n * 256 ^ w + v % 256 ^ w
unfolding octets spell
spell_octets zero v n = omega arith
spell_octets (suc w) v n =
    let p = 256 ^ w in
    let d = v / p % 256 in
    let split : v % (256 * p) ≡ d * p + v % p = mod-mul v (lit< tt) (one-le-pow w 256 (lit< tt)) in
    let wide : 256 ^ suc w ≡ 256 * p = pow-succ' 256 w in
    let left : (n * 256 + d) * p ≡ n * 256 * p + d * p = add-mul (n * 256) d p in
    let up : n * 256 * p ≡ n * (256 * p) = mul_assoc n 256 p in
    spell_octets w v (n * 256 + d) ∙ ap (λ x. x + v % p) (left ∙ ap (λ x. x + d * p) up) ∙ add_assoc (n * (256 * p)) (d * p) (v % p)
    ∙ ap (λ x. n * (256 * p) + x) (sym split) ∙ ap (λ x. n * x + v % x) (sym wide)

-- a number in a front of a list
pub number_take : (w n : ℕ) (bs : List ℕ) (at : ℕ) → at + w ≤ n → number_at w (take n bs) at ≡ number_at w bs at
unfolding number_at
number_take w n bs at h =
    let on : at + (n - at) ≡ n = omega arith in
    ap (λ k. spell 0 (take w (drop at (take k bs)))) (sym on)
    ∙ ap (λ xs. spell 0 (take w xs)) (drop-take at (n - at) bs)
    ∙ ap (spell 0) (take-take w (n - at) (drop at bs) (omega arith))

-- a number in the first of two lists
pub number_left : (w : ℕ) (bs cs : List ℕ) (at : ℕ) → at + w ≤ length bs → number_at w (bs ++ cs) at ≡ number_at w bs at
unfolding number_at
number_left w bs cs at h =
    ap (λ xs. spell 0 (take w xs)) (drop-append-le at bs cs (omega arith))
    ∙ ap (spell 0) (take-append-le w (drop at bs) cs (simp length-drop (omega arith)))

-- a number in the second of two lists
pub number_right : (w : ℕ) (bs cs : List ℕ) (at : ℕ) → number_at w (bs ++ cs) (length bs + at) ≡ number_at w cs at
unfolding number_at
number_right w bs cs at = ap (λ xs. spell 0 (take w xs)) (drop-append-add bs cs at)

-- two lists that agree at `w` places spell one number there
pub number_same : (w : ℕ) (bs cs : List ℕ) (at : ℕ) → length bs ≡ length cs → ((i : ℕ) → i < w → get_or bs (at + i) 0 ≡ get_or cs (at + i) 0) → number_at w bs at ≡ number_at w cs at
unfolding number_at
number_same w bs cs at e h =
    ap (spell 0) (ext_get_or 0 (take w (drop at bs)) (take w (drop at cs)) (simp (length-take, length-drop) (rw e)) (λ i l.
    let below : i < w = omega (arith, length-take w (drop at bs)) in
    get_or-take w (drop at bs) i 0 below ∙ get_or-drop at bs i 0 ∙ h i below ∙ sym (get_or-drop at cs i 0) ∙ sym (get_or-take w (drop at cs) i 0 below)))

-- the bytes of a number spell it, if it is narrow enough
spell_back : (w v : ℕ) → v < 256 ^ w → spell 0 (octets w v) ≡ v
spell_back w v small = spell_octets w v 0 ∙ ap (λ x. x + v % 256 ^ w) (zero-mul (256 ^ w)) ∙ zero-add (v % 256 ^ w) ∙ mod-eq_of_lt small

-- a number that was laid over a list is read back, if it is narrow enough
pub number_there : (w : ℕ) (bs : List ℕ) (at v : ℕ) → at + w ≤ length bs → v < 256 ^ w → number_at w (over bs at (octets w v)) at ≡ v
unfolding number_at
number_there w bs at v h small =
    let long = length_octets w v in
    ap (λ n. spell 0 (take n (drop at (over bs at (octets w v))))) (sym long)
    ∙ ap (spell 0) (over_there bs at (octets w v) (omega arith))
    ∙ spell_back w v small

-- a number elsewhere is as it was
pub number_elsewhere : (w : ℕ) (bs : List ℕ) (at : ℕ) (vs : List ℕ) (k : ℕ) → (k + w ≤ at) ⊎ (at + length vs ≤ k) → number_at w (over bs at vs) k ≡ number_at w bs k
number_elsewhere w bs at vs k apart =
    number_same w (over bs at vs) bs k (length_over bs at vs) (λ i l. over_other bs at vs (k + i) (elim apart [ inl p ↦ inl (omega arith) | inr p ↦ inr (omega arith) ]))

-- the first of the bytes from `at` on, and those from the next on
part_next : (w : ℕ) (bs : List ℕ) (at on : ℕ) → on ≡ at + 1 → at < length bs → take (suc w) (drop at bs) ≡ get_or bs at 0 ∷ take w (drop on bs)
part_next w bs at on e h = ap (take (suc w)) (drop_more bs at 0 h) ∙ ap (λ i. get_or bs at 0 ∷ take w (drop i bs)) (sym e)

-- eight bytes, one by one
pub part_eight : (bs : List ℕ) (at : ℕ) → at + 8 ≤ length bs
    → take 8 (drop at bs) ≡ get_or bs at 0 ∷ get_or bs (at + 1) 0 ∷ get_or bs (at + 2) 0 ∷ get_or bs (at + 3) 0 ∷ get_or bs (at + 4) 0 ∷ get_or bs (at + 5) 0 ∷ get_or bs (at + 6) 0 ∷ get_or bs (at + 7) 0 ∷ []
part_eight bs at h =
    let p0 = part_next 7 bs at (at + 1) refl (omega arith) in
    let p1 = part_next 6 bs (at + 1) (at + 2) (omega arith) (omega arith) in
    let p2 = part_next 5 bs (at + 2) (at + 3) (omega arith) (omega arith) in
    let p3 = part_next 4 bs (at + 3) (at + 4) (omega arith) (omega arith) in
    let p4 = part_next 3 bs (at + 4) (at + 5) (omega arith) (omega arith) in
    let p5 = part_next 2 bs (at + 5) (at + 6) (omega arith) (omega arith) in
    let p6 = part_next 1 bs (at + 6) (at + 7) (omega arith) (omega arith) in
    let p7 = part_next 0 bs (at + 7) (at + 8) (omega arith) (omega arith) in
    rw (p0, p1, p2, p3, p4, p5, p6, p7)

-- what eight bytes spell
pub spell_eight : (a b c d e f g h : ℕ) → a * 72057594037927936 + b * 281474976710656 + c * 1099511627776 + d * 4294967296 + e * 16777216 + f * 65536 + g * 256 + h
    ≡ spell 0 (a ∷ b ∷ c ∷ d ∷ e ∷ f ∷ g ∷ h ∷ [])
unfolding spell
spell_eight a b c d e f g h = omega arith

-- a doubleword's bytes as the numbers' own method gives them
pub eight_octets : (v : ℕ) → (v / 72057594037927936 % 256) ∷ (v / 281474976710656 % 256) ∷ (v / 1099511627776 % 256) ∷ (v / 4294967296 % 256)
    ∷ (v / 16777216 % 256) ∷ (v / 65536 % 256) ∷ (v / 256 % 256) ∷ (v % 256) ∷ [] ≡ octets 8 v
unfolding octets
eight_octets v = rw div-one

-- bytes laid over a list stand between its front and its rest
over_parts : (bs : List ℕ) (at : ℕ) (vs : List ℕ) → at + length vs ≤ length bs → take at bs ++ (vs ++ drop (at + length vs) bs) ≡ over bs at vs
unfolding over
over_parts bs zero [] h = sym (over_none bs zero)
over_parts [] zero (v ∷ vs) h = absurd (omega arith)
over_parts (b ∷ bs) zero (v ∷ vs) h =
    let on : zero + length (v ∷ vs) ≡ suc (zero + length vs) = omega arith in
    ap (λ i. v ∷ (vs ++ drop i (b ∷ bs))) on ∙ ap (λ xs. v ∷ xs) (over_parts bs zero vs (omega arith))
over_parts [] (suc at) vs h = absurd (omega arith)
over_parts (b ∷ bs) (suc at) vs h =
    let on : suc at + length vs ≡ suc (at + length vs) = omega arith in
    ap (λ i. b ∷ (take at bs ++ (vs ++ drop i (b ∷ bs)))) on ∙ ap (λ xs. b ∷ xs) (over_parts bs at vs (omega arith)) ∙ up vs
  where
    up : (vs : List ℕ) → b ∷ over bs at vs ≡ over (b ∷ bs) (suc at) vs
    up [] = ap (λ xs. b ∷ xs) (over_none bs at)
    up (v ∷ vs) = refl

-- eight bytes between a front and a rest
pub laid_eight : (bs : List ℕ) (at v : ℕ) (ws : List ℕ) → at + 8 ≤ length bs → ws ≡ octets 8 v → take at bs ++ (ws ++ drop (at + 8) bs) ≡ over bs at (octets 8 v)
laid_eight bs at v ws h e =
    let n = length_octets 8 v in
    ap (λ xs. take at bs ++ (xs ++ drop (at + 8) bs)) e
    ∙ ap (λ k. take at bs ++ (octets 8 v ++ drop (at + k) bs)) (sym n)
    ∙ over_parts bs at (octets 8 v) (omega arith)

-- eight zeros more
pub zeros_more : (bs : List ℕ) (at n : ℕ) → over (over bs at (replicate n 0)) (at + n) (octets 8 0) ≡ over bs at (replicate (n + 8) 0)
unfolding octets
zeros_more bs at n =
    ap (λ k. over (over bs at (replicate n 0)) (at + k) (replicate 8 0)) (sym (length-replicate n 0))
    ∙ over_over bs at (replicate n 0) (replicate 8 0)
    ∙ ap (over bs at) (replicate-append-replicate n 8 0)

-- bytes laid over bytes are bytes
pub octets_over : (bs : List ℕ) (at : ℕ) (vs : List ℕ) → Octets bs → Octets vs → Octets (over bs at vs)
unfolding over
octets_over [] at vs p q i = lit< tt
octets_over (b ∷ bs) at [] p q i = p i
octets_over (b ∷ bs) zero (v ∷ vs) p q zero = q 0
octets_over (b ∷ bs) zero (v ∷ vs) p q (suc i) = octets_over bs zero vs (λ j. p (suc j)) (λ j. q (suc j)) i
octets_over (b ∷ bs) (suc at) (v ∷ vs) p q zero = p 0
octets_over (b ∷ bs) (suc at) (v ∷ vs) p q (suc i) = octets_over bs at (v ∷ vs) (λ j. p (suc j)) q i

-- a number's bytes are bytes
pub octets_octets : (w v : ℕ) → Octets (octets w v)
unfolding octets
octets_octets zero v i = lit< tt
octets_octets (suc w) v zero = mod-lt (v / 256 ^ w) (lit< tt)
octets_octets (suc w) v (suc i) = octets_octets w v i

pub octets_zeros : (n : ℕ) → Octets (replicate n 0)
octets_zeros zero i = lit< tt
octets_zeros (suc n) zero = lit< tt
octets_zeros (suc n) (suc i) = octets_zeros n i

octets_drop : (at : ℕ) (bs : List ℕ) → Octets bs → Octets (drop at bs)
octets_drop zero bs o i = o i
octets_drop (suc at) [] o i = lit< tt
octets_drop (suc at) (b ∷ bs) o i = octets_drop at bs (λ j. o (suc j)) i

-- what `w` bytes spell after `n`
spell_below : (w n : ℕ) (bs : List ℕ) → Octets bs → spell n (take w bs) < (n + 1) * 256 ^ w
unfolding spell
spell_below zero n bs o = omega arith
spell_below (suc w) n [] o = let k : (n + 1) * 1 ≤ (n + 1) * 256 ^ suc w = mul-le-mul_left (n + 1) (one-le-pow (suc w) 256 (lit< tt)) in omega arith
spell_below (suc w) n (b ∷ bs) o =
    let h = spell_below w (n * 256 + b) bs (λ i. o (suc i)) in
    let small : n * 256 + b + 1 ≤ (n + 1) * 256 = let l = o 0 in omega arith in
    let wide : (n * 256 + b + 1) * 256 ^ w ≤ (n + 1) * 256 * 256 ^ w = mul-le-mul_right (256 ^ w) small in
    let up : (n + 1) * 256 * 256 ^ w ≡ (n + 1) * (256 * 256 ^ w) = mul_assoc (n + 1) 256 (256 ^ w) in
    let next = pow-succ' 256 w in
    let last : (n + 1) * 256 ^ suc w ≡ (n + 1) * (256 * 256 ^ w) = ap (λ x. (n + 1) * x) next in
    omega arith

-- what `w` bytes spell is below 256 ^ w
pub number_below : (w : ℕ) (bs : List ℕ) (at : ℕ) → Octets bs → number_at w bs at < 256 ^ w
unfolding number_at
number_below w bs at o =
    let h = spell_below w 0 (drop at bs) (octets_drop at bs o) in
    let one = one-mul (256 ^ w) in
    omega arith

-- the first eight bytes from `at` on spell the number that the library's method gives of them
pub number_eight : (bs : List ℕ) (at n : ℕ) (chunk : List ℕ) → Octets bs → IsFirstChunk (take (length bs - at) (drop at bs)) chunk 8 → n ≡ from_be_bytes w64 chunk → n < 2 ^ 64 → n ≡ number_at 8 bs at
unfolding number_at
number_eight bs at n chunk o front e small =
    let long : length chunk ≡ 8 = ap length front.same ∙ length-take-le 8 _ front.enough in
    let part : chunk ≡ take 8 (drop at bs) = front.same ∙ ap (take 8) (take_rest bs at) in
    let bytes : Octets chunk = subst Octets (sym part) (octets_take 8 (drop at bs) (octets_drop at bs o)) in
    sym (spell_back 8 n small) ∙ ap (spell 0) (sym (eight_octets n) ∙ be_bytes_8 chunk n long bytes e ∙ part)
