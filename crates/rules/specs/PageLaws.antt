-- Laws of pages: an offset from its page and rest, page and rest from an offset, and the words of a run.
use Rattle.std.specs.Prelude.{ℕ, zero, suc, ◌+◌, ◌*◌, ◌/◌, ◌%◌, ◌<◌, ◌≡◌, refl, List, [], ◌∷◌, ◌++◌, length, take, get_or}
use Rattle.std.proofs.Common.{◌∙◌, append_assoc, mul_comm, mod-eq_of_lt, add-zero, add-one, arith, take-suc}
use Rattle.std.proofs.Math.Nat.{div-add-mod, mul-add-div_right, mul-add-mod_self_right, div-eq_of_lt}
use Rattle.rules.specs.Page.{places_of}

-- there and back
pub there_back : (l offset : ℕ) → offset / l * l + offset % l ≡ offset
there_back l offset = rw (mul_comm (offset / l) l) (div-add-mod offset l)

-- back and there
pub back_page : (l page rest : ℕ) → rest < l → (page * l + rest) / l ≡ page
back_page l page rest h = mul-add-div_right (omega arith) page rest ∙ rw (div-eq_of_lt h) (add-zero page)

pub back_rest : (l page rest : ℕ) → rest < l → (page * l + rest) % l ≡ rest
back_rest l page rest h = mul-add-mod_self_right page l rest ∙ mod-eq_of_lt h

-- A run has two words for each offset,
pub length_places : (l : ℕ) (offsets : List ℕ) → length (places_of l offsets) ≡ 2 * length offsets
unfolding places_of
length_places l [] = refl
length_places l (o ∷ os) = omega (arith, length_places l os)

places_append : (l : ℕ) (a b : List ℕ) → places_of l (a ++ b) ≡ places_of l a ++ places_of l b
unfolding places_of
places_append l [] b = refl
places_append l (o ∷ os) b = rw (places_append l os b)

-- one offset more is two words more,
pub places_more : (l : ℕ) (offsets : List ℕ) (i : ℕ) → i < length offsets
    → places_of l (take (i + 1) offsets)
    ≡ (places_of l (take i offsets) ++ (get_or offsets i 0 / l ∷ [])) ++ (get_or offsets i 0 % l ∷ [])
unfolding places_of
places_more l offsets i h =
    rw (add-one, take-suc offsets i 0 h, places_append l (take i offsets) (get_or offsets i 0 ∷ []), append_assoc)

-- and offset i has words 2 i and 2 i + 1.
pub places_page : (l : ℕ) (offsets : List ℕ) (i : ℕ) → i < length offsets
    → get_or (places_of l offsets) (2 * i) 0 ≡ get_or offsets i 0 / l
unfolding places_of
places_page l [] i h = absurd (omega arith)
places_page l (o ∷ os) zero h = refl
places_page l (o ∷ os) (suc i) h =
    let e : 2 * suc i ≡ suc (suc (2 * i)) = omega arith in
    rw e (places_page l os i (omega arith))

pub places_rest : (l : ℕ) (offsets : List ℕ) (i : ℕ) → i < length offsets
    → get_or (places_of l offsets) (2 * i + 1) 0 ≡ get_or offsets i 0 % l
unfolding places_of
places_rest l [] i h = absurd (omega arith)
places_rest l (o ∷ os) zero h = refl
places_rest l (o ∷ os) (suc i) h =
    let e : 2 * suc i + 1 ≡ suc (suc (2 * i + 1)) = omega arith in
    rw e (places_rest l os i (omega arith))
