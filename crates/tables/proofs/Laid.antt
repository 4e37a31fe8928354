-- Words laid behind one another are one laying of them all.
use Prim.Native.Nat.{ℕ, suc, ◌+◌, ◌*◌, ◌≤◌, ◌<◌}
use mathlib.Core.Path.{◌≡◌, refl, sym, ap, ◌∙◌}
use mathlib.Core.List.{List, [], ◌∷◌, ◌++◌, append_assoc, append-nil}
use native.Mathlib.Numerals.{add-one}
use native.Mathlib.Omega.{arith}
use lib.ListN.{get_or, set, length, take, drop, length-append, take-append-drop}
use lib.Seq.{append_snoc, set_split, length-take-le, take_at, drop-append-add, drop-drop}
use Rattle.laws.specs.Overlay.{overlay, put_at}
use Rattle.kinds.specs.Sizes as sizes
use Rattle.kinds.specs.State.{fresh}
use Rattle.kinds.specs.declared.Value.{Value}
use Rattle.rules.specs.Value.{value_words, put_value}
use Rattle.rules.specs.ValueLaws.{words_size, overlay_value}
use Rattle.rules.specs.MergerWords.{length_put}
use Rattle.lent.specs.Rows.{flat, flat_more}

put_then : (d u v : List ℕ) (a b : ℕ) → a + length u ≡ b → b ≤ length d → put_at b (put_at a d u) v ≡ put_at a d (u ++ v)
unfolding put_at
put_then d u v a b e h =
    let p = take a d ++ u in
    let long : length p ≡ b = omega (arith, length-append (take a d) u, length-take-le a d (omega arith)) in
    let both : a + length (u ++ v) ≡ b + length v = omega (arith, length-append u v) in
    let behind : drop (b + length v) (p ++ drop b d) ≡ drop (b + length v) d =
    rw (← long) (drop-append-add p (drop (length p) d) (length v) ∙ drop-drop (length v) (length p) d) in
    rw (e, both, ← append_assoc (take a d) u (drop b d), take_at p (drop b d) b long, behind, append_assoc, append_assoc)

put_word : (d : List ℕ) (a x : ℕ) → a < length d → set d a x ≡ put_at a d (x ∷ [])
unfolding put_at
put_word d a x h = rw (add-one a) (set_split d a x h)

-- e is d with the n words u laid from o on
pub record Laid (d : List ℕ) (o n : ℕ) (u e : List ℕ) : Type 0 where
  pub long : length u ≡ n
  pub whole : e ≡ put_at o d u

pub laid_none : (d : List ℕ) (o : ℕ) → Laid d o 0 [] d
unfolding put_at
laid_none d o =
    let z : o + 0 ≡ o = omega arith in
    record { long = refl; whole = rw (z, take-append-drop o d) }

pub laid_length : (d : List ℕ) (o n : ℕ) (u e : List ℕ) → o + n ≤ length d → Laid d o n u e → length e ≡ length d
laid_length d o n u e h l = ap length l.whole ∙ length_put o d u (omega (arith, l.long))

-- k words more
pub laid_more : (d : List ℕ) (o n k : ℕ) (u a e f : List ℕ) → o + n ≤ length d → Laid d o n u e → length a ≡ k → f ≡ put_at (o + n) e a
    → Laid d o (n + k) (u ++ a) f
laid_more d o n k u a e f h l s q =
    record {
      long = omega (arith, length-append u a, l.long);
      whole = q ∙ ap (λ (x : List ℕ). put_at (o + n) x a) l.whole ∙ put_then d u a o (o + n) (omega (arith, l.long)) h;
    }

-- one word more
laid_word : (d : List ℕ) (o n x : ℕ) (u e : List ℕ) → o + (n + 1) ≤ length d → Laid d o n u e
    → Laid d o (n + 1) (u ++ (x ∷ [])) (set e (o + n) x)
laid_word d o n x u e h l =
    laid_more d o n 1 u (x ∷ []) e (set e (o + n) x) (omega arith) l refl
    (put_word e (o + n) x (omega (arith, laid_length d o n u e (omega arith) l)))

-- one value more
put_as_words : (d : List ℕ) (a : ℕ) (v : Value) → a + sizes.value ≤ length d → put_value d a v ≡ put_at a d (value_words v)
unfolding put_at overlay
put_as_words d a v h =
    let front = take a d in
    let long : length front ≡ a = length-take-le a d (omega arith) in
    let same : overlay d front ≡ d = rw long (take-append-drop a d) in
    let both : length (front ++ value_words v) ≡ a + length (value_words v) = omega (arith, length-append front (value_words v)) in
    rw same at (overlay_value d front a v long h) ∙ rw (both, append_assoc)

laid_value : (d : List ℕ) (o n : ℕ) (v : Value) (u e : List ℕ) → o + (n + sizes.value) ≤ length d → Laid d o n u e
    → Laid d o (n + sizes.value) (u ++ value_words v) (put_value e (o + n) v)
laid_value d o n v u e h l =
    laid_more d o n sizes.value u (value_words v) e (put_value e (o + n) v) (omega arith) l (words_size v)
    (put_as_words e (o + n) v (omega (arith, laid_length d o n u e (omega arith) l)))

-- one more of a list of values
pub laid_values : (d : List ℕ) (o i : ℕ) (vs : List Value) (e : List ℕ) → o + sizes.value * (i + 1) ≤ length d → i < length vs
    → Laid d o (sizes.value * i) (flat value_words (take i vs)) e
    → Laid d o (sizes.value * (i + 1)) (flat value_words (take (i + 1) vs)) (put_value e (o + sizes.value * i) (get_or vs i fresh))
laid_values d o i vs e h q l =
    let more = laid_value d o (sizes.value * i) (get_or vs i fresh) (flat value_words (take i vs)) e (omega arith) l in
    let same : flat value_words (take (i + 1) vs) ≡ flat value_words (take i vs) ++ value_words (get_or vs i fresh) =
    rw add-one (flat_more value_words vs i fresh q) in
    record { long = omega (arith, more.long, ap length same); whole = more.whole ∙ ap (λ (u : List ℕ). put_at o d u) (sym same) }

-- words stored one by one: on a list that is written out this computes to the stores
abbrev pub stores : List ℕ → ℕ → ℕ → List ℕ → List ℕ
stores d o n [] = d
stores d o n (x ∷ ws) = stores (set d (o + n) x) o (n + 1) ws

laid_stores : (ws d : List ℕ) (o n : ℕ) (u e : List ℕ) → o + (n + length ws) ≤ length d → Laid d o n u e
    → Laid d o (n + length ws) (u ++ ws) (stores e o n ws)
laid_stores [] d o n u e h l = let z : n + 0 ≡ n = omega arith in rw (z, append-nil) l
laid_stores (x ∷ ws) d o n u e h l =
    let z : n + suc (length ws) ≡ n + 1 + length ws = omega arith in
    rw (z, ← append_snoc u x ws)
    (laid_stores ws d o (n + 1) (u ++ (x ∷ [])) (set e (o + n) x) (omega arith) (laid_word d o n x u e (omega arith) l))

pub laid_words : (d ws : List ℕ) (o : ℕ) → o + length ws ≤ length d → Laid d o (length ws) ws (stores d o 0 ws)
laid_words d ws o h = let z : 0 + length ws ≡ length ws = omega arith in rw z at (laid_stores ws d o 0 [] d (omega arith) (laid_none d o))

-- k words more behind those that are stored one by one
pub laid_behind : (d : List ℕ) (o n k : ℕ) (ws a f : List ℕ) → o + (n + k) ≤ length d → length ws ≡ n → length a ≡ k
    → f ≡ put_at (o + n) (stores d o 0 ws) a → Laid d o (n + k) (ws ++ a) f
laid_behind d o n k ws a f room h s q =
    let headed : Laid d o n ws (stores d o 0 ws) = rw h at (laid_words d ws o (omega arith)) in
    laid_more d o n k ws a (stores d o 0 ws) f (omega arith) headed s q
