-- Texts laid one behind the other are one text laid.
use Prim.Native.Nat.{ℕ, ◌+◌, ◌≤◌}
use mathlib.Core.Path.{◌≡◌, sym, ap, ◌∙◌}
use mathlib.Core.List.{List, [], ◌∷◌, ◌++◌, append_assoc}
use native.Mathlib.Omega.{arith}
use lib.ListN.{length, take, drop, length-append, length-drop}
use lib.Seq.{paste, length-take-le, take_all, take_at, drop-append-add, drop-drop}
use Rattle.laws.specs.Overlay.{put_at}
use Rattle.pages.specs.Laid.{Laid}
use Rattle.pages.specs.Line.{bytes_of, decimal_of, results_of}
use Rattle.pages.proofs.Digits.{results_one, results_behind}

-- what a loop that copies the whole of b leaves
pub put_paste : (d b : List ℕ) (a n : ℕ) → n ≡ length b → paste d a b n ≡ put_at a d b
unfolding put_at
put_paste d b a n e = rw (e, take_all (length b) b (omega arith), append_assoc)

pub length_put : (d w : List ℕ) (a : ℕ) → a + length w ≤ length d → length (put_at a d w) ≡ length d
unfolding put_at
length_put d w a h = simp (length-append, length-drop) (omega (arith, length-take-le a d (omega arith)))

put_behind : (d v w : List ℕ) (a : ℕ) → a + length v + length w ≤ length d → put_at (a + length v) (put_at a d v) w ≡ put_at a d (v ++ w)
unfolding put_at
put_behind d v w a h =
    let p = take a d ++ v in
    let rest = drop (a + length v) d in
    let n : length p ≡ a + length v = omega (arith, length-append (take a d) v, length-take-le a d (omega arith)) in
    let s : take a d ++ (v ++ rest) ≡ p ++ rest = sym (append_assoc (take a d) v rest) in
    let t : take (a + length v) (p ++ rest) ≡ p = take_at p rest (a + length v) n in
    let r : drop (a + length v + length w) (p ++ rest) ≡ drop (a + length v + length w) d =
    ap (λ (k : ℕ). drop (k + length w) (p ++ rest)) (sym n) ∙ drop-append-add p rest (length w) ∙ drop-drop (length w) (a + length v) d in
    let q : a + length (v ++ w) ≡ a + length v + length w = omega (arith, length-append v w) in
    rw (s, t, r, q) (simp append_assoc)

-- a text behind another
pub laid_behind : {d e f v w : List ℕ} {a b c : ℕ} → Laid d a v e b → Laid e b w f c → Laid d a (v ++ w) f c
laid_behind {d} {e} {f} {v} {w} {a} {b} {c} x y =
    let l : length e ≡ length d = rw x.bytes (length_put d v a x.within) in
    let m : length (v ++ w) ≡ length v + length w = length-append v w in
    let h : a + length v + length w ≤ length d = omega (arith, x.ends, y.within) in
    record {
      bytes = y.bytes ∙ rw (x.ends, x.bytes) (put_behind d v w a h);
      ends = omega (arith, x.ends, y.ends);
      within = omega arith;
    }

-- A number behind a space, and results behind another.
pub laid_number : {d e f : List ℕ} {a b c : ℕ} (n : ℕ) → Laid d a (bytes_of " ") e b → Laid e b (decimal_of n) f c
    → Laid d a (results_of (n ∷ [])) f c
laid_number n x y = rw (← results_one n) (laid_behind x y)

pub laid_results : {d e f : List ℕ} {a b c : ℕ} (n : ℕ) (l : List ℕ) → Laid d a (results_of (n ∷ [])) e b → Laid e b (results_of l) f c
    → Laid d a (results_of (n ∷ l)) f c
laid_results n l x y = rw (← results_behind (n ∷ []) l) (laid_behind x y)
