-- Messages under way: of those about one transaction, what was written and not yet taken, over messages taken and written.
use Prim.Native.Nat.{ℕ, zero, suc, ◌+◌, ◌≤◌, ◌<◌}
use mathlib.Core.Path.{◌≡◌, refl, sym, ap}
use mathlib.Core.Bool.{true, false}
use mathlib.Core.List.{List, [], ◌∷◌, ◌++◌}
use native.Mathlib.Omega.{arith}
use native.Mathlib.Numerals.{add-one}
use borrow.Author.Tests.{eq-eqb, ne_eqb, le-leb}
use lib.Dec.{eqb}
use lib.ListN.{length, get_or, drop}
use Rattle.laws.specs.Choice.{pick, by_test, set_not}
use Rattle.rules.specs.House.{in_mask}
use Rattle.rules.proofs.Lists.Tables.{upd₂, upd₂_same, upd₂_cases, Other₂, upd₂_other}
use Rattle.rules.proofs.Protocol.ProtocolTables.{Msg}
use Rattle.rules.proofs.Protocol.Protocol.{others}
use Rattle.rules.proofs.Protocol.Frames.{others_cases}
use Rattle.rules.proofs.Refine.Refines.{tx_in}

-- those about t
unfoldable pub about : ℕ → List Msg → List Msg
about t [] = []
about t (m ∷ l) = pick (eqb (tx_in m) t) (m ∷ about t l) (about t l)

-- under way from a to b
unfoldable pub pending : (ℕ → ℕ → List Msg) → (ℕ → ℕ → ℕ) → ℕ → ℕ → ℕ → List Msg
pending post taken t a b = about t (drop (taken a b) (post a b))

about_is : (t : ℕ) (m : Msg) (l : List Msg) → tx_in m ≡ t → about t (m ∷ l) ≡ m ∷ about t l
unfolding about
about_is t m l e = rw (eq-eqb (tx_in m) t e)

about_not : (t : ℕ) (m : Msg) (l : List Msg) → (tx_in m ≡ t → ⊥) → about t (m ∷ l) ≡ about t l
unfolding about
about_not t m l e = rw (ne_eqb (tx_in m) t e)

-- a list with its next element, and one with a last
drop_next : (l : List Msg) (n : ℕ) (m : Msg) → n < length l → get_or l n m ≡ m → drop n l ≡ m ∷ drop (suc n) l
drop_next [] n m h e = absurd (omega arith)
drop_next (x ∷ l) zero m h e = ap (λ (y : Msg). y ∷ l) e
drop_next (x ∷ l) (suc n) m h e = drop_next l n m (omega arith) e

drop_last : (l : List Msg) (n : ℕ) (m : Msg) → n ≤ length l → drop n (l ++ (m ∷ [])) ≡ drop n l ++ (m ∷ [])
drop_last l zero m h = refl
drop_last [] (suc n) m h = absurd (omega arith)
drop_last (x ∷ l) (suc n) m h = drop_last l n m (omega arith)

about_last : (t : ℕ) (l : List Msg) (m : Msg) → tx_in m ≡ t → about t (l ++ (m ∷ [])) ≡ about t l ++ (m ∷ [])
unfolding about
about_last t [] m e = about_is t m [] e
about_last t (x ∷ l) m e =
    by_test (eqb (tx_in x) t)
    (λ f. rw f (ap (λ (k : List Msg). x ∷ k) (about_last t l m e)))
    (λ f. rw f (about_last t l m e))

about_none : (t : ℕ) (l : List Msg) (m : Msg) → (tx_in m ≡ t → ⊥) → about t (l ++ (m ∷ [])) ≡ about t l
unfolding about
about_none t [] m e = about_not t m [] e
about_none t (x ∷ l) m e =
    by_test (eqb (tx_in x) t)
    (λ f. rw f (ap (λ (k : List Msg). x ∷ k) (about_none t l m e)))
    (λ f. rw f (about_none t l m e))

module _ (post : ℕ → ℕ → List Msg) (taken : ℕ → ℕ → ℕ) (t : ℕ) where
  -- A message taken from a at b.
  module _ (a b : ℕ) where
    abbrev stepped : ℕ → ℕ → ℕ
    stepped = upd₂ taken a b (taken a b + 1)

    step_here : (m : Msg) → taken a b < length (post a b) → get_or (post a b) (taken a b) m ≡ m
        → drop (taken a b) (post a b) ≡ m ∷ drop (stepped a b) (post a b)
    step_here m h e = rw (upd₂_same taken a b (taken a b + 1), add-one (taken a b)) (drop_next (post a b) (taken a b) m h e)

    pub taken_first : (m : Msg) → taken a b < length (post a b) → get_or (post a b) (taken a b) m ≡ m → tx_in m ≡ t
        → pending post taken t a b ≡ m ∷ pending post stepped t a b
    unfolding pending
    taken_first m h e f = rw (step_here m h e) (about_is t m (drop (stepped a b) (post a b)) f)

    pub taken_not : (m : Msg) → taken a b < length (post a b) → get_or (post a b) (taken a b) m ≡ m → (tx_in m ≡ t → ⊥)
        → (x y : ℕ) → pending post stepped t x y ≡ pending post taken t x y
    unfolding pending
    taken_not m h e f =
        upd₂_cases (λ x y n. about t (drop n (post x y)) ≡ about t (drop (taken x y) (post x y))) taken a b (taken a b + 1)
        (rw (add-one (taken a b), drop_next (post a b) (taken a b) m h e) (sym (about_not t m (drop (suc (taken a b)) (post a b)) f)))
        (λ x y n. refl)

    pub taken_elsewhere : (x y : ℕ) → Other₂ a b x y → pending post stepped t x y ≡ pending post taken t x y
    unfolding pending
    taken_elsewhere x y n = rw (upd₂_other taken a b (taken a b + 1) x y n)

  -- A message written from a to b.
  module _ (count : (x y : ℕ) → taken x y ≤ length (post x y)) where
    written : (k : List Msg) (m : Msg) (x y : ℕ) → k ≡ post x y ++ (m ∷ []) → tx_in m ≡ t
        → about t (drop (taken x y) k) ≡ pending post taken t x y ++ (m ∷ [])
    unfolding pending
    written k m x y e f = rw (e, drop_last (post x y) (taken x y) m (count x y)) (about_last t (drop (taken x y) (post x y)) m f)

    unwritten : (k : List Msg) (m : Msg) (x y : ℕ) → k ≡ post x y ++ (m ∷ []) → (tx_in m ≡ t → ⊥)
        → about t (drop (taken x y) k) ≡ pending post taken t x y
    unfolding pending
    unwritten k m x y e f = rw (e, drop_last (post x y) (taken x y) m (count x y)) (about_none t (drop (taken x y) (post x y)) m f)

    pub posted_last : (a b : ℕ) (m : Msg) → tx_in m ≡ t
        → pending (upd₂ post a b (post a b ++ (m ∷ []))) taken t a b ≡ pending post taken t a b ++ (m ∷ [])
    unfolding pending
    posted_last a b m f = written _ m a b (upd₂_same post a b (post a b ++ (m ∷ []))) f

    pub posted_not : (a b : ℕ) (m : Msg) → (tx_in m ≡ t → ⊥) → (x y : ℕ)
        → pending (upd₂ post a b (post a b ++ (m ∷ []))) taken t x y ≡ pending post taken t x y
    unfolding pending
    posted_not a b m f =
        upd₂_cases (λ x y l. about t (drop (taken x y) l) ≡ about t (drop (taken x y) (post x y))) post a b (post a b ++ (m ∷ []))
        (unwritten _ m a b refl f) (λ x y n. refl)

    pub others_not : (a mask : ℕ) (m : Msg) → (tx_in m ≡ t → ⊥) → (x y : ℕ)
        → pending (others post a mask m) taken t x y ≡ pending post taken t x y
    unfolding pending
    others_not a mask m f =
        others_cases (λ x y l. about t (drop (taken x y) l) ≡ about t (drop (taken x y) (post x y))) post a mask m
        (λ y l e n. unwritten _ m a y refl f) (λ x y. refl)

  pub posted_elsewhere : (a b : ℕ) (m : Msg) (x y : ℕ) → Other₂ a b x y
      → pending (upd₂ post a b (post a b ++ (m ∷ []))) taken t x y ≡ pending post taken t x y
  unfolding pending
  posted_elsewhere a b m x y n = rw (upd₂_other post a b (post a b ++ (m ∷ [])) x y n)

  -- one to each other participant
  pub others_elsewhere : (a mask : ℕ) (m : Msg) (x y : ℕ) → (x ≡ a → ⊥)
      → pending (others post a mask m) taken t x y ≡ pending post taken t x y
  unfolding pending others
  others_elsewhere a mask m x y n = rw (ne_eqb x a n)

  pub others_apart : (a mask : ℕ) (m : Msg) (r : ℕ) → in_mask mask r ≡ false
      → pending (others post a mask m) taken t a r ≡ pending post taken t a r
  unfolding pending
  others_apart a mask m r e =
      others_cases (λ x y l. in_mask mask y ≡ false → about t (drop (taken x y) l) ≡ about t (drop (taken x y) (post x y))) post a mask m
      (λ y l k n z. absurd (set_not _ k z)) (λ x y z. refl) a r e

  pub others_last : ((x y : ℕ) → taken x y ≤ length (post x y)) → (a mask : ℕ) (m : Msg) (r : ℕ) → tx_in m ≡ t → 1 ≤ r → in_mask mask r ≡ true
      → (r ≡ a → ⊥)
      → pending (others post a mask m) taken t a r ≡ pending post taken t a r ++ (m ∷ [])
  unfolding pending others
  others_last count a mask m r f l e n = rw (eq-eqb a a refl, le-leb 1 r l, e, ne_eqb r a n) (written count _ m a r refl f)
