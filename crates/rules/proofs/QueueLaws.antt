-- C51, C52, C57 and C58: the queue's least is before every other, and the state number is the least of the clock, the
-- open marks and the decided numbers less 1.
use Rattle.std.specs.Prelude.{ℕ, zero, suc, ◌+◌, ◌-◌, ◌/◌, ◌≤◌, ◌<◌, min, ◌≡◌, refl, List, [], ◌∷◌, Bool, true, false, ◌⊎◌, ltb, leb, eqb}
use Rattle.std.proofs.Common.{ap, sym, ◌∙◌, inl, inr, ⊎_elim, arith, add-one, eqb-true, lt-ltb, le-ltb, le-leb}
use Rattle.std.proofs.lemmas.Bool.{eqb-false, lt-leb}
use Rattle.laws.specs.Choice.{set_not, unset, pick, every, some, by_test, picked_left, picked_right}
use Rattle.laws.specs.Scan.{fold_below, fold_more, split_last}
use Rattle.laws.specs.Pair.{precedes, precedes_cases, cases_precedes, precedes_trans, precedes_self}
use Rattle.kinds.specs.Sizes as sizes
use Rattle.kinds.specs.Stage as stage
use Rattle.kinds.specs.declared.Sub.{Sub}
use Rattle.rules.specs.House.{coordinator_of}
use Rattle.rules.specs.Live.{part_at, stage_at, is_queued}
use Rattle.rules.specs.Queue.{queued_before, comes_first, better_place, least_queued, state_bound, state_number}
use Rattle.rules.specs.KeysLaws.{by_order}

-- The order of the queue.

-- (coordinator; transaction) is the order of transaction numbers
pub tx_order : (a b : ℕ) → precedes (coordinator_of a) a (coordinator_of b) b ≡ ltb a b
unfolding coordinator_of
tx_order a b =
    by_order a b
    (λ h. cases_precedes _ _ _ _ (by_order (a / sizes.serials) (b / sizes.serials) (λ l. inl l) (λ l. inr (omega arith, h)))
    ∙ sym (lt-ltb a b h))
    (λ h. unset _ (λ t. ⊎_elim
    (λ (l : a / sizes.serials < b / sizes.serials). omega arith)
    (λ (l : (a / sizes.serials ≡ b / sizes.serials) × (a < b)). omega (arith, l.1))
    (precedes_cases _ _ _ _ t)) ∙ sym (le-ltb a b h))

-- so the queue's order is by (number; coordinator; transaction)
pub queued_order : (a b : Sub) → queued_before a b
    ≡ pick (ltb a.course.number b.course.number) true
    (pick (eqb a.course.number b.course.number) (precedes (coordinator_of a.tx) a.tx (coordinator_of b.tx) b.tx) false)
unfolding queued_before precedes
queued_order a b =
    ap (λ (x : Bool). pick (ltb a.course.number b.course.number) true (pick (eqb a.course.number b.course.number) x false))
    (sym (tx_order a.tx b.tx))

before_self : (a : Sub) → queued_before a a ≡ false
unfolding queued_before
before_self a = precedes_self a.course.number a.tx

-- b is before c, so what is not before c is not before b
not_before : (a b c : Sub) → queued_before b c ≡ true → queued_before a c ≡ false → queued_before a b ≡ false
unfolding queued_before
not_before a b c t f =
    by_test (queued_before a b)
    (λ q. absurd (set_not _ (precedes_trans a.course.number a.tx b.course.number b.tx c.course.number c.tx q t) f))
    (λ q. q)

-- The queue's least.

pub queued_none : (live : List Sub) → least_queued live 0 ≡ sizes.live
unfolding least_queued fold_below
queued_none live = refl

pub queued_more : (live : List Sub) (i : ℕ) → least_queued live (i + 1) ≡ better_place live i (least_queued live i)
unfolding least_queued
queued_more live i = fold_more (better_place live) i sizes.live

-- what it means to come first, and not to
first_true : (b : Sub) (best : ℕ) (first : Sub) → comes_first b best first ≡ true
    → (is_queued b ≡ true) × (best < sizes.live → queued_before b first ≡ true)
unfolding comes_first
first_true b best first t =
    let r = picked_right (is_queued b) (every (some (leb sizes.live best ∷ queued_before b first ∷ []) ∷ [])) t in
    let s = picked_left (some (leb sizes.live best ∷ queued_before b first ∷ [])) true r in (
      picked_left (is_queued b) (every (some (leb sizes.live best ∷ queued_before b first ∷ []) ∷ [])) t,
      λ h. by_test (queued_before b first) (λ q. q) (λ q. absurd (set_not _ s (rw (lt-leb sizes.live best h, q)))),
    )

first_false : (b : Sub) (best : ℕ) (first : Sub) → comes_first b best first ≡ false → is_queued b ≡ true
    → (best < sizes.live) × (queued_before b first ≡ false)
unfolding comes_first
first_false b best first f t = (
  by_order best sizes.live (λ h. h) (λ h. absurd (set_not _ (rw (t, le-leb sizes.live best h)) f)),
  by_test (queued_before b first) (λ q. absurd (set_not _ (rw (t, q) (last (leb sizes.live best))) f)) (λ q. q),
)
  where
    last : (x : Bool) → pick (pick x true true) true false ≡ true
    last true = refl
    last false = refl

abbrev least : List Sub → ℕ → Sub
least live n = part_at live (least_queued live n)

-- by cases on whether place n comes first
queued_suc : {P : Type 0} (live : List Sub) (n : ℕ)
    → (comes_first (part_at live n) (least_queued live n) (least live n) ≡ true → least_queued live (suc n) ≡ n → P)
    → (comes_first (part_at live n) (least_queued live n) (least live n) ≡ false → least_queued live (suc n) ≡ least_queued live n → P) → P
unfolding better_place
queued_suc live n f g =
    let e = rw add-one at (queued_more live n) in
    by_test (comes_first (part_at live n) (least_queued live n) (least live n))
    (λ t. f t (rw t at e))
    (λ t. g t (rw t at e))

-- it is queued, unless nothing is
pub least_queued_lem : (live : List Sub) (n : ℕ) → least_queued live n < sizes.live → (least_queued live n < n) × (is_queued (least live n) ≡ true)
least_queued_lem live zero h = absurd (omega (arith, queued_none live))
least_queued_lem live (suc n) h =
    queued_suc live n
    (λ t e. (omega arith, rw e (first_true (part_at live n) (least_queued live n) (least live n) t).0))
    (λ t e. let (l, q) = least_queued_lem live n (omega arith) in (omega arith, rw e q))

-- and no queued entry is before it
pub least_first : (live : List Sub) (n i : ℕ) → n ≤ sizes.live → i < n → is_queued (part_at live i) ≡ true
    → (least_queued live n < sizes.live) × (queued_before (part_at live i) (least live n) ≡ false)
least_first live zero i m h t = absurd (omega arith)
least_first live (suc n) i m h t =
    queued_suc live n
    (λ c e. (
      omega arith,
      rw e
          (split_last h
          (λ (z : i ≡ n). rw z (before_self (part_at live n)))
          (λ (z : i < n).
          let (l, q) = least_first live n i (omega arith) z t in
          let s = (first_true (part_at live n) (least_queued live n) (least live n) c).1 l in
          not_before (part_at live i) (part_at live n) (least live n) s q)),
    ))
    (λ c e. split_last h
    (λ (z : i ≡ n).
    let (l, q) = first_false (part_at live n) (least_queued live n) (least live n) c (rw z at t) in
    (omega arith, rw (e, z) q))
    (λ (z : i < n).
    let (l, q) = least_first live n i (omega arith) z t in
    (omega arith, rw e q)))

-- The state number.

pub state_none : (live : List Sub) (clock : ℕ) → state_number live clock 0 ≡ clock
unfolding state_number fold_below
state_none live clock = refl

pub state_more : (live : List Sub) (clock i : ℕ) → state_number live clock (i + 1) ≡ state_bound (part_at live i) (state_number live clock i)
unfolding state_number
state_more live clock i = fold_more (λ i b. state_bound (part_at live i) b) i clock

-- a part's bound: its open mark, its decided number less 1, or none
bound_is : {P : Type 0} (b : Sub) (v : ℕ)
    → (b.course.stage ≡ stage.queued → state_bound b v ≡ min v b.course.number → P)
    → (b.course.stage ≡ stage.decided → state_bound b v ≡ min v (b.course.number - 1) → P)
    → ((b.course.stage ≡ stage.queued → ⊥) → (b.course.stage ≡ stage.decided → ⊥) → state_bound b v ≡ v → P) → P
unfolding state_bound
bound_is b v f g h =
    by_test (eqb b.course.stage stage.queued)
    (λ t. f (eqb-true b.course.stage stage.queued t) (rw t))
    (λ t. by_test (eqb b.course.stage stage.decided)
    (λ u. g (eqb-true b.course.stage stage.decided u) (rw (t, u)))
    (λ u. h (eqb-false b.course.stage stage.queued t) (eqb-false b.course.stage stage.decided u) (rw (t, u))))

-- at most the clock, each open mark, and each decided number less 1
state_falls : (live : List Sub) (clock n : ℕ) → state_number live clock (suc n) ≤ state_number live clock n
state_falls live clock n =
    let e = rw add-one at (state_more live clock n) in
    bound_is (part_at live n) (state_number live clock n) (λ s q. omega arith) (λ s q. omega arith) (λ s r q. omega arith)

pub state_clock : (live : List Sub) (clock n : ℕ) → state_number live clock n ≤ clock
state_clock live clock zero = omega (arith, state_none live clock)
state_clock live clock (suc n) = omega (arith, state_clock live clock n, state_falls live clock n)

pub state_open : (live : List Sub) (clock n i : ℕ) → i < n → stage_at live i ≡ stage.queued
    → state_number live clock n ≤ (part_at live i).course.number
state_open live clock zero i h s = absurd (omega arith)
state_open live clock (suc n) i h s =
    let e = rw add-one at (state_more live clock n) in
    split_last h
    (λ (z : i ≡ n). rw z
    (let s' : stage_at live n ≡ stage.queued = rw z at s in
    bound_is (part_at live n) (state_number live clock n) (λ t q. omega arith) (λ t q. absurd (omega arith)) (λ t r q. absurd (t s'))))
    (λ (z : i < n). omega (arith, state_open live clock n i z s, state_falls live clock n))

pub state_decided : (live : List Sub) (clock n i : ℕ) → i < n → stage_at live i ≡ stage.decided
    → state_number live clock n ≤ (part_at live i).course.number - 1
state_decided live clock zero i h s = absurd (omega arith)
state_decided live clock (suc n) i h s =
    let e = rw add-one at (state_more live clock n) in
    split_last h
    (λ (z : i ≡ n). rw z
    (let s' : stage_at live n ≡ stage.decided = rw z at s in
    bound_is (part_at live n) (state_number live clock n) (λ t q. absurd (omega arith)) (λ t q. omega arith) (λ t r q. absurd (r s'))))
    (λ (z : i < n). omega (arith, state_decided live clock n i z s, state_falls live clock n))

-- and one of them
abbrev pub Open : List Sub → ℕ → ℕ → Type 0
Open live n v = (i : ℕ) × (i < n) × (stage_at live i ≡ stage.queued) × (v ≡ (part_at live i).course.number)

abbrev pub Decided : List Sub → ℕ → ℕ → Type 0
Decided live n v = (i : ℕ) × (i < n) × (stage_at live i ≡ stage.decided) × (v ≡ (part_at live i).course.number - 1)

abbrev pub StateIs : List Sub → ℕ → ℕ → ℕ → Type 0
StateIs live clock n v = (v ≡ clock) ⊎ (Open live n v ⊎ Decided live n v)

kept : (live : List Sub) (clock n v w : ℕ) → w ≡ v → StateIs live clock n v → StateIs live clock (suc n) w
kept live clock n v w q (inl e) = inl (q ∙ e)
kept live clock n v w q (inr (inl (i, h, s, e))) = inr (inl (i, omega arith, s, q ∙ e))
kept live clock n v w q (inr (inr (i, h, s, e))) = inr (inr (i, omega arith, s, q ∙ e))

pub state_is : (live : List Sub) (clock n : ℕ) → StateIs live clock n (state_number live clock n)
state_is live clock zero = inl (state_none live clock)
state_is live clock (suc n) =
    let e = rw add-one at (state_more live clock n) in
    let v = state_number live clock n in
    let w = state_number live clock (suc n) in
    let r = state_is live clock n in
    let m = (part_at live n).course.number in
    bound_is (part_at live n) v
    (λ s q. by_order v m (λ h. kept live clock n v w (omega arith) r) (λ h. inr (inl (n, omega arith, s, omega arith))))
    (λ s q. by_order v (m - 1) (λ h. kept live clock n v w (omega arith) r) (λ h. inr (inr (n, omega arith, s, omega arith))))
    (λ s t q. kept live clock n v w (omega arith) r)
