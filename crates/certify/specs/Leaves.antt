-- Key sets within the sizes, transactions gathered for a scan, and the laws of these scans.
use Rattle.std.specs.Prelude.{ℕ, zero, suc, ◌+◌, ◌≤◌, ◌<◌, ◌≡◌, refl, List, [], ◌∷◌, Bool, true, false, not, length, get_or, set, ltb, eqb}
use Rattle.std.proofs.Common.{ap, sym, ◌∙◌, arith, add-one, lt-ltb, le-ltb, eq-eqb, ne_eqb, get_or-set_same, get_or-set_other}
use Rattle.laws.specs.Choice.{pick, pick_self, by_test, some, every}
use Rattle.laws.specs.Scan.{first_below, any_below, before_first, at_first, any_below_lem, any_below_at, not_any_below}
use Rattle.kinds.specs.Sizes as sizes
use Rattle.kinds.specs.Stage as stage
use Rattle.kinds.specs.declared.Entry.{Entry}
use Rattle.kinds.specs.declared.Keys.{Keys}
use Rattle.kinds.specs.declared.Seat.{Seat}
use Rattle.kinds.specs.declared.Site.{Site}
use Rattle.kinds.specs.State.{sub_at}
use Rattle.rules.specs.Certify.{conflicts_at, conflicts_with, is_recorded, uncertain_of}
use Rattle.rules.specs.History.{recall, within, forgotten}
use Rattle.rules.specs.House.{in_mask}
use Rattle.rules.specs.KeysLaws.{by_order}
use Rattle.rules.specs.Message.{entry_tx, entry_mask}
use Rattle.rules.specs.Valid.{site_ok}
use Rattle.rules.specs.ValidLaws.{valid_site}
use Rattle.lent.specs.Seats.{is_seat_of}

-- counts within the sizes
pub record FewKeys (b : Keys) : Type 0 where
  pub few_read : b.read ≤ sizes.reads
  pub few_wrote : b.wrote ≤ sizes.writes

-- t is among the first n
unfoldable pub among : List ℕ → ℕ → ℕ → Bool
among ts n t = any_below (λ i. eqb (get_or ts i 0) t) n

-- an entry of transaction tx names site `own`, and tx is not among the first m
abbrev pub unrecorded : List ℕ → ℕ → ℕ → ℕ → ℕ → Bool
unrecorded txs m own tx mask = every (in_mask mask own ∷ not (among txs m tx) ∷ [])

-- one of the first n remembered installs is of transaction tx
abbrev pub any_recalled : List Entry → ℕ → ℕ → ℕ → Bool
any_recalled history installs tx n = any_below (λ i. eqb (recall history installs i).tx tx) n

pub any_same : (t u : ℕ → Bool) (n : ℕ) → ((k : ℕ) → k < n → t k ≡ u k) → any_below t n ≡ any_below u n
unfolding any_below
any_same t u zero h = refl
any_same t u (suc n) h = rw (h n (omega arith), any_same t u n (λ k l. h k (omega arith)))

pub any_more : (t : ℕ → Bool) (n : ℕ) → any_below t (n + 1) ≡ pick (t n) true (any_below t n)
unfolding any_below
any_more t n = rw add-one

pub any_none : (t : ℕ → Bool) → any_below t 0 ≡ false
unfolding any_below
any_none t = refl

-- one more, behind the first n
pub among_put : (ts : List ℕ) (n v t : ℕ) → n < length ts → among (set ts n v) (n + 1) t ≡ pick (eqb v t) true (among ts n t)
unfolding among
among_put ts n v t h =
    let is : ℕ → Bool = λ i. eqb (get_or (set ts n v) i 0) t in
    let was : ℕ → Bool = λ i. eqb (get_or ts i 0) t in
    let q = any_same is was n (λ k l. ap (λ (x : ℕ). eqb x t) (get_or-set_other ts n k v 0 (λ e. omega arith))) in
    any_more is n ∙ rw (q, get_or-set_same ts n v 0 h)

pub or_swap : (x y z : Bool) → pick x true (pick y true z) ≡ pick y true (pick x true z)
or_swap true true z = refl
or_swap true false z = refl
or_swap false true z = refl
or_swap false false z = refl

-- a free seat is of no transaction, another of its own
pub free_seat : (a : Seat) (t : ℕ) → a.stage ≡ stage.free → is_seat_of a t ≡ false
unfolding is_seat_of
free_seat a t e = rw (eq-eqb a.stage stage.free e)

pub held_seat : (a : Seat) (t : ℕ) → (a.stage ≡ stage.free → ⊥) → is_seat_of a t ≡ eqb a.tx t
unfolding is_seat_of
held_seat a t e = rw (ne_eqb a.stage stage.free e) (pick_self (eqb a.tx t))

-- the first is below n where there is any
pub first_any : (t : ℕ → Bool) (n : ℕ) → ltb (first_below t n) n ≡ any_below t n
first_any t n =
    by_order (first_below t n) n
    (λ h. lt-ltb (first_below t n) n h ∙ any_below_lem t n (first_below t n) h (at_first t n h))
    (λ h. le-ltb (first_below t n) n h ∙ not_any_below t n (λ k l. before_first t n k (omega arith)))

-- some pair, by either first
pub any_swap : (t : ℕ → ℕ → Bool) (m n : ℕ) → any_below (λ j. any_below (λ i. t i j) m) n ≡ any_below (λ i. any_below (λ j. t i j) n) m
any_swap t m n =
    by_test (any_below (λ j. any_below (λ i. t i j) m) n)
    (λ e.
    let (j, l, p) = any_below_at (λ j. any_below (λ i. t i j) m) n e in
    let (i, k, q) = any_below_at (λ i. t i j) m p in
    e ∙ any_below_lem (λ i. any_below (λ j. t i j) n) m i k (sym (any_below_lem (λ j. t i j) n j l q)))
    (λ e. by_test (any_below (λ i. any_below (λ j. t i j) n) m)
    (λ f.
    let (i, k, p) = any_below_at (λ i. any_below (λ j. t i j) n) m f in
    let (j, l, q) = any_below_at (λ j. t i j) n p in
    sym (any_below_lem (λ j. any_below (λ i. t i j) m) n j l (sym (any_below_lem (λ i. t i j) m i k q))) ∙ sym f)
    (λ f. e ∙ sym f))

-- of a valid site every key set is within the sizes
pub part_few : (s : Site) → site_ok s ≡ true → (i : ℕ) → i < sizes.live → FewKeys (sub_at s i).keys
part_few s t i h = let v = ((valid_site s t).part i h).keys in record { few_read = v.few_read; few_wrote = v.few_wrote }

pub or_two : (x y : Bool) → pick x true y ≡ some (x ∷ y ∷ [])
or_two true y = refl
or_two false y = sym (pick_self y)

-- The vote: by installs first, and by the transactions on record.

pub conflicts_by_install : (s : Site) (place : ℕ) (es : List ℕ) (n : ℕ)
    → (let installs = s.counters.installs in
    let b = sub_at s place in
    any_below (conflicts_with s place es) n
    ≡ any_below (λ k. any_below (λ i. conflicts_at b.keys es i (recall s.history installs k)) n) (within installs b.snapshot))
unfolding conflicts_with
conflicts_by_install s place es n =
    let installs = s.counters.installs in
    let b = sub_at s place in
    any_swap (λ k i. conflicts_at b.keys es i (recall s.history installs k)) (within installs b.snapshot) n

-- nothing has been forgotten
pub none_uncertain : (s : Site) (es : List ℕ) (n : ℕ) → forgotten s.counters.installs ≡ 0 → any_below (uncertain_of s es) n ≡ false
unfolding uncertain_of
none_uncertain s es n e = sym (not_any_below (uncertain_of s es) n (λ k l. rw e))

pub uncertain_by_record : (s : Site) (es : List ℕ) (n : ℕ) (txs : List ℕ) (m : ℕ) → (forgotten s.counters.installs ≡ 0 → ⊥)
    → ((tx : ℕ) → among txs m tx ≡ is_recorded s tx)
    → any_below (uncertain_of s es) n ≡ any_below (λ i. unrecorded txs m s.counters.own (entry_tx es i) (entry_mask es i)) n
unfolding uncertain_of
uncertain_by_record s es n txs m f r =
    let gone = forgotten s.counters.installs in
    let lost : ltb 0 gone ≡ true = by_order 0 gone (λ h. lt-ltb _ _ h) (λ h. absurd (f (omega arith))) in
    any_same (uncertain_of s es) (λ i. unrecorded txs m s.counters.own (entry_tx es i) (entry_mask es i)) n
    (λ k l. rw (lost, r (entry_tx es k)))
