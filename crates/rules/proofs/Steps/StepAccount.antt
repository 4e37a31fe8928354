-- Account after a move: a full round names every participant, and what is set never changes.
use Prim.Native.Nat.{ℕ, ◌≤◌, ◌<◌}
use mathlib.Core.Path.{◌≡◌, refl, sym, ◌∙◌}
use mathlib.Core.Bool.{true, false}
use mathlib.Core.Logic.{◌⊎◌, inl, inr}
use native.Mathlib.Omega.{arith}
use borrow.Author.Tests.{eqb-true, eqb-false}
use lib.Dec.{eqb}
use lib.ListN.{length}
use Rattle.kinds.specs.declared.House.{House}
use Rattle.laws.specs.Choice.{by_test, unset, set_not}
use Rattle.kinds.specs.Stage as stage
use Rattle.kinds.specs.State.{no_sub}
use Rattle.rules.specs.House.{coordinator_of, in_mask}
use Rattle.rules.specs.Install.{entry_of}
use Rattle.rules.proofs.Protocol.ProtocolTables.{Protocol, inst}
use Rattle.rules.proofs.Protocol.Protocol.{course_at, Whole, Within, Move, fresh_protocol}
use Rattle.rules.proofs.Protocol.Invariants.{Held, at, Installed, In, Account, Invariant}
use Rattle.rules.proofs.Lists.Masks.{all_heard_lem}
use Rattle.rules.proofs.Protocol.Frames.{said}
use Rattle.rules.proofs.Lists.Entries.{within_trans}
use Rattle.rules.proofs.Protocol.Later.{Begins}
use Rattle.rules.proofs.Protocol.News.{OwnStage, Replies, AskedNow, MadeNow, CertedNow, YesNow, NumNow, DeadNow}
use Rattle.rules.proofs.Protocol.Changes.{Change, change, InstalledNow, stands, stood, still_installed, part_new, snap_has}
use Rattle.rules.proofs.Protocol.Changes.{held_kept}
use Rattle.rules.proofs.Protocol.Changes.{free_kept}

-- a full round: each participant is the coordinator or was heard
pub full_round : {house : House} {p : Protocol} (i : Invariant house p) (t r : ℕ) → Held p (coordinator_of t) t → Replies p t
    → In (course_at p (coordinator_of t) t).mask r
    → (r ≡ coordinator_of t) ⊎ In (course_at p (coordinator_of t) t).heard r
full_round {p} i t r h all m =
    let k = i.rounds.small t h in
    by_test (eqb r (coordinator_of t))
    (λ e. inl (eqb-true r (coordinator_of t) e))
    (λ e. inr (
      m.0,
      all_heard_lem _ _ (coordinator_of t) k.1 k.0 (λ r x. i.rounds.heard t r h x)
          ((i.parts.site _ t (i.parts.has _ t h)).0, i.rounds.own t h) all r m (eqb-false r (coordinator_of t) e),
    ))

module _ {house : House} {p : Protocol} (i : Invariant house p) {q : Protocol} (c : Change house p q) where
  -- The participants.
  asked_had : (t r : ℕ) → q.asked t ≡ true → In (q.mask t) r → p.has r t ≡ true
  asked_had t r a m = go (c.news.asked t a)
    where
      joined : OwnStage p t stage.active → (course_at p (coordinator_of t) t).reason ≡ 0
          → (r ≡ coordinator_of t) ⊎ In (course_at p (coordinator_of t) t).heard r → p.has r t ≡ true
      joined x z (inl e) = rw e (i.parts.has (coordinator_of t) t (λ f. omega arith))
      joined x z (inr e) = i.rounds.joined t r x z e

      go : (p.asked t ≡ true) ⊎ AskedNow p t (q.mask t) → p.has r t ≡ true
      go (inl e) = i.account.asked_has t r e (rw (c.later.asked t e).1 at m)
      go (inr (x, y, z, e)) = joined x z (full_round i t r (λ f. omega arith) y (rw e at m))

  has_asked : (t r : ℕ) → q.asked t ≡ true → q.has r t ≡ true → in_mask (q.mask t) r ≡ true
  has_asked t r a h = go (c.news.asked t a)
    where
      now : Held p (coordinator_of t) t → (p.has r t ≡ true) ⊎ Begins p q r t → in_mask (course_at p (coordinator_of t) t).mask r ≡ true
      now x (inl e) = i.rounds.parts t r x e
      now x (inr (inl e)) = rw (sym e) (i.rounds.own t x)
      now x (inr (inr (d, n, e))) = (said i n).4 x

      old : p.asked t ≡ true → (p.has r t ≡ true) ⊎ Begins p q r t → in_mask (p.mask t) r ≡ true
      old a (inl e) = i.account.has_asked t r a e
      old a (inr (inl e)) = rw (sym e) (i.account.own t a)
      old a (inr (inr (d, n, e))) = (said i n).5 a

      go : (p.asked t ≡ true) ⊎ AskedNow p t (q.mask t) → in_mask (q.mask t) r ≡ true
      go (inl e) = rw (c.later.asked t e).1 (old e (c.later.begins r t h))
      go (inr (x, y, z, e)) = rw e (now (λ f. omega arith) (c.later.begins r t h))

  -- so no part begins once the commit is asked for
  pub part_had : (t r : ℕ) → q.asked t ≡ true → q.has r t ≡ true → p.has r t ≡ true
  part_had t r a h = asked_had t r a ((c.parts.site r t h).0, has_asked t r a h)

  own : (t : ℕ) → q.asked t ≡ true → in_mask (q.mask t) (coordinator_of t) ≡ true
  own t a = go (c.news.asked t a)
    where
      go : (p.asked t ≡ true) ⊎ AskedNow p t (q.mask t) → in_mask (q.mask t) (coordinator_of t) ≡ true
      go (inl e) = rw (c.later.asked t e).1 (i.account.own t e)
      go (inr (x, y, z, e)) = rw e (i.rounds.own t (λ f. omega arith))

  -- Lists and votes.
  made : (s t : ℕ) → q.made s t ≡ true → (q.asked t ≡ true) × (in_mask (q.mask t) s ≡ true) × Whole (q.list s t)
  made s t m = go (c.news.made s t m)
    where
      go : (p.made s t ≡ true) ⊎ MadeNow p q s t (q.list s t) → (q.asked t ≡ true) × (in_mask (q.mask t) s ≡ true) × Whole (q.list s t)
      go (inl e) = let k = i.account.made s t e in let a = c.later.asked t k.0 in
          (a.0, rw a.1 k.1, rw (c.later.made s t e).1 k.2)
      go (inr (x, y, a, b)) = (a, b, y.whole)

  -- a coordinator's part past the request: the mask is final
  mask_now : (t r : ℕ) → Held p (coordinator_of t) t → (OwnStage p t stage.active → ⊥) → In (q.mask t) r
      → In (course_at p (coordinator_of t) t).mask r
  mask_now t r h n m = let a = i.rounds.asked t h n in rw ((c.later.asked t a.0).1 ∙ a.1) at m

  certed : (t r : ℕ) → q.certed t ≡ true → In (q.mask t) r → (q.made r t ≡ true) × Within (q.list r t) (q.cert t)
  certed t r d m = go (c.news.certed t d)
    where
      listed : (p.made r t ≡ true) × Within (p.list r t) (q.cert t) → (q.made r t ≡ true) × Within (q.list r t) (q.cert t)
      listed (x, y) = let k = c.later.made r t x in (k.0, rw k.1 y)

      go : (p.certed t ≡ true) ⊎ CertedNow p t (q.cert t) → (q.made r t ≡ true) × Within (q.list r t) (q.cert t)
      go (inl e) =
          let k = i.account.certed t r e (rw (c.later.asked t (i.account.certed_asked t e)).1 at m) in
          listed (k.0, rw (c.later.certed t e).1 k.1)
      go (inr (x, y, w)) =
          let h : Held p (coordinator_of t) t = λ f. omega arith in
          let k = i.rounds.lists t r x (full_round i t r h y (mask_now t r h (λ f. omega arith) m)) in
          listed (k.0, within_trans (p.list r t) (p.gathered t) (q.cert t) k.1 w)

  certed_asked : (t : ℕ) → q.certed t ≡ true → q.asked t ≡ true
  certed_asked t d = go (c.news.certed t d)
    where
      go : (p.certed t ≡ true) ⊎ CertedNow p t (q.cert t) → q.asked t ≡ true
      go (inl e) = (c.later.asked t (i.account.certed_asked t e)).0
      go (inr (x, y, w)) = (c.later.asked t (i.rounds.asked t (λ f. omega arith) (λ f. omega arith)).0).0

  yes : (s t : ℕ) → q.yes s t ≡ true → (q.certed t ≡ true) × (in_mask (q.mask t) s ≡ true)
  yes s t y = go (c.news.yes s t y)
    where
      go : (p.yes s t ≡ true) ⊎ YesNow p q s t (q.queue_mark s t) → (q.certed t ≡ true) × (in_mask (q.mask t) s ≡ true)
      go (inl e) = let k = i.account.yes s t e in
          ((c.later.certed t k.0).0, rw (c.later.asked t (i.account.certed_asked t k.0)).1 k.1)
      go (inr (x, v, e, a, b)) = (a, b)

  voted : (t r : ℕ) → 0 < q.num t → In (q.mask t) r → (q.yes r t ≡ true) × (q.queue_mark r t < q.num t)
  voted t r n m = go (c.news.num t n)
    where
      go : (0 < p.num t) ⊎ NumNow p q t (q.num t) → (q.yes r t ≡ true) × (q.queue_mark r t < q.num t)
      go (inl e) =
          let a = i.account.certed_asked t (i.account.num_certed t e) in
          let k = i.account.voted t r e (rw (c.later.asked t a).1 at m) in
          let y = c.later.yes r t k.0 in
          (y.0, rw (y.1, c.later.num t e) k.1)
      go (inr (x, y, e, z, o)) =
          let h : Held p (coordinator_of t) t = λ f. omega arith in
          let k = i.rounds.votes t r x (full_round i t r h y (mask_now t r h (λ f. omega arith) m)) in
          let v = c.later.yes r t k.0 in
          (v.0, rw (v.1, e) (omega (arith, k.1)))

  num_certed : (t : ℕ) → 0 < q.num t → q.certed t ≡ true
  num_certed t n = go (c.news.num t n)
    where
      go : (0 < p.num t) ⊎ NumNow p q t (q.num t) → q.certed t ≡ true
      go (inl e) = (c.later.certed t (i.account.num_certed t e)).0
      go (inr (x, y, e, z, o)) =
          (c.later.certed t (i.account.yes (coordinator_of t) t (i.courses.queued (coordinator_of t) t x).0).0).0

  -- Parts.
  kept : (s t : ℕ) → q.has s t ≡ true → q.dead t ≡ false → Held q s t ⊎ Installed q s t
  kept s t h d = go (part_new i c s t h)
    where
      alive : p.dead t ≡ false
      alive = unset _ (λ e. set_not _ (c.later.dead t e) d)

      still : Held p s t ⊎ Installed p s t → Held q s t ⊎ Installed q s t
      still (inl x) = held_kept i c s t x d
      still (inr x) = inr (still_installed i c s t x)

      go : (p.has s t ≡ true) ⊎ Held q s t → Held q s t ⊎ Installed q s t
      go (inl x) = still (i.account.kept s t x alive)
      go (inr x) = inl x

  dead : (t : ℕ) → q.dead t ≡ true → (q.num t ≡ 0) × OwnStage q t stage.free × (q.has (coordinator_of t) t ≡ true)
  dead t d = go (c.news.dead t d)
    where
      -- no number: neither before nor now
      none : p.num t ≡ 0 → (OwnStage q t stage.decided → ⊥) → q.num t ≡ 0
      none z f = by_test (eqb (q.num t) 0) (λ e. eqb-true (q.num t) 0 e)
          (λ e. let n = eqb-false (q.num t) 0 e in absurd (some (c.news.num t (omega arith))))
        where
          some : (0 < p.num t) ⊎ NumNow p q t (q.num t) → ⊥
          some (inl e) = omega arith
          some (inr (x, y, e, w, o)) = f w

      go : (p.dead t ≡ true) ⊎ DeadNow p q t → (q.num t ≡ 0) × OwnStage q t stage.free × (q.has (coordinator_of t) t ≡ true)
      go (inl e) =
          let (n, f, h) = i.account.dead t e in
          let z = free_kept i c (coordinator_of t) t h f in
          (none n (λ g. omega arith), z, c.later.has (coordinator_of t) t h)
      go (inr (h, n, f)) =
          (none (i.rounds.undecided t h n) (λ g. omega arith), f, c.later.has (coordinator_of t) t (i.parts.has (coordinator_of t) t h))

  entry : (s j : ℕ) → j < length (inst q s)
      → ((at q s j).number ≡ q.num (at q s j).tx) × (0 < q.num (at q s j).tx) × ((at q s j).mask ≡ q.mask (at q s j).tx)
      × (q.yes s (at q s j).tx ≡ true)
  unfolding entry_of
  entry s j l = go (stood i c s j l)
    where
      -- a committed transaction
      still : (u n m : ℕ) → (n ≡ p.num u) × (0 < p.num u) × (m ≡ p.mask u) × (p.yes s u ≡ true)
          → (n ≡ q.num u) × (0 < q.num u) × (m ≡ q.mask u) × (q.yes s u ≡ true)
      still u n m (e, z, f, y) =
          let a = c.later.num u z in
          let b = c.later.asked u (i.account.certed_asked u (i.account.num_certed u z)) in
          (e ∙ sym a, rw a z, f ∙ sym b.1, (c.later.yes s u y).0)

      go : (j < length (inst p s)) ⊎ InstalledNow p s j (at q s j)
          → ((at q s j).number ≡ q.num (at q s j).tx) × (0 < q.num (at q s j).tx) × ((at q s j).mask ≡ q.mask (at q s j).tx)
          × (q.yes s (at q s j).tx ≡ true)
      go (inl k) = rw (stands i c s j k).1 (still _ _ _ (i.account.entry s j k))
      go (inr (u, d, f, k, e)) =
          let o = i.courses.decided s u d in
          let m = (i.courses.mask s u (λ z. omega arith) (λ z. omega arith)).1 in
          rw (e, i.parts.tx s u (λ z. omega arith)) (still u _ _ (o.1, o.2, m, o.0))

  pub account_of : Account q
  account_of =
      record {
        asked_has = λ t r a m. c.later.has r t (asked_had t r a m);
        has_asked = has_asked;
        own = own;
        kept = kept;
        made = made;
        certed = certed;
        certed_asked = certed_asked;
        yes = yes;
        voted = voted;
        num_certed = num_certed;
        dead = dead;
        snap = snap_has i c;
        entry = entry;
      }

pub account_step : (house : House) (p q : Protocol) → house.sites ≤ 8 → Move house p q → Invariant house p → Account q
account_step house p q h m i = account_of i (change house p q h m i)

pub account_fresh : Account fresh_protocol
unfolding fresh_protocol no_sub
account_fresh =
    record {
      asked_has = λ t r a. absurd (set_not false a refl);
      has_asked = λ t r a. absurd (set_not false a refl);
      own = λ t a. absurd (set_not false a refl);
      kept = λ s t h. absurd (set_not false h refl);
      made = λ s t h. absurd (set_not false h refl);
      certed = λ t r h. absurd (set_not false h refl);
      certed_asked = λ t h. h;
      yes = λ s t h. absurd (set_not false h refl);
      voted = λ t r h. absurd (omega arith);
      num_certed = λ t h. absurd (omega arith);
      dead = λ t h. absurd (set_not false h refl);
      snap = λ s t h. absurd (omega arith);
      entry = λ s j h. absurd (omega arith);
    }
