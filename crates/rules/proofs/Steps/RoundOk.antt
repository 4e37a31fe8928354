-- One transaction's round at its coordinator: what Rounds says of it, stage by stage, and how a course step changes it.
use Prim.Native.Nat.{ℕ, ◌^◌, ◌≤◌, ◌<◌}
use mathlib.Core.Path.{◌≡◌}
use mathlib.Core.Bool.{true, false}
use mathlib.Core.Logic.{◌⊎◌, inl, inr}
use native.Mathlib.Omega.{arith}
use Rattle.kinds.specs.Sizes as sizes
use Rattle.kinds.specs.Stage as stage
use Rattle.kinds.specs.declared.Course.{Course}
use Rattle.rules.specs.House.{coordinator_of, in_mask, mask_of}
use Rattle.rules.specs.Course.{with_participant, with_reply}
use Rattle.rules.proofs.Protocol.ProtocolTables.{Protocol}
use Rattle.rules.proofs.Protocol.Protocol.{course_at, Whole, Within}
use Rattle.rules.proofs.Protocol.Invariants.{In, Rounds}
use Rattle.rules.proofs.Lists.Masks.{none_in, in_or_left, in_more, or_small, in_small}

abbrev pub HeldC : Course → Type 0
HeldC c = c.stage ≡ stage.free → ⊥

-- heard in this round, or the coordinator itself
abbrev pub Replied : ℕ → Course → ℕ → Type 0
Replied t c r = (r ≡ coordinator_of t) ⊎ In c.heard r

abbrev pub ListOf : Protocol → ℕ → ℕ → Type 0
ListOf p t r = (p.made r t ≡ true) × Within (p.list r t) (p.gathered t)

abbrev pub VoteOf : Protocol → ℕ → ℕ → Type 0
VoteOf p t r = (p.yes r t ≡ true) × (p.queue_mark r t ≤ p.clock (coordinator_of t))

abbrev pub AskedOf : Protocol → ℕ → Course → Type 0
AskedOf p t c = (p.asked t ≡ true) × (p.mask t ≡ c.mask)

pub record RoundOk (p : Protocol) (t : ℕ) (c : Course) : Type 0 where
  pub small : HeldC c → (c.mask < 2 ^ sizes.sites) × (c.heard < 2 ^ sizes.sites)
  pub own : HeldC c → in_mask c.mask (coordinator_of t) ≡ true
  pub heard : (r : ℕ) → HeldC c → In c.heard r → (in_mask c.mask r ≡ true) × (r ≡ coordinator_of t → ⊥)
  pub parts : (r : ℕ) → HeldC c → p.has r t ≡ true → in_mask c.mask r ≡ true
  pub joined : (r : ℕ) → c.stage ≡ stage.active → c.reason ≡ 0 → In c.heard r → p.has r t ≡ true
  pub unasked : c.stage ≡ stage.active → p.asked t ≡ false
  pub asked : HeldC c → (c.stage ≡ stage.active → ⊥) → AskedOf p t c
  pub never_rejected : c.stage ≡ stage.rejected → ⊥
  pub lists : (r : ℕ) → c.stage ≡ stage.prepared → Replied t c r → ListOf p t r
  pub votes : (r : ℕ) → c.stage ≡ stage.queued → Replied t c r → VoteOf p t r
  pub whole : c.stage ≡ stage.prepared → Whole (p.gathered t)
  pub uncerted : c.stage ≡ stage.prepared → p.certed t ≡ false
  pub undecided : HeldC c → (c.stage ≡ stage.decided → ⊥) → p.num t ≡ 0

abbrev pub RoundsAt : Protocol → Type 0
RoundsAt p = (t : ℕ) → RoundOk p t (course_at p (coordinator_of t) t)

pub of_rounds : (p : Protocol) → Rounds p → RoundsAt p
of_rounds p i t =
    record {
      small = i.small t;
      own = i.own t;
      heard = i.heard t;
      parts = i.parts t;
      joined = i.joined t;
      unasked = i.unasked t;
      asked = i.asked t;
      never_rejected = i.never_rejected t;
      lists = i.lists t;
      votes = i.votes t;
      whole = i.whole t;
      uncerted = i.uncerted t;
      undecided = i.undecided t;
    }

pub to_rounds : (p : Protocol) → RoundsAt p → Rounds p
to_rounds p i =
    record {
      small = λ t. (i t).small;
      own = λ t. (i t).own;
      heard = λ t. (i t).heard;
      parts = λ t. (i t).parts;
      joined = λ t. (i t).joined;
      unasked = λ t. (i t).unasked;
      asked = λ t. (i t).asked;
      never_rejected = λ t. (i t).never_rejected;
      lists = λ t. (i t).lists;
      votes = λ t. (i t).votes;
      whole = λ t. (i t).whole;
      uncerted = λ t. (i t).uncerted;
      undecided = λ t. (i t).undecided;
    }

-- What holds of the masks at every stage.
pub record Base (p : Protocol) (t : ℕ) (c : Course) : Type 0 where
  pub small : (c.mask < 2 ^ sizes.sites) × (c.heard < 2 ^ sizes.sites)
  pub own : in_mask c.mask (coordinator_of t) ≡ true
  pub heard : (r : ℕ) → In c.heard r → (in_mask c.mask r ≡ true) × (r ≡ coordinator_of t → ⊥)
  pub parts : (r : ℕ) → p.has r t ≡ true → in_mask c.mask r ≡ true

module _ (p : Protocol) (t : ℕ) (c d : Course) where
  -- neither mask changes, or a new round starts
  pub base_same : c.mask ≡ d.mask → c.heard ≡ d.heard → Base p t d → Base p t c
  base_same e f b = record { small = rw (e, f) b.small; own = rw e b.own; heard = rw (e, f) b.heard; parts = rw e b.parts }

  pub base_reset : c.mask ≡ d.mask → c.heard ≡ 0 → Base p t d → Base p t c
  base_reset e f b =
      record {
        small = rw (e, f) (b.small.0, omega arith);
        own = rw e b.own;
        heard = λ r h. absurd (none_in r (rw f at h.1));
        parts = rw e b.parts;
      }

pub base_enlist : (p : Protocol) (t r : ℕ) (c : Course) → r ≤ sizes.sites → Base p t c → Base p t (with_participant c r)
unfolding with_participant
base_enlist p t r c l b =
    record {
      small = (or_small c.mask r b.small.0 l, b.small.1);
      own = in_or_left c.mask (mask_of r) (coordinator_of t) b.own;
      heard = λ k h. (in_or_left c.mask (mask_of r) k (b.heard k h).0, (b.heard k h).1);
      parts = λ k h. in_or_left c.mask (mask_of r) k (b.parts k h);
    }

-- heard after a reply of a
pub heard_more : (c : Course) (a k n r : ℕ) → 1 ≤ a → In (with_reply c a k n).heard r → In c.heard r ⊎ (r ≡ a)
unfolding with_reply
heard_more c a k n r l (x, e) = go (in_more c.heard a r l x e)
  where
    go : (in_mask c.heard r ≡ true) ⊎ (r ≡ a) → In c.heard r ⊎ (r ≡ a)
    go (inl h) = inl (x, h)
    go (inr h) = inr h

pub base_reply : (p : Protocol) (t a k n : ℕ) (c : Course) → 1 ≤ a → in_mask c.mask a ≡ true → (a ≡ coordinator_of t → ⊥) → Base p t c
    → Base p t (with_reply c a k n)
unfolding with_reply
base_reply p t a k n c l e o b =
    record {
      small = (b.small.0, or_small c.heard a b.small.1 (in_small c.mask a b.small.0 e));
      own = b.own;
      heard = λ r h. go r (heard_more c a k n r l h);
      parts = b.parts;
    }
  where
    go : (r : ℕ) → In c.heard r ⊎ (r ≡ a) → (in_mask c.mask r ≡ true) × (r ≡ coordinator_of t → ⊥)
    go r (inl h) = b.heard r h
    go r (inr h) = rw h (e, o)

-- A round at each stage.
module _ (p : Protocol) (t : ℕ) (c : Course) where
  pub base_of : RoundOk p t c → HeldC c → Base p t c
  base_of i h = record { small = i.small h; own = i.own h; heard = λ r. i.heard r h; parts = λ r. i.parts r h }

  pub at_free : c.stage ≡ stage.free → RoundOk p t c
  at_free e =
      record {
        small = λ h. absurd (h e);
        own = λ h. absurd (h e);
        heard = λ r h. absurd (h e);
        parts = λ r h. absurd (h e);
        joined = λ r f. absurd (omega arith);
        unasked = λ f. absurd (omega arith);
        asked = λ h. absurd (h e);
        never_rejected = λ f. omega arith;
        lists = λ r f. absurd (omega arith);
        votes = λ r f. absurd (omega arith);
        whole = λ f. absurd (omega arith);
        uncerted = λ f. absurd (omega arith);
        undecided = λ h. absurd (h e);
      }

  pub at_active : c.stage ≡ stage.active → Base p t c → ((r : ℕ) → c.reason ≡ 0 → In c.heard r → p.has r t ≡ true)
      → p.asked t ≡ false → p.num t ≡ 0 → RoundOk p t c
  at_active e b j a n =
      record {
        small = λ h. b.small;
        own = λ h. b.own;
        heard = λ r h. b.heard r;
        parts = λ r h. b.parts r;
        joined = λ r f. j r;
        unasked = λ f. a;
        asked = λ h f. absurd (f e);
        never_rejected = λ f. omega arith;
        lists = λ r f. absurd (omega arith);
        votes = λ r f. absurd (omega arith);
        whole = λ f. absurd (omega arith);
        uncerted = λ f. absurd (omega arith);
        undecided = λ h f. n;
      }

  pub at_prepared : c.stage ≡ stage.prepared → Base p t c → AskedOf p t c → ((r : ℕ) → Replied t c r → ListOf p t r)
      → Whole (p.gathered t) → p.certed t ≡ false → p.num t ≡ 0 → RoundOk p t c
  at_prepared e b a l w u n =
      record {
        small = λ h. b.small;
        own = λ h. b.own;
        heard = λ r h. b.heard r;
        parts = λ r h. b.parts r;
        joined = λ r f. absurd (omega arith);
        unasked = λ f. absurd (omega arith);
        asked = λ h f. a;
        never_rejected = λ f. omega arith;
        lists = λ r f. l r;
        votes = λ r f. absurd (omega arith);
        whole = λ f. w;
        uncerted = λ f. u;
        undecided = λ h f. n;
      }

  pub at_queued : c.stage ≡ stage.queued → Base p t c → AskedOf p t c → ((r : ℕ) → Replied t c r → VoteOf p t r) → p.num t ≡ 0
      → RoundOk p t c
  at_queued e b a v n =
      record {
        small = λ h. b.small;
        own = λ h. b.own;
        heard = λ r h. b.heard r;
        parts = λ r h. b.parts r;
        joined = λ r f. absurd (omega arith);
        unasked = λ f. absurd (omega arith);
        asked = λ h f. a;
        never_rejected = λ f. omega arith;
        lists = λ r f. absurd (omega arith);
        votes = λ r f. v r;
        whole = λ f. absurd (omega arith);
        uncerted = λ f. absurd (omega arith);
        undecided = λ h f. n;
      }

  pub at_decided : c.stage ≡ stage.decided → Base p t c → AskedOf p t c → RoundOk p t c
  at_decided e b a =
      record {
        small = λ h. b.small;
        own = λ h. b.own;
        heard = λ r h. b.heard r;
        parts = λ r h. b.parts r;
        joined = λ r f. absurd (omega arith);
        unasked = λ f. absurd (omega arith);
        asked = λ h f. a;
        never_rejected = λ f. omega arith;
        lists = λ r f. absurd (omega arith);
        votes = λ r f. absurd (omega arith);
        whole = λ f. absurd (omega arith);
        uncerted = λ f. absurd (omega arith);
        undecided = λ h f. absurd (f e);
      }
