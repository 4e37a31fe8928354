-- A call's world against the protocol after its moves: what a refusal leaves, and what a call leaves at its own site and elsewhere.
use Prim.Native.Nat.{ℕ, ◌+◌, ◌≤◌}
use mathlib.Core.Path.{◌≡◌, refl, sym, ap, ◌∙◌}
use mathlib.Core.Bool.{true, false}
use mathlib.Core.List.{List, [], ◌++◌, map, append-nil}
use native.Mathlib.Omega.{arith}
use borrow.Author.Tests.{eqb-true, leb-true, leb-false}
use lib.Dec.{eqb, leb}
use lib.ListN.{length-append, get_or-append}
use Rattle.kinds.specs.declared.House.{House}
use Rattle.laws.specs.Choice.{by_test, set_not}
use Rattle.kinds.specs.declared.Site.{Site}
use Rattle.kinds.specs.declared.Answer.{Answer}
use Rattle.rules.specs.House.{coordinator_of}
use Rattle.rules.specs.Valid.{site_ok}
use Rattle.rules.specs.Effect.{Effect, refused, unless}
use Rattle.rules.specs.World.{World, Call, site_step, log_step, messages_in, split_words, record_in}
use Rattle.rules.specs.World as world
use Rattle.rules.specs.Book.{Fact, facts_of}
use Rattle.rules.proofs.Lists.Tables.{upd_cases, All, all_map, all_append, upd_three}
use Rattle.rules.proofs.Protocol.ProtocolTables.{Protocol, Msg, m_abort}
use Rattle.rules.proofs.Protocol.Protocol.{Moves, stop}
use Rattle.rules.proofs.Book.Told.{told_all}
use Rattle.rules.proofs.Refine.Refines.{Posted, encode, rec_words, slice_of, SiteIs, Refines}

-- the protocol makes some moves, or none, which tell these facts, and the world is then that of its tables
abbrev pub Follows : House → Protocol → World → List Fact → Type 0
Follows house p w fs = (q : Protocol) × (m : Moves house p q) × (told_all m ≡ fs) × Refines house w q

-- what a call tells of the protocol: all that the book notes, but for replays, which the protocol does not know
abbrev pub told_by : Call → Answer → List ℕ → List Fact
told_by (world.begin s d) a words = facts_of (world.begin s d) a words
told_by (world.enlist s out tx site) a words = facts_of (world.enlist s out tx site) a words
told_by (world.read s tx key) a words = facts_of (world.read s tx key) a words
told_by (world.write s tx key v) a words = facts_of (world.write s tx key v) a words
told_by (world.search s p key) a words = facts_of (world.search s p key) a words
told_by (world.commit s out tx) a words = facts_of (world.commit s out tx) a words
told_by (world.abandon s out tx) a words = facts_of (world.abandon s out tx) a words
told_by (world.message s out m) a words = facts_of (world.message s out m) a words
told_by (world.install s out) a words = facts_of (world.install s out) a words
told_by (world.report s out) a words = facts_of (world.report s out) a words
told_by (world.merge m) a words = facts_of (world.merge m) a words
told_by (world.emit out) a words = facts_of (world.emit out) a words
told_by (world.replay copy m) a words = []
told_by (world.value copy key) a words = facts_of (world.value copy key) a words

-- the cause of a refusal, as a case
pub by_code : (P : Effect → Type 0) (code : ℕ) (s : Site) (lent : List ℕ) (e : Effect) → (code ≡ 0 → P e) → P (refused code s lent)
    → P (unless code s lent e)
by_code P code s lent e f g = by_test (eqb code 0) (λ h. rw h (f (eqb-true code 0 h))) (λ h. rw h g)

-- messages are only added
abbrev pub Grows : (ℕ → ℕ → List Msg) → (ℕ → ℕ → List Msg) → Type 0
Grows post new = (a b : ℕ) → (l : List Msg) × (new a b ≡ post a b ++ l)

pub grows_none : (post : ℕ → ℕ → List Msg) → Grows post post
grows_none post a b = ([], sym (append-nil (post a b)))

pub posted_still : (post new : ℕ → ℕ → List Msg) → Grows post new → (ws : List ℕ) → Posted post ws → Posted new ws
posted_still post new g ws m =
    let (l, e) = g m.from m.to in
    record {
      from = m.from;
      to = m.to;
      place = m.place;
      low = rw e (omega (arith, m.low, length-append (post m.from m.to) l));
      words = m.words
          ∙ ap (encode m.from m.to (m.place + 1))
          (sym (rw e (get_or-append (post m.from m.to) l (m_abort 0) m.place m.low)));
    }

-- what a call of site s leaves elsewhere
pub record Elsewhere (s : ℕ) (p q : Protocol) : Type 0 where
  pub clock : (j : ℕ) → (j ≡ s → ⊥) → q.clock j ≡ p.clock j
  pub serial : (j : ℕ) → (j ≡ s → ⊥) → q.serial j ≡ p.serial j
  pub live : (j : ℕ) → (j ≡ s → ⊥) → q.live j ≡ p.live j
  pub post : (j r : ℕ) → (j ≡ s → ⊥) → q.post j r ≡ p.post j r
  pub taken : (r j : ℕ) → (j ≡ s → ⊥) → q.taken r j ≡ p.taken r j
  pub log : (j : ℕ) → (j ≡ s → ⊥) → q.log j ≡ p.log j
  pub gathered : (t : ℕ) → (coordinator_of t ≡ s → ⊥) → q.gathered t ≡ p.gathered t

pub site_elsewhere : {house : House} {j : ℕ} {x : Site} {base lists : List ℕ} {p q : Protocol} (s : ℕ) → (j ≡ s → ⊥) → Elsewhere s p q
    → SiteIs house j x base lists (slice_of p j) → SiteIs house j x base lists (slice_of q j)
site_elsewhere {j = j} s n e r =
    record {
      house_is = r.house_is;
      counters = rw (e.clock j n, e.serial j n, e.log j n) r.counters;
      channels =
          record {
            sent_size = r.channels.sent_size;
            taken_size = r.channels.taken_size;
            sent_is = λ k a b. rw (e.post j k n) (r.channels.sent_is k a b);
            taken_is = λ k a b. rw (e.taken k j n) (r.channels.taken_is k a b);
          };
      live = rw (e.live j n) r.live;
      history = rw (e.log j n) r.history;
      lists =
          record {
            size = r.lists.size;
            each = λ i h f c. rw (e.gathered _ (λ z. n (sym c ∙ z))) (r.lists.each i h f c);
          };
      base_size = r.base_size;
    }

module _ {house : House} {w : World} {p : Protocol} (r : Refines house w p) (s : ℕ) where
  -- a valid site is one of the house
  pub inside : site_ok (w.site s) ≡ true → (1 ≤ s) × (s ≤ house.sites)
  inside v =
      let no : ((1 ≤ s) × (s ≤ house.sites) → ⊥) → ⊥ = λ n. set_not _ v (r.outside s n) in
      by_test (leb 1 s)
      (λ a. by_test (leb s house.sites)
      (λ b. (leb-true 1 s a, leb-true s house.sites b))
      (λ b. absurd (no (λ z. omega (arith, leb-false s house.sites b)))))
      (λ a. absurd (no (λ z. omega (arith, leb-false 1 s a))))

  -- A call that leaves everything as it was.
  pub unchanged : (e : Effect) (base lists : List ℕ) → e.site ≡ w.site s → e.words ≡ [] → base ≡ w.base s → lists ≡ w.lists s
      → Refines house (site_step w s e base lists).world p
  unfolding site_step messages_in split_words
  unchanged e base lists a b c d =
      record {
        few = r.few;
        site =
            upd_three (λ j x y z. 1 ≤ j → j ≤ house.sites → SiteIs house j x y z (slice_of p j)) w.site w.base w.lists s
            e.site base lists
            (rw (a, c, d) (r.site s)) (λ j n. r.site j);
        outside = upd_cases (λ j x. ((1 ≤ j) × (j ≤ house.sites) → ⊥) → site_ok x ≡ false) w.site s e.site (rw a (r.outside s))
            (λ j n. r.outside j);
        sent = rw (b, append-nil) r.sent;
        log = r.log;
        stream = r.stream;
      }

  -- so the protocol makes no move
  pub stays : (e : Effect) → e.site ≡ w.site s → e.words ≡ [] → Follows house p (site_step w s e (w.base s) (w.lists s)).world []
  stays e a b = (p, stop, refl, unchanged e (w.base s) (w.lists s) a b refl refl)

  pub unlogged : (e : Effect) (base : List ℕ) → e.site ≡ w.site s → e.words ≡ [] → base ≡ w.base s
      → Refines house (log_step w s e base).world p
  unfolding log_step
  unlogged e base a b c =
      record {
        few = r.few;
        site =
            upd_three (λ j x y z. 1 ≤ j → j ≤ house.sites → SiteIs house j x y (w.lists j) (slice_of p j)) w.site w.base w.lists s
            e.site base (w.lists s)
            (rw (a, c) (r.site s)) (λ j n. r.site j);
        outside = upd_cases (λ j x. ((1 ≤ j) × (j ≤ house.sites) → ⊥) → site_ok x ≡ false) w.site s e.site (rw a (r.outside s))
            (λ j n. r.outside j);
        sent = r.sent;
        log = upd_cases (λ j x. x ≡ map (rec_words j) (p.log j)) w.log s _ (rw (b, append-nil) (r.log s)) (λ j n. r.log j);
        stream = r.stream;
      }

  -- A call that changes its site, and sends what it wrote.
  module _ {q : Protocol} (l : 1 ≤ s) (h : s ≤ house.sites) (o : Elsewhere s p q) (e : Effect) where
    pub site_step_lem : (base lists : List ℕ) → SiteIs house s e.site base lists (slice_of q s) → Grows p.post q.post
        → ((j : ℕ) → q.log j ≡ p.log j)
        → All (Posted q.post) (messages_in e.words) → Refines house (site_step w s e base lists).world q
    unfolding site_step
    site_step_lem base lists x g k m =
        record {
          few = r.few;
          site =
              upd_three (λ j x y z. 1 ≤ j → j ≤ house.sites → SiteIs house j x y z (slice_of q j)) w.site w.base w.lists s
              e.site base lists
              (λ a b. x) (λ j n a b. site_elsewhere s n o (r.site j a b));
          outside = upd_cases (λ j x. ((1 ≤ j) × (j ≤ house.sites) → ⊥) → site_ok x ≡ false) w.site s e.site (λ z. absurd (z (l, h)))
              (λ j n. r.outside j);
          sent = all_append (all_map (posted_still p.post q.post g) r.sent) m;
          log = λ j. rw (k j) (r.log j);
          stream = r.stream;
        }

    -- A call that changes its site, and writes its log.
    pub log_step_lem : (base : List ℕ) → SiteIs house s e.site base (w.lists s) (slice_of q s) → ((a b : ℕ) → q.post a b ≡ p.post a b)
        → w.log s ++ record_in e.words ≡ map (rec_words s) (q.log s) → Refines house (log_step w s e base).world q
    unfolding log_step
    log_step_lem base x g k =
        record {
          few = r.few;
          site =
              upd_three (λ j x y z. 1 ≤ j → j ≤ house.sites → SiteIs house j x y (w.lists j) (slice_of q j)) w.site w.base
              w.lists s
              e.site base (w.lists s)
              (λ a b. x) (λ j n a b. site_elsewhere s n o (r.site j a b));
          outside = upd_cases (λ j x. ((1 ≤ j) × (j ≤ house.sites) → ⊥) → site_ok x ≡ false) w.site s e.site (λ z. absurd (z (l, h)))
              (λ j n. r.outside j);
          sent = all_map (posted_still p.post q.post (λ a b. ([], g a b ∙ sym (append-nil (p.post a b))))) r.sent;
          log = upd_cases (λ j x. x ≡ map (rec_words j) (q.log j)) w.log s _ k (λ j n. rw (o.log j n) (r.log j));
          stream = r.stream;
        }
