-- What a step of a part's course does at its site, as moves: steps one after the other, and the call that they make up.
use Prim.Native.Nat.{ℕ, ◌≤◌, ◌<◌}
use mathlib.Core.Path.{◌≡◌, sym, ap, ◌∙◌}
use mathlib.Core.List.{List, [], ◌++◌, append-nil, append_assoc}
use borrow.Author.Tests.{ne_eqb}
use lib.ListN.{length}
use lib.Seq.{get_or-set_same, set-set}
use Rattle.kinds.specs.Sizes as sizes
use Rattle.kinds.specs.declared.House.{House}
use Rattle.kinds.specs.declared.Turn.{Turn}
use Rattle.kinds.specs.declared.Site.{Site}
use Rattle.kinds.specs.declared.Answer.{Answer}
use Rattle.kinds.specs.State.{past_sub, with_channels}
use Rattle.rules.specs.House.{coordinator_of}
use Rattle.rules.specs.Effect.{Effect, turn_at, settle}
use Rattle.rules.specs.Course.{send_all}
use Rattle.rules.specs.World.{World, site_step}
use Rattle.rules.specs.Book.{Fact}
use Rattle.rules.proofs.Protocol.ProtocolTables.{Protocol, Msg}
use Rattle.rules.proofs.Protocol.Protocol.{others, Whole, Moves, stop, more, course_at}
use Rattle.rules.proofs.Book.Told.{told, told_all}
use Rattle.rules.proofs.Protocol.Invariants.{In, Held, Invariant}
use Rattle.rules.proofs.Refine.Refines.{kind_of, tx_in, clock_in, argument_in, entries_in, Posted, ChannelsAre, Slice, slice_of, SiteIs}
use Rattle.rules.proofs.Refine.Refines.{Refines}
use Rattle.rules.proofs.Refine.RefineSite.{post_in, site_channels, channels_all}
use Rattle.rules.proofs.Refine.RefineStep.{Follows, Grows, Elsewhere, site_step_lem}
use Rattle.rules.proofs.Refine.RefineMail.{Made, made_in, made_all, send_all_words}

pub record Acts (house : House) (s : ℕ) (p q : Protocol) (x : Site) (base lists words : List ℕ) (facts : List Fact) : Type 0 where
  pub moves : Moves house p q
  pub tells : told_all moves ≡ facts
  pub elsewhere : Elsewhere s p q
  pub grows : Grows p.post q.post
  pub log : (j : ℕ) → q.log j ≡ p.log j
  pub site : SiteIs house s x base lists (slice_of q s)
  pub made : Made (Posted q.post) words

-- the call
pub acts_follow : {house : House} {w : World} {p q : Protocol} {base lists : List ℕ} {facts : List Fact} (r : Refines house w p) (s : ℕ)
    → 1 ≤ s
    → s ≤ house.sites → (e : Effect)
    → Acts house s p q e.site base lists e.words facts → Follows house p (site_step w s e base lists).world facts
acts_follow {q = q} {base = base} {lists = lists} r s l h e a =
    (q, a.moves, a.tells, site_step_lem r s l h a.elsewhere e base lists a.site a.grows a.log (made_in a.made))

-- One step after another: the first sends nothing.
pub moves_append : {house : House} {p q r : Protocol} → Moves house p q → Moves house q r → Moves house p r
moves_append m stop = m
moves_append m (more n k) = more (moves_append m n) k

told_append : {house : House} {p q r : Protocol} (m : Moves house p q) (n : Moves house q r)
    → told_all (moves_append m n) ≡ told_all m ++ told_all n
unfolding moves_append
told_append m stop = sym (append-nil (told_all m))
told_append m (more n k) = ap (λ (l : List Fact). l ++ told k) (told_append m n) ∙ append_assoc (told_all m) (told_all n) (told k)

pub acts_then : {house : House} {s : ℕ} {p q r : Protocol} {x y : Site} {base base' lists lists' words : List ℕ} {fs gs : List Fact}
    → Acts house s p q x base lists [] fs → Acts house s q r y base' lists' words gs → Acts house s p r y base' lists' words (fs ++ gs)
acts_then {p = p} a b =
    record {
      moves = moves_append a.moves b.moves;
      tells = told_append a.moves b.moves ∙ (λ i. a.tells i ++ b.tells i);
      elsewhere =
          record {
            clock = λ j n. b.elsewhere.clock j n ∙ a.elsewhere.clock j n;
            serial = λ j n. b.elsewhere.serial j n ∙ a.elsewhere.serial j n;
            live = λ j n. b.elsewhere.live j n ∙ a.elsewhere.live j n;
            post = λ j k n. b.elsewhere.post j k n ∙ a.elsewhere.post j k n;
            taken = λ k j n. b.elsewhere.taken k j n ∙ a.elsewhere.taken k j n;
            log = λ j n. b.elsewhere.log j n ∙ a.elsewhere.log j n;
            gathered = λ t n. b.elsewhere.gathered t n ∙ a.elsewhere.gathered t n;
          };
      grows = λ i j.
          let (l, e) = a.grows i j in
          let (m, f) = b.grows i j in
          (l ++ m, f ∙ ap (λ z. z ++ m) e ∙ append_assoc (p.post i j) l m);
      log = λ j. b.log j ∙ a.log j;
      site = b.site;
      made = b.made;
    }

-- A step taken on a turn is one on the site where that turn is settled.
pub settled_turn : (x : Site) (place : ℕ) (t : Turn) → place < length x.live → turn_at (settle x place t) place ≡ t
unfolding turn_at settle
settled_turn x place t h = rw (get_or-set_same x.live place t.sub past_sub h)

pub settled_again : (x : Site) (place : ℕ) (t u : Turn) → settle (settle x place t) place u ≡ settle x place u
unfolding settle
settled_again x place t u = rw (set-set x.live place t.sub u.sub)

-- Messages to all others.
pub others_elsewhere : (post : ℕ → ℕ → List Msg) (s mask : ℕ) (m : Msg) (j k : ℕ) → (j ≡ s → ⊥) → others post s mask m j k ≡ post j k
unfolding others
others_elsewhere post s mask m j k n = rw (ne_eqb j s n)

pub members : {house : House} {p : Protocol} (s t : ℕ) → Invariant house p → coordinator_of t ≡ s → Held p s t → (r : ℕ)
    → In (course_at p s t).mask r → r ≤ house.sites
members s t i e h r k = i.posts.members t r (rw e h) (rw e k)

module _ {house : House} (post : ℕ → ℕ → List Msg) (u : Turn) (answer : Answer) (s mask : ℕ) (m : Msg) {taken : ℕ → ℕ}
    (few : house.sites ≤ sizes.sites)
    (own : u.counters.own ≡ s) (part : u.sub.course.mask ≡ mask) (c : ChannelsAre house u.channels (post s) taken) where
  pub send_all_site : {x : Site} {base lists : List ℕ} {v : Slice} → v.taken ≡ taken → SiteIs house s x base lists v
      → SiteIs house s (with_channels x (send_all u answer (kind_of m) (clock_in m) (argument_in m) (entries_in m)).turn.channels) base lists
      (post_in v (others post s mask m s))
  unfolding send_all
  send_all_site {v = v} e y =
      rw (own, part) (site_channels y _ (others post s mask m s) v.taken (rw e (channels_all post s mask m few c)))

  pub send_all_made : Whole (entries_in m) → ((r : ℕ) → In mask r → r ≤ house.sites) → u.sub.tx ≡ tx_in m
      → Made (Posted (others post s mask m)) (send_all u answer (kind_of m) (clock_in m) (argument_in m) (entries_in m)).words
  send_all_made whole in-house tx = rw (send_all_words u answer m s mask own tx part) (made_all post s mask m whole in-house c sizes.sites)
