-- One site's state against its slice of the protocol, with one of its tables changed.
use Prim.Native.Nat.{ℕ, ◌+◌, ◌-◌, ◌≤◌}
use mathlib.Core.Path.{◌≡◌, refl, sym, ap, ◌∙◌}
use mathlib.Core.Bool.{Bool, true, false}
use mathlib.Core.List.{List, [], ◌∷◌, ◌++◌}
use native.Mathlib.Omega.{arith}
use borrow.Author.Tests.{eq-eqb, le-leb}
use lib.ListN.{length, get_or, length-append, length-set}
use lib.Seq.{get_or-set_same, get_or-set_other}
use Rattle.laws.specs.Choice.{pick, by_same}
use Rattle.kinds.specs.Sizes as sizes
use Rattle.kinds.specs.declared.House.{House}
use Rattle.kinds.specs.Stage as stage
use Rattle.kinds.specs.declared.Sub.{Sub}
use Rattle.kinds.specs.declared.Site.{Site}
use Rattle.kinds.specs.declared.Channels.{Channels}
use Rattle.kinds.specs.State.{no_keys, with_sub, with_counters, with_channels, with_clock, with_serial}
use Rattle.rules.specs.House.{coordinator_of, in_mask}
use Rattle.rules.specs.Send.{is_recipient, step_count, step_recipients}
use Rattle.rules.specs.SendLaws.{length_steps, steps_at}
use Rattle.rules.specs.Course.{new_sub, sent_to, taken_from}
use Rattle.rules.specs.World.{upd}
use Rattle.rules.proofs.Lists.Tables.{upd₂, upd₂_cases, upd₂_same}
use Rattle.rules.proofs.Protocol.ProtocolTables.{Msg}
use Rattle.rules.proofs.Protocol.Protocol.{others}
use Rattle.rules.proofs.Refine.Refines.{IsFree, Sized, ChannelsAre, Slice, SiteIs}
use Rattle.rules.proofs.Refine.RefineLive.{Spot, live_set, lists_set}

pub no_keys_sized : Sized no_keys
unfolding no_keys
no_keys_sized = record { reads_size = refl; writes_size = refl; values_size = refl }

-- a part that begins
pub new_sub_lem : (t d mask installs : ℕ) → ((new_sub t d mask installs).tx ≡ t) × Sized (new_sub t d mask installs).keys
unfolding new_sub
new_sub_lem t d mask installs = (refl, no_keys_sized)

pub new_stage : (t d mask installs : ℕ) → (new_sub t d mask installs).course.stage ≡ stage.active
unfolding new_sub
new_stage t d mask installs = refl

-- A slice with one table changed.
abbrev pub live_in : Slice → (ℕ → Sub) → Slice
live_in v x =
    record { clock = v.clock; serial = v.serial; live = x; gathered = v.gathered; post = v.post; taken = v.taken; log = v.log }

abbrev pub clock_in_lem : Slice → ℕ → Slice
clock_in_lem v x =
    record { clock = x; serial = v.serial; live = v.live; gathered = v.gathered; post = v.post; taken = v.taken; log = v.log }

abbrev pub serial_in : Slice → ℕ → Slice
serial_in v x =
    record { clock = v.clock; serial = x; live = v.live; gathered = v.gathered; post = v.post; taken = v.taken; log = v.log }

abbrev pub post_in : Slice → (ℕ → List Msg) → Slice
post_in v x =
    record { clock = v.clock; serial = v.serial; live = v.live; gathered = v.gathered; post = x; taken = v.taken; log = v.log }

abbrev pub taken_in : Slice → (ℕ → ℕ) → Slice
taken_in v x =
    record { clock = v.clock; serial = v.serial; live = v.live; gathered = v.gathered; post = v.post; taken = x; log = v.log }

-- Channels.
pub channels_sent : {house : House} {c : Channels} {post : ℕ → List Msg} {taken : ℕ → ℕ} (sent : List ℕ) (new : ℕ → List Msg)
    → length sent ≡ sizes.sites
    → ((r : ℕ) → 1 ≤ r → r ≤ house.sites → get_or sent (r - 1) 0 ≡ length (new r))
    → ChannelsAre house c post taken → ChannelsAre house (record { sent = sent; taken = c.taken }) new taken
channels_sent sent new e f x = record { sent_size = e; taken_size = x.taken_size; sent_is = f; taken_is = x.taken_is }

-- one message more to site b
pub channels_one : {house : House} {c : Channels} {taken : ℕ → ℕ} (post : ℕ → ℕ → List Msg) (a b : ℕ) (m : Msg)
    → house.sites ≤ sizes.sites → 1 ≤ b
    → b ≤ house.sites
    → ChannelsAre house c (post a) taken → ChannelsAre house (sent_to c b) (upd₂ post a b (post a b ++ (m ∷ [])) a) taken
channels_one {house} {c} {taken} post a b m few l h x =
    channels_sent (step_count c.sent (b - 1)) (upd₂ post a b (post a b ++ (m ∷ [])) a)
    (length-set c.sent (b - 1) (get_or c.sent (b - 1) 0 + 1) ∙ x.sent_size)
    (λ r k n. by_same r b
    (λ e. rw (e, upd₂_same post a b (post a b ++ (m ∷ [])))
    (get_or-set_same c.sent (b - 1) (get_or c.sent (b - 1) 0 + 1) 0 (omega (arith, x.sent_size))
    ∙ omega (arith, x.sent_is b l h, length-append (post a b) (m ∷ []))))
    (λ e. get_or-set_other c.sent (b - 1) (r - 1) (get_or c.sent (b - 1) 0 + 1) 0 (λ z. e (omega arith))
    ∙ x.sent_is r k n
    ∙ ap length (sym (old r e))))
    x
  where
    old : (r : ℕ) → (r ≡ b → ⊥) → upd₂ post a b (post a b ++ (m ∷ [])) a r ≡ post a r
    old r = upd₂_cases (λ i j y. (j ≡ b → ⊥) → y ≡ post i j) post a b _ (λ n. absurd (n refl)) (λ i j o n. refl) a r

-- one message more to each other participant
pub others_row : (post : ℕ → ℕ → List Msg) (a mask : ℕ) (m : Msg) (r : ℕ) → 1 ≤ r
    → others post a mask m a r ≡ pick (is_recipient mask a (r - 1)) (post a r ++ (m ∷ [])) (post a r)
unfolding others is_recipient in_mask
others_row post a mask m r l =
    let q : r - 1 + 1 ≡ r = omega arith in
    rw (eq-eqb a a refl, le-leb 1 r l, q)

picked_length : (b : Bool) (l : List Msg) (m : Msg) → length (pick b (l ++ (m ∷ [])) l) ≡ pick b (length l + 1) (length l)
picked_length true l m = length-append l (m ∷ [])
picked_length false l m = refl

pub channels_all : {house : House} {c : Channels} {taken : ℕ → ℕ} (post : ℕ → ℕ → List Msg) (a mask : ℕ) (m : Msg)
    → house.sites ≤ sizes.sites
    → ChannelsAre house c (post a) taken
    → ChannelsAre house (record { sent = step_recipients c.sent mask a sizes.sites; taken = c.taken }) (others post a mask m a) taken
channels_all {house} {c} {taken} post a mask m few x =
    channels_sent (step_recipients c.sent mask a sizes.sites) (others post a mask m a)
    (length_steps c.sent mask a sizes.sites ∙ x.sent_size)
    (λ r k n. rw (others_row post a mask m r k)
    (steps_at c.sent mask a sizes.sites (r - 1) (omega (arith, x.sent_size)) (omega arith)
    ∙ rw (x.sent_is r k n) (sym (picked_length (is_recipient mask a (r - 1)) (post a r) m))))
    x

-- one message more taken from site a
pub channels_taken : {house : House} {c : Channels} {post : ℕ → List Msg} (taken : ℕ → ℕ → ℕ) (a b : ℕ) → house.sites ≤ sizes.sites → 1 ≤ a
    → a ≤ house.sites
    → ChannelsAre house c post (λ r. taken r b) → ChannelsAre house (taken_from c a) post (λ r. upd₂ taken a b (taken a b + 1) r b)
channels_taken {house} {c} {post} taken a b few l h x =
    record {
      sent_size = x.sent_size;
      taken_size = length-set c.taken (a - 1) (get_or c.taken (a - 1) 0 + 1) ∙ x.taken_size;
      sent_is = x.sent_is;
      taken_is = λ r k n. by_same r a
          (λ e. rw (e, upd₂_same taken a b (taken a b + 1))
          (get_or-set_same c.taken (a - 1) (get_or c.taken (a - 1) 0 + 1) 0 (omega (arith, x.taken_size))
          ∙ omega (arith, x.taken_is a l h)))
          (λ e. get_or-set_other c.taken (a - 1) (r - 1) (get_or c.taken (a - 1) 0 + 1) 0 (λ z. e (omega arith)) ∙ x.taken_is r k n
          ∙ sym (old r e));
    }
  where
    old : (r : ℕ) → (r ≡ a → ⊥) → upd₂ taken a b (taken a b + 1) r b ≡ taken r b
    old r = upd₂_cases (λ i j y. (i ≡ a → ⊥) → y ≡ taken i j) taken a b _ (λ n. absurd (n refl)) (λ i j o n. refl) r b

-- The site with one of its parts changed.
module _ {house : House} {own : ℕ} {s : Site} {base words : List ℕ} {v : Slice} (x : SiteIs house own s base words v) where
  -- the part at place i, where that is none whose entries the site gathers
  pub site_sub : {row : ℕ → Sub} (i t : ℕ) (b : Sub) → Spot s.live i t → ((IsFree b → ⊥) → (b.tx ≡ t) × Sized b.keys)
      → (b.course.stage ≡ stage.prepared → coordinator_of b.tx ≡ own → ⊥) → row ≡ upd v.live t b
      → SiteIs house own (with_sub s i b) base words (live_in v row)
  site_sub i t b p q n e =
      record {
        house_is = x.house_is;
        counters = x.counters;
        channels = x.channels;
        live = rw e (live_set x.live i t b p q);
        history = x.history;
        lists = lists_set x.live i t b p q own words v.gathered n x.lists;
        base_size = x.base_size;
      }

  pub site_clock : {m : ℕ} (n : ℕ) → m ≡ n → SiteIs house own (with_counters s (with_clock s.counters n)) base words (clock_in_lem v m)
  site_clock n e =
      record {
        house_is = x.house_is;
        counters =
            record {
              own_is = x.counters.own_is;
              clock_is = sym e;
              serial_is = x.counters.serial_is;
              installs_are = x.counters.installs_are;
            };
        channels = x.channels;
        live = x.live;
        history = x.history;
        lists = x.lists;
        base_size = x.base_size;
      }

  pub site_serial : {m : ℕ} (n : ℕ) → m ≡ n → SiteIs house own (with_counters s (with_serial s.counters n)) base words (serial_in v m)
  site_serial n e =
      record {
        house_is = x.house_is;
        counters =
            record {
              own_is = x.counters.own_is;
              clock_is = x.counters.clock_is;
              serial_is = sym e;
              installs_are = x.counters.installs_are;
            };
        channels = x.channels;
        live = x.live;
        history = x.history;
        lists = x.lists;
        base_size = x.base_size;
      }

  pub site_channels : (c : Channels) (post : ℕ → List Msg) (taken : ℕ → ℕ) → ChannelsAre house c post taken
      → SiteIs house own (with_channels s c) base words (taken_in (post_in v post) taken)
  site_channels c post taken k =
      record {
        house_is = x.house_is;
        counters = x.counters;
        channels = k;
        live = x.live;
        history = x.history;
        lists = x.lists;
        base_size = x.base_size;
      }
