-- A message taken: what it leaves at the site, with a part changed and a reply sent, or without.
use Prim.Native.Nat.{ℕ, ◌+◌, ◌-◌, ◌≤◌}
use mathlib.Core.Path.{◌≡◌, refl, ap, ◌∙◌}
use mathlib.Core.List.{List, [], ◌∷◌, ◌++◌}
use lib.ListN.{get_or}
use Rattle.kinds.specs.Sizes as sizes
use Rattle.kinds.specs.declared.House.{House}
use Rattle.kinds.specs.declared.Sub.{Sub}
use Rattle.kinds.specs.declared.Turn.{Turn}
use Rattle.kinds.specs.declared.Site.{Site}
use Rattle.kinds.specs.State.{with_clock}
use Rattle.rules.specs.House.{coordinator_of}
use Rattle.rules.specs.Course.{taken_from, sent_to, send_to}
use Rattle.rules.proofs.Lists.Tables.{upd₂, row_other, column_other}
use Rattle.rules.proofs.Protocol.ProtocolTables.{Protocol, Msg, Rec}
use Rattle.rules.proofs.Protocol.Protocol.{Whole, Move, stop, more}
use Rattle.rules.proofs.Book.Told.{told}
use Rattle.rules.proofs.Refine.Refines.{kind_of, tx_in, clock_in, argument_in, entries_in, Posted, slice_of, Slice, SiteIs}
use Rattle.rules.proofs.Refine.RefineSite.{site_channels, site_clock, channels_one, channels_taken}
use Rattle.rules.proofs.Refine.RefineStep.{Elsewhere, grows_none}
use Rattle.rules.proofs.Refine.RefineMail.{Made, none, made_one, send_words, grows_one}
use Rattle.rules.proofs.Refine.RefineActs.{Acts}

-- a slice with its clock, parts and channels changed
abbrev pub slice_with : Slice → ℕ → (ℕ → Sub) → (ℕ → List Msg) → (ℕ → ℕ) → Slice
slice_with v clock live post taken =
    record { clock = clock; serial = v.serial; live = live; gathered = v.gathered; post = post; taken = taken; log = v.log }

-- what site s has taken, and sent, after one message more from a, and one more to it
abbrev pub took_from : Protocol → ℕ → ℕ → ℕ → ℕ
took_from p s a r = upd₂ p.taken a s (p.taken a s + 1) r s

abbrev pub replied : Protocol → ℕ → ℕ → Msg → ℕ → List Msg
replied p s a m = upd₂ p.post s a (p.post s a ++ (m ∷ [])) s

module _ {house : House} (p : Protocol) (s a : ℕ) {x : Site} {base lists : List ℕ} (few : house.sites ≤ sizes.sites) (low : 1 ≤ a)
    (high : a ≤ house.sites)
    (y : SiteIs house s x base lists (slice_of p s)) where
  -- the count stepped, and the clock n
  pub took_site : {clock : ℕ} {v : Site} {live : ℕ → Sub} (n : ℕ) → clock ≡ n → v.counters ≡ x.counters
      → SiteIs house s v base lists (slice_with (slice_of p s) (p.clock s) live (p.post s) (λ r. p.taken r s))
      → SiteIs house s
      (record {
        house = v.house;
        counters = with_clock v.counters n;
        channels = taken_from x.channels a;
        live = v.live;
        history = v.history;
      }) base lists
      (slice_with (slice_of p s) clock live (p.post s) (took_from p s a))
  took_site n e q z =
      site_channels (site_clock z n e) (taken_from x.channels a) (p.post s) (took_from p s a)
      (channels_taken p.taken a s few low high y.channels)

  -- and a reply sent
  pub reply_site : {clock : ℕ} {v : Site} {live : ℕ → Sub} (m : Msg) (n : ℕ) → clock ≡ n → v.counters ≡ x.counters
      → SiteIs house s v base lists (slice_with (slice_of p s) (p.clock s) live (p.post s) (λ r. p.taken r s))
      → SiteIs house s
      (record {
        house = v.house;
        counters = with_clock v.counters n;
        channels = sent_to (taken_from x.channels a) a;
        live = v.live;
        history = v.history;
      }) base lists
      (slice_with (slice_of p s) clock live (replied p s a m) (took_from p s a))
  reply_site m n e q z =
      site_channels (site_clock z n e) (sent_to (taken_from x.channels a) a) (replied p s a m) (took_from p s a)
      (channels_one p.post s a m few low high (channels_taken p.taken a s few low high y.channels))

  pub reply_made : (u : Turn) (m : Msg) → u.counters.own ≡ x.counters.own → u.channels.sent ≡ x.channels.sent → u.sub.tx ≡ tx_in m
      → Whole (entries_in m)
      → Made (Posted (upd₂ p.post s a (p.post s a ++ (m ∷ [])))) (send_to u (kind_of m) a (clock_in m) (argument_in m) (entries_in m)).words
  reply_made u m o c t whole =
      rw (send_words u m s a (o ∙ y.counters.own_is) t)
      (made_one p.post s a (get_or u.channels.sent (a - 1) 0) m whole
      (ap (λ (l : List ℕ). get_or l (a - 1) 0) c ∙ y.channels.sent_is a low high))

-- elsewhere
module _ (p : Protocol) (s a : ℕ) where
  pub took_elsewhere : {q : Protocol} → ((j : ℕ) → (j ≡ s → ⊥) → q.clock j ≡ p.clock j) → q.serial ≡ p.serial
      → ((j : ℕ) → (j ≡ s → ⊥) → q.live j ≡ p.live j)
      → ((j k : ℕ) → (j ≡ s → ⊥) → q.post j k ≡ p.post j k) → q.taken ≡ upd₂ p.taken a s (p.taken a s + 1) → q.log ≡ p.log
      → ((t : ℕ) → (coordinator_of t ≡ s → ⊥) → q.gathered t ≡ p.gathered t) → Elsewhere s p q
  took_elsewhere c e l o t g h =
      record {
        clock = c;
        serial = λ j n. ap (λ (f : ℕ → ℕ). f j) e;
        live = l;
        post = o;
        taken = λ k j n. ap (λ (f : ℕ → ℕ → ℕ). f k j) t ∙ column_other p.taken a s (p.taken a s + 1) k j n;
        log = λ j n. ap (λ (f : ℕ → List _). f j) g;
        gathered = h;
      }

  pub reply_elsewhere : (m : Msg) (j k : ℕ) → (j ≡ s → ⊥) → upd₂ p.post s a (p.post s a ++ (m ∷ [])) j k ≡ p.post j k
  reply_elsewhere m j k n = ap (λ (f : ℕ → List Msg). f k) (row_other p.post s a (p.post s a ++ (m ∷ [])) j n)

-- A move that takes a message from a at s, with no reply, or with one.
module _ {house : House} {p q : Protocol} (s a : ℕ) (move : Move house p q) (clock : (j : ℕ) → (j ≡ s → ⊥) → q.clock j ≡ p.clock j)
    (serial : q.serial ≡ p.serial)
    (live : (j : ℕ) → (j ≡ s → ⊥) → q.live j ≡ p.live j) (taken : q.taken ≡ upd₂ p.taken a s (p.taken a s + 1))
    (log : q.log ≡ p.log) where
  pub quiet_acts : {x : Site} {base lists : List ℕ} → q.post ≡ p.post
      → ((t : ℕ) → (coordinator_of t ≡ s → ⊥) → q.gathered t ≡ p.gathered t)
      → SiteIs house s x base lists (slice_of q s) → Acts house s p q x base lists [] (told move)
  quiet_acts post gathered y =
      record {
        moves = more stop move;
        tells = refl;
        elsewhere = took_elsewhere p s a clock serial live (λ j k n. ap (λ (f : ℕ → ℕ → List Msg). f j k) post) taken log gathered;
        grows = rw post (grows_none p.post);
        log = λ j. ap (λ (f : ℕ → List Rec). f j) log;
        site = y;
        made = none;
      }

  pub reply_acts : {x : Site} {base lists words : List ℕ} (m : Msg) → q.post ≡ upd₂ p.post s a (p.post s a ++ (m ∷ []))
      → q.gathered ≡ p.gathered
      → SiteIs house s x base lists (slice_of q s) → Made (Posted (upd₂ p.post s a (p.post s a ++ (m ∷ [])))) words
      → Acts house s p q x base lists words (told move)
  reply_acts m post gathered y k =
      record {
        moves = more stop move;
        tells = refl;
        elsewhere =
            took_elsewhere p s a clock serial live
            (λ j k n. ap (λ (f : ℕ → ℕ → List Msg). f j k) post ∙ reply_elsewhere p s a m j k n) taken log
            (λ t n. ap (λ (f : ℕ → List ℕ). f t) gathered);
        grows = rw post (grows_one p.post s a m);
        log = λ j. ap (λ (f : ℕ → List Rec). f j) log;
        site = y;
        made = rw post k;
      }
