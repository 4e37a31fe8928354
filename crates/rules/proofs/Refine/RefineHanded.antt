-- The message call, as moves: words handed in are a posted message, and then the next of its channel, or they are refused.
use Prim.Native.Nat.{ℕ, ◌+◌, ◌-◌, ◌≤◌, ◌<◌}
use mathlib.Core.Path.{◌≡◌, refl, sym, ap, ◌∙◌}
use mathlib.Core.Bool.{true}
use mathlib.Core.Logic.{inl, inr}
use mathlib.Core.List.{List, [], ◌∷◌, map}
use native.Mathlib.Omega.{arith}
use lib.ListN.{length, get_or}
use Rattle.kinds.specs.declared.House.{House}
use Rattle.laws.specs.Choice.{set_not}
use Rattle.kinds.specs.Kind as kind
use Rattle.kinds.specs.declared.Site.{Site}
use Rattle.kinds.specs.declared.MessageHead.{MessageHead}
use Rattle.rules.specs.Message.{message_head, message_entries, message_ok}
use Rattle.rules.specs.MessageLaws.{head_back, entries_back, passed_good}
use Rattle.rules.specs.Record.{record_words}
use Rattle.rules.specs.RecordLaws.{shape_written, record_no_message}
use Rattle.rules.specs.Keys.{sorted_count}
use Rattle.rules.specs.KeysLaws.{words_length}
use Rattle.rules.specs.Live.{place_of}
use Rattle.rules.specs.Valid.{handed_ok}
use Rattle.rules.specs.ValidLaws.{handed_site}
use Rattle.rules.specs.Effect.{Effect, refused}
use Rattle.rules.specs.Course.{head_of}
use Rattle.rules.specs.Install.{state_words}
use Rattle.rules.specs.Deliver.{arrival_code, next_code, take_kind, message_at, message_of}
use Rattle.rules.specs.CallLaws.{arrival_clear, next_clear}
use Rattle.rules.specs.World.{World, step, site_step, here, Handed}
use Rattle.rules.specs.World as world
use Rattle.rules.proofs.Lists.Tables.{All, a_nil, a_cons, all_is}
use Rattle.rules.proofs.Protocol.ProtocolTables.{Protocol, Msg, m_abort, Rec, r_part, r_state}
use Rattle.rules.proofs.Protocol.Protocol.{Next}
use Rattle.rules.proofs.Protocol.Invariants.{Invariant}
use Rattle.rules.proofs.Protocol.Frames.{in_range_lem}
use Rattle.rules.proofs.Refine.Refines.{entries_in, encode, Posted, rec_words, entry_words, part_head_of, IsRecord, slice_of, SiteIs}
use Rattle.rules.proofs.Refine.Refines.{Refines}
use Rattle.rules.proofs.Refine.RefineStep.{Follows, told_by, by_code, inside, stays}
use Rattle.rules.proofs.Refine.RefineMessage.{head_in, told_taken, takes}

-- A record of a log is no message.
log_record : (s : ℕ) (a : Rec) → IsRecord (rec_words s a)
unfolding entry_words part_head_of state_words record_words
log_record s (r_part e) = (shape_written (part_head_of s e) _ (words_length e.keys (sorted_count e.keys)), omega arith)
log_record s (r_state n) = (
  shape_written (record { kind = kind.state; site = s; number = n; coordinator = 0; tx = 0; mask = 0; count = 0 }) [] (omega arith),
  omega arith,
)

log_all : (s : ℕ) (l : List Rec) → All IsRecord (map (rec_words s) l)
log_all s [] = a_nil
log_all s (a ∷ l) = a_cons (log_record s a) (log_all s l)

-- A posted message at its site.
pub record Arrival (house : House) (p : Protocol) (s : ℕ) (ws : List ℕ) : Type 0 where
  pub from : ℕ
  pub number : ℕ
  pub message : Msg
  pub low : 1 ≤ from
  pub high : from ≤ house.sites
  pub next : Next p from s message
  pub head : message_head ws ≡ head_in from s number message
  pub entries : message_entries ws ≡ entries_in message

encoded_head : (a b n : ℕ) (m : Msg) → message_head (encode a b n m) ≡ head_in a b n m
unfolding encode
encoded_head a b n m = head_back (head_in a b n m) (entries_in m)

encoded_entries : (a b n : ℕ) (m : Msg) → message_entries (encode a b n m) ≡ entries_in m
unfolding encode
encoded_entries a b n m = entries_back (head_in a b n m) (entries_in m)

next_is : (p : Protocol) (a b s k : ℕ) → b ≡ s → k ≡ p.taken a s → k < length (p.post a b) → Next p a s (get_or (p.post a b) k (m_abort 0))
next_is p a b s k e f l =
    let l' : k < length (p.post a s) = rw e at l in
    let m = get_or (p.post a s) k (m_abort 0) in
    rw e
    (record {
      some = omega (arith, l', f);
      is = ap (λ (z : ℕ). get_or (p.post a s) z m) (sym f) ∙ in_range_lem (p.post a s) k m (m_abort 0) l';
    })

module _ {house : House} {p : Protocol} (i : Invariant house p) (s : ℕ) {x : Site} {base lists : List ℕ}
    (y : SiteIs house s x base lists (slice_of p s)) (ws : List ℕ) where
  -- it is the next one, if its number is
  pub arrives : Posted p.post ws → (message_head ws).to ≡ x.counters.own
      → (message_head ws).channel ≡ get_or x.channels.taken ((message_head ws).from - 1) 0 + 1 → Arrival house p s ws
  unfolding head_of
  arrives m to channel =
      let a = m.from in
      let b = m.to in
      let k = m.place in
      let msg = get_or (p.post a b) k (m_abort 0) in
      let hd : message_head ws ≡ head_in a b (k + 1) msg = ap message_head m.words ∙ encoded_head a b (k + 1) msg in
      let here : b ≡ s = sym (ap (λ (h : MessageHead). h.to) hd) ∙ to ∙ y.counters.own_is in
      let ((low, high), _) = i.posts.sender a b (omega (arith, m.low)) in
      let count : k + 1 ≡ get_or x.channels.taken (a - 1) 0 + 1 = sym (ap (λ (h : MessageHead). h.channel) hd) ∙ channel
      ∙ ap (λ (h : MessageHead). get_or x.channels.taken (h.from - 1) 0 + 1) hd in
      let taken : k ≡ p.taken a s = omega (arith, count, y.channels.taken_is a low high) in
      record {
        from = a;
        number = k + 1;
        message = msg;
        low = low;
        high = high;
        next = next_is p a b s k here taken m.low;
        head = hd ∙ ap (λ (z : ℕ). head_in a z (k + 1) msg) here;
        entries = ap message_entries m.words ∙ encoded_entries a b (k + 1) msg;
      }

module _ {house : House} {w : World} {p : Protocol} (r : Refines house w p) (i : Invariant house p) (s : ℕ) (out m : List ℕ) where
  abbrev site : Site
  site = w.site s

  abbrev lists : List ℕ
  lists = w.lists s

  abbrev head : MessageHead
  head = message_head m

  abbrev Goal : Effect → Type 0
  Goal e = Follows house p (site_step w s e (w.base s) e.lent).world (told_taken s head.kind head.tx e.words e.answer)

  -- words that pass are a posted message
  pub posted : Handed w (world.message s out m) → message_ok site.house m ≡ true → Posted p.post m
  posted (inl h) e = all_is r.sent h
  posted (inr (inl (j, h))) e = let l : All IsRecord (w.log j) = rw (r.log j) (log_all j (p.log j)) in let (a, b) = all_is l h in
      absurd (set_not _ e (record_no_message site.house m a b))
  posted (inr (inr h)) e = let (a, b) = all_is r.stream h in absurd (set_not _ e (record_no_message site.house m a b))

  delivers : Handed w (world.message s out m) → arrival_code (handed_ok site lists) (length out) (message_ok site.house m) ≡ 0
      → next_code head.to site.counters.own head.channel (get_or site.channels.taken (head.from - 1) 0) ≡ 0
      → Goal (take_kind head.kind site head (message_entries m) lists (place_of site.live head.tx))
  unfolding head_of
  delivers handed e f =
      let c = arrival_clear (handed_ok site lists) (length out) (message_ok site.house m) e in
      let d = next_clear head.to site.counters.own head.channel (get_or site.channels.taken (head.from - 1) 0) f in
      let (l, h) = inside r s (handed_site site lists c.valid) in
      let a = arrives i s (r.site s l h) m (posted handed c.formed) d.here d.in_order_lem in
      let good = rw (a.head, a.entries) at (passed_good site.house m c.formed) in
      rw (a.head, a.entries)
      (takes r i s a.from a.number l h a.low a.high (handed_site site lists c.valid) a.message a.next good)

  pub message_moves : Handed w (world.message s out m)
      → (let x = step w (world.message s out m) in Follows house p x.world (told_by (world.message s out m) x.answer x.words))
  unfolding step site_step message_of message_at
  message_moves handed =
      let code = arrival_code (handed_ok site lists) (length out) (message_ok site.house m) in
      let late = next_code head.to site.counters.own head.channel (get_or site.channels.taken (head.from - 1) 0) in
      by_code Goal code site lists (message_at site lists m)
      (λ e. by_code Goal late site lists (take_kind head.kind site head (message_entries m) lists (place_of site.live head.tx))
      (delivers handed e)
      (stays r s (refused late site lists) refl refl))
      (stays r s (refused code site lists) refl refl)
