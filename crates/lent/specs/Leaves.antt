-- What a core and its words are left as: by a call that leaves them, by a step of a part, by an install.
use Rattle.std.specs.Prelude.{ℕ, ◌*◌, ◌<◌, ◌≡◌, refl, List, get_or, set, length, eqb}
use Rattle.std.proofs.Common.{sym, ◌∙◌, arith, eqb-true, eq-eqb}
use Rattle.laws.specs.Choice.{by_test}
use Rattle.laws.specs.Overlay.{put_at}
use Rattle.kinds.specs.Sizes as sizes
use Rattle.kinds.specs.declared.Channels.{Channels}
use Rattle.kinds.specs.declared.Counters.{Counters}
use Rattle.kinds.specs.declared.Seat.{Seat}
use Rattle.kinds.specs.declared.Core.{Core}
use Rattle.kinds.specs.declared.Site.{Site}
use Rattle.kinds.specs.declared.Sub.{Sub}
use Rattle.kinds.specs.declared.Entry.{Entry}
use Rattle.kinds.specs.declared.Turn.{Turn}
use Rattle.kinds.specs.State.{past_seat}
use Rattle.rules.specs.Effect.{settle}
use Rattle.rules.specs.MergerWords.{length_put}
use Rattle.lent.specs.Rows.{rows_read, each, each_rows, each_set}
use Rattle.lent.specs.Layout.{sub_from, live_of, history_of, seat_of, place_words, slot_words}
use Rattle.lent.specs.Lent.{lent_house, site_of, live_left, history_left, Left}
use Rattle.lent.specs.Put.{put_inside, live_set, history_set}
use Rattle.lent.specs.Shape.{Shaped, ShapedEntry}
use Rattle.lent.specs.Laws.{Lengths, live_again, history_again, live_put, history_put}

seats_again : (seats : List Seat) (w : List ℕ) → length seats ≡ sizes.live → each seat_of (live_of seats w) ≡ seats
unfolding live_of seat_of sub_from
seats_again seats w e =
    each_rows seat_of (λ i. sub_from (get_or seats i past_seat) w (sizes.place * i)) sizes.live ∙ rows_read seats sizes.live past_seat e

-- words whose table stays
live_kept : (seats : List Seat) (w : List ℕ) (s : Site) → s.live ≡ live_of seats w → w ≡ live_left w s
unfolding live_left
live_kept seats w s e =
    by_test (eqb (length w) sizes.live_words) (λ t. rw (t, e) (sym (live_again seats w (eqb-true _ _ t)))) (λ f. rw f)

history_kept : (h : List ℕ) (s : Site) → s.history ≡ history_of h → h ≡ history_left h s
unfolding history_left
history_kept h s e =
    by_test (eqb (length h) sizes.history_words) (λ t. rw (t, e) (sym (history_again h (eqb-true _ _ t)))) (λ f. rw f)

-- other counters and channels
pub left_counted : (p : Core) (w h : List ℕ) (c : Counters) (d : Channels) → length p.seats ≡ sizes.live
    → Left p w h (record { house = p.house; counters = c; channels = d; seats = p.seats }) w h
    (record {
      house = lent_house p.house (length w) (length h);
      counters = c;
      channels = d;
      live = live_of p.seats w;
      history = history_of h;
    })
left_counted p w h c d e =
    record {
      core = rw (seats_again p.seats w e);
      live = live_kept p.seats w _ refl;
      history = history_kept h _ refl;
      seen = refl;
    }

-- nothing
pub left_same : (p : Core) (w h : List ℕ) → length p.seats ≡ sizes.live → Left p w h p w h (site_of p w h)
left_same p w h e = left_counted p w h p.counters p.channels e

-- a part put back with its step's counters and channels
pub left_settled : (p : Core) (w h : List ℕ) (place : ℕ) (t : Turn) → length p.seats ≡ sizes.live → length w ≡ sizes.live_words
    → place < sizes.live → Shaped t.sub
    → Left p w h
    (record { house = p.house; counters = t.counters; channels = t.channels; seats = set p.seats place (seat_of t.sub) })
    (put_at (sizes.place * place) w (place_words t.sub)) h (settle (site_of p w h) place t)
unfolding settle live_left
left_settled p w h place t e f l s =
    let v = put_at (sizes.place * place) w (place_words t.sub) in
    let long : length v ≡ length w = length_put (sizes.place * place) w (place_words t.sub) (omega (arith, s.long)) in
    let table =
    live_set p.seats w (place_words t.sub) place t.sub f e l s.long
    (s.back v (sizes.place * place)
    (λ j q. put_inside (sizes.place * place) w (place_words t.sub) j (omega arith) (omega (arith, s.long)))) in
    record {
      core = rw (each_set seat_of (live_of p.seats w) place t.sub, seats_again p.seats w e);
      live = rw (eq-eqb (length w) sizes.live_words f) (sym (live_put p.seats w place t.sub f l s.long));
      history = history_kept h _ refl;
      seen = rw (long, table);
    }

-- an install: a place is free, and a slot has its entry
pub left_installed : (p : Core) (w h : List ℕ) (c : Counters) (place slot : ℕ) (b : Sub) (e : Entry) → length p.seats ≡ sizes.live
    → Lengths w h → place < sizes.live → slot < sizes.history → Shaped b → ShapedEntry e
    → Left p w h (record { house = p.house; counters = c; channels = p.channels; seats = set p.seats place (seat_of b) })
    (put_at (sizes.place * place) w (place_words b)) (put_at (sizes.slot * slot) h (slot_words e))
    (record {
      house = lent_house p.house (length w) (length h);
      counters = c;
      channels = p.channels;
      live = set (live_of p.seats w) place b;
      history = set (history_of h) slot e;
    })
unfolding live_left history_left
left_installed p w h c place slot b e q f l m s r =
    let v = put_at (sizes.place * place) w (place_words b) in
    let g = put_at (sizes.slot * slot) h (slot_words e) in
    let long : length v ≡ length w = length_put (sizes.place * place) w (place_words b) (omega (arith, s.long, f.live)) in
    let wide : length g ≡ length h = length_put (sizes.slot * slot) h (slot_words e) (omega (arith, r.long, f.history)) in
    let table =
    live_set p.seats w (place_words b) place b f.live q l s.long
    (s.back v (sizes.place * place)
    (λ j z. put_inside (sizes.place * place) w (place_words b) j (omega (arith, f.live)) (omega (arith, s.long)))) in
    let past =
    history_set h (slot_words e) slot e f.history m r.long
    (r.back g (sizes.slot * slot)
    (λ j z. put_inside (sizes.slot * slot) h (slot_words e) j (omega (arith, f.history)) (omega (arith, r.long)))) in
    record {
      core = rw (each_set seat_of (live_of p.seats w) place b, seats_again p.seats w q);
      live = rw (eq-eqb (length w) sizes.live_words f.live) (sym (live_put p.seats w place b f.live l s.long));
      history = rw (eq-eqb (length h) sizes.history_words f.history) (sym (history_put h slot e f.history m r.long));
      seen = rw (long, wide, table, past);
    }
