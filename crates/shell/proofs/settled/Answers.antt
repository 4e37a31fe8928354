-- The part's words are laid at its place and its seat is set; the counters and channels are the step's.
use Prim.Native.Nat.{ℕ, ◌*◌, ◌<◌}
use mathlib.Core.Path.{◌≡◌, refl}
use mathlib.Core.List.{List}
use borrow.Author.Rules.{rules}
use lib.ListN.{length, set}
use Rattle.laws.specs.Overlay.{put_at}
use Rattle.kinds.specs.Sizes as sizes
use Rattle.kinds.specs.declared.Core.{Core}
use Rattle.kinds.specs.declared.Taken.{Taken}
use Rattle.rules.specs.Effect.{Change, taken_of, changed}
use Rattle.lent.specs.Layout.{seat_of, place_words}
use Rattle.lent.specs.Shape.{Shaped}
use Rattle.lent.specs.Lent.{site_of, Replied}
use Rattle.lent.specs.Leaves.{left_settled}
use Rattle.shell.proofs.settled.Goals as goal

-- the reply to a step, and the words after it
replied : (p : Core) (w h : List ℕ) (place : ℕ) (a : Taken) (s : Change) (lent : List ℕ) → a ≡ taken_of s → length p.seats ≡ sizes.live
    → length w ≡ sizes.live_words → place < sizes.live → Shaped a.turn.sub
    → Replied p w h
    (record {
      answer = a.answer;
      words = a.words;
      core =
          record {
            house = p.house;
            counters = a.turn.counters;
            channels = a.turn.channels;
            seats = set p.seats place (seat_of a.turn.sub);
          };
    })
    (put_at (sizes.place * place) w (place_words a.turn.sub)) h (changed (site_of p w h) place s lent)
unfolding taken_of
replied p w h place a s lent e n l q b =
    rw e (record { answer = refl; words = refl; left = left_settled p w h place s.turn n l q (rw e at b) })

pub returns : goal.returns
returns c =
    let seats : length c.args.p.seats ≡ sizes.live = search rules in
    λ s e h lent.
    let a = c.args in
    rw (c.seat_of-seat.ensures, c.put_part.ensures.1)
    (replied a.p a.live.now h a.place a.a s lent e seats c.requires.0 c.requires.1 c.put_part.ensures.0)
