-- One induction over the list: after any calls the machine stands, the book has its tables, and whatever more each call keeps holds.
use Prim.Native.Nat.{ℕ, ◌≤◌}
use mathlib.Core.Path.{◌≡◌}
use mathlib.Core.List.{List, [], ◌∷◌, ◌++◌, append-nil}
use Rattle.kinds.specs.declared.House.{House}
use Rattle.kinds.specs.declared.Answer.{Answer}
use Rattle.rules.specs.House.{GoodHouse}
use Rattle.rules.specs.World.{World, Call, Handed, Lawful, step, run, fresh_world}
use Rattle.rules.specs.World as world
use Rattle.rules.specs.Book.{Fact, facts_of, book_from}
use Rattle.rules.proofs.Lists.Tables.{regroup}
use Rattle.rules.proofs.Protocol.ProtocolTables.{Protocol}
use Rattle.rules.proofs.Stream.Stream.{Stream, Steps, fresh_stream}
use Rattle.rules.proofs.Stream.StreamReached.{Standing, standing_steps, standing_fresh}
use Rattle.rules.proofs.Book.Told.{told_steps}
use Rattle.rules.proofs.Refine.RefineStep.{told_by}
use Rattle.rules.proofs.Refine.RefineMerger.{StreamIs}
use Rattle.rules.proofs.Refine.RefineCopies.{stream_fresh}
use Rattle.rules.proofs.Refine.RefineCalls.{call_onward}
use Rattle.rules.proofs.Book.Booked.{Booked}
use Rattle.rules.proofs.Book.BookKept.{booked_replayed}
use Rattle.rules.proofs.Book.BookMove.{booked_steps, booked_fresh}
use Rattle.rules.proofs.Book.BookReplays.{on_replayed_lem}

-- a replay tells the book, and nothing of the sites
told_facts : {house : House} {p : Protocol} (b : List Fact) (c : Call) (a : Answer) (ws : List ℕ) → Booked house (b ++ told_by c a ws) p
    → Booked house (b ++ facts_of c a ws) p
told_facts b (world.begin s d) a ws x = x
told_facts b (world.enlist s out t n) a ws x = x
told_facts b (world.read s t k) a ws x = x
told_facts b (world.write s t k v) a ws x = x
told_facts b (world.search s p k) a ws x = x
told_facts b (world.commit s out t) a ws x = x
told_facts b (world.abandon s out t) a ws x = x
told_facts b (world.message s out m) a ws x = x
told_facts b (world.install s out) a ws x = x
told_facts b (world.report s out) a ws x = x
told_facts b (world.merge m) a ws x = x
told_facts b (world.emit out) a ws x = x
told_facts {house} {p} b (world.replay c m) a ws x =
    on_replayed_lem (λ l. Booked house (b ++ l) p) x (λ n d. booked_replayed (rw append-nil at x) c n d) a
told_facts b (world.value c k) a ws x = x

-- The machine of a house after some calls, the book, and what more is said of both.
pub record Stands (More : World → Stream → Type 0) (house : House) (w : World) (b : List Fact) : Type 0 where
  pub stream : Stream
  pub standing : Standing house stream
  pub is : StreamIs house w stream
  pub booked : Booked house b stream.protocol
  pub more : More w stream

-- a call keeps it
abbrev pub Keeps : (World → Stream → Type 0) → House → Type 0
Keeps More house =
    (w : World) (v u : Stream) (c : Call) → Handed w c → StreamIs house w v → Standing house v
    → (ss : Steps house v u) → told_steps ss ≡ told_by c (step w c).answer (step w c).words → StreamIs house (step w c).world u
    → More w v → More (step w c).world u

module _ (More : World → Stream → Type 0) {house : House} (few : house.sites ≤ 8) (keeps : Keeps More house) where
  pub call_stands : (c : Call) {w : World} {b : List Fact} → Handed w c → Stands More house w b
      → Stands More house (step w c).world (b ++ facts_of c (step w c).answer (step w c).words)
  call_stands c {w} {b} h x =
      let (u, ss, e, i) = call_onward x.is x.standing c h in
      record {
        stream = u;
        standing = standing_steps few ss x.standing;
        is = i;
        booked = told_facts b c (step w c).answer (step w c).words (rw e at (booked_steps few x.standing ss x.booked));
        more = keeps w x.stream u c h x.is x.standing ss e i x.more;
      }

  pub run_stands : (calls : List Call) (w : World) (b : List Fact) → Lawful w calls → Stands More house w b
      → Stands More house (run w calls) (b ++ book_from w calls)
  unfolding run book_from
  run_stands [] w b h x = rw append-nil x
  run_stands (c ∷ calls) w b (h, hs) x =
      regroup (Stands More house (run (step w c).world calls)) b (facts_of c (step w c).answer (step w c).words)
      (book_from (step w c).world calls)
      (run_stands calls (step w c).world (b ++ facts_of c (step w c).answer (step w c).words) hs (call_stands c h x))

  pub list_stands : GoodHouse house → More (fresh_world house) fresh_stream → (calls : List Call) → Lawful (fresh_world house) calls
      → Stands More house (run (fresh_world house) calls) (book_from (fresh_world house) calls)
  unfolding fresh_stream
  list_stands good m calls lawful =
      run_stands calls (fresh_world house) [] lawful
      (record {
        stream = fresh_stream;
        standing = standing_fresh house;
        is = stream_fresh house good;
        booked = booked_fresh house;
        more = m;
      })
