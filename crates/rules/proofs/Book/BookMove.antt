-- The book after any moves: each tells what it did to the tables that the book is about.
use Prim.Native.Nat.{ℕ, ◌≤◌, ◌<◌}
use mathlib.Core.Path.{◌≡◌, refl, sym, ◌∙◌}
use mathlib.Core.Bool.{true≢false}
use mathlib.Core.List.{List, [], ◌∷◌, ◌++◌}
use native.Mathlib.Omega.{arith}
use lib.ListN.{length}
use Rattle.kinds.specs.declared.House.{House}
use Rattle.kinds.specs.Stage as stage
use Rattle.rules.specs.House.{coordinator_of}
use Rattle.rules.specs.Install.{entry_of}
use Rattle.rules.specs.Book as book
use Rattle.rules.specs.Book.{Fact}
use Rattle.rules.specs.Snapshots.{installs_in}
use Rattle.rules.proofs.Lists.Tables.{regroup}
use Rattle.rules.proofs.Protocol.ProtocolTables.{Protocol, inst}
use Rattle.rules.proofs.Protocol.Protocol.{AtStage, course_at, Move, begin, enlist, access, request, abort, cast, decide}
use Rattle.rules.proofs.Protocol.Protocol.{install, report, joins, full, joined, prepared, lost, unknown, gathers, certified}
use Rattle.rules.proofs.Protocol.Protocol.{rejects, votes}
use Rattle.rules.proofs.Protocol.Protocol.{commits, aborts, passes, fresh_protocol}
use Rattle.rules.proofs.Book.Told.{told, told_step, told_steps}
use Rattle.rules.proofs.Protocol.Invariants.{at, Held, Invariant}
use Rattle.rules.proofs.Protocol.Frames.{new_tx, new_join}
use Rattle.rules.proofs.Steps.StepParts.{inst_report, same}
use Rattle.rules.proofs.Stream.Stream as stream
use Rattle.rules.proofs.Stream.Stream.{Stream, Steps}
use Rattle.rules.proofs.Stream.StreamReached.{Standing, standing_steps}
use Rattle.rules.proofs.Book.BookLists.{none_is, before_second}
use Rattle.rules.proofs.Book.Booked.{PairAt, Booked}
use Rattle.rules.proofs.Book.BookKept.{booked_quiet}
use Rattle.rules.proofs.Book.BookBegins.{booked_began}
use Rattle.rules.proofs.Book.BookAccess.{tells, booked_accessed}
use Rattle.rules.proofs.Book.BookInstalls.{booked_decided, booked_installed}

module _ {house : House} {p : Protocol} {b : List Fact} (i : Invariant house p) (x : Booked house b p) where
  -- the pair that an install tells is the entry's
  installed : (q : Protocol) (s t : ℕ)
      → Booked house (b ++ (book.installed s (entry_of (p.live s t)).number (coordinator_of (entry_of (p.live s t)).tx) ∷ [])) q
      → AtStage p s t stage.decided → Booked house (b ++ (book.installed s (course_at p s t).number (coordinator_of t) ∷ [])) q
  unfolding entry_of
  installed q s t y a = rw (i.parts.tx s t (λ f. omega arith)) at y

  -- an entry with its pair would be its own, and it is held
  not_twice : (s t m : ℕ) → AtStage p s t stage.decided → m < length (inst p s)
      → PairAt p s m (course_at p s t).number (coordinator_of t) → ⊥
  not_twice s t m a h (e, f) =
      let (g, z, _, _) = i.account.entry s m h in
      let (_, n, _) = i.courses.decided s t a in
      let u = i.clocks.once (at p s m).tx t z (sym g ∙ e ∙ n) f in
      omega (arith, a, rw u at (i.parts.entry_gone s m h))

  new : (s t : ℕ) → AtStage p s t stage.decided → (m : ℕ) → m < length (inst p s)
      → PairAt p s m (entry_of (p.live s t)).number (coordinator_of (entry_of (p.live s t)).tx) → ⊥
  unfolding entry_of
  new s t a m h x = not_twice s t m a h (rw (i.parts.tx s t (λ f. omega arith)) at x)

  -- a coordinator that decides had not
  undecided : (s t : ℕ) → coordinator_of t ≡ s → AtStage p s t stage.queued → p.num t ≡ 0
  undecided s t c a = i.rounds.undecided t (rw c (λ f. omega arith)) (rw c (λ f. omega arith))

  step : (q : Protocol) (m : Move house p q) → Booked house (b ++ told m) q
  step q (begin s t d l m n e) =
      booked_began
      (record { none = new_tx house p s t i.parts n e s; has = refl; snap = refl; keys = refl; num = refl; parts = λ j. refl }) x
  step q (enlist s t r c a l m n o) = booked_quiet same x
  step q (access s t k fs a v w f m) =
      let h : Held p s t = λ z. omega arith in
      let e = i.parts.keys s t h in
      booked_accessed (record { begun = i.parts.has s t h; has = refl; snap = refl; keys = refl; num = refl; parts = λ j. refl }) x
      (tells (rw e at v)) (rw e at w)
  step q (request s t es c a l r v) = booked_quiet same x
  step q (abort s t c a d) = booked_quiet same x
  step q (cast s t es c a l w v) = booked_quiet same x
  step q (decide s t c a l) =
      booked_decided
      (record {
        undecided = undecided s t c a;
        positive = omega arith;
        has = refl;
        snap = refl;
        keys = refl;
        num = refl;
        parts = λ j. refl;
      }) x
  step q (install s t a l) =
      installed q s t
      (booked_installed
      (record { low = i.parts.low; new = new s t a; has = refl; snap = refl; keys = refl; num = refl; log = refl }) x) a
  step q (report s n a) = booked_quiet (refl, refl, refl, refl, inst_report p s n) x
  step q (joins a s t d n f) =
      booked_began
      (record { none = new_join house p a s t d i.posts n; has = refl; snap = refl; keys = refl; num = refl; parts = λ j. refl }) x
  step q (full a s t d r n z) = booked_quiet same x
  step q (joined a s t r n y o) = booked_quiet same x
  step q (prepared a s t n m es y z v) = booked_quiet same x
  step q (lost a s t n m r y z o) = booked_quiet same x
  step q (unknown a s t n m r y z o) = booked_quiet same x
  step q (gathers a s t es y z o) = booked_quiet same x
  step q (certified a s t es y z v) = booked_quiet same x
  step q (rejects a s t r es y z o) = booked_quiet same x
  step q (votes a s t n y z o) = booked_quiet same x
  step q (commits a s t n y z) = booked_quiet same x
  step q (aborts a s t y d) = booked_quiet same x
  step q (passes a s n m y) = booked_quiet same x

pub booked_move : {house : House} {p q : Protocol} {b : List Fact} → house.sites ≤ 8 → Invariant house p → (m : Move house p q)
    → Booked house b p
    → Booked house (b ++ told m) q
booked_move {q = q} h i m x = step i x q m

-- the merger and the copies leave the sites as they are
booked_step : {house : House} {v u : Stream} {b : List Fact} → house.sites ≤ 8 → Invariant house v.protocol
    → (s : stream.Step house v u)
    → Booked house b v.protocol
    → Booked house (b ++ told_step s) u.protocol
booked_step h i (stream.moves q m) x = booked_move h i m x
booked_step h i (stream.merges n m) x = booked_quiet same x
booked_step h i (stream.replays c l) x = booked_quiet same x

pub booked_steps : {house : House} {v u : Stream} {b : List Fact} → house.sites ≤ 8 → Standing house v → (ss : Steps house v u)
    → Booked house b v.protocol
    → Booked house (b ++ told_steps ss) u.protocol
booked_steps h z stream.stop x = booked_quiet same x
booked_steps {house} {u = u} {b = b} h z (stream.more ss s) x =
    regroup (λ l. Booked house l u.protocol) b (told_steps ss) (told_step s)
    (booked_step h (standing_steps h ss z).invariant s (booked_steps h z ss x))

-- an empty book of the fresh tables
pub booked_fresh : (house : House) → Booked house [] fresh_protocol
unfolding fresh_protocol installs_in
booked_fresh house =
    record {
      commits = record { commit = λ t n c x. absurd (none_is x); committed = λ t z. absurd (omega arith) };
      begins = record {
        began = λ s t x. absurd (none_is x);
        begun = λ s t x. absurd (true≢false (sym x));
        once = λ s t x. absurd (none_is (before_second x));
      };
      writes = record {
        wrote = λ t k v x. absurd (none_is x);
        last = λ s t k x. absurd (true≢false (sym x));
        used = λ t k x. absurd (none_is x);
      };
      installs = record {
        installed = λ s n c x. absurd (none_is x);
        installs = λ s j n c x. absurd (omega arith);
        once = λ s n c x. absurd (none_is (before_second x));
        many = λ s. refl;
      };
      sees = record { seen = λ s t n c x. absurd (none_is (before_second x)); before = λ s t j n c x. absurd (true≢false (sym x)) };
    }
