-- What a move does not tell, it does not do: where no read or write is told, the keys of the parts stay, and where no install is told, the
-- installs stay. So each key of a part stands once among its writes, but for reads and writes, which see to it themselves.
use Prim.Native.Nat.{ℕ, ◌≤◌, ◌<◌}
use mathlib.Core.Path.{◌≡◌, refl, ◌∙◌}
use mathlib.Core.Bool.{true}
use mathlib.Core.Logic.{◌⊎◌, inl, inr}
use mathlib.Core.List.{List}
use native.Mathlib.Omega.{arith}
use lib.ListN.{length}
use Rattle.kinds.specs.declared.House.{House}
use Rattle.kinds.specs.declared.Keys.{Keys}
use Rattle.kinds.specs.declared.Sub.{Sub}
use Rattle.kinds.specs.State.{no_keys}
use Rattle.rules.specs.Install.{entry_of}
use Rattle.rules.specs.World.{Member, here}
use Rattle.rules.specs.Book.{Fact}
use Rattle.rules.proofs.Lists.Tables.{upd₂, upd₂_cases}
use Rattle.rules.proofs.Protocol.ProtocolTables.{Protocol, inst}
use Rattle.rules.proofs.Protocol.Protocol.{Move, Accessed, reads, writes, begin, enlist, access, request, abort, cast, decide}
use Rattle.rules.proofs.Protocol.Protocol.{install, report, joins, full, joined, prepared, lost, unknown, gathers, certified}
use Rattle.rules.proofs.Protocol.Protocol.{rejects, votes}
use Rattle.rules.proofs.Protocol.Protocol.{commits, aborts, passes, fresh_protocol}
use Rattle.rules.proofs.Book.Told.{told, told_step, told_steps}
use Rattle.rules.proofs.Protocol.Invariants.{Held, at, Invariant}
use Rattle.rules.proofs.Protocol.Frames.{new_tx, new_join}
use Rattle.rules.proofs.Steps.StepParts.{inst_report}
use Rattle.rules.proofs.Protocol.Turns.{Turn, t_stays, t_moves, t_reads, t_aborts, t_installs, t_begins}
use Rattle.rules.proofs.Protocol.Changes.{Change, change, InstalledNow, stands, stood}
use Rattle.rules.proofs.Stream.Stream as stream
use Rattle.rules.proofs.Stream.Stream.{Stream, Step, Steps}
use Rattle.rules.proofs.Stream.StreamReached.{Standing, standing_steps}
use Rattle.rules.proofs.Book.BookLists.{is_kept, is_behind, fact_kind}
use Rattle.rules.proofs.Reading.KeysOnce.{EachOnce, once_none}

-- no fact of this kind is told: none of reads and writes, none of installs
abbrev pub Without : ℕ → List Fact → Type 0
Without k l = (f : Fact) → Member f l → fact_kind f ≡ k → ⊥

abbrev pub NoAccess : List Fact → Type 0
NoAccess l = Without 1 l

abbrev pub NoInstall : List Fact → Type 0
NoInstall l = Without 3 l

record Leaves (p q : Protocol) (fs : List Fact) : Type 0 where
  keys : NoAccess fs → (s t : ℕ) → p.has s t ≡ true → q.keys s t ≡ p.keys s t
  installs : NoInstall fs → (s : ℕ) → inst q s ≡ inst p s

-- a read or a write is told
access_told : {house : House} {s t : ℕ} {a b : Keys} {fs : List Fact} → Accessed house s t a b fs → NoAccess fs → ⊥
access_told (reads k h u r w) n = n _ here refl
access_told (writes k v h w e r o) n = n _ here refl

-- keys of a part where none was
new_keys : (p : Protocol) (s t : ℕ) (b : Keys) → (p.has s t ≡ true → ⊥) → (j u : ℕ) → p.has j u ≡ true
    → upd₂ p.keys s t b j u ≡ p.keys j u
new_keys p s t b n = upd₂_cases (λ j u c. p.has j u ≡ true → c ≡ p.keys j u) p.keys s t b (λ h. absurd (n h)) (λ j u o h. refl)

module _ {house : House} {p : Protocol} (i : Invariant house p) where
  still : {fs : List Fact} (q : Protocol) → q.keys ≡ p.keys → ((s : ℕ) → inst q s ≡ inst p s) → Leaves p q fs
  still q e f = record { keys = λ n s t h. rw e; installs = λ n. f }

  leaves : (q : Protocol) (m : Move house p q) → Leaves p q (told m)
  leaves q (begin s t d l m n e) =
      record { keys = λ x. new_keys p s t no_keys (new_tx house p s t i.parts n e s); installs = λ x j. refl }
  leaves q (enlist s t r c a l m n o) = still q refl (λ j. refl)
  leaves q (access s t b fs a v w f m) = record { keys = λ x. absurd (access_told v x); installs = λ x j. refl }
  leaves q (request s t es c a l r v) = still q refl (λ j. refl)
  leaves q (abort s t c a d) = still q refl (λ j. refl)
  leaves q (cast s t es c a l w v) = still q refl (λ j. refl)
  leaves q (decide s t c a l) = still q refl (λ j. refl)
  leaves q (install s t a l) = record { keys = λ x j u h. refl; installs = λ x. absurd (x _ here refl) }
  leaves q (report s n a) = record { keys = λ x j u h. refl; installs = λ x. inst_report p s n }
  leaves q (joins a s t d n f) =
      record { keys = λ x. new_keys p s t no_keys (new_join house p a s t d i.posts n); installs = λ x j. refl }
  leaves q (full a s t d r n z) = still q refl (λ j. refl)
  leaves q (joined a s t r n y o) = still q refl (λ j. refl)
  leaves q (prepared a s t n m es y z v) = still q refl (λ j. refl)
  leaves q (lost a s t n m r y z o) = still q refl (λ j. refl)
  leaves q (unknown a s t n m r y z o) = still q refl (λ j. refl)
  leaves q (gathers a s t es y z o) = still q refl (λ j. refl)
  leaves q (certified a s t es y z v) = still q refl (λ j. refl)
  leaves q (rejects a s t r es y z o) = still q refl (λ j. refl)
  leaves q (votes a s t n y z o) = still q refl (λ j. refl)
  leaves q (commits a s t n y z) = still q refl (λ j. refl)
  leaves q (aborts a s t y d) = still q refl (λ j. refl)
  leaves q (passes a s n m y) = still q refl (λ j. refl)

-- Each key stands once among the writes of every part that is held or installed.
pub record WritesOnce (p : Protocol) : Type 0 where
  pub held : (s t : ℕ) → Held p s t → EachOnce (p.keys s t)
  pub entry : (s j : ℕ) → j < length (inst p s) → EachOnce (at p s j).keys

pub writes_fresh : WritesOnce fresh_protocol
unfolding fresh_protocol
writes_fresh = record { held = λ s t h. once_none; entry = λ s j h. absurd (omega arith) }

-- an entry has its part's keys
entry_keys : (b : Sub) → (entry_of b).keys ≡ b.keys
unfolding entry_of
entry_keys b = refl

module _ {house : House} {p q : Protocol} (few : house.sites ≤ 8) (i : Invariant house p) (m : Move house p q) (n : NoAccess (told m))
    (o : WritesOnce p) where
  c : Change house p q
  c = change house p q few m i

  stays : (s t : ℕ) → Held p s t → EachOnce (q.keys s t)
  stays s t h = rw ((leaves i q m).keys n s t (i.parts.has s t h)) (o.held s t h)

  held_once : (s t : ℕ) → Held q s t → EachOnce (q.keys s t)
  held_once s t h = go (c.turns s t)
    where
      go : Turn p q s t (q.live s t) → EachOnce (q.keys s t)
      go (t_stays e a b) = stays s t (λ f. h (a ∙ f))
      go (t_moves e a b d f g) = stays s t a
      go (t_reads e a b d f g) = stays s t (λ z. omega arith)
      go (t_aborts e a b d) = absurd (h b)
      go (t_installs e a b d) = absurd (h b)
      go (t_begins a b d e) = rw e once_none

  entry_once : (s j : ℕ) → j < length (inst q s) → EachOnce (at q s j).keys
  entry_once s j l = go (stood i c s j l)
    where
      go : (j < length (inst p s)) ⊎ InstalledNow p s j (at q s j) → EachOnce (at q s j).keys
      go (inl k) = rw (stands i c s j k).1 (o.entry s j k)
      go (inr (t, d, f, k, e)) =
          let h : Held p s t = λ z. omega arith in
          rw (e, entry_keys, i.parts.keys s t h) (o.held s t h)

  writes_move : WritesOnce q
  writes_move = record { held = held_once; entry = entry_once }

-- Over some steps.
writes_step : {house : House} {v u : Stream} → house.sites ≤ 8 → Invariant house v.protocol → (s : Step house v u)
    → NoAccess (told_step s)
    → WritesOnce v.protocol → WritesOnce u.protocol
writes_step few i (stream.moves q m) n o = writes_move few i m n o
writes_step few i (stream.merges g m) n o = o
writes_step few i (stream.replays c l) n o = o

pub writes_steps : {house : House} {v u : Stream} → house.sites ≤ 8 → Standing house v → (ss : Steps house v u) → NoAccess (told_steps ss)
    → WritesOnce v.protocol → WritesOnce u.protocol
writes_steps few z stream.stop n o = o
writes_steps few z (stream.more ss s) n o =
    writes_step few (standing_steps few ss z).invariant s (λ f h. n f (is_behind (told_steps ss) h))
    (writes_steps few z ss (λ f h. n f (is_kept (told_step s) h)) o)

installs_step : {house : House} {v u : Stream} → Invariant house v.protocol → (s : Step house v u) → NoInstall (told_step s)
    → (j : ℕ) → inst u.protocol j ≡ inst v.protocol j
installs_step i (stream.moves q m) n j = (leaves i q m).installs n j
installs_step i (stream.merges g m) n j = refl
installs_step i (stream.replays c l) n j = refl

pub installs_steps : {house : House} {v u : Stream} → house.sites ≤ 8 → Standing house v → (ss : Steps house v u)
    → NoInstall (told_steps ss)
    → (j : ℕ) → inst u.protocol j ≡ inst v.protocol j
installs_steps few z stream.stop n j = refl
installs_steps few z (stream.more ss s) n j =
    installs_step (standing_steps few ss z).invariant s (λ f h. n f (is_behind (told_steps ss) h)) j
    ∙ installs_steps few z ss (λ f h. n f (is_kept (told_step s) h)) j

-- what was installed stays, whatever is told
abbrev pub Stays : Stream → Stream → Type 0
Stays v u = (s j : ℕ) → j < length (inst v.protocol s)
    → (j < length (inst u.protocol s)) × (at u.protocol s j ≡ at v.protocol s j)

stays_step : {house : House} {v u : Stream} → house.sites ≤ 8 → Invariant house v.protocol → Step house v u → Stays v u
stays_step {house} {v} few i (stream.moves q m) s j h = stands i (change house v.protocol q few m i) s j h
stays_step few i (stream.merges g m) s j h = (h, refl)
stays_step few i (stream.replays c l) s j h = (h, refl)

pub stays_steps : {house : House} {v u : Stream} → house.sites ≤ 8 → Standing house v → Steps house v u → Stays v u
stays_steps few z stream.stop s j h = (h, refl)
stays_steps few z (stream.more ss x) s j h =
    let (l, e) = stays_steps few z ss s j h in
    let (k, f) = stays_step few (standing_steps few ss z).invariant x s j l in
    (k, f ∙ e)
