-- Why a copy in bytes that is handed what a copy of a list is handed holds that copy: call by call.
use Prim.Native.Nat.{ℕ, ◌*◌, ◌^◌}
use mathlib.Core.Path.{◌≡◌, refl, sym, ap, ◌∙◌}
use mathlib.Core.List.{List, [], ◌∷◌}
use borrow.Author.Tests.{eq-eqb, eqb-true}
use lib.Dec.{eqb}
use lib.ListN.{length, set, replicate, length-set, length-replicate}
use Rattle.laws.specs.Choice.{by_test}
use Rattle.laws.specs.Bytes.{words_of, Below, Hold}
use Rattle.laws.specs.ByteLaws.{length_bytes, bytes_below}
use Rattle.kinds.specs.Sizes as sizes
use Rattle.kinds.specs.Word as word
use Rattle.kinds.specs.declared.House.{House}
use Rattle.rules.specs.Record.{record_head, record_writes}
use Rattle.rules.specs.Copy.{copy_start_of, replay_code, replayed, replay_of, value_of}
use Rattle.rules.specs.Reader.{copy_bytes, reader_start_of}
use Rattle.rules.specs.ReaderLaws.{words_copy}
use Rattle.rules.specs.World as world
use Rattle.rules.specs.World.{World, Call, here, there, fresh_world, run, step, site_step, log_step, merger_step, merge_step, copy_step}
use Rattle.rules.specs.World.{replay_step, upd}
use Rattle.rules.specs.Readers.{reader_step, reader_after, WordsHanded, ReadersFollow}
use Rattle.rules.proofs.Refine.RefineLaid.{length_put}
use Rattle.rules.proofs.Readers.ReadersRight.{readers_right}

-- replay keeps the length of a copy
length_replay : (copy m : List ℕ) → length (replay_of copy m).copy ≡ length copy
unfolding replay_of replayed
length_replay copy m =
    let r = record_head m in
    let pair = set (set copy word.last_number r.number) word.last_coordinator r.coordinator in
    by_test (eqb (replay_code copy m) 0)
    (λ t. rw t (length_put pair (record_writes m) r.count ∙ simp length-set))
    (λ t. rw t refl)

-- What stays: b is as long as a copy, and holds copy c.
record Keeps (w : World) (c : ℕ) (b : List ℕ) : Type 0 where
  size : length b ≡ copy_bytes
  low : Below 256 b
  holds : Hold b (w.copy c)

-- a call that hands copy c nothing leaves it
keeps_other : (w v : World) (c : ℕ) (b : List ℕ) → v.copy c ≡ w.copy c → Keeps w c b → Keeps v c b
keeps_other w v c b e k = record { size = k.size; low = k.low; holds = rw e k.holds }

-- bytes that hold a copy's words are a copy
keeps_words : (w : World) (c : ℕ) (b ws : List ℕ) → length ws ≡ sizes.copy → w.copy c ≡ ws → Hold b ws → Keeps w c b
keeps_words w c b ws n e h =
    record {
      size = ap length h.bytes ∙ length_bytes ws ∙ ap (λ (k : ℕ). 8 * k) n;
      low = rw h.bytes (bytes_below ws);
      holds = rw e h;
    }

keeps_replay : (w : World) (c : ℕ) (b : List ℕ) (d : ℕ) (m : List ℕ) → Below (2 ^ 64) m → Keeps w c b
    → Keeps (step w (world.replay d m)).world c (reader_step c b (world.replay d m))
unfolding step replay_step copy_step upd
keeps_replay w c b d m h k =
    by_test (eqb c d)
    (λ t. let words : words_of b ≡ w.copy d = k.holds.words ∙ ap w.copy (eqb-true c d t) in
    let r = (readers_right.replay b m k.low h k.size).holds in
    let ws = (replay_of (w.copy d) m).copy in
    let n : length ws ≡ sizes.copy = length_replay (w.copy d) m ∙ ap length (sym words) ∙ words_copy b k.size in
    rw t (keeps_words _ c _ ws n (rw t) (rw words at r)))
    (λ t. rw t (keeps_other w _ c b (rw t) k))

keeps_step : (w : World) (c : ℕ) (b : List ℕ) (x : Call) (cs : List Call) → WordsHanded (x ∷ cs) → Keeps w c b
    → Keeps (step w x).world c (reader_step c b x)
unfolding step site_step log_step merger_step merge_step
keeps_step w c b (world.begin s d) cs h k = keeps_other w _ c b refl k
keeps_step w c b (world.enlist s out tx site) cs h k = keeps_other w _ c b refl k
keeps_step w c b (world.read s tx key) cs h k = keeps_other w _ c b refl k
keeps_step w c b (world.write s tx key v) cs h k = keeps_other w _ c b refl k
keeps_step w c b (world.search s p key) cs h k = keeps_other w _ c b refl k
keeps_step w c b (world.commit s out tx) cs h k = keeps_other w _ c b refl k
keeps_step w c b (world.abandon s out tx) cs h k = keeps_other w _ c b refl k
keeps_step w c b (world.message s out m) cs h k = keeps_other w _ c b refl k
keeps_step w c b (world.install s out) cs h k = keeps_other w _ c b refl k
keeps_step w c b (world.report s out) cs h k = keeps_other w _ c b refl k
keeps_step w c b (world.merge m) cs h k = keeps_other w _ c b refl k
keeps_step w c b (world.emit out) cs h k = keeps_other w _ c b refl k
keeps_step w c b (world.replay d m) cs h k = keeps_replay w c b d m (h d m here) k
keeps_step w c b (world.value d key) cs h k = keeps_other w _ c b refl k

keeps_run : (w : World) (c : ℕ) (b : List ℕ) (cs : List Call) → WordsHanded cs → Keeps w c b → Keeps (run w cs) c (reader_after c b cs)
unfolding run reader_after
keeps_run w c b [] h k = k
keeps_run w c b (x ∷ cs) h k =
    keeps_run (step w x).world c (reader_step c b x) cs (λ d m i. h d m (there i)) (keeps_step w c b x cs h k)

keeps_start : (o : House) (c : ℕ) (b : List ℕ) → length b ≡ copy_bytes → Keeps (fresh_world o) c (reader_start_of b).bytes
unfolding fresh_world copy_start_of
keeps_start o c b e =
    let n = length (words_of b) in
    let long = words_copy b e in
    let h = (readers_right.start b e).holds in
    let zeros : (copy_start_of (words_of b)).copy ≡ replicate sizes.copy 0 = rw (eq-eqb n sizes.copy long) (rw long refl) in
    keeps_words (fresh_world o) c _ (replicate sizes.copy 0) (length-replicate {A = ℕ} sizes.copy 0) refl (rw zeros at h)

pub readers_follow : ReadersFollow
unfolding ReadersFollow step
readers_follow o cs c b e h =
    let k = keeps_run (fresh_world o) c (reader_start_of b).bytes cs h (keeps_start o c b e) in
    record {
      holds = k.holds;
      reads = λ key out room. readers_right.value _ key out k.size room ∙ ap (λ (l : List ℕ). value_of l key) k.holds.words;
    }
