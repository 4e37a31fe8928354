-- The pair of a copy is that of its last replay in the book.
use Prim.Native.Nat.{ℕ}
use mathlib.Core.Path.{◌≡◌, refl, ◌∙◌}
use mathlib.Core.Bool.{Bool, true, false}
use mathlib.Core.Logic.{◌⊎◌, inl, inr, ⊎_elim}
use mathlib.Core.List.{List, [], ◌∷◌, ◌++◌, append_assoc, append-nil}
use native.Mathlib.Omega.{arith}
use lib.Dec.{eqb}
use lib.ListN.{length, get_or, set, length-set}
use lib.Seq.{get_or-set_same, get_or-set_other}
use Rattle.laws.specs.Choice.{pick, every, set_not}
use Rattle.kinds.specs.Sizes as sizes
use Rattle.kinds.specs.declared.House.{House}
use Rattle.kinds.specs.Word as word
use Rattle.kinds.specs.Kind as kind
use Rattle.kinds.specs.Reason as reason
use Rattle.kinds.specs.declared.Value.{Value}
use Rattle.kinds.specs.declared.Answer.{Answer}
use Rattle.kinds.specs.declared.Answer.TheVariants.{Refused, Done, Begun, Found, Searched, Committed, Aborted, Installed}
use Rattle.kinds.specs.declared.Answer.TheVariants.{Reported, Emitted, Replayed, Standing, Paged, Offset}
use Rattle.rules.specs.Answers.{on_begun, on_found, on_done, on_committed, on_installed, on_replayed, on_answer}
use Rattle.rules.specs.Record.{record_head, record_writes}
use Rattle.rules.specs.Message.{message_head}
use Rattle.rules.specs.Copy.{copy_number, copy_coordinator, replayed, replay_of, copy_start_of}
use Rattle.rules.specs.World.{World, Call, Member, here, there, step, site_step, log_step, merger_step, merge_step, copy_step, replay_step}
use Rattle.rules.specs.World.{run}
use Rattle.rules.specs.World.{fresh_world}
use Rattle.rules.specs.World as world
use Rattle.rules.specs.Book as book
use Rattle.rules.specs.Book.{Fact, facts_of, book_from}
use Rattle.rules.specs.Claim.{LastReplay, behind, none}
use Rattle.rules.proofs.Lists.Tables.{All, a_nil, a_cons, all_append, all_one, upd_cases, all_is, is_append}
use Rattle.rules.proofs.Refine.RefineLaid.{put_header}
use Rattle.rules.proofs.Refine.RefineReplay.{Replays, replay_cases}

-- What holds of the case, and of the rest, holds of an answer.
module _ {A : Type 0} (P : A → Type 0) {other : A} (o : P other) where
  on_answer_lem : {done : A} {begun committed : ℕ → A} {found : Value → A} {installed replayed : ℕ → ℕ → A}
      → P done → ((n : ℕ) → P (begun n)) → ((v : Value) → P (found v)) → ((n : ℕ) → P (committed n)) → ((n c : ℕ) → P (installed n c))
      → ((n c : ℕ) → P (replayed n c))
      → (a : Answer) → P (on_answer other done begun found committed installed replayed a)
  on_answer_lem d b f c i r (Refused n) = o
  on_answer_lem d b f c i r Done = d
  on_answer_lem d b f c i r (Begun n) = b n
  on_answer_lem d b f c i r (Found v) = f v
  on_answer_lem d b f c i r (Searched n m) = o
  on_answer_lem d b f c i r (Committed n) = c n
  on_answer_lem d b f c i r (Aborted n) = o
  on_answer_lem d b f c i r (Installed n m) = i n m
  on_answer_lem d b f c i r (Reported n) = o
  on_answer_lem d b f c i r (Emitted n m t) = o
  on_answer_lem d b f c i r (Replayed n m) = r n m
  on_answer_lem d b f c i r (Standing n m t) = o
  on_answer_lem d b f c i r (Paged n m) = o
  on_answer_lem d b f c i r (Offset n) = o

  pub on_done_lem : {f : A} → P f → (a : Answer) → P (on_done other f a)
  on_done_lem g = on_answer_lem g (λ n. o) (λ n. o) (λ n. o) (λ n c. o) (λ n c. o)

  pub on_begun_lem : {f : ℕ → A} → ((n : ℕ) → P (f n)) → (a : Answer) → P (on_begun other f a)
  on_begun_lem g = on_answer_lem o g (λ n. o) (λ n. o) (λ n c. o) (λ n c. o)

  pub on_found_lem : {f : Value → A} → ((v : Value) → P (f v)) → (a : Answer) → P (on_found other f a)
  on_found_lem g = on_answer_lem o (λ n. o) g (λ n. o) (λ n c. o) (λ n c. o)

  pub on_committed_lem : {f : ℕ → A} → ((n : ℕ) → P (f n)) → (a : Answer) → P (on_committed other f a)
  on_committed_lem g = on_answer_lem o (λ n. o) (λ n. o) g (λ n c. o) (λ n c. o)

  pub on_installed_lem : {f : ℕ → ℕ → A} → ((n c : ℕ) → P (f n c)) → (a : Answer) → P (on_installed other f a)
  on_installed_lem g = on_answer_lem o (λ n. o) (λ n. o) (λ n. o) g (λ n c. o)

  pub on_replayed_lem : {f : ℕ → ℕ → A} → ((n c : ℕ) → P (f n c)) → (a : Answer) → P (on_replayed other f a)
  on_replayed_lem g = on_answer_lem o (λ n. o) (λ n. o) (λ n. o) (λ n c. o) g

-- Facts that are no replay.
abbrev is_replayed : Fact → Bool
is_replayed (book.began s t) = false
is_replayed (book.used t k) = false
is_replayed (book.wrote t k v) = false
is_replayed (book.committed t n c) = false
is_replayed (book.installed s n c) = false
is_replayed (book.replayed y n c) = true

abbrev NoReplay : List Fact → Type 0
NoReplay = All (λ f. is_replayed f ≡ false)

none_replayed : {l : List Fact} → NoReplay l → (c m d : ℕ) → Member (book.replayed c m d) l → ⊥
none_replayed a c m d i = set_not true refl (all_is a i)

begins_none : (s : ℕ) (a : Answer) → NoReplay (book.begins s a)
begins_none s a = on_begun_lem NoReplay a_nil (λ n. all_one refl) a

began_none : (x : Bool) (s t : ℕ) → NoReplay (pick x (book.began s t ∷ []) [])
began_none true s t = all_one refl
began_none false s t = a_nil

joins_none : (s : ℕ) (m words : List ℕ) (a : Answer) → NoReplay (book.joins s m words a)
joins_none s m words a =
    on_done_lem NoReplay a_nil
    (began_none (every (eqb (message_head m).kind kind.join ∷ eqb (get_or words word.argument reason.full) 0 ∷ [])) s (message_head m).tx) a

uses_none : (t k : ℕ) (a : Answer) → NoReplay (book.uses t k a)
uses_none t k a = on_found_lem NoReplay a_nil (λ n. all_one refl) a

writes_none : (t k : ℕ) (v : Value) (a : Answer) → NoReplay (book.writes t k v a)
writes_none t k v a = on_done_lem NoReplay a_nil (a_cons refl (all_one refl)) a

installs_none : (s : ℕ) (a : Answer) → NoReplay (book.installs s a)
installs_none s a = on_installed_lem NoReplay a_nil (λ n c. all_one refl) a

commits_none : (t : ℕ) (a : Answer) → NoReplay (book.commits t a)
commits_none t a = on_committed_lem NoReplay a_nil (λ n. all_one refl) a

still_last : (c : ℕ) (b l : List Fact) (n d : ℕ) → ((m e : ℕ) → Member (book.replayed c m e) l → ⊥) → LastReplay c b n d
    → LastReplay c (b ++ l) n d
still_last c b l n d f (behind p q e g) =
    behind p (q ++ l) (rw e (append_assoc p (book.replayed c n d ∷ q) l)) (λ m r i. ⊎_elim (λ j. g m r j) (λ j. f m r j) (is_append q l i))
still_last c b l n d f (none g x y) = none (λ m r i. ⊎_elim (λ j. g m r j) (λ j. f m r j) (is_append b l i)) x y

-- The copy's pair after a replay.
number_after : (copy ws : List ℕ) → length copy ≡ sizes.copy
    → (copy_number (replayed copy ws) ≡ (record_head ws).number) × (copy_coordinator (replayed copy ws) ≡ (record_head ws).coordinator)
unfolding replayed
number_after copy ws e =
    let r = record_head ws in
    let a = set copy word.last_number r.number in
    let b = set a word.last_coordinator r.coordinator in
    let f = length-set copy word.last_number r.number in (
      put_header b (record_writes ws) r.count word.last_number (omega arith)
          ∙ get_or-set_other a word.last_coordinator word.last_number r.coordinator 0 (λ z. omega arith)
          ∙ get_or-set_same copy word.last_number r.number 0 (omega arith),
      put_header b (record_writes ws) r.count word.last_coordinator (omega arith)
          ∙ get_or-set_same a word.last_coordinator r.coordinator 0 (omega arith),
    )

-- every copy's pair is that of its last replay
abbrev pub LastReplays : List Fact → World → Type 0
LastReplays b w = (c : ℕ) → LastReplay c b (copy_number (w.copy c)) (copy_coordinator (w.copy c))

module _ (w : World) (b : List Fact) (h : LastReplays b w) where
  abbrev After : Call → Type 0
  After c = LastReplays (b ++ facts_of c (step w c).answer (step w c).words) (step w c).world

  quiet : (l : List Fact) → NoReplay l → LastReplays (b ++ l) w
  quiet l f c = still_last c b l _ _ (none_replayed f c) (h c)

  replays_copy : (c : ℕ) (ws : List ℕ) → After (world.replay c ws)
  unfolding step replay_step copy_step
  replays_copy c ws = go (replay_cases (w.copy c) ws)
    where
      go : ((n : ℕ) × (replay_of (w.copy c) ws ≡ record { answer = Refused n; copy = w.copy c })) ⊎ Replays (w.copy c) ws
          → After (world.replay c ws)
      go (inl (n, e)) =
          rw (e, append-nil)
          (upd_cases (λ j y. LastReplay j b (copy_number y) (copy_coordinator y)) w.copy c (w.copy c) (h c) (λ j x. h j))
      go (inr t) =
          let r = record_head ws in
          let (x, y) = number_after (w.copy c) ws t.size in
          let l = book.replayed c r.number r.coordinator ∷ [] in
          rw t.is
          (upd_cases (λ j z. LastReplay j (b ++ l) (copy_number z) (copy_coordinator z)) w.copy c (replayed (w.copy c) ws)
          (rw (x, y) (behind b [] refl (λ m d i. none_replayed a_nil c m d i)))
          (λ j n. still_last j b l _ _ (λ m d i. other j r.number r.coordinator m d n i) (h j)))
        where
          other : (j n d m e : ℕ) → (j ≡ c → ⊥) → Member (book.replayed j m e) (book.replayed c n d ∷ []) → ⊥
          other j n d m e f here = f refl
          other j n d m e f (there i) = none_replayed a_nil j m e i

  pub call_replays : (c : Call) → After c
  unfolding step site_step log_step merger_step merge_step
  call_replays (world.begin s d) = quiet _ (begins_none s (step w (world.begin s d)).answer)
  call_replays (world.enlist s out t n) = quiet [] a_nil
  call_replays (world.read s t k) = quiet _ (uses_none t k (step w (world.read s t k)).answer)
  call_replays (world.write s t k v) = quiet _ (writes_none t k v (step w (world.write s t k v)).answer)
  call_replays (world.search s p k) = quiet [] a_nil
  call_replays (world.commit s out t) = quiet _ (commits_none t (step w (world.commit s out t)).answer)
  call_replays (world.abandon s out t) = quiet [] a_nil
  call_replays (world.message s out m) =
      let c = world.message s out m in
      quiet _ (all_append (joins_none s m (step w c).words (step w c).answer) (commits_none (message_head m).tx (step w c).answer))
  call_replays (world.install s out) = quiet _ (installs_none s (step w (world.install s out)).answer)
  call_replays (world.report s out) = quiet [] a_nil
  call_replays (world.merge m) = quiet [] a_nil
  call_replays (world.emit out) = quiet [] a_nil
  call_replays (world.replay c ws) = replays_copy c ws
  call_replays (world.value c k) = quiet [] a_nil

pub run_replays : (calls : List Call) (w : World) (b : List Fact) → LastReplays b w → LastReplays (b ++ book_from w calls) (run w calls)
unfolding run book_from
run_replays [] w b h = rw append-nil h
run_replays (c ∷ calls) w b h =
    rw (← append_assoc b (facts_of c (step w c).answer (step w c).words) (book_from (step w c).world calls))
    (run_replays calls (step w c).world _ (call_replays w b h c))

-- from a fresh house: no copy has a pair, and the book is empty
replays_fresh : (house : House) → LastReplays [] (fresh_world house)
unfolding fresh_world copy_start_of
replays_fresh house c = none (λ m d i. none_replayed a_nil c m d i) refl refl

pub book_replays : (house : House) (calls : List Call) → LastReplays (book_from (fresh_world house) calls) (run (fresh_world house) calls)
book_replays house calls = run_replays calls (fresh_world house) [] (replays_fresh house)
