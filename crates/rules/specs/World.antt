-- Demand 3, the list: a house after any calls. Each call works on its site, merger or copy as the list left it, by the very
-- definitions that the public contracts cite.
use Rattle.std.specs.Prelude.{ℕ, zero, suc, ◌+◌, ◌≤◌, ◌<◌, ◌≡◌, ◌⊎◌, Bool, true, false, List, [], ◌∷◌, ◌++◌, length, get_or, take, drop, replicate, eqb, ltb}
use Rattle.laws.specs.Choice.{pick, every}
use Rattle.kinds.specs.Sizes as sizes
use Rattle.kinds.specs.declared.Value.{Value}
use Rattle.kinds.specs.declared.House.{House}
use Rattle.kinds.specs.declared.Site.{Site}
use Rattle.kinds.specs.declared.Merger.{Merger}
use Rattle.kinds.specs.declared.Answer.{Answer}
use Rattle.rules.specs.Record.{record_head}
use Rattle.rules.specs.Effect.{Effect}
use Rattle.rules.specs.Answers.{is_refused}
use Rattle.rules.specs.Begin.{begin_of}
use Rattle.rules.specs.Access.{read_of, write_of, search_of}
use Rattle.rules.specs.Enlist.{enlist_of}
use Rattle.rules.specs.Commit.{commit_of, abandon_of}
use Rattle.rules.specs.Deliver.{message_of}
use Rattle.rules.specs.Install.{install_of, report_of, start_code, start_of, start_table}
use Rattle.rules.specs.Merger.{Merging, merge_of, emit_of, merger_start_of}
use Rattle.rules.specs.Copy.{Copying, replay_of, value_of, copy_start_of}

-- the table f with a at i
unfoldable pub upd : {A : Type 0} → (ℕ → A) → ℕ → A → ℕ → A
upd f i a j = pick (eqb j i) a (f j)

-- A call with all that it is handed. `out` is the outgoing buffer, m the words of a message or a record, of any length and content.
pub data Call : Type 0 where
  begin : (s desk : ℕ) → Call
  enlist : (s : ℕ) (out : List ℕ) (tx site : ℕ) → Call
  read : (s tx key : ℕ) → Call
  write : (s tx key : ℕ) (value : Value) → Call
  search : (s snapshot key : ℕ) → Call
  commit : (s : ℕ) (out : List ℕ) (tx : ℕ) → Call
  abandon : (s : ℕ) (out : List ℕ) (tx : ℕ) → Call
  message : (s : ℕ) (out m : List ℕ) → Call
  install : (s : ℕ) (out : List ℕ) → Call
  report : (s : ℕ) (out : List ℕ) → Call
  merge : (m : List ℕ) → Call
  emit : (out : List ℕ) → Call
  replay : (copy : ℕ) (m : List ℕ) → Call
  value : (copy key : ℕ) → Call

-- The states, and every message and record written so far, oldest first; `merged s` records of site s's log were taken by the
-- merger, and `replayed c` of the stream by copy c.
pub record World : Type 0 where
  pub site : ℕ → Site
  pub base : ℕ → List ℕ
  pub lists : ℕ → List ℕ
  pub merger : Merger
  pub queues : List ℕ
  pub copy : ℕ → List ℕ
  pub sent : List (List ℕ)
  pub log : ℕ → List (List ℕ)
  pub stream : List (List ℕ)
  pub merged : ℕ → ℕ
  pub replayed : ℕ → ℕ

-- the first keys of a house: what its start calls are handed
abbrev pub firsts_of : House → List ℕ
firsts_of o = take o.sites o.firsts

-- a fresh house, as the start calls leave it, all handed one table; a site that it lacks refuses every call
unfoldable pub fresh_world : House → World
fresh_world o =
    record {
      site = λ s. (start_of o.sites (firsts_of o) s sizes.base sizes.lists).site;
      base = λ s. start_table (start_code o.sites (firsts_of o) s sizes.base sizes.lists) (replicate sizes.base 0);
      lists = λ s. start_table (start_code o.sites (firsts_of o) s sizes.base sizes.lists) (replicate sizes.lists 0);
      merger = (merger_start_of o.sites (firsts_of o) (replicate sizes.queues 0)).merger;
      queues = (merger_start_of o.sites (firsts_of o) (replicate sizes.queues 0)).queues;
      copy = λ c. (copy_start_of (replicate sizes.copy 0)).copy;
      sent = [];
      log = λ s. [];
      stream = [];
      merged = λ s. 0;
      replayed = λ c. 0;
    }

-- the world after a call, its answer, and the words that it wrote
pub record Result : Type 0 where
  pub world : World
  pub answer : Answer
  pub words : List ℕ

-- the messages in words written behind one another: each begins with its length
unfoldable pub split_words : ℕ → List ℕ → List (List ℕ)
split_words zero ws = []
split_words (suc f) [] = []
split_words (suc f) (n ∷ ws) = take n (n ∷ ws) ∷ split_words f (drop n (n ∷ ws))

unfoldable pub messages_in : List ℕ → List (List ℕ)
messages_in ws = split_words (length ws) ws

-- a call of site s that changes the site, and sends what it wrote
unfoldable pub site_step : World → ℕ → Effect → List ℕ → List ℕ → Result
site_step w s e base lists =
    record {
      world =
          record {
            site = upd w.site s e.site;
            base = upd w.base s base;
            lists = upd w.lists s lists;
            merger = w.merger;
            queues = w.queues;
            copy = w.copy;
            sent = w.sent ++ messages_in e.words;
            log = w.log;
            stream = w.stream;
            merged = w.merged;
            replayed = w.replayed;
          };
      answer = e.answer;
      words = e.words;
    }

-- a record written: none where nothing was
abbrev pub record_in : List ℕ → List (List ℕ)
record_in [] = []
record_in (n ∷ ws) = (n ∷ ws) ∷ []

-- a call of site s that writes its log
unfoldable pub log_step : World → ℕ → Effect → List ℕ → Result
log_step w s e base =
    record {
      world =
          record {
            site = upd w.site s e.site;
            base = upd w.base s base;
            lists = w.lists;
            merger = w.merger;
            queues = w.queues;
            copy = w.copy;
            sent = w.sent;
            log = upd w.log s (w.log s ++ record_in e.words);
            stream = w.stream;
            merged = w.merged;
            replayed = w.replayed;
          };
      answer = e.answer;
      words = e.words;
    }

-- word for word
abbrev pub same_words : List ℕ → List ℕ → Bool
same_words [] [] = true
same_words [] (y ∷ ys) = false
same_words (x ∷ xs) [] = false
same_words (x ∷ xs) (y ∷ ys) = pick (eqb x y) (same_words xs ys) false

-- The number of records taken after m is handed in: one more if m was accepted and is the next record, else unchanged.
unfoldable pub step_taken : Answer → List (List ℕ) → ℕ → List ℕ → ℕ
step_taken a records n m = pick (is_refused a) n (pick (every (ltb n (length records) ∷ same_words (get_or records n []) m ∷ [])) (n + 1) n)

-- a call of the merger, which writes the stream
unfoldable pub merger_step : World → Merging → (ℕ → ℕ) → Result
merger_step w e merged =
    record {
      world =
          record {
            site = w.site;
            base = w.base;
            lists = w.lists;
            merger = e.merger;
            queues = e.queues;
            copy = w.copy;
            sent = w.sent;
            log = w.log;
            stream = w.stream ++ record_in e.words;
            merged = merged;
            replayed = w.replayed;
          };
      answer = e.answer;
      words = e.words;
    }

-- a call of copy c, of which n merged records were taken then
unfoldable pub copy_step : World → ℕ → Copying → ℕ → Result
copy_step w c e n =
    record {
      world =
          record {
            site = w.site;
            base = w.base;
            lists = w.lists;
            merger = w.merger;
            queues = w.queues;
            copy = upd w.copy c e.copy;
            sent = w.sent;
            log = w.log;
            stream = w.stream;
            merged = w.merged;
            replayed = upd w.replayed c n;
          };
      answer = e.answer;
      words = [];
    }

-- every record of a log names its site, so the count is that of the log it came from
unfoldable pub merge_step : World → List ℕ → Merging → Result
merge_step w m e =
    let s = (record_head m).site in
    merger_step w e (upd w.merged s (step_taken e.answer (w.log s) (w.merged s) m))

unfoldable pub replay_step : World → ℕ → List ℕ → Copying → Result
replay_step w c m e = copy_step w c e (step_taken e.answer w.stream (w.replayed c) m)

-- a call, by its own definition, on the state that the list left
unfoldable pub step : World → Call → Result
step w (begin s d) = site_step w s (begin_of (w.site s) d) (w.base s) (w.lists s)
step w (enlist s out tx site) = site_step w s (enlist_of (w.site s) (length out) tx site) (w.base s) (w.lists s)
step w (read s tx key) = site_step w s (read_of (w.site s) (w.base s) tx key) (w.base s) (w.lists s)
step w (write s tx key v) = site_step w s (write_of (w.site s) tx key v) (w.base s) (w.lists s)
step w (search s p key) = record { world = w; answer = search_of (w.site s) (w.base s) (record { installs = p }) key; words = [] }
step w (commit s out tx) = let e = commit_of (w.site s) (length out) (w.lists s) tx in site_step w s e (w.base s) e.lent
step w (abandon s out tx) = site_step w s (abandon_of (w.site s) (length out) tx) (w.base s) (w.lists s)
step w (message s out m) = let e = message_of (w.site s) (length out) (w.lists s) m in site_step w s e (w.base s) e.lent
step w (install s out) = let e = install_of (w.site s) (length out) (w.base s) in log_step w s e e.lent
step w (report s out) = log_step w s (report_of (w.site s) (length out)) (w.base s)
step w (merge m) = merge_step w m (merge_of w.merger w.queues m)
step w (emit out) = merger_step w (emit_of w.merger (length out) w.queues) w.merged
step w (replay c m) = replay_step w c m (replay_of (w.copy c) m)
step w (value c key) = record { world = w; answer = value_of (w.copy c) key; words = [] }

-- a stands in a list
pub data Member {A : Type 0} (a : A) : List A → Type 0 where
  here : {l : List A} → Member a (a ∷ l)
  there : {b : A} {l : List A} → Member a l → Member a (b ∷ l)

-- What may be handed in: words that an earlier call wrote. A log's record reaches the merger, and a merged one a copy, only after
-- all before it were taken there; one taken before may come again.
abbrev pub Reached : List (List ℕ) → ℕ → List ℕ → Type 0
Reached records taken m = (i : ℕ) × (i ≤ taken) × (i < length records) × (get_or records i [] ≡ m)

abbrev pub Logged : World → List ℕ → Type 0
Logged w m = (s : ℕ) × Member m (w.log s)

abbrev pub Handed : World → Call → Type 0
Handed w (message s out m) = Member m w.sent ⊎ (Logged w m ⊎ Member m w.stream)
Handed w (merge m) = Member m w.sent ⊎ (((s : ℕ) × Reached (w.log s) (w.merged s) m) ⊎ Member m w.stream)
Handed w (replay c m) = Member m w.sent ⊎ (Logged w m ⊎ Reached w.stream (w.replayed c) m)
Handed w (begin s d) = Unit {0}
Handed w (enlist s out tx site) = Unit {0}
Handed w (read s tx key) = Unit {0}
Handed w (write s tx key v) = Unit {0}
Handed w (search s p key) = Unit {0}
Handed w (commit s out tx) = Unit {0}
Handed w (abandon s out tx) = Unit {0}
Handed w (install s out) = Unit {0}
Handed w (report s out) = Unit {0}
Handed w (emit out) = Unit {0}
Handed w (value c key) = Unit {0}

-- A list in which every message and record handed in was written by an earlier call, with logs and stream delivered without gaps.
abbrev pub Lawful : World → List Call → Type 0
Lawful w [] = Unit {0}
Lawful w (c ∷ cs) = Handed w c × Lawful (step w c).world cs

-- the world after a list of calls
unfoldable pub run : World → List Call → World
run w [] = w
run w (c ∷ cs) = run (step w c).world cs
