-- Read and write, as moves.
use Prim.Native.Nat.{ℕ, ◌+◌, ◌-◌, ◌≤◌, ◌<◌}
use mathlib.Core.Path.{◌≡◌, refl, sym, ap, ◌∙◌}
use mathlib.Core.Bool.{true, false, not}
use mathlib.Core.Logic.{inl, inr, ⊎_elim}
use mathlib.Core.List.{List, [], ◌∷◌}
use native.Mathlib.Omega.{arith}
use borrow.Author.Tests.{ltb-false, le-leb, ne_eqb}
use lib.Dec.{leb, eqb}
use lib.ListN.{length, get_or}
use lib.Seq.{set-get_or}
use Rattle.laws.specs.Choice.{pick, pick_self, every, by_test, set_not}
use Rattle.laws.specs.Scan.{any_below_none}
use Rattle.kinds.specs.Sizes as sizes
use Rattle.kinds.specs.declared.House.{House}
use Rattle.kinds.specs.Stage as stage
use Rattle.kinds.specs.declared.Keys.{Keys}
use Rattle.kinds.specs.declared.Sub.{Sub}
use Rattle.kinds.specs.declared.Entry.{Entry}
use Rattle.kinds.specs.declared.Site.{Site}
use Rattle.kinds.specs.declared.Snapshot.{Snapshot}
use Rattle.kinds.specs.declared.Answer.{Answer}
use Rattle.kinds.specs.declared.Answer.TheVariants.{Found}
use Rattle.kinds.specs.State.{sub_at, past_sub, past_entry, with_keys, with_sub}
use Rattle.kinds.specs.declared.Value.{Value}
use Rattle.rules.specs.House.{home_of}
use Rattle.rules.specs.Desk.{write_limit, limit_most}
use Rattle.rules.specs.Keys.{wrote_key, wrote_value, read_key, with_read, with_write}
use Rattle.rules.specs.KeysLaws.{wrote_read, wrote_again, wrote_first}
use Rattle.rules.specs.Live.{part_at, stage_at, place_of, other_holds, key_held}
use Rattle.rules.specs.History.{recall, remembered, forgotten, is_forgotten, within, is_newer}
use Rattle.rules.specs.Valid.{site_ok}
use Rattle.rules.specs.ValidLaws.{live_wrote, live_few}
use Rattle.rules.specs.Effect.{Effect, refused, turn_at, settle}
use Rattle.rules.specs.Course.{quietly}
use Rattle.rules.specs.Access.{access_code, read_code, read_version, read_at, read_of, late_code, written, write_at, write_of}
use Rattle.rules.specs.CallLaws.{LateClear, access_clear, read_clear, late_clear}
use Rattle.rules.specs.World.{World, step, site_step, messages_in, split_words}
use Rattle.rules.specs.World as world
use Rattle.rules.specs.Book as book
use Rattle.rules.specs.Book.{Fact}
use Rattle.rules.proofs.Lists.Tables.{a_nil, row_same, row_other}
use Rattle.rules.proofs.Protocol.ProtocolTables.{Protocol, inst}
use Rattle.rules.proofs.Protocol.Protocol.{Accessed, access, stop, more}
use Rattle.rules.proofs.Protocol.Protocol as protocol
use Rattle.rules.proofs.Protocol.Invariants.{at}
use Rattle.rules.proofs.Refine.KeysTold.{read_wrote, read_value, read_sized, read_kept, read_new, write_reads, write_sized, Sets}
use Rattle.rules.proofs.Refine.KeysTold.{again_wrote, again_sets, first_kept, first_new, first_sets}
use Rattle.rules.proofs.Refine.Refines.{IsFree, Sized, LiveIs, HistoryIs, Refines}
use Rattle.rules.proofs.Refine.RefineLive.{place_held, place_spot}
use Rattle.rules.proofs.Refine.RefineSite.{site_sub}
use Rattle.rules.proofs.Refine.RefineStep.{Follows, told_by, by_code, grows_none, inside, stays, site_step_lem}

-- Nobody else holds a key: no part at another place,
key_free : (live : List Sub) (row : ℕ → Sub) (t k : ℕ) → LiveIs live row → place_of live t < sizes.live
    → key_held live (place_of live t) k ≡ false
    → (u : ℕ) → (u ≡ t → ⊥) → (IsFree (row u) → ⊥) → wrote_key (row u).keys k ≡ false
unfolding key_held other_holds
key_free live row t k l h e u n f =
    let (i, m, q, x) = l.found u f in
    let (y, g, z) = place_held l t h in
    let o : (i ≡ place_of live t → ⊥) = λ c. n (sym x ∙ ap (λ (j : ℕ). (part_at live j).tx) c ∙ ap (λ (b : Sub). b.tx) y ∙ z) in
    let a = any_below_none
    (λ j. every (not (eqb j (place_of live t)) ∷ not (eqb (part_at live j).course.stage stage.free) ∷ wrote_key (part_at live j).keys k
    ∷ [])) sizes.live i e m in
    let d = rw (q, ne_eqb i (place_of live t) o, ne_eqb (row u).course.stage stage.free f) at a in
    sym (pick_self (wrote_key (row u).keys k)) ∙ d

-- and no install after the snapshot
key_latest : (history : List Entry) (es : List Entry) (p : Snapshot) (k : ℕ) → HistoryIs history es → is_forgotten (length es) p ≡ false
    → is_newer history (length es) p k ≡ false → (i : ℕ) → p.installs ≤ i → i < length es → wrote_key (get_or es i past_entry).keys k ≡ false
unfolding is_newer is_forgotten within remembered forgotten
key_latest history es p k x f e i l h =
    let g = ltb-false p.installs (length es - sizes.history) f in
    let j = i - forgotten (length es) in
    let o : forgotten (length es) + j ≡ i = omega arith in
    let m : j < remembered (length es) = omega arith in
    let a = any_below_none (λ j. pick (leb (within (length es) p) j) (wrote_key (recall history (length es) j).keys k) false)
    (remembered (length es)) j e m in
    let d = rw (le-leb (within (length es) p) j (omega arith), x.recalls j m, o) at a in
    d

-- The part with other keys.
module _ {house : House} {w : World} {p : Protocol} (r : Refines house w p) (s t : ℕ) (l : 1 ≤ s) (h : s ≤ house.sites) where
  accesses : place_of (w.site s).live t < sizes.live → (p.live s t).course.stage ≡ stage.active → (b : Keys) (fs : List Fact) → Sized b
      → Accessed house s t (p.live s t).keys b fs
      → ((k : ℕ) → wrote_key (p.live s t).keys k ≡ true → wrote_key b k ≡ true)
      → ((k : ℕ) → wrote_key b k ≡ true → wrote_key (p.live s t).keys k ≡ false
      → ((u : ℕ) → (u ≡ t → ⊥) → (IsFree (p.live s u) → ⊥) → wrote_key (p.live s u).keys k ≡ false)
      × ((i : ℕ) → (p.live s t).snapshot.installs ≤ i → i < length (inst p s) → wrote_key (at p s i).keys k ≡ false))
      → b.wrote ≤ write_limit (p.live s t).desk
      → (e : Effect) → e.site ≡ with_sub (w.site s) (place_of (w.site s).live t) (with_keys (p.live s t) b) → e.words ≡ []
      → Follows house p (site_step w s e (w.base s) (w.lists s)).world fs
  unfolding messages_in split_words
  accesses held active b fs z told kept new limit e es ws =
      let x = w.site s in
      let place = place_of x.live t in
      let y = r.site s l h in
      let (q, f, o) = place_held y.live t held in
      let c = with_keys (p.live s t) b in (
        _,
        more stop (access s t b fs active told kept new limit),
        refl,
        site_step_lem r s l h
            (record {
              clock = λ j n. refl;
              serial = λ j n. refl;
              live = λ j n. row_other p.live s t c j n;
              post = λ j n m. refl;
              taken = λ n j m. refl;
              log = λ j n. refl;
              gathered = λ n m. refl;
            })
            e (w.base s) (w.lists s)
            (rw es (site_sub y place t c (place_spot y.live t held) (λ n. (o, z)) (λ n m. absurd (omega (arith, active, n)))
            (row_same p.live s t c)))
            (grows_none p.post) (λ j. refl) (rw ws a_nil),
      )

module _ {house : House} {w : World} {p : Protocol} (r : Refines house w p) (s t k : ℕ) where
  abbrev here : Site
  here = w.site s

  abbrev spot : ℕ
  spot = place_of here.live t

  -- past the causes that both have
  pub record Reaches : Type 0 where
    pub low : 1 ≤ s
    pub high : s ≤ house.sites
    pub held : spot < sizes.live
    pub part : sub_at here spot ≡ p.live s t
    pub active : (p.live s t).course.stage ≡ stage.active
    pub sized : Sized (p.live s t).keys
    pub few : (p.live s t).keys.wrote ≤ sizes.writes
    pub limit : (p.live s t).keys.wrote ≤ write_limit (p.live s t).desk
    pub home : home_of house k ≡ s
    pub installs : here.counters.installs ≡ length (inst p s)
    pub history : HistoryIs here.history (inst p s)
    pub live : LiveIs here.live (p.live s)

  pub reaches : (room : ℕ)
      → access_code (site_ok here) room here.house here.counters.own k spot (stage_at here.live spot) ≡ 0 → Reaches
  reaches room e =
      let c = access_clear (site_ok here) room here.house here.counters.own k spot (stage_at here.live spot) e in
      let (l, h) = inside r s c.key.valid in
      let y = r.site s l h in
      let (q, f, o) = place_held y.live t c.held in
      record {
        low = l;
        high = h;
        held = c.held;
        part = q;
        active = sym (ap (λ (b : Sub). b.course.stage) q) ∙ c.active;
        sized = y.live.sized t f;
        few = rw q at (live_wrote here c.key.valid spot c.held);
        limit = rw q at (live_few here c.key.valid spot c.held);
        home = ap (λ (h : House). home_of h k) (sym y.house_is) ∙ c.key.here ∙ y.counters.own_is;
        installs = y.counters.installs_are;
        history = y.history;
        live = y.live;
      }

  abbrev Goal : (Answer → List Fact) → Effect → Type 0
  Goal f e = Follows house p (site_step w s e (w.base s) (w.lists s)).world (f e.answer)

  -- Read: of an own write nothing changes; else the key enters the set.
  abbrev owned : Effect
  owned = record { answer = Found (wrote_value (sub_at here spot).keys k); words = []; site = here; lent = [] }

  reads_own : Reaches → wrote_key (sub_at here spot).keys k ≡ true → Goal (book.uses t k) owned
  reads_own a f =
      let b = (p.live s t).keys in
      let f' : wrote_key b k ≡ true = sym (ap (λ (b : Sub). wrote_key b.keys k) a.part) ∙ f in
      let same : with_sub here spot (sub_at here spot) ≡ here = rw (set-get_or here.live spot past_sub) in
      accesses r s t a.low a.high a.held a.active b (book.used t k ∷ []) a.sized
      (protocol.reads k a.home (inr f') (λ j e. e) (λ j. (refl, λ e. refl)))
      (λ j e. e) (λ j e g. absurd (set_not _ e g)) a.limit
      owned (sym (ap (with_sub here spot) (sym a.part) ∙ same)) refl

  reads : Reaches
      → read_code (is_forgotten here.counters.installs (sub_at here spot).snapshot) (read_key (sub_at here spot).keys k)
      (sub_at here spot).keys.read ≡ 0
      → Goal (book.uses t k) (read_version here (w.base s) spot k)
  unfolding read_version settle turn_at
  reads a c =
      let own = (p.live s t).keys in
      let b = with_read own k in
      let same = read_wrote own k in
      let d = sub_at here spot in
      let room : read_key own k ≡ false
      → own.read < sizes.reads =
      rw a.part at
      (read_clear (is_forgotten here.counters.installs d.snapshot) (read_key d.keys k) d.keys.read c).room in
      accesses r s t a.low a.high a.held a.active b (book.used t k ∷ []) (read_sized own k a.sized)
      (protocol.reads k a.home (inl (read_new own k a.sized room)) (read_kept own k) (λ j. (same j, λ e. read_value own k j)))
      (λ j e. same j ∙ e) (λ j e f. absurd (set_not _ e (same j ∙ f))) (rw (wrote_read own k) a.limit)
      (read_version here (w.base s) spot k) (rw a.part) refl

  pub read_moves : let x = step w (world.read s t k) in Follows house p x.world (told_by (world.read s t k) x.answer x.words)
  unfolding step site_step read_of read_at
  read_moves =
      let b = sub_at here spot in
      let code = access_code (site_ok here) (length (w.base s)) here.house here.counters.own k spot (stage_at here.live spot) in
      let late = read_code (is_forgotten here.counters.installs b.snapshot) (read_key b.keys k) b.keys.read in
      by_code (Goal (book.uses t k)) code here [] (read_at here (w.base s) spot k)
      (λ e. let a = reaches (length (w.base s)) e in
      by_test (wrote_key b.keys k)
      (λ f. rw f (reads_own a f))
      (λ f. rw f (by_code (Goal (book.uses t k)) late here [] (read_version here (w.base s) spot k) (reads a)
      (stays r s (refused late here []) refl refl))))
      (stays r s (refused code here []) refl refl)

  -- Write: over an own write, or where nobody else holds the key and none was installed after the snapshot.
  writes : (v : Value) → (a : Reaches) → Sets (p.live s t).keys (with_write (p.live s t).keys k v) k v
      → ((j : ℕ) → wrote_key (p.live s t).keys j ≡ true → wrote_key (with_write (p.live s t).keys k v) j ≡ true)
      → ((j : ℕ) → wrote_key (with_write (p.live s t).keys k v) j ≡ true → wrote_key (p.live s t).keys j ≡ false
      → ((u : ℕ) → (u ≡ t → ⊥) → (IsFree (p.live s u) → ⊥) → wrote_key (p.live s u).keys j ≡ false)
      × ((i : ℕ) → (p.live s t).snapshot.installs ≤ i → i < length (inst p s) → wrote_key (at p s i).keys j ≡ false))
      → (with_write (p.live s t).keys k v).wrote ≤ write_limit (p.live s t).desk
      → Goal (book.writes t k v) (written here spot k v)
  unfolding written settle turn_at quietly
  writes v a sets kept new limit =
      let own = (p.live s t).keys in
      accesses r s t a.low a.high a.held a.active (with_write own k v) (book.used t k ∷ book.wrote t k v ∷ [])
      (write_sized own k v a.sized)
      (protocol.writes k v a.home sets.wrote sets.value (λ j e. write_reads own k v j ∙ e) sets.others) kept new limit
      (written here spot k v) (rw a.part) refl

  rewrites : (v : Value) → Reaches → wrote_key (sub_at here spot).keys k ≡ true → Goal (book.writes t k v) (written here spot k v)
  rewrites v a f =
      let f' : wrote_key (p.live s t).keys k ≡ true = sym (ap (λ (b : Sub). wrote_key b.keys k) a.part) ∙ f in
      let same = again_wrote (p.live s t).keys k v f' in
      writes v a (again_sets (p.live s t).keys k v f' a.sized a.few) (λ j e. same j ∙ e)
      (λ j e g. absurd (set_not _ e (same j ∙ g))) (rw (wrote_again (p.live s t).keys k v f') a.limit)

  first : (v : Value) → Reaches → wrote_key (sub_at here spot).keys k ≡ false → LateClear here spot k v
      → Goal (book.writes t k v) (written here spot k v)
  first v a f c =
      let own = (p.live s t).keys in
      let d = c.new f in
      let f' : wrote_key own k ≡ false = sym (ap (λ (b : Sub). wrote_key b.keys k) a.part) ∙ f in
      let below : own.wrote < write_limit (p.live s t).desk = rw a.part at d.room in
      let room : own.wrote < sizes.writes = omega (arith, limit_most (p.live s t).desk) in
      let kept : is_forgotten (length (inst p s)) (p.live s t).snapshot ≡ false = rw (← a.part, ← a.installs) d.kept in
      let latest : is_newer here.history (length (inst p s)) (p.live s t).snapshot k ≡ false =
      rw (← a.part, ← a.installs) d.latest in
      let free = key_free here.live (p.live s) t k a.live a.held d.free in
      let old = key_latest here.history (inst p s) (p.live s t).snapshot k a.history kept latest in
      writes v a (first_sets own k v a.sized room f') (first_kept own k v a.sized room f')
      (λ j e g. ⊎_elim (λ (z : wrote_key own j ≡ true). absurd (set_not _ z g)) (λ (z : j ≡ k). rw z (free, old))
      (first_new own k v a.sized room f' j e)) (rw (wrote_first own k v f') (omega arith))

  pub write_moves : (v : Value)
      → (let x = step w (world.write s t k v) in Follows house p x.world (told_by (world.write s t k v) x.answer x.words))
  unfolding step site_step write_of write_at
  write_moves v =
      let code = access_code (site_ok here) sizes.base here.house here.counters.own k spot (stage_at here.live spot) in
      let late = late_code here spot k v in
      by_code (Goal (book.writes t k v)) code here [] (write_at here spot k v)
      (λ e. let a = reaches sizes.base e in
      by_code (Goal (book.writes t k v)) late here [] (written here spot k v)
      (λ c. by_test (wrote_key (sub_at here spot).keys k) (rewrites v a) (λ f. first v a f (late_clear here spot k v c)))
      (stays r s (refused late here []) refl refl))
      (stays r s (refused code here []) refl refl)
