-- Certification: the list that a site makes covers what the protocol wants, its vote of yes certifies, and a join has every entry.
use Prim.Native.Nat.{ℕ, suc, ◌+◌, ◌-◌, ◌*◌, ◌≤◌, ◌<◌}
use mathlib.Core.Path.{◌≡◌, sym, ap, ◌∙◌}
use mathlib.Core.Bool.{Bool, true, false}
use mathlib.Core.Logic.{⊎_elim}
use mathlib.Core.List.{List}
use native.Mathlib.Omega.{arith}
use borrow.Author.Tests.{ltb-false, leb-true}
use lib.ListN.{length, get_or, get_or-eq_default}
use Rattle.kinds.specs.Sizes as sizes
use Rattle.kinds.specs.declared.House.{House}
use Rattle.kinds.specs.Stage as stage
use Rattle.kinds.specs.declared.Sub.{Sub}
use Rattle.kinds.specs.declared.Entry.{Entry}
use Rattle.kinds.specs.declared.Snapshot.{Snapshot}
use Rattle.kinds.specs.declared.Site.{Site}
use Rattle.kinds.specs.State.{sub_at, past_entry}
use Rattle.rules.specs.House.{serial_of}
use Rattle.rules.specs.Message.{entry_tx, entry_count}
use Rattle.rules.specs.KeysLaws.{by_order}
use Rattle.rules.specs.Live.{is_prepared, is_part_of}
use Rattle.rules.specs.History.{recall, remembered, forgotten, within, is_forgotten}
use Rattle.rules.specs.HistoryLaws.{all_installs}
use Rattle.rules.specs.Join.{joined, join_tx, join_count, listed_of}
use Rattle.rules.proofs.JoinLaws.{length_joined, of_mark, listed_from}
use Rattle.rules.specs.Certify.{candidates, concurrent, vote_of}
use Rattle.rules.proofs.CertifyLaws.{concurrent_whole, lists_prepared, lists_installed, yes_clear, yes_recorded, recorded_is}
use Rattle.rules.proofs.CertifyLaws.{candidates_marks}
use Rattle.rules.proofs.EntryLaws.{Listing, Marks, joined_mark, joined_within}
use Rattle.rules.proofs.Protocol.ProtocolTables.{Protocol, inst}
use Rattle.rules.proofs.Protocol.Protocol.{Covers, Certified, Within, Listed}
use Rattle.rules.proofs.Protocol.Invariants.{Parts, at}
use Rattle.rules.proofs.Refine.Refines.{IsFree, HistoryIs, slice_of, SiteIs}
use Rattle.rules.proofs.Refine.RefineLive.{part_is, held_there}
use Rattle.rules.proofs.Refine.RefineTurn.{AtPlace}

-- Marks are 0 or 1, in a join too.
pub joined_low : (es : List ℕ) (n : ℕ) → Marks es → Marks (joined es n)
joined_low es n f k =
    by_order k (join_count es n)
    (λ l. rw (joined_mark es n k l)
    (by_order 0 (listed_of es (join_tx es n (suc k)) n).mark
    (λ z. let (i, h, e, q) = listed_from _ _ of_mark es (join_tx es n (suc k)) n z in omega (arith, f i))
    (λ z. omega arith)))
    (λ l. let z = get_or-eq_default (joined es n) 0 {n = sizes.entry * k + 2} (omega (arith, length_joined es n)) in omega arith)

pub concurrent_low : (x : Site) (place : ℕ) → Marks (concurrent x place)
unfolding concurrent
concurrent_low x place = joined_low (candidates x place) (entry_count (candidates x place)) (candidates_marks x place)

-- A join has every entry.
listed : {es : List ℕ} {t m : ℕ} {d : Bool} → Listing es t m d → Listed es t m d
listed l = (l.entry, l.low, (l.tx, l.names, l.mark))

pub join_within : (es : List ℕ) → Marks es → Within es (joined es (entry_count es))
join_within es f j h z = listed (joined_within es f j h z)

-- An install that is not forgotten, by its place among those remembered.
pub record Recalled (history es : List Entry) (n : ℕ) (p : Snapshot) (i : ℕ) : Type 0 where
  pub index : ℕ
  pub low : index < remembered n
  pub is : recall history n index ≡ get_or es i past_entry
  pub seen : i < p.installs → index < within n p
  pub after : p.installs ≤ i → within n p ≤ index

recalled_at : (history es : List Entry) (p : Snapshot) (i : ℕ) → HistoryIs history es → forgotten (length es) ≤ i → i < length es
    → Recalled history es (length es) p i
unfolding remembered forgotten within
recalled_at history es p i x f l =
    let n = length es in
    let j = i - (n - sizes.history) in
    let q : forgotten n + j ≡ i = omega arith in
    let m : j < remembered n = omega arith in
    record {
      index = j;
      low = m;
      is = x.recalls j m ∙ ap (λ (k : ℕ). get_or es k past_entry) q;
      seen = λ h. omega arith;
      after = λ h. omega arith;
    }

pub recalled : (history es : List Entry) (n : ℕ) (p : Snapshot) (i : ℕ) → n ≡ length es → HistoryIs history es → forgotten n ≤ i
    → i < length es
    → Recalled history es n p i
recalled history es n p i e x f l = rw e (recalled_at history es p i x (rw e at f) l)

module _ {house : House} {s t place : ℕ} {x : Site} {base words : List ℕ} {p : Protocol} (y : SiteIs house s x base words (slice_of p s))
    (i : Parts house p) (a : AtPlace x p s t place) where
  -- a part's transaction is not 0
  positive : (u : ℕ) → p.has s u ≡ true → 0 < u
  unfolding serial_of
  positive u h = omega (arith, (i.serial s u h).0)

  abbrev installs : ℕ
  installs = x.counters.installs

  kept_recalled : (k : ℕ) → forgotten installs ≤ k → k < length (inst p s)
      → Recalled x.history (inst p s) installs (sub_at x place).snapshot k
  kept_recalled k = recalled x.history (inst p s) installs (sub_at x place).snapshot k y.counters.installs_are y.history

  snapshot_is : (sub_at x place).snapshot.installs ≡ (p.live s t).snapshot.installs
  snapshot_is = ap (λ (b : Sub). b.snapshot.installs) a.part

  recall_total : (m : ℕ) → m < remembered installs → recall x.history installs m ≡ at p s (forgotten installs + m)
  recall_total m h = rw y.counters.installs_are (y.history.recalls m (rw y.counters.installs_are at h))

  pub covers : is_forgotten installs (sub_at x place).snapshot ≡ false → Covers p s t (concurrent x place)
  unfolding is_forgotten is_prepared
  covers f =
      record {
        whole = concurrent_whole x place;
        prepared = λ u n e.
            let held : (IsFree (p.live s u) → ⊥) = λ z. omega (arith, leb-true stage.prepared (p.live s u).course.stage e) in
            let (k, l, q, tx) = y.live.found u held in
            let o : (k ≡ place → ⊥) = λ z. n (sym tx ∙ ap (λ (j : ℕ). (sub_at x j).tx) z ∙ ap (λ (b : Sub). b.tx) a.part ∙ a.tx) in
            let g = lists_prepared x place k l o (ap is_prepared q ∙ e) (omega (arith, tx, positive u (i.has s u held))) in
            rw (a.part, q, i.tx s u held) at (listed g);
        installed = λ k l h.
            let g : forgotten installs ≤ (sub_at x place).snapshot.installs = ltb-false _ _ f in
            let z = kept_recalled k (omega (arith, snapshot_is)) h in
            let d : 0 < (recall x.history installs z.index).tx = rw z.is (positive (at p s k).tx (i.entry_has s k h)) in
            rw (z.is, a.part) at (listed (lists_installed x place z.index (z.after (omega (arith, snapshot_is))) z.low d));
      }

  -- A yes: an entry seen here is remembered, since it names this site and has a record here, which can be no other.
  pub certifies : (es : List ℕ) → vote_of x place es (entry_count es) ≡ 0 → Certified p s t es
  certifies es v j k h names l seen tx =
      by_order k (forgotten installs)
      (λ lost.
      let e = yes_recorded x place es (entry_count es) v j h (omega arith) (rw y.counters.own_is names) in
      absurd (⊎_elim
      (λ (c : (m : ℕ) × (m < sizes.live) × (is_part_of (sub_at x m) (entry_tx es j) ≡ true)).
      let (m, low, q) = c in
      let (f, o) = part_is (sub_at x m) (entry_tx es j) q in
      f (ap (λ (b : Sub). b.course.stage) (held_there y.live m (at p s k).tx low f (o ∙ sym tx)) ∙ i.entry_gone s k l))
      (λ (c : (m : ℕ) × (m < remembered installs) × ((recall x.history installs m).tx ≡ entry_tx es j)).
      let (m, low, q) = c in
      let g : forgotten installs + m < length (inst p s) = omega (arith, all_installs installs, y.counters.installs_are) in
      omega (arith, lost, i.entry_once s k (forgotten installs + m) l g (tx ∙ sym q ∙ ap (λ (b : Entry). b.tx) (recall_total m low))))
      (recorded_is x (entry_tx es j) e)))
      (λ kept.
      let z = kept_recalled k kept l in
      let q = yes_clear x place es (entry_count es) v j z.index h (z.seen (omega (arith, snapshot_is))) (rw z.is (sym tx)) in
      rw (z.is, a.part) at q)
