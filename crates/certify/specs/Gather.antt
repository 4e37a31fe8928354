-- The candidates of a list: the prepared ones, and behind them the installs after the snapshot.
use Rattle.std.specs.Prelude.{ℕ, ◌+◌, ◌*◌, ◌-◌, ◌≤◌, ◌<◌, ◌≡◌, List, ◌++◌, length, take, drop}
use Rattle.std.proofs.Common.{ap, sym, ◌∙◌, arith, length-append}
use Rattle.laws.specs.Overlay.{overlay, length_overlay, overlay_back, behind}
use Rattle.kinds.specs.Sizes as sizes
use Rattle.kinds.specs.declared.Keys.{Keys}
use Rattle.kinds.specs.declared.Site.{Site}
use Rattle.kinds.specs.declared.Sub.{Sub}
use Rattle.kinds.specs.State.{sub_at}
use Rattle.rules.specs.Certify.{prepared_list, installed_list, candidates}
use Rattle.rules.proofs.CertifyLaws.{prepared_few, length_installed}
use Rattle.rules.specs.History.{remembered, within}
use Rattle.rules.specs.HistoryLaws.{remembered_few}
use Rattle.rules.specs.Message.{entry_count}
use Rattle.certify.specs.Asks.{Entered}

-- at most 15 others are prepared
pub prepared_below : (live : List Sub) (place n : ℕ) → place < sizes.live
    → length (prepared_list live place sizes.live) ≡ sizes.entry * n → n < sizes.live
prepared_below live place n h e =
    let (k, w, l, f) = prepared_few live place sizes.live in
    omega (arith, f h)

-- n prepared ones and m installs behind them, in `all`, are the candidates
pub record Gathered (s : Site) (place n m : ℕ) (all : List ℕ) : Type 0 where
  pub few : n + m ≤ sizes.conc_entries
  pub long : length all ≡ sizes.entry * (sizes.live + sizes.history)
  pub count : n + m ≡ entry_count (candidates s place)
  pub are : take (sizes.entry * (n + m)) all ≡ candidates s place

-- what the list of the part at `place` compares with, and since when
pub record Since (s : Site) (place : ℕ) (own : Keys) (seen : ℕ) : Type 0 where
  pub low : place < sizes.live
  pub keys : own ≡ (sub_at s place).keys
  pub early : seen ≡ within s.counters.installs (sub_at s place).snapshot

pub gather : (s : Site) (place n m : ℕ) (own : Keys) (seen : ℕ) (d xs ys : List ℕ) (size : ℕ) → size ≡ length d
    → length d ≡ sizes.entry * (sizes.live + sizes.history) → Since s place own seen
    → Entered d (prepared_list s.live place sizes.live) n xs → m ≡ remembered s.counters.installs - seen
    → ys
    ≡ overlay (take (size - sizes.entry * n) (drop (sizes.entry * n) xs)) (installed_list s.history s.counters.installs own seen m)
    → Gathered s place n m (take (sizes.entry * n) xs ++ (ys ++ drop (size - sizes.entry * n) (drop (sizes.entry * n) xs)))
unfolding candidates entry_count
gather s place n m own seen d xs ys size z l b x q y =
    let k = s.counters.installs in
    let ws = prepared_list s.live place sizes.live in
    let w = installed_list s.history k own seen m in
    let o = prepared_below s.live place n b.low x.long in
    let r = remembered_few k in
    let e = x.long in
    let v = length_installed s.history k own seen m in
    let u = length-append ws w in
    let f : size ≡ length xs = z ∙ sym (ap length x.are ∙ length_overlay d ws (omega arith)) in
    let c : candidates s place ≡ ws ++ w = rw (← b.keys, ← b.early, ← q) in
    let h = behind d ws w xs ys (sizes.entry * n) (sym x.long) (omega arith) x.are (rw f at y) in
    let a = rw (← f) at h in
    record {
      few = omega arith;
      long = ap length a ∙ length_overlay d (ws ++ w) (omega arith) ∙ l;
      count = omega (arith, ap length c);
      are = rw (a, c) (overlay_back d (ws ++ w) (sizes.entry * (n + m)) (omega arith));
    }
