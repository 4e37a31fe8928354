-- A fresh house is that of the fresh machine; and what a copy answers after any steps: the value that the committed up to its pair leave.
use Prim.Native.Nat.{ℕ, zero, suc, ◌+◌, ◌*◌, ◌≤◌, ◌<◌}
use mathlib.Core.Path.{◌≡◌, refl, sym}
use mathlib.Core.Logic.{◌⊎◌, inl, inr}
use mathlib.Core.List.{List, []}
use native.Mathlib.Omega.{arith}
use borrow.Author.Tests.{eq-eqb, lt-leb}
use lib.ListN.{length, get_or, take, replicate, length-replicate, get_or-replicate}
use lib.Seq.{take-suc}
use Rattle.laws.specs.Pair.{rank}
use Rattle.kinds.specs.Sizes as sizes
use Rattle.rules.specs.ValueLaws.{value_zeros}
use Rattle.kinds.specs.declared.House.{House}
use Rattle.kinds.specs.Word as word
use Rattle.kinds.specs.declared.Value.{Value}
use Rattle.kinds.specs.declared.Answer.TheVariants.{Standing}
use Rattle.rules.specs.House.{coordinator_of, GoodHouse}
use Rattle.rules.specs.HouseLaws.{good_passes}
use Rattle.rules.specs.Merger.{source_at, past_source, fresh_merger}
use Rattle.rules.specs.MergerKept.{fresh_holds}
use Rattle.rules.specs.Copy.{copy_number, copy_coordinator, copy_value, value_code, value_of, copy_start_of}
use Rattle.rules.specs.World.{World, fresh_world}
use Rattle.rules.proofs.Lists.Tables.{a_nil}
use Rattle.rules.proofs.Protocol.ProtocolTables.{Protocol}
use Rattle.rules.proofs.Refine.RefineFresh.{merger_started, refines_fresh}
use Rattle.rules.proofs.Stream.Stream as stream
use Rattle.rules.proofs.Stream.Stream.{Stream, fresh_stream}
use Rattle.rules.proofs.Stream.StreamInv.{past_item, item_at, item_number, item_committed}
use Rattle.rules.proofs.Stream.StreamReached as reached
use Rattle.rules.proofs.Stream.StreamClaims.{LeftUpTo, left_upto}
use Rattle.rules.proofs.Refine.RefineMerger.{MergerIs, end_number, end_coordinator, CopyIs, StreamIs}
use Rattle.rules.proofs.Refine.RefineReplay.{end_number_lem, end_coordinator_lem, end_rank_lem, pair_low}

-- Fresh.
abbrev zeros : ℕ → List ℕ
zeros n = replicate n 0

fresh_source : (o : House) (i : ℕ) → i < sizes.sites → source_at (fresh_merger o) i ≡ past_source
unfolding fresh_merger
fresh_source o i h = get_or-replicate sizes.sites i past_source past_source h

copy_started : (copy_start_of (zeros sizes.copy)).copy ≡ zeros sizes.copy
unfolding copy_start_of
copy_started = refl

zero_at : (i : ℕ) → i < sizes.copy → get_or (zeros sizes.copy) i 0 ≡ 0
zero_at i h = get_or-replicate {A = ℕ} sizes.copy i 0 0 h

fresh_copy_lem : (house : House) → CopyIs house (zeros sizes.copy) []
fresh_copy_lem house =
    record {
      size = length-replicate {A = ℕ} sizes.copy 0;
      number = zero_at word.last_number (omega arith);
      coordinator = zero_at word.last_coordinator (omega arith);
      value = λ k h. value_zeros sizes.copy (sizes.copy_header + sizes.value * k) (omega arith);
    }

fresh_merger_lem : (house : House) → GoodHouse house
    → MergerIs house (fresh_merger house) (zeros sizes.queues) stream.fresh_merger
unfolding fresh_merger stream.fresh_merger
fresh_merger_lem house good =
    let few = good.few in
    record {
      house_is = refl;
      holds = fresh_holds house sizes.queues (good_passes house good) refl;
      source = λ i l. rw (fresh_source house i (omega arith))
          (record { queued = refl; state_is = refl; last_is = refl; low = omega arith; words = λ j h. absurd (omega arith) });
    }

pub stream_fresh : (house : House) → GoodHouse house → StreamIs house (fresh_world house) fresh_stream
unfolding fresh_world fresh_stream stream.fresh_merger
stream_fresh house good =
    let (g, q) = merger_started house good in
    record {
      refines = refines_fresh house good;
      merger = rw (g, q) (fresh_merger_lem house good);
      merged = λ s. refl;
      placed = a_nil;
      emitted = refl;
      replayed = λ c. refl;
      copy = λ c. rw copy_started (fresh_copy_lem house);
    }

-- What a copy answers: a value and a pair, which is (0, 0) or a committed one, and the value is what the committed up to that pair leave.
pub record CopyStands (house : House) (p : Protocol) (copy : List ℕ) (k : ℕ) : Type 0 where
  pub value : Value
  pub number : ℕ
  pub coordinator : ℕ
  pub answers : value_of copy k ≡ Standing value number coordinator
  pub pair : (copy_number copy ≡ number) × (copy_coordinator copy ≡ coordinator)
  pub low : coordinator < 16
  pub up_to : ((number ≡ 0) × (coordinator ≡ 0)) ⊎ ((t : ℕ) × (0 < p.num t) × (p.num t ≡ number) × (coordinator_of t ≡ coordinator))
  pub left : LeftUpTo p house (rank number coordinator) k value

standing : (copy : List ℕ) (k : ℕ) → length copy ≡ sizes.copy → k < sizes.keys
    → value_of copy k ≡ Standing (copy_value copy k) (copy_number copy) (copy_coordinator copy)
unfolding value_of value_code
standing copy k e h = rw (eq-eqb (length copy) sizes.copy e, lt-leb sizes.keys k h)

module _ {house : House} {w : World} {v : Stream} (x : StreamIs house w v) (z : reached.Standing house v) where
  last_committed : (n : ℕ) → n ≤ length v.merger.out
      → ((end_number 0 (take n v.merger.out) ≡ 0) × (end_coordinator 0 (take n v.merger.out) ≡ 0))
      ⊎ ((t : ℕ) × (0 < v.protocol.num t) × (v.protocol.num t ≡ end_number 0 (take n v.merger.out))
      × (coordinator_of t ≡ end_coordinator 0 (take n v.merger.out)))
  last_committed zero h = inl (refl, refl)
  last_committed (suc n) h =
      let m = v.merger in
      rw (take-suc m.out n past_item h, end_number_lem 0 (take n m.out) (item_at m n), end_coordinator_lem 0 (take n m.out) (item_at m n))
      (inr ((item_at m n).tx, item_committed z.invariant z.streamed n h, sym (item_number z.invariant z.streamed n h), refl))

  pub copy_stands : (c k : ℕ) → k < sizes.keys → CopyStands house v.protocol (w.copy c) k
  copy_stands c k h =
      let i = x.copy c in
      let n = v.replayed c in
      let l = z.replayed c in
      record {
        value = copy_value (w.copy c) k;
        number = copy_number (w.copy c);
        coordinator = copy_coordinator (w.copy c);
        answers = standing (w.copy c) k i.size h;
        pair = (refl, refl);
        low = rw i.coordinator (pair_low x z n l);
        up_to = rw (i.number, i.coordinator) (last_committed n l);
        left = rw (i.number, i.coordinator, end_rank_lem v.merger n l, i.value k h)
            (left_upto z.invariant z.streamed house k n l);
      }
