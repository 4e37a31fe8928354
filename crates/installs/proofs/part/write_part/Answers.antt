-- The words lent to the writer are the writes by key ascending, so what it writes is the part record.
use Prim.Native.Nat.{ℕ, ◌*◌, ◌≤◌}
use mathlib.Core.List.{List}
use lib.ListN.{length-take, replicate, take}
use mathlib.Core.Path.{◌≡◌}
use native.Mathlib.Omega.{arith}
use Rattle.laws.specs.Overlay.{overlay, overlay_back}
use Rattle.kinds.specs.Sizes as sizes
use Rattle.kinds.specs.declared.Keys.{Keys}
use Rattle.kinds.specs.declared.RecordHead.{RecordHead}
use Rattle.kinds.specs.declared.Sub.{Sub}
use Rattle.rules.specs.Install.{part_head, part_words}
use Rattle.rules.specs.InstallLaws.{sorted_few}
use Rattle.rules.specs.Keys.{sorted_count, sorted_words}
use Rattle.rules.specs.KeysLaws.{words_length}
use Rattle.rules.specs.Record.{record_words}
use Rattle.installs.proofs.part.write_part.Goals.{After-sorted_words-n}
use Rattle.installs.proofs.part.write_part.Goals as goal

abbrev empty : List ℕ
empty = replicate (sizes.write * sizes.writes) 0

taken_back : (k : Keys) (n : ℕ) (ws : List ℕ) → n ≡ sorted_count k → ws ≡ overlay empty (sorted_words k n)
    → take (sizes.write * n) ws ≡ sorted_words k (sorted_count k)
taken_back k n ws e f = rw (f, ← e) (overlay_back empty (sorted_words k n) (sizes.write * n) (words_length k n))

-- a record has room for so many
few : (c : After-sorted_words-n) → c.sorted_words-n.result ≤ sizes.writes
few c = omega (arith, c.sorted_words-n.ensures.0, sorted_few c.args.b.keys, c.requires.0)

pub overflow_mul-end : goal.overflow_mul-end
overflow_mul-end c = omega (arith, few (goal.at.overflow_mul-end c).After-sorted_words-n)

pub slice_bounds-ws-end : goal.slice_bounds-ws-end
slice_bounds-ws-end c = omega (arith, few (goal.at.slice_bounds-ws-end c).After-sorted_words-n, c.sorted_words-n.auto.out)

pub slice_bounds-write_record-end : goal.slice_bounds-write_record-end
slice_bounds-write_record-end c =
    let few = few (goal.at.slice_bounds-write_record-end c).After-sorted_words-n in
    simp length-take (omega (arith, few, c.sorted_words-n.auto.out))

pub write_record-requires : goal.write_record-requires
unfolding part_head
write_record-requires c =
    let few = few (goal.at.write_record-requires c).After-sorted_words-n in
    let e = c.sorted_words-n.ensures.0 in
    rw c.part_head-head.ensures (
      simp length-take (omega (arith, few, e, c.sorted_words-n.auto.out)),
      (omega (arith, few, e), omega (arith, few, e, c.requires.1)),
    )

part_record : (own : ℕ) (b : Sub) (head : RecordHead) (ws : List ℕ) → head ≡ part_head own b
    → ws ≡ sorted_words b.keys (sorted_count b.keys) → record_words head ws ≡ part_words own b
unfolding part_words
part_record own b head ws e f = rw (e, f)

pub returns : goal.returns
returns c =
    let a = c.args in
    let e = c.sorted_words-n.ensures in
    let written = taken_back a.b.keys c.sorted_words-n.result _ e.0 e.1 in
    rw (← part_record a.own a.b _ _ c.part_head-head.ensures written) c.write_record.ensures
