use borrow.Author.Rules.{rules}
use mathlib.Core.Path.{◌≡◌, refl}
use native.Mathlib.Omega.{arith}
use Rattle.kinds.specs.Sizes as sizes
use Rattle.laws.specs.ByteLaws.{hold_bytes}
use Rattle.laws.specs.Bytes.{words_of}
use Rattle.laws.specs.Scan.{fold_below}
use Rattle.rules.specs.Copy.{put_writes}
use Rattle.rules.specs.CopyLaws.{put_more}
use Rattle.reader.proofs.replay.put_writes.Goals as goal

pub loop-i-init : goal.loop-i-init
unfolding put_writes fold_below
loop-i-init c =
    let b = c.args.copy.now in
    record { size = refl; held = hold_bytes sizes.copy b (λ i. search rules) c.requires.copy_len }

pub put_write-requires : goal.put_write-requires
put_write-requires c =
    let pre = c.requires in
    record {
      copy_len = omega (arith, pre.copy_len);
      i_lt_merged_writes = (omega arith, omega (arith, pre.n_le_merged_writes.1));
      i_bound = pre.by_index c.loop-i.i c.loop-i-test.true;
    }

pub loop-i-preserved : goal.loop-i-preserved
loop-i-preserved c =
    let a = c.args in
    let l = c.loop-i in
    let more = put_more (words_of a.copy.now) a.ws.now l.i in
    record { size = search rules; held = rw more (rw l.invariant.held.words at c.put_write.ensures) }

pub shape_of-copy : goal.shape_of-copy
shape_of-copy c = c.loop-i.invariant.size

pub returns : goal.returns
returns c =
    let l = c.loop-i in
    let e : l.i ≡ c.args.n = omega arith in
    rw (← e) l.invariant.held
