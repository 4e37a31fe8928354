use Prim.Native.Nat.{◌+◌, ◌*◌}
use borrow.Author.Rules.{rules}
use mathlib.Core.List.{List}
use Prim.Native.Nat.{ℕ}
use mathlib.Core.Path.{◌∙◌, ◌≡◌, ap, refl, sym}
use native.Mathlib.Omega.{arith}
use Rattle.laws.specs.Scan.{fold_below}
use Rattle.rules.specs.Copy.{put_writes}
use Rattle.rules.specs.CopyLaws.{put_more}
use Rattle.rules.specs.Record.{write_key, write_value}
use Rattle.rules.specs.Value.{put_value}
use Rattle.kinds.specs.Sizes as sizes
use Rattle.copy.proofs.writes.put_writes.Goals as goal

pub loop-i-init : goal.loop-i-init
unfolding put_writes fold_below
loop-i-init c = record { size = refl; laid = refl }

pub put_write-requires : goal.put_write-requires
put_write-requires c =
    let pre = c.requires in
    record {
      copy_len = omega (arith, pre.copy_len);
      i_lt_merged_writes = (omega arith, omega (arith, pre.n_le_merged_writes.1));
      i_bound = pre.by_index c.loop-i.i c.loop-i-test.true;
    }

pub loop-i-preserved : goal.loop-i-preserved
loop-i-preserved c =
    let a = c.args in
    let l = c.loop-i in
    let at = sizes.copy_header + sizes.value * write_key a.ws.now l.i in
    let s = ap (λ (x : List ℕ). put_value x at (write_value a.ws.now l.i)) l.invariant.laid in
    record { size = search rules; laid = c.put_write.ensures ∙ s ∙ sym (put_more a.copy.now a.ws.now l.i) }

pub shape_of-copy : goal.shape_of-copy
shape_of-copy c = c.loop-i.invariant.size

pub returns : goal.returns
returns c =
    let l = c.loop-i in
    let e : l.i ≡ c.args.n = omega arith in
    rw (← e) l.invariant.laid
