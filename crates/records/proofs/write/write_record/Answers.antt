-- The writes are laid directly behind the header.
use mathlib.Core.Path.{refl}
use native.Mathlib.Omega.{arith}
use Rattle.laws.specs.Overlay.{behind}
use Rattle.kinds.specs.Sizes as sizes
use Rattle.rules.specs.Record.{record_head_words, record_words}
use Rattle.records.proofs.write.write_record.Goals as goal

pub returns : goal.returns
unfolding record_words
returns c =
    let a = c.args in
    let w = c.write_head in
    let k = c.copy_words in
    let h = record_head_words a.r in
    (omega arith, behind a.out.now h a.ws.now w.new.out k.new.out sizes.record_header refl (omega arith) w.ensures k.ensures)
