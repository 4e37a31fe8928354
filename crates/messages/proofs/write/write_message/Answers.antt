-- The entries are laid directly behind the header.
use mathlib.Core.Path.{refl}
use native.Mathlib.Omega.{arith}
use Rattle.laws.specs.Overlay.{behind}
use Rattle.kinds.specs.Sizes as sizes
use Rattle.rules.specs.Message.{head_words, message_words}
use Rattle.messages.proofs.write.write_message.Goals as goal

pub returns : goal.returns
unfolding message_words
returns c =
    let a = c.args in
    let w = c.write_head in
    let k = c.copy_words in
    let laid = behind a.out.now (head_words a.h) a.es.now w.new.out k.new.out sizes.message_header refl (omega arith) w.ensures k.ensures in
    (omega arith, laid)
