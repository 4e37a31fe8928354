-- One message, and its count.
use Rattle.std.proofs.Common.{arith}
use Rattle.rules.specs.Course.{head_of, send_to}
use Rattle.rules.specs.Effect.{taken_of}
use Rattle.rules.specs.Message.{entry_count}
use Rattle.course.proofs.send.send_to.Goals as goal

pub write_message-words-requires : goal.write_message-words-requires
unfolding entry_count
write_message-words-requires c =
    let p = c.requires in
    (omega (arith, p.1.0), (omega (arith, p.1.1), omega (arith, p.0.long, p.1.1)))

pub returns : goal.returns
unfolding taken_of send_to entry_count head_of
returns c =
    record {
      value = rw (c.sent_to-channels.ensures, c.write_message-words.ensures.0);
      out_after = c.write_message-words.ensures.1;
    }
