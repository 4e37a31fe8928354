-- The words of the slot are those of the install in it.
use Rattle.rules.specs.Certify.{installed_words}
use Rattle.lent.specs.Layout.{entry_from}
use Rattle.certify.proofs.list.write_installed.Goals as goal

pub write_concurrent-requires : goal.write_concurrent-requires
write_concurrent-requires c =
    let pre = c.requires in
    record { room = pre.room; few_own = pre.few_own; few_other = rw c.keys_at-keys.ensures pre.other.few }

pub returns : goal.returns
unfolding installed_words entry_from
returns c = rw c.keys_at-keys.ensures at c.write_concurrent.ensures
