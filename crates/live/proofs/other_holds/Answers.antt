-- The three tests in order; what a part wrote is asked of its words.
use borrow.Author.Rules.{rules}
use borrow.Author.Tests.{tests}
use Rattle.laws.specs.Choice.{pick_self}
use Rattle.rules.specs.Live.{other_holds}
use Rattle.lent.specs.Layout.{sub_from}
use Rattle.live.proofs.other_holds.Goals as goal

pub returns-then-a-ne-FREE : goal.returns-then-a-ne-FREE
unfolding other_holds sub_from
returns-then-a-ne-FREE c = search (← c.wrote_key_in.ensures, pick_self, tests, rules)

pub returns-else-a-ne-FREE : goal.returns-else-a-ne-FREE
unfolding other_holds sub_from
returns-else-a-ne-FREE c = search (tests, rules)
