-- Each return is a cause of the list.
use Rattle.std.proofs.Common.{sym, ◌∙◌, lt-ltb, le-ltb}
use Rattle.rules.specs.Merger.{emit_code}
use Rattle.merger.proofs.check_emit.Goals as goal

pub returns-then-room-lt-MERGED : goal.returns-then-room-lt-MERGED
unfolding emit_code
returns-then-room-lt-MERGED c = simp (lt-ltb _ _ c.if-room-lt-MERGED.true)

pub returns-then-not-merger_ok : goal.returns-then-not-merger_ok
unfolding emit_code
returns-then-not-merger_ok c =
    simp (le-ltb _ _ c.if-room-lt-MERGED.false, sym c.merger_ok.ensures ∙ c.if-not-merger_ok.true)

pub returns : goal.returns
unfolding emit_code
returns c = simp (le-ltb _ _ c.if-room-lt-MERGED.false, sym c.merger_ok.ensures ∙ c.if-not-merger_ok.false)
