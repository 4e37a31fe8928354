-- C30 to C36: the coordinator votes on the join of the gathered lists.
use Rattle.std.specs.Prelude.{ℕ, ◌*◌, List, drop}
use Rattle.kinds.specs.Sizes as sizes
use Rattle.kinds.specs.declared.Site.{Site}
use Rattle.kinds.specs.declared.Turn.{Turn}
use Rattle.rules.specs.Certify.{vote_of}
use Rattle.rules.specs.Course.{cast_step}
use Rattle.rules.specs.Effect.{Change}
use Rattle.rules.specs.Join.{joined}
use Rattle.rules.specs.Message.{entry_count}

-- of the n entries gathered at a place, in the turn t of its part
abbrev pub cast_joined : Site → ℕ → List ℕ → ℕ → Turn → Change
cast_joined s place lists n t =
    let es = joined (drop (sizes.gathered * place) lists) n in
    cast_step t (vote_of s place es (entry_count es)) es
