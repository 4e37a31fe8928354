-- The place says whether the key was written: over it, or behind the others, where there is room.
use Rattle.std.proofs.Common.{◌≡◌, ℕ, ◌<◌, true, false, arith, le-ltb, lt-ltb}
use Rattle.rules.specs.Keys.{key_place, wrote_key, with_write}
use Rattle.kinds.specs.declared.Keys.{Keys}
use Rattle.keys.proofs.with_write.Goals as goal

new : (b : Keys) (k : ℕ) → b.wrote ≡ key_place b.writes b.wrote k → wrote_key b k ≡ false
unfolding wrote_key
new b k e = le-ltb (key_place b.writes b.wrote k) b.wrote (omega arith)

old : (b : Keys) (k place : ℕ) → place ≡ key_place b.writes b.wrote k → place < b.wrote → wrote_key b k ≡ true
unfolding wrote_key
old b k place e l = lt-ltb (key_place b.writes b.wrote k) b.wrote (omega arith)

pub returns-in-Some : goal.returns-in-Some
unfolding with_write
returns-in-Some c =
    let told = c.in-Some.ensures in
    simp (old c.args.b c.args.k _ told.first told.bound, ← told.first)

pub bounds-c-b : goal.bounds-c-b
bounds-c-b c = c.requires.1 (new _ _ c.in_default.ensures.first)

pub bounds-c-b-2 : goal.bounds-c-b-2
bounds-c-b-2 c = c.requires.1 (new _ _ c.in_default.ensures.first)

pub returns : goal.returns
unfolding with_write
returns c = simp (new c.args.b c.args.k c.in_default.ensures.first)
