-- A script whose named words are there when it hands them in makes a lawful list.
use Prim.Native.Nat.{ℕ, zero, suc, ◌-◌, ◌<◌}
use mathlib.Core.Path.{◌≡◌, refl}
use mathlib.Core.Logic.{inl, inr}
use mathlib.Core.Bool.{Bool, true, false}
use mathlib.Core.List.{List, [], ◌∷◌}
use native.Mathlib.Omega.{arith}
use borrow.Author.Tests.{ltb-true, leb-true}
use lib.ListN.{length, get_or}
use lib.Dec.{ltb, leb}
use Rattle.laws.specs.Choice.{pick, picked_left, picked_right}
use Rattle.rules.specs.World.{World, Member, here, there, Reached, Handed, Lawful, step}
use Rattle.played.specs.Script.{Line, begin, enlist, read, write, search, commit, commit_at, abandon, take, install, report, merge}
use Rattle.played.specs.Script.{emit, replay, value, sent_at, call_of, calls_from}

-- place i of a list of records, of which so many were taken, is there and may be handed in
unfoldable pub reachable : List (List ℕ) → ℕ → ℕ → Bool
reachable records taken i = pick (leb i taken) (ltb i (length records)) false

-- the words that a line names are there
unfoldable pub playable : World → Line → Bool
playable w (begin s d) = true
playable w (enlist tx site) = true
playable w (read s tx key) = true
playable w (write s tx key start n) = true
playable w (search s snapshot key) = true
playable w (commit tx) = true
playable w (commit_at s tx) = true
playable w (abandon tx) = true
playable w (take from to n) = ltb (sent_at w.sent from to n) (length w.sent)
playable w (install s) = true
playable w (report s) = true
playable w (merge s place) = reachable (w.log s) (w.merged s) (place - 1)
playable w emit = true
playable w (replay copy place) = reachable w.stream (w.replayed copy) (place - 1)
playable w (value copy key) = true

unfoldable pub all_playable : World → List Line → Bool
all_playable w [] = true
all_playable w (l ∷ ls) = pick (playable w l) (all_playable (step w (call_of w l)).world ls) false

pub is_at : {A : Type 0} (l : List A) (i : ℕ) (d : A) → i < length l → Member (get_or l i d) l
is_at [] i d h = absurd (omega arith)
is_at (a ∷ l) zero d h = here
is_at (a ∷ l) (suc i) d h = there (is_at l i d (omega arith))

reached : (records : List (List ℕ)) (taken i : ℕ) → reachable records taken i ≡ true → Reached records taken (get_or records i [])
unfolding reachable
reached records taken i e =
    let b = leb i taken in
    let t = ltb i (length records) in
    (i, leb-true i taken (picked_left b t e), ltb-true i (length records) (picked_right b t e), refl)

handed : (w : World) (l : Line) → playable w l ≡ true → Handed w (call_of w l)
unfolding playable call_of
handed w (begin s d) e = tt
handed w (enlist tx site) e = tt
handed w (read s tx key) e = tt
handed w (write s tx key start n) e = tt
handed w (search s snapshot key) e = tt
handed w (commit tx) e = tt
handed w (commit_at s tx) e = tt
handed w (abandon tx) e = tt
handed w (take from to n) e =
    let i = sent_at w.sent from to n in
    inl (is_at w.sent i [] (ltb-true i (length w.sent) e))
handed w (install s) e = tt
handed w (report s) e = tt
handed w (merge s place) e = inr (inl (s, reached (w.log s) (w.merged s) (place - 1) e))
handed w emit e = tt
handed w (replay copy place) e = inr (inr (reached w.stream (w.replayed copy) (place - 1) e))
handed w (value copy key) e = tt

pub lawful : (w : World) (ls : List Line) → all_playable w ls ≡ true → Lawful w (calls_from w ls)
unfolding all_playable calls_from
lawful w [] e = tt
lawful w (l ∷ ls) e =
    let w' = (step w (call_of w l)).world in
    let b = playable w l in
    (handed w l (picked_left b (all_playable w' ls) e), lawful w' ls (picked_right b (all_playable w' ls) e))
