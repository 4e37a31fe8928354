use Prim.Native.Nat.{ℕ, ◌+◌, ◌*◌, ◌/◌, ◌%◌}
use mathlib.Core.Path.{◌≡◌, refl, ◌∙◌}
use mathlib.Core.List.{List, [], ◌∷◌, ◌++◌, append-nil}
use native.Mathlib.Omega.{arith}
use lib.ListN.{length, take, get_or, length-set, length-append, drop_of_length-le}
use lib.Seq.{take_all, length-take-le}
use Rattle.laws.specs.Overlay.{overlay, overlay_none, overlay_more}
use Rattle.rules.specs.Page.{places_of}
use Rattle.rules.specs.PageLaws.{places_more, length_places}
use Rattle.bookmarks.proofs.run.put_places.Goals as goal

overlay_all : (d ws : List ℕ) → length ws ≡ length d → overlay d ws ≡ ws
unfolding overlay
overlay_all d ws e = rw (drop_of_length-le d {i = length ws} (omega arith)) (append-nil ws)

pub loop-i-init : goal.loop-i-init
unfolding places_of
loop-i-init c = (refl, overlay_none _)

pub bounds-out-i-in-loop-i : goal.bounds-out-i-in-loop-i
bounds-out-i-in-loop-i c = simp length-set (omega arith)

pub loop-i-preserved : goal.loop-i-preserved
loop-i-preserved c =
    let a = c.args in
    let l = c.loop-i in
    let before = take l.i a.offsets.now in
    let page = get_or a.offsets.now l.i 0 / a.size in
    let rest = get_or a.offsets.now l.i 0 % a.size in
    let ws = places_of a.size before in
    let n : length ws ≡ 2 * l.i = omega (arith, length_places a.size before, length-take-le l.i a.offsets.now (omega arith)) in
    let m : length (ws ++ (page ∷ [])) ≡ 2 * l.i + 1 = omega (arith, n, length-append ws (page ∷ [])) in
    let x = overlay_more a.out.now ws (2 * l.i) page n (omega arith) in
    let y = overlay_more a.out.now (ws ++ (page ∷ [])) (2 * l.i + 1) rest m (omega arith) in
    let more = places_more a.size a.offsets.now l.i (omega arith) in
    (simp length-set l.invariant.0, rw (l.invariant.1, x, y, ← more) refl)

pub returns : goal.returns
returns c =
    let a = c.args in
    let l = c.loop-i in
    let e : take l.i a.offsets.now ≡ a.offsets.now = take_all l.i a.offsets.now (omega arith) in
    let ws = places_of a.size a.offsets.now in
    let n = length_places a.size a.offsets.now in
    rw e at l.invariant.1 ∙ overlay_all a.out.now ws (omega (arith, n))
