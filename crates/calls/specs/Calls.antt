-- H3, and H10 to H15: a line as the call of its site, and what that call leaves, as a step of the list of calls.
use Rattle.std.specs.Prelude.{ℕ, ◌≡◌, refl, Bool, true, false, List, [], eqb, length}
use Rattle.std.proofs.Common.{eq-eqb}
use Rattle.laws.specs.Choice.{pick}
use Rattle.laws.specs.Overlay.{overlay}
use Rattle.kinds.specs.Reason as reason
use Rattle.kinds.specs.Sizes as sizes
use Rattle.kinds.specs.State.{sub_at}
use Rattle.kinds.specs.declared.Answer.TheVariants.{Found}
use Rattle.kinds.specs.declared.Core.{Core}
use Rattle.kinds.specs.declared.Reply.{Reply}
use Rattle.kinds.specs.declared.Site.{Site}
use Rattle.kinds.specs.declared.Value.{Value}
use Rattle.rules.specs.Effect.{Effect, refused, unless}
use Rattle.rules.specs.Desk.{is_desk}
use Rattle.rules.specs.Begin.{begin_code, begun, begin_of}
use Rattle.rules.specs.Course.{quietly}
use Rattle.rules.specs.History.{is_forgotten}
use Rattle.rules.specs.Keys.{read_key, wrote_key, wrote_value}
use Rattle.rules.specs.Live.{free_place, place_of, stage_at}
use Rattle.rules.specs.Valid.{site_ok}
use Rattle.rules.specs.Enlist.{enlist_of}
use Rattle.rules.specs.Access.{access_code, read_code, read_version, read_at, read_of, late_code, written, write_at, write_of}
use Rattle.rules.specs.Commit.{commit_of, abandon_of}
use Rattle.rules.specs.Install.{install_of, report_of}
use Rattle.rules.specs.World as world
use Rattle.rules.specs.World.{World, Call, step, site_step, log_step, upd}
use Rattle.lent.specs.Lent.{site_of, Replied}
use Rattle.lines.specs.declared.Command.{Command}
use Rattle.lines.specs.declared.Command.TheVariants as command

-- the value that a write line gives
abbrev pub highlight : (start long : ℕ) → Value
highlight start long = record { start = start; length = long }

-- the effect of a line's call on its site, with the site's base values and lists and an outgoing buffer of n words
unfoldable pub effect_of : Command → Site → List ℕ → List ℕ → ℕ → Effect
effect_of (command.Begin site d) s base lists n = begin_of s d
effect_of (command.Enlist tx site) s base lists n = enlist_of s n tx site
effect_of (command.Read site tx key) s base lists n = read_of s base tx key
effect_of (command.Write site tx key start long) s base lists n = write_of s tx key (highlight start long)
effect_of (command.Commit tx) s base lists n = commit_of s n lists tx
effect_of (command.Abandon tx) s base lists n = abandon_of s n tx
effect_of (command.Install site) s base lists n = install_of s n base
effect_of (command.Report site) s base lists n = report_of s n
effect_of (command.Sites n' given) s base lists n = refused reason.malformed s []
effect_of (command.Take from to) s base lists n = refused reason.malformed s []
effect_of (command.Merge site) s base lists n = refused reason.malformed s []
effect_of command.Emit s base lists n = refused reason.malformed s []
effect_of (command.Replay copy) s base lists n = refused reason.malformed s []
effect_of (command.Value copy key) s base lists n = refused reason.malformed s []
effect_of command.Bad s base lists n = refused reason.malformed s []

-- the base values and the lists after it: only install changes the one, only commit the other
unfoldable pub base_left : Command → Effect → List ℕ → List ℕ
base_left (command.Install site) e base = e.lent
base_left (command.Sites n given) e base = base
base_left (command.Begin site d) e base = base
base_left (command.Enlist tx site) e base = base
base_left (command.Read site tx key) e base = base
base_left (command.Write site tx key start long) e base = base
base_left (command.Commit tx) e base = base
base_left (command.Abandon tx) e base = base
base_left (command.Take from to) e base = base
base_left (command.Report site) e base = base
base_left (command.Merge site) e base = base
base_left command.Emit e base = base
base_left (command.Replay copy) e base = base
base_left (command.Value copy key) e base = base
base_left command.Bad e base = base

unfoldable pub lists_left : Command → Effect → List ℕ → List ℕ
lists_left (command.Commit tx) e lists = e.lent
lists_left (command.Sites n given) e lists = lists
lists_left (command.Begin site d) e lists = lists
lists_left (command.Enlist tx site) e lists = lists
lists_left (command.Read site tx key) e lists = lists
lists_left (command.Write site tx key start long) e lists = lists
lists_left (command.Abandon tx) e lists = lists
lists_left (command.Take from to) e lists = lists
lists_left (command.Install site) e lists = lists
lists_left (command.Report site) e lists = lists
lists_left (command.Merge site) e lists = lists
lists_left command.Emit e lists = lists
lists_left (command.Replay copy) e lists = lists
lists_left (command.Value copy key) e lists = lists
lists_left command.Bad e lists = lists

-- What a line's call leaves of its site's own words and of the buffer: the reply r, and w' to out' where w to out were.
abbrev pub OwnLeaves : Command → Core → (w h base lists out : List ℕ) → Reply → (w' h' base' lists' out' : List ℕ) → Type 0
OwnLeaves c p w h base lists out r w' h' base' lists' out' =
    let e = effect_of c (site_of p w h) base lists (length out) in
    Replied p w h r w' h' e × ((base' ≡ base_left c e base) × ((lists' ≡ lists_left c e lists) × (out' ≡ overlay out e.words)))

-- The call of a site's line in a list of calls, at site s with the outgoing buffer out.
pub data Makes : Command → ℕ → List ℕ → Call → Type 0 where
  begin : (site d s : ℕ) (out : List ℕ) → Makes (command.Begin site d) s out (world.begin s d)
  enlist : (tx site s : ℕ) (out : List ℕ) → Makes (command.Enlist tx site) s out (world.enlist s out tx site)
  read : (site tx key s : ℕ) (out : List ℕ) → Makes (command.Read site tx key) s out (world.read s tx key)
  write : (site tx key start long s : ℕ) (out : List ℕ)
      → Makes (command.Write site tx key start long) s out (world.write s tx key (highlight start long))
  commit : (tx s : ℕ) (out : List ℕ) → Makes (command.Commit tx) s out (world.commit s out tx)
  abandon : (tx s : ℕ) (out : List ℕ) → Makes (command.Abandon tx) s out (world.abandon s out tx)
  install : (site s : ℕ) (out : List ℕ) → Makes (command.Install site) s out (world.install s out)
  report : (site s : ℕ) (out : List ℕ) → Makes (command.Report site) s out (world.report s out)

-- What the line's effect leaves is what the list's step leaves at that site.
pub record Steps (w : World) (c : Command) (s : ℕ) (out : List ℕ) (k : Call) : Type 0 where
  pub answer : (step w k).answer ≡ (effect_of c (w.site s) (w.base s) (w.lists s) (length out)).answer
  pub words : (step w k).words ≡ (effect_of c (w.site s) (w.base s) (w.lists s) (length out)).words
  pub site : (step w k).world.site s ≡ (effect_of c (w.site s) (w.base s) (w.lists s) (length out)).site
  pub base : (step w k).world.base s ≡ base_left c (effect_of c (w.site s) (w.base s) (w.lists s) (length out)) (w.base s)
  pub lists : (step w k).world.lists s ≡ lists_left c (effect_of c (w.site s) (w.base s) (w.lists s) (length out)) (w.lists s)

at_own : {A : Type 0} (f : ℕ → A) (s : ℕ) (a : A) → upd f s a s ≡ a
unfolding upd
at_own f s a = rw (eq-eqb s s refl)

pub steps : (w : World) (c : Command) (s : ℕ) (out : List ℕ) (k : Call) → Makes c s out k → Steps w c s out k
unfolding step site_step log_step effect_of base_left lists_left
steps w c s out k (begin site d _ _) =
    record { answer = refl; words = refl; site = at_own w.site s _; base = at_own w.base s _; lists = at_own w.lists s _ }
steps w c s out k (enlist tx site _ _) =
    record { answer = refl; words = refl; site = at_own w.site s _; base = at_own w.base s _; lists = at_own w.lists s _ }
steps w c s out k (read site tx key _ _) =
    record { answer = refl; words = refl; site = at_own w.site s _; base = at_own w.base s _; lists = at_own w.lists s _ }
steps w c s out k (write site tx key start long _ _) =
    record { answer = refl; words = refl; site = at_own w.site s _; base = at_own w.base s _; lists = at_own w.lists s _ }
steps w c s out k (commit tx _ _) =
    record { answer = refl; words = refl; site = at_own w.site s _; base = at_own w.base s _; lists = at_own w.lists s _ }
steps w c s out k (abandon tx _ _) =
    record { answer = refl; words = refl; site = at_own w.site s _; base = at_own w.base s _; lists = at_own w.lists s _ }
steps w c s out k (install site _ _) =
    record { answer = refl; words = refl; site = at_own w.site s _; base = at_own w.base s _; lists = refl }
steps w c s out k (report site _ _) =
    record { answer = refl; words = refl; site = at_own w.site s _; base = at_own w.base s _; lists = refl }

-- Begin, read and write send nothing.
quiet : (b : Bool) (e f : Effect) → e.words ≡ [] → f.words ≡ [] → (pick b e f).words ≡ []
quiet true e f p q = p
quiet false e f p q = q

pub begin_quiet : (s : Site) (d : ℕ) → (begin_of s d).words ≡ []
unfolding begin_of begun
begin_quiet s d = quiet (eqb (begin_code (site_ok s) (is_desk d) s.counters (free_place s.live)) 0) _ _ refl refl

read_at_quiet : (s : Site) (base : List ℕ) (place k : ℕ) → (read_at s base place k).words ≡ []
unfolding read_at read_version
read_at_quiet s base place k =
    let b = sub_at s place in
    let code = read_code (is_forgotten s.counters.installs b.snapshot) (read_key b.keys k) b.keys.read in
    quiet (wrote_key b.keys k) (record { answer = Found (wrote_value b.keys k); words = []; site = s; lent = [] })
    (unless code s [] (read_version s base place k)) refl (quiet (eqb code 0) (read_version s base place k) (refused code s []) refl refl)

pub read_quiet : (s : Site) (base : List ℕ) (tx k : ℕ) → (read_of s base tx k).words ≡ []
unfolding read_of
read_quiet s base tx k =
    let place = place_of s.live tx in
    let code = access_code (site_ok s) (length base) s.house s.counters.own k place (stage_at s.live place) in
    quiet (eqb code 0) (read_at s base place k) (refused code s []) (read_at_quiet s base place k) refl

write_at_quiet : (s : Site) (place k : ℕ) (v : Value) → (write_at s place k v).words ≡ []
unfolding write_at written quietly
write_at_quiet s place k v = quiet (eqb (late_code s place k v) 0) (written s place k v) (refused (late_code s place k v) s []) refl refl

pub write_quiet : (s : Site) (tx k : ℕ) (v : Value) → (write_of s tx k v).words ≡ []
unfolding write_of
write_quiet s tx k v =
    let place = place_of s.live tx in
    let code = access_code (site_ok s) sizes.base s.house s.counters.own k place (stage_at s.live place) in
    quiet (eqb code 0) (write_at s place k v) (refused code s []) (write_at_quiet s place k v) refl
