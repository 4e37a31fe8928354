-- H1 to H20: where a line's call goes, what it hands in, and the refusals that arise before the store is asked. A place below the
-- number of sites is a site, less 1; then comes the merger, then the copies.
use Rattle.std.specs.Prelude.{◌≡◌, ℕ, ◌+◌, ◌-◌, ◌*◌, ◌≤◌, Bool, true, [], ◌∷◌, nat_le}
use Rattle.std.proofs.Common.{leb-true}
use Rattle.laws.specs.Choice.{pick, every, every_at}
use Rattle.kinds.specs.Sizes as sizes
use Rattle.kinds.specs.Reason as reason
use Rattle.rules.specs.House.{house_of, is_site, coordinator_of}
use Rattle.lines.specs.declared.Command.{Command}
use Rattle.lines.specs.declared.Command.TheVariants as command
use Rattle.routing.specs.declared.route.Route.{Route}

abbrev pub copies : ℕ
copies = 8

-- the places behind the sites
abbrev pub merger : ℕ
merger = sizes.sites

abbrev pub first_copy : ℕ
first_copy = merger + 1

abbrev pub nowhere : ℕ
nowhere = first_copy + copies

-- the queues: a channel for each two sites, a log for each site, the stream, and a cursor in it for each copy; none behind them
abbrev pub channel : ℕ → ℕ → ℕ
channel from to = from * sizes.sites + to

abbrev pub log : ℕ → ℕ
log site = sizes.sites * sizes.sites + site

abbrev pub stream : ℕ
stream = log sizes.sites

abbrev pub cursor : ℕ → ℕ
cursor copy = stream + 1 + copy

abbrev pub none : ℕ
none = cursor copies

abbrev pub refuse : ℕ → Route
refuse code = record { place = nowhere; queue = none; code = code }

abbrev pub goes : ℕ → ℕ → Route
goes place queue = record { place = place; queue = queue; code = 0 }

-- a site of a house of so many,
unfoldable pub has_site : ℕ → ℕ → Bool
has_site sites site = is_site (house_of sites []) site

-- with a place
unfoldable pub is_placed : ℕ → ℕ → Bool
is_placed sites site = every (has_site sites site ∷ nat_le site sizes.sites ∷ [])

unfoldable pub to_site : ℕ → ℕ → Route
to_site sites site = pick (is_placed sites site) (goes (site - 1) none) (refuse reason.malformed)

-- a number whose coordinator the house lacks is held nowhere
unfoldable pub to_coordinator : ℕ → ℕ → Route
to_coordinator sites tx = pick (has_site sites (coordinator_of tx)) (to_site sites (coordinator_of tx)) (refuse reason.unknown)

unfoldable pub to_enlister : ℕ → ℕ → ℕ → Route
to_enlister sites tx site = pick (has_site sites site) (to_coordinator sites tx) (refuse reason.malformed)

-- a message's receiver, with the channel from its sender
unfoldable pub to_receiver : ℕ → ℕ → ℕ → Route
to_receiver sites from to =
    pick (every (is_placed sites from ∷ is_placed sites to ∷ [])) (goes (to - 1) (channel (from - 1) (to - 1))) (refuse reason.malformed)

unfoldable pub from_log : ℕ → ℕ → Route
from_log sites site = pick (is_placed sites site) (goes merger (log (site - 1))) (refuse reason.malformed)

abbrev pub is_copy : ℕ → Bool
is_copy copy = every (nat_le 1 copy ∷ nat_le copy copies ∷ [])

unfoldable pub to_copy : ℕ → Route
to_copy copy = pick (is_copy copy) (goes (first_copy + (copy - 1)) none) (refuse reason.malformed)

unfoldable pub from_stream : ℕ → Route
from_stream copy = pick (is_copy copy) (goes (first_copy + (copy - 1)) (cursor (copy - 1))) (refuse reason.malformed)

unfoldable pub route_of : ℕ → Command → Route
route_of sites (command.Sites n given) = refuse reason.malformed
route_of sites (command.Begin site d) = to_site sites site
route_of sites (command.Enlist tx site) = to_enlister sites tx site
route_of sites (command.Read site tx key) = to_site sites site
route_of sites (command.Write site tx key start length) = to_site sites site
route_of sites (command.Commit tx) = to_coordinator sites tx
route_of sites (command.Abandon tx) = to_coordinator sites tx
route_of sites (command.Take from to) = to_receiver sites from to
route_of sites (command.Install site) = to_site sites site
route_of sites (command.Report site) = to_site sites site
route_of sites (command.Merge site) = from_log sites site
route_of sites command.Emit = goes merger none
route_of sites (command.Replay copy) = from_stream copy
route_of sites (command.Value copy key) = to_copy copy
route_of sites command.Bad = refuse reason.malformed

-- what a placed site says
pub record Placed (site : ℕ) : Type 0 where
  pub low : 1 ≤ site
  pub high : site ≤ sizes.sites

pub placed : (sites : ℕ) (site : ℕ) → is_placed sites site ≡ true → Placed site
unfolding is_placed has_site is_site
placed sites site e =
    let both = has_site sites site ∷ nat_le site sizes.sites ∷ [] in
    let inside = nat_le 1 site ∷ nat_le site sites ∷ [] in
    record { low = leb-true 1 site (every_at inside 0 (every_at both 0 e)); high = leb-true site sizes.sites (every_at both 1 e) }
