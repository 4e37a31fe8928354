-- A core with its lent words, read as the site of the rules; and what a call leaves of both.
use Rattle.std.specs.Prelude.{ℕ, ◌≡◌, List, [], ◌∷◌, Bool, length, eqb}
use Rattle.laws.specs.Choice.{pick, every}
use Rattle.kinds.specs.Sizes as sizes
use Rattle.kinds.specs.declared.House.{House}
use Rattle.kinds.specs.declared.Core.{Core}
use Rattle.kinds.specs.declared.Reply.{Reply}
use Rattle.kinds.specs.declared.Site.{Site}
use Rattle.rules.specs.House.{no_house}
use Rattle.rules.specs.Effect.{Effect}
use Rattle.lent.specs.Rows.{each}
use Rattle.lent.specs.Layout.{live_of, history_of, seat_of, live_words, history_words}

-- the lengths of the tables' words
unfoldable pub lent_ok : ℕ → ℕ → Bool
lent_ok live history = every (eqb live sizes.live_words ∷ eqb history sizes.history_words ∷ [])

-- words of another length make the house impossible, so that every call refuses 2,
unfoldable pub lent_house : House → ℕ → ℕ → House
lent_house o live history = pick (lent_ok live history) o no_house

-- and the number of sites at a start
unfoldable pub lent_sites : ℕ → ℕ → ℕ → ℕ
lent_sites sites live history = pick (lent_ok live history) sites 0

-- the site that a core and its words are
abbrev pub site_of : Core → List ℕ → List ℕ → Site
site_of p w h =
    record {
      house = lent_house p.house (length w) (length h);
      counters = p.counters;
      channels = p.channels;
      live = live_of p.seats w;
      history = history_of h;
    }

-- what a site is in a core and in words: the house stays, and words of another length stay
abbrev pub core_of : Core → Site → Core
core_of p s = record { house = p.house; counters = s.counters; channels = s.channels; seats = each seat_of s.live }

unfoldable pub live_left : List ℕ → Site → List ℕ
live_left w s = pick (eqb (length w) sizes.live_words) (live_words s.live) w

unfoldable pub history_left : List ℕ → Site → List ℕ
history_left h s = pick (eqb (length h) sizes.history_words) (history_words s.history) h

-- what a call on p, w and h leaves, where the rules leave s: each is an equation, and the next call reads s
pub record Left (p : Core) (w h : List ℕ) (q : Core) (v g : List ℕ) (s : Site) : Type 0 where
  pub core : q ≡ core_of p s
  pub live : v ≡ live_left w s
  pub history : g ≡ history_left h s
  pub seen : site_of q v g ≡ s

-- a call's reply r, and what it leaves, are those of the effect e
pub record Replied (p : Core) (w h : List ℕ) (r : Reply) (v g : List ℕ) (e : Effect) : Type 0 where
  pub answer : r.answer ≡ e.answer
  pub words : r.words ≡ length e.words
  pub left : Left p w h r.core v g e.site
