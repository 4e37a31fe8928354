-- H3, and H10 to H15: what a call of the site in a place leaves, the words of all sites before and after it.
use Rattle.std.specs.Prelude.{ℕ, ◌≡◌, List, length}
use Rattle.laws.specs.Overlay.{overlay}
use Rattle.kinds.specs.Sizes as sizes
use Rattle.kinds.specs.declared.Core.{Core}
use Rattle.kinds.specs.declared.Reply.{Reply}
use Rattle.kinds.specs.declared.Site.{Site}
use Rattle.rules.specs.Effect.{Effect}
use Rattle.rules.specs.Deliver.{message_of}
use Rattle.lent.specs.Lent.{site_of, Replied}
use Rattle.lines.specs.declared.Command.{Command}
use Rattle.pieces.specs.Own.{own, Only}
use Rattle.calls.specs.Calls.{effect_of, base_left, lists_left}

-- live parts, histories, base values and gathered lists of all sites
pub record Words : Type 0 where
  pub live : List ℕ
  pub history : List ℕ
  pub base : List ℕ
  pub lists : List ℕ

abbrev pub words : (live history base lists : List ℕ) → Words
words live history base lists = record { live = live; history = history; base = base; lists = lists }

-- those of the site in place i
abbrev pub own_live : ℕ → Words → List ℕ
own_live i t = own sizes.live_words i t.live

abbrev pub own_history : ℕ → Words → List ℕ
own_history i t = own sizes.history_words i t.history

abbrev pub own_base : ℕ → Words → List ℕ
own_base i t = own sizes.base i t.base

abbrev pub own_lists : ℕ → Words → List ℕ
own_lists i t = own sizes.lists i t.lists

-- the site in place i, whose core is p
abbrev pub site_in : ℕ → Core → Words → Site
site_in i p t = site_of p (own_live i t) (own_history i t)

-- u is t with only the words of the site in place i replaced
pub record Elsewhere (i : ℕ) (t u : Words) : Type 0 where
  pub live : Only sizes.live_words i t.live u.live
  pub history : Only sizes.history_words i t.history u.history
  pub base : Only sizes.base i t.base u.base
  pub lists : Only sizes.lists i t.lists u.lists

-- A call of the site in place i, whose core is p: the words t and the buffer out before it, its effect e, the reply r, and the
-- words u and the buffer left after it. It leaves the base values b and the lists l of that site.
pub record Leaves (i : ℕ) (p : Core) (t : Words) (out : List ℕ) (e : Effect) (b l : List ℕ) (r : Reply) (u : Words) (left : List ℕ)
    : Type 0 where
  pub replied : Replied p (own_live i t) (own_history i t) r (own_live i u) (own_history i u) e
  pub base : own_base i u ≡ b
  pub lists : own_lists i u ≡ l
  pub others : Elsewhere i t u
  pub wrote : left ≡ overlay out e.words

-- the effect of a line's call there, and of the message m
unfoldable pub line_effect : Command → ℕ → Core → Words → List ℕ → Effect
line_effect c i p t out = effect_of c (site_in i p t) (own_base i t) (own_lists i t) (length out)

unfoldable pub message_effect : List ℕ → ℕ → Core → Words → List ℕ → Effect
message_effect m i p t out = message_of (site_in i p t) (length out) (own_lists i t) m

-- what a line's call leaves there
unfoldable pub LineLeaves : Command → ℕ → Core → Words → List ℕ → Reply → Words → List ℕ → Type 0
LineLeaves c i p t out r u left =
    let e = line_effect c i p t out in
    Leaves i p t out e (base_left c e (own_base i t)) (lists_left c e (own_lists i t)) r u left

-- What the message m leaves there. It is lent no base values: whatever they are, they stay; and so do the histories.
unfoldable pub MessageLeaves : List ℕ → ℕ → Core → (live history lists out : List ℕ) → Reply → (live' lists' left : List ℕ) → Type 0
MessageLeaves m i p live history lists out r live' lists' left =
    (base : List ℕ)
    → let t = words live history base lists in
    let e = message_effect m i p t out in
    Leaves i p t out e (own_base i t) e.lent r (words live' history base lists') left
