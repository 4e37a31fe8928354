-- What a step that sends asks for: a channel to the sender that is not spent, and whole entries.
use Prim.Native.Nat.{ℕ, ◌*◌, ◌≤◌}
use mathlib.Core.Path.{◌≡◌, ap, sym, ◌∙◌}
use mathlib.Core.Bool.{false}
use mathlib.Core.List.{List}
use native.Mathlib.Omega.{arith}
use borrow.Author.Tests.{leb-false}
use lib.ListN.{length, take}
use Rattle.laws.specs.Overlay.{overlay, overlay_back}
use Rattle.kinds.specs.Sizes as sizes
use Rattle.kinds.specs.declared.Site.{Site}
use Rattle.kinds.specs.declared.Turn.{Turn}
use Rattle.rules.specs.Course.{CanSendTo, Entries, channel_spent}
use Rattle.rules.specs.Deliver.{Arriving}
use Rattle.rules.specs.Message.{entry_count}

-- to the sender of a message
pub can_reply : {s : Site} {from room : ℕ} {t u : Turn} → t ≡ u → u.channels.sent ≡ s.channels.sent → Arriving s from
    → sizes.outgoing ≤ room → channel_spent s.channels from ≡ false → CanSendTo t from room
unfolding channel_spent
can_reply e d a l q = rw (e, d) (record { long = l; first = a.first; last = a.last; low = leb-false sizes.last _ q })

-- n entries, whose words es are written over the first words of an array x, and lent on
pub record Written (x es : List ℕ) (n : ℕ) : Type 0 where
  pub are : take (sizes.entry * n) x ≡ es
  pub count : n ≡ entry_count es
  pub long : sizes.entry * n ≡ length (take (sizes.entry * n) x)
  pub entries : n ≤ sizes.cert_entries → Entries (take (sizes.entry * n) x)

pub written : (d x es : List ℕ) (n : ℕ) → x ≡ overlay d es → n ≡ entry_count es → length es ≡ sizes.entry * entry_count es → Written x es n
written d x es n e f w =
    let long : length es ≡ sizes.entry * n = omega (arith, f, w) in
    let b = ap (take (sizes.entry * n)) e ∙ overlay_back d es (sizes.entry * n) long in
    record { are = b; count = f; long = sym (ap length b ∙ long); entries = λ few. rw b (w, omega (arith, f, few)) }
