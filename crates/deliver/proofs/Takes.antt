-- A message that passed the checks reaches its site; a handler of every kind but CONC leaves the gathered lists.
use Prim.Native.Nat.{ℕ, ◌≤◌}
use mathlib.Core.Path.{◌≡◌, refl}
use mathlib.Core.List.{List, []}
use Rattle.laws.specs.Overlay.{overlay, overlay_none}
use Rattle.kinds.specs.declared.Core.{Core}
use Rattle.kinds.specs.declared.MessageHead.{MessageHead}
use Rattle.kinds.specs.declared.Reply.{Reply}
use Rattle.rules.specs.Deliver.{keeping}
use Rattle.rules.specs.DispatchLaws.{Incoming}
use Rattle.rules.specs.Effect.{Effect}
use Rattle.rules.specs.Message.{most_entries}
use Rattle.lent.specs.Lent.{Replied, site_of}
use Rattle.handlers.specs.Held.{Reached}

pub reaches : (p : Core) (w g : List ℕ) {h : MessageHead} {es : List ℕ} → Incoming (site_of p w g) h es → Reached p w g h.from
reaches p w g i = record { possible = i.valid; arriving = i.arriving }

-- its kind bounds its entries
pub few_entries : (count : ℕ) {k n : ℕ} → k ≡ n → count ≤ most_entries k → count ≤ most_entries n
few_entries count e l = rw e at l

module _ {p : Core} {w g v u : List ℕ} {r : Reply} {e : Effect} (lists : List ℕ) (k : Replied p w g r v u e) where
  pub kept : Replied p w g r v u (keeping lists e)
  kept = record { answer = k.answer; words = k.words; left = k.left }

  -- of the effect f: the reply, the lists, and the words over the buffer
  pub sends : {f : Effect} (out after : List ℕ) → f ≡ keeping lists e → after ≡ overlay out e.words
      → Replied p w g r v u f × ((lists ≡ f.lent) × (after ≡ overlay out f.words))
  sends out after q o = rw q (kept, (refl, o))

  -- where it sends nothing
  pub quiet : {f : Effect} (out : List ℕ) → f ≡ keeping lists e → e.words ≡ []
      → Replied p w g r v u f × ((lists ≡ f.lent) × (out ≡ overlay out f.words))
  quiet out q n = sends out out q (rw n (overlay_none out))
