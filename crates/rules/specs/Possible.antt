-- Beyond demand 3: what the store leaves, the store takes. In the same lists every state stays possible, every message written passes the
-- check of the site that it goes to, and the next one of a channel is taken, or refused 13 at the end of a count.
use Rattle.std.specs.Prelude.{ℕ, ◌+◌, ◌-◌, ◌≤◌, ◌≡◌, true, false, ◌⊎◌, List, length, get_or}
use Rattle.kinds.specs.Sizes as sizes
use Rattle.kinds.specs.Reason as reason
use Rattle.kinds.specs.declared.House.{House}
use Rattle.kinds.specs.declared.Site.{Site}
use Rattle.kinds.specs.declared.Answer.TheVariants.{Refused}
use Rattle.rules.specs.House.{is_site, is_key, GoodHouse}
use Rattle.rules.specs.Desk.{is_desk}
use Rattle.rules.specs.Message.{message_head, message_ok}
use Rattle.rules.specs.Record.{part_ok, state_ok, merged_ok}
use Rattle.rules.specs.Valid.{handed_ok}
use Rattle.rules.specs.Merger.{merger_ok}
use Rattle.rules.specs.World as world
use Rattle.rules.specs.World.{Call, World, Member, Lawful, fresh_world, step, run}

-- Cause 2: what is handed in is impossible by itself, whatever state the list left
abbrev pub Impossible : House → Call → Type 0
Impossible o (world.begin s d) = (is_site o s ≡ false) ⊎ (is_desk d ≡ false)
Impossible o (world.enlist s out tx site) = (is_site o s ≡ false) ⊎ (is_site o site ≡ false)
Impossible o (world.read s tx key) = (is_site o s ≡ false) ⊎ (is_key key ≡ false)
Impossible o (world.write s tx key v) = (is_site o s ≡ false) ⊎ (is_key key ≡ false)
Impossible o (world.search s p key) = (is_site o s ≡ false) ⊎ (is_key key ≡ false)
Impossible o (world.commit s out tx) = is_site o s ≡ false
Impossible o (world.abandon s out tx) = is_site o s ≡ false
Impossible o (world.message s out m) = (is_site o s ≡ false) ⊎ (message_ok o m ≡ false)
Impossible o (world.install s out) = is_site o s ≡ false
Impossible o (world.report s out) = is_site o s ≡ false
Impossible o (world.merge m) = (part_ok o m ≡ false) × (state_ok o m ≡ false)
Impossible o (world.emit out) = ⊥
Impossible o (world.replay c m) = merged_ok m ≡ false
Impossible o (world.value c key) = sizes.keys ≤ key

-- every state and lent table that the list left is possible, so no call is refused 2 for one of them
pub record StatesPossible (o : House) (w : World) : Type 0 where
  pub house : (s : ℕ) → is_site o s ≡ true → (w.site s).house ≡ o
  pub site : (s : ℕ) → is_site o s ≡ true → handed_ok (w.site s) (w.lists s) ≡ true
  pub base : (s : ℕ) → is_site o s ≡ true → length (w.base s) ≡ sizes.base
  pub merger_house : w.merger.house ≡ o
  pub merger : merger_ok w.merger w.queues ≡ true
  pub copy : (c : ℕ) → length (w.copy c) ≡ sizes.copy
  pub calls : (c : Call) → (step w c).answer ≡ Refused reason.malformed → Impossible o c

-- a message that a call wrote passes the check at the site that it goes to
abbrev pub MessagesPass : House → World → Type 0
MessagesPass o w =
    (m : List ℕ) → Member m w.sent → (let to = (message_head m).to in (is_site o to ≡ true) × (message_ok (w.site to).house m ≡ true))

-- a count of messages from site s to a site of the house is at its end
abbrev pub CountEnds : House → Site → Type 0
CountEnds o s = (r : ℕ) × (is_site o r ≡ true) × (sizes.last ≤ get_or s.channels.sent (r - 1) 0)

-- so the next message of its channel, handed to its site with a buffer of 7,966 words, is taken: nothing refuses it but 13, where a count
-- is at its end
abbrev pub NextGoes : House → World → Type 0
NextGoes o w =
    (m out : List ℕ) → Member m w.sent → sizes.outgoing ≤ length out
    → (let h = message_head m in
    let s = w.site h.to in
    h.channel ≡ get_or s.channels.taken (h.from - 1) 0 + 1
    → (n : ℕ) → (step w (world.message h.to out m)).answer ≡ Refused n → (n ≡ reason.spent) × CountEnds o s)

-- the claim: any list of the fourteen calls, from a fresh house that is good
unfoldable pub Possible : Type 0
Possible =
    (o : House) (calls : List Call) → GoodHouse o → Lawful (fresh_world o) calls
    → (let w = run (fresh_world o) calls in StatesPossible o w × MessagesPass o w × NextGoes o w)
