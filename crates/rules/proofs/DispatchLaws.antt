-- A message that passed the checks, and is the next of its channel, is one of the house.
use Rattle.std.specs.Prelude.{ℕ, ◌≤◌, ◌≡◌, List, true}
use Rattle.std.proofs.Common.{sym, ◌∙◌, arith}
use Rattle.kinds.specs.Sizes as sizes
use Rattle.kinds.specs.declared.Site.{Site}
use Rattle.rules.specs.Message.{message_ok, message_head, message_entries}
use Rattle.rules.specs.MessageLaws.{site_clear, head_clear, passed_good}
use Rattle.rules.specs.Valid.{site_ok}
use Rattle.rules.specs.ValidLaws.{valid_site}
use Rattle.rules.specs.CallLaws.{next_clear}
use Rattle.rules.specs.DispatchLaws.{Incoming, next_in}

pub incoming : (s : Site) (m : List ℕ) → site_ok s ≡ true → message_ok s.house m ≡ true → (message_head m).channel ≤ sizes.last
    → next_in s m ≡ 0
    → Incoming s (message_head m) (message_entries m)
unfolding next_in
incoming s m v ok low e =
    let n = next_clear _ _ _ _ e in
    let g = passed_good s.house m ok in
    let c = head_clear s.house (message_head m) g.head in
    let f = site_clear s.house (message_head m).from c.ends.from in
    record {
      valid = v;
      arriving = record {
        first = f.low;
        last = omega (arith, f.high, (valid_site s v).house.few_sites);
        low = omega (arith, n.in_order_lem);
      };
      apart = λ z. c.ends.apart (z ∙ sym n.here);
      few = c.few;
      size = g.size;
      low_kind_lem = c.ends.low_kind;
      high_kind_lem = c.ends.high_kind;
    }
