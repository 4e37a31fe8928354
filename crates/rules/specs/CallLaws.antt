-- What no refusal says, call by call.
use Rattle.std.specs.Prelude.{ℕ, zero, suc, ◌+◌, ◌-◌, ◌≤◌, ◌<◌, ◌≡◌, refl, Bool, true, false, not, [], ◌∷◌, leb, eqb}
use Rattle.std.proofs.Common.{sym, ◌∙◌, arith, ltb-false, leb-false, eqb-true}
use Rattle.std.proofs.lemmas.Bool.{not-false}
use Rattle.laws.specs.Choice.{every, by_test, set_not}
use Rattle.laws.specs.Cause.{code_of, clear_at, code_append}
use Rattle.kinds.specs.Sizes as sizes
use Rattle.kinds.specs.Stage as stage
use Rattle.kinds.specs.declared.House.{House}
use Rattle.kinds.specs.declared.Site.{Site}
use Rattle.kinds.specs.declared.Value.{Value}
use Rattle.kinds.specs.State.{sub_at}
use Rattle.rules.specs.House.{is_key, home_of}
use Rattle.rules.specs.Desk.{write_limit}
use Rattle.rules.specs.Value.{fits}
use Rattle.rules.specs.Keys.{wrote_key}
use Rattle.rules.specs.Live.{key_held}
use Rattle.rules.specs.History.{is_forgotten, is_newer}
use Rattle.rules.specs.Access.{key_causes, part_causes, key_code, access_causes, access_code, read_causes, read_code, write_causes, write_code}
use Rattle.rules.specs.Access.{long_causes, long_code, write_code_at, late_code}
use Rattle.rules.specs.Enlist.{enlist_causes, enlist_code, joiner_causes, joiner_code}
use Rattle.rules.specs.Commit.{request_causes, request_code, commit_causes, commit_code, abandon_causes, abandon_code}
use Rattle.rules.specs.Deliver.{arrival_causes, arrival_code, next_causes, next_code, reply_causes, reply_code}
use Rattle.rules.specs.Install.{install_causes, install_code, report_causes, report_code}

-- the second of two tests fails where the first holds
pub not_both : (a b : Bool) → every (a ∷ b ∷ []) ≡ false → a ≡ true → b ≡ false
not_both true true e h = e
not_both true false e h = refl
not_both false b e h = absurd (let y : ◌≡◌ {A = ℕ} 0 1 = cc in omega arith)

pub record KeyClear (ok : Bool) (room : ℕ) (o : House) (own : ℕ) (k : ℕ) : Type 0 where
  pub whole : room ≡ sizes.base
  pub valid : ok ≡ true
  pub known : is_key k ≡ true
  pub here : home_of o k ≡ own

pub key_clear : (ok : Bool) (room : ℕ) (o : House) (own : ℕ) (k : ℕ) → key_code ok room o own k ≡ 0 → KeyClear ok room o own k
unfolding key_code
key_clear ok room o own k e =
    let l = key_causes ok room o own k in
    record {
      whole = eqb-true room sizes.base (not-false (eqb room sizes.base) (clear_at l 0 refl e));
      valid = not-false ok (clear_at l 1 refl e);
      known = not-false (is_key k) (clear_at l 2 refl e);
      here = eqb-true (home_of o k) own (not-false (eqb (home_of o k) own) (clear_at l 3 refl e));
    }

-- what is past the causes of the part is past those of the key
pub key_passed : (ok : Bool) (room : ℕ) (o : House) (own : ℕ) (k : ℕ) (place : ℕ) (st : ℕ) → access_code ok room o own k place st ≡ 0
    → key_code ok room o own k ≡ 0
unfolding access_code key_code
key_passed ok room o own k place st e =
    let l = key_causes ok room o own k in
    by_test (eqb (code_of l) 0)
    (λ h. eqb-true (code_of l) 0 h)
    (λ h. rw h at (sym (code_append l (part_causes place st) refl) ∙ e))

pub record AccessClear (ok : Bool) (room : ℕ) (o : House) (own : ℕ) (k : ℕ) (place : ℕ) (st : ℕ) : Type 0 where
  pub key : KeyClear ok room o own k
  pub held : place < sizes.live
  pub active : st ≡ stage.active

pub access_clear : (ok : Bool) (room : ℕ) (o : House) (own : ℕ) (k : ℕ) (place : ℕ) (st : ℕ) → access_code ok room o own k place st ≡ 0
    → AccessClear ok room o own k place st
unfolding access_code
access_clear ok room o own k place st e =
    let l = access_causes ok room o own k place st in
    record {
      key = key_clear ok room o own k (key_passed ok room o own k place st e);
      held = leb-false sizes.live place (clear_at l 4 refl e);
      active = eqb-true st stage.active (not-false (eqb st stage.active) (clear_at l 5 refl e));
    }

pub record ReadClear (lost : Bool) (has : Bool) (read : ℕ) : Type 0 where
  pub kept : lost ≡ false
  pub room : has ≡ false → read < sizes.reads

pub read_clear : (lost : Bool) (has : Bool) (read : ℕ) → read_code lost has read ≡ 0 → ReadClear lost has read
unfolding read_code
read_clear lost has read e =
    let l = read_causes lost has read in
    record {
      kept = (clear_at l 0 refl e);
      room = λ h. leb-false sizes.reads read (not_both (not has) (leb sizes.reads read) (clear_at l 1 refl e) (rw h));
    }

pub record WriteClear (lost : Bool) (held : Bool) (newer : Bool) (most wrote : ℕ) (v : Value) : Type 0 where
  pub kept : lost ≡ false
  pub free : held ≡ false
  pub latest : newer ≡ false
  pub room : wrote < most
  pub short : fits v ≡ true

pub write_clear : (lost : Bool) (held : Bool) (newer : Bool) (most wrote : ℕ) (v : Value) → write_code lost held newer most wrote v ≡ 0
    → WriteClear lost held newer most wrote v
unfolding write_code
write_clear lost held newer most wrote v e =
    let l = write_causes lost held newer most wrote v in
    record {
      kept = (clear_at l 0 refl e);
      free = (clear_at l 1 refl e);
      latest = (clear_at l 2 refl e);
      room = leb-false most wrote (clear_at l 3 refl e);
      short = not-false (fits v) (clear_at l 4 refl e);
    }

pub long_clear : (v : Value) → long_code v ≡ 0 → fits v ≡ true
unfolding long_code
long_clear v e = not-false (fits v) (clear_at (long_causes v) 0 refl e)

-- a write past all its causes: the value fits, and a key that the part has not written is past 8 to 11
pub record LateClear (s : Site) (place k : ℕ) (v : Value) : Type 0 where
  pub short : fits v ≡ true
  pub new : wrote_key (sub_at s place).keys k ≡ false
      → WriteClear (is_forgotten s.counters.installs (sub_at s place).snapshot) (key_held s.live place k)
      (is_newer s.history s.counters.installs (sub_at s place).snapshot k) (write_limit (sub_at s place).desk)
      (sub_at s place).keys.wrote v

pub late_clear : (s : Site) (place k : ℕ) (v : Value) → late_code s place k v ≡ 0 → LateClear s place k v
unfolding late_code write_code_at
late_clear s place k v e =
    by_test (wrote_key (sub_at s place).keys k)
    (λ t. record { short = long_clear v (rw t at e); new = λ f. absurd (set_not _ t f) })
    (λ t. let c = write_clear _ _ _ _ _ v (rw t at e) in record { short = c.short; new = λ f. c })

pub record EnlistClear (ok : Bool) (room : ℕ) (known : Bool) (place : ℕ) (mine : Bool) : Type 0 where
  pub long : sizes.outgoing ≤ room
  pub valid : ok ≡ true
  pub site : known ≡ true
  pub held : place < sizes.live
  pub coordinator : mine ≡ true

pub enlist_clear : (ok : Bool) (room : ℕ) (known : Bool) (place : ℕ) (mine : Bool) → enlist_code ok room known place mine ≡ 0
    → EnlistClear ok room known place mine
unfolding enlist_code
enlist_clear ok room known place mine e =
    let l = enlist_causes ok room known place mine in
    record {
      long = ltb-false room sizes.outgoing (clear_at l 0 refl e);
      valid = not-false ok (clear_at l 1 refl e);
      site = not-false known (clear_at l 2 refl e);
      held = leb-false sizes.live place (clear_at l 3 refl e);
      coordinator = not-false mine (clear_at l 4 refl e);
    }

pub record JoinerClear (st : ℕ) (own : Bool) (there : Bool) (spent : Bool) : Type 0 where
  pub active : st ≡ stage.active
  pub other : own ≡ false
  pub new : there ≡ false
  pub low : spent ≡ false

pub joiner_clear : (st : ℕ) (own : Bool) (there : Bool) (spent : Bool) → joiner_code st own there spent ≡ 0 → JoinerClear st own there spent
unfolding joiner_code
joiner_clear st own there spent e =
    let l = joiner_causes st own there spent in
    record {
      active = eqb-true st stage.active (not-false (eqb st stage.active) (clear_at l 0 refl e));
      other = (clear_at l 1 refl e);
      new = (clear_at l 2 refl e);
      low = (clear_at l 3 refl e);
    }

pub record RequestClear (ok : Bool) (room place : ℕ) (mine : Bool) : Type 0 where
  pub long : sizes.outgoing ≤ room
  pub valid : ok ≡ true
  pub held : place < sizes.live
  pub coordinator : mine ≡ true

pub request_clear : (ok : Bool) (room place : ℕ) (mine : Bool) → request_code ok room place mine ≡ 0 → RequestClear ok room place mine
unfolding request_code
request_clear ok room place mine e =
    let l = request_causes ok room place mine in
    record {
      long = ltb-false room sizes.outgoing (clear_at l 0 refl e);
      valid = not-false ok (clear_at l 1 refl e);
      held = leb-false sizes.live place (clear_at l 2 refl e);
      coordinator = not-false mine (clear_at l 3 refl e);
    }

pub record CommitClear (st : ℕ) (heard : Bool) (low : Bool) : Type 0 where
  pub active : st ≡ stage.active
  pub replied : heard ≡ true
  pub unspent : low ≡ true

pub commit_clear : (st : ℕ) (heard : Bool) (low : Bool) → commit_code st heard low ≡ 0 → CommitClear st heard low
unfolding commit_code
commit_clear st heard low e =
    let l = commit_causes st heard low in
    record {
      active = eqb-true st stage.active (not-false (eqb st stage.active) (clear_at l 0 refl e));
      replied = not-false heard (clear_at l 1 refl e);
      unspent = not-false low (clear_at l 2 refl e);
    }

pub record AbandonClear (st : ℕ) (low : Bool) : Type 0 where
  pub undecided : eqb st stage.decided ≡ false
  pub unspent : low ≡ true

pub abandon_clear : (st : ℕ) (low : Bool) → abandon_code st low ≡ 0 → AbandonClear st low
unfolding abandon_code
abandon_clear st low e =
    let l = abandon_causes st low in
    record {
      undecided = (clear_at l 0 refl e);
      unspent = not-false low (clear_at l 1 refl e);
    }

pub record ArrivalClear (ok : Bool) (room : ℕ) (fine : Bool) : Type 0 where
  pub long : sizes.outgoing ≤ room
  pub valid : ok ≡ true
  pub formed : fine ≡ true

pub arrival_clear : (ok : Bool) (room : ℕ) (fine : Bool) → arrival_code ok room fine ≡ 0 → ArrivalClear ok room fine
unfolding arrival_code
arrival_clear ok room fine e =
    let l = arrival_causes ok room fine in
    record {
      long = ltb-false room sizes.outgoing (clear_at l 0 refl e);
      valid = not-false ok (clear_at l 1 refl e);
      formed = not-false fine (clear_at l 2 refl e);
    }

pub record NextClear (to : ℕ) (own : ℕ) (channel : ℕ) (taken : ℕ) : Type 0 where
  pub here : to ≡ own
  pub in_order_lem : channel ≡ taken + 1

pub next_clear : (to : ℕ) (own : ℕ) (channel : ℕ) (taken : ℕ) → next_code to own channel taken ≡ 0 → NextClear to own channel taken
unfolding next_code
next_clear to own channel taken e =
    let l = next_causes to own channel taken in
    record {
      here = eqb-true to own (not-false (eqb to own) (clear_at l 0 refl e));
      in_order_lem = eqb-true channel (taken + 1) (not-false (eqb channel (taken + 1)) (clear_at l 1 refl e));
    }

pub record ReplyClear (in_turn : Bool) (spent : Bool) : Type 0 where
  pub turn : in_turn ≡ true
  pub low : spent ≡ false

pub reply_clear : (in_turn : Bool) (spent : Bool) → reply_code in_turn spent ≡ 0 → ReplyClear in_turn spent
unfolding reply_code
reply_clear in_turn spent e =
    let l = reply_causes in_turn spent in
    record {
      turn = not-false in_turn (clear_at l 0 refl e);
      low = (clear_at l 1 refl e);
    }

pub record InstallClear (ok : Bool) (room : ℕ) (given : ℕ) (due : Bool) (installs : ℕ) : Type 0 where
  pub long : sizes.part ≤ room
  pub whole : given ≡ sizes.base
  pub valid : ok ≡ true
  pub unspent : installs < sizes.last
  pub least : due ≡ true

pub install_clear : (ok : Bool) (room : ℕ) (given : ℕ) (due : Bool) (installs : ℕ) → install_code ok room given due installs ≡ 0
    → InstallClear ok room given due installs
unfolding install_code
install_clear ok room given due installs e =
    let l = install_causes ok room given due installs in
    record {
      long = ltb-false room sizes.part (clear_at l 0 refl e);
      whole = eqb-true given sizes.base (not-false (eqb given sizes.base) (clear_at l 1 refl e));
      valid = not-false ok (clear_at l 2 refl e);
      unspent = leb-false sizes.last installs
          (not_both due (leb sizes.last installs) (clear_at l 3 refl e) (not-false due (clear_at l 4 refl e)));
      least = not-false due (clear_at l 4 refl e);
    }

pub record ReportClear (ok : Bool) (room : ℕ) : Type 0 where
  pub long : sizes.part ≤ room
  pub valid : ok ≡ true

pub report_clear : (ok : Bool) (room : ℕ) → report_code ok room ≡ 0 → ReportClear ok room
unfolding report_code
report_clear ok room e =
    let l = report_causes ok room in
    record {
      long = ltb-false room sizes.part (clear_at l 0 refl e);
      valid = not-false ok (clear_at l 1 refl e);
    }

-- the number after taken, by the one before channel
pub pred_is : (channel taken : ℕ) → (channel ≡ 0 → ⊥) → channel - 1 ≡ taken → channel ≡ taken + 1
pred_is zero taken n e = absurd (n refl)
pred_is (suc c) taken n e = omega arith
