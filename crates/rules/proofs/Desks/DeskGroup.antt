-- The desks after any moves: one for each transaction that began, which its JOINs carry and its parts have. A part wrote no more keys than
-- it allows.
use Prim.Native.Nat.{ℕ, ◌≤◌}
use mathlib.Core.Path.{◌≡◌, refl, sym, ◌∙◌}
use mathlib.Core.Bool.{true, false}
use mathlib.Core.Logic.{inl, inr}
use mathlib.Core.List.{List}
use native.Mathlib.Omega.{arith}
use Rattle.kinds.specs.declared.House.{House}
use Rattle.laws.specs.Choice.{set_not}
use Rattle.kinds.specs.Stage as stage
use Rattle.kinds.specs.declared.Course.{Course}
use Rattle.kinds.specs.declared.Keys.{Keys}
use Rattle.kinds.specs.declared.Sub.{Sub}
use Rattle.kinds.specs.State.{no_sub, no_keys, with_course, with_keys}
use Rattle.rules.specs.House.{coordinator_of}
use Rattle.rules.specs.Desk.{write_limit}
use Rattle.rules.specs.Course.{new_sub}
use Rattle.rules.specs.World.{upd}
use Rattle.rules.proofs.Lists.Tables.{All, a_nil, all_map, all_append, all_one, all_at, all_both, upd_same, upd_other, upd₂}
use Rattle.rules.proofs.Lists.Tables.{upd₂_cases, upd₂_both}
use Rattle.rules.proofs.Protocol.ProtocolTables.{Protocol, Msg, m_join, m_joined, m_prepare, m_conc, m_cert, m_vote, m_commit, m_abort}
use Rattle.rules.proofs.Protocol.Protocol.{Next, Move, begin, enlist, access, request, abort, cast, decide, install, report, joins}
use Rattle.rules.proofs.Protocol.Protocol.{full, joined, prepared, lost, unknown, gathers, certified, rejects, votes, commits}
use Rattle.rules.proofs.Protocol.Protocol.{aborts, passes, fresh_protocol}
use Rattle.rules.proofs.Protocol.Invariants.{Held, MsgOk, Invariant}
use Rattle.rules.proofs.Protocol.Frames.{new_tx}
use Rattle.rules.proofs.Protocol.Later.{later}
use Rattle.rules.proofs.Protocol.Mail.{FirstJoin, Fit, Grown, mail}

-- a JOIN is for its transaction's desk
abbrev pub ForDesk : (ℕ → ℕ) → Msg → Type 0
ForDesk desk (m_join t d) = d ≡ desk t
ForDesk desk (m_joined t r) = Unit {0}
ForDesk desk (m_prepare t n m) = Unit {0}
ForDesk desk (m_conc t es) = Unit {0}
ForDesk desk (m_cert t es) = Unit {0}
ForDesk desk (m_vote t n r) = Unit {0}
ForDesk desk (m_commit t n) = Unit {0}
ForDesk desk (m_abort t) = Unit {0}

pub record Desks (desk : ℕ → ℕ) (p : Protocol) : Type 0 where
  pub joins : (a b : ℕ) → All (ForDesk desk) (p.post a b)
  pub held : (s t : ℕ) → Held p s t → (p.live s t).desk ≡ desk t
  pub few : (s t : ℕ) → p.has s t ≡ true → (p.keys s t).wrote ≤ write_limit (desk t)

-- t's part began at its coordinator
abbrev pub Begun : Protocol → ℕ → Type 0
Begun p t = p.has (coordinator_of t) t ≡ true

-- The desks after some moves: those of the transactions that had begun stay.
pub record DesksAfter (desk : ℕ → ℕ) (p q : Protocol) : Type 0 where
  pub after : ℕ → ℕ
  pub desks : Desks after q
  pub same : (t : ℕ) → Begun p t → (after t ≡ desk t) × Begun q t

pub desks_fresh : Desks (λ t. 0) fresh_protocol
unfolding fresh_protocol no_sub
desks_fresh =
    record { joins = λ a b. a_nil; held = λ s t h. absurd (h refl); few = λ s t e. absurd (set_not false e refl) }

-- a message of another kind carries no desk, and a JOIN that of the sender's part
carried : (p : Protocol) (desk : ℕ → ℕ) → ((s t : ℕ) → Held p s t → (p.live s t).desk ≡ desk t) → (a b : ℕ) (m : Msg)
    → FirstJoin p a b m → ForDesk desk m
carried p desk x a b (m_join t d) (h, n, e) = e ∙ x a t h
carried p desk x a b (m_joined t r) f = tt
carried p desk x a b (m_prepare t n m) f = tt
carried p desk x a b (m_conc t es) f = tt
carried p desk x a b (m_cert t es) f = tt
carried p desk x a b (m_vote t n r) f = tt
carried p desk x a b (m_commit t n) f = tt
carried p desk x a b (m_abort t) f = tt

-- a JOIN of a transaction that began keeps its desk where another's is set
set_apart : (house : House) (p : Protocol) (desk : ℕ → ℕ) (t d : ℕ) → ((j : ℕ) → p.has j t ≡ true → ⊥) → (a b : ℕ) (m : Msg)
    → MsgOk house p a b m × ForDesk desk m → ForDesk (upd desk t d) m
set_apart house p desk t d new a b (m_join u k) (o, e) = e ∙ sym (upd_other desk t d u (λ z. new a (rw z at o.1)))
set_apart house p desk t d new a b (m_joined u r) f = tt
set_apart house p desk t d new a b (m_prepare u n m) f = tt
set_apart house p desk t d new a b (m_conc u es) f = tt
set_apart house p desk t d new a b (m_cert u es) f = tt
set_apart house p desk t d new a b (m_vote u n r) f = tt
set_apart house p desk t d new a b (m_commit u n) f = tt
set_apart house p desk t d new a b (m_abort u) f = tt

module _ {house : House} {p : Protocol} (i : Invariant house p) {desk : ℕ → ℕ} (x : Desks desk p) where
  -- a held part has its transaction's desk
  abbrev HeldFor : (ℕ → ℕ) → ℕ → Sub → Type 0
  HeldFor f t b = (b.course.stage ≡ stage.free → ⊥) → b.desk ≡ f t

  -- What a move does to the desks; the messages that it writes carry those before it.
  record Turned (q : Protocol) : Type 0 where
    after : ℕ → ℕ
    held : (s t : ℕ) → HeldFor after t (q.live s t)
    few : (s t : ℕ) → q.has s t ≡ true → (q.keys s t).wrote ≤ write_limit (after t)
    same : (t : ℕ) → Begun p t → after t ≡ desk t
    joins : ((a b : ℕ) → All (ForDesk desk) (q.post a b)) → (a b : ℕ) → All (ForDesk after) (q.post a b)

  -- no desk is new
  kept : (q : Protocol) → ((s t : ℕ) → HeldFor desk t (q.live s t))
      → ((s t : ℕ) → q.has s t ≡ true → (q.keys s t).wrote ≤ write_limit (desk t)) → Turned q
  kept q h k = record { after = desk; held = h; few = k; same = λ t e. refl; joins = λ f. f }

  -- nor are keys, and at most one part changes
  one : (q : Protocol) (s t : ℕ) (b : Sub) → HeldFor desk t b → q.live ≡ upd₂ p.live s t b → q.has ≡ p.has → q.keys ≡ p.keys
      → Turned q
  one q s t b h l e k =
      kept q (rw l (upd₂_cases (λ j u c. HeldFor desk u c) p.live s t b h (λ j u n. x.held j u)))
      (λ j u y. rw k (x.few j u (rw e at y)))

  course : (q : Protocol) (s t : ℕ) (c : Course) → Held p s t → q.live ≡ upd₂ p.live s t (with_course (p.live s t) c)
      → q.has ≡ p.has → q.keys ≡ p.keys → Turned q
  course q s t c h = one q s t (with_course (p.live s t) c) (λ n. x.held s t h)

  gone : (q : Protocol) (s t : ℕ) → q.live ≡ upd₂ p.live s t no_sub → q.has ≡ p.has → q.keys ≡ p.keys → Turned q
  unfolding no_sub
  gone q s t = one q s t no_sub (λ n. absurd (n refl))

  still : (q : Protocol) → q.live ≡ p.live → q.has ≡ p.has → q.keys ≡ p.keys → Turned q
  still q l e k = kept q (rw l x.held) (λ j u y. rw k (x.few j u (rw e at y)))

  -- a read or a write
  uses : (q : Protocol) (s t : ℕ) (b : Keys) → Held p s t → b.wrote ≤ write_limit (p.live s t).desk
      → q.live ≡ upd₂ p.live s t (with_keys (p.live s t) b) → q.has ≡ p.has → q.keys ≡ upd₂ p.keys s t b → Turned q
  uses q s t b h w l e k =
      kept q (rw l (upd₂_cases (λ j u c. HeldFor desk u c) p.live s t _ (λ n. x.held s t h) (λ j u n. x.held j u)))
      (rw (e, k)
      (upd₂_cases (λ j u c. p.has j u ≡ true → c.wrote ≤ write_limit (desk u)) p.keys s t b (λ y. rw (x.held s t h) at w)
      (λ j u n. x.few j u)))

  -- JOIN says its transaction's desk, and the part that it begins has it
  said_desk : (a s t d : ℕ) → Next p a s (m_join t d) → d ≡ desk t
  said_desk a s t d n = let z : ForDesk desk (m_join t d) = rw n.is at (all_at (x.joins a s) (m_join t d) (p.taken a s) n.some) in z

  joining : (q : Protocol) (a s t d n : ℕ) → Next p a s (m_join t d) → q.live ≡ upd₂ p.live s t (new_sub t d 0 n)
      → q.has ≡ upd₂ p.has s t true → q.keys ≡ upd₂ p.keys s t no_keys → Turned q
  unfolding new_sub no_keys
  joining q a s t d n next l e k =
      kept q
      (rw l (upd₂_cases (λ j u c. HeldFor desk u c) p.live s t _ (λ z. said_desk a s t d next) (λ j u z. x.held j u)))
      (rw (e, k)
      (upd₂_both (λ j u h c. h ≡ true → c.wrote ≤ write_limit (desk u)) p.has p.keys s t true no_keys (λ z. omega arith)
      (λ j u z. x.few j u)))

  -- begin sets the desk of a new transaction
  begins : (q : Protocol) (s t d mask n : ℕ) → ((j : ℕ) → p.has j t ≡ true → ⊥) → q.live ≡ upd₂ p.live s t (new_sub t d mask n)
      → q.has ≡ upd₂ p.has s t true → q.keys ≡ upd₂ p.keys s t no_keys → q.post ≡ p.post → Turned q
  unfolding new_sub no_keys
  begins q s t d mask n new l e k m =
      record {
        after = set;
        held =
            rw l (upd₂_cases (λ j u c. HeldFor set u c) p.live s t _ (λ z. sym (upd_same desk t d))
            (λ j u o z. x.held j u z ∙ sym (old j u (i.parts.has j u z))));
        few =
            rw (e, k)
            (upd₂_both (λ j u h c. h ≡ true → c.wrote ≤ write_limit (set u)) p.has p.keys s t true no_keys (λ z. omega arith)
            (λ j u o z. rw (old j u z) (x.few j u z)));
        same = λ u z. old (coordinator_of u) u z;
        joins = rw m (λ f a b. all_map (set_apart house p desk t d new a b) (all_both (i.posts.ok a b) (f a b)));
      }
    where
      set : ℕ → ℕ
      set = upd desk t d

      old : (j u : ℕ) → p.has j u ≡ true → set u ≡ desk u
      old j u h = upd_other desk t d u (λ z. new j (rw z at h))

  turned : (q : Protocol) → Move house p q → Turned q
  turned q (begin s t d l m n e) = begins q s t d _ _ (new_tx house p s t i.parts n e) refl refl refl refl
  turned q (enlist s t r c a l m n o) = course q s t _ (λ f. omega arith) refl refl refl
  turned q (access s t b fs a told w f m) = uses q s t b (λ z. omega arith) m refl refl refl
  turned q (request s t es c a l r v) = course q s t _ (λ f. omega arith) refl refl refl
  turned q (abort s t c a d) = gone q s t refl refl refl
  turned q (cast s t es c a l w v) = course q s t _ (λ f. omega arith) refl refl refl
  turned q (decide s t c a l) = course q s t _ (λ f. omega arith) refl refl refl
  turned q (install s t a l) = gone q s t refl refl refl
  turned q (report s n a) = still q refl refl refl
  turned q (joins a s t d n f) = joining q a s t d _ n refl refl refl
  turned q (full a s t d r n z) = still q refl refl refl
  turned q (joined a s t r n y o) = course q s t _ (λ f. omega arith) refl refl refl
  turned q (prepared a s t n m es y z v) = course q s t _ (λ f. omega arith) refl refl refl
  turned q (lost a s t n m r y z o) = course q s t _ (λ f. omega arith) refl refl refl
  turned q (unknown a s t n m r y z o) = still q refl refl refl
  turned q (gathers a s t es y z o) = course q s t _ (λ f. omega arith) refl refl refl
  turned q (certified a s t es y z v) = course q s t _ (λ f. omega arith) refl refl refl
  turned q (rejects a s t r es y z o) = course q s t _ (λ f. omega arith) refl refl refl
  turned q (votes a s t n y z o) = course q s t _ (λ f. omega arith) refl refl refl
  turned q (commits a s t n y z) = course q s t _ (λ f. omega arith) refl refl refl
  turned q (aborts a s t y d) = gone q s t refl refl refl
  turned q (passes a s n m y) = still q refl refl refl

  grown : (q : Protocol) (a b : ℕ) (l : List Msg) → Grown (Fit house p q a b) (p.post a b) l → All (ForDesk desk) l
  grown q a b l (inl e) = rw e (x.joins a b)
  grown q a b l (inr (m, e, f)) = rw e (all_append (x.joins a b) (all_one (carried p desk x.held a b m f.2)))

  pub desks_step : (q : Protocol) → Move house p q → DesksAfter desk p q
  desks_step q m =
      let y = turned q m in
      record {
        after = y.after;
        desks = record { joins = y.joins (λ a b. grown q a b _ (mail house p i q m a b)); held = y.held; few = y.few };
        same = λ t e. (y.same t e, (later house p i q m).has (coordinator_of t) t e);
      }
