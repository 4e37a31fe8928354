-- Posts after a move: old messages still say what is so, and a new one does too.
use Prim.Native.Nat.{ℕ, ◌≤◌, ◌<◌}
use mathlib.Core.Path.{◌≡◌, refl, sym, ◌∙◌}
use mathlib.Core.Bool.{true, false}
use mathlib.Core.Logic.{◌⊎◌, inl, inr}
use mathlib.Core.List.{List, [], ◌∷◌, ◌++◌}
use native.Mathlib.Omega.{arith}
use lib.ListN.{length, get_or, length-append, get_or-append}
use Rattle.kinds.specs.declared.House.{House}
use Rattle.laws.specs.Choice.{set_not}
use Rattle.kinds.specs.State.{no_sub}
use Rattle.rules.specs.House.{coordinator_of, in_mask}
use Rattle.rules.proofs.Lists.Tables.{All, a_nil, all_map, all_append, all_one, all_at, last_cases}
use Rattle.rules.proofs.Protocol.ProtocolTables.{Protocol, Msg, IsJoin, m_join, m_joined, m_prepare, m_conc, m_cert, m_vote, m_commit}
use Rattle.rules.proofs.Protocol.ProtocolTables.{m_abort}
use Rattle.rules.proofs.Protocol.Protocol.{course_at, Move}
use Rattle.rules.proofs.Protocol.Protocol.{fresh_protocol}
use Rattle.rules.proofs.Protocol.Invariants.{Held, In, MsgOk, Posts, Invariant}
use Rattle.rules.proofs.Protocol.Frames.{in_range_lem}
use Rattle.rules.proofs.Protocol.Later.{Later, Begins, Asks, later}
use Rattle.rules.proofs.Protocol.Masked.{MaskedAll, masked}
use Rattle.rules.proofs.Protocol.Mail.{Site, FirstJoin, Fit, Grown, Mail, mail, takes}

-- A channel that has grown by at most one message.
grown_length : {P : Msg → Type 0} (l k : List Msg) → Grown P l k → length l ≤ length k
grown_length l k (inl e) = rw e (omega arith)
grown_length l k (inr (m, e, f)) = rw e (omega (arith, length-append l (m ∷ [])))

grown_at : {P : Msg → Type 0} (l k : List Msg) (d : Msg) → Grown P l k → (j : ℕ) → j < length l → get_or k j d ≡ get_or l j d
grown_at l k d (inl e) j h = rw e
grown_at l k d (inr (m, e, f)) j h = rw e (get_or-append l (m ∷ []) d j h)

-- each JOIN stands once
abbrev JoinOnce : List Msg → Type 0
JoinOnce l = (t i j : ℕ) → i < length l → j < length l → IsJoin t (get_or l i (m_abort 0)) → IsJoin t (get_or l j (m_abort 0)) → i ≡ j

once_more : (l : List Msg) (m : Msg) → JoinOnce l → ((t k : ℕ) → IsJoin t m → k < length l → IsJoin t (get_or l k (m_abort 0)) → ⊥)
    → JoinOnce (l ++ (m ∷ []))
once_more l m o n t i j x y =
    last_cases (λ i a. IsJoin t a → IsJoin t (get_or (l ++ (m ∷ [])) j (m_abort 0)) → i ≡ j) l m (m_abort 0)
    (λ i h e. last_cases (λ j b. IsJoin t b → i ≡ j) l m (m_abort 0) (λ j k f. o t i j h k e f) (λ f. absurd (n t i f h e)) j y)
    (λ e. last_cases (λ j b. IsJoin t b → length l ≡ j) l m (m_abort 0) (λ j k f. absurd (n t j e k f)) (λ f. refl) j y)
    i x

module _ (house : House) (p q : Protocol) (inv : Invariant house p) (l : Later p q) (k : MaskedAll house p q) where
  -- JOIN: the mask of its coordinator
  join_later : (a b t d : ℕ) → MsgOk house p a b (m_join t d) → MsgOk house q a b (m_join t d)
  join_later a b t d (c, h, n, s, x, y) =
      (c, l.has a t h, n, s, (λ z. let g = (k a t c).grows h z in g.1 b (x g.0)), λ e. now e (l.asks t e))
    where
      now : q.asked t ≡ true → (p.asked t ≡ true) ⊎ Asks p q t → in_mask (q.mask t) b ≡ true
      now e (inl f) = rw (l.asked t f).1 (y f)
      now e (inr (f, m)) = rw (m, c) (x (λ z. let w = rw c at f in omega arith))

  msg_later : (a b : ℕ) (m : Msg) → MsgOk house p a b m → MsgOk house q a b m
  msg_later a b (m_join t d) h = join_later a b t d h
  msg_later a b (m_joined t r) (c, n, h) = (c, n, λ e. l.has a t (h e))
  msg_later a b (m_prepare t n m) (c, h, e, x, y) = let g = l.asked t h in (c, g.0, e ∙ sym g.1, rw g.1 x, y)
  msg_later a b (m_conc t es) (c, n, h, e) = let g = l.made a t h in (c, n, g.0, g.1 ∙ e)
  msg_later a b (m_cert t es) (c, h, e, x, y) = let g = l.certed t h in
      (c, g.0, g.1 ∙ e, rw (l.asked t (inv.account.certed_asked t h)).1 x, y)
  msg_later a b (m_vote t n r) (c, x, h) = (c, x, λ e. let g = l.yes a t (h e).0 in (g.0, g.1 ∙ (h e).1))
  msg_later a b (m_commit t n) (c, e, h) = (c, l.num t (rw e h) ∙ e, h)
  msg_later a b (m_abort t) (c, h) = (c, l.dead t h)

  old : (a b : ℕ) → All (MsgOk house q a b) (p.post a b)
  old a b = all_map (msg_later a b) (inv.posts.ok a b)

  grown_ok : (a b : ℕ) (k : List Msg) → Grown (Fit house p q a b) (p.post a b) k → All (MsgOk house q a b) k
  grown_ok a b k (inl e) = rw e (old a b)
  grown_ok a b k (inr (m, e, f)) = rw e (all_append (old a b) (all_one f.0))

  grown_sender : (a b : ℕ) (k : List Msg) → Grown (Fit house p q a b) (p.post a b) k → 0 < length k → Site house a × Site house b
  grown_sender a b k (inl e) h = inv.posts.sender a b (rw e at h)
  grown_sender a b k (inr (m, e, f)) h = f.1

  -- a JOIN that is written now was not written before
  first : (a b : ℕ) (m : Msg) → FirstJoin p a b m → (t j : ℕ) → IsJoin t m → j < length (p.post a b)
      → IsJoin t (get_or (p.post a b) j (m_abort 0)) → ⊥
  first a b m f t j (d, e) h (c, x) =
      let g : FirstJoin p a b (m_join t d) = rw e at f in
      let o : MsgOk house p a b (m_join t c) = rw x at (all_at (inv.posts.ok a b) (m_abort 0) j h) in
      set_not _ (o.4 g.0) g.1

  grown_once : (a b : ℕ) (k : List Msg) → Grown (Fit house p q a b) (p.post a b) k → JoinOnce k
  grown_once a b k (inl e) = rw e (inv.posts.join_once a b)
  grown_once a b k (inr (m, e, f)) = rw e (once_more (p.post a b) m (inv.posts.join_once a b) (first a b m f.2))

  pub posts_of : Mail house p q → ((a b : ℕ) → (p.taken a b ≤ q.taken a b) × (q.taken a b ≤ length (p.post a b))) → Posts house q
  posts_of g w =
      record {
        ok = λ a b. grown_ok a b _ (g a b);
        count = λ a b. omega (arith, w a b, grown_length _ _ (g a b));
        sender = λ a b. grown_sender a b _ (g a b);
        members = λ t r h e. member t r ((k (coordinator_of t) t refl).within h r e);
        join_once = λ a b. grown_once a b _ (g a b);
        join_taken = λ s t h n. taken s t n (l.begins s t h);
      }
    where
      member : (t r : ℕ) → (Held p (coordinator_of t) t × In (course_at p (coordinator_of t) t).mask r) ⊎ (r ≤ house.sites)
          → r ≤ house.sites
      member t r (inl (h, e)) = inv.posts.members t r h e
      member t r (inr h) = h

      kept : (s t j : ℕ) → j < length (p.post (coordinator_of t) s) → j < q.taken (coordinator_of t) s
          → IsJoin t (get_or (p.post (coordinator_of t) s) j (m_abort 0))
          → (j : ℕ) × (j < q.taken (coordinator_of t) s) × IsJoin t (get_or (q.post (coordinator_of t) s) j (m_abort 0))
      kept s t j x y (d, e) = (j, y, (d, grown_at _ _ (m_abort 0) (g (coordinator_of t) s) j x ∙ e))

      taken : (s t : ℕ) → (s ≡ coordinator_of t → ⊥) → (p.has s t ≡ true) ⊎ Begins p q s t
          → (j : ℕ) × (j < q.taken (coordinator_of t) s) × IsJoin t (get_or (q.post (coordinator_of t) s) j (m_abort 0))
      taken s t n (inl h) =
          let (j, x, e) = inv.posts.join_taken s t h n in
          kept s t j (omega (arith, x, inv.posts.count (coordinator_of t) s)) (omega (arith, x, w (coordinator_of t) s)) e
      taken s t n (inr (inl e)) = absurd (n (sym e))
      taken s t n (inr (inr (d, x, y))) = kept s t (p.taken (coordinator_of t) s) x.some y
          (d, in_range_lem (p.post (coordinator_of t) s) (p.taken (coordinator_of t) s) (m_abort 0) (m_join t d) x.some ∙ x.is)

pub posts_step : (house : House) (p q : Protocol) → house.sites ≤ 8 → Move house p q → Invariant house p → Posts house q
posts_step house p q h m i = posts_of house p q i (later house p i q m) (masked house p i q m) (mail house p i q m) (takes house p i q m)

pub posts_fresh : (house : House) → Posts house fresh_protocol
unfolding fresh_protocol no_sub
posts_fresh house =
    record {
      ok = λ a b. a_nil;
      count = λ a b. omega arith;
      sender = λ a b h. absurd (omega arith);
      members = λ t r h e. absurd (h refl);
      join_once = λ a b t i j x. absurd (omega arith);
      join_taken = λ s t h n. absurd (set_not false h refl);
    }
