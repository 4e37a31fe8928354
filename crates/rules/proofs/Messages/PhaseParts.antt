-- Phases over a move, by what it does: a participant takes a message and replies or not, or the coordinator hears, asks or passes one by.
use Prim.Native.Nat.{ℕ, ◌+◌, ◌≤◌, ◌<◌}
use mathlib.Core.Path.{◌≡◌, refl, sym, ap, ◌∙◌}
use mathlib.Core.Bool.{true, false}
use mathlib.Core.List.{List, [], ◌∷◌, ◌++◌}
use native.Mathlib.Omega.{arith}
use lib.ListN.{length}
use Rattle.kinds.specs.declared.House.{House}
use Rattle.laws.specs.Choice.{by_test, set_not, by_same}
use Rattle.kinds.specs.declared.Course.{Course}
use Rattle.kinds.specs.declared.Sub.{Sub}
use Rattle.rules.specs.House.{coordinator_of, in_mask}
use Rattle.rules.proofs.Lists.Tables.{upd₂, upd₂_cases, Other₂}
use Rattle.rules.proofs.Protocol.ProtocolTables.{Protocol, Msg}
use Rattle.rules.proofs.Protocol.Protocol.{Next, others, course_at}
use Rattle.rules.proofs.Protocol.Invariants.{In, Invariant}
use Rattle.rules.proofs.Refine.Refines.{tx_in}
use Rattle.rules.proofs.Messages.Pending.{pending, taken_first, taken_not, taken_elsewhere, posted_last, posted_not}
use Rattle.rules.proofs.Messages.Pending.{posted_elsewhere}
use Rattle.rules.proofs.Messages.Pending.{others_not, others_elsewhere, others_apart, others_last}
use Rattle.rules.proofs.Messages.Phases.{Phase, PhaseAt, Phases, along}
use Rattle.rules.proofs.Messages.PhaseTurns.{InRound}

-- all but t's part at s
pub record Part (s t : ℕ) (p q : Protocol) : Type 0 where
  pub live : (j u : ℕ) → Other₂ s t j u → q.live j u ≡ p.live j u
  pub has : (j u : ℕ) → Other₂ s t j u → q.has j u ≡ p.has j u
  pub num : (u : ℕ) → (u ≡ t → ⊥) → q.num u ≡ p.num u
  pub dead : (u : ℕ) → (u ≡ t → ⊥) → q.dead u ≡ p.dead u

-- messages about other transactions
abbrev pub OtherMail : ℕ → Protocol → Protocol → Type 0
OtherMail t p q = (u x y : ℕ) → (u ≡ t → ⊥) → pending q.post q.taken u x y ≡ pending p.post p.taken u x y

module _ {house : House} {p : Protocol} (i : Invariant house p) (f : Phases p) where
  -- phases of other transactions stay
  pub by_tx : (q : Protocol) (s t : ℕ) → Part s t p q → OtherMail t p q
      → ((r : ℕ) → 1 ≤ r → (r ≡ coordinator_of t → ⊥) → PhaseAt q (coordinator_of t) t r) → Phases q
  by_tx q s t a m new u r l n =
      by_same u t
      (λ e. rw e (new r l (rw e at n)))
      (λ e. along (ap (λ (b : Sub). b.course) (a.live (coordinator_of u) u (λ z. e z.1))) (a.num u e) (a.dead u e)
      (a.has r u (λ z. e z.1))
      (ap (λ (b : Sub). b.course.stage) (a.live r u (λ z. e z.1))) (m u (coordinator_of u) r e) (m u r (coordinator_of u) e)
      (f u r l n))

  -- Counts, also after a message taken.
  count : (x y : ℕ) → p.taken x y ≤ length (p.post x y)
  count x y = i.posts.count x y

  count_next : (a s : ℕ) (m : Msg) → Next p a s m → (x y : ℕ) → upd₂ p.taken a s (p.taken a s + 1) x y ≤ length (p.post x y)
  count_next a s m n = upd₂_cases (λ x y k. k ≤ length (p.post x y)) p.taken a s _ (omega (arith, n.some)) (λ x y z. count x y)

  -- a decided transaction has no round
  pub late : (t : ℕ) → 0 < p.num t → InRound (course_at p (coordinator_of t) t).stage → ⊥
  late t l k = omega (arith, i.rounds.undecided t (λ z. omega arith) (λ z. omega arith))

  -- The phase of t and each participant but those whose channels or parts change.
  same_phase : (q : Protocol) (s t o r : ℕ) → Part s t p q → q.num t ≡ p.num t → q.dead t ≡ p.dead t → (o ≡ s → ⊥) → (r ≡ s → ⊥)
      → pending q.post q.taken t o r ≡ pending p.post p.taken t o r
      → pending q.post q.taken t r o ≡ pending p.post p.taken t r o
      → PhaseAt p o t r → PhaseAt q o t r
  same_phase q s t o r part num dead n k x y =
      along (ap (λ (b : Sub). b.course) (part.live o t (λ z. n z.0))) num dead (part.has r t (λ z. k z.0))
      (ap (λ (b : Sub). b.course.stage) (part.live r t (λ z. k z.0))) x y

  -- A message about t from a is taken at s; the number and the abort stay.
  module _ (q : Protocol) (a s t : ℕ) (m : Msg) (next : Next p a s m) (about : tx_in m ≡ t) (part : Part s t p q) (num : q.num t ≡ p.num t)
      (dead : q.dead t ≡ p.dead t)
      (taken : q.taken ≡ upd₂ p.taken a s (p.taken a s + 1)) where
    not_about : (u : ℕ) → (u ≡ t → ⊥) → tx_in m ≡ u → ⊥
    not_about u n e = n (sym e ∙ about)

    abbrev stepped : ℕ → ℕ → ℕ
    stepped = upd₂ p.taken a s (p.taken a s + 1)

    -- t's coordinator asked: s takes it, and what goes back grows by `more`
    answered : (more : List Msg → List Msg) → coordinator_of t ≡ a → (s ≡ a → ⊥) → OtherMail t p q
        → pending p.post p.taken t a s ≡ m ∷ pending q.post q.taken t a s
        → pending q.post q.taken t s a ≡ more (pending p.post p.taken t s a)
        → ((x y : ℕ) → Other₂ a s x y → Other₂ s a x y → pending q.post q.taken t x y ≡ pending p.post p.taken t x y)
        → ((fw bk : List Msg) → Phase t s (course_at p a t) (p.num t) (p.dead t) (p.has s t) (course_at p s t).stage (m ∷ fw) bk
        → Phase t s (course_at p a t) (p.num t) (p.dead t) (q.has s t) (course_at q s t).stage fw (more bk))
        → Phases q
    answered more c o mail ahead back rest on =
        by_tx q s t part mail (λ r l n. rw c (by_same r s (λ e. rw e (here (rw e at l))) (λ e. there r l (rw c at n) e)))
      where
        here : 1 ≤ s → PhaseAt q a t s
        here l =
            along (ap (λ (b : Sub). b.course) (part.live a t (λ z. o (sym z.0)))) num dead refl refl refl back
            (on _ _ (along refl refl refl refl refl (sym ahead) refl (rw c at (f t s l (λ z. o (z ∙ c))))))

        there : (r : ℕ) → 1 ≤ r → (r ≡ a → ⊥) → (r ≡ s → ⊥) → PhaseAt q a t r
        there r l n e =
            same_phase q s t a r part num dead (λ z. o (sym z)) e (rest a r (λ z. e z.1) (λ z. n z.1))
            (rest r a (λ z. n z.0) (λ z. e z.0))
            (rw c at (f t r l (rw c n)))

    -- with nothing written
    module _ (post : q.post ≡ p.post) where
      other_mail : OtherMail t p q
      other_mail u x y n = rw (post, taken) (taken_not p.post p.taken u a s m next.some next.is (not_about u n) x y)

      elsewhere : (x y : ℕ) → Other₂ a s x y → pending q.post q.taken t x y ≡ pending p.post p.taken t x y
      elsewhere x y n = rw (post, taken) (taken_elsewhere p.post p.taken t a s x y n)

      first : pending p.post p.taken t a s ≡ m ∷ pending q.post q.taken t a s
      first = rw (post, taken) (taken_first p.post p.taken t a s m next.some next.is about)

      -- COMMIT or ABORT taken
      pub takes : coordinator_of t ≡ a → (s ≡ a → ⊥)
          → ((fw bk : List Msg) → Phase t s (course_at p a t) (p.num t) (p.dead t) (p.has s t) (course_at p s t).stage (m ∷ fw) bk
          → Phase t s (course_at p a t) (p.num t) (p.dead t) (q.has s t) (course_at q s t).stage fw bk)
          → Phases q
      takes c o = answered (λ l. l) c o other_mail first (elsewhere s a (λ z. o z.0)) (λ x y n k. elsewhere x y n)

      -- a reply heard by t's coordinator
      pub hears : coordinator_of t ≡ s → (s ≡ a → ⊥)
          → ((fw bk : List Msg) → Phase t a (course_at p s t) (p.num t) (p.dead t) (p.has a t) (course_at p a t).stage fw (m ∷ bk)
          → Phase t a (course_at q s t) (p.num t) (p.dead t) (p.has a t) (course_at p a t).stage fw bk)
          → ((r : ℕ) → 1 ≤ r → (r ≡ a → ⊥) → (r ≡ s → ⊥)
          → (fw bk : List Msg) → Phase t r (course_at p s t) (p.num t) (p.dead t) (p.has r t) (course_at p r t).stage fw bk
          → Phase t r (course_at q s t) (p.num t) (p.dead t) (p.has r t) (course_at p r t).stage fw bk)
          → Phases q
      hears c o on wide =
          by_tx q s t part other_mail (λ r l n. rw c (by_same r a (λ e. rw e (here (rw e at l))) (λ e. there r l (rw c at n) e)))
        where
          here : 1 ≤ a → PhaseAt q s t a
          here l =
              along refl num dead (part.has a t (λ z. o (sym z.0)))
              (ap (λ (b : Sub). b.course.stage) (part.live a t (λ z. o (sym z.0))))
              (elsewhere s a (λ z. o z.0)) refl
              (on _ _ (along refl refl refl refl refl refl (sym first) (rw c at (f t a l (λ z. o (sym (z ∙ c)))))))

          there : (r : ℕ) → 1 ≤ r → (r ≡ s → ⊥) → (r ≡ a → ⊥) → PhaseAt q s t r
          there r l n e =
              along refl num dead (part.has r t (λ z. n z.0)) (ap (λ (b : Sub). b.course.stage) (part.live r t (λ z. n z.0)))
              (elsewhere s r (λ z. o z.0)) (elsewhere r s (λ z. e z.0))
              (wide r l e n _ _ (rw c at (f t r l (rw c n))))

      -- on no channel between t's coordinator and another
      pub own_channel : coordinator_of t ≡ s → a ≡ s
          → ((r : ℕ) → (fw bk : List Msg) → Phase t r (course_at p s t) (p.num t) (p.dead t) (p.has r t) (course_at p r t).stage fw bk
          → Phase t r (course_at q s t) (p.num t) (p.dead t) (p.has r t) (course_at p r t).stage fw bk)
          → Phases q
      own_channel c o on =
          by_tx q s t part other_mail (λ r l n. rw c (there r l (rw c at n)))
        where
          there : (r : ℕ) → 1 ≤ r → (r ≡ s → ⊥) → PhaseAt q s t r
          there r l n =
              along refl num dead (part.has r t (λ z. n z.0)) (ap (λ (b : Sub). b.course.stage) (part.live r t (λ z. n z.0)))
              (elsewhere s r (λ z. n z.1)) (elsewhere r s (λ z. n (z.0 ∙ o))) (on r _ _ (rw c at (f t r l (rw c n))))

    -- with a reply written
    pub answers : (k : Msg) → tx_in k ≡ t → q.post ≡ upd₂ p.post s a (p.post s a ++ (k ∷ [])) → coordinator_of t ≡ a → (s ≡ a → ⊥)
        → ((fw bk : List Msg) → Phase t s (course_at p a t) (p.num t) (p.dead t) (p.has s t) (course_at p s t).stage (m ∷ fw) bk
        → Phase t s (course_at p a t) (p.num t) (p.dead t) (q.has s t) (course_at q s t).stage fw (bk ++ (k ∷ [])))
        → Phases q
    answers k e post c o =
        answered (λ l. l ++ (k ∷ [])) c o
        (λ u x y n. rw (post, taken)
        (posted_not p.post stepped u (count_next a s m next) s a k (λ z. n (sym z ∙ e)) x y
        ∙ taken_not p.post p.taken u a s m next.some next.is (not_about u n) x y))
        (rw (post, taken)
        (taken_first p.post p.taken t a s m next.some next.is about
        ∙ ap (λ (l : List Msg). m ∷ l) (sym (posted_elsewhere p.post stepped t s a k a s (λ z. o (sym z.0))))))
        (rw (post, taken)
        (posted_last p.post stepped t (count_next a s m next) s a k e
        ∙ ap (λ (l : List Msg). l ++ (k ∷ [])) (taken_elsewhere p.post p.taken t a s s a (λ z. o z.0))))
        (λ x y u v. rw (post, taken) (posted_elsewhere p.post stepped t s a k x y v ∙ taken_elsewhere p.post p.taken t a s x y u))

  -- t's coordinator s takes nothing.
  module _ (q : Protocol) (s t : ℕ) (c : coordinator_of t ≡ s) (part : Part s t p q) (taken : q.taken ≡ p.taken) where
    -- a phase of t's after the move, from that before it: `ahead` is what is under way to r now
    own_phase : (r : ℕ) (ahead : List Msg) → 1 ≤ r → (r ≡ s → ⊥) → pending q.post q.taken t s r ≡ ahead
        → pending q.post q.taken t r s ≡ pending p.post p.taken t r s
        → (PhaseAt p s t r
        → Phase t r (course_at q s t) (q.num t) (q.dead t) (p.has r t) (course_at p r t).stage ahead (pending p.post p.taken t r s))
        → PhaseAt q s t r
    own_phase r ahead l n x y on =
        along refl refl refl (part.has r t (λ z. n z.0)) (ap (λ (b : Sub). b.course.stage) (part.live r t (λ z. n z.0))) x y
        (on (rw c at (f t r l (rw c n))))

    -- what t's coordinator does to its own phases, by what it writes to each
    abbrev Does : ℕ → (List Msg → List Msg) → Type 0
    Does r more =
        (fw bk : List Msg) → Phase t r (course_at p s t) (p.num t) (p.dead t) (p.has r t) (course_at p r t).stage fw bk
        → Phase t r (course_at q s t) (q.num t) (q.dead t) (p.has r t) (course_at p r t).stage (more fw) bk

    pub writes_all : (mask : ℕ) (m : Msg) → tx_in m ≡ t → q.post ≡ others p.post s mask m
        → ((r : ℕ) → In mask r → (r ≡ s → ⊥) → Does r (λ l. l ++ (m ∷ [])))
        → ((r : ℕ) → 1 ≤ r → (In mask r → ⊥) → Does r (λ l. l)) → Phases q
    writes_all mask m e post to apart =
        by_tx q s t part (λ u x y n. rw (post, taken) (others_not p.post p.taken u count s mask m (λ z. n (sym z ∙ e)) x y))
        (λ r l n. rw c (by_test (in_mask mask r) (λ k. here r l (rw c at n) k) (λ k. there r l (rw c at n) k)))
      where
        back : (r : ℕ) → (r ≡ s → ⊥) → pending q.post q.taken t r s ≡ pending p.post p.taken t r s
        back r n = rw (post, taken) (others_elsewhere p.post p.taken t s mask m r s n)

        here : (r : ℕ) → 1 ≤ r → (r ≡ s → ⊥) → in_mask mask r ≡ true → PhaseAt q s t r
        here r l n k =
            own_phase r _ l n (rw (post, taken) (others_last p.post p.taken t count s mask m r e l k n)) (back r n)
            (to r (l, k) n _ _)

        there : (r : ℕ) → 1 ≤ r → (r ≡ s → ⊥) → in_mask mask r ≡ false → PhaseAt q s t r
        there r l n k =
            own_phase r _ l n (rw (post, taken) (others_apart p.post p.taken t s mask m r k)) (back r n)
            (apart r l (λ z. set_not _ z.1 k) _ _)

    pub writes_one : (b : ℕ) (m : Msg) → tx_in m ≡ t → (b ≡ s → ⊥) → q.post ≡ upd₂ p.post s b (p.post s b ++ (m ∷ []))
        → Does b (λ l. l ++ (m ∷ [])) → ((r : ℕ) → 1 ≤ r → (r ≡ b → ⊥) → Does r (λ l. l)) → Phases q
    writes_one b m e o post to apart =
        by_tx q s t part (λ u x y n. rw (post, taken) (posted_not p.post p.taken u count s b m (λ z. n (sym z ∙ e)) x y))
        (λ r l n. rw c (by_same r b (λ k. rw k (here (rw k at l))) (λ k. there r l (rw c at n) k)))
      where
        elsewhere : (x y : ℕ) → Other₂ s b x y → pending q.post q.taken t x y ≡ pending p.post p.taken t x y
        elsewhere x y n = rw (post, taken) (posted_elsewhere p.post p.taken t s b m x y n)

        here : 1 ≤ b → PhaseAt q s t b
        here l = own_phase b _ l o (rw (post, taken) (posted_last p.post p.taken t count s b m e))
            (elsewhere b s (λ z. o z.0)) (to _ _)

        there : (r : ℕ) → 1 ≤ r → (r ≡ s → ⊥) → (r ≡ b → ⊥) → PhaseAt q s t r
        there r l n k = own_phase r _ l n (elsewhere s r (λ z. k z.1)) (elsewhere r s (λ z. n z.0)) (apart r l k _ _)

    pub writes_none : q.post ≡ p.post → ((r : ℕ) → 1 ≤ r → Does r (λ l. l)) → Phases q
    writes_none post on =
        by_tx q s t part (λ u x y n. rw (post, taken))
        (λ r l n. rw c (own_phase r _ l (rw c at n) (rw (post, taken)) (rw (post, taken)) (on r l _ _)))

  -- Nothing is taken or written: a participant's part leaves, or no course changes.
  pub leaves : (q : Protocol) (s t : ℕ) → (s ≡ coordinator_of t → ⊥) → Part s t p q → q.num t ≡ p.num t → q.dead t ≡ p.dead t
      → q.taken ≡ p.taken → q.post ≡ p.post
      → ((fw bk : List Msg) → Phase t s (course_at p (coordinator_of t) t) (p.num t) (p.dead t) (p.has s t) (course_at p s t).stage fw bk
      → Phase t s (course_at p (coordinator_of t) t) (p.num t) (p.dead t) (q.has s t) (course_at q s t).stage fw bk)
      → Phases q
  leaves q s t o part num dead taken post on =
      by_tx q s t part (λ u x y n. rw (post, taken)) (λ r l n. by_same r s (λ e. rw e (here (rw e at l))) (λ e. there r l n e))
    where
      here : 1 ≤ s → PhaseAt q (coordinator_of t) t s
      here l =
          along (ap (λ (b : Sub). b.course) (part.live (coordinator_of t) t (λ z. o (sym z.0)))) num dead refl refl (rw (post, taken))
          (rw (post, taken)) (on _ _ (f t s l o))

      there : (r : ℕ) → 1 ≤ r → (r ≡ coordinator_of t → ⊥) → (r ≡ s → ⊥) → PhaseAt q (coordinator_of t) t r
      there r l n e =
          same_phase q s t (coordinator_of t) r part num dead (λ z. o (sym z)) e (rw (post, taken)) (rw (post, taken)) (f t r l n)

  pub still : (q : Protocol) → ((j u : ℕ) → course_at q j u ≡ course_at p j u) → q.has ≡ p.has → q.num ≡ p.num → q.dead ≡ p.dead
      → q.taken ≡ p.taken → q.post ≡ p.post
      → Phases q
  still q live has num dead taken post t r l n =
      along (live (coordinator_of t) t) (rw num) (rw dead) (rw has) (ap (λ (c : Course). c.stage) (live r t)) (rw (post, taken))
      (rw (post, taken)) (f t r l n)
