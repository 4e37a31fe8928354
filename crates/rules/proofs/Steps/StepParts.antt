-- Parts after a move: a part begins once, keeps what it began with, and is installed or freed.
use Prim.Native.Nat.{ℕ, ◌+◌, ◌≤◌, ◌<◌}
use mathlib.Core.Path.{◌≡◌, refl, sym, ap, ◌∙◌}
use mathlib.Core.Bool.{true, false}
use mathlib.Core.Logic.{◌⊎◌, inl, inr}
use mathlib.Core.List.{List, [], ◌∷◌, ◌++◌}
use native.Mathlib.Omega.{arith}
use lib.ListN.{length, get_or, length-append}
use Rattle.laws.specs.Choice.{set_not}
use Rattle.kinds.specs.Sizes as sizes
use Rattle.kinds.specs.declared.House.{House}
use Rattle.kinds.specs.Stage as stage
use Rattle.kinds.specs.declared.Keys.{Keys}
use Rattle.kinds.specs.declared.Course.{Course}
use Rattle.kinds.specs.declared.Sub.{Sub}
use Rattle.kinds.specs.declared.Entry.{Entry}
use Rattle.kinds.specs.State.{no_sub, no_keys, past_entry, with_course, with_keys}
use Rattle.rules.specs.House.{coordinator_of, serial_of, tx_of, mask_of}
use Rattle.rules.specs.Course.{new_sub}
use Rattle.rules.specs.Install.{entry_of}
use Rattle.rules.specs.World.{upd}
use Rattle.rules.proofs.Lists.Tables.{upd₂, upd_same, upd_cases, upd₂_cases, upd₂_same, upd₂_both, last_cases}
use Rattle.rules.proofs.Protocol.ProtocolTables.{Protocol, Rec, r_part, r_state, parts_of, inst, set_serial, set_keys}
use Rattle.rules.proofs.Protocol.Protocol.{AtStage, began_at, with_live}
use Rattle.rules.proofs.Protocol.ProtocolTables.{set_log}
use Rattle.rules.proofs.Protocol.Protocol.{took, Move, begin, enlist, access, request, abort, cast, decide, install, report, joins}
use Rattle.rules.proofs.Protocol.Protocol.{full, joined, prepared, lost, unknown, gathers, certified, rejects, votes, commits}
use Rattle.rules.proofs.Protocol.Protocol.{aborts, passes}
use Rattle.rules.proofs.Protocol.ProtocolTables.{m_join}
use Rattle.rules.proofs.Protocol.Protocol.{fresh_protocol, Next}
use Rattle.rules.proofs.Protocol.Invariants.{Held, at, Parts, Invariant}
use Rattle.rules.proofs.Protocol.Frames.{kept₂, said, ends, tx_coordinator, tx_serial, new_tx, new_join}

-- A part kept or freed: what it began with stays.
pub record Kept (b c : Sub) : Type 0 where
  pub free : b.course.stage ≡ stage.free → c.course.stage ≡ stage.free
  pub tx : (c.course.stage ≡ stage.free → ⊥) → c.tx ≡ b.tx
  pub snap : (c.course.stage ≡ stage.free → ⊥) → c.snapshot.installs ≡ b.snapshot.installs
  pub keys : (c.course.stage ≡ stage.free → ⊥) → c.keys ≡ b.keys

kept_same : (b : Sub) → Kept b b
kept_same b = record { free = λ f. f; tx = λ h. refl; snap = λ h. refl; keys = λ h. refl }

kept_course : (b : Sub) (c : Course) → (b.course.stage ≡ stage.free → ⊥) → Kept b (with_course b c)
kept_course b c h = record { free = λ f. absurd (h f); tx = λ k. refl; snap = λ k. refl; keys = λ k. refl }

kept_gone : (b : Sub) → Kept b no_sub
unfolding no_sub
kept_gone b = record { free = λ f. refl; tx = λ k. absurd (k refl); snap = λ k. absurd (k refl); keys = λ k. absurd (k refl) }

abbrev KeptAll : Protocol → Protocol → Type 0
KeptAll p q = (s t : ℕ) → Kept (p.live s t) (q.live s t)

one_kept : (p : Protocol) (s t : ℕ) (b : Sub) → Kept (p.live s t) b → (j u : ℕ) → Kept (p.live j u) (upd₂ p.live s t b j u)
one_kept p s t b k = upd₂_cases (λ j u c. Kept (p.live j u) c) p.live s t b k (λ j u n. kept_same (p.live j u))

-- the rest as it was
abbrev Same : Protocol → Protocol → Type 0
Same p q = (q.has ≡ p.has) × (q.snap ≡ p.snap) × (q.keys ≡ p.keys) × (q.serial ≡ p.serial) × ((s : ℕ) → inst q s ≡ inst p s)

parts_kept : (house : House) (p q : Protocol) → Same p q → KeptAll p q → Parts house p → Parts house q
parts_kept house p q (h, n, b, l, e) k i =
    record {
      tx = λ s t x. (k s t).tx x ∙ i.tx s t (held s t x);
      has = λ s t x. rw h (i.has s t (held s t x));
      snap = λ s t x. rw n ((k s t).snap x ∙ i.snap s t (held s t x));
      keys = λ s t x. rw b ((k s t).keys x ∙ i.keys s t (held s t x));
      low = λ s t x. rw (n, e s) (i.low s t (rw h at x));
      entry_has = λ s j x. rw (h, e s) (i.entry_has s j (rw (e s) at x));
      entry_keys = λ s j x. rw (b, e s) (i.entry_keys s j (rw (e s) at x));
      entry_gone = λ s j x. rw (e s) ((k s _).free (i.entry_gone s j (rw (e s) at x)));
      entry_once = λ s j m x y z. i.entry_once s j m (rw (e s) at x) (rw (e s) at y) (rw (e s) at z);
      site = λ s t x. i.site s t (rw h at x);
      coordinator = λ s t x. rw h (i.coordinator s t (rw h at x));
      serial = λ s t x. rw l (i.serial s t (rw h at x));
    }
  where
    held : (s t : ℕ) → Held q s t → Held p s t
    held s t x f = x ((k s t).free f)

-- a part begins, where none has: its transaction's coordinator has one, and gave its serial
parts_began : (house : House) (p : Protocol) (s t d mask : ℕ) → (p.has s t ≡ true → ⊥) → (1 ≤ s) × (s ≤ house.sites)
    → (coordinator_of t ≡ s) ⊎ (p.has (coordinator_of t) t ≡ true) → (1 ≤ serial_of t) × (serial_of t ≤ p.serial (coordinator_of t))
    → Parts house p → Parts house (began_at p s t d mask)
unfolding new_sub
parts_began house p s t d mask none here coord ser i =
    record {
      tx = upd₂_cases (λ j u b. (b.course.stage ≡ stage.free → ⊥) → b.tx ≡ u) p.live s t _ (λ x. refl) (λ j u n. i.tx j u);
      has = upd₂_both (λ j u b h. (b.course.stage ≡ stage.free → ⊥) → h ≡ true) p.live p.has s t _ true (λ x. refl)
          (λ j u n. i.has j u);
      snap =
          upd₂_both (λ j u b k. (b.course.stage ≡ stage.free → ⊥) → b.snapshot.installs ≡ k) p.live p.snap s t _ _ (λ x. refl)
          (λ j u n. i.snap j u);
      keys = upd₂_both (λ j u b k. (b.course.stage ≡ stage.free → ⊥) → b.keys ≡ k) p.live p.keys s t _ _ (λ x. refl)
          (λ j u n. i.keys j u);
      low =
          upd₂_both (λ j u h k. h ≡ true → k ≤ length (inst p j)) p.has p.snap s t true (length (inst p s)) (λ x. omega arith)
          (λ j u n. i.low j u);
      entry_has = λ j k x. kept₂ p.has s t j (at p j k).tx (i.entry_has j k x);
      entry_keys = λ j k x. old (λ u b. (at p j k).keys ≡ b) p.keys j k x no_keys (i.entry_keys j k x);
      entry_gone =
          λ j k x. old (λ u b. b.course.stage ≡ stage.free) p.live j k x (new_sub t d mask (length (inst p s))) (i.entry_gone j k x);
      entry_once = i.entry_once;
      site = upd₂_cases (λ j u h. h ≡ true → (1 ≤ j) × (j ≤ house.sites)) p.has s t true (λ x. here) (λ j u n. i.site j u);
      coordinator =
          upd₂_cases (λ j u h. h ≡ true → upd₂ p.has s t true (coordinator_of u) u ≡ true) p.has s t true (λ x. own coord)
          (λ j u n x. kept₂ p.has s t (coordinator_of u) u (i.coordinator j u x));
      serial = upd₂_cases (λ j u h. h ≡ true → (1 ≤ serial_of u) × (serial_of u ≤ p.serial (coordinator_of u))) p.has s t true (λ x. ser)
          (λ j u n. i.serial j u);
    }
  where
    -- an installed one is another
    old : {A : Type 0} (P : ℕ → A → Type 0) (f : ℕ → ℕ → A) (j k : ℕ) → k < length (inst p j) → (a : A)
        → P (at p j k).tx (f j (at p j k).tx) → P (at p j k).tx (upd₂ f s t a j (at p j k).tx)
    old P f j k x a h =
        upd₂_cases (λ m u b. p.has m u ≡ true → P u (f m u) → P u b) f s t a (λ e z. absurd (none e)) (λ m u n e z. z) j (at p j k).tx
        (i.entry_has j k x) h

    own : (coordinator_of t ≡ s) ⊎ (p.has (coordinator_of t) t ≡ true) → upd₂ p.has s t true (coordinator_of t) t ≡ true
    own (inl e) = rw e (upd₂_same p.has s t true)
    own (inr h) = kept₂ p.has s t (coordinator_of t) t h

-- serials only grow
parts_serial : (house : House) (p : Protocol) (serial : ℕ → ℕ) → ((s : ℕ) → p.serial s ≤ serial s) → Parts house p
    → Parts house (set_serial serial p)
parts_serial house p serial g i =
    record {
      tx = i.tx;
      has = i.has;
      snap = i.snap;
      keys = i.keys;
      low = i.low;
      entry_has = i.entry_has;
      entry_keys = i.entry_keys;
      entry_gone = i.entry_gone;
      entry_once = i.entry_once;
      site = i.site;
      coordinator = i.coordinator;
      serial = λ s t x. omega (arith, i.serial s t x, g (coordinator_of t));
    }

-- a held part's keys change, in its place and in the account
parts_access : (house : House) (p : Protocol) (s t : ℕ) (b : Keys) → Held p s t → Parts house p
    → Parts house (set_keys (upd₂ p.keys s t b) (with_live p s t (with_keys (p.live s t) b)))
parts_access house p s t b held i =
    record {
      tx = upd₂_cases (λ j u b. (b.course.stage ≡ stage.free → ⊥) → b.tx ≡ u) p.live s t _ (λ x. i.tx s t held) (λ j u n. i.tx j u);
      has = upd₂_cases (λ j u b. (b.course.stage ≡ stage.free → ⊥) → p.has j u ≡ true) p.live s t _ (λ x. i.has s t held)
          (λ j u n. i.has j u);
      snap =
          upd₂_cases (λ j u b. (b.course.stage ≡ stage.free → ⊥) → b.snapshot.installs ≡ p.snap j u) p.live s t _
          (λ x. i.snap s t held)
          (λ j u n. i.snap j u);
      keys = upd₂_both (λ j u b k. (b.course.stage ≡ stage.free → ⊥) → b.keys ≡ k) p.live p.keys s t _ b (λ x. refl)
          (λ j u n. i.keys j u);
      low = i.low;
      entry_has = i.entry_has;
      entry_keys = λ j k x.
          upd₂_cases (λ m u c. AtStage p m u stage.free → (at p j k).keys ≡ p.keys m u → (at p j k).keys ≡ c) p.keys s t b
          (λ f z. absurd (held f)) (λ m u n f z. z) j (at p j k).tx (i.entry_gone j k x) (i.entry_keys j k x);
      entry_gone = λ j k x.
          upd₂_cases (λ m u c. AtStage p m u stage.free → c.course.stage ≡ stage.free) p.live s t _
          (λ f. f) (λ m u n f. f) j (at p j k).tx (i.entry_gone j k x);
      entry_once = i.entry_once;
      site = i.site;
      coordinator = i.coordinator;
      serial = i.serial;
    }

-- Logs.
pub parts_append : (l m : List Rec) → parts_of (l ++ m) ≡ parts_of l ++ parts_of m
parts_append [] m = refl
parts_append (r_part e ∷ l) m = ap (λ (x : List Entry). e ∷ x) (parts_append l m)
parts_append (r_state n ∷ l) m = parts_append l m

pub parts_state : (l : List Rec) (n : ℕ) → parts_of (l ++ (r_state n ∷ [])) ≡ parts_of l
parts_state [] n = refl
parts_state (r_part e ∷ l) n = ap (λ (x : List Entry). e ∷ x) (parts_state l n)
parts_state (r_state k ∷ l) n = parts_state l n

pub inst_report : (p : Protocol) (s n j : ℕ) → parts_of (upd p.log s (p.log s ++ (r_state n ∷ [])) j) ≡ inst p j
inst_report p s n = upd_cases (λ j l. parts_of l ≡ inst p j) p.log s _ (parts_state (p.log s) n) (λ j x. refl)

pub inst_cases : (p : Protocol) (P : ℕ → List Entry → Type 0) (s : ℕ) (e : Entry) → P s (inst p s ++ (e ∷ [])) → ((j : ℕ) → P j (inst p j))
    → (j : ℕ) → P j (parts_of (upd p.log s (p.log s ++ (r_part e ∷ [])) j))
inst_cases p P s e new old =
    upd_cases (λ j l. P j (parts_of l)) p.log s _ (rw (parts_append (p.log s) (r_part e ∷ [])) new) (λ j n. old j)

abbrev Once : List Entry → Type 0
Once l = (j k : ℕ) → j < length l → k < length l → (get_or l j past_entry).tx ≡ (get_or l k past_entry).tx → j ≡ k

once_more : (l : List Entry) (e : Entry) → Once l → ((k : ℕ) → k < length l → (get_or l k past_entry).tx ≡ e.tx → ⊥) → Once (l ++ (e ∷ []))
once_more l e o n j k x y =
    last_cases (λ j a. a.tx ≡ (get_or (l ++ (e ∷ [])) k past_entry).tx → j ≡ k) l e past_entry
    (λ j h. last_cases (λ k b. (get_or l j past_entry).tx ≡ b.tx → j ≡ k) l e past_entry (λ k z. o j k h z) (λ q. absurd (n j h q)) k y)
    (last_cases (λ k b. e.tx ≡ b.tx → length l ≡ k) l e past_entry (λ k z q. absurd (n k z (sym q))) (λ q. refl) k y)
    j x

-- a decided part is installed
parts_install : (house : House) (p : Protocol) (s t : ℕ) → Held p s t → Parts house p
    → Parts house (with_live (set_log (upd p.log s (p.log s ++ (r_part (entry_of (p.live s t)) ∷ []))) p) s t no_sub)
unfolding entry_of no_sub
parts_install house p s t held i =
    record {
      tx = λ j u x. (k j u).tx x ∙ i.tx j u (λ f. x ((k j u).free f));
      has = λ j u x. i.has j u (λ f. x ((k j u).free f));
      snap = λ j u x. (k j u).snap x ∙ i.snap j u (λ f. x ((k j u).free f));
      keys = λ j u x. (k j u).keys x ∙ i.keys j u (λ f. x ((k j u).free f));
      low = λ j u x. inst_cases p (λ j l. p.has j u ≡ true → p.snap j u ≤ length l) s e
          (λ h. omega (arith, i.low s u h, length-append (inst p s) (e ∷ []))) (λ j. i.low j u) j x;
      entry_has =
          inst_cases p (λ j l. (k : ℕ) → k < length l → p.has j (get_or l k past_entry).tx ≡ true) s e
          (last_cases (λ k a. p.has s a.tx ≡ true) (inst p s) e past_entry (i.entry_has s) (rw is (i.has s t held))) i.entry_has;
      entry_keys =
          inst_cases p (λ j l. (k : ℕ) → k < length l → (get_or l k past_entry).keys ≡ p.keys j (get_or l k past_entry).tx) s e
          (last_cases (λ k a. a.keys ≡ p.keys s a.tx) (inst p s) e past_entry (i.entry_keys s) (rw is (i.keys s t held)))
          i.entry_keys;
      entry_gone =
          inst_cases p (λ j l. (k : ℕ) → k < length l → (upd₂ p.live s t no_sub j (get_or l k past_entry).tx).course.stage ≡ stage.free) s e
          (last_cases (λ k a. (upd₂ p.live s t no_sub s a.tx).course.stage ≡ stage.free) (inst p s) e past_entry
          (λ m x. (k s _).free (i.entry_gone s m x)) (rw (is, upd₂_same p.live s t no_sub)))
          (λ j m x. (k j _).free (i.entry_gone j m x));
      entry_once =
          inst_cases p (λ j l. Once l) s e (once_more (inst p s) e (i.entry_once s) (λ m x q. held (rw (q ∙ is) at (i.entry_gone s m x))))
          i.entry_once;
      site = i.site;
      coordinator = i.coordinator;
      serial = i.serial;
    }
  where
    e : Entry
    e = entry_of (p.live s t)

    is : (p.live s t).tx ≡ t
    is = i.tx s t held

    k : (j u : ℕ) → Kept (p.live j u) (upd₂ p.live s t no_sub j u)
    k = one_kept p s t no_sub (kept_gone (p.live s t))

-- tables that stay, where they compute
abbrev pub same : {A B C D : Type 0} {a : A} {b : B} {c : C} {d : D} {f : ℕ → List Entry}
    → (a ≡ a) × (b ≡ b) × (c ≡ c) × (d ≡ d) × ((s : ℕ) → f s ≡ f s)
same = (refl, refl, refl, refl, λ s. refl)

module _ (house : House) (p : Protocol) (i : Invariant house p) where
  -- a held part's course changes
  course : (q : Protocol) (s t : ℕ) (c : Course) → Held p s t → Same p q → q.live ≡ upd₂ p.live s t (with_course (p.live s t) c)
      → Parts house q
  course q s t c h e l = parts_kept house p q e (rw l (one_kept p s t _ (kept_course (p.live s t) c h))) i.parts

  -- a part is freed
  gone : (q : Protocol) (s t : ℕ) → Same p q → q.live ≡ upd₂ p.live s t no_sub → Parts house q
  gone q s t e l = parts_kept house p q e (rw l (one_kept p s t no_sub (kept_gone (p.live s t)))) i.parts

  -- no part changes
  still : (q : Protocol) → Same p q → q.live ≡ p.live → Parts house q
  still q e l = parts_kept house p q e (rw l (λ s t. kept_same (p.live s t))) i.parts

  began : (s t d : ℕ) → 1 ≤ s → s ≤ house.sites → p.serial s < sizes.last_serial → t ≡ tx_of s (p.serial s + 1)
      → Parts house (began_at (set_serial (upd p.serial s (p.serial s + 1)) p) s t d (mask_of s))
  began s t d l m n e =
      let c : coordinator_of t ≡ s = rw e (tx_coordinator s (p.serial s + 1) (omega arith)) in
      let k : serial_of t ≡ p.serial s + 1 = rw e (tx_serial s (p.serial s + 1) (omega arith)) in
      parts_began house _ s t d _ (new_tx house p s t i.parts n e s) (l, m) (inl c)
      (rw (k, c, upd_same p.serial s (p.serial s + 1)) (omega arith))
      (parts_serial house p _ (upd_cases (λ j y. p.serial j ≤ y) p.serial s _ (omega arith) (λ j z. omega arith)) i.parts)

  joining : (a s t d : ℕ) → Next p a s (m_join t d) → Parts house (began_at (took p a s) s t d 0)
  joining a s t d n =
      let o = said i n in
      parts_began house (took p a s) s t d 0 (new_join house p a s t d i.posts n) (ends i n).1 (inr (rw o.0 o.1))
      (i.parts.serial a t o.1) (still (took p a s) same refl)

  step : (q : Protocol) → Move house p q → Parts house q
  step q (begin s t d l m n e) = began s t d l m n e
  step q (enlist s t r c a l m n o) = course q s t _ (λ f. omega arith) same refl
  step q (access s t b fs a told w f m) = parts_access house p s t b (λ z. omega arith) i.parts
  step q (request s t es c a l r v) = course q s t _ (λ f. omega arith) same refl
  step q (abort s t c a d) = gone q s t same refl
  step q (cast s t es c a l w v) = course q s t _ (λ f. omega arith) same refl
  step q (decide s t c a l) = course q s t _ (λ f. omega arith) same refl
  step q (install s t a l) = parts_install house p s t (λ f. omega arith) i.parts
  step q (report s n a) = still q (refl, refl, refl, refl, inst_report p s n) refl
  step q (joins a s t d n f) = parts_kept house _ q same (λ j u. kept_same _) (joining a s t d n)
  step q (full a s t d r n z) = still q same refl
  step q (joined a s t r n x o) = course q s t _ (λ f. omega arith) same refl
  step q (prepared a s t n m es x y v) = course q s t _ (λ f. omega arith) same refl
  step q (lost a s t n m r x y z) = course q s t _ (λ f. omega arith) same refl
  step q (unknown a s t n m r x y z) = still q same refl
  step q (gathers a s t es x y o) = course q s t _ (λ f. omega arith) same refl
  step q (certified a s t es x y v) = course q s t _ (λ f. omega arith) same refl
  step q (rejects a s t r es x y z) = course q s t _ (λ f. omega arith) same refl
  step q (votes a s t n x y o) = course q s t _ (λ f. omega arith) same refl
  step q (commits a s t n x y) = course q s t _ (λ f. omega arith) same refl
  step q (aborts a s t x d) = gone q s t same refl
  step q (passes a s n m x) = still q same refl

pub parts_step : (house : House) (p q : Protocol) → house.sites ≤ 8 → Move house p q → Invariant house p → Parts house q
parts_step house p q h m i = step house p i q m

pub parts_fresh : (house : House) → Parts house fresh_protocol
unfolding fresh_protocol no_sub
parts_fresh house =
    record {
      tx = λ s t x. absurd (x refl);
      has = λ s t x. absurd (x refl);
      snap = λ s t x. absurd (x refl);
      keys = λ s t x. absurd (x refl);
      low = λ s t x. omega arith;
      entry_has = λ s j x. absurd (omega arith);
      entry_keys = λ s j x. absurd (omega arith);
      entry_gone = λ s j x. refl;
      entry_once = λ s j k x y e. absurd (omega arith);
      site = λ s t x. absurd (set_not false x refl);
      coordinator = λ s t x. x;
      serial = λ s t x. absurd (set_not false x refl);
    }
