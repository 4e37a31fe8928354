-- What the step lemmas share: flags that are only ever set, messages to all others, the next message of a channel, and transactions
-- that have no part yet.
use Prim.Native.Nat.{ℕ, zero, suc, ◌+◌, ◌≤◌, ◌<◌}
use mathlib.Core.Path.{◌≡◌, refl, ap, ◌∙◌}
use mathlib.Core.Bool.{Bool, true, false, not}
use mathlib.Core.Logic.{◌⊎◌, inl, inr}
use mathlib.Core.List.{List, [], ◌∷◌, ◌++◌}
use native.Mathlib.Omega.{arith}
use borrow.Author.Tests.{eqb-true, eqb-false, leb-true, not-true}
use lib.Dec.{eqb, leb}
use lib.ListN.{length, get_or}
use Rattle.laws.specs.Choice.{every, every_at, by_test, unset}
use Rattle.kinds.specs.Sizes as sizes
use Rattle.kinds.specs.declared.House.{House}
use Rattle.rules.specs.House.{coordinator_of, serial_of, tx_of, in_mask}
use Rattle.rules.specs.World.{upd}
use Rattle.rules.proofs.Lists.Tables.{upd₂, upd_cases, upd₂_cases, all_at}
use Rattle.rules.proofs.Protocol.ProtocolTables.{Protocol, Msg, IsJoin, m_join, m_abort}
use Rattle.rules.proofs.Protocol.Protocol.{Next, others}
use Rattle.rules.proofs.Protocol.Invariants.{Parts, MsgOk, Posts, Account, Invariant}

-- Flags.
pub kept₁ : (f : ℕ → Bool) (t u : ℕ) → f u ≡ true → upd f t true u ≡ true
kept₁ f t = upd_cases (λ u b. f u ≡ true → b ≡ true) f t true (λ e. refl) (λ u n e. e)

pub kept₂ : (f : ℕ → ℕ → Bool) (s t j u : ℕ) → f j u ≡ true → upd₂ f s t true j u ≡ true
kept₂ f s t = upd₂_cases (λ j u b. f j u ≡ true → b ≡ true) f s t true (λ e. refl) (λ j u n e. e)

-- set just now, or before
pub was₂ : (f : ℕ → ℕ → Bool) (s t j u : ℕ) → upd₂ f s t true j u ≡ true → ((j ≡ s) × (u ≡ t)) ⊎ (f j u ≡ true)
was₂ f s t = upd₂_cases (λ j u b. b ≡ true → ((j ≡ s) × (u ≡ t)) ⊎ (f j u ≡ true)) f s t true (λ e. inl (refl, refl)) (λ j u n e. inr e)

-- One message to each other participant.
pub others_cases : (P : ℕ → ℕ → List Msg → Type 0) (post : ℕ → ℕ → List Msg) (a mask : ℕ) (m : Msg)
    → ((j : ℕ) → 1 ≤ j → in_mask mask j ≡ true → (j ≡ a → ⊥) → P a j (post a j ++ (m ∷ [])))
    → ((i j : ℕ) → P i j (post i j)) → (i j : ℕ) → P i j (others post a mask m i j)
unfolding others
others_cases P post a mask m new old i j =
    let l = eqb i a ∷ leb 1 j ∷ in_mask mask j ∷ not (eqb j a) ∷ [] in
    by_test (every l)
    (λ e. let q : i ≡ a = eqb-true i a (every_at l 0 e) in
    rw e (rw q (new j (leb-true 1 j (every_at l 1 e)) (every_at l 2 e) (eqb-false j a (not-true (eqb j a) (every_at l 3 e))))))
    (λ e. rw e (old i j))

-- The next message of a channel.
pub in_range_lem : {A : Type 0} (l : List A) (i : ℕ) (d e : A) → i < length l → get_or l i d ≡ get_or l i e
in_range_lem [] i d e h = absurd (omega arith)
in_range_lem (x ∷ l) zero d e h = refl
in_range_lem (x ∷ l) (suc i) d e h = in_range_lem l i d e (omega arith)

pub next_ok : (house : House) (p : Protocol) (a b : ℕ) (m : Msg) → Next p a b m → Posts house p → MsgOk house p a b m
next_ok house p a b m n i = rw n.is at (all_at (i.ok a b) m (p.taken a b) n.some)

pub next_sites : (house : House) (p : Protocol) (a b : ℕ) (m : Msg) → Next p a b m → Posts house p
    → ((1 ≤ a) × (a ≤ house.sites)) × ((1 ≤ b) × (b ≤ house.sites))
next_sites house p a b m n i = i.sender a b (omega (arith, n.some))

-- the same of an invariant
pub said : {house : House} {p : Protocol} {a b : ℕ} {m : Msg} → Invariant house p → Next p a b m → MsgOk house p a b m
said {house} {p} {a} {b} {m} i n = next_ok house p a b m n i.posts

pub ends : {house : House} {p : Protocol} {a b : ℕ} {m : Msg} → Invariant house p → Next p a b m
    → ((1 ≤ a) × (a ≤ house.sites)) × ((1 ≤ b) × (b ≤ house.sites))
ends {house} {p} {a} {b} {m} i n = next_sites house p a b m n i.posts

-- No part yet: of the next serial anywhere, of the next JOIN at its site.
pub tx_coordinator : (s n : ℕ) → n < sizes.serials → coordinator_of (tx_of s n) ≡ s
unfolding coordinator_of tx_of
tx_coordinator s n h = omega arith

pub tx_serial : (s n : ℕ) → n < sizes.serials → serial_of (tx_of s n) ≡ n
unfolding serial_of tx_of
tx_serial s n h = omega arith

pub new_tx : (house : House) (p : Protocol) (s t : ℕ) → Parts house p → p.serial s < sizes.last_serial → t ≡ tx_of s (p.serial s + 1)
    → (j : ℕ)
    → p.has j t ≡ true → ⊥
new_tx house p s t i l e j h =
    let q = (i.serial j t h).1 in
    let c : coordinator_of t ≡ s = rw e (tx_coordinator s (p.serial s + 1) (omega arith)) in
    let n : serial_of t ≡ p.serial s + 1 = rw e (tx_serial s (p.serial s + 1) (omega arith)) in
    omega (arith, q, n, ap p.serial c)

pub new_join : (house : House) (p : Protocol) (a s t d : ℕ) → Posts house p → Next p a s (m_join t d) → p.has s t ≡ true → ⊥
new_join house p a s t d i n h =
    let o = next_ok house p a s (m_join t d) n i in
    go (i.join_taken s t h (λ q. o.2 (q ∙ o.0))) o.0
  where
    go : (k : ℕ) × (k < p.taken (coordinator_of t) s) × IsJoin t (get_or (p.post (coordinator_of t) s) k (m_abort 0))
        → coordinator_of t ≡ a → ⊥
    go (k, l, e) c =
        let x : k < p.taken a s = rw c at l in
        let z : IsJoin t (get_or (p.post a s) (p.taken a s) (m_abort 0)) =
        (d, in_range_lem (p.post a s) (p.taken a s) (m_abort 0) (m_join t d) n.some ∙ n.is) in
        omega (arith, i.join_once a s t k (p.taken a s) (omega (arith, n.some)) n.some (rw c at e) z)

-- where no part has begun, the account has nothing
pub record Blank (p : Protocol) (s t : ℕ) : Type 0 where
  pub made : p.made s t ≡ false
  pub yes : p.yes s t ≡ false

pub blank : (p : Protocol) (s t : ℕ) → Account p → 1 ≤ s → (p.has s t ≡ true → ⊥) → Blank p s t
blank p s t i l n =
    record {
      made = unset _ (λ m. let h = i.made s t m in n (i.asked_has t s h.0 (l, h.1)));
      yes = unset _ (λ y. let h = i.yes s t y in n (i.asked_has t s (i.certed_asked t h.0) (l, h.1)));
    }
