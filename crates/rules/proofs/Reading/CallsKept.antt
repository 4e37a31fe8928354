-- What each call leaves of the parts' keys and of the base values: one that is no read or write tells none, and one that is no accepted
-- install neither tells one nor changes the values.
use Prim.Native.Nat.{ℕ, ◌≤◌}
use mathlib.Core.Path.{◌≡◌, refl, ap}
use mathlib.Core.Bool.{Bool, true, false}
use mathlib.Core.Logic.{◌⊎◌, inl, inr}
use mathlib.Core.List.{List, [], ◌∷◌}
use native.Mathlib.Omega.{arith}
use lib.Dec.{eqb}
use lib.ListN.{length, get_or}
use Rattle.laws.specs.Choice.{pick, every}
use Rattle.kinds.specs.Sizes as sizes
use Rattle.kinds.specs.declared.House.{House}
use Rattle.kinds.specs.Kind as kind
use Rattle.kinds.specs.Word as word
use Rattle.kinds.specs.Reason as reason
use Rattle.kinds.specs.declared.Value.{Value}
use Rattle.kinds.specs.declared.Answer.{Answer}
use Rattle.kinds.specs.declared.Site.{Site}
use Rattle.rules.specs.Message.{message_head}
use Rattle.rules.specs.Queue.{least_queued, is_installable}
use Rattle.rules.specs.Valid.{site_ok}
use Rattle.rules.specs.Effect.{Effect}
use Rattle.rules.specs.Install.{install_code, installed_at, install_of, base_after}
use Rattle.rules.specs.World.{World, Call, step, site_step, log_step, merger_step, merge_step, copy_step, replay_step}
use Rattle.rules.specs.World as world
use Rattle.rules.specs.Book as book
use Rattle.rules.specs.Book.{Fact}
use Rattle.rules.proofs.Lists.Tables.{upd_same, upd_other, All, a_nil, a_cons, all_append, all_one, all_is, upd_self}
use Rattle.rules.proofs.Protocol.ProtocolTables.{Protocol}
use Rattle.rules.proofs.Protocol.Invariants.{Invariant}
use Rattle.rules.proofs.Refine.Refines.{Refines}
use Rattle.rules.proofs.Refine.RefineStep.{told_by, by_code}
use Rattle.rules.proofs.Book.BookReplays.{on_begun_lem, on_found_lem, on_done_lem, on_committed_lem, on_installed_lem}
use Rattle.rules.proofs.Book.BookLists.{none_is, fact_kind, OfKind}
use Rattle.rules.proofs.Reading.MovesTold.{NoAccess, NoInstall, WritesOnce}
use Rattle.rules.proofs.Reading.BasesKept.{Installs}
use Rattle.rules.proofs.Reading.LiveOnce.{LiveOnce, read_once, write_once}

-- no read or write is told, or no install is and each key of a live part stands once among its writes after the call
abbrev pub KeysStay : House → World → List Fact → Type 0
KeysStay house x fs = NoAccess fs ⊎ (NoInstall fs × ((s : ℕ) → 1 ≤ s → s ≤ house.sites → LiveOnce (x.site s).live))

-- no install is told and the base values stay, or one site has one install more
abbrev pub BasesStay : World → World → List Fact → Type 0
BasesStay w x fs = (NoInstall fs × ((s : ℕ) → x.base s ≡ w.base s)) ⊎ ((s : ℕ) × Installs w x s)

pub record CallKeeps (house : House) (w x : World) (fs : List Fact) : Type 0 where
  pub keys : KeysStay house x fs
  pub bases : BasesStay w x fs

-- Facts that are neither of a read or write nor of an install.
abbrev Quiet : List Fact → Type 0
Quiet = All (λ f. (fact_kind f ≡ 1 → ⊥) × (fact_kind f ≡ 3 → ⊥))

begins_quiet : (s : ℕ) (a : Answer) → Quiet (book.begins s a)
begins_quiet s a = on_begun_lem Quiet a_nil (λ t. all_one ((λ e. omega arith), λ e. omega arith)) a

commits_quiet : (t : ℕ) (a : Answer) → Quiet (book.commits t a)
commits_quiet t a = on_committed_lem Quiet a_nil (λ n. all_one ((λ e. omega arith), λ e. omega arith)) a

began_quiet : (b : Bool) (s t : ℕ) → Quiet (pick b (book.began s t ∷ []) [])
began_quiet true s t = all_one ((λ e. omega arith), λ e. omega arith)
began_quiet false s t = a_nil

joins_quiet : (s : ℕ) (m ws : List ℕ) (a : Answer) → Quiet (book.joins s m ws a)
joins_quiet s m ws a =
    on_done_lem Quiet a_nil
    (began_quiet (every (eqb (message_head m).kind kind.join ∷ eqb (get_or ws word.argument reason.full) 0 ∷ [])) s (message_head m).tx) a

-- Those of reads and writes, and of installs.
uses_told : (t k : ℕ) (a : Answer) → OfKind 1 (book.uses t k a)
uses_told t k a = on_found_lem (OfKind 1) a_nil (λ v. all_one refl) a

writes_told : (t k : ℕ) (v : Value) (a : Answer) → OfKind 1 (book.writes t k v a)
writes_told t k v a = on_done_lem (OfKind 1) a_nil (a_cons refl (all_one refl)) a

installs_told : (s : ℕ) (a : Answer) → OfKind 3 (book.installs s a)
installs_told s a = on_installed_lem (OfKind 3) a_nil (λ n c. all_one refl) a

accesses : {l : List Fact} → OfKind 1 l → NoInstall l
accesses a f i e = let z = all_is a i in omega arith

installs : {l : List Fact} → OfKind 3 l → NoAccess l
installs a f i e = let z = all_is a i in omega arith

-- The base values as they were.
module _ (house : House) (w : World) where
  quietly : (x : World) {fs : List Fact} → Quiet fs → ((s : ℕ) → x.base s ≡ w.base s) → CallKeeps house w x fs
  quietly x a e = record { keys = inl (λ f i. (all_is a i).0); bases = inl ((λ f i. (all_is a i).1), e) }

  -- a call of a site that leaves its base values
  at_site : {fs : List Fact} (s : ℕ) (e : Effect) (lists : List ℕ) → Quiet fs
      → CallKeeps house w (site_step w s e (w.base s) lists).world fs
  unfolding site_step
  at_site s e lists a = quietly _ a (upd_self w.base s)

  accessed : {fs : List Fact} (s : ℕ) (e : Effect) (lists : List ℕ) → OfKind 1 fs
      → ((j : ℕ) → 1 ≤ j → j ≤ house.sites → LiveOnce ((site_step w s e (w.base s) lists).world.site j).live)
      → CallKeeps house w (site_step w s e (w.base s) lists).world fs
  unfolding site_step
  accessed s e lists a o = record { keys = inr (accesses a, o); bases = inl (accesses a, upd_self w.base s) }

  module _ (s : ℕ) (out : List ℕ) where
    abbrev site : Site
    site = w.site s

    abbrev due : ℕ
    due = least_queued site.live sizes.live

    one_more : Installs w (log_step w s (installed_at site (w.base s) due) (base_after site (w.base s))).world s
    unfolding log_step installed_at
    one_more =
        record {
          base = upd_same w.base s (base_after site (w.base s));
          count = ap (λ (x : Site). x.counters.installs) (upd_same w.site s _);
          others = λ j n. (upd_other w.base s _ j n, upd_other w.site s _ j n);
        }

    install_bases : let x = step w (world.install s out) in BasesStay w x.world (book.installs s x.answer)
    unfolding step log_step install_of installed_at
    install_bases =
        let code = install_code (site_ok site) (length out) (length (w.base s)) (is_installable site.live due)
        site.counters.installs in
        by_code (λ e. BasesStay w (log_step w s e e.lent).world (book.installs s e.answer)) code site (w.base s)
        (installed_at site (w.base s) due) (λ e. inr (s, one_more)) (inl ((λ f i. absurd (none_is i)), upd_self w.base s))

pub call_kept : {house : House} {w : World} {p : Protocol} → Refines house w p → Invariant house p → WritesOnce p → (c : Call)
    → CallKeeps house w (step w c).world (told_by c (step w c).answer (step w c).words)
unfolding step log_step merge_step merger_step replay_step copy_step
call_kept {house} {w} r i o (world.begin s d) = at_site house w s _ _ (begins_quiet s (step w (world.begin s d)).answer)
call_kept {house} {w} r i o (world.enlist s out t n) = at_site house w s _ _ a_nil
call_kept {house} {w} r i o (world.read s t k) =
    accessed house w s _ _ (uses_told t k (step w (world.read s t k)).answer) (read_once r i o s t k)
call_kept {house} {w} r i o (world.write s t k v) =
    accessed house w s _ _ (writes_told t k v (step w (world.write s t k v)).answer) (write_once r i o s t k v)
call_kept {house} {w} r i o (world.search s q k) = quietly house w _ a_nil (λ s. refl)
call_kept {house} {w} r i o (world.commit s out t) = at_site house w s _ _ (commits_quiet t (step w (world.commit s out t)).answer)
call_kept {house} {w} r i o (world.abandon s out t) = at_site house w s _ _ a_nil
call_kept {house} {w} r i o (world.message s out m) =
    let x = step w (world.message s out m) in
    at_site house w s _ _ (all_append (joins_quiet s m x.words x.answer) (commits_quiet (message_head m).tx x.answer))
call_kept {house} {w} r i o (world.install s out) =
    record { keys = inl (installs (installs_told s (step w (world.install s out)).answer)); bases = install_bases house w s out }
call_kept {house} {w} r i o (world.report s out) = quietly house w _ a_nil (upd_self w.base s)
call_kept {house} {w} r i o (world.merge m) = quietly house w _ a_nil (λ s. refl)
call_kept {house} {w} r i o (world.emit out) = quietly house w _ a_nil (λ s. refl)
call_kept {house} {w} r i o (world.replay c m) = quietly house w _ a_nil (λ s. refl)
call_kept {house} {w} r i o (world.value c k) = quietly house w _ a_nil (λ s. refl)
