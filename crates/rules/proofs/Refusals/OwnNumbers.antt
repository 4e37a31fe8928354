-- Each call's own numbers: its causes stand in the order of its list, so a number that the list lacks is none of them.
use Prim.Native.Nat.{ℕ}
use mathlib.Core.Path.{◌≡◌, refl, sym, ap, ◌∙◌}
use mathlib.Core.Logic.{◌⊎◌, inl, inr}
use mathlib.Core.Bool.{true}
use mathlib.Core.List.{List, [], ◌∷◌}
use borrow.Author.Tests.{eqb-true, eqb-false, ne_eqb}
use lib.Dec.{eqb}
use lib.ListN.{length}
use Rattle.laws.specs.Choice.{by_test, set_not}
use Rattle.laws.specs.Cause.{Cause, holds_at, first_in, first_holds, in_order, lacks, lacked}
use Rattle.kinds.specs.Kind as kind
use Rattle.kinds.specs.declared.Answer.{Answer}
use Rattle.kinds.specs.declared.Answer.TheVariants.{Refused}
use Rattle.kinds.specs.State.{sub_at}
use Rattle.rules.specs.Record.{record_head}
use Rattle.rules.specs.Keys.{wrote_key}
use Rattle.rules.specs.Live.{place_of}
use Rattle.rules.specs.Install.{start_causes}
use Rattle.rules.specs.Merger.{merger_start_causes}
use Rattle.rules.specs.Copy.{copy_start_causes}
use Rattle.rules.specs.Reader.{reader_start_causes, reader_replay_causes, reader_value_causes, record_bytes_causes}
use Rattle.rules.specs.Page.{page_causes, offset_causes, pages_causes}
use Rattle.rules.specs.Answers.{is_refused}
use Rattle.rules.specs.World as world
use Rattle.rules.specs.World.{World, Call, step}
use Rattle.rules.specs.Refusals.{order, begin_has, access_has, read_has, write_has, search_has, enlist_has, commit_has, abandon_has}
use Rattle.rules.specs.Refusals.{message_has, install_has, merge_has, emit_has, causes_of, ByFirstIn, ByFirst, numbers_of}
use Rattle.rules.specs.Refusals.{page_numbers, offset_numbers, pages_numbers, OwnNumbers}
use Rattle.rules.proofs.Messages.GoesOn.{refused_number}
use Rattle.rules.proofs.Refusals.FirstCause.{first_cause}

-- the number of a refusal is one that a cause has
pub by_cause : (own : List ℕ) (a : Answer) (l : List Cause) (n : ℕ) → ByFirstIn own a l → a ≡ Refused n → holds_at n l ≡ true
by_cause own a l n x q =
    by_test (eqb (first_in own l) 0)
    (λ z. absurd (set_not (is_refused a) (ap is_refused q) (x.taken (eqb-true _ _ z))))
    (λ z. let some = eqb-false (first_in own l) 0 z in
    let e : first_in own l ≡ n = refused_number _ n (sym (x.refused some) ∙ q) in
    first_holds own l n (λ y. some (e ∙ y)) e)

by_own : (own : List ℕ) (a : Answer) (l : List Cause) (numbers : List ℕ) (n : ℕ) → ByFirstIn own a l → in_order numbers l ≡ true
    → lacks n numbers ≡ true → a ≡ Refused n → ⊥
by_own own a l numbers n x t k q = set_not (holds_at n l) (by_cause own a l n x q) (lacked n numbers l k t)

own_order : (w : World) (c : Call) → in_order (numbers_of c) (causes_of w c) ≡ true
unfolding begin_has access_has read_has write_has search_has enlist_has commit_has abandon_has message_has install_has merge_has emit_has
own_order w (world.begin s d) = refl
own_order w (world.enlist s out tx site) = refl
own_order w (world.read s tx key) =
    let b = sub_at (w.site s) (place_of (w.site s).live tx) in by_test (wrote_key b.keys key) (λ t. rw t refl) (λ t. rw t refl)
own_order w (world.write s tx key v) =
    let b = sub_at (w.site s) (place_of (w.site s).live tx) in by_test (wrote_key b.keys key) (λ t. rw t refl) (λ t. rw t refl)
own_order w (world.search s p key) = refl
own_order w (world.commit s out tx) = refl
own_order w (world.abandon s out tx) = refl
own_order w (world.message s out m) = refl
own_order w (world.install s out) = refl
own_order w (world.report s out) = refl
own_order w (world.merge m) = by_test (eqb (record_head m).kind kind.part) (λ t. rw t refl) (λ t. rw t refl)
own_order w (world.emit out) = refl
own_order w (world.replay c m) = refl
own_order w (world.value c key) = refl

-- the start of a copy has causes of number 2 only, as three calls on bytes have; the other two starts also of 22
only_two : (a : Answer) (l : List Cause) (n : ℕ) → ByFirst a l → in_order (2 ∷ []) l ≡ true → a ≡ Refused n → n ≡ 2
only_two a l n x t q =
    by_test (eqb n 2)
    (λ e. eqb-true n 2 e)
    (λ e. absurd (by_own order a l (2 ∷ []) n x t (rw (ne_eqb 2 n (λ z. eqb-false n 2 e (sym z)))) q))

two_or : (a : Answer) (l : List Cause) (n : ℕ) → ByFirst a l → in_order (2 ∷ 22 ∷ []) l ≡ true → a ≡ Refused n → (n ≡ 2) ⊎ (n ≡ 22)
two_or a l n x t q =
    by_test (eqb n 2)
    (λ e. inl (eqb-true n 2 e))
    (λ e. by_test (eqb n 22)
    (λ f. inr (eqb-true n 22 f))
    (λ f. absurd (by_own order a l (2 ∷ 22 ∷ []) n x t
    (rw (ne_eqb 2 n (λ z. eqb-false n 2 e (sym z)), ne_eqb 22 n (λ z. eqb-false n 22 f (sym z)))) q)))

pub own_numbers : OwnNumbers
own_numbers =
    record {
      call = λ w c n. by_own order (step w c).answer (causes_of w c) (numbers_of c) n (first_cause.call w c) (own_order w c);
      start = λ sites table own base lists n.
          two_or _ (start_causes sites table own base lists) n (first_cause.start sites table own base lists) refl;
      merger_start = λ sites table queues n.
          two_or _ (merger_start_causes sites table (length queues)) n (first_cause.merger_start sites table queues) refl;
      copy_start = λ copy n. only_two _ (copy_start_causes copy) n (first_cause.copy_start copy) refl;
      page = λ l o n. by_own page_numbers _ (page_causes l) page_numbers n (first_cause.page l o) refl;
      offset = λ l p r n. by_own offset_numbers _ (offset_causes l p r) offset_numbers n (first_cause.offset l p r) refl;
      pages = λ l os out n.
          by_own pages_numbers _ (pages_causes l (length os) (length out)) pages_numbers n (first_cause.pages l os out) refl;
      reader_start = λ b n. only_two _ (reader_start_causes b) n (first_cause.reader_start b) refl;
      reader_replay = λ b m n. by_own order _ (reader_replay_causes b m) (2 ∷ 14 ∷ []) n (first_cause.reader_replay b m) refl;
      reader_value = λ b k out n. only_two _ (reader_value_causes b k (length out)) n (first_cause.reader_value b k out) refl;
      record_bytes = λ m out n. only_two _ (record_bytes_causes m (length out)) n (first_cause.record_bytes m out) refl;
    }
