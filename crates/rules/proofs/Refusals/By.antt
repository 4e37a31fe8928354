-- Why an answer by a list of causes is by the first of them, in an order in which they stand.
use Prim.Native.Nat.{ℕ}
use mathlib.Core.Path.{◌≡◌, refl, sym, ap, ◌∙◌}
use mathlib.Core.Bool.{true, false}
use mathlib.Core.List.{List, ◌++◌}
use borrow.Author.Tests.{eqb-true, eqb-false, ne_eqb}
use lib.Dec.{eqb}
use Rattle.laws.specs.Choice.{by_test}
use Rattle.laws.specs.Cause.{Cause, code_of, numbered, code_append, distinct, in_order, first_in_lem}
use Rattle.kinds.specs.declared.Answer.{Answer}
use Rattle.kinds.specs.declared.Answer.TheVariants.{Refused}
use Rattle.kinds.specs.declared.Merger.{Merger}
use Rattle.kinds.specs.declared.Site.{Site}
use Rattle.rules.specs.Effect.{Effect, unless}
use Rattle.rules.specs.Merger.{Merging, unless_merger}
use Rattle.rules.specs.Answers.{is_refused}
use Rattle.rules.specs.Refusals.{order, ByFirstIn, ByFirst}

-- The answer to a list of causes, by its code.
pub record By (a : Answer) (l : List Cause) : Type 0 where
  pub refused : (code_of l ≡ 0 → ⊥) → a ≡ Refused (code_of l)
  pub taken : code_of l ≡ 0 → is_refused a ≡ false

-- where the causes stand in an order it is the first of it
pub by_first_in : (own : List ℕ) (a : Answer) (l : List Cause) → distinct own ≡ true → in_order own l ≡ true → By a l → ByFirstIn own a l
by_first_in own a l d t x =
    let e = first_in_lem own l d t in
    record { refused = λ n. x.refused (λ z. n (sym e ∙ z)) ∙ ap Refused e; taken = λ z. x.taken (e ∙ z) }

-- the table's order
pub by_first : (a : Answer) (l : List Cause) → in_order order l ≡ true → By a l → ByFirst a l
unfolding order
by_first a l t x = by_first_in order a l refl t x

-- no cause holds
pub accepted : (a : Answer) (l : List Cause) → code_of l ≡ 0 → is_refused a ≡ false → By a l
accepted a l e f = record { refused = λ n. absurd (n e); taken = λ z. f }

-- one list looked at, then another
pub then_by : (l m : List Cause) (a b : Answer) → numbered l ≡ true → By a m → (code_of l ≡ 0 → b ≡ a)
    → ((code_of l ≡ 0 → ⊥) → b ≡ Refused (code_of l)) → By b (l ++ m)
then_by l m a b k x f g =
    by_test (eqb (code_of l) 0)
    (λ t. let z = eqb-true _ _ t in
    let e : code_of (l ++ m) ≡ code_of m = code_append l m k ∙ rw t in
    record { refused = λ n. f z ∙ x.refused (λ y. n (e ∙ y)) ∙ ap Refused (sym e); taken = λ y. rw (f z) (x.taken (sym e ∙ y)) })
    (λ t. let n = eqb-false _ _ t in
    let e : code_of (l ++ m) ≡ code_of l = code_append l m k ∙ rw t in
    record { refused = λ y. g n ∙ ap Refused (sym e); taken = λ y. absurd (n (sym e ∙ y)) })

pub unless_by : (l m : List Cause) (s : Site) (lent : List ℕ) (e : Effect) → numbered l ≡ true → By e.answer m
    → By (unless (code_of l) s lent e).answer (l ++ m)
unless_by l m s lent e k x = then_by l m e.answer _ k x (λ z. rw z) (λ n. rw (ne_eqb _ 0 n))

pub merger_by : (l m : List Cause) (g : Merger) (queues : List ℕ) (e : Merging) → numbered l ≡ true → By e.answer m
    → By (unless_merger (code_of l) g queues e).answer (l ++ m)
merger_by l m g queues e k x = then_by l m e.answer _ k x (λ z. rw z) (λ n. rw (ne_eqb _ 0 n))

-- one list alone
pub alone_by : (l : List Cause) (a b : Answer) → is_refused a ≡ false → (code_of l ≡ 0 → b ≡ a)
    → ((code_of l ≡ 0 → ⊥) → b ≡ Refused (code_of l)) → By b l
alone_by l a b f g h = record { refused = h; taken = λ z. rw (g z) f }

pub only_by : (l : List Cause) (s : Site) (lent : List ℕ) (e : Effect) → is_refused e.answer ≡ false
    → By (unless (code_of l) s lent e).answer l
only_by l s lent e f = alone_by l e.answer _ f (λ z. rw z) (λ n. rw (ne_eqb _ 0 n))
