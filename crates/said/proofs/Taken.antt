-- A call that is refused says its first cause; so it is enough to say what it says where it is taken.
use Prim.Native.Nat.{ℕ}
use mathlib.Core.Path.{◌≡◌, refl}
use mathlib.Core.Bool.{Bool, false}
use mathlib.Core.List.{List, []}
use borrow.Author.Tests.{eqb-true, eqb-false}
use lib.Dec.{eqb}
use Rattle.laws.specs.Choice.{by_test, set_not}
use Rattle.laws.specs.Cause.{Cause, first_in}
use Rattle.kinds.specs.declared.Answer.{Answer}
use Rattle.kinds.specs.declared.Merger.{Merger}
use Rattle.kinds.specs.declared.Site.{Site}
use Rattle.rules.specs.Answers.{is_refused}
use Rattle.rules.specs.Effect.{Effect, Change, changed, unless}
use Rattle.rules.specs.Deliver.{reply_code, step_unless, keeping}
use Rattle.rules.specs.Merger.{Merging, unless_merger}
use Rattle.rules.specs.Refusals.{order, ByFirstIn, ByFirst}
use Rattle.said.specs.Said.{Said, said_of, unless_first, unless_first_in}

-- an answer that is no refusal says o
abbrev pub Taken : Answer → Said → Type 0
Taken a o = is_refused a ≡ false → said_of a ≡ o

pub says_in : (own : List ℕ) (a : Answer) (l : List Cause) (o : Said) → ByFirstIn own a l → Taken a o → said_of a ≡ unless_first_in own l o
unfolding said_of unless_first_in
says_in own a l o x f =
    by_test (eqb (first_in own l) 0)
    (λ t. rw t (f (x.taken (eqb-true (first_in own l) 0 t))))
    (λ t. rw (t, x.refused (eqb-false (first_in own l) 0 t)))

pub says : (a : Answer) (l : List Cause) (o : Said) → ByFirst a l → Taken a o → said_of a ≡ unless_first l o
says = says_in order

-- the same of a whole call, and past a list of causes
pub record Takes (e : Effect) (o : Said) : Type 0 where
  pub said : Taken e.answer o

pub past : (code : ℕ) (s : Site) (lent : List ℕ) (e : Effect) (o : Said) → Takes e o → Takes (unless code s lent e) o
past code s lent e o x = by_test (eqb code 0) (λ t. rw t x) (λ t. rw t (record { said = λ r. absurd (set_not _ refl r) }))

pub record MergerTakes (e : Merging) (o : Said) : Type 0 where
  pub said : Taken e.answer o

pub past_merger : (code : ℕ) (g : Merger) (queues : List ℕ) (e : Merging) (o : Said) → MergerTakes e o
    → MergerTakes (unless_merger code g queues e) o
past_merger code g queues e o x = by_test (eqb code 0) (λ t. rw t x) (λ t. rw t (record { said = λ r. absurd (set_not _ refl r) }))

-- a step at a place, and its refusal
pub step_takes : (turn spent : Bool) (s : Site) (place : ℕ) (c : Change) (lists : List ℕ) (o : Said) → said_of c.answer ≡ o
    → Takes (keeping lists (step_unless (reply_code turn spent) s place c)) o
step_takes turn spent s place c lists o e =
    record { said = (past (reply_code turn spent) s [] (changed s place c []) o (record { said = λ r. e })).said }
