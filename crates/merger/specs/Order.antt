-- F7 and F8: the head order goes in and comes back as one value. What its methods hand back, by the rules' definitions.
use Rattle.std.specs.Prelude.{ℕ, ◌+◌, ◌≡◌, refl, List, Bool, true, false, Result, Ok, Err, eqb}
use Rattle.std.proofs.Common.{ap, sym, ◌∙◌, eqb-true}
use Rattle.laws.specs.Choice.{pick}
use Rattle.laws.specs.Scan.{fold_below}
use Rattle.kinds.specs.declared.Merger.{Merger}
use Rattle.rules.specs.Merger.{heads_of, head_in, least_head, due_code, pop_merger_at, pop_merger}
use Rattle.rules.specs.MergerLaws.{pop_more}
use Rattle.merger.specs.declared.heads.Heads.{Heads}
use Rattle.merger.specs.declared.heads.Due.{Due}
use Rattle.merger.specs.declared.heads.Undue.{Undue}
use Rattle.kinds.specs.Refusal.{number_of}

abbrev pub sites_in : Heads → ℕ
sites_in h = h.merger.house.sites

-- as the queues' words have it
unfoldable pub order_of : Merger → List ℕ → Heads
order_of g queues = record { merger = g; heads = heads_of queues g.house.sites }

unfoldable pub least_in : Heads → ℕ
least_in h = least_head h.merger h.heads (sites_in h)

unfoldable pub code_in : Heads → ℕ
code_in h = due_code h.merger h.heads (least_in h)

-- without the heads of the sites of a mask
unfoldable pub without_at : ℕ → ℕ → Heads → Heads
without_at mask i h = record { merger = pop_merger_at mask i h.merger; heads = h.heads }

unfoldable pub without_to : ℕ → Heads → ℕ → Heads
without_to mask h n = record { merger = pop_merger h.merger mask n; heads = h.heads }

unfoldable pub without : Heads → ℕ → Heads
without h mask = without_to mask h (sites_in h)

pub without_none : (mask : ℕ) (h : Heads) → h ≡ without_to mask h 0
unfolding without_to pop_merger fold_below
without_none mask h = refl

pub without_more : (mask : ℕ) (h : Heads) (i : ℕ) → without_to mask h (i + 1) ≡ without_at mask i (without_to mask h i)
unfolding without_to without_at
without_more mask h i = rw pop_more

-- the due head, and the order without its parts; or the refusal's number, with the order as it was
unfoldable pub due_of : Heads → Result Due (ℕ × Heads)
due_of h =
    let r = head_in h.heads (least_in h) in
    pick (eqb (code_in h) 0) (Ok (record { head = r; heads = without h r.mask })) (Err (code_in h, h))

-- an answer with its cause's number
abbrev pub by_number : Result Due Undue → Result Due (ℕ × Heads)
by_number (Ok d) = Ok d
by_number (Err u) = Err (number_of u.cause, u.heads)

-- What a taken order says, refused or not.
pub record RefusedDue (h : Heads) (u : ℕ × Heads) : Type 0 where
  pub code : u.0 ≡ due_code h.merger h.heads (least_in h)
  pub same : u.1 ≡ h

pub record TakenDue (h : Heads) (d : Due) : Type 0 where
  pub code : due_code h.merger h.heads (least_in h) ≡ 0
  pub head : d.head ≡ head_in h.heads (least_in h)
  pub merger : d.heads.merger ≡ pop_merger h.merger (head_in h.heads (least_in h)).mask (sites_in h)

abbrev due_in : Result Due (ℕ × Heads) → Due → Due
due_in (Ok d) e = d
due_in (Err _) e = e

abbrev undue_in : Result Due (ℕ × Heads) → ℕ × Heads → ℕ × Heads
undue_in (Ok _) e = e
undue_in (Err u) e = u

-- whether it is an answer that goes on
abbrev goes_on : Result Due (ℕ × Heads) → Bool
goes_on (Ok _) = true
goes_on (Err _) = false

chosen : (t : Bool) (d : Due) (u : ℕ × Heads) → goes_on (pick t (Ok d) (Err u)) ≡ t
chosen true d u = refl
chosen false d u = refl

pub refused_due : (h : Heads) (u : ℕ × Heads) → Err u ≡ due_of h → RefusedDue h u
unfolding due_of code_in
refused_due h u e =
    let none = sym (ap goes_on e ∙ chosen _ _ _) in
    let here = rw none at e in
    let same = ap (λ r. undue_in r (0, h)) here in
    record { code = ap (λ (x : ℕ × Heads). x.0) same; same = ap (λ (x : ℕ × Heads). x.1) same }

pub taken_due : (h : Heads) (d : Due) → Ok d ≡ due_of h → TakenDue h d
unfolding due_of code_in without without_to
taken_due h d e =
    let due = sym (ap goes_on e ∙ chosen _ _ _) in
    let here = rw due at e in
    let same = ap (λ r. due_in r d) here in
    record {
      code = eqb-true _ _ due;
      head = ap (λ (x : Due). x.head) same;
      merger = ap (λ (x : Due). x.heads.merger) same;
    }
