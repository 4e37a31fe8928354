-- A bad table is refused 22 where all else fits: TablesRefused.
use Prim.Native.Nat.{ℕ}
use mathlib.Core.Path.{◌≡◌, refl, sym, ap, subst, ◌∙◌}
use mathlib.Core.Bool.{Bool, true, false, not}
use mathlib.Core.List.{List, [], ◌∷◌}
use native.Mathlib.Omega.{arith}
use borrow.Author.Tests.{leb-true, le-leb, eqb-true, eq-eqb}
use lib.Dec.{leb, eqb}
use lib.ListN.{length}
use Rattle.laws.specs.Cause.{cause, code_of}
use Rattle.laws.specs.Choice.{pick, every, every_at, by_test, set_not, unset}
use Rattle.kinds.specs.Sizes as sizes
use Rattle.kinds.specs.Reason as reason
use Rattle.kinds.specs.declared.Answer.{Answer}
use Rattle.kinds.specs.declared.Answer.TheVariants.{Done, Refused}
use Rattle.rules.specs.House.{count_ok, table_ok, GoodTable, is_site}
use Rattle.rules.specs.HouseLaws.{count_clear, clear_count, table_good, good_table}
use Rattle.rules.specs.Answers.{is_refused}
use Rattle.rules.specs.Install.{start_code, start_of}
use Rattle.rules.specs.Merger.{merger_start_code, merger_start_of}
use Rattle.rules.specs.Tables.{CountFits, StartFits, ByTable, TablesRefused}
use Rattle.rules.proofs.Messages.GoesOn.{refused_number}

not_done : Done ≡ Refused 22 → ⊥
not_done e = set_not true refl (sym (ap is_refused e))

not_two : Refused 2 ≡ Refused 22 → ⊥
not_two e = let z = refused_number 2 22 e in omega arith

-- what a start answers by its tests, the table's last
abbrev answer_by : List Bool → Bool → Answer
answer_by [] table = pick table Done (Refused reason.bad_table)
answer_by (b ∷ l) table = pick b (answer_by l table) (Refused reason.malformed)

-- all others hold
abbrev All : List Bool → Type 0
All [] = Unit {0}
All (b ∷ l) = (b ≡ true) × All l

by_bad : (l : List Bool) (table : Bool) → All l → table ≡ false → answer_by l table ≡ Refused 22
by_bad [] table a e = rw e
by_bad (b ∷ l) table (a, more) e = rw a (by_bad l table more e)

by_good : (l : List Bool) (table : Bool) → All l → table ≡ true → answer_by l table ≡ Done
by_good [] table a e = rw e
by_good (b ∷ l) table (a, more) e = rw a (by_good l table more e)

only_by : (l : List Bool) (table : Bool) → answer_by l table ≡ Refused 22 → All l × (table ≡ false)
only_by [] true e = absurd (not_done e)
only_by [] false e = (tt, refl)
only_by (true ∷ l) table e = let (a, t) = only_by l table e in ((refl, a), t)
only_by (false ∷ l) table e = absurd (not_two e)

-- so of a start that answers by them, where the other tests say that it fits
by_table : (sites : ℕ) (table : List ℕ) (l : List Bool) (Fits : Type 0) → (Fits → All l) → (All l → Fits)
    → ByTable (answer_by l (table_ok sites table)) Fits (GoodTable sites table)
by_table sites table l Fits to from =
    record {
      bad = λ f n. by_bad l _ (to f) (unset _ (λ e. n (table_good sites table e)));
      only_bad = λ e. let (a, t) = only_by l _ e in (from a, λ g. set_not _ (good_table sites table g) t);
      taken = λ f g. by_good l _ (to f) (good_table sites table g);
    }

-- The two starts answer so.
three : (a b c t : Bool)
    → (let code = code_of (cause (not a) 2 ∷ cause (not b) 2 ∷ cause (not c) 2 ∷ cause (not t) 22 ∷ []) in
    pick (eqb code 0) Done (Refused code) ≡ answer_by (a ∷ b ∷ c ∷ []) t)
three false b c t = refl
three true false c t = refl
three true true false t = refl
three true true true false = refl
three true true true true = refl

five : (a b c d e t : Bool)
    → (let code = code_of
    (cause (not a) 2 ∷ cause (not b) 2 ∷ cause (not c) 2 ∷ cause (not d) 2 ∷ cause (not e) 2 ∷ cause (not t) 22 ∷ []) in
    pick (eqb code 0) Done (Refused code) ≡ answer_by (a ∷ b ∷ c ∷ d ∷ e ∷ []) t)
five false b c d e t = refl
five true false c d e t = refl
five true true false d e t = refl
five true true true false e t = refl
five true true true true false t = refl
five true true true true true false = refl
five true true true true true true = refl

start_answer : (sites : ℕ) (table : List ℕ) (own base lists : ℕ)
    → (let code = start_code sites table own base lists in
    (start_of sites table own base lists).answer ≡ pick (eqb code 0) Done (Refused code))
unfolding start_of
start_answer sites table own base lists =
    by_test (eqb (start_code sites table own base lists) 0) (λ t. rw t refl) (λ t. rw t refl)

merger_answer : (sites : ℕ) (table queues : List ℕ)
    → (let code = merger_start_code sites table (length queues) in
    (merger_start_of sites table queues).answer ≡ pick (eqb code 0) Done (Refused code))
unfolding merger_start_of
merger_answer sites table queues = by_test (eqb (merger_start_code sites table (length queues)) 0) (λ t. rw t refl) (λ t. rw t refl)

counts : (sites : ℕ) (table : List ℕ) → count_ok sites ≡ true → eqb (length table) sites ≡ true → CountFits sites table
counts sites table c l = let (a, b) = count_clear sites c in record { some = a; few = b; count = eqb-true _ _ l }

start_table_lem : (sites : ℕ) (table : List ℕ) (own base lists : ℕ)
    → ByTable (start_of sites table own base lists).answer (StartFits sites table own base lists) (GoodTable sites table)
unfolding start_code is_site
start_table_lem sites table own base lists =
    let here = leb 1 own ∷ leb own sites ∷ [] in
    let long = eqb (length table) sites in
    let says = start_answer sites table own base lists
    ∙ five (count_ok sites) long (every here) (eqb base sizes.base) (eqb lists sizes.lists) (table_ok sites table) in
    subst (λ (a : Answer). ByTable a (StartFits sites table own base lists) (GoodTable sites table)) (sym says)
    (by_table sites table
    (count_ok sites ∷ long ∷ every here ∷ eqb base sizes.base ∷ eqb lists sizes.lists ∷ [])
    (StartFits sites table own base lists)
    (λ f. (
      clear_count sites f.table_fits.some f.table_fits.few,
      (
        eq-eqb _ _ f.table_fits.count,
        (rw (le-leb 1 own f.own_first, le-leb own sites f.own_last), (eq-eqb _ _ f.base_fits, (eq-eqb _ _ f.lists_fit, tt))),
      ),
    ))
    (λ (c, (l, (o, (b, (e, _))))). record {
      table_fits = counts sites table c l;
      own_first = leb-true 1 own (every_at here 0 o);
      own_last = leb-true own sites (every_at here 1 o);
      base_fits = eqb-true _ _ b;
      lists_fit = eqb-true _ _ e;
    }))

merger_table : (sites : ℕ) (table queues : List ℕ)
    → ByTable (merger_start_of sites table queues).answer (CountFits sites table × (length queues ≡ sizes.queues)) (GoodTable sites table)
unfolding merger_start_code
merger_table sites table queues =
    let long = eqb (length table) sites in
    let says = merger_answer sites table queues ∙ three (count_ok sites) long (eqb (length queues) sizes.queues) (table_ok sites table) in
    subst (λ (a : Answer). ByTable a (CountFits sites table × (length queues ≡ sizes.queues)) (GoodTable sites table)) (sym says)
    (by_table sites table (count_ok sites ∷ long ∷ eqb (length queues) sizes.queues ∷ [])
    (CountFits sites table × (length queues ≡ sizes.queues))
    (λ (f, q). (clear_count sites f.some f.few, (eq-eqb _ _ f.count, (eq-eqb _ _ q, tt))))
    (λ (c, (l, (q, _))). (counts sites table c l, eqb-true _ _ q)))

pub tables_refused : TablesRefused
tables_refused = record { start = start_table_lem; merger_start = merger_table }
