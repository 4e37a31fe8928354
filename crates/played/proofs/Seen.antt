-- Who saw `spanning` where, in the second script's book, and what demand 3 makes of it.
use Prim.Native.Nat.{ℕ}
use mathlib.Core.Path.{◌≡◌, refl}
use mathlib.Core.Bool.{Bool, true, false}
use mathlib.Core.List.{List, [], ◌∷◌}
use native.Mathlib.Omega.{arith}
use borrow.Author.Tests.{ltb-true}
use lib.ListN.{length, get_or, take, drop}
use lib.Dec.{ltb, eqb, lit<}
use Rattle.laws.specs.Choice.{every}
use Rattle.rules.specs.World.{Member}
use Rattle.rules.specs.Book.{Fact, began, used, wrote, committed, installed, replayed}
use Rattle.rules.specs.Claim.{Demand3, Committed, Dependent, on_write_of_other, Parts, Saw, NoneHalfSeen}
use Rattle.rules.proofs.Demand.Theorem.{demand3}
use Rattle.rules.proofs.Houses.Placed.{keys_placed}
use Rattle.played.specs.Script.{even, highlight}
use Rattle.played.specs.Second.{second_calls, second_book, spanning, half_seeing, later}
use Rattle.played.specs.Seen.{SawBoth, SawHalf}
use Rattle.played.proofs.Playable.{is_at}
use Rattle.played.proofs.Plays.{second_lawful, second_book_lem}
use Rattle.played.proofs.Order.{passes, passes_before, before_passes}

-- a fact at its place, from 0
abbrev fact : List Fact → ℕ → Fact
fact b i = get_or b i (replayed 0 0 0)

stands : (b : List Fact) (i : ℕ) → ltb i (length b) ≡ true → Member (fact b i) b
stands b i e = is_at b i (replayed 0 0 0) (ltb-true i (length b) e)

pub later_committed : Committed second_book later 3 2
unfolding second_book
later_committed = stands second_book 26 refl

spanning_committed : Committed second_book spanning 1 1
unfolding second_book
spanning_committed = stands second_book 6 refl

-- `later` used keys 5 and 261
later_touches : Dependent second_book later spanning
unfolding second_book
later_touches = on_write_of_other 5 (stands second_book 17 refl) (highlight 700 0, stands second_book 3 refl)

later_parts : (Parts second_book 1 later spanning) × (Parts second_book 2 later spanning)
unfolding second_book
later_parts = (
  record { one = stands second_book 16 refl; other = stands second_book 0 refl },
  record { one = stands second_book 15 refl; other = stands second_book 1 refl },
)

later_saw_1 : Saw second_book 1 later spanning
unfolding second_book
later_saw_1 =
    record {
      number = 1;
      coordinator = 1;
      committed = spanning_committed;
      before =
          record {
            front = take 9 second_book;
            rest = drop 9 second_book;
            split = refl;
            first = stands (take 9 second_book) 8 refl;
            second = stands (drop 9 second_book) 7 refl;
          };
    }

later_saw_2 : Saw second_book 2 later spanning
unfolding second_book
later_saw_2 =
    record {
      number = 1;
      coordinator = 1;
      committed = spanning_committed;
      before =
          record {
            front = take 15 second_book;
            rest = drop 15 second_book;
            split = refl;
            first = stands (take 15 second_book) 14 refl;
            second = stands (drop 15 second_book) 0 refl;
          };
    }

pub saw_both : SawBoth second_book later spanning 1 2
saw_both = ((later_touches, later_parts.0, later_parts.1, later_saw_1), later_saw_2)

-- `half_seeing` used them too
half_touches : Dependent second_book half_seeing spanning
unfolding second_book
half_touches = on_write_of_other 5 (stands second_book 10 refl) (highlight 700 0, stands second_book 3 refl)

half_parts : (Parts second_book 1 half_seeing spanning) × (Parts second_book 2 half_seeing spanning)
unfolding second_book
half_parts = (
  record { one = stands second_book 9 refl; other = stands second_book 0 refl },
  record { one = stands second_book 7 refl; other = stands second_book 1 refl },
)

half_saw_1 : Saw second_book 1 half_seeing spanning
unfolding second_book
half_saw_1 =
    record {
      number = 1;
      coordinator = 1;
      committed = spanning_committed;
      before =
          record {
            front = take 9 second_book;
            rest = drop 9 second_book;
            split = refl;
            first = stands (take 9 second_book) 8 refl;
            second = stands (drop 9 second_book) 0 refl;
          };
    }

-- no install at site 2 stands before its beginning there
abbrev install_at : ℕ → Fact → Bool
install_at r (began s t) = false
install_at r (used t k) = false
install_at r (wrote t k v) = false
install_at r (committed t n c) = false
install_at r (installed s n c) = eqb s r
install_at r (replayed y n c) = false

abbrev beginning : ℕ → ℕ → Fact → Bool
beginning r u (began s t) = every (eqb s r ∷ eqb t u ∷ [])
beginning r u (used t k) = false
beginning r u (wrote t k v) = false
beginning r u (committed t n c) = false
beginning r u (installed s n c) = false
beginning r u (replayed y n c) = false

none_before : passes_before (install_at 2) (beginning 2 half_seeing) second_book ≡ false
unfolding passes_before passes second_book
none_before = refl

half_missed_2 : Saw second_book 2 half_seeing spanning → ⊥
half_missed_2 saw =
    let e = before_passes (install_at 2) (beginning 2 half_seeing) refl refl saw.before in
    let d = none_before in
    let z : ◌≡◌ {A = ℕ} 0 1 = cc in
    absurd (omega arith)

pub saw_half : SawHalf second_book half_seeing spanning 1 2
saw_half = ((half_touches, half_parts.0, half_parts.1, half_saw_1), half_missed_2)

-- claim (C) of this list
none_half_seen : NoneHalfSeen second_book
unfolding Demand3
none_half_seen = rw (← second_book_lem) (demand3 (even 2) second_calls (keys_placed.even_good 2 (lit< tt) (lit< tt)) second_lawful).half_seen

pub none_committed : (n c : ℕ) → Committed second_book half_seeing n c → ⊥
none_committed n c m =
    none_half_seen half_seeing spanning n c 1 2 (λ e. absurd (omega arith)) m half_touches half_parts.0 half_saw_1 half_parts.1
    half_missed_2
