-- Whether the offset passes the last is asked by a division.
use Prim.Native.Nat.{ℕ, ◌+◌, ◌-◌, ◌*◌, ◌/◌, ◌<◌, ◌≤◌}
use native.Mathlib.Nat.{div-lt_iff_lt-mul, le-div_iff_mul-le}
use native.Mathlib.Omega.{arith}
use borrow.Author.Tests.{ne_eqb, le-leb, lt-leb, lt-ltb, le-ltb}
use Rattle.kinds.specs.Sizes as sizes
use Rattle.rules.specs.Page.{offset_code}
use Rattle.bookmarks.proofs.check_offset.Goals as goal
use Rattle.bookmarks.proofs.check_offset.Goals.{then-size-rest-via-then-size-rest, then-size-rest-via-else-size-rest+then-rest-size}

-- The quotient tells on which side of the last the offset is.
past : (size page rest : ℕ) → rest < size → rest ≤ sizes.last → (sizes.last - rest) / size < page
    → sizes.last < page * size + rest
past size page rest h r l =
    let z = (div-lt_iff_lt-mul {k = size} {x = sizes.last - rest} {y = page} (omega arith)).0 l in omega arith

within : (size page rest : ℕ) → rest < size → rest ≤ sizes.last → page ≤ (sizes.last - rest) / size
    → page * size + rest ≤ sizes.last
within size page rest h r l =
    let z = (le-div_iff_mul-le {k = size} {x = page} {y = sizes.last - rest} (omega arith)).0 l in omega arith

pub returns-then-size-rest : goal.returns-then-size-rest
unfolding offset_code
returns-then-size-rest c =
    let a = c.args in
    let some = ne_eqb a.size 0 c.if-size-eq0.false in
    elim c.then-size-rest.branch [
      | then-size-rest-via-then-size-rest w ↦ simp (some, le-leb a.size a.rest w.if-size-rest.true)
      | then-size-rest-via-else-size-rest+then-rest-size w ↦
          simp (
            some,
            lt-leb a.size a.rest w.if-size-rest.false,
            lt-ltb _ _ (past a.size a.page a.rest (omega arith) (omega arith) (omega (arith, w.if-rest-size.true))),
          )
    ]

pub returns : goal.returns
unfolding offset_code
returns c =
    let a = c.args in
    let p = within a.size a.page a.rest (omega arith) (omega arith) (omega arith) in
    simp (ne_eqb a.size 0 c.if-size-eq0.false, lt-leb a.size a.rest (omega arith), le-ltb _ _ p)
