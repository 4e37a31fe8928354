-- F19, H1, Q1.5, Q8.1, Q8.2 and Q12.8: the numbers of an answer, those printed after `ok`, `ok abort` or `refused`. A value is start, then
-- length.
use Rattle.std.specs.Prelude.{ℕ, List, [], ◌∷◌, eqb}
use Rattle.laws.specs.Choice.{pick}
use Rattle.laws.specs.Cause.{Cause, first_in}
use Rattle.rules.specs.Refusals.{order}
use Rattle.kinds.specs.declared.Answer.{Answer}
use Rattle.kinds.specs.declared.Answer.TheVariants.{Refused, Done, Begun, Found, Searched, Committed, Aborted, Installed}
use Rattle.kinds.specs.declared.Answer.TheVariants.{Reported, Emitted, Replayed, Standing, Paged, Offset}

pub data Said : Type 0 where
  ok : List ℕ → Said
  abort : ℕ → Said
  no : ℕ → Said

unfoldable pub said_of : Answer → Said
said_of (Refused n) = no n
said_of Done = ok []
said_of (Begun tx) = ok (tx ∷ [])
said_of (Found v) = ok (v.start ∷ v.length ∷ [])
said_of (Searched v n) = ok (v.start ∷ v.length ∷ n ∷ [])
said_of (Committed n) = ok (n ∷ [])
said_of (Aborted r) = abort r
said_of (Installed n c) = ok (n ∷ c ∷ [])
said_of (Reported n) = ok (n ∷ [])
said_of (Emitted n c tx) = ok (n ∷ c ∷ tx ∷ [])
said_of (Replayed n c) = ok (n ∷ c ∷ [])
said_of (Standing v n c) = ok (v.start ∷ v.length ∷ n ∷ c ∷ [])
said_of (Paged p r) = ok (p ∷ r ∷ [])
said_of (Offset o) = ok (o ∷ [])

-- what a call on bytes returns (Q1.5): 0, or the number of its refusal; none of them answers an abort
unfoldable pub returned_of : Said → ℕ
returned_of (ok ns) = 0
returned_of (abort r) = r
returned_of (no n) = n

-- a call of these causes says the number of the first that holds, in an order, and where none holds what it says once it is taken
unfoldable pub unless_first_in : List ℕ → List Cause → Said → Said
unless_first_in own l said = pick (eqb (first_in own l) 0) said (no (first_in own l))

-- the order of the table
abbrev pub unless_first : List Cause → Said → Said
unless_first = unless_first_in order
