-- Demand 3, claim (C), has what it speaks of: a transaction that saw another at two sites, and one that saw it at one only.
use Rattle.std.specs.Prelude.{ℕ, List}
use Rattle.rules.specs.Book.{Fact}
use Rattle.rules.specs.Claim.{Dependent, Parts, Saw}

-- tx and ux, dependent, have parts at s and r; tx saw ux at s
abbrev pub Touching : List Fact → ℕ → ℕ → ℕ → ℕ → Type 0
Touching b tx ux s r = Dependent b tx ux × Parts b s tx ux × Parts b r tx ux × Saw b s tx ux

-- and saw it at r too, or missed it there
abbrev pub SawBoth : List Fact → ℕ → ℕ → ℕ → ℕ → Type 0
SawBoth b tx ux s r = Touching b tx ux s r × Saw b r tx ux

abbrev pub SawHalf : List Fact → ℕ → ℕ → ℕ → ℕ → Type 0
SawHalf b tx ux s r = Touching b tx ux s r × (Saw b r tx ux → ⊥)
