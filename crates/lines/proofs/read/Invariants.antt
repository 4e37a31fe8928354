-- The scan has read the bytes from `from` to `i`, and none of them is a newline.
use Rattle.std.proofs.Common.{◌≡◌, ℕ, ◌+◌, ◌-◌, ◌<◌, ◌≤◌, get_or}
use Rattle.lines.specs.Line.{read_on, scan_of}
use Rattle.lines.proofs.read.Given as goal

abbrev pub invariant-loop-i : goal.invariant-loop-i
invariant-loop-i l =
    (l.from ≤ l.i) × (scan_of l.p l.words ≡ read_on l.text l.from (l.i - l.from) (scan_of l.initial.p l.initial.words))
    × ((k : ℕ) → k < l.i - l.from → get_or l.text (l.from + k) 0 ≡ 10 → ⊥)
