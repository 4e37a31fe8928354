-- A line of a script (H1 to H20 and Q12.8): a verb and up to nine decimal numbers below 2^64, with one space between; anything else is
-- Bad. A write has five numbers. Only `sites` takes four or more than five: up to eight first keys stand behind its number of sites.
use Rattle.std.specs.Prelude.{ℕ, suc, ◌+◌, ◌-◌, ◌*◌, ◌≤◌, ◌<◌, ◌≡◌, List, [], ◌∷◌, length, get_or, set, ltb, leb, eqb, Option, None, Some}
use Rattle.std.proofs.Common.{⊎_elim, eq-or-lt_of_le, arith}
use Rattle.laws.specs.Choice.{pick}
use Rattle.laws.specs.Scan.{fold_below}
use Rattle.lines.specs.declared.Command.{Command}
use Rattle.lines.specs.declared.Command.TheVariants as command
use Rattle.lines.specs.declared.Place.{Place}

-- a letter more of a verb of at most seven
unfoldable pub letter : ℕ → ℕ → Option ℕ
letter v x = pick (ltb x 97) None (pick (ltb 122 x) None (pick (leb 281474976710656 v) None (Some (v * 256 + x))))

-- a digit more of a number below 2^64
unfoldable pub digit : ℕ → ℕ → Option ℕ
digit v x = pick (ltb x 48) None
    (pick (ltb 57 x) None (pick (leb 18446744073709551616 (v * 10 + (x - 48))) None (Some (v * 10 + (x - 48)))))

unfoldable pub grown : ℕ → ℕ → ℕ → Option ℕ
grown ended v x = pick (eqb ended 0) (letter v x) (digit v x)

-- What has been read of a line: how many words ended, whether the present one has begun, the present one, and the ended ones.
pub record Scan : Type 0 where
  pub ended : ℕ
  pub begun : ℕ
  pub word : ℕ
  pub words : List ℕ

unfoldable pub start : Scan
start = record { ended = 0; begun = 0; word = 0; words = 0 ∷ 0 ∷ 0 ∷ 0 ∷ 0 ∷ 0 ∷ 0 ∷ 0 ∷ 0 ∷ [] }

-- a scan of its place and its ended words, and the place of a scan
unfoldable pub scan_of : Place → List ℕ → Scan
scan_of p ws = record { ended = p.ended; begun = p.begun; word = p.word; words = ws }

unfoldable pub place_of : Scan → Place
place_of s = record { ended = s.ended; begun = s.begun; word = s.word }

unfoldable pub took : Place → Option ℕ → Place
took p (Some v) = record { ended = p.ended; begun = 1; word = v }
took p None = record { ended = 10; begun = p.begun; word = p.word }

abbrev pub spoilt : Scan → Scan
spoilt s = record { ended = 10; begun = s.begun; word = s.word; words = s.words }

abbrev pub next_word : Scan → Scan
next_word s = record { ended = s.ended + 1; begun = 0; word = 0; words = set s.words s.ended s.word }

-- a space ends a word that has begun, but for the ninth number: no word is behind it
unfoldable pub spaced : Scan → Scan
spaced s = pick (eqb s.begun 0) (spoilt s) (pick (leb 9 s.ended) (spoilt s) (next_word s))

-- the scan with one byte more: a byte that is no space belongs to the word
unfoldable pub stepped : Scan → ℕ → Scan
stepped s b =
    pick (leb 10 s.ended) s
    (pick (eqb b 32) (spaced s)
    (scan_of (took (place_of s) (grown s.ended s.word b)) s.words))

-- a verb's number
abbrev pub verb_from : ℕ → List ℕ → ℕ
verb_from v [] = v
verb_from v (x ∷ l) = verb_from (v * 256 + x) l

abbrev pub verb_of : List ℕ → ℕ
verb_of l = verb_from 0 l

unfoldable pub none_of : ℕ → Command
none_of verb =
    pick (eqb verb (verb_of (101 ∷ 109 ∷ 105 ∷ 116 ∷ []))) command.Emit  -- emit
    command.Bad

unfoldable pub one_of : ℕ → ℕ → Command
one_of verb a =
    pick (eqb verb (verb_of (115 ∷ 105 ∷ 116 ∷ 101 ∷ 115 ∷ []))) (command.Sites a 0)  -- sites, with no first keys
    (pick (eqb verb (verb_of (98 ∷ 101 ∷ 103 ∷ 105 ∷ 110 ∷ []))) (command.Begin a 0)  -- begin, for the house
    (pick (eqb verb (verb_of (99 ∷ 111 ∷ 109 ∷ 109 ∷ 105 ∷ 116 ∷ []))) (command.Commit a)  -- commit
    (pick (eqb verb (verb_of (97 ∷ 98 ∷ 97 ∷ 110 ∷ 100 ∷ 111 ∷ 110 ∷ []))) (command.Abandon a)  -- abandon
    (pick (eqb verb (verb_of (105 ∷ 110 ∷ 115 ∷ 116 ∷ 97 ∷ 108 ∷ 108 ∷ []))) (command.Install a)  -- install
    (pick (eqb verb (verb_of (114 ∷ 101 ∷ 112 ∷ 111 ∷ 114 ∷ 116 ∷ []))) (command.Report a)  -- report
    (pick (eqb verb (verb_of (109 ∷ 101 ∷ 114 ∷ 103 ∷ 101 ∷ []))) (command.Merge a)  -- merge
    (pick (eqb verb (verb_of (114 ∷ 101 ∷ 112 ∷ 108 ∷ 97 ∷ 121 ∷ []))) (command.Replay a)  -- replay
    command.Bad)))))))

unfoldable pub two_of : ℕ → ℕ → ℕ → Command
two_of verb a b =
    pick (eqb verb (verb_of (115 ∷ 105 ∷ 116 ∷ 101 ∷ 115 ∷ []))) (command.Sites a 1)  -- sites
    (pick (eqb verb (verb_of (98 ∷ 101 ∷ 103 ∷ 105 ∷ 110 ∷ []))) (command.Begin a b)  -- begin
    (pick (eqb verb (verb_of (101 ∷ 110 ∷ 108 ∷ 105 ∷ 115 ∷ 116 ∷ []))) (command.Enlist a b)  -- enlist
    (pick (eqb verb (verb_of (116 ∷ 97 ∷ 107 ∷ 101 ∷ []))) (command.Take a b)  -- take
    (pick (eqb verb (verb_of (118 ∷ 97 ∷ 108 ∷ 117 ∷ 101 ∷ []))) (command.Value a b)  -- value
    command.Bad))))

unfoldable pub three_of : ℕ → ℕ → ℕ → ℕ → Command
three_of verb a b c =
    pick (eqb verb (verb_of (115 ∷ 105 ∷ 116 ∷ 101 ∷ 115 ∷ []))) (command.Sites a 2)  -- sites
    (pick (eqb verb (verb_of (114 ∷ 101 ∷ 97 ∷ 100 ∷ []))) (command.Read a b c)  -- read
    command.Bad)

unfoldable pub five_of : ℕ → ℕ → ℕ → ℕ → ℕ → ℕ → Command
five_of verb a b c d e =
    pick (eqb verb (verb_of (115 ∷ 105 ∷ 116 ∷ 101 ∷ 115 ∷ []))) (command.Sites a 4)  -- sites
    (pick (eqb verb (verb_of (119 ∷ 114 ∷ 105 ∷ 116 ∷ 101 ∷ []))) (command.Write a b c d e)  -- write
    command.Bad)

-- a verb with another count of numbers, of which so many stand behind the first
unfoldable pub many_of : ℕ → ℕ → ℕ → Command
many_of verb a behind =
    pick (eqb verb (verb_of (115 ∷ 105 ∷ 116 ∷ 101 ∷ 115 ∷ []))) (command.Sites a behind)  -- sites
    command.Bad

-- the command of a line whose last word has a byte
unfoldable pub command_of : Scan → Command
command_of s =
    pick (eqb s.begun 0) command.Bad
    (pick (eqb s.ended 0) (none_of s.word)
    (pick (eqb s.ended 1) (one_of (get_or s.words 0 0) s.word)
    (pick (eqb s.ended 2) (two_of (get_or s.words 0 0) (get_or s.words 1 0) s.word)
    (pick (eqb s.ended 3) (three_of (get_or s.words 0 0) (get_or s.words 1 0) (get_or s.words 2 0) s.word)
    (pick (eqb s.ended 5)
    (five_of (get_or s.words 0 0) (get_or s.words 1 0) (get_or s.words 2 0) (get_or s.words 3 0) (get_or s.words 4 0) s.word)
    (pick (ltb 9 s.ended) command.Bad
    (many_of (get_or s.words 0 0) (get_or s.words 1 0) (s.ended - 1))))))))

-- a line's word by its place: an ended one, the present one, or 0 behind it
unfoldable pub word_at : Scan → ℕ → ℕ
word_at s at =
    pick (ltb s.ended at) 0
    (pick (eqb s.ended at) s.word
    (pick (leb 9 at) 0 (get_or s.words at 0)))

-- the first keys of a `sites` line in their order, 0 behind those given
unfoldable pub table_of : Scan → List ℕ
table_of s =
    word_at s 2 ∷ word_at s 3 ∷ word_at s 4 ∷ word_at s 5 ∷ word_at s 6 ∷ word_at s 7 ∷ word_at s 8 ∷ word_at s 9 ∷ []

-- the scan after n bytes more, from the byte at `from` on
unfoldable pub read_on : List ℕ → ℕ → ℕ → Scan → Scan
read_on l from n s = fold_below (λ i t. stepped t (get_or l (from + i) 0)) n s

-- where a reading of bytes from `from` on ends: at the first newline, or at `to`
pub record Ends (l : List ℕ) (from to at : ℕ) : Type 0 where
  pub after : from ≤ at
  pub within : at ≤ to
  pub newline : (at < to → get_or l at 0 ≡ 10)
  pub first : ((k : ℕ) → k < at - from → get_or l (from + k) 0 ≡ 10 → ⊥)

-- the command of a whole line
unfoldable pub line_of : List ℕ → Command
line_of l = command_of (read_on l 0 (length l) start)

-- A reading from `from` to `at`, and on by a byte.
pub read_none : (l : List ℕ) (from : ℕ) (s : Scan) → s ≡ read_on l from (from - from) s
unfolding read_on fold_below
read_none l from s = let e : from - from ≡ 0 = omega arith in rw e

pub read_more : (l : List ℕ) (from at : ℕ) (s t r : Scan) → from ≤ at → t ≡ read_on l from (at - from) s → r ≡ stepped t (get_or l at 0)
    → r ≡ read_on l from (at + 1 - from) s
unfolding read_on fold_below
read_more l from at s t r h e q =
    let n : at + 1 - from ≡ suc (at - from) = omega arith in
    let m : from + (at - from) ≡ at = omega arith in
    rw (n, m, q, e)

pub no_newline_none : (l : List ℕ) (from k : ℕ) → k < from - from → get_or l (from + k) 0 ≡ 10 → ⊥
no_newline_none l from k h e = omega arith

pub no_newline_more : (l : List ℕ) (from at : ℕ) → from ≤ at → ((k : ℕ) → k < at - from → get_or l (from + k) 0 ≡ 10 → ⊥)
    → (get_or l at 0 ≡ 10 → ⊥) → (k : ℕ) → k < at + 1 - from → get_or l (from + k) 0 ≡ 10 → ⊥
no_newline_more l from at h p q k b e =
    ⊎_elim
    (λ (w : k ≡ at - from). let m : from + k ≡ at = omega arith in q (rw m at e))
    (λ (w : k < at - from). p k w e)
    (eq-or-lt_of_le (omega arith))
