-- The kinds of message (M10): the word of each, and what a word is read as.
use Rattle.std.specs.Prelude.{ℕ, ◌≡◌, ◌<◌, ◌⊎◌, Result, MatchResult}
use Rattle.kinds.specs.Kind as kind
use Rattle.kinds.specs.declared.kind.MessageKind.{MessageKind}
use Rattle.kinds.specs.declared.kind.MessageKind.TheVariants.{Join, Joined, Prepare, Conc, Cert, Vote, Commit, Abort}
use Rattle.kinds.specs.declared.kind.NoKind.{NoKind}

abbrev pub word_of : MessageKind → ℕ
word_of Join = kind.join
word_of Joined = kind.joined
word_of Prepare = kind.prepare
word_of Conc = kind.conc
word_of Cert = kind.cert
word_of Vote = kind.vote
word_of Commit = kind.commit
word_of Abort = kind.abort

-- the kind of that word, or no kind: it is 0 or past the last
abbrev pub Decodes : ℕ → Result MessageKind NoKind → Type 0
Decodes word r = MatchResult r (λ k. word ≡ word_of k) (λ e. (e.0 ≡ word) × ((word < kind.join) ⊎ (kind.abort < word)))
