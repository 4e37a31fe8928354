-- Where the check finds no cause, the pair is set and the record's writes are laid over the values.
use borrow.Author.Tests.{tests}
use lib.Dec.{eqb}
use mathlib.Core.Bool.{false}
use mathlib.Core.Path.{◌≡◌, ◌∙◌, ap, refl, sym}
use native.Mathlib.Omega.{arith}
use borrow.Author.Rules.{rules}
use Rattle.kinds.specs.Refusal.{number_of}
use Rattle.kinds.specs.declared.refusal.Refusal.{Refusal}
use Rattle.kinds.specs.declared.RecordHead.{RecordHead}
use Rattle.kinds.specs.Sizes as sizes
use Rattle.laws.specs.ByteLaws.{bytes_back}
use Rattle.laws.specs.Bytes.{words_of}
use Rattle.laws.specs.Overlay.{length_rest, rest_is}
use Rattle.rules.specs.Copy.{replay_of, replayed}
use Rattle.rules.specs.CopyLaws.{replay_ready}
use Rattle.rules.specs.Record.{record_writes}
use Rattle.said.specs.Said.{returned_of, said_of}
use Rattle.reader.proofs.replay.replay_words.Goals as goal

-- no cause has the number 0
numbered : (cause : Refusal) → eqb (number_of cause) 0 ≡ false
numbered cause = search (rules, tests)

pub returns-in_err-r-clause-value : goal.returns-in_err-r-clause-value
unfolding replay_of said_of returned_of
returns-in_err-r-clause-value c = rw (← c.in_err-r.ensures.refusal, numbered) (search rules)

pub returns-in_err-r-clause-copy_after : goal.returns-in_err-r-clause-copy_after
unfolding replay_of
returns-in_err-r-clause-copy_after c =
    let same = bytes_back sizes.copy c.args.copy.now (λ i. search rules) c.requires in
    rw (← c.in_err-r.ensures.refusal, numbered) (sym same)

pub slice_bounds-put_writes-count : goal.slice_bounds-put_writes-count
slice_bounds-put_writes-count c =
    let k = replay_ready (words_of c.args.copy.now) c.args.m.now (sym c.in_ok-r.ensures.refusal) in
    omega (arith, k.merged.long)

pub slice_bounds-put_writes-start : goal.slice_bounds-put_writes-start
slice_bounds-put_writes-start c =
    let k = replay_ready (words_of c.args.copy.now) c.args.m.now (sym c.in_ok-r.ensures.refusal) in
    omega (arith, k.merged.long)

pub put_writes-requires : goal.put_writes-requires
unfolding record_writes
put_writes-requires c =
    let m = c.args.m.now in
    let k = replay_ready (words_of c.args.copy.now) m (sym c.in_ok-r.ensures.refusal) in
    let n = ap (λ (r : RecordHead). r.count) c.in_ok-r.ensures.head in
    record {
      copy_len = c.set_two.auto.copy ∙ c.requires;
      n_le_merged_writes = (omega (arith, n, k.merged.few), omega (arith, n, k.merged.fits, length_rest m sizes.record_header));
      by_index = λ i h. rw rest_is (k.merged.keys i (omega (arith, n)));
    }

pub returns : goal.returns
unfolding replay_of replayed record_writes said_of returned_of
returns c =
    let held = rw (c.set_two.ensures.words, rest_is) at c.put_writes.ensures in
    rw (← c.in_ok-r.ensures.refusal, ← c.in_ok-r.ensures.head) (record { value = refl; copy_after = held.bytes })
