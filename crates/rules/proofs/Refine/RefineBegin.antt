-- Begin, as a move.
use Prim.Native.Nat.{ℕ, ◌+◌, ◌<◌}
use mathlib.Core.Path.{◌≡◌, refl, sym, ap, ◌∙◌}
use mathlib.Core.List.{[]}
use native.Mathlib.Omega.{arith}
use lib.ListN.{length}
use Rattle.kinds.specs.Sizes as sizes
use Rattle.kinds.specs.declared.House.{House}
use Rattle.rules.specs.House.{tx_of, mask_of}
use Rattle.rules.specs.Desk.{is_desk}
use Rattle.rules.specs.Live.{free_place}
use Rattle.rules.specs.Valid.{site_ok}
use Rattle.rules.specs.Effect.{Effect, refused, changed, settle}
use Rattle.rules.specs.Course.{new_sub}
use Rattle.rules.specs.Begin.{next_tx, begin_code, begun, begin_of, begin_clear}
use Rattle.rules.specs.World.{World, upd, step, site_step, messages_in, split_words}
use Rattle.rules.specs.World as world
use Rattle.rules.specs.Book as book
use Rattle.rules.proofs.Lists.Tables.{upd_same, upd_other, a_nil, row_same, row_other}
use Rattle.rules.proofs.Protocol.ProtocolTables.{Protocol, inst, set_serial}
use Rattle.rules.proofs.Protocol.Protocol.{began_at, begin, stop, more}
use Rattle.rules.proofs.Protocol.Invariants.{Invariant}
use Rattle.rules.proofs.Protocol.Frames.{new_tx}
use Rattle.rules.proofs.Refine.Refines.{IsFree, Refines}
use Rattle.rules.proofs.Refine.RefineLive.{by_free, free_spot}
use Rattle.rules.proofs.Refine.RefineSite.{new_sub_lem, new_stage, site_sub, site_serial}
use Rattle.rules.proofs.Refine.RefineStep.{Follows, told_by, by_code, grows_none, inside, stays, site_step_lem}

module _ {house : House} {w : World} {p : Protocol} (r : Refines house w p) (i : Invariant house p) (s d : ℕ) where
  abbrev Goal : Effect → Type 0
  Goal e = Follows house p (site_step w s e (w.base s) (w.lists s)).world (book.begins s e.answer)

  begins : begin_code (site_ok (w.site s)) (is_desk d) (w.site s).counters (free_place (w.site s).live) ≡ 0
      → Goal (changed (w.site s) (free_place (w.site s).live) (begun (w.site s) d) [])
  unfolding begun settle next_tx messages_in split_words
  begins e =
      let x = w.site s in
      let place = free_place x.live in
      let c = begin_clear (site_ok x) (is_desk d) x.counters place e in
      let (l, h) = inside r s c.valid in
      let y = r.site s l h in
      let k = y.counters in
      let t = tx_of s (p.serial s + 1) in
      let u : p.serial s < sizes.last_serial = omega (arith, k.serial_is, c.unspent) in
      let f : IsFree (p.live s t) =
      by_free (p.live s t) (λ z. z) (λ z. absurd (new_tx house p s t i.parts u refl s (i.parts.has s t z))) in
      let b = new_sub t d (mask_of s) (length (inst p s)) in
      let q = began_at (set_serial (upd p.serial s (p.serial s + 1)) p) s t d (mask_of s) in
      let spot = free_spot y.live t c.free f in
      let n : new_sub (tx_of x.counters.own (x.counters.serial + 1)) d (mask_of x.counters.own) x.counters.installs ≡ b =
      rw (k.own_is, k.serial_is, k.installs_are) in (
        q,
        more stop (begin s t d l h u refl),
        rw (k.own_is, k.serial_is),
        site_step_lem r s l h
            (record {
              clock = λ j z. refl;
              serial = λ j z. upd_other p.serial s (p.serial s + 1) j z;
              live = λ j z. row_other p.live s t b j z;
              post = λ j z m. refl;
              taken = λ z j m. refl;
              log = λ j z. refl;
              gathered = λ z m. refl;
            })
            (changed x place (begun x d) []) (w.base s) (w.lists s)
            (site_sub (site_serial y (x.counters.serial + 1)
            (upd_same p.serial s (p.serial s + 1) ∙ ap (λ (z : ℕ). z + 1) (sym k.serial_is))) place t _
            spot (rw n (λ z. new_sub_lem t d (mask_of s) (length (inst p s))))
            (rw n (λ z m. absurd (omega (arith, new_stage t d (mask_of s) (length (inst p s)))))) (rw n (row_same p.live s t b)))
            (grows_none p.post) (λ j. refl) a_nil,
      )

  pub begin_moves : let x = step w (world.begin s d) in Follows house p x.world (told_by (world.begin s d) x.answer x.words)
  unfolding step site_step begin_of
  begin_moves =
      let x = w.site s in
      let place = free_place x.live in
      let code = begin_code (site_ok x) (is_desk d) x.counters place in
      by_code Goal code x [] (changed x place (begun x d) []) begins (stays r s (refused code x []) refl refl)
