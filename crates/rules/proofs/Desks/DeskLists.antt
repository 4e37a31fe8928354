-- A transaction has the desk that it was begun for, after any lawful list: a begin leaves a part with it, and the desk of a transaction
-- that has begun stays. The keys that it wrote at a site stand at different places of one part.
use Prim.Native.Nat.{ℕ, ◌≤◌, ◌<◌}
use mathlib.Core.Path.{◌≡◌, refl, sym, ap, ◌∙◌}
use mathlib.Core.Bool.{true}
use mathlib.Core.List.{List, [], ◌∷◌, ◌++◌}
use native.Mathlib.Omega.{arith}
use borrow.Author.Tests.{eqb-true}
use lib.Dec.{eqb}
use lib.ListN.{length, get_or}
use lib.Seq.{get_or-set_same}
use Rattle.laws.specs.Choice.{by_test}
use Rattle.kinds.specs.Sizes as sizes
use Rattle.kinds.specs.declared.House.{House}
use Rattle.kinds.specs.declared.Answer.TheVariants.{Refused, Begun as Answered}
use Rattle.kinds.specs.declared.Keys.{Keys}
use Rattle.kinds.specs.declared.Site.{Site}
use Rattle.kinds.specs.declared.Sub.{Sub}
use Rattle.kinds.specs.State.{past_sub, sub_at}
use Rattle.rules.specs.House.{home_of, mask_of, GoodHouse}
use Rattle.rules.specs.Desk.{is_desk, write_limit}
use Rattle.rules.specs.MessageLaws.{site_clear}
use Rattle.rules.specs.Keys.{key_place, wrote_key}
use Rattle.rules.specs.Live.{free_place}
use Rattle.rules.specs.Valid.{site_ok}
use Rattle.rules.specs.Effect.{changed, settle}
use Rattle.rules.specs.Course.{new_sub}
use Rattle.rules.specs.Begin.{next_tx, begin_code, begun, begin_of, begin_clear}
use Rattle.rules.specs.World.{World, Call, Lawful, upd, step, site_step, run, fresh_world}
use Rattle.rules.specs.World as world
use Rattle.rules.specs.Book.{Fact, facts_of, book_from}
use Rattle.rules.specs.Claim.{Wrote}
use Rattle.rules.specs.Desks.{Different, DesksKept}
use Rattle.rules.proofs.Lists.Tables.{upd_same, regroup}
use Rattle.rules.proofs.Lists.Counts.{at_most}
use Rattle.rules.proofs.Protocol.ProtocolTables.{Protocol}
use Rattle.rules.proofs.Protocol.Invariants.{Held}
use Rattle.rules.proofs.Refine.Refines.{IsFree, Refines}
use Rattle.rules.proofs.Refine.RefineLive.{part_is}
use Rattle.rules.proofs.Refine.RefineStep.{inside}
use Rattle.rules.proofs.Refine.KeysTold.{place_low, place_is}
use Rattle.rules.proofs.Stream.Stream.{Stream, Steps, stop, more, moves, merges, replays, fresh_stream}
use Rattle.rules.proofs.Stream.StreamReached.{Standing, standing_steps}
use Rattle.rules.proofs.Book.Booked.{Booked}
use Rattle.rules.proofs.Demand.Stands.{Stands, Keeps, call_stands, run_stands, list_stands}
use Rattle.rules.proofs.Desks.DeskGroup.{Desks, Begun, DesksAfter, desks_fresh, desks_step}

-- Over some steps.
desks_on : {desk : ℕ → ℕ} {p q r : Protocol} (x : DesksAfter desk p q) → DesksAfter x.after q r → DesksAfter desk p r
desks_on x y =
    record {
      after = y.after;
      desks = y.desks;
      same = λ t e. let (a, b) = x.same t e in let (c, d) = y.same t b in (c ∙ a, d);
    }

desks_still : {desk : ℕ → ℕ} {p : Protocol} → Desks desk p → DesksAfter desk p p
desks_still {desk} x = record { after = desk; desks = x; same = λ t e. (refl, e) }

desks_steps : {house : House} {v u : Stream} → house.sites ≤ 8 → Standing house v → Steps house v u → {desk : ℕ → ℕ}
    → Desks desk v.protocol
    → DesksAfter desk v.protocol u.protocol
desks_steps few z stop x = desks_still x
desks_steps few z (more ss (moves q m)) x =
    let y = desks_steps few z ss x in
    desks_on y (desks_step (standing_steps few ss z).invariant y.desks q m)
desks_steps few z (more ss (merges n m)) x = desks_steps few z ss x
desks_steps few z (more ss (replays c l)) x = desks_steps few z ss x

-- What holds of the machine: each transaction has some desk; and tx, which has begun, has desk d.
record SomeDesks (w : World) (v : Stream) : Type 0 where
  desk : ℕ → ℕ
  desks : Desks desk v.protocol

record OneDesk (tx d : ℕ) (w : World) (v : Stream) : Type 0 where
  desk : ℕ → ℕ
  desks : Desks desk v.protocol
  begun : Begun v.protocol tx
  is : desk tx ≡ d

some_keeps : {house : House} → house.sites ≤ 8 → Keeps SomeDesks house
some_keeps few w v u c h i z ss e j m = let y = desks_steps few z ss m.desks in record { desk = y.after; desks = y.desks }

fresh_desks : (house : House) → SomeDesks (fresh_world house) fresh_stream
unfolding fresh_stream
fresh_desks house = record { desk = λ t. 0; desks = desks_fresh }

one_keeps : {house : House} → house.sites ≤ 8 → (tx d : ℕ) → Keeps (OneDesk tx d) house
one_keeps few tx d w v u c h i z ss e j m =
    let y = desks_steps few z ss m.desks in
    let (a, b) = y.same tx m.begun in
    record { desk = y.after; desks = y.desks; begun = b; is = a ∙ m.is }

-- An accepted begin leaves a part for its desk.
answered : (a b : ℕ) → Answered a ≡ Answered b → a ≡ b
answered a b e = cc

not_answered : (n b : ℕ) → Refused n ≡ Answered b → ⊥
not_answered n b e = let z : ◌≡◌ {A = ℕ} 0 1 = cc in omega arith

record Began (house : House) (w : World) (s d tx : ℕ) : Type 0 where
  low : 1 ≤ s
  high : s ≤ house.sites
  known : is_desk d ≡ true
  place : ℕ
  within : place < sizes.live
  held : IsFree (sub_at (w.site s) place) → ⊥
  tx_is : (sub_at (w.site s) place).tx ≡ tx
  desk_is : (sub_at (w.site s) place).desk ≡ d

module _ {house : House} {w : World} {p : Protocol} (r : Refines house w p) (s d tx : ℕ) where
  abbrev site : Site
  site = w.site s

  abbrev free : ℕ
  free = free_place site.live

  abbrev code : ℕ
  code = begin_code (site_ok site) (is_desk d) site.counters free

  begins : code ≡ 0 → next_tx site.counters ≡ tx
      → Began house (site_step w s (changed site free (begun site d) []) (w.base s) (w.lists s)).world s d tx
  unfolding site_step begun settle new_sub
  begins e t =
      let c = begin_clear (site_ok site) (is_desk d) site.counters free e in
      let (l, h) = inside r s c.valid in
      let long = (r.site s l h).live.size in
      let b = new_sub (next_tx site.counters) d (mask_of site.counters.own) site.counters.installs in
      let x = (changed site free (begun site d) []).site in
      let part : sub_at (upd w.site s x s) free ≡ b =
      ap (λ (y : Site). sub_at y free) (upd_same w.site s x) ∙ get_or-set_same site.live free b past_sub (omega arith) in
      record {
        low = l;
        high = h;
        known = c.desk;
        place = free;
        within = c.free;
        held = λ z. omega (arith, ap (λ (b : Sub). b.course.stage) part, z);
        tx_is = ap (λ (b : Sub). b.tx) part ∙ t;
        desk_is = ap (λ (b : Sub). b.desk) part;
      }

  began : (step w (world.begin s d)).answer ≡ Answered tx → Began house (step w (world.begin s d)).world s d tx
  unfolding step site_step begin_of begun
  began =
      by_test (eqb code 0)
      (λ z. rw z (λ e. begins (eqb-true code 0 z) (answered _ tx e)))
      (λ z. rw z (λ e. absurd (not_answered code tx e)))

-- The machine has the parts of the house.
held_desk : {house : House} {w : World} {p : Protocol} {desk : ℕ → ℕ} → Refines house w p → Desks desk p → (s i tx : ℕ) → 1 ≤ s
    → s ≤ house.sites
    → i < sizes.live → (IsFree (sub_at (w.site s) i) → ⊥) → (sub_at (w.site s) i).tx ≡ tx
    → Held p s tx × ((sub_at (w.site s) i).desk ≡ desk tx)
held_desk {p = p} r x s i tx l h k f e =
    let part = (r.site s l h).live.holds i k f ∙ ap (p.live s) e in
    let held = rw part at f in
    (held, ap (λ (b : Sub). b.desk) part ∙ x.held s tx held)

starts : {house : House} {w : World} {b : List Fact} (s d tx : ℕ) → Began house w s d tx → Stands SomeDesks house w b
    → Stands (OneDesk tx d) house w b
starts s d tx y x =
    let (held, same) = held_desk x.is.refines x.more.desks s y.place tx y.low y.high y.within y.held y.tx_is in
    let parts = x.standing.invariant.parts in
    record {
      stream = x.stream;
      standing = x.standing;
      is = x.is;
      booked = x.booked;
      more =
          record {
            desk = x.more.desk;
            desks = x.more.desks;
            begun = parts.coordinator s tx (parts.has s tx held);
            is = sym same ∙ y.desk_is;
          };
    }

module _ (house : House) (few : house.sites ≤ 8) (tx d : ℕ) where
  abbrev Ends : World → List Fact → Type 0
  Ends w b = (is_desk d ≡ true) × Stands (OneDesk tx d) house w b

  after_begin : (s : ℕ) (rest : List Call) (w : World) (b : List Fact) → Lawful (step w (world.begin s d)).world rest
      → (step w (world.begin s d)).answer ≡ Answered tx → Stands SomeDesks house w b
      → (let c = world.begin s d in let x = step w c in
      Ends (run x.world rest) ((b ++ facts_of c x.answer x.words) ++ book_from x.world rest))
  after_begin s rest w b h a x =
      let c = world.begin s d in
      let y = began x.is.refines s d tx a in
      let z = starts s d tx y (call_stands SomeDesks few (some_keeps few) c tt x) in
      (y.known, run_stands (OneDesk tx d) few (one_keeps few tx d) rest (step w c).world _ h z)

  through : (calls rest : List Call) (s : ℕ) (w : World) (b : List Fact) → (let l = calls ++ (world.begin s d ∷ rest) in
      Lawful w l → (step (run w calls) (world.begin s d)).answer ≡ Answered tx → Stands SomeDesks house w b
      → Ends (run w l) (b ++ book_from w l))
  unfolding run book_from
  through [] rest s w b (h, hs) a x =
      let c = world.begin s d in
      regroup (Ends (run (step w c).world rest)) b (facts_of c (step w c).answer (step w c).words) (book_from (step w c).world rest)
      (after_begin s rest w b hs a x)
  through (c ∷ calls) rest s w b (h, hs) a x =
      let l = calls ++ (world.begin s d ∷ rest) in
      regroup (Ends (run (step w c).world l)) b (facts_of c (step w c).answer (step w c).words) (book_from (step w c).world l)
      (through calls rest s (step w c).world _ hs a (call_stands SomeDesks few (some_keeps few) c h x))

-- Different keys that a part wrote are at most as many as it counts.
wrote_most : (b : Keys) (keys : List ℕ) → Different keys → ((i : ℕ) → i < length keys → wrote_key b (get_or keys i 0) ≡ true)
    → length keys ≤ b.wrote
wrote_most b keys apart wrote =
    at_most (length keys) b.wrote (λ i. key_place b.writes b.wrote (get_or keys i 0)) (λ i h. place_low b _ (wrote i h))
    (λ i j h k e. apart i j h k
    (sym (place_is b.writes b.wrote _ (place_low b _ (wrote i h))) ∙ ap (λ (z : ℕ). get_or b.writes z 0) e
    ∙ place_is b.writes b.wrote _ (place_low b _ (wrote j k))))

-- what the book has of the writes
writes_most : {house : House} {p : Protocol} {b : List Fact} {desk : ℕ → ℕ} → Booked house b p → Desks desk p → (s tx : ℕ) (keys : List ℕ)
    → Different keys
    → ((i : ℕ) → i < length keys → (home_of house (get_or keys i 0) ≡ s) × Wrote b tx (get_or keys i 0))
    → length keys ≤ write_limit (desk tx)
writes_most x y s tx [] apart wrote = omega arith
writes_most {house} {p} x y s tx (k ∷ keys) apart wrote =
    let most = wrote_most (p.keys s tx) (k ∷ keys) apart (λ i h. (told i h).1) in
    omega (arith, most, y.few s tx (told 0 (omega arith)).0)
  where
    told : (i : ℕ) → i < length (k ∷ keys) → (p.has s tx ≡ true) × (wrote_key (p.keys s tx) (get_or (k ∷ keys) i 0) ≡ true)
    told i h = let (e, (v, w)) = wrote i h in rw e at (x.writes.wrote tx (get_or (k ∷ keys) i 0) v w)

fresh_stands : (house : House) → GoodHouse house → Stands SomeDesks house (fresh_world house) []
unfolding run book_from
fresh_stands house good = list_stands SomeDesks good.few (some_keeps good.few) good (fresh_desks house) [] tt

pub desks_kept : DesksKept
unfolding DesksKept
desks_kept house list good lawful tx d y =
    let few = good.few in
    let l = y.calls ++ (world.begin y.at d ∷ y.more) in
    let lawful' : Lawful (fresh_world house) l = rw y.split at lawful in
    let fresh = fresh_stands house good in
    let (known, x) = through house few tx d y.calls y.more y.at (fresh_world house) [] lawful' y.answers fresh in
    rw y.split
    (record {
      known = known;
      parts = λ s i t h e.
          let o = site_clear house s t in
          let (f, g) = part_is (sub_at ((run (fresh_world house) l).site s) i) tx e in
          (held_desk x.is.refines x.more.desks s i tx o.low o.high h f g).1 ∙ x.more.is;
      writes = λ s keys apart wrote. rw x.more.is at (writes_most x.booked x.more.desks s tx keys apart wrote);
    })
