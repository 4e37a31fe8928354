-- A possible site stays possible with a part settled at its place, and with its lists kept or one of them made longer.
use Prim.Native.Nat.{ℕ, ◌≤◌, ◌<◌}
use mathlib.Core.Path.{◌≡◌, refl}
use mathlib.Core.Bool.{true}
use mathlib.Core.List.{List}
use native.Mathlib.Omega.{arith}
use lib.ListN.{length, get_or, set}
use lib.Seq.{get_or-set_same, get_or-set_other}
use Rattle.laws.specs.Choice.{by_same}
use Rattle.kinds.specs.Sizes as sizes
use Rattle.kinds.specs.State.{past_sub, sub_at}
use Rattle.kinds.specs.declared.House.{House}
use Rattle.kinds.specs.declared.Sub.{Sub}
use Rattle.kinds.specs.declared.Site.{Site}
use Rattle.kinds.specs.declared.Turn.{Turn}
use Rattle.rules.specs.House.{is_tx}
use Rattle.rules.specs.Live.{place_of}
use Rattle.rules.specs.Valid.{sub_ok, live_ok, site_ok, list_at, gathered_ok, lists_ok, handed_ok}
use Rattle.rules.specs.ValidLaws.{ValidSub, ValidSite, valid_site, handed_site, handed_length, handed_entry}
use Rattle.rules.specs.Effect.{Change, Effect, settle, changed, refused, unless}
use Rattle.rules.proofs.Refine.Refines.{IsFree, LiveIs}
use Rattle.rules.proofs.Refine.RefineLive.{part_is, found_place}
use Rattle.rules.proofs.Refine.RefineStep.{by_code}
use Rattle.rules.proofs.Refine.RefineMail.{Made, none}
use Rattle.rules.proofs.Possible.ValidMade.{course_back, keys_back, desk_made, sub_made, sub_back, live_made, site_tests, site_made}
use Rattle.rules.proofs.Possible.ValidMade.{lists_made, gathered_made, handed_made}
use Rattle.rules.proofs.Possible.EntriesMade.{AllPossible}
use Rattle.rules.proofs.Possible.Passing.{Passes}
use Rattle.rules.proofs.Possible.StepsFit.{Fits, TurnFits, ChangeFits}

-- A possible site with its lists, and tables of their length.
pub record Sound (s : Site) (lists : List ℕ) : Type 0 where
  pub handed : handed_ok s lists ≡ true
  pub row : ℕ → Sub
  pub live : LiveIs s.live row
  pub history : length s.history ≡ sizes.history

-- What a call of site s leaves, with its lists after it, and what it writes.
pub record EffectFits (s : Site) (e : Effect) (lists : List ℕ) : Type 0 where
  pub handed : handed_ok e.site lists ≡ true
  pub words : Made (Passes s.house) e.words

module _ {s : Site} {lists : List ℕ} (y : Sound s lists) where
  abbrev o : House
  o = s.house

  abbrev here : ℕ
  here = s.counters.own

  pub site_ok_lem : site_ok s ≡ true
  site_ok_lem = handed_site s lists y.handed

  pub lists_long : length lists ≡ sizes.lists
  lists_long = handed_length s lists y.handed

  pub site_valid : ValidSite s
  site_valid = valid_site s site_ok_lem

  pub part_at : (i : ℕ) → i < sizes.live → ValidSub o here (sub_at s i)
  part_at i h = site_valid.part i h

  -- at most 47 entries of each list gathered
  pub few_listed : (j : ℕ) → j < sizes.live → (sub_at s j).course.listed ≤ sizes.cert_entries
  few_listed j h = let v = (part_at j h).course in omega (arith, v.listed, v.heard_few)

  -- the entries of a held part stand in the lists
  pub old_possible : (j : ℕ) → j < sizes.live → (IsFree (sub_at s j) → ⊥) → AllPossible o (list_at lists j) (sub_at s j).course.listed
  old_possible j h f i k = handed_entry s lists y.handed j i h f k

  pub old_fits : (place : ℕ) → place < sizes.live → (IsFree (sub_at s place) → ⊥) → Fits s (list_at lists place) s.counters (sub_at s place)
  old_fits place low held =
      let v = part_at place low in
      record {
        own = refl;
        installs = refl;
        counters = (site_tests s site_ok_lem).counters;
        course = course_back o here _ v.course;
        keys = keys_back o here _ v.keys;
        desk = desk_made _ _ v.desk v.few;
        tx = v.tx;
        entries = old_possible place low held;
      }

  -- The part of t, where it is held.
  module _ (t : ℕ) (low : place_of s.live t < sizes.live) where
    pub held_there : IsFree (sub_at s (place_of s.live t)) → ⊥
    held_there = (part_is _ t (found_place y.live t low)).0

    pub tx_there : (sub_at s (place_of s.live t)).tx ≡ t
    tx_there = (part_is _ t (found_place y.live t low)).1

    pub tx_possible : is_tx o (sub_at s (place_of s.live t)).tx ≡ true
    tx_possible = (part_at (place_of s.live t) low).tx held_there

  module _ (place : ℕ) (low : place < sizes.live) (t : Turn) {es : List ℕ} (x : TurnFits s es t) where
    -- what holds of the new part and of the others holds of each
    settled : (P : ℕ → Sub → Type 0) → P place t.sub → ((i : ℕ) → i < sizes.live → (i ≡ place → ⊥) → P i (sub_at s i))
        → (i : ℕ) → i < sizes.live → P i (get_or (set s.live place t.sub) i past_sub)
    settled P new old i h =
        by_same i place
        (λ e. rw (e, get_or-set_same s.live place t.sub past_sub (omega (arith, y.live.size))) new)
        (λ n. rw (get_or-set_other s.live place i t.sub past_sub n) (old i h n))

    pub settled_live : live_ok o here (set s.live place t.sub) ≡ true
    settled_live =
        let new = sub_made o here t.sub x.course x.keys x.desk x.tx in
        live_made o here (set s.live place t.sub)
        (settled (λ i b. sub_ok o here b ≡ true) new (λ i h n. sub_back o here _ (part_at i h)))

    -- the lists after it hold what the other parts had gathered
    pub settled_lists : (after : List ℕ) → es ≡ list_at after place
        → ((j : ℕ) → j < sizes.live → (j ≡ place → ⊥) → (IsFree (sub_at s j) → ⊥)
        → AllPossible o (list_at after j) (sub_at s j).course.listed)
        → lists_ok o (set s.live place t.sub) after ≡ true
    settled_lists after e others =
        let new = gathered_made o t.sub (list_at after place) (λ f. rw e at x.entries) in
        lists_made o (set s.live place t.sub) after
        (settled (λ i b. gathered_ok o b (list_at after i) ≡ true) new (λ i h m. gathered_made o (sub_at s i) (list_at after i) (others i h m)))

    settled_ok : site_ok (settle s place t) ≡ true
    unfolding settle
    settled_ok =
        let old = site_tests s site_ok_lem in
        site_made (settle s place t) (record {
          house = old.house;
          counters = x.counters;
          live = rw x.own settled_live;
          history = rw (x.own, x.installs) old.history;
        })

    pub settled_handed : (after : List ℕ) → es ≡ list_at after place → length after ≡ sizes.lists
        → ((j : ℕ) → j < sizes.live → (j ≡ place → ⊥) → (IsFree (sub_at s j) → ⊥)
        → AllPossible o (list_at after j) (sub_at s j).course.listed)
        → handed_ok (settle s place t) after ≡ true
    unfolding settle
    settled_handed after e n others = handed_made (settle s place t) after n settled_ok (settled_lists after e others)

  -- A call that changes the part at a place and keeps the lists.
  pub changed_fits : (place : ℕ) → place < sizes.live → (c : Change) (lent : List ℕ) → ChangeFits s (list_at lists place) c
      → EffectFits s (changed s place c lent) lists
  changed_fits place h c lent x =
      record { handed = settled_handed place h c.turn x.turn lists refl lists_long (λ j k n f. old_possible j k f); words = x.words }

  -- A refusal.
  pub refused_fits : (code : ℕ) (lent : List ℕ) → EffectFits s (refused code s lent) lists
  refused_fits code lent = record { handed = y.handed; words = none }

  pub unless_fits : (code : ℕ) (lent : List ℕ) (e : Effect) → (code ≡ 0 → EffectFits s e lists) → EffectFits s (unless code s lent e) lists
  unless_fits code lent e f = by_code (λ e. EffectFits s e lists) code s lent e f (refused_fits code lent)
