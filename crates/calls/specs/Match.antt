-- Demand 3: the cores and the words that a house keeps are the sites of a world. A call in a place leaves those of the world's step.
use Rattle.std.specs.Prelude.{ℕ, ◌+◌, ◌<◌, ◌≡◌, refl, List, eqb, length, get_or, set}
use Rattle.std.proofs.Common.{sym, ap, ◌∙◌, arith, eq-eqb, ne_eqb, eqb-true, length-set, get_or-set_same, get_or-set_other}
use Rattle.std.proofs.lemmas.Bool.{eqb-false}
use Rattle.laws.specs.Choice.{by_test}
use Rattle.laws.specs.Overlay.{overlay}
use Rattle.kinds.specs.Sizes as sizes
use Rattle.kinds.specs.declared.Core.{Core}
use Rattle.kinds.specs.declared.Reply.{Reply}
use Rattle.kinds.specs.declared.Site.{Site}
use Rattle.rules.specs.House.{no_house}
use Rattle.rules.specs.Effect.{Effect}
use Rattle.rules.specs.World as world
use Rattle.rules.specs.World.{World, Call, step, site_step, log_step, upd}
use Rattle.lent.specs.Fresh.{fresh_core}
use Rattle.lines.specs.declared.Command.{Command}
use Rattle.pieces.specs.Own.{only_length, only_elsewhere}
use Rattle.calls.specs.Tables.{Tables}
use Rattle.calls.specs.Calls.{effect_of, base_left, lists_left, Makes, steps}
use Rattle.calls.specs.Calls.{begin, enlist, read, write, commit, abandon, install, report}
use Rattle.calls.specs.Places.{Words, words, own_base, own_lists, site_in, Leaves}
use Rattle.calls.specs.Places.{line_effect, message_effect, LineLeaves, MessageLeaves}

-- the core of the site in place i
abbrev pub core_in : List Core → ℕ → Core
core_in cores i = get_or cores i (fresh_core no_house 0)

-- the site in place i is the world's site i + 1
pub record SitesMatch (w : World) (cores : List Core) (t : Words) : Type 0 where
  pub many : length cores ≡ sizes.sites
  pub tables : Tables t.live t.history t.base t.lists
  pub site : (i : ℕ) → i < sizes.sites → site_in i (core_in cores i) t ≡ w.site (i + 1)
  pub base : (i : ℕ) → i < sizes.sites → own_base i t ≡ w.base (i + 1)
  pub lists : (i : ℕ) → i < sizes.sites → own_lists i t ≡ w.lists (i + 1)

-- v is w with the state x, the base values b and the lists l at site s; the other sites stay
pub record Replaces (w v : World) (s : ℕ) (x : Site) (b l : List ℕ) : Type 0 where
  pub site : (j : ℕ) → v.site j ≡ upd w.site s x j
  pub base : (j : ℕ) → v.base j ≡ upd w.base s b j
  pub lists : (j : ℕ) → v.lists j ≡ upd w.lists s l j

upd_own : {A : Type 0} (f : ℕ → A) (s j : ℕ) (a : A) → j ≡ s → upd f s a j ≡ a
unfolding upd
upd_own f s j a e = rw (eq-eqb j s e)

upd_other : {A : Type 0} (f : ℕ → A) (s j : ℕ) (a : A) → (j ≡ s → ⊥) → upd f s a j ≡ f j
unfolding upd
upd_other f s j a n = rw (ne_eqb j s n)

-- what stays is replaced by itself
upd_same : {A : Type 0} (f : ℕ → A) (s j : ℕ) → f j ≡ upd f s (f s) j
upd_same f s j =
    by_test (eqb j s)
    (λ t. sym (upd_own f s j (f s) (eqb-true j s t) ∙ ap f (sym (eqb-true j s t))))
    (λ n. sym (upd_other f s j (f s) (eqb-false j s n)))

abbrev effect : World → Command → ℕ → List ℕ → Effect
effect w c s out = effect_of c (w.site s) (w.base s) (w.lists s) (length out)

replaces : (w : World) (c : Command) (s : ℕ) (out : List ℕ) (k : Call) → Makes c s out k
    → Replaces w (step w k).world s (effect w c s out).site
    (base_left c (effect w c s out) (w.base s)) (lists_left c (effect w c s out) (w.lists s))
unfolding step site_step log_step effect_of base_left lists_left
replaces w c s out k (begin site d _ _) = record { site = λ j. refl; base = λ j. refl; lists = λ j. refl }
replaces w c s out k (enlist tx site _ _) = record { site = λ j. refl; base = λ j. refl; lists = λ j. refl }
replaces w c s out k (read site tx key _ _) = record { site = λ j. refl; base = λ j. refl; lists = λ j. refl }
replaces w c s out k (write site tx key start long _ _) = record { site = λ j. refl; base = λ j. refl; lists = λ j. refl }
replaces w c s out k (commit tx _ _) = record { site = λ j. refl; base = λ j. refl; lists = λ j. refl }
replaces w c s out k (abandon tx _ _) = record { site = λ j. refl; base = λ j. refl; lists = λ j. refl }
replaces w c s out k (install site _ _) = record { site = λ j. refl; base = λ j. refl; lists = upd_same w.lists s }
replaces w c s out k (report site _ _) = record { site = λ j. refl; base = λ j. refl; lists = upd_same w.lists s }

-- A call in place i leaves the sites of a world in which only site i + 1 is replaced.
matched : (w v : World) (cores : List Core) (t u : Words) (i : ℕ) (out left : List ℕ) (e : Effect) (b l : List ℕ) (r : Reply)
    → SitesMatch w cores t → i < sizes.sites → Leaves i (core_in cores i) t out e b l r u left → Replaces w v (i + 1) e.site b l
    → SitesMatch v (set cores i r.core) u
matched w v cores t u i out left e b l r h low a n =
    record {
      many = length-set cores i r.core ∙ h.many;
      tables =
          record {
            live = only_length sizes.live_words i sizes.sites t.live u.live low h.tables.live a.others.live;
            history =
                only_length sizes.history_words i sizes.sites t.history u.history low h.tables.history a.others.history;
            base = only_length sizes.base i sizes.sites t.base u.base low h.tables.base a.others.base;
            lists = only_length sizes.lists i sizes.sites t.lists u.lists low h.tables.lists a.others.lists;
          };
      site = λ j q. by_test (eqb j i) (λ y. rw (eqb-true j i y) own_site) (λ z. other_site j q (eqb-false j i z));
      base = λ j q. by_test (eqb j i) (λ y. rw (eqb-true j i y) own_base_lem) (λ z. other_base j q (eqb-false j i z));
      lists = λ j q. by_test (eqb j i) (λ y. rw (eqb-true j i y) own_lists_lem) (λ z. other_lists j q (eqb-false j i z));
    }
  where
    next : (j : ℕ) → (j ≡ i → ⊥) → j + 1 ≡ i + 1 → ⊥
    next j z f = z (omega arith)

    own_site : site_in i (core_in (set cores i r.core) i) u ≡ v.site (i + 1)
    own_site =
        rw (get_or-set_same cores i r.core (fresh_core no_house 0) (omega (arith, low, h.many)))
        (a.replied.left.seen ∙ sym (n.site (i + 1) ∙ upd_own w.site (i + 1) (i + 1) e.site refl))

    own_base_lem : own_base i u ≡ v.base (i + 1)
    own_base_lem = a.base ∙ sym (n.base (i + 1) ∙ upd_own w.base (i + 1) (i + 1) b refl)

    own_lists_lem : own_lists i u ≡ v.lists (i + 1)
    own_lists_lem = a.lists ∙ sym (n.lists (i + 1) ∙ upd_own w.lists (i + 1) (i + 1) l refl)

    other_site : (j : ℕ) → j < sizes.sites → (j ≡ i → ⊥) → site_in j (core_in (set cores i r.core) j) u ≡ v.site (j + 1)
    other_site j q z =
        rw (
          get_or-set_other cores i j r.core (fresh_core no_house 0) z,
          only_elsewhere sizes.live_words i j sizes.sites t.live u.live low h.tables.live a.others.live z,
          only_elsewhere sizes.history_words i j sizes.sites t.history u.history low h.tables.history a.others.history z,
        )
        (h.site j q ∙ sym (n.site (j + 1) ∙ upd_other w.site (i + 1) (j + 1) e.site (next j z)))

    other_base : (j : ℕ) → j < sizes.sites → (j ≡ i → ⊥) → own_base j u ≡ v.base (j + 1)
    other_base j q z =
        only_elsewhere sizes.base i j sizes.sites t.base u.base low h.tables.base a.others.base z
        ∙ h.base j q
        ∙ sym (n.base (j + 1) ∙ upd_other w.base (i + 1) (j + 1) b (next j z))

    other_lists : (j : ℕ) → j < sizes.sites → (j ≡ i → ⊥) → own_lists j u ≡ v.lists (j + 1)
    other_lists j q z =
        only_elsewhere sizes.lists i j sizes.sites t.lists u.lists low h.tables.lists a.others.lists z
        ∙ h.lists j q
        ∙ sym (n.lists (j + 1) ∙ upd_other w.lists (i + 1) (j + 1) l (next j z))

-- The cores, the words, the reply and the buffer after a call are those of the world's step k.
pub record Stepped (w : World) (k : Call) (cores : List Core) (u : Words) (out : List ℕ) (r : Reply) (left : List ℕ) : Type 0 where
  pub sites : SitesMatch (step w k).world cores u
  pub answer : r.answer ≡ (step w k).answer
  pub many : r.words ≡ length (step w k).words
  pub wrote : left ≡ overlay out (step w k).words

-- a line's call of a site, and a message, make the world's step
pub line_steps : (w : World) (cores : List Core) (t u : Words) (c : Command) (k : Call) (i : ℕ) (out left : List ℕ) (r : Reply)
    → SitesMatch w cores t → i < sizes.sites → Makes c (i + 1) out k → LineLeaves c i (core_in cores i) t out r u left
    → Stepped w k (set cores i r.core) u out r left
unfolding LineLeaves line_effect
line_steps w cores t u c k i out left r h low is a =
    let s = steps w c (i + 1) out k is in
    let here = rw (h.site i low, h.base i low, h.lists i low) at a in
    record {
      sites = matched w (step w k).world cores t u i out left _ _ _ r h low here (replaces w c (i + 1) out k is);
      answer = here.replied.answer ∙ sym s.answer;
      many = here.replied.words ∙ sym (ap length s.words);
      wrote = here.wrote ∙ sym (ap (overlay out) s.words);
    }

pub message_steps : (w : World) (cores : List Core) (t : Words) (m : List ℕ) (i : ℕ) (out : List ℕ) (r : Reply) (live lists left : List ℕ)
    → SitesMatch w cores t → i < sizes.sites
    → MessageLeaves m i (core_in cores i) t.live t.history t.lists out r live lists left
    → Stepped w (world.message (i + 1) out m) (set cores i r.core) (words live t.history t.base lists) out r left
unfolding MessageLeaves message_effect step site_step
message_steps w cores t m i out r live lists left h low a =
    let all = a t.base in
    let here = rw (h.site i low, h.base i low, h.lists i low) at all in
    let k = world.message (i + 1) out m in
    record {
      sites =
          matched w (step w k).world cores t (words live t.history t.base lists) i out left _ _ _ r h low here
          (record { site = λ j. refl; base = λ j. refl; lists = λ j. refl });
      answer = here.replied.answer;
      many = here.replied.words;
      wrote = here.wrote;
    }
