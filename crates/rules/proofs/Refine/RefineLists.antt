-- The gathered lists with words put at one place.
use Prim.Native.Nat.{ℕ, ◌+◌, ◌*◌, ◌≤◌, ◌<◌}
use mathlib.Core.Path.{◌≡◌, sym, ap, ◌∙◌}
use mathlib.Core.List.{List, ◌++◌}
use native.Mathlib.Omega.{arith}
use lib.ListN.{length, take, drop, set, length-append}
use lib.Seq.{get_or-set_same, get_or-set_other, take-add, drop-drop, take_all}
use Rattle.laws.specs.Choice.{by_same}
use Rattle.laws.specs.Overlay.{put_at}
use Rattle.kinds.specs.Sizes as sizes
use Rattle.kinds.specs.Stage as stage
use Rattle.kinds.specs.declared.Sub.{Sub}
use Rattle.kinds.specs.State.{past_sub}
use Rattle.rules.specs.House.{coordinator_of}
use Rattle.rules.specs.KeysLaws.{by_order}
use Rattle.rules.proofs.EntryLaws.{Marks, append_marks}
use Rattle.rules.specs.Live.{part_at}
use Rattle.rules.specs.MergerWords.{length_put, put_before, put_behind, put_within}
use Rattle.rules.specs.World.{upd}
use Rattle.rules.proofs.Lists.Tables.{upd_same, upd_other}
use Rattle.rules.proofs.Refine.Refines.{ListIs, ListsAre}
use Rattle.rules.proofs.Refine.RefineLive.{Spot}

-- the words put are read back
put_back : (a : ℕ) (d ws : List ℕ) (n : ℕ) → a ≤ length d → length ws ≡ n → take n (drop a (put_at a d ws)) ≡ ws
put_back a d ws n h e =
    let z : a + 0 ≡ a = omega arith in
    rw z at (put_within a d ws 0 n h (omega arith)) ∙ take_all n ws (omega arith)

-- the first list of a part
pub list_first : (lists : List ℕ) (i : ℕ) (b : Sub) (es : List ℕ) → length lists ≡ sizes.lists → i < sizes.live
    → length es ≡ sizes.entry * b.course.listed → Marks es
    → ListIs (put_at (sizes.gathered * i) lists es) i b es
list_first lists i b es e h n m =
    record { size = n; words = put_back (sizes.gathered * i) lists es (sizes.entry * b.course.listed) (omega arith) n; marks = m }

-- one more behind those that stand there
pub list_more : (lists : List ℕ) (i : ℕ) (b c : Sub) (fs es : List ℕ) (k : ℕ) → length lists ≡ sizes.lists → i < sizes.live
    → ListIs lists i b fs
    → b.course.listed + k ≤ sizes.cert_entries → length es ≡ sizes.entry * k → c.course.listed ≡ b.course.listed + k → Marks es
    → ListIs (put_at (sizes.gathered * i + sizes.entry * b.course.listed) lists es) i c (fs ++ es)
list_more lists i b c fs es k e h l room n new m =
    let j = b.course.listed in
    let a = sizes.gathered * i + sizes.entry * j in
    let ws = put_at a lists es in
    let q : sizes.entry * c.course.listed ≡ sizes.entry * j + sizes.entry * k = omega arith in
    let one : take (sizes.entry * j) (drop (sizes.gathered * i) ws) ≡ fs =
    put_before a lists es (sizes.gathered * i) (sizes.entry * j) (omega arith) (omega arith) ∙ l.words in
    let two : take (sizes.entry * k) (drop (sizes.entry * j) (drop (sizes.gathered * i) ws)) ≡ es =
    rw (drop-drop (sizes.entry * j) (sizes.gathered * i) ws) (put_back a lists es (sizes.entry * k) (omega arith) n) in
    record {
      size = omega (arith, length-append fs es, l.size);
      words = rw (q, take-add (sizes.entry * j) (sizes.entry * k) (drop (sizes.gathered * i) ws), one, two);
      marks = append_marks fs es j l.size l.marks m;
    }

-- the others stay
pub lists_put : {own : ℕ} {live : List Sub} {lists : List ℕ} {gathered : ℕ → List ℕ} (i t : ℕ) (b : Sub) (at : ℕ) (ws es : List ℕ)
    → ListsAre own live lists gathered
    → length live ≡ sizes.live → Spot live i t → b.tx ≡ t → sizes.gathered * i ≤ at → at + length ws ≤ sizes.gathered * i + sizes.gathered
    → ((j : ℕ) → j < sizes.live → (part_at live j).course.listed ≤ sizes.cert_entries)
    → ListIs (put_at at lists ws) i b es → ListsAre own (set live i b) (put_at at lists ws) (upd gathered t es)
lists_put {own} {live} {lists} {gathered} i t b at ws es a size s x from to few new =
    record {
      size = length_put at lists ws (omega (arith, s.low, a.size)) ∙ a.size;
      each = λ j h f g. by_same j i
          (λ e. let q : part_at (set live i b) j ≡ b = rw e (get_or-set_same live i b past_sub (omega (arith, s.low))) in
          rw (q, ap (upd gathered t es) x ∙ upd_same gathered t es, e) new)
          (λ n. let q : part_at (set live i b) j ≡ part_at live j = get_or-set_other live i j b past_sub n in
          let f' : (part_at live j).course.stage ≡ stage.prepared = sym (ap (λ (c : Sub). c.course.stage) q) ∙ f in
          let old = a.each j h f' (sym (ap (λ (c : Sub). coordinator_of c.tx) q) ∙ g) in
          let o : ((part_at live j).tx ≡ t → ⊥) = λ z. n (s.alone j h (λ y. omega arith) z) in
          let k = (part_at live j).course.listed in
          rw (q, upd_other gathered t es (part_at live j).tx o)
          (record {
            size = old.size;
            words = by_order j i
                (λ l. put_before at lists ws (sizes.gathered * j) (sizes.entry * k) (omega (arith, s.low, a.size))
                (omega (arith, few j h)) ∙ old.words)
                (λ l. let m : sizes.gathered * i + sizes.gathered ≤ sizes.gathered * j = apart j i l n in
                rw (put_behind at lists ws (sizes.gathered * j) (omega (arith, s.low, a.size)) (omega arith)) old.words);
            marks = old.marks;
          }));
    }
  where
    apart : (j i : ℕ) → i ≤ j → (j ≡ i → ⊥) → sizes.gathered * i + sizes.gathered ≤ sizes.gathered * j
    apart j i l n = by_order i j (λ z. omega arith) (λ z. absurd (n (omega arith)))
