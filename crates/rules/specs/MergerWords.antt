-- Laws of the queues' words: the record in a place, writes joined, what a part put behind a queue and a head taken from it leave.
use Rattle.std.specs.Prelude.{◌*◌, ◌+◌, ◌-◌, ◌<◌, ◌≤◌, suc, zero, ℕ, ltb, get_or, replicate, set, take, false, true, List, [], ◌++◌, ◌∷◌, ◌⊎◌, ◌≡◌, refl}
use Rattle.std.proofs.Common.{ltb-false, ltb-true, drop_of_length-le, length-append, length-drop, drop_at, drop-drop, get_or-append-add, get_or-drop, get_or-take, length-take-le, take_all, take-take, append-nil, inl, inr, ◌∙◌, sym, arith}
use Rattle.std.proofs.Math.ListN.{get_or-append, drop, length}
use Rattle.std.proofs.Math.Seq.{drop-append-add, take_at, take-nil}
use Rattle.std.proofs.lemmas.List.{drop-append-le, take-append-le}
use Rattle.std.proofs.Math.Path.{ap}
use Rattle.laws.specs.Choice.{by_test, pick}
use Rattle.laws.specs.Overlay.{behind, length_overlay, length_rest, overlay, overlay_copied, put_at}
use Rattle.laws.specs.Scan.{fold_more, fold_below, split_last}
use Rattle.rules.specs.House.{in_mask}
use Rattle.rules.specs.Merger.{behind_head, joined_writes, part_writes, place_at, place_words, pop_queue, pop_queue_at, pop_queues, queued_part}
use Rattle.rules.specs.Merger.{site_words}
use Rattle.rules.specs.Record.{record_head, record_writes}
use Rattle.kinds.specs.Sizes as sizes
use Rattle.kinds.specs.Word as word

-- Words laid over the front of a list.
pub overlay_whole : (d ws : List ℕ) → length d ≤ length ws → overlay d ws ≡ ws
unfolding overlay
overlay_whole d ws h = rw (drop_of_length-le d h, append-nil)

pub overlay_behind : (d ws : List ℕ) (i : ℕ) → length ws ≤ i → get_or (overlay d ws) i 0 ≡ get_or d i 0
unfolding overlay
overlay_behind d ws i h =
    let e : i ≡ length ws + (i - length ws) = omega arith in
    ap (λ (k : ℕ). get_or (ws ++ drop (length ws) d) k 0) e ∙ get_or-append-add ws (drop (length ws) d) (i - length ws) 0
    ∙ get_or-drop (length ws) d (i - length ws) 0 ∙ ap (λ (k : ℕ). get_or d k 0) (sym e)

-- a word moved up by n
pub moved_more : (d xs : List ℕ) (n k : ℕ) → xs ≡ overlay d (take k (drop n d)) → k + n < length d
    → set xs k (get_or xs (k + n) 0) ≡ overlay d (take (k + 1) (drop n d))
moved_more d xs n k e h =
    let l : length (take k (drop n d)) ≡ k = length-take-le k (drop n d) (omega (arith, length-drop n d)) in
    let c : k + n ≡ n + k = omega arith in
    let v : get_or xs (k + n) 0 ≡ get_or (drop n d) k 0 =
    rw e (overlay_behind d (take k (drop n d)) (k + n) (omega arith) ∙ ap (λ (j : ℕ). get_or d j 0) c ∙ sym (get_or-drop n d k 0)) in
    rw v (overlay_copied d (drop n d) xs k e (omega (arith, length-drop n d)) (omega arith))

-- Writes joined.
pub joined_more : (queues : List ℕ) (mask i : ℕ) → joined_writes queues mask (i + 1) ≡ joined_writes queues mask i ++ part_writes queues mask i
unfolding joined_writes
joined_more queues mask i = fold_more (λ i ws. ws ++ part_writes queues mask i) i []

-- the part at the head of site i + 1 stands in its place and has at most 16 writes
pub record PartFits (queues : List ℕ) (i : ℕ) : Type 0 where
  pub short : get_or (place_words queues i 0) word.length 0 ≤ sizes.part
  pub long : sizes.record_header ≤ length (queued_part queues i 0)
  pub few : (record_head (queued_part queues i 0)).count ≤ sizes.writes
  pub size : length (record_writes (queued_part queues i 0)) ≡ sizes.write * (record_head (queued_part queues i 0)).count

-- so it is where the mask names the site,
unfoldable pub HeadFits : List ℕ → ℕ → ℕ → Type 0
HeadFits queues mask i = in_mask mask (i + 1) ≡ true → PartFits queues i

-- and at each of the first n sites
unfoldable pub HeadsFit : List ℕ → ℕ → ℕ → Type 0
HeadsFit queues mask n = (i : ℕ) → i < n → HeadFits queues mask i

-- how many writes k words are, at most n of them
pub record Writes (ws : List ℕ) (n : ℕ) : Type 0 where
  pub count : ℕ
  pub few : count ≤ n
  pub size : length ws ≡ sizes.write * count

pub part_writes_lem : (queues : List ℕ) (mask i : ℕ) → HeadFits queues mask i → Writes (part_writes queues mask i) sizes.writes
unfolding part_writes HeadFits
part_writes_lem queues mask i f =
    by_test (in_mask mask (i + 1))
    (λ e. let p = f e in record { count = (record_head (queued_part queues i 0)).count; few = p.few; size = rw e p.size })
    (λ e. record { count = 0; few = omega arith; size = rw e refl })

pub joined_writes_lem : (queues : List ℕ) (mask n : ℕ) → HeadsFit queues mask n → Writes (joined_writes queues mask n) (sizes.writes * n)
unfolding joined_writes fold_below HeadsFit
joined_writes_lem queues mask zero f = record { count = 0; few = omega arith; size = refl }
joined_writes_lem queues mask (suc n) f =
    let w = joined_writes_lem queues mask n (λ i h. f i (omega arith)) in
    let p = part_writes_lem queues mask n (f n (omega arith)) in
    record {
      count = w.count + p.count;
      few = omega arith;
      size = length-append (joined_writes queues mask n) (part_writes queues mask n) ∙ omega arith;
    }

pub heads_fewer : (queues : List ℕ) (mask n i : ℕ) → HeadsFit queues mask n → i ≤ n → HeadsFit queues mask i
unfolding HeadsFit
heads_fewer queues mask n i f h k l = f k (omega arith)

pub head_fits : (queues : List ℕ) (mask n i : ℕ) → HeadsFit queues mask n → i < n → HeadFits queues mask i
unfolding HeadsFit
head_fits queues mask n i f h = f i h

pub part_fits : (queues : List ℕ) (mask i : ℕ) → HeadFits queues mask i → in_mask mask (i + 1) ≡ true → PartFits queues i
unfolding HeadFits
part_fits queues mask i f e = f e

-- Heads taken.
pub pops_more : (queues : List ℕ) (mask i : ℕ) → pop_queues queues mask (i + 1) ≡ pop_queue_at mask i (pop_queues queues mask i)
unfolding pop_queues
pops_more queues mask i = fold_more (pop_queue_at mask) i queues

-- the places moved up, and 0 over the last
pub head_dropped : (d xs ys : List ℕ) (a : ℕ) → length d ≡ sizes.site_queue → xs ≡ overlay d (drop sizes.part d)
    → a ≡ length (drop sizes.part d)
    → ys ≡ replicate (length (take (length xs - a) (drop a xs))) 0 → take a xs ++ (ys ++ drop (length xs - a) (drop a xs)) ≡ behind_head d
head_dropped d xs ys a n x e y =
    let m = length-drop sizes.part d in
    let l : length xs ≡ length d = ap length x ∙ length_overlay d (drop sizes.part d) (omega arith) in
    let r : length (take (length xs - a) (drop a xs)) ≡ sizes.part = length_rest xs a ∙ omega arith in
    let z : ys ≡ overlay (take (length xs - a) (drop a xs)) (replicate sizes.part 0) =
    y ∙ ap (λ (k : ℕ). replicate k 0) r ∙ sym (overlay_whole (take (length xs - a) (drop a xs)) (replicate sizes.part 0) (omega arith)) in
    behind d (drop sizes.part d) (replicate sizes.part 0) xs ys a e (omega arith) x z
    ∙ overlay_whole d (behind_head d) (omega (arith, length-append (drop sizes.part d) (replicate sizes.part 0)))

pub length_behind : (ws : List ℕ) → sizes.part ≤ length ws → length (behind_head ws) ≡ length ws
length_behind ws h = length-append (drop sizes.part ws) (replicate sizes.part 0) ∙ omega (arith, length-drop sizes.part ws)

pub length_site : (queues : List ℕ) (i : ℕ) → length queues ≡ sizes.queues → i < sizes.sites → length (site_words queues i) ≡ sizes.site_queue
unfolding site_words
length_site queues i e h =
    length-take-le sizes.site_queue (drop (sizes.site_queue * i) queues) (omega (arith, length-drop (sizes.site_queue * i) queues))

-- what is left where the head is dropped from the lent words of one site
pub queue_popped : (queues ys : List ℕ) (i n : ℕ) → length queues ≡ sizes.queues → i < sizes.sites → n ≡ sizes.site_queue
    → ys ≡ behind_head (take n (drop (sizes.site_queue * i) queues))
    → take (sizes.site_queue * i) queues ++ (ys ++ drop n (drop (sizes.site_queue * i) queues)) ≡ pop_queue queues i
unfolding pop_queue put_at site_words
queue_popped queues ys i n e h m y =
    let ws = take sizes.site_queue (drop (sizes.site_queue * i) queues) in
    let s : length ws ≡ sizes.site_queue = length_site queues i e h in
    let l : length (behind_head ws) ≡ sizes.site_queue = length_behind ws (omega arith) ∙ s in
    rw (y, m, drop-drop, l)

-- what was laid over the front of xs, read back
pub front_back : (d ws xs : List ℕ) (k : ℕ) → k ≡ length ws → xs ≡ overlay d ws → (k ≤ length xs) × (take k xs ≡ ws)
unfolding overlay
front_back d ws xs k e x =
    (rw x (omega (arith, length-append ws (drop (length ws) d))), rw x (take_at ws (drop (length ws) d) k (sym e)))

-- Words put in the middle: what is left of a part before them, behind them, and within.
pub drop_take : (m n : ℕ) (l : List ℕ) → drop m (take n l) ≡ take (n - m) (drop m l)
drop_take zero n l = let e : n ≡ n - 0 = omega arith in ap (λ (k : ℕ). take k l) e
drop_take (suc m) zero l = let e : zero - suc m ≡ 0 = omega arith in rw e
drop_take (suc m) (suc n) [] = sym (take-nil (suc n - suc m))
drop_take (suc m) (suc n) (x ∷ l) = let e : suc n - suc m ≡ n - m = omega arith in drop_take m n l ∙ rw e

pub length_put : (a : ℕ) (d w : List ℕ) → a + length w ≤ length d → length (put_at a d w) ≡ length d
unfolding put_at
length_put a d w h =
    length-append (take a d) (w ++ drop (a + length w) d)
    ∙ omega (arith, length-append w (drop (a + length w) d), length-take-le a d (omega arith), length-drop (a + length w) d)

pub put_before : (a : ℕ) (d w : List ℕ) (b n : ℕ) → a ≤ length d → b + n ≤ a → take n (drop b (put_at a d w)) ≡ take n (drop b d)
unfolding put_at
put_before a d w b n h l =
    let t = length-take-le a d h in
    let r = w ++ drop (a + length w) d in
    rw (drop-append-le b (take a d) r (omega arith), drop_take)
    (take-append-le n (take (a - b) (drop b d)) r (omega (arith, length-take-le (a - b) (drop b d) (omega (arith, length-drop b d))))
    ∙ take-take n (a - b) (drop b d) (omega arith))

pub put_behind : (a : ℕ) (d w : List ℕ) (b : ℕ) → a ≤ length d → a + length w ≤ b → drop b (put_at a d w) ≡ drop b d
unfolding put_at
put_behind a d w b h l =
    let r = drop (a + length w) d in
    let c = length w + (b - (a + length w)) in
    let t = length-take-le a d h in
    let e : b ≡ length (take a d) + c = omega arith in
    let f : a + length w + (b - (a + length w)) ≡ b = omega arith in
    ap (λ (k : ℕ). drop k (take a d ++ (w ++ r))) e ∙ drop-append-add (take a d) (w ++ r) c ∙ drop-append-add w r (b - (a + length w))
    ∙ drop-drop (b - (a + length w)) (a + length w) d
    ∙ ap (λ (k : ℕ). drop k d) f

pub put_within : (a : ℕ) (d w : List ℕ) (b n : ℕ) → a ≤ length d → b + n ≤ length w
    → take n (drop (a + b) (put_at a d w)) ≡ take n (drop b w)
unfolding put_at
put_within a d w b n h l =
    let r = drop (a + length w) d in
    let t = length-take-le a d h in
    let e : a + b ≡ length (take a d) + b = omega arith in
    ap (λ (k : ℕ). take n (drop k (take a d ++ (w ++ r)))) e
    ∙ ap (take n) (drop-append-add (take a d) (w ++ r) b ∙ drop-append-le b w r (omega arith))
    ∙ take-append-le n (drop b w) r (omega (arith, length-drop b w))

-- The words of a site, and its places in them.
pub place_in_site : (queues : List ℕ) (i j : ℕ) → j < sizes.queue
    → place_words queues i j ≡ take sizes.part (drop (sizes.part * j) (site_words queues i))
unfolding place_words site_words
place_in_site queues i j h =
    let s = drop (sizes.site_queue * i) queues in
    let k = sizes.part * j in
    let t = drop_take k sizes.site_queue s in
    let n = take-take sizes.part (sizes.site_queue - k) (drop k s) (omega arith) in
    let d = drop-drop k (sizes.site_queue * i) queues in
    sym (ap (take sizes.part) t ∙ n ∙ ap (take sizes.part) d)

pub length_pop : (queues : List ℕ) (i : ℕ) → length queues ≡ sizes.queues → i < sizes.sites → length (pop_queue queues i) ≡ length queues
unfolding pop_queue
length_pop queues i e h =
    let s = length_site queues i e h in
    length_put (sizes.site_queue * i) queues (behind_head (site_words queues i))
    (omega (arith, length_behind (site_words queues i) (omega arith)))

popped_length : (queues : List ℕ) (i : ℕ) → length queues ≡ sizes.queues → i < sizes.sites
    → length (behind_head (take sizes.site_queue (drop (sizes.site_queue * i) queues))) ≡ sizes.site_queue
unfolding site_words
popped_length queues i e h = let s = length_site queues i e h in length_behind (site_words queues i) (omega arith) ∙ s

pub above : (a b : ℕ) → a ≤ b → (a ≡ b → ⊥) → a < b
above a b h f = by_test (ltb a b) (λ t. ltb-true a b t) (λ t. absurd (f (omega (arith, ltb-false a b t))))

-- its queue without the head, the others as they were
pub pop_site : (queues : List ℕ) (i : ℕ) → length queues ≡ sizes.queues → i < sizes.sites
    → site_words (pop_queue queues i) i ≡ behind_head (site_words queues i)
unfolding pop_queue site_words
pop_site queues i e h =
    let w = behind_head (take sizes.site_queue (drop (sizes.site_queue * i) queues)) in
    let a = sizes.site_queue * i in
    let n : length w ≡ sizes.site_queue = popped_length queues i e h in
    let z : a + 0 ≡ a = omega arith in
    (rw z at (put_within a queues w 0 sizes.site_queue (omega arith) (omega arith))) ∙ take_all sizes.site_queue w (omega arith)

pub pop_elsewhere : (queues : List ℕ) (i k : ℕ) → length queues ≡ sizes.queues → i < sizes.sites → (k ≡ i → ⊥)
    → site_words (pop_queue queues i) k ≡ site_words queues k
unfolding pop_queue site_words
pop_elsewhere queues i k e h f =
    let w = behind_head (take sizes.site_queue (drop (sizes.site_queue * i) queues)) in
    let n : length w ≡ sizes.site_queue = popped_length queues i e h in
    by_test (ltb k i)
    (λ t. let l = ltb-true k i t in
    put_before (sizes.site_queue * i) queues w (sizes.site_queue * k) sizes.site_queue (omega arith) (omega arith))
    (λ t. let l = ltb-false k i t in let m : i < k = above i k l (λ q. f (sym q)) in
    ap (take sizes.site_queue) (put_behind (sizes.site_queue * i) queues w (sizes.site_queue * k) (omega arith) (omega arith)))

-- The first n sites popped by a mask.
pub length_popped : (queues : List ℕ) (mask n : ℕ) → length queues ≡ sizes.queues → n ≤ sizes.sites
    → length (pop_queues queues mask n) ≡ length queues
unfolding pop_queues fold_below pop_queue_at
length_popped queues mask zero e h = refl
length_popped queues mask (suc n) e h =
    let q = pop_queues queues mask n in
    let l = length_popped queues mask n e (omega arith) in
    by_test (in_mask mask (n + 1))
    (λ m. rw m (length_pop q n (omega arith) (omega arith) ∙ l))
    (λ m. rw m l)

-- a site that is not popped
pub popped_later : (queues : List ℕ) (mask n k : ℕ) → length queues ≡ sizes.queues → n ≤ sizes.sites → n ≤ k
    → site_words (pop_queues queues mask n) k ≡ site_words queues k
unfolding pop_queues fold_below pop_queue_at
popped_later queues mask zero k e h l = refl
popped_later queues mask (suc n) k e h l =
    let q = pop_queues queues mask n in
    let p = popped_later queues mask n k e (omega arith) (omega arith) in
    by_test (in_mask mask (n + 1))
    (λ m. rw m (pop_elsewhere q n k (length_popped queues mask n e (omega arith) ∙ e) (omega arith) (λ z. omega arith) ∙ p))
    (λ m. rw m p)

pub popped_site : (queues : List ℕ) (mask n i : ℕ) → length queues ≡ sizes.queues → n ≤ sizes.sites → i < n
    → site_words (pop_queues queues mask n) i ≡ pick (in_mask mask (i + 1)) (behind_head (site_words queues i)) (site_words queues i)
unfolding pop_queues fold_below pop_queue_at
popped_site queues mask zero i e h l = absurd (omega arith)
popped_site queues mask (suc n) i e h l =
    let q = pop_queues queues mask n in
    let s = length_popped queues mask n e (omega arith) ∙ e in
    split_last l
    (λ (z : i ≡ n). rw z
    (by_test (in_mask mask (n + 1))
    (λ m. rw m (pop_site q n s (omega arith) ∙ ap behind_head (popped_later queues mask n n e (omega arith) (omega arith))))
    (λ m. rw m (popped_later queues mask n n e (omega arith) (omega arith)))))
    (λ (b : i < n).
    let p = popped_site queues mask n i e (omega arith) b in
    by_test (in_mask mask (n + 1))
    (λ m. rw m (pop_elsewhere q n i s (omega arith) (λ z. omega arith) ∙ p))
    (λ m. rw m p))

behind_place : (ws : List ℕ) (j : ℕ) → length ws ≡ sizes.site_queue → j + 1 < sizes.queue
    → take sizes.part (drop (sizes.part * j) (behind_head ws)) ≡ take sizes.part (drop (sizes.part * (j + 1)) ws)
behind_place ws j e h =
    let d = drop sizes.part ws in
    let z : List ℕ = replicate sizes.part 0 in
    let k = sizes.part * j in
    let n = length-drop sizes.part ws in
    let f : sizes.part + sizes.part * j ≡ sizes.part * (j + 1) = omega arith in
    ap (take sizes.part) (drop-append-le k d z (omega arith))
    ∙ take-append-le sizes.part (drop k d) z (omega (arith, length-drop k d))
    ∙ ap (take sizes.part) (drop-drop k sizes.part ws)
    ∙ ap (λ (i : ℕ). take sizes.part (drop i ws)) f

-- Popped, a site's places move up by one; one that is not popped keeps its places.
module _ (queues : List ℕ) (mask n i : ℕ) (e : length queues ≡ sizes.queues) (h : n ≤ sizes.sites) (l : i < n) where
  pub popped_place : (j : ℕ) → in_mask mask (i + 1) ≡ true → j + 1 < sizes.queue
      → place_words (pop_queues queues mask n) i j ≡ place_words queues i (j + 1)
  popped_place j m b =
      let s = rw m at (popped_site queues mask n i e h l) in
      place_in_site (pop_queues queues mask n) i j (omega arith)
      ∙ ap (λ (ws : List ℕ). take sizes.part (drop (sizes.part * j) ws)) s
      ∙ behind_place (site_words queues i) j (length_site queues i e (omega arith)) b
      ∙ sym (place_in_site queues i (j + 1) b)

  pub kept_place : (j : ℕ) → in_mask mask (i + 1) ≡ false → j < sizes.queue
      → place_words (pop_queues queues mask n) i j ≡ place_words queues i j
  kept_place j m b =
      let s = rw m at (popped_site queues mask n i e h l) in
      place_in_site (pop_queues queues mask n) i j b
      ∙ ap (λ (ws : List ℕ). take sizes.part (drop (sizes.part * j) ws)) s
      ∙ sym (place_in_site queues i j b)

-- A part put into its place is the record there, and the other places are as they were.
module _ (queues m : List ℕ) (i j : ℕ) (e : length queues ≡ sizes.queues) (h : i < sizes.sites) (l : j < sizes.queue)
    (n : length m ≤ sizes.part) where
  put_words : place_words (put_at (place_at i j) queues m) i j ≡ take sizes.part (m ++ drop (place_at i j + length m) queues)
  unfolding place_words put_at
  put_words =
      let a = place_at i j in
      ap (take sizes.part) (drop_at (take a queues) (m ++ drop (a + length m) queues) a (length-take-le a queues (omega arith)))

  pub put_length : 0 < length m → get_or m word.length 0 ≡ length m
      → get_or (place_words (put_at (place_at i j) queues m) i j) word.length 0 ≡ length m
  put_length b w =
      let r = drop (place_at i j + length m) queues in
      rw put_words (get_or-take sizes.part (m ++ r) 0 0 (omega arith) ∙ get_or-append m r 0 0 b ∙ w)

  pub put_part_back : 0 < length m → get_or m word.length 0 ≡ length m → queued_part (put_at (place_at i j) queues m) i j ≡ m
  unfolding queued_part
  put_part_back b w =
      let r = drop (place_at i j + length m) queues in
      rw (put_length b w, put_words) (take-take (length m) sizes.part (m ++ r) n ∙ take_at m r (length m) refl)

  pub put_elsewhere : (s k : ℕ) → (place_at s k + sizes.part ≤ place_at i j) ⊎ (place_at i j + sizes.part ≤ place_at s k)
      → place_words (put_at (place_at i j) queues m) s k ≡ place_words queues s k
  unfolding place_words
  put_elsewhere s k (inl b) = put_before (place_at i j) queues m (place_at s k) sizes.part (omega arith) b
  put_elsewhere s k (inr b) = ap (take sizes.part) (put_behind (place_at i j) queues m (place_at s k) (omega arith) (omega arith))
