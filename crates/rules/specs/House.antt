-- S1 to S6, F11, and Q3.1 to Q3.5: a house and its table of first keys, where a key lives, transaction numbers, masks of participants.
use Rattle.std.specs.Prelude.{ℕ, ◌+◌, ◌-◌, ◌*◌, ◌/◌, ◌%◌, ◌^◌, ◌≤◌, ◌<◌, ◌≡◌, Bool, true, List, [], ◌∷◌, get_or, length, replicate, take, ltb, leb, eqb}
use Rattle.std.specs.Int.Count.{ones}
use Rattle.std.specs.Int.Bits.{bit_or}
use Rattle.laws.specs.Choice.{pick, every}
use Rattle.laws.specs.Scan.{first_below, all_below}
use Rattle.laws.specs.Overlay.{overlay}
use Rattle.laws.specs.Digits.{digit, ones_below, ones_below_lem}
use Rattle.kinds.specs.Sizes as sizes
use Rattle.kinds.specs.declared.House.{House}

-- 1 to 8 sites
unfoldable pub count_ok : ℕ → Bool
count_ok n = every (leb 1 n ∷ leb n sizes.sites ∷ [])

-- a table of n first keys: the first is 0, each other is above the one before it, and none is above 2,047
unfoldable pub table_ok : ℕ → List ℕ → Bool
table_ok n t =
    every (eqb (get_or t 0 0) 0
    ∷ all_below (λ i. ltb (get_or t i 0) (get_or t (i + 1) 0)) (n - 1)
    ∷ all_below (λ i. ltb (get_or t i 0) sizes.keys) n
    ∷ [])

-- behind them the places of a table are 0
unfoldable pub rest_ok : ℕ → List ℕ → Bool
rest_ok n t = all_below (λ i. pick (ltb i n) true (eqb (get_or t i 0) 0)) sizes.sites

unfoldable pub house_ok : House → Bool
house_ok h = every (count_ok h.sites ∷ table_ok h.sites h.firsts ∷ rest_ok h.sites h.firsts ∷ [])

-- What good means, in words of the claims. A table of n first keys;
pub record GoodTable (n : ℕ) (t : List ℕ) : Type 0 where
  pub zero : get_or t 0 0 ≡ 0
  pub rising : (i : ℕ) → i + 1 < n → get_or t i 0 < get_or t (i + 1) 0
  pub low : (i : ℕ) → i < n → get_or t i 0 < sizes.keys

-- a house of 1 to 8 sites with such a table, in eight places
pub record GoodHouse (o : House) : Type 0 where
  pub some : 1 ≤ o.sites
  pub few : o.sites ≤ sizes.sites
  pub table : GoodTable o.sites o.firsts
  pub size : length o.firsts ≡ sizes.sites
  pub rest : (i : ℕ) → o.sites ≤ i → i < sizes.sites → get_or o.firsts i 0 ≡ 0

-- the house of n sites with a table that is handed in
abbrev pub house_of : ℕ → List ℕ → House
house_of n t = record { sites = n; firsts = overlay (replicate sizes.sites 0) t }

-- the house of a refused start: no call accepts it
abbrev pub no_house : House
no_house = record { sites = 0; firsts = replicate sizes.sites 0 }

-- 0, 256 and so on: the table of n sites where `house` is given none
unfoldable pub even_table : ℕ → List ℕ
even_table n = take n (0 ∷ 256 ∷ 512 ∷ 768 ∷ 1024 ∷ 1280 ∷ 1536 ∷ 1792 ∷ [])

-- a site of the house
unfoldable pub is_site : House → ℕ → Bool
is_site h s = every (leb 1 s ∷ leb s h.sites ∷ [])

-- a key of the house
unfoldable pub is_key : ℕ → Bool
is_key k = ltb k sizes.keys

-- site i + 1 is the last one, or the next one starts above key k
abbrev pub ends_above : House → ℕ → ℕ → Bool
ends_above h k i = pick (ltb (i + 1) h.sites) (ltb k (get_or h.firsts (i + 1) 0)) true

-- a key lives at the first such site, and no other number at any of the eight
unfoldable pub home_of : House → ℕ → ℕ
home_of h k = pick (is_key k) (first_below (ends_above h k) (sizes.sites - 1) + 1) (sizes.sites + 1)

-- the range of site s: from its first key up to the first key of the next one; the last one's runs to 2,047
abbrev pub first_key : House → ℕ → ℕ
first_key h s = get_or h.firsts (s - 1) 0

abbrev pub end_key : House → ℕ → ℕ
end_key h s = pick (ltb s h.sites) (get_or h.firsts s 0) sizes.keys

-- from a, and below b
abbrev pub within : ℕ → ℕ → ℕ → Bool
within a b k = every (leb a k ∷ ltb k b ∷ [])

unfoldable pub in_range : House → ℕ → ℕ → Bool
in_range h s k = within (first_key h s) (end_key h s) k

-- a transaction number is coordinator × 2^32 + serial
unfoldable pub tx_of : ℕ → ℕ → ℕ
tx_of coordinator serial = coordinator * sizes.serials + serial

unfoldable pub coordinator_of : ℕ → ℕ
coordinator_of tx = tx / sizes.serials

unfoldable pub serial_of : ℕ → ℕ
serial_of tx = tx % sizes.serials

-- its coordinator is a site of the house, and serials start from 1
unfoldable pub is_tx : House → ℕ → Bool
is_tx h tx = every (is_site h (coordinator_of tx) ∷ leb 1 (serial_of tx) ∷ [])

-- participants are a mask: site s adds 2^(s − 1)
unfoldable pub mask_of : ℕ → ℕ
mask_of s = 2 ^ (s - 1)

unfoldable pub in_mask : ℕ → ℕ → Bool
in_mask mask s = eqb (digit mask (s - 1)) 1

-- no site but those of the house
unfoldable pub is_mask : House → ℕ → Bool
is_mask h mask = ltb mask (2 ^ h.sites)

-- the number of participants is the number of ones in the mask
unfoldable pub participants : ℕ → ℕ
participants mask = ones mask

-- which is the number of its sites among the eight
pub participants_sites : (mask : ℕ) → mask < 2 ^ sizes.sites → participants mask ≡ ones_below mask sizes.sites
unfolding participants
participants_sites mask h = ones_below_lem sizes.sites mask h

-- replies wanted are one fewer: this site, which counts as a participant, replies to nobody
unfoldable pub replies_wanted : ℕ → ℕ → ℕ
replies_wanted own mask = participants (bit_or mask (mask_of own)) - 1

-- the largest house: where no other is known, as at a copy
unfoldable pub whole_house : House
whole_house = house_of sizes.sites (even_table sizes.sites)
