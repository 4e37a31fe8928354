-- The counts and the three lists are laid behind one another, which is one laying of the keys' words.
use Rattle.std.proofs.Common.{◌≡◌, ℕ, ◌+◌, ◌*◌, ◌≤◌, List, [], ◌∷◌, ◌++◌, append_assoc, length, refl, arith, rules}
use Rattle.kinds.specs.Sizes as sizes
use Rattle.kinds.specs.Word as word
use Rattle.kinds.specs.declared.Value.{Value}
use Rattle.laws.specs.Overlay.{put_at}
use Rattle.rules.specs.Value.{value_words}
use Rattle.lent.specs.Rows.{flat}
use Rattle.lent.specs.Layout.{keys_words}
use Rattle.lent.specs.Values.{values_long}
use Rattle.lent.specs.Shape.{Sized}
use Rattle.tables.proofs.Laid.{laid_more, laid_behind, stores}
use Rattle.tables.proofs.lay_keys.Goals as goal

laid : (d : List ℕ) (o read wrote : ℕ) (xs ys u v w : List ℕ) (vs : List Value) → o + sizes.keyset ≤ length d
    → u ≡ put_at (o + word.keys_reads) (stores d o 0 (read ∷ wrote ∷ [])) xs → length xs ≡ sizes.reads
    → v ≡ put_at (o + word.keys_writes) u ys → length ys ≡ sizes.writes
    → w ≡ put_at (o + word.keys_values) v (flat value_words vs) → length vs ≡ sizes.writes
    → w ≡ put_at o d (read ∷ wrote ∷ (xs ++ (ys ++ flat value_words vs)))
laid d o read wrote xs ys u v w vs room e r f s g t =
    let counts : List ℕ = read ∷ wrote ∷ [] in
    let values : List ℕ = flat value_words vs in
    let one = laid_behind d o word.keys_reads sizes.reads counts xs u (omega arith) refl r e in
    let two = laid_more d o word.keys_writes sizes.writes (counts ++ xs) ys u v (omega arith) one s f in
    let long : length values ≡ sizes.value * sizes.writes = omega (arith, values_long vs) in
    let three =
    laid_more d o word.keys_values (sizes.value * sizes.writes) ((counts ++ xs) ++ ys) values v w (omega arith) two long g in
    simp append_assoc at three.whole

pub returns : goal.returns
unfolding keys_words
returns c =
    let sized : Sized c.args.b = record { reads = search rules; writes = search rules; values = search rules } in
    let values = c.lay_values.ensures in
    (sized, laid _ _ _ _ _ _ _ _ _ _ c.requires c.lay.ensures.1 c.lay.ensures.0 c.lay-2.ensures.1 c.lay-2.ensures.0 values.1 values.0)
