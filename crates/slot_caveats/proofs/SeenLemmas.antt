-- The blocks of a loop that pass a test: the last one of those seen, and the first one.
use Rattle.std.proofs.Common.{◌≡◌, ℕ, ◌+◌, ◌≤◌, Bool, true, false, cond, if◌then◌else◌, List, [], ◌∷◌, ◌++◌, length, take, drop, slice_get, Option, Some, None, sym, ap, ◌∙◌}
use Rattle.std.specs.Prelude.{find, reverse}
use Rattle.std.proofs.lemmas.List.{drop_all, drop_more, reverse-append, take_all, take_more}
use Rattle.std.proofs.lemmas.Option.{slice_get_within, get_or_from_slice_get}
use Rattle.block_codec.specs.Blocks.{BlockView}

module _ (passes : BlockView → Bool) (loop : List BlockView) (i : ℕ) where
  -- the last one that passes, with one more block
  pub last-more : (b : BlockView) → slice_get loop i ≡ Some b → (old new : Option BlockView)
      → old ≡ find passes (reverse (take i loop)) → new ≡ (if passes b then Some b else old)
      → new ≡ find passes (reverse (take (i + 1) loop))
  last-more b at old new was now =
      let more : take (i + 1) loop ≡ take i loop ++ b ∷ [] =
      take_more loop i b (slice_get_within loop i b at)
      ∙ ap (λ y. take i loop ++ y ∷ []) (get_or_from_slice_get loop i b b at) in
      now ∙ ap (λ o. if passes b then Some b else o) was
      ∙ sym (ap (λ xs. find passes (reverse xs)) more ∙ ap (find passes) (reverse-append (take i loop) (b ∷ [])))

  pub last-all : length loop ≤ i → (old : Option BlockView) → old ≡ find passes (reverse (take i loop))
      → old ≡ find passes (reverse loop)
  last-all le old was = was ∙ ap (λ xs. find passes (reverse xs)) (take_all i loop le)

  rest-of : (b : BlockView) → slice_get loop i ≡ Some b → drop i loop ≡ b ∷ drop (i + 1) loop
  rest-of b at =
      drop_more loop i b (slice_get_within loop i b at)
      ∙ ap (λ y. y ∷ drop (i + 1) loop) (get_or_from_slice_get loop i b b at)

  -- the first one that passes is this one, or it is one of the rest, or there is none
  pub first-here : (b : BlockView) → slice_get loop i ≡ Some b → passes b ≡ true
      → find passes loop ≡ find passes (drop i loop) → Some b ≡ find passes loop
  first-here b at is so_far =
      sym (so_far ∙ (ap (find passes) (rest-of b at) ∙ ap (λ t. cond t (Some b) (find passes (drop (i + 1) loop))) is))

  pub first-more : (b : BlockView) → slice_get loop i ≡ Some b → passes b ≡ false
      → find passes loop ≡ find passes (drop i loop) → find passes loop ≡ find passes (drop (i + 1) loop)
  first-more b at is so_far =
      so_far ∙ (ap (find passes) (rest-of b at) ∙ ap (λ t. cond t (Some b) (find passes (drop (i + 1) loop))) is)

  pub first-none : length loop ≤ i → find passes loop ≡ find passes (drop i loop) → None ≡ find passes loop
  first-none le so_far = sym (so_far ∙ ap (find passes) (drop_all i loop le))
