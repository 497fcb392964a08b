-- Each step of the functions that look for the first block and go from link to link, as an equation.
use Rattle.std.proofs.Common.{◌≡◌, ℕ, zero, suc, ◌+◌, ◌<◌, Bool, true, false, cond, ℤ, pos, negsuc, List, [], ◌∷◌, ◌++◌, length, drop, Some, None, Ok, Err, refl, sym, ap, subst, ◌∙◌, inl, inr, arith}
use Rattle.std.proofs.lemmas.Bool.{eq-eqb, cases_Bool}
use Rattle.std.proofs.lemmas.Option.{none-some, same_Some}
use Rattle.std.specs.List.{slice_get, position_from}
use Rattle.block_codec.specs.Blocks.{BlockView, BlockAt}
use Rattle.block_codec.specs.Reading.{front_block}
use Rattle.block_codec.proofs.AtLemmas.{block_at-stands, BlockAt-from_found}
use Rattle.block_loop.specs.Loop.{target, block_from, first_block, block_at_offset, is_offset, first_shared, follow, loop_of}
use Rattle.block_loop.specs.declared.fault.LoopFault.TheVariants.{NoBlock, Broken, TooMany, Overlap}

pub first_from-here : (n x : ℕ) (bytes : List ℕ) (b : BlockView) → front_block x bytes ≡ Some b
    → block_from (suc n) x bytes ≡ Some b
unfolding block_from
first_from-here n x bytes b e = rw (e, block_from) refl

pub first_from-later : (n x : ℕ) (bytes : List ℕ) → front_block x bytes ≡ None
    → block_from (suc n) x bytes ≡ block_from n (x + 4) (drop 4 bytes)
unfolding block_from
first_from-later n x bytes e = rw (e, block_from) refl

pub first_from-end : (x : ℕ) (bytes : List ℕ) → block_from 0 x bytes ≡ None
unfolding block_from
first_from-end x bytes = refl

pub follow-closed : (n : ℕ) (w : List ℕ) (x : ℕ) (bs : List BlockView) (z : BlockView) → is_offset (target z) x ≡ true
    → follow n w x bs z ≡ Ok bs
unfolding follow
follow-closed zero w x bs z closed = rw (closed, follow) refl
follow-closed (suc n) w x bs z closed = rw (closed, follow) refl

pub follow-many : (w : List ℕ) (x : ℕ) (bs : List BlockView) (z : BlockView) → is_offset (target z) x ≡ false
    → follow 0 w x bs z ≡ Err TooMany
unfolding follow
follow-many w x bs z far = rw (far, follow) refl

pub follow-broken : (n : ℕ) (w : List ℕ) (x : ℕ) (bs : List BlockView) (z : BlockView) → is_offset (target z) x ≡ false
    → block_at_offset w (target z) ≡ None →
    follow (suc n) w x bs z ≡ Err (Broken z.at)
unfolding follow
follow-broken n w x bs z far none = rw (far, none, follow) refl

pub follow-overlap : (n : ℕ) (w : List ℕ) (x : ℕ) (bs : List BlockView) (z c : BlockView) (i : ℕ)
    → is_offset (target z) x ≡ false → block_at_offset w (target z) ≡ Some c →
    first_shared bs c ≡ Some i → follow (suc n) w x bs z ≡ Err (Overlap i (length bs))
unfolding follow
follow-overlap n w x bs z c i far next shared = rw (far, next, shared, follow) refl

pub follow-more : (n : ℕ) (w : List ℕ) (x : ℕ) (bs : List BlockView) (z c : BlockView) → is_offset (target z) x ≡ false
    → block_at_offset w (target z) ≡ Some c →
    first_shared bs c ≡ None → follow (suc n) w x bs z ≡ follow n w x (bs ++ c ∷ []) c
unfolding follow
follow-more n w x bs z c far next shared = rw (far, next, shared, follow) refl

pub loop_of-none : (w : List ℕ) → first_block w ≡ None → loop_of w ≡ Err NoBlock
unfolding loop_of
loop_of-none w e = rw (e, loop_of) refl

pub loop_of-first : (w : List ℕ) (b : BlockView) → first_block w ≡ Some b → loop_of w ≡ follow 31 w b.at (b ∷ []) b
unfolding loop_of
loop_of-first w b e = rw (e, loop_of) refl

-- the offset test says what it says
pub is_offset-true : (t : ℤ) (x : ℕ) → is_offset t x ≡ true → t ≡ pos x
is_offset-true (pos y) x e = ap pos (let same : y ≡ x = grind arith in same)
is_offset-true (negsuc n) x e = cc

pub is_offset-same : (t : ℤ) (x : ℕ) → t ≡ pos x → is_offset t x ≡ true
is_offset-same t x e = ap (λ s. is_offset s x) e ∙ eq-eqb x x refl

-- a block at a signed offset
pub block_at_offset-found : (w : List ℕ) (t : ℤ) (c : BlockView) → block_at_offset w t ≡ Some c
    → BlockAt w c.at c × (t ≡ pos c.at)
block_at_offset-found w (pos y) c e =
    let at = BlockAt-from_found w y c e in
    (subst (λ x. BlockAt w x c) (sym at.placed) at, ap pos (sym at.placed))
block_at_offset-found w (negsuc n) c e = absurd (none-some c e)

pub block_at_offset-stands : (w : List ℕ) (t : ℤ) (c : BlockView) → t ≡ pos c.at → BlockAt w c.at c
    → block_at_offset w t ≡ Some c
block_at_offset-stands w t c e at = ap (block_at_offset w) e ∙ block_at-stands w c.at c at

-- the first place that passes a test
module _ (p : BlockView → Bool) where
  pub place-none : (j : ℕ) (bs : List BlockView) → ((k : ℕ) (b : BlockView) → slice_get bs k ≡ Some b → p b ≡ false)
      → position_from p j bs ≡ None
  place-none j [] h = refl
  place-none j (b ∷ bs) h =
      ap (λ t. cond t (Some j) (position_from p (j + 1) bs)) (h 0 b refl)
      ∙ place-none (j + 1) bs (λ k c at. h (suc k) c at)

  tested : (j : ℕ) (b : BlockView) (bs : List BlockView) (t : Bool) → p b ≡ t
      → position_from p j (b ∷ bs) ≡ cond t (Some j) (position_from p (j + 1) bs)
  tested j b bs t e = ap (λ t. cond t (Some j) (position_from p (j + 1) bs)) e

  none-place-behind : (j : ℕ) (c : BlockView) (bs : List BlockView) (k : ℕ) (b : BlockView) → p c ≡ false
      → slice_get (c ∷ bs) k ≡ Some b →
      ((i : ℕ) → slice_get bs i ≡ Some b → p b ≡ false) → p b ≡ false
  none-place-behind j c bs zero b fails at rest = subst (λ d. p d ≡ false) (same_Some c b at) fails
  none-place-behind j c bs (suc k) b fails at rest = rest k at

  pub none-place : (j : ℕ) (bs : List BlockView) (k : ℕ) (b : BlockView) → position_from p j bs ≡ None
      → slice_get bs k ≡ Some b → p b ≡ false
  none-place j [] k b e at = absurd (none-some b at)
  none-place j (c ∷ bs) k b e at =
      elim (cases_Bool (p c)) [
        | inl passes ↦ absurd (none-some j (sym e ∙ tested j c bs true passes))
        | inr fails ↦ none-place-behind j c bs k b fails at
            (λ i here. none-place (j + 1) bs i b (sym (tested j c bs false fails) ∙ e) here)
      ]

  -- the place that was found passes, and none before it does
  pub record IsFirstPlace (bs : List BlockView) (i : ℕ) : Type 0 where
    pub here : (b : BlockView) × (slice_get bs i ≡ Some b) × (p b ≡ true)
    pub before : (k : ℕ) (b : BlockView) → k < i → slice_get bs k ≡ Some b → p b ≡ false

  before_more : (c : BlockView) (bs : List BlockView) (i : ℕ) → p c ≡ false
      → ((k : ℕ) (b : BlockView) → k < i → slice_get bs k ≡ Some b → p b ≡ false) →
      (k : ℕ) (b : BlockView) → k < suc i → slice_get (c ∷ bs) k ≡ Some b → p b ≡ false
  before_more c bs i fails before zero b lt at = subst (λ d. p d ≡ false) (same_Some c b at) fails
  before_more c bs i fails before (suc k) b lt at = before k b (omega arith) at

  pub some-place : (j : ℕ) (bs : List BlockView) (m : ℕ) → position_from p j bs ≡ Some m
      → (i : ℕ) × (m ≡ j + i) × IsFirstPlace bs i
  some-place j [] m e = absurd (none-some m e)
  some-place j (c ∷ bs) m e =
      elim (cases_Bool (p c)) [
        | inl passes ↦
            let same : j ≡ m = same_Some j m (sym (tested j c bs true passes) ∙ e) in
            (0, omega arith, record { here = (c, refl, passes); before = λ k b lt. absurd (omega arith) })
        | inr fails ↦
            let rest = some-place (j + 1) bs m (sym (tested j c bs false fails) ∙ e) in
            let at = rest.1 in (
              suc rest.0,
              omega arith,
              record
                  { here = rest.2.here; before = before_more c bs rest.0 fails rest.2.before },
            )
      ]

  pub place-some : (j : ℕ) (bs : List BlockView) (i : ℕ) → IsFirstPlace bs i → position_from p j bs ≡ Some (j + i)
  place-some j [] i first = absurd (none-some _ first.here.1)
  place-some j (c ∷ bs) zero first =
      tested j c bs true (subst (λ d. p d ≡ true) (sym (same_Some c _ first.here.1)) first.here.2)
      ∙ ap Some (omega arith)
  place-some j (c ∷ bs) (suc i) first =
      tested j c bs false (first.before 0 c (omega arith) refl)
      ∙ place-some (j + 1) bs i (record
      { here = first.here; before = λ k b lt at. first.before (suc k) b (omega arith) at })
      ∙ ap Some (omega arith)
