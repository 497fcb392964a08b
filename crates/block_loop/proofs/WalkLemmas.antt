-- What a walk keeps and answers, against the function that goes from link to link.
use Rattle.std.proofs.Common.{◌≡◌, ◌≢◌, ℕ, suc, ◌+◌, ◌-◌, ◌<◌, false, cond, ℤ, pos, List, [], ◌∷◌, ◌++◌, length, map, Option, Some, None, Result, Ok, Err, refl, sym, ap, subst, ◌∙◌, inl, inr, arith, length-append}
use Rattle.std.proofs.lemmas.Bool.{cases_Bool}
use Rattle.std.proofs.lemmas.List.{map-append}
use Rattle.std.proofs.lemmas.Int.{to_z-of_z}
use Rattle.std.specs.Prelude.{FitsSigned}
use Rattle.std.specs.Int.{cast_unsigned, cast_signed, w64}
use Rattle.std.specs.List.{position_from}
use Rattle.block_codec.specs.Blocks.{BlockView}
use Rattle.block_loop.specs.Loop.{target, shares, first_block, block_at_offset, is_offset, first_shared, follow, loop_of, IsLoopFault}
use Rattle.block_loop.specs.Offsets.{offsets_of, loop_offsets, AreLoop}
use Rattle.block_loop.specs.Spans.{span_of, spans_share, places_of}
use Rattle.block_loop.specs.declared.fault.LoopFault.{LoopFault}
use Rattle.block_loop.specs.declared.fault.LoopFault.TheVariants.{Broken, TooMany, Overlap}
use Rattle.block_loop.specs.declared.spans.Span.{Span}
use Rattle.block_loop.proofs.FollowLemmas.{is_offset-true, is_offset-same, follow-closed, follow-many, follow-broken, follow-overlap, follow-more, loop_of-first}
use Rattle.block_loop.proofs.SameLoopLemmas.{IsLoop-from_answer, IsFault-from_answer}
use Rattle.block_loop.proofs.ChainLemmas.{loop_of-loop, loop_of-fault}

-- the offsets of the ranges of blocks
places-spans : (bs : List BlockView) → places_of (map span_of bs) ≡ offsets_of bs
places-spans [] = refl
places-spans (b ∷ bs) = ap (λ xs. b.at ∷ xs) (places-spans bs)

-- the first range that shares a byte is the first block's
position-spans : (c : BlockView) (j : ℕ) (bs : List BlockView)
    → position_from (λ (s : Span). spans_share s (span_of c)) j (map span_of bs)
    ≡ position_from (λ (b : BlockView). shares b c) j bs
position-spans c j [] = refl
position-spans c j (b ∷ bs) = ap (λ o. cond (shares b c) (Some j) o) (position-spans c (j + 1) bs)

offset_far : (t : ℤ) (x : ℕ) → t ≢ pos x → is_offset t x ≡ false
offset_far t x other = elim (cases_Bool (is_offset t x))
    [ inr far ↦ far | inl same ↦ absurd (other (is_offset-true t x same)) ]

-- what a walk keeps: the ranges of the blocks found so far, from which the function goes on
abbrev pub Walked : List ℕ → ℕ → List Span → ℕ → BlockView → Type 0
Walked w x spans k z = (bs : List BlockView) × (spans ≡ map span_of bs) × (length bs ≡ k)
    × (loop_of w ≡ follow (32 - k) w x bs z)

pub walked_first : (w : List ℕ) (x : ℕ) (b : BlockView) (spans : List Span) → first_block w ≡ Some b → x ≡ b.at
    → spans ≡ span_of b ∷ [] → Walked w x spans 1 b
walked_first w x b spans first is ranges =
    (b ∷ [], ranges, refl, loop_of-first w b first ∙ ap (λ y. follow 31 w y (b ∷ []) b) (sym is))

pub walked_closed : (w : List ℕ) (x k : ℕ) (spans : List Span) (z : BlockView) → Walked w x spans k z
    → target z ≡ pos x → Ok (places_of spans) ≡ loop_offsets (loop_of w)
walked_closed w x k spans z (bs, ranges, count, rest) closed =
    ap (λ xs. Ok (places_of xs)) ranges ∙ ap Ok (places-spans bs)
    ∙ ap loop_offsets (sym (rest ∙ follow-closed (32 - k) w x bs z (is_offset-same (target z) x closed)))

pub walked_many : (w : List ℕ) (x k : ℕ) (spans : List Span) (z : BlockView) → Walked w x spans k z → k ≡ 32
    → target z ≢ pos x → Err TooMany ≡ loop_offsets (loop_of w)
walked_many w x k spans z (bs, ranges, count, rest) all far =
    let none : 32 - k ≡ 0 = omega arith in
    ap loop_offsets (sym (rest ∙ ap (λ n. follow n w x bs z) none ∙ follow-many w x bs z (offset_far (target z) x far)))

module _ (w : List ℕ) (x k : ℕ) (spans : List Span) (z : BlockView) (walked : Walked w x spans k z) (few : k < 32)
    (far : target z ≢ pos x) where
  one_more : 32 - k ≡ suc (31 - k)
  one_more = omega arith

  pub walked_broken : None ≡ block_at_offset w (target z) → Err (Broken z.at) ≡ loop_offsets (loop_of w)
  walked_broken none =
      let (bs, ranges, count, rest) = walked in
      ap loop_offsets (sym (rest ∙ ap (λ n. follow n w x bs z) one_more
      ∙ follow-broken (31 - k) w x bs z (offset_far (target z) x far) (sym none)))

  pub walked_overlap : (c : BlockView) (i : ℕ) → Some c ≡ block_at_offset w (target z)
      → Some i ≡ position_from (λ (s : Span). spans_share s (span_of c)) 0 spans →
      Err (Overlap i k) ≡ loop_offsets (loop_of w)
  walked_overlap c i next place =
      let (bs, ranges, count, rest) = walked in
      let shared : first_shared bs c ≡ Some i =
      sym (place ∙ ap (position_from (λ (s : Span). spans_share s (span_of c)) 0) ranges ∙ position-spans c 0 bs) in
      ap (λ n. Err (Overlap i n)) (sym count)
      ∙ ap loop_offsets (sym (rest ∙ ap (λ n. follow n w x bs z) one_more
      ∙ follow-overlap (31 - k) w x bs z c i (offset_far (target z) x far) (sym next) shared))

  pub walked_more : (c : BlockView) (longer : List Span) → Some c ≡ block_at_offset w (target z)
      → None ≡ position_from (λ (s : Span). spans_share s (span_of c)) 0 spans →
      longer ≡ spans ++ span_of c ∷ [] → Walked w x longer (k + 1) c
  walked_more c longer next none is =
      let (bs, ranges, count, rest) = walked in
      let alone : first_shared bs c ≡ None =
      sym (none ∙ ap (position_from (λ (s : Span). spans_share s (span_of c)) 0) ranges ∙ position-spans c 0 bs) in
      let long = length-append bs (c ∷ []) in
      let left : 31 - k ≡ 32 - (k + 1) = omega arith in (
        bs ++ c ∷ [],
        is ∙ ap (λ xs. xs ++ span_of c ∷ []) ranges ∙ sym (map-append span_of bs (c ∷ [])),
        omega arith,
        rest ∙ ap (λ n. follow n w x bs z) one_more
            ∙ follow-more (31 - k) w x bs z c (offset_far (target z) x far) (sym next) alone
            ∙ ap (λ n. follow n w x (bs ++ c ∷ []) c) left,
      )

-- what the answer of a walk means
pub AreLoop-from_answer : (w : List ℕ) (r : Result (List BlockView) LoopFault) (offsets : List ℕ) → loop_of w ≡ r
    → Ok offsets ≡ loop_offsets r → AreLoop w offsets
AreLoop-from_answer w (Ok bs) offsets e is = record { blocks = (bs, IsLoop-from_answer w bs e, cc) }
AreLoop-from_answer w (Err f) offsets e is = cc

pub answer-from_AreLoop : (w : List ℕ) (offsets : List ℕ) → AreLoop w offsets → loop_offsets (loop_of w) ≡ Ok offsets
answer-from_AreLoop w offsets are = let (bs, loop, is) = are.blocks in ap loop_offsets (loop_of-loop w bs loop)
    ∙ ap Ok is

pub IsFault-from_offsets : (w : List ℕ) (r : Result (List BlockView) LoopFault) (f : LoopFault) → loop_of w ≡ r
    → loop_offsets r ≡ Err f → IsLoopFault w f
IsFault-from_offsets w (Ok bs) f e is = cc
IsFault-from_offsets w (Err g) f e is = let same : g ≡ f = cc in subst (IsLoopFault w) same (IsFault-from_answer w g e)

pub answer-from_IsFault : (w : List ℕ) (f : LoopFault) → IsLoopFault w f → loop_offsets (loop_of w) ≡ Err f
answer-from_IsFault w f fault = ap loop_offsets (loop_of-fault w f fault)

-- tests of signed numbers by their bits
pub leads_back : (z : BlockView) (x : ℕ) (s t : ℤ) → FitsSigned w64 s → FitsSigned w64 t → s ≡ target z → t ≡ pos x
    → cast_unsigned w64 s ≡ cast_unsigned w64 t → target z ≡ pos x
leads_back z x s t f g is_s is_t e =
    sym is_s ∙ sym (to_z-of_z w64 s f) ∙ ap (cast_signed w64) e ∙ to_z-of_z w64 t g ∙ is_t

pub leads_on : (z : BlockView) (x : ℕ) (s t : ℤ) → s ≡ target z → t ≡ pos x
    → (cast_unsigned w64 s ≡ cast_unsigned w64 t → ⊥) → target z ≢ pos x
leads_on z x s t is_s is_t other e = other (ap (cast_unsigned w64) (is_s ∙ e ∙ sym is_t))

-- what was found at the target that was handed over
pub found_to : (w : List ℕ) (z : BlockView) (s : ℤ) (r : Option BlockView) → FitsSigned w64 s → s ≡ target z
    → r ≡ block_at_offset w (cast_signed w64 (cast_unsigned w64 s)) →
    r ≡ block_at_offset w (target z)
found_to w z s r f is e = e ∙ ap (block_at_offset w) (to_z-of_z w64 s f ∙ is)

-- a search over equal ranges for an equal one has the same answer
pub same_search : (r : Option ℕ) (s t : Span) (xs ys : List Span) → xs ≡ ys → s ≡ t
    → r ≡ position_from (λ (u : Span). spans_share u s) 0 xs →
    r ≡ position_from (λ (u : Span). spans_share u t) 0 ys
same_search r s t xs ys same is e = e ∙ ap (λ v. position_from (λ (u : Span). spans_share u v) 0 xs) is
    ∙ ap (position_from (λ (u : Span). spans_share u t) 0) same
