-- Windows with the same blocks have the same loop, and what a loop is where blocks change in place.
use Rattle.std.proofs.Common.{◌≡◌, ◌≢◌, ◌⊎◌, ℕ, zero, suc, ◌+◌, ◌-◌, ◌*◌, ◌<◌, ◌≤◌, ◌&&◌, false, ℤ, pos, negsuc, ◌+ℤ◌, List, [], ◌∷◌, ◌++◌, length, map, drop, Some, Result, Ok, Err, refl, sym, ap, subst, ◌∙◌, inl, inr, arith}
use Rattle.std.proofs.lemmas.List.{length-map}
use Rattle.std.proofs.lemmas.Bool.{and_cases, ltb-false, cases_Bool, cases_eq, cases_order}
use Rattle.std.proofs.lemmas.Option.{none-some, same_Some}
use Rattle.std.specs.List.{slice_get}
use Rattle.std.specs.Prelude.{nat_lt}
use Rattle.block_codec.specs.Words.{word_of}
use Rattle.block_codec.specs.Blocks.{BlockView, BlockAt, block_size}
use Rattle.block_codec.specs.Reading.{block_at}
use Rattle.block_codec.specs.Erased.{AreErased, IsErasedFrom}
use Rattle.block_codec.specs.HighByte.{ChangesHighByte, changed_block}
use Rattle.block_codec.proofs.AtLemmas.{block_at-stands, BlockAt-from_found, block_at-erased, no_block_at_erased}
use Rattle.block_codec.proofs.HighByteLemmas.{changed-stands, ChangesHighByte-back, changed_block-at, changed_block-length, changed_item, changed_apart}
use Rattle.block_loop.specs.Loop.{target, shares, IsFirstBlock, IsLoop, IsLoopFault, first_block, block_at_offset, is_offset, first_shared, follow, loop_of}
use Rattle.block_loop.specs.declared.fault.LoopFault.{LoopFault}
use Rattle.block_loop.specs.declared.fault.LoopFault.TheVariants.{NoBlock}
use Rattle.block_loop.proofs.FollowLemmas.{follow-closed, follow-many, follow-broken, follow-overlap, follow-more, loop_of-none, loop_of-first}
use Rattle.block_loop.proofs.ChainLemmas.{none_or_some, none_or_place, first_block-found, first_block-none, first_block-stands, first_block-nowhere, Says, loop_of-says, loop_of-loop, loop_of-fault}

-- the answer that a window has is a loop of it, or a fault
pub IsLoop-from_answer : (w : List ℕ) (bs : List BlockView) → loop_of w ≡ Ok bs → IsLoop w bs
IsLoop-from_answer w bs e = subst (Says w) e (loop_of-says w)

pub IsFault-from_answer : (w : List ℕ) (f : LoopFault) → loop_of w ≡ Err f → IsLoopFault w f
IsFault-from_answer w f e = subst (Says w) e (loop_of-says w)

-- a window has one loop
pub IsLoop-unique : (w : List ℕ) (bs cs : List BlockView) → IsLoop w bs → IsLoop w cs → bs ≡ cs
IsLoop-unique w bs cs one two = let e = sym (loop_of-loop w bs one) ∙ loop_of-loop w cs two in cc

-- a window has one fault of its loop, where it has one
pub IsFault-unique : (w : List ℕ) (f g : LoopFault) → IsLoopFault w f → IsLoopFault w g → f ≡ g
IsFault-unique w f g one two = let e = sym (loop_of-fault w f one) ∙ loop_of-fault w g two in cc

-- no window has both a loop and a fault of its loop
pub no_loop_and_fault : (w : List ℕ) (bs : List BlockView) (f : LoopFault) → IsLoop w bs → IsLoopFault w f → ⊥
no_loop_and_fault w bs f loop fault = let e = sym (loop_of-loop w bs loop) ∙ loop_of-fault w f fault in cc

loop_or_fault-by : (w : List ℕ) (r : Result (List BlockView) LoopFault) → Says w r
    → ((bs : List BlockView) × IsLoop w bs) ⊎ ((f : LoopFault) × IsLoopFault w f)
loop_or_fault-by w (Ok bs) says = inl (bs, says)
loop_or_fault-by w (Err f) says = inr (f, says)

pub loop_or_fault : (w : List ℕ) → ((bs : List BlockView) × IsLoop w bs) ⊎ ((f : LoopFault) × IsLoopFault w f)
loop_or_fault w = loop_or_fault-by w (loop_of w) (loop_of-says w)

-- two windows in which the same blocks stand at each offset
module _ (w v : List ℕ) (same : (x : ℕ) → block_at w x ≡ block_at v x) where
  same_stands : (x : ℕ) (b : BlockView) → BlockAt v x b → BlockAt w x b
  same_stands x b at = BlockAt-from_found w x b (same x ∙ block_at-stands v x b at)

  stands_same : (x : ℕ) (b : BlockView) → BlockAt w x b → BlockAt v x b
  stands_same x b at = BlockAt-from_found v x b (sym (same x) ∙ block_at-stands w x b at)

  first_block-same : first_block w ≡ first_block v
  first_block-same =
      elim (none_or_some (first_block w)) [
        | inl none ↦ none ∙ sym (first_block-nowhere v
            (λ x b lt at. first_block-none w none x b lt (same_stands x b at)))
        | inr some ↦
            let b = some.0 in
            let first = first_block-found w b some.1 in
            some.1
            ∙ sym (first_block-stands v b
            (record {
              stands = stands_same b.at b first.stands;
              low = first.low;
              least = λ x c lt at. first.least x c lt (same_stands x c at);
            }))
      ]

  at_offset-same : (t : ℤ) → block_at_offset w t ≡ block_at_offset v t
  at_offset-same (pos x) = same x
  at_offset-same (negsuc n) = refl

  follow-same : (n x : ℕ) (bs : List BlockView) (z : BlockView) → follow n w x bs z ≡ follow n v x bs z
  follow-same zero x bs z =
      elim (cases_Bool (is_offset (target z) x)) [
        | inl closed ↦ follow-closed 0 w x bs z closed ∙ sym (follow-closed 0 v x bs z closed)
        | inr far ↦ follow-many w x bs z far ∙ sym (follow-many v x bs z far)
      ]
  follow-same (suc n) x bs z =
      elim (cases_Bool (is_offset (target z) x)) [
        | inl closed ↦ follow-closed (suc n) w x bs z closed ∙ sym (follow-closed (suc n) v x bs z closed)
        | inr far ↦ elim (none_or_some (block_at_offset w (target z))) [
          | inl none ↦ follow-broken n w x bs z far none
              ∙ sym (follow-broken n v x bs z far (sym (at_offset-same (target z)) ∙ none))
          | inr some ↦
              let c = some.0 in
              let there = sym (at_offset-same (target z)) ∙ some.1 in
              elim (none_or_place (first_shared bs c)) [
                | inr place ↦ follow-overlap n w x bs z c place.0 far some.1 place.1
                    ∙ sym (follow-overlap n v x bs z c place.0 far there place.1)
                | inl alone ↦ follow-more n w x bs z c far some.1 alone ∙ follow-same n x (bs ++ c ∷ []) c
                    ∙ sym (follow-more n v x bs z c far there alone)
              ]
        ]
      ]

  -- two windows in which the same blocks stand at each offset have the same loop, or the same fault
  pub loop_of-same : loop_of w ≡ loop_of v
  loop_of-same =
      elim (none_or_some (first_block w)) [
        | inl none ↦ loop_of-none w none ∙ sym (loop_of-none v (sym first_block-same ∙ none))
        | inr some ↦
            loop_of-first w some.0 some.1 ∙ follow-same 31 some.0.at (some.0 ∷ []) some.0
            ∙ sym (loop_of-first v some.0 (sym first_block-same ∙ some.1))
      ]

-- erased bytes behind a window leave its loop and its fault
pub loop_of-erased : (w f : List ℕ) → AreErased f → loop_of (w ++ f) ≡ loop_of w
loop_of-erased w f erased = loop_of-same (w ++ f) w (λ x. block_at-erased w f x erased)

-- a window whose first sector is erased has no block
pub loop_of-blank : (w : List ℕ) → IsErasedFrom w 0 4096 → loop_of w ≡ Err NoBlock
loop_of-blank w erased = loop_of-fault w NoBlock (λ x b lt. no_block_at_erased w x b (erased x (omega arith) lt))

-- an element of a mapped list
get_map : (f : BlockView → BlockView) (bs : List BlockView) (i : ℕ) (c : BlockView) → slice_get (map f bs) i ≡ Some c
    → (b : BlockView) × (slice_get bs i ≡ Some b) × (f b ≡ c)
get_map f [] i c at = absurd (none-some c at)
get_map f (b ∷ bs) zero c at = (b, refl, same_Some (f b) c at)
get_map f (b ∷ bs) (suc i) c at = get_map f bs i c at

-- a window v whose blocks are those of w, each changed in place, with the same size
module _ (w v : List ℕ) (f : BlockView → BlockView) (places : (b : BlockView) → (f b).at ≡ b.at)
    (sizes : (b : BlockView) → block_size (f b) ≡ block_size b)
    (stands : (x : ℕ) (b : BlockView) → BlockAt w x b → BlockAt v x (f b))
    (back : (x : ℕ) (c : BlockView) → BlockAt v x c → (b : BlockView) × BlockAt w x b) where
  changed_stands_at : (b : BlockView) → BlockAt w b.at b → BlockAt v (f b).at (f b)
  changed_stands_at b at = subst (λ x. BlockAt v x (f b)) (sym (places b)) (stands b.at b at)

  changed_shares : (b c : BlockView) → shares (f b) (f c) ≡ shares b c
  changed_shares b c =
      ap (λ x. nat_lt x ((f c).at + block_size (f c)) && nat_lt (f c).at (x + block_size (f b))) (places b)
      ∙ ap (λ y. nat_lt b.at (y + block_size (f c)) && nat_lt y (b.at + block_size (f b))) (places c)
      ∙ ap (λ n. nat_lt b.at (c.at + n) && nat_lt c.at (b.at + block_size (f b))) (sizes c)
      ∙ ap (λ n. nat_lt b.at (c.at + block_size c) && nat_lt c.at (b.at + n)) (sizes b)

  changed_target : (b : BlockView) → (f b).link ≡ b.link → target (f b) ≡ target b
  changed_target b link = ap (λ x. pos x +ℤ (f b).link) (places b) ∙ ap (λ l. pos b.at +ℤ l) link

  changed_first : (b : BlockView) → IsFirstBlock w b → IsFirstBlock v (f b)
  changed_first b first =
      let place = places b in
      let low = first.low in
      record {
        stands = changed_stands_at b first.stands;
        low = omega arith;
        least = λ x c lt at. let (d, old) = back x c at in first.least x d (omega arith) old;
      }

  -- the changed blocks of a loop are a loop, where they keep their links
  pub IsLoop-changed : (bs : List BlockView)
      → ((i : ℕ) (b : BlockView) → slice_get bs i ≡ Some b → (f b).link ≡ b.link) → IsLoop w bs → IsLoop v (map f bs)
  IsLoop-changed bs links loop =
      let long = length-map bs f in
      let some = loop.chain.some in
      let few = loop.chain.few in
      record {
        chain = record {
          some = omega arith;
          few = omega arith;
          first = λ c here. let (b, at, is) = get_map f bs 0 c here in
              subst (IsFirstBlock v) is (changed_first b (loop.chain.first b at));
          stand = λ i c here. let (b, at, is) = get_map f bs i c here in
              subst (λ (d : BlockView). BlockAt v d.at d) is (changed_stands_at b (loop.chain.stand i b at));
          linked = λ i c d here there.
              let (b, at, is) = get_map f bs i c here in
              let (e, next, that) = get_map f bs (i + 1) d there in
              ap target (sym is) ∙ changed_target b (links i b at) ∙ loop.chain.linked i b e at next
              ∙ ap pos (sym (places e)) ∙ ap (λ (g : BlockView). pos g.at) that;
          apart = λ i j c d lt here there.
              let (b, at, is) = get_map f bs i c here in
              let (e, next, that) = get_map f bs j d there in
              ap (λ g. shares g d) (sym is) ∙ ap (shares (f b)) (sym that) ∙ changed_shares b e
              ∙ loop.chain.apart i j b e lt at next;
        };
        closed = λ c y first last.
            let (b, at, is) = get_map f bs 0 c first in
            let (e, end_, that) = get_map f bs (length (map f bs) - 1) y last in
            let at_end : slice_get bs (length bs - 1) ≡ Some e = ap (slice_get bs) (omega arith) ∙ end_ in
            ap target (sym that) ∙ changed_target e (links (length (map f bs) - 1) e end_) ∙ loop.closed b e at at_end
            ∙ ap pos (sym (places b))
            ∙ ap (λ (g : BlockView). pos g.at) is;
      }

-- blocks that share no byte lie behind one another
apart_bounds : (b c : BlockView) → shares b c ≡ false → (c.at + block_size c ≤ b.at) ⊎ (b.at + block_size b ≤ c.at)
apart_bounds b c e =
    elim (and_cases (nat_lt b.at (c.at + block_size c)) (nat_lt c.at (b.at + block_size b)) e) [
      | inl one ↦ inl (ltb-false b.at (c.at + block_size c) one)
      | inr two ↦ inr (ltb-false c.at (b.at + block_size b) two)
    ]

swapped : {P Q : Type 0} → P ⊎ Q → Q ⊎ P
swapped (inl p) = inr p
swapped (inr q) = inl q

-- a change of the fourth byte of an IMAGE_TYPE header of one of a loop's blocks keeps the loop: that
-- block has the changed word, and the others are as they were
module _ (w v : List ℕ) (a k : ℕ) (bs : List BlockView) (d : BlockView) (change : ChangesHighByte w v a)
    (loop : IsLoop w bs) (here : slice_get bs k ≡ Some d)
    (low : d.at + 4 ≤ a) (high : a < d.at + 4 + 4 * length d.items) where
  apart_from : (b : BlockView) → (d.at + block_size d ≤ b.at) ⊎ (b.at + block_size b ≤ d.at)
      → changed_block a (word_of (drop a v)) b ≡ b
  apart_from b apart =
      changed_apart a (word_of (drop a v)) b
      (elim apart [ inl behind ↦ inl (omega arith) | inr before ↦ inr (omega arith) ])
      (λ e. elim apart [ inl behind ↦ omega arith | inr before ↦ omega arith ])

  -- the other blocks of the loop stay
  pub changed_others : (i : ℕ) (b : BlockView) → i ≢ k → slice_get bs i ≡ Some b
      → changed_block a (word_of (drop a v)) b ≡ b
  changed_others i b other at =
      elim (cases_order i k) [
        | inl same ↦ absurd (other same)
        | inr apart ↦ elim apart [
          | inl less ↦ apart_from b (apart_bounds b d (loop.chain.apart i k b d less at here))
          | inr more ↦ apart_from b (swapped (apart_bounds d b (loop.chain.apart k i d b more here at)))
        ]
      ]

  same_links : (i : ℕ) (b : BlockView) → slice_get bs i ≡ Some b
      → (changed_block a (word_of (drop a v)) b).link ≡ b.link
  same_links i b at =
      elim (cases_eq i k) [
        | inr other ↦ ap (λ (c : BlockView). c.link) (changed_others i b other at)
        | inl same ↦
            let is : d ≡ b = same_Some d b (sym here ∙ ap (slice_get bs) (sym same) ∙ at) in
            subst (λ (c : BlockView). (changed_block a (word_of (drop a v)) c).link ≡ c.link) is
            (ap (λ (c : BlockView). c.link) (changed_item a (word_of (drop a v)) d low high))
      ]

  -- the loop of the changed window
  pub loop_of-changed : loop_of v ≡ Ok (map (changed_block a (word_of (drop a v))) bs)
  loop_of-changed =
      let u = word_of (drop a v) in
      loop_of-loop v (map (changed_block a u) bs)
      (IsLoop-changed w v (changed_block a u) (changed_block-at a u)
      (λ b. ap (λ n. 4 * n + 16) (changed_block-length a u b)) (λ x b. changed-stands w v a x b change)
      (λ x c at. (
        changed_block a (word_of (drop a w)) c,
        changed-stands v w a x c
            (ChangesHighByte-back w v a change) at,
      )) bs same_links loop)
