-- The function that goes from link to link gives the loop or the fault of the relations.
use Rattle.std.proofs.Common.{◌≡◌, ◌≢◌, ◌⊎◌, ℕ, zero, suc, ◌+◌, ◌-◌, ◌*◌, ◌%◌, ◌<◌, ◌≤◌, true, false, pos, List, [], ◌∷◌, ◌++◌, length, take, drop, Option, Some, None, Result, Ok, Err, refl, sym, ap, subst, ◌∙◌, inl, inr, arith, length-append}
use Rattle.std.proofs.lemmas.Bool.{cases_Bool, cases_lt, cases_order}
use Rattle.std.proofs.lemmas.Bool.Decides.{nat_tests}
use Rattle.std.proofs.lemmas.Option.{none-some, same_Some, slice_get_within, get_or_from_slice_get}
use Rattle.std.proofs.lemmas.List.{drop-drop, take_all, take_more}
use Rattle.std.specs.List.{slice_get}
use Rattle.block_codec.specs.Blocks.{BlockView, BlockAt}
use Rattle.block_codec.specs.Reading.{block_at, front_block}
use Rattle.block_codec.proofs.AtLemmas.{block_at-aligned, BlockAt-from_found, BlockAt-unique, no_block-from_none}
use Rattle.block_loop.specs.Loop.{target, shares, IsFirstBlock, IsChain, IsLastBlock, IsLoop, IsOpenChain, IsNextBlock, IsFirstShared, IsLoopFault, block_from, first_block, block_at_offset, is_offset, first_shared, follow, loop_of}
use Rattle.block_loop.specs.declared.fault.LoopFault.{LoopFault}
use Rattle.block_loop.specs.declared.fault.LoopFault.TheVariants.{NoBlock, Broken, TooMany, Overlap}
use Rattle.block_loop.proofs.FollowLemmas.{first_from-end, first_from-here, first_from-later, follow-closed, follow-many, follow-broken, follow-overlap, follow-more, loop_of-none, loop_of-first, is_offset-true, is_offset-same, block_at_offset-found, block_at_offset-stands, place-none, none-place, some-place, place-some}

true_false : true ≡ false → ⊥
true_false e = cc

pub none_or_some : (o : Option BlockView) → (o ≡ None) ⊎ ((b : BlockView) × (o ≡ Some b))
none_or_some None = inl refl
none_or_some (Some b) = inr (b, refl)

pub none_or_place : (o : Option ℕ) → (o ≡ None) ⊎ ((i : ℕ) × (o ≡ Some i))
none_or_place None = inl refl
none_or_place (Some i) = inr (i, refl)

-- what the search for the first block found among the n multiples of 4 from x on
pub record IsFirstFrom (w : List ℕ) (n x : ℕ) (b : BlockView) : Type 0 where
  pub stands : BlockAt w b.at b
  pub low : x ≤ b.at
  pub high : b.at < x + 4 * n
  pub least : (y : ℕ) (c : BlockView) → x ≤ y → y < b.at → BlockAt w y c → ⊥

-- no block stands between two multiples of 4
between_none : (w : List ℕ) (x y : ℕ) (c : BlockView) → x % 4 ≡ 0 → block_at w x ≡ None → x ≤ y → y < x + 4
    → BlockAt w y c → ⊥
between_none w x y c aligned none low high at =
    let even = at.aligned in
    let same : y ≡ x = omega arith in
    no_block-from_none w x c none (subst (λ k. BlockAt w k c) same at)

pub first_from-found : (w : List ℕ) (n x : ℕ) (b : BlockView) → x % 4 ≡ 0 → block_from n x (drop x w) ≡ Some b
    → IsFirstFrom w n x b
first_from-found w zero x b aligned e = absurd (none-some b (sym (first_from-end x (drop x w)) ∙ e))
first_from-found w (suc n) x b aligned e =
    elim (none_or_some (front_block x (drop x w))) [
      | inl none ↦
          let later : block_from n (x + 4) (drop (x + 4) w) ≡ Some b =
          ap (block_from n (x + 4)) (sym (drop-drop 4 x w)) ∙ sym (first_from-later n x (drop x w) none) ∙ e in
          let rest = first_from-found w n (x + 4) b (omega arith) later in
          let low = rest.low in
          let high = rest.high in
          record {
            stands = rest.stands;
            low = omega arith;
            high = omega arith;
            least = λ y c from to at. elim (cases_lt y (x + 4)) [
              | inl near ↦ between_none w x y c aligned (block_at-aligned w x aligned ∙ none) from near at
              | inr far ↦ rest.least y c far to at
            ];
          }
      | inr some ↦
          let found : block_at w x ≡ Some some.0 = block_at-aligned w x aligned ∙ some.1 in
          let same : some.0 ≡ b = same_Some some.0 b (sym (first_from-here n x (drop x w) some.0 some.1) ∙ e) in
          let at = subst (BlockAt w x) same (BlockAt-from_found w x some.0 found) in
          let placed = at.placed in
          record {
            stands = subst (λ k. BlockAt w k b) (sym placed) at;
            low = omega arith;
            high = omega arith;
            least = λ y c from to other. omega arith;
          }
    ]

pub first_from-none : (w : List ℕ) (n x : ℕ) → x % 4 ≡ 0 → block_from n x (drop x w) ≡ None → (y : ℕ) (c : BlockView)
    → x ≤ y → y < x + 4 * n → BlockAt w y c → ⊥
first_from-none w zero x aligned e y c low high at = omega arith
first_from-none w (suc n) x aligned e y c low high at =
    elim (none_or_some (front_block x (drop x w))) [
      | inr some ↦ none-some some.0 (sym e ∙ first_from-here n x (drop x w) some.0 some.1)
      | inl none ↦
          let later : block_from n (x + 4) (drop (x + 4) w) ≡ None =
          ap (block_from n (x + 4)) (sym (drop-drop 4 x w)) ∙ sym (first_from-later n x (drop x w) none) ∙ e in
          elim (cases_lt y (x + 4)) [
            | inl near ↦ between_none w x y c aligned (block_at-aligned w x aligned ∙ none) low near at
            | inr far ↦ first_from-none w n (x + 4) (omega arith) later y c far (omega arith) at
          ]
    ]

-- the first block of a window
pub first_block-found : (w : List ℕ) (b : BlockView) → first_block w ≡ Some b → IsFirstBlock w b
first_block-found w b e =
    let first = first_from-found w 1024 0 b refl e in
    record { stands = first.stands; low = first.high; least = λ x c lt at. first.least x c (omega arith) lt at }

pub first_block-none : (w : List ℕ) → first_block w ≡ None → (x : ℕ) (b : BlockView) → x < 4096 → BlockAt w x b → ⊥
first_block-none w e x b lt at = first_from-none w 1024 0 refl e x b (omega arith) lt at

pub first_block-stands : (w : List ℕ) (b : BlockView) → IsFirstBlock w b → first_block w ≡ Some b
first_block-stands w b first =
    elim (none_or_some (first_block w)) [
      | inl none ↦ absurd (first_block-none w none b.at b first.low first.stands)
      | inr some ↦
          let c = some.0 in
          let other = first_block-found w c some.1 in
          elim (cases_order b.at c.at) [
            | inl same ↦ some.1 ∙ ap Some
                (BlockAt-unique w c.at c b other.stands (subst (λ x. BlockAt w x b) same first.stands))
            | inr apart ↦ elim apart [
              | inl less ↦ absurd (other.least b.at b less first.stands)
              | inr more ↦ absurd (first.least c.at c more other.stands)
            ]
          ]
    ]

pub first_block-nowhere : (w : List ℕ) → ((x : ℕ) (b : BlockView) → x < 4096 → BlockAt w x b → ⊥) → first_block w ≡ None
first_block-nowhere w none =
    elim (none_or_some (first_block w)) [
      | inl e ↦ e
      | inr some ↦
          let first = first_block-found w some.0 some.1 in
          absurd (none some.0.at some.0 first.low first.stands)
    ]

-- an element of a list with one more at its end is one of the list's, or that one
push_cases : (bs : List BlockView) (c : BlockView) (i : ℕ) (b : BlockView) → slice_get (bs ++ c ∷ []) i ≡ Some b
    → (slice_get bs i ≡ Some b) ⊎ ((i ≡ length bs) × (c ≡ b))
push_cases [] c zero b at = inr (refl, same_Some c b at)
push_cases [] c (suc i) b at = absurd (none-some b at)
push_cases (a ∷ bs) c zero b at = inl at
push_cases (a ∷ bs) c (suc i) b at =
    elim (push_cases bs c i b at) [ inl old ↦ inl old | inr new ↦ inr (ap suc new.0, new.1) ]

pushed : (bs : List BlockView) (c : BlockView) → slice_get (bs ++ c ∷ []) (length bs) ≡ Some c
pushed [] c = refl
pushed (b ∷ bs) c = pushed bs c

kept : (bs : List BlockView) (c : BlockView) (i : ℕ) (b : BlockView) → slice_get bs i ≡ Some b
    → slice_get (bs ++ c ∷ []) i ≡ Some b
kept [] c i b at = absurd (none-some b at)
kept (a ∷ bs) c zero b at = at
kept (a ∷ bs) c (suc i) b at = kept bs c i b at

-- a chain that goes from the block at x to block z
pub record IsWalk (w : List ℕ) (x : ℕ) (bs : List BlockView) (z : BlockView) : Type 0 where
  pub chain : IsChain w bs
  pub last : IsLastBlock bs z
  pub first : (b : BlockView) → slice_get bs 0 ≡ Some b → b.at ≡ x

-- the first block alone is such a chain
pub IsWalk-first : (w : List ℕ) (b : BlockView) → IsFirstBlock w b → IsWalk w b.at (b ∷ []) b
IsWalk-first w b first = record {
  chain = record {
    some = omega arith;
    few = omega arith;
    first = λ c at. subst (IsFirstBlock w) (same_Some b c at) first;
    stand = only;
    linked = λ i c d here there. absurd (alone i d there);
    apart = λ i j c d lt here there. absurd (alone_at i j c d lt here there);
  };
  last = refl;
  first = λ c at. ap (λ (v : BlockView). v.at) (sym (same_Some b c at));
}
  where
    only : (i : ℕ) (c : BlockView) → slice_get (b ∷ []) i ≡ Some c → BlockAt w c.at c
    only zero c at = subst (λ (v : BlockView). BlockAt w v.at v) (same_Some b c at) first.stands
    only (suc i) c at = absurd (none-some c at)

    alone : (i : ℕ) (d : BlockView) → slice_get (b ∷ []) (i + 1) ≡ Some d → ⊥
    alone i d at = let lt = slice_get_within (b ∷ []) (i + 1) d at in omega arith

    alone_at : (i j : ℕ) (c d : BlockView) → i < j → slice_get (b ∷ []) i ≡ Some c → slice_get (b ∷ []) j ≡ Some d → ⊥
    alone_at i j c d lt here there = let most = slice_get_within (b ∷ []) j d there in omega arith

-- a block at the last one's target that shares no byte makes the chain longer
pub IsWalk-more : (w : List ℕ) (x : ℕ) (bs : List BlockView) (z c : BlockView) → IsWalk w x bs z → length bs < 32
    → BlockAt w c.at c → target z ≡ pos c.at →
    ((k : ℕ) (b : BlockView) → slice_get bs k ≡ Some b → shares b c ≡ false) → IsWalk w x (bs ++ c ∷ []) c
IsWalk-more w x bs z c walk few at leads alone =
    let long = length-append bs (c ∷ []) in
    let some = walk.chain.some in
    record {
      chain = record {
        some = omega arith;
        few = omega arith;
        first = λ b here. walk.chain.first b (front b here);
        stand = λ i b here. elim (push_cases bs c i b here) [
          | inl old ↦ walk.chain.stand i b old
          | inr new ↦ subst (λ (v : BlockView). BlockAt w v.at v) new.1 at
        ];
        linked = joined;
        apart = separate;
      };
      last = ap (slice_get (bs ++ c ∷ [])) (omega arith) ∙ pushed bs c;
      first = λ b here. walk.first b (front b here);
    }
  where
    front : (b : BlockView) → slice_get (bs ++ c ∷ []) 0 ≡ Some b → slice_get bs 0 ≡ Some b
    front b here =
        elim (push_cases bs c 0 b here) [
          | inl old ↦ old
          | inr new ↦ let none = new.0 in let some = walk.chain.some in absurd (omega arith)
        ]

    joined : (i : ℕ) (b d : BlockView) → slice_get (bs ++ c ∷ []) i ≡ Some b
        → slice_get (bs ++ c ∷ []) (i + 1) ≡ Some d → target b ≡ pos d.at
    joined i b d here there =
        elim (push_cases bs c i b here) [
          | inr new ↦
              let past = slice_get_within (bs ++ c ∷ []) (i + 1) d there in
              let long = length-append bs (c ∷ []) in
              let is = new.0 in
              absurd (omega arith)
          | inl old ↦ elim (push_cases bs c (i + 1) d there) [
            | inl next ↦ walk.chain.linked i b d old next
            | inr new ↦
                let place : i ≡ length bs - 1 = let is = new.0 in omega (arith, is) in
                let same : b ≡ z = same_Some b z (sym old ∙ ap (slice_get bs) place ∙ walk.last) in
                ap target same ∙ leads ∙ ap (λ (v : BlockView). pos v.at) new.1
          ]
        ]

    separate : (i j : ℕ) (b d : BlockView) → i < j → slice_get (bs ++ c ∷ []) i ≡ Some b
        → slice_get (bs ++ c ∷ []) j ≡ Some d → shares b d ≡ false
    separate i j b d lt here there =
        elim (push_cases bs c i b here) [
          | inr new ↦
              let past = slice_get_within (bs ++ c ∷ []) j d there in
              let long = length-append bs (c ∷ []) in
              let is = new.0 in
              absurd (omega arith)
          | inl old ↦ elim (push_cases bs c j d there) [
            | inl other ↦ walk.chain.apart i j b d lt old other
            | inr new ↦ ap (shares b) (sym new.1) ∙ alone i b old
          ]
        ]

-- a walk whose last link leads to its first block is the loop
IsLoop-closed : (w : List ℕ) (x : ℕ) (bs : List BlockView) (z : BlockView) → IsWalk w x bs z
    → is_offset (target z) x ≡ true → IsLoop w bs
IsLoop-closed w x bs z walk closed = record {
  chain = walk.chain;
  closed = λ a y first last.
      let same : z ≡ y = same_Some z y (sym walk.last ∙ last) in
      ap target (sym same) ∙ is_offset-true (target z) x closed ∙ ap pos (sym (walk.first a first));
}

IsOpenChain-far : (w : List ℕ) (x : ℕ) (bs : List BlockView) (z : BlockView) → IsWalk w x bs z
    → is_offset (target z) x ≡ false → IsOpenChain w bs
IsOpenChain-far w x bs z walk far = record {
  chain = walk.chain;
  leads_on = λ a y first last e.
      let same : z ≡ y = same_Some z y (sym walk.last ∙ last) in
      let closed : is_offset (target z) x ≡ true =
      is_offset-same (target z) x (ap target same ∙ e ∙ ap pos (walk.first a first)) in
      true_false (sym closed ∙ far);
}

-- what a result says of a window
abbrev pub Says : List ℕ → Result (List BlockView) LoopFault → Type 0
Says w (Ok bs) = IsLoop w bs
Says w (Err f) = IsLoopFault w f

-- the function that goes from link to link answers the loop or the fault
follow-says : (n : ℕ) (w : List ℕ) (x : ℕ) (bs : List BlockView) (z : BlockView) → IsWalk w x bs z → length bs + n ≡ 32
    → Says w (follow n w x bs z)
follow-says zero w x bs z walk count =
    elim (cases_Bool (is_offset (target z) x)) [
      | inl closed ↦ subst (Says w) (sym (follow-closed 0 w x bs z closed)) (IsLoop-closed w x bs z walk closed)
      | inr far ↦ subst (Says w) (sym (follow-many w x bs z far)) (bs, IsOpenChain-far w x bs z walk far, omega arith)
    ]
follow-says (suc n) w x bs z walk count =
    elim (cases_Bool (is_offset (target z) x)) [
      | inl closed ↦ subst (Says w) (sym (follow-closed (suc n) w x bs z closed)) (IsLoop-closed w x bs z walk closed)
      | inr far ↦ elim (none_or_some (block_at_offset w (target z))) [
        | inl none ↦
            subst (Says w) (sym (follow-broken n w x bs z far none)) (
              bs,
              IsOpenChain-far w x bs z walk far,
              omega arith,
              (λ y last. ap (λ (v : BlockView). v.at) (same_Some y z (sym last ∙ walk.last))),
              (λ c next. none-some c (sym none
                  ∙ block_at_offset-stands w (target z) c (next.leads z walk.last) next.stands)),
            )
        | inr some ↦
            let c = some.0 in
            let at = block_at_offset-found w (target z) c some.1 in
            elim (none_or_place (first_shared bs c)) [
              | inr place ↦
                  let (i, is, first) = some-place (λ (b : BlockView). shares b c) 0 bs place.0 place.1 in
                  subst (Says w) (sym (follow-overlap n w x bs z c place.0 far some.1 place.1)) (
                    bs,
                    IsOpenChain-far w x bs z walk far,
                    refl,
                    omega arith,
                    (
                      c,
                      record {
                        stands = at.0;
                        leads = λ y last. ap target (same_Some y z (sym last ∙ walk.last))
                            ∙ at.1;
                      },
                      subst (IsFirstShared bs c) (omega arith) (record { here = first.here; before = first.before }),
                    ),
                  )
              | inl alone ↦
                  let longer = IsWalk-more w x bs z c walk (omega arith) at.0 at.1
                  (λ k b here. none-place (λ (b : BlockView). shares b c) 0 bs k b alone here) in
                  let long = length-append bs (c ∷ []) in
                  subst (Says w) (sym (follow-more n w x bs z c far some.1 alone))
                  (follow-says n w x (bs ++ c ∷ []) c longer (omega arith))
            ]
      ]
    ]

-- the function answers the loop or the fault of the window
pub loop_of-says : (w : List ℕ) → Says w (loop_of w)
loop_of-says w =
    elim (none_or_some (first_block w)) [
      | inl none ↦ subst (Says w) (sym (loop_of-none w none)) (first_block-none w none)
      | inr some ↦
          subst (Says w) (sym (loop_of-first w some.0 some.1))
          (follow-says 31 w some.0.at (some.0 ∷ []) some.0
          (IsWalk-first w some.0 (first_block-found w some.0 some.1)) refl)
    ]

-- blocks that share no byte stand at different offsets
pub apart_places : (b c : BlockView) → shares b c ≡ false → b.at ≢ c.at
apart_places b c alone same = true_false (sym (grind (arith, nat_tests)) ∙ alone)

-- the front of a list by one more
front_more : (bs : List BlockView) (k : ℕ) (c : BlockView) → slice_get bs k ≡ Some c
    → take (k + 1) bs ≡ take k bs ++ c ∷ []
front_more bs k c at =
    take_more bs k c (slice_get_within bs k c at) ∙ ap (λ b. take k bs ++ b ∷ []) (get_or_from_slice_get bs k c c at)

front_get : (n : ℕ) (bs : List BlockView) (k : ℕ) (b : BlockView) → slice_get (take n bs) k ≡ Some b
    → slice_get bs k ≡ Some b × (k < n)
front_get zero bs k b at = absurd (none-some b at)
front_get (suc n) [] k b at = absurd (none-some b at)
front_get (suc n) (c ∷ bs) zero b at = (at, omega arith)
front_get (suc n) (c ∷ bs) (suc k) b at = let rest = front_get n bs k b at in
    (rest.0, let lt = rest.1 in omega (arith, lt))

pub some_at : (bs : List BlockView) (k : ℕ) → k < length bs → (b : BlockView) × (slice_get bs k ≡ Some b)
some_at [] k lt = absurd (omega arith)
some_at (b ∷ bs) zero lt = (b, refl)
some_at (b ∷ bs) (suc k) lt = some_at bs k (omega arith)

-- the function follows each chain
module _ (w : List ℕ) (bs : List BlockView) (a : BlockView) (chain : IsChain w bs)
    (first : slice_get bs 0 ≡ Some a) where
  begins_chain : loop_of w ≡ follow 31 w a.at (take 1 bs) a
  begins_chain =
      loop_of-first w a (first_block-stands w a (chain.first a first))
      ∙ ap (λ cs. follow 31 w a.at cs a) (sym (front_more bs 0 a first))

  goes_on : (k n : ℕ) (y z : BlockView) → slice_get bs k ≡ Some y → slice_get bs (k + 1) ≡ Some z →
      follow (suc n) w a.at (take (k + 1) bs) y ≡ follow n w a.at (take (k + 1 + 1) bs) z
  goes_on k n y z here there =
      let leads = chain.linked k y z here there in
      let far : is_offset (target y) a.at ≡ false = elim (cases_Bool (is_offset (target y) a.at)) [
        | inr far ↦ far
        | inl closed ↦
            let back : pos z.at ≡ pos a.at = sym leads ∙ is_offset-true (target y) a.at closed in
            let same : a.at ≡ z.at = cc in
            absurd (apart_places a z (chain.apart 0 (k + 1) a z (omega arith) first there) same)
      ] in
      follow-more n w a.at (take (k + 1) bs) y z far
      (block_at_offset-stands w (target y) z leads (chain.stand (k + 1) z there))
      (place-none (λ (b : BlockView). shares b z) 0 (take (k + 1) bs)
      (λ i b at. let (among, lt) = front_get (k + 1) bs i b at in chain.apart i (k + 1) b z lt among there))
      ∙ ap (λ cs. follow n w a.at cs z) (sym (front_more bs (k + 1) z there))

  follows_chain : (k : ℕ) (z : BlockView) → slice_get bs k ≡ Some z
      → loop_of w ≡ follow (31 - k) w a.at (take (k + 1) bs) z
  follows_chain zero z at = begins_chain ∙ ap (follow 31 w a.at (take 1 bs)) (same_Some a z (sym first ∙ at))
  follows_chain (suc k) z at =
      let lt = slice_get_within bs (suc k) z at in
      let few = chain.few in
      let (y, here) = some_at bs k (omega arith) in
      let next : slice_get bs (k + 1) ≡ Some z = ap (slice_get bs) (omega arith) ∙ at in
      let more : 31 - k ≡ suc (31 - suc k) = omega arith in
      follows_chain k y here ∙ ap (λ n. follow n w a.at (take (k + 1) bs) y) more ∙ goes_on k (31 - suc k) y z here next
      ∙ ap (λ n. follow (31 - suc k) w a.at (take n bs) z) (omega arith)

  -- the function follows a chain up to its last block
  follows_whole : (z : BlockView) → IsLastBlock bs z → loop_of w ≡ follow (32 - length bs) w a.at bs z
  follows_whole z last =
      let some = chain.some in
      follows_chain (length bs - 1) z last ∙ ap (λ n. follow n w a.at (take (length bs - 1 + 1) bs) z) (omega arith)
      ∙ ap (λ cs. follow (32 - length bs) w a.at cs z) (take_all (length bs - 1 + 1) bs (omega arith))

-- the ends of a chain
pub ends : (w : List ℕ) (bs : List BlockView) → IsChain w bs
    → (a : BlockView) × (z : BlockView) × (slice_get bs 0 ≡ Some a) × IsLastBlock bs z
ends w bs chain =
    let some = chain.some in
    let (a, first) = some_at bs 0 (omega arith) in
    let (z, last) = some_at bs (length bs - 1) (omega arith) in
    (a, z, first, last)

-- the loop of a window is the function's
pub loop_of-loop : (w : List ℕ) (bs : List BlockView) → IsLoop w bs → loop_of w ≡ Ok bs
loop_of-loop w bs loop =
    let (a, z, first, last) = ends w bs loop.chain in
    follows_whole w bs a loop.chain first z last
    ∙ follow-closed (32 - length bs) w a.at bs z (is_offset-same (target z) a.at (loop.closed a z first last))

open_far : (w : List ℕ) (bs : List BlockView) (a z : BlockView) → IsOpenChain w bs → slice_get bs 0 ≡ Some a
    → IsLastBlock bs z → is_offset (target z) a.at ≡ false
open_far w bs a z chain first last =
    elim (cases_Bool (is_offset (target z) a.at)) [
      | inr far ↦ far
      | inl closed ↦ absurd (chain.leads_on a z first last (is_offset-true (target z) a.at closed))
    ]

-- where no block stands at the last one's target, none is found
no_next : (w : List ℕ) (bs : List BlockView) (z : BlockView) → IsLastBlock bs z
    → ((c : BlockView) → IsNextBlock w bs c → ⊥)
    → block_at_offset w (target z) ≡ None
no_next w bs z last none =
    elim (none_or_some (block_at_offset w (target z))) [
      | inl e ↦ e
      | inr some ↦
          let (stands, leads) = block_at_offset-found w (target z) some.0 some.1 in
          absurd (none some.0 (record {
            stands = stands;
            leads = λ y at. ap target (same_Some y z (sym at ∙ last))
                ∙ leads;
          }))
    ]

-- a fault of the loop is what the function answers
pub loop_of-fault : (w : List ℕ) (f : LoopFault) → IsLoopFault w f → loop_of w ≡ Err f
loop_of-fault w NoBlock none = loop_of-none w (first_block-nowhere w none)
loop_of-fault w TooMany (bs, open_chain, many) =
    let (a, z, first, last) = ends w bs open_chain.chain in
    follows_whole w bs a open_chain.chain first z last ∙ ap (λ n. follow n w a.at bs z) (omega arith)
    ∙ follow-many w a.at bs z (open_far w bs a z open_chain first last)
loop_of-fault w (Broken x) (bs, open_chain, few, at, none) =
    let (a, z, first, last) = ends w bs open_chain.chain in
    let more : 32 - length bs ≡ suc (31 - length bs) = omega arith in
    follows_whole w bs a open_chain.chain first z last ∙ ap (λ n. follow n w a.at bs z) more
    ∙ follow-broken (31 - length bs) w a.at bs z (open_far w bs a z open_chain first last) (no_next w bs z last none)
    ∙ ap (λ y. Err (Broken y)) (at z last)
loop_of-fault w (Overlap i j) (bs, open_chain, count, few, next) =
    let (a, z, first, last) = ends w bs open_chain.chain in
    let (c, stands, shared) = next in
    let more : 32 - length bs ≡ suc (31 - length bs) = omega arith in
    follows_whole w bs a open_chain.chain first z last ∙ ap (λ n. follow n w a.at bs z) more
    ∙ follow-overlap (31 - length bs) w a.at bs z c i (open_far w bs a z open_chain first last)
    (block_at_offset-stands w (target z) c (stands.leads z last) stands.stands)
    (place-some (λ (b : BlockView). shares b c) 0 bs i (record { here = shared.here; before = shared.before })
    ∙ ap Some (omega arith))
    ∙ ap (λ n. Err (Overlap i n)) count
