-- A loop that follows the links of another loop is that loop.
use Rattle.std.proofs.Common.{◌≡◌, ◌↔◌, ℕ, zero, suc, ◌+◌, ◌-◌, ◌≤◌, pos, ◌+ℤ◌, List, [], ◌∷◌, length, Some, refl, sym, ap, subst, ◌∙◌, inl, inr, arith}
use Rattle.std.proofs.lemmas.Bool.{cases_lt, cases_order}
use Rattle.std.proofs.lemmas.Option.{same_Some, slice_get_within}
use Rattle.std.specs.List.{slice_get}
use Rattle.block_codec.specs.Blocks.{BlockView, BlockAt}
use Rattle.block_loop.specs.Loop.{target, IsChain, IsLastBlock, IsLoop}
use Rattle.block_loop.specs.Offsets.{offsets_of}
use Rattle.block_loop.specs.Cycles.{IsLike, IsSameCycle, BeginsAmong, KeepsLinks}
use Rattle.block_loop.proofs.ChainLemmas.{apart_places, some_at, ends}

-- the blocks of a chain stand at different offsets
distinct_places : (w : List ℕ) (bs : List BlockView) → IsChain w bs → (i j : ℕ) (b c : BlockView)
    → slice_get bs i ≡ Some b → slice_get bs j ≡ Some c → b.at ≡ c.at → i ≡ j
distinct_places w bs chain i j b c here there same =
    elim (cases_order i j) [
      | inl is ↦ is
      | inr apart ↦ elim apart [
        | inl less ↦ absurd (apart_places b c (chain.apart i j b c less here there) same)
        | inr more ↦ absurd (apart_places c b (chain.apart j i c b more there here) (sym same))
      ]
    ]

-- the first block of a list is all that counts of where it begins
pub begins-among : (bs cs : List BlockView) (c : BlockView) → BeginsAmong bs (c ∷ cs)
    ↔ ((i : ℕ) × (b : BlockView) × (slice_get bs i ≡ Some b) × (c.at ≡ b.at))
begins-among bs cs c = (
  λ among. among.begins c refl,
  λ found. record {
    begins = λ d is. subst
        (λ (e : BlockView). (i : ℕ) × (b : BlockView) × (slice_get bs i ≡ Some b) × (e.at ≡ b.at))
        (same_Some c d is) found;
  },
)

like_target : (b c : BlockView) → IsLike b c → target c ≡ target b
like_target b c like = ap (λ x. pos x +ℤ c.link) like.place ∙ ap (λ l. pos b.at +ℤ l) like.link

same_place : (x y : ℕ) → pos x ≡ pos y → x ≡ y
same_place x y e = cc

-- a loop of v that begins at a block of the loop of w, where the blocks that stand in v at the
-- offsets of that loop have its links
module _ (w v : List ℕ) (bs cs : List BlockView) (loop : IsLoop w bs) (other : IsLoop v cs)
    (begins : (c : BlockView) → slice_get cs 0 ≡ Some c
    → (i : ℕ) × (b : BlockView) × (slice_get bs i ≡ Some b) × (c.at ≡ b.at))
    (links : (i : ℕ) (b c : BlockView) → slice_get bs i ≡ Some b → BlockAt v b.at c → c.link ≡ b.link) where
  -- a block of the other loop at a place of this one is like it
  like : (i k : ℕ) (b c : BlockView) → slice_get bs i ≡ Some b → slice_get cs k ≡ Some c → c.at ≡ b.at → IsLike b c
  like i k b c here there same =
      record { place = same; link = links i b c here (subst (λ x. BlockAt v x c) same (other.chain.stand k c there)) }

  -- the other loop follows this one from place i on
  follows : (i k : ℕ) (b c : BlockView)
      → ((d e : BlockView) → slice_get bs i ≡ Some d → slice_get cs 0 ≡ Some e → e.at ≡ d.at) →
      slice_get bs (i + k) ≡ Some b → slice_get cs k ≡ Some c → IsLike b c
  follows i zero b c start here there =
      let at : slice_get bs i ≡ Some b = ap (slice_get bs) (omega arith) ∙ here in
      like i 0 b c at there (start b c at there)
  follows i (suc k) b c start here there =
      let within = slice_get_within bs (i + suc k) b here in
      let inside = slice_get_within cs (suc k) c there in
      let (d, before) = some_at bs (i + k) (omega arith) in
      let (e, behind) = some_at cs k (omega arith) in
      let same = follows i k d e start before behind in
      let next : slice_get bs (i + k + 1) ≡ Some b = ap (slice_get bs) (omega arith) ∙ here in
      let after : slice_get cs (k + 1) ≡ Some c = ap (slice_get cs) (omega arith) ∙ there in
      let leads = loop.chain.linked (i + k) d b before next in
      let goes = other.chain.linked k e c behind after in
      like (i + suc k) (suc k) b c here there (same_place c.at b.at (sym goes ∙ like_target d e same ∙ leads))

  module _ (i : ℕ) (a f b : BlockView) (first : slice_get cs 0 ≡ Some a) (front : slice_get bs 0 ≡ Some f)
      (here : slice_get bs i ≡ Some b) (same : a.at ≡ b.at) where
    start : (d e : BlockView) → slice_get bs i ≡ Some d → slice_get cs 0 ≡ Some e → e.at ≡ d.at
    start d e at there =
        ap (λ (x : BlockView). x.at) (same_Some e a (sym there ∙ first)) ∙ same
        ∙ ap (λ (x : BlockView). x.at) (same_Some b d (sym here ∙ at))

    -- the other loop doesn't close before this one's last block
    long_enough : length bs ≤ i + length cs
    long_enough =
        elim (cases_lt (i + length cs) (length bs)) [
          | inr enough ↦ enough
          | inl short ↦
              let some = other.chain.some in
              let m = length cs - 1 in
              let (e, last) = some_at cs m (omega arith) in
              let (d, at) = some_at bs (i + m) (omega arith) in
              let (n, next) = some_at bs (i + m + 1) (omega arith) in
              let likes = follows i m d e start at last in
              let closed = other.closed a e first last in
              let leads = loop.chain.linked (i + m) d n at next in
              let back : n.at ≡ b.at = same_place n.at a.at (sym leads ∙ sym (like_target d e likes) ∙ closed) ∙ same in
              let is = distinct_places w bs loop.chain (i + m + 1) i n b next here back in
              absurd (omega arith)
        ]

    -- the block of the other loop that is like this one's last leads to this one's first
    leads_home : (k : ℕ) (e : BlockView) → i + k + 1 ≡ length bs → slice_get cs k ≡ Some e → target e ≡ pos f.at
    leads_home k e end_ at =
        let (d, there) = some_at bs (i + k) (omega arith) in
        let last : IsLastBlock bs d = ap (slice_get bs) (omega arith) ∙ there in
        like_target d e (follows i k d e start there at) ∙ loop.closed f d front last

    -- the first blocks of two such loops are the same
    same_first : f.at ≡ a.at
    same_first =
        let within = slice_get_within bs i b here in
        let enough = long_enough in
        let k = length bs - i - 1 in
        let (e, at) = some_at cs k (omega arith) in
        let home = leads_home k e (omega arith) at in
        elim (cases_lt (k + 1) (length cs)) [
          | inr all ↦
              let last : IsLastBlock cs e = ap (slice_get cs) (omega arith) ∙ at in
              same_place f.at a.at (sym home ∙ other.closed a e first last)
          | inl more ↦
              let (n, next) = some_at cs (k + 1) (omega arith) in
              let there : n.at ≡ f.at = same_place n.at f.at (sym (other.chain.linked k e n at next) ∙ home) in
              let stands : BlockAt v f.at n = subst (λ x. BlockAt v x n) there (other.chain.stand (k + 1) n next) in
              elim (cases_order f.at a.at) [
                | inl is ↦ is
                | inr apart ↦ elim apart [
                  | inl less ↦ absurd ((other.chain.first a first).least f.at n less stands)
                  | inr lower ↦
                      absurd ((loop.chain.first f front).least b.at b (omega arith) (loop.chain.stand i b here))
                ]
              ]
        ]

  -- the other loop has as many blocks, each at the same offset and with the same link
  pub same_cycle : IsSameCycle bs cs
  same_cycle =
      let (f, z, front, last) = ends w bs loop.chain in
      let (a, y, first, end_) = ends v cs other.chain in
      let (i, b, here, same) = begins a first in
      let lead = same_first i a f b first front here same in
      let zero = distinct_places w bs loop.chain 0 i f b front here (lead ∙ same) in
      let enough = long_enough 0 a f f first front front (sym lead) in
      let from_first = start 0 a f f first front front (sym lead) in
      record {
        count = elim (cases_lt (length bs) (length cs)) [
          | inr most ↦ omega arith
          | inl more ↦
              let some = loop.chain.some in
              let (e, at) = some_at cs (length bs - 1) (omega arith) in
              let (c, next) = some_at cs (length bs - 1 + 1) (omega arith) in
              let home = leads_home 0 a f f first front front (sym lead) (length bs - 1) e (omega arith) at in
              let there : c.at ≡ a.at = same_place c.at f.at
              (sym (other.chain.linked (length bs - 1) e c at next) ∙ home) ∙ lead in
              let is = distinct_places v cs other.chain (length bs - 1 + 1) 0 c a next first there in
              absurd (omega arith)
        ];
        each = λ k d c there at. follows 0 k d c from_first (ap (slice_get bs) (omega arith) ∙ there) at;
      }

offsets_same : (bs cs : List BlockView) → length cs ≡ length bs
    → ((k : ℕ) (b c : BlockView) → slice_get bs k ≡ Some b → slice_get cs k ≡ Some c → IsLike b c)
    → offsets_of cs ≡ offsets_of bs
offsets_same [] [] e h = refl
offsets_same [] (c ∷ cs) e h = absurd (omega arith)
offsets_same (b ∷ bs) [] e h = absurd (omega arith)
offsets_same (b ∷ bs) (c ∷ cs) e h =
    ap (λ x. x ∷ offsets_of cs) (h 0 b c refl refl).place
    ∙ ap (λ xs. b.at ∷ xs) (offsets_same bs cs (omega arith) (λ k d f here there. h (suc k) d f here there))

-- the loops lead through the same offsets
pub IsSameCycle-offsets : (bs cs : List BlockView) → IsSameCycle bs cs → offsets_of cs ≡ offsets_of bs
IsSameCycle-offsets bs cs same = offsets_same bs cs same.count same.each

-- a loop that begins among the blocks of another and keeps their links leads through the same places
pub IsSameCycle-from_links : (w v : List ℕ) (bs cs : List BlockView) → IsLoop w bs → IsLoop v cs → BeginsAmong bs cs
    → KeepsLinks bs v → IsSameCycle bs cs
IsSameCycle-from_links w v bs cs loop other begins keeps = same_cycle w v bs cs loop other begins.begins keeps.links
