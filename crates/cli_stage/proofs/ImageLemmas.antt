-- The blocks of an image and its first block, by the code's answers and by the rules.
use Rattle.std.proofs.Common.{◌≡◌, ◌≢◌, ◌↔◌, ℕ, zero, suc, ◌+◌, ◌*◌, ◌/◌, ◌<◌, ◌==◌, ◌||◌, Bool, true, false, true≢false, List, [], ◌∷◌, length, slice_get, Option, Some, None, Result, Ok, refl, sym, ap, ◌∙◌, subst, inl, inr, arith}
use Rattle.std.specs.Prelude.{Contains}
use Rattle.std.specs.List.{list_any}
use Rattle.std.proofs.lemmas.Bool.{and_from, and_parts, or_left, or_right, eqb-true, eq-eqb, ne_eqb, cases_lt}
use Rattle.block_codec.specs.Blocks.{BlockAt, BlockView}
use Rattle.block_codec.specs.Reading.{block_at}
use Rattle.block_codec.proofs.AtLemmas.{BlockAt-from_found, BlockAt-unique, block_at-stands}
use Rattle.block_loop.specs.declared.fault.LoopFault.{LoopFault}
use Rattle.block_loop.specs.Loop.{IsFirstBlock, IsLoop, loop_of}
use Rattle.block_loop.specs.Offsets.{AreLoop, loop_offsets, offsets_of}
use Rattle.block_loop.proofs.ChainLemmas.{first_block-stands, loop_of-loop}
use Rattle.block_loop.proofs.SameLoopLemmas.{IsLoop-from_answer}
use Rattle.boot_sweep.specs.Firms.{HasNoOtherBlock}
use Rattle.cli_stage.specs.Images.{are_listed, first_page, is_listed, is_lone}
use Rattle.cli_stage.specs.StageRules.{HasLoneLoop}

or-false : (a b : Bool) → a ≡ false → b ≡ false → (a || b) ≡ false
or-false a b p q = ap (λ t. t || b) p ∙ q

-- a number is among others where it stands at some place, and not where it stands at none
pub any-here : (xs : List ℕ) (i x : ℕ) → slice_get xs i ≡ Some x → list_any (λ y. y == x) xs ≡ true
any-here [] i x h = cc
any-here (y ∷ ys) zero x h = let e : y ≡ x = cc in or_left (y == x) _ (eq-eqb y x e)
any-here (y ∷ ys) (suc i) x h = or_right (y == x) _ (any-here ys i x h)

pub any-none : (xs : List ℕ) (x : ℕ) → ((k : ℕ) → k < length xs → slice_get xs k ≢ Some x)
    → list_any (λ y. y == x) xs ≡ false
any-none [] x none = refl
any-none (y ∷ ys) x none =
    or-false (y == x) _ (ne_eqb y x (λ e. none 0 (omega arith) (ap Some e)))
    (any-none ys x (λ k lt. none (suc k) (omega (arith, lt))))

any-at : (xs : List ℕ) (x : ℕ) → list_any (λ y. y == x) xs ≡ true → (i : ℕ) × (slice_get xs i ≡ Some x)
any-at [] x h = cc
any-at (y ∷ ys) x h = go (y == x) refl h (any-at ys x)
  where
    go : (t : Bool) → (y == x) ≡ t → (t || list_any (λ z. z == x) ys) ≡ true
        → (list_any (λ z. z == x) ys ≡ true → (i : ℕ) × (slice_get ys i ≡ Some x))
        → (i : ℕ) × (slice_get (y ∷ ys) i ≡ Some x)
    go true is h rest = (0, ap Some (eqb-true y x is))
    go false is h rest = let r = rest h in (suc r.0, r.1)

module _ (bytes offsets : List ℕ) where
  -- the places that were looked at
  pub listed-none : are_listed bytes offsets 0 ≡ true
  unfolding are_listed
  listed-none = refl

  pub listed-more : (n : ℕ) → are_listed bytes offsets n ≡ true
      → is_listed offsets (block_at bytes (4 * n)) ≡ true → are_listed bytes offsets (n + 1) ≡ true
  unfolding are_listed
  listed-more n before here =
      let e : suc n ≡ n + 1 = omega arith in
      subst (λ m. are_listed bytes offsets m ≡ true) e (and_from _ _ here before)

  pub listed-at : (n k : ℕ) → are_listed bytes offsets n ≡ true → k < n
      → is_listed offsets (block_at bytes (4 * k)) ≡ true
  unfolding are_listed
  listed-at zero k h lt = absurd (omega (arith, lt))
  listed-at (suc n) k h lt =
      let p : (is_listed offsets (block_at bytes (4 * n)) ≡ true) × (are_listed bytes offsets n ≡ true) =
      and_parts _ _ h in elim (cases_lt k n) [
        | inl less ↦ listed-at n k p.1 less
        | inr past ↦
            let same : n ≡ k = omega (arith, past, lt) in
            subst (λ x. is_listed offsets (block_at bytes (4 * x)) ≡ true) same p.0
      ]

  pub listed-not : (n k : ℕ) → k < n → is_listed offsets (block_at bytes (4 * k)) ≡ false
      → are_listed bytes offsets n ≡ false
  listed-not n k lt h = go (are_listed bytes offsets n) refl
    where
      go : (t : Bool) → are_listed bytes offsets n ≡ t → are_listed bytes offsets n ≡ false
      go true is = absurd (true≢false (sym (listed-at n k is lt) ∙ h))
      go false is = is

  all-listed : (n : ℕ) → ((k : ℕ) → k < n → is_listed offsets (block_at bytes (4 * k)) ≡ true)
      → are_listed bytes offsets n ≡ true
  unfolding are_listed
  all-listed zero all = refl
  all-listed (suc n) all = and_from _ _ (all n (omega arith)) (all-listed n (λ k lt. all k (omega (arith, lt))))

offset-at : (bs : List BlockView) (i x : ℕ) → slice_get (offsets_of bs) i ≡ Some x
    → (c : BlockView) × (slice_get bs i ≡ Some c) × (c.at ≡ x)
offset-at [] i x h = cc
offset-at (b ∷ bs) zero x h = let e : b.at ≡ x = cc in (b, refl, e)
offset-at (b ∷ bs) (suc i) x h = offset-at bs i x h

contains-at : (bs : List BlockView) (i : ℕ) (b : BlockView) → slice_get bs i ≡ Some b → Contains bs b
contains-at [] i b h = cc
contains-at (c ∷ bs) zero b h = let e : c ≡ b = cc in (0, omega arith, e)
contains-at (c ∷ bs) (suc i) b h = let t = contains-at bs i b h in let lt = t.1 in (suc t.0, omega (arith, lt), t.2)

in-offsets : (b : BlockView) (bs : List BlockView) → Contains bs b → list_any (λ y. y == b.at) (offsets_of bs) ≡ true
in-offsets b [] h = let lt = h.1 in absurd (omega (arith, lt))
in-offsets b (c ∷ bs) (zero, lt, is) =
    or_left (c.at == b.at) _ (eq-eqb c.at b.at (ap (λ (x : BlockView). x.at) is))
in-offsets b (c ∷ bs) (suc i, lt, is) =
    or_right (c.at == b.at) _ (in-offsets b bs (i, omega (arith, lt), is))

module _ (v : List ℕ) (loop : List BlockView) where
  alone-is : IsLoop v loop → are_listed v (offsets_of loop) 1024 ≡ true → HasNoOtherBlock v loop
  alone-is closes h x b low stands =
      let whole = stands.aligned in
      let four : 4 * (x / 4) ≡ x = omega (arith, whole) in
      let here : block_at v (4 * (x / 4)) ≡ Some b = ap (block_at v) four ∙ block_at-stands v x b stands in
      let among : list_any (λ y. y == b.at) (offsets_of loop) ≡ true =
      sym (ap (is_listed (offsets_of loop)) here)
      ∙ listed-at v (offsets_of loop) 1024 (x / 4) h (omega (arith, low)) in
      let at = any-at (offsets_of loop) b.at among in
      let found = offset-at loop at.0 b.at at.1 in
      let same : found.0 ≡ b =
      BlockAt-unique v b.at found.0 b
      (subst (λ y. BlockAt v y found.0) found.2 (closes.chain.stand at.0 found.0 found.1))
      (subst (λ y. BlockAt v y b) (sym stands.placed) stands) in
      contains-at loop at.0 b (found.1 ∙ ap Some same)

  is-alone : HasNoOtherBlock v loop → are_listed v (offsets_of loop) 1024 ≡ true
  is-alone none = all-listed v (offsets_of loop) 1024 (λ k lt. go k lt (block_at v (4 * k)) refl)
    where
      go : (k : ℕ) → k < 1024 → (o : Option BlockView) → block_at v (4 * k) ≡ o
          → is_listed (offsets_of loop) (block_at v (4 * k)) ≡ true
      go k lt None is = ap (is_listed (offsets_of loop)) is
      go k lt (Some b) is =
          ap (is_listed (offsets_of loop)) is
          ∙ in-offsets b loop (none (4 * k) b (omega (arith, lt)) (BlockAt-from_found v (4 * k) b is))

  -- whether another block stands in the first sector
  pub lone-exactly : loop_of v ≡ Ok loop → (is_lone v (loop_offsets (loop_of v)) ≡ true) ↔ HasLoneLoop v
  lone-exactly is = (
    λ h. (
      loop,
      IsLoop-from_answer v loop is,
      alone-is (IsLoop-from_answer v loop is) (sym (ap (λ r. is_lone v (loop_offsets r)) is) ∙ h),
    ),
    λ h.
        let same : Ok h.0 ≡ Ok loop = sym (loop_of-loop v h.0 h.1) ∙ is in
        let one : h.0 ≡ loop = cc in
        ap (λ r. is_lone v (loop_offsets r)) is ∙ is-alone (subst (HasNoOtherBlock v) one h.2),
  )

-- the first of a loop's blocks is the first block
first-of : (v : List ℕ) (loop : List BlockView) → IsLoop v loop
    → (b : BlockView) × (slice_get loop 0 ≡ Some b) × IsFirstBlock v b
first-of v [] closes = let some = closes.chain.some in absurd (omega (arith, some))
first-of v (b ∷ bs) closes = (b, refl, closes.chain.first b refl)

page-of : (loop : List BlockView) (b : BlockView) → slice_get loop 0 ≡ Some b
    → (r : Result (List BlockView) LoopFault) → r ≡ Ok loop → first_page (loop_offsets r) ≡ b.at / 256
page-of [] b h r is = cc
page-of (c ∷ bs) b h r is =
    let e : c ≡ b = cc in
    ap (λ x. first_page (loop_offsets x)) is ∙ ap (λ (x : BlockView). x.at / 256) e

-- a loop has a first block
pub first-there : (v : List ℕ) (loop : List BlockView) → loop_of v ≡ Ok loop → (b : BlockView) × IsFirstBlock v b
first-there v loop is = let f = first-of v loop (IsLoop-from_answer v loop is) in (f.0, f.2)

-- the page of the first block
pub first-page : (v : List ℕ) (loop : List BlockView) (b : BlockView) → loop_of v ≡ Ok loop → IsFirstBlock v b
    → first_page (loop_offsets (loop_of v)) ≡ b.at / 256
first-page v loop b is first =
    let f = first-of v loop (IsLoop-from_answer v loop is) in
    let same : Some f.0 ≡ Some b = sym (first_block-stands v f.0 f.2) ∙ first_block-stands v b first in
    let one : f.0 ≡ b = cc in
    page-of loop b (f.1 ∙ ap Some one) (loop_of v) is

-- the first offset of a loop is below 4096
pub loop-low : (v offsets : List ℕ) (x : ℕ) → AreLoop v offsets → slice_get offsets 0 ≡ Some x → x < 4096
loop-low v offsets x is h = go is.blocks
  where
    go : (bs : List BlockView) × IsLoop v bs × (offsets_of bs ≡ offsets) → x < 4096
    go (bs, closes, e) =
        let f = offset-at bs 0 x (ap (λ xs. slice_get xs 0) e ∙ h) in
        subst (λ y. y < 4096) f.2 ((closes.chain.first f.0 f.1).low)
