-- What the blocks of a file, in their order, make of one byte of the window of a gated target.
use Rattle.std.proofs.Common.{◌≡◌, ◌≢◌, inl, inr, ℕ, zero, suc, ◌+◌, ◌*◌, ◌/◌, ◌%◌, ◌<◌, ◌≤◌, Bool, true, false, ◌==◌, ◌||◌, nat_lt, List, [], ◌∷◌, ◌++◌, map, refl, sym, ap, ◌∙◌, arith}
use Rattle.std.specs.Prelude.{if◌then◌else◌, bit_and, slice_index}
use Rattle.std.specs.List.{list_any, range_with_len}
use Rattle.std.proofs.lemmas.Bool.Decides.{nat_tests}
use Rattle.std.proofs.lemmas.Bool.{cases_eq, cases_lt, ne_eqb}
use Rattle.std.proofs.lemmas.List.Folds.{list_any-append}
use Rattle.std.proofs.lemmas.List.FromFn.{map-range_with_len_more}
use Rattle.pico_board.specs.declared.Window.{Window}
use Rattle.uf2_place.specs.declared.block.Uf2.{Uf2}
use Rattle.uf2_place.specs.Files.{file_block, page_of}
use Rattle.uf2_place.specs.Placement.{first_in, fresh_steps, in_turn, later_steps, lies_in, own_steps, page_in, sector_in}
use Rattle.law_downloads.proofs.ByteLemmas.{byte_after, byte_after-append, erased, programmed}

-- tests of numbers that say the same
pub same-test : (a b x y : ℕ) → (a ≡ b → x ≡ y) → (x ≡ y → a ≡ b) → (a == b) ≡ (x == y)
same-test a b x y to from = elim (cases_eq x y) [
  | inl e ↦ grind (arith, nat_tests, e, from e)
  | inr n ↦ ne_eqb a b (λ e. n (to e)) ∙ sym (ne_eqb x y n)
]

-- an erase where a sector begins
fresh-test : (begun : Bool) (x y i v b : ℕ) → (i ≡ v → begun ≡ false) → (i ≡ v → x ≡ y)
    → (x ≡ y → begun ≡ false → i ≡ v)
    → (if begun then b else (if x == y then 255 else b)) ≡ (if i == v then 255 else b)
fresh-test true x y i v b new here only =
    sym (ap (λ t. if t then 255 else b) (ne_eqb i v (λ e. let wrong : true ≡ false = new e in cc)))
fresh-test false x y i v b new here only = ap (λ t. if t then 255 else b) (same-test x y i v (λ e. only e refl) here)

-- the work of n blocks from number i on
abbrev pub rest : (ℕ → ℕ → ℕ) → ℕ → ℕ → ℕ → ℕ
rest f i zero b = b
rest f i (suc n) b = rest f (i + 1) n (f i b)

pub rest-none : (f : ℕ → ℕ → ℕ) → ((i b : ℕ) → f i b ≡ b) → (i n b : ℕ) → rest f i n b ≡ b
rest-none f none i zero b = refl
rest-none f none i (suc n) b = ap (rest f (i + 1) n) (none i b) ∙ rest-none f none (i + 1) n b

module _ (w : Window) (s : ℕ) (starts : w.start ≡ 4096 * s) (image : List ℕ) (family : ℕ) where
  abbrev pub block : ℕ → Uf2
  block i = file_block image family i

  abbrev pub page : ℕ → List ℕ
  page i = page_of image i

  -- the blocks before number i, and n blocks from number i on
  abbrev pub upto : ℕ → List Uf2
  upto i = map block (range_with_len 0 i)

  abbrev pub from : ℕ → ℕ → List Uf2
  from i n = map block (range_with_len i n)

  pub first-is : first_in w ≡ s
  first-is = omega (arith, starts)

  pub page-is : (i : ℕ) → page_in w (block i) ≡ 16 * s + i
  page-is i = omega (arith, starts)

  pub sector-is : (i : ℕ) → sector_in w (block i) ≡ s + i / 16
  sector-is i = omega (arith, starts)

  pub upto-more : (i : ℕ) → upto i ++ block i ∷ [] ≡ upto (i + 1)
  upto-more i = sym (map-range_with_len_more block 0 i i (omega arith))

  one-more : (t i : ℕ) → (nat_lt (16 * t) i || (sector_in w (block i) == s + t || false)) ≡ nat_lt (16 * t) (i + 1)
  one-more t i = elim (cases_lt (16 * t) i) [
    | inl low ↦ grind (arith, nat_tests, low)
    | inr high ↦ elim (cases_eq i (16 * t)) [
      | inl e ↦ grind (arith, nat_tests, e, sector-is i)
      | inr n ↦ grind (arith, nat_tests, high, n, sector-is i)
    ]
  ]

  -- some block before number i lies in sector t of the window exactly where the sector's first one does
  pub begun : (t i : ℕ) → list_any (lies_in w (s + t)) (upto i) ≡ nat_lt (16 * t) i
  begun t zero = grind (arith, nat_tests)
  begun t (suc i) =
      let e : i + 1 ≡ suc i = omega arith in
      ap (λ n. list_any (lies_in w (s + t)) (upto n)) (sym e)
      ∙ ap (list_any (lies_in w (s + t))) (sym (upto-more i))
      ∙ list_any-append (lies_in w (s + t)) (upto i) (block i ∷ [])
      ∙ ap (λ x. x || (sector_in w (block i) == s + t || false)) (begun t i)
      ∙ one-more t i ∙ ap (nat_lt (16 * t)) e

  -- byte j of the window
  module _ (j : ℕ) where
    abbrev pub k : ℕ
    k = w.start + j

    abbrev pub put : ℕ → ℕ → ℕ
    put q x = bit_and x (slice_index (page q) (j % 256))

    -- what block i makes of it, where it is not in the first sector
    abbrev pub fresh : ℕ → ℕ → ℕ
    fresh i b = if i == 16 * (j / 4096) then 255 else b

    abbrev pub turned : ℕ → ℕ → ℕ
    turned i b = if i == j / 256 then put i (fresh i b) else fresh i b

    pub place : k % 256 ≡ j % 256
    place = omega (arith, starts)

    fresh-byte : (e : Bool) (sector p : ℕ) (d : List ℕ) (b : ℕ)
        → byte_after k (fresh_steps e sector p d) b ≡ programmed k p d (if e then b else erased k sector b)
    fresh-byte true sector p d b = refl
    fresh-byte false sector p d b = refl

    -- the byte's page and sector against those of a block
    page-test : (i : ℕ) → (k / 256 == page_in w (block i)) ≡ (i == j / 256)
    page-test i =
        let at = page-is i in
        same-test (k / 256) (page_in w (block i)) i (j / 256) (λ e. omega (arith, starts, at, e))
        (λ e. omega (arith, starts, at, e))

    put-is : (i x : ℕ) → programmed k (page_in w (block i)) (page i) x ≡ (if i == j / 256 then put i x else x)
    put-is i x =
        ap (λ n. if k / 256 == page_in w (block i) then bit_and x (slice_index (page i) n) else x) place
        ∙ ap (λ t. if t then put i x else x) (page-test i)

    erase-is : (i b : ℕ)
        → (if nat_lt (16 * (i / 16)) i then b else erased k (sector_in w (block i)) b) ≡ fresh i b
    erase-is i b =
        let at = sector-is i in
        fresh-test (nat_lt (16 * (i / 16)) i) (k / 4096) (sector_in w (block i)) i (16 * (j / 4096)) b
        (λ e. grind (arith, nat_tests, e)) (λ e. omega (arith, starts, at, e))
        (λ e new. not-begun i at e new)
      where
        first-of : (i : ℕ) → nat_lt (16 * (i / 16)) i ≡ false → i ≡ 16 * (i / 16)
        first-of i new = grind (arith, nat_tests, new)

        not-begun : (i : ℕ) → sector_in w (block i) ≡ s + i / 16 → k / 4096 ≡ sector_in w (block i)
            → nat_lt (16 * (i / 16)) i ≡ false → i ≡ 16 * (j / 4096)
        not-begun i at e new = let first = first-of i new in omega (arith, starts, at, e, first)

    own-turn : (i b : ℕ) → byte_after k (own_steps w (upto i) (block i)) b ≡ turned i b
    own-turn i b =
        fresh-byte (list_any (lies_in w (sector_in w (block i))) (upto i)) (sector_in w (block i))
        (page_in w (block i)) (page i) b
        ∙ ap (λ x. programmed k (page_in w (block i)) (page i)
        (if list_any (lies_in w x) (upto i) then b else erased k (sector_in w (block i)) b)) (sector-is i)
        ∙ ap (λ x. programmed k (page_in w (block i)) (page i)
        (if x then b else erased k (sector_in w (block i)) b)) (begun (i / 16) i)
        ∙ ap (programmed k (page_in w (block i)) (page i)) (erase-is i b)
        ∙ put-is i (fresh i b)

    in-first : (i : ℕ) → i < 16 → lies_in w (first_in w) (block i) ≡ true
    in-first i low = grind (arith, nat_tests, first-is, sector-is i, low)

    elsewhere : (i : ℕ) → 16 ≤ i → lies_in w (first_in w) (block i) ≡ false
    elsewhere i high = grind (arith, nat_tests, first-is, sector-is i, high)

    -- a block that does nothing here
    pub turned-not : (i b : ℕ) → i ≢ 16 * (j / 4096) → i ≢ j / 256 → turned i b ≡ b
    turned-not i b no_sector no_page =
        ap (λ t. if t then put i (fresh i b) else fresh i b) (ne_eqb i (j / 256) no_page)
        ∙ ap (λ t. if t then 255 else b) (ne_eqb i (16 * (j / 4096)) no_sector)

    pub one-turn : (i b : ℕ) → 4096 ≤ j → byte_after k (later_steps w (upto i) (block i)) b ≡ turned i b
    one-turn i b high = elim (cases_lt i 16) [
      | inl low ↦
          ap (λ t. byte_after k (if t then [] else own_steps w (upto i) (block i)) b) (in-first i low)
          ∙ sym (turned-not i b (λ e. omega (arith, low, high, e)) (λ e. omega (arith, low, high, e)))
      | inr far ↦
          ap (λ t. byte_after k (if t then [] else own_steps w (upto i) (block i)) b) (elsewhere i far) ∙ own-turn i b
    ]

    -- no block of another sector does anything to a byte of the first one
    pub no-turn : (i b : ℕ) → j < 4096 → byte_after k (later_steps w (upto i) (block i)) b ≡ b
    no-turn i b low = elim (cases_lt i 16) [
      | inl first ↦ ap (λ t. byte_after k (if t then [] else own_steps w (upto i) (block i)) b) (in-first i first)
      | inr far ↦
          ap (λ t. byte_after k (if t then [] else own_steps w (upto i) (block i)) b) (elsewhere i far)
          ∙ own-turn i b ∙ turned-not i b (λ e. omega (arith, low, far, e)) (λ e. omega (arith, low, far, e))
    ]

    pub turns : (f : ℕ → ℕ → ℕ) → ((i b : ℕ) → byte_after k (later_steps w (upto i) (block i)) b ≡ f i b)
        → (i n b : ℕ) → byte_after k (in_turn (later_steps w) (upto i) (from i n)) b ≡ rest f i n b
    turns f one i zero b = refl
    turns f one i (suc n) b =
        byte_after-append k (later_steps w (upto i) (block i))
        (in_turn (later_steps w) (upto i ++ block i ∷ []) (from (i + 1) n)) b
        ∙ ap (λ bs. byte_after k (in_turn (later_steps w) bs (from (i + 1) n))
        (byte_after k (later_steps w (upto i) (block i)) b)) (upto-more i)
        ∙ ap (byte_after k (in_turn (later_steps w) (upto (i + 1)) (from (i + 1) n))) (one i b)
        ∙ turns f one (i + 1) n (f i b)
