-- How the steps of a download grow with its blocks, and how many blocks it may have.
use Rattle.std.proofs.Common.{◌≡◌, ◌↔◌, ℕ, ◌<◌, ◌≤◌, Bool, true, false, nat_eq, if◌then◌else◌, List, [], ◌∷◌, ◌++◌, length, drop, arith, refl, sym, ap, subst, ◌∙◌}
use Rattle.std.specs.List.{AllByRecursion, IsDistinct}
use Rattle.std.specs.Set.{is_member}
use Rattle.std.proofs.Math.Seq.{drop-append_seam}
use Rattle.std.proofs.lemmas.List.{append_assoc, append-nil, length-append, length-map, map-append}
use Rattle.std.proofs.lemmas.Bool.Decides.{nat_tests}
use Rattle.pico_board.proofs.GateLemmas.{AllByRecursion-left}
use Rattle.uf2_place.proofs.DistinctLemmas.{IsDistinct-left, few-numbers, all-numbers, each-number}
use Rattle.pico_board.specs.declared.Step.{Step}
use Rattle.pico_board.specs.declared.Step.TheVariants.{Erase}
use Rattle.part_table.specs.declared.Target.{Target}
use Rattle.pico_board.specs.declared.Window.{Window}
use Rattle.uf2_place.specs.declared.block.Uf2.{Uf2}
use Rattle.uf2_place.specs.Placement.{AreBlocks, IsBlockOf, final_steps, first_in, gated_steps, grown, in_turn, is_whole_download, later_steps, numbers_of, own_steps, download_steps}

-- the steps of blocks and then others
pub in_turn-append : (steps : List Uf2 → Uf2 → List Step) (before xs ys : List Uf2)
    → in_turn steps before (xs ++ ys) ≡ in_turn steps before xs ++ in_turn steps (before ++ xs) ys
in_turn-append steps before [] ys = ap (λ (bs : List Uf2). in_turn steps bs ys) (sym (append-nil before))
in_turn-append steps before (x ∷ xs) ys =
    ap (λ (rest : List Step). steps before x ++ rest) (in_turn-append steps (before ++ x ∷ []) xs ys
    ∙ ap (λ (bs : List Uf2). in_turn steps (before ++ x ∷ []) xs ++ in_turn steps bs ys) (append_assoc before
    (x ∷ []) xs))
    ∙ sym (append_assoc (steps before x) (in_turn steps (before ++ x ∷ []) xs) (in_turn steps (before ++ x ∷ xs) ys))

pub numbers-below : (family count : ℕ) (blocks : List Uf2) → AllByRecursion (IsBlockOf family count) blocks
    → AllByRecursion (λ i. i < count) (numbers_of blocks)
numbers-below family count [] each = tt
numbers-below family count (b ∷ bs) each =
    (omega (arith, each.0.is.number, each.0.same_count), numbers-below family count bs each.1)

-- there are no more blocks than their count says
pub few-blocks : (t : Target) (family count : ℕ) (blocks : List Uf2) → AreBlocks t family count blocks
    → length blocks ≤ count
few-blocks t family count blocks are =
    omega (
      arith,
      length-map blocks (λ (b : Uf2). b.number),
      few-numbers count (numbers_of blocks) (numbers-below family count blocks are.each) are.distinct,
    )

-- the first blocks of a download are a download
pub first-blocks : (t : Target) (family count : ℕ) (xs ys : List Uf2) → AreBlocks t family count (xs ++ ys)
    → AreBlocks t family count xs
first-blocks t family count xs ys are = record {
  window = are.window;
  each = AllByRecursion-left (IsBlockOf family count) xs ys are.each;
  distinct = IsDistinct-left (numbers_of xs) (numbers_of ys)
      (subst (IsDistinct nat_eq) (map-append (λ (b : Uf2). b.number) xs ys) are.distinct);
}

-- blocks to which others may be added are not whole
pub not-whole : (family count : ℕ) (xs : List Uf2) → AllByRecursion (IsBlockOf family count) xs → length xs < count
    → is_whole_download xs ≡ false
not-whole family count [] each few = refl
not-whole family count (x ∷ xs) each few =
    grind (arith, nat_tests, each.0.same_count, few)

-- the steps of more blocks, of which the first are not whole, are those of the first and then others
pub record Grows (t : Target) (xs ys : List Uf2) : Type 0 where
  pub more : List Step
  pub whole : download_steps t (xs ++ ys) ≡ download_steps t xs ++ more

pub gated-more : (w : Window) (x : Uf2) (xs ys : List Uf2) → is_whole_download (x ∷ xs) ≡ false
    → gated_steps w (x ∷ xs ++ ys) ≡ gated_steps w (x ∷ xs)
    ++ (in_turn (later_steps w) (x ∷ xs) ys
    ++ (if is_whole_download (x ∷ xs ++ ys) then final_steps w (x ∷ xs ++ ys) else []))
gated-more w x xs ys few =
    let front = in_turn (later_steps w) [] (x ∷ xs) in
    let next = in_turn (later_steps w) (x ∷ xs) ys in
    let end = if is_whole_download (x ∷ xs ++ ys) then final_steps w (x ∷ xs ++ ys) else [] in
    let here : front ++ (if is_whole_download (x ∷ xs) then final_steps w (x ∷ xs) else []) ≡ front =
    ap (λ c. front ++ (if c then final_steps w (x ∷ xs) else [])) few ∙ append-nil front in
    ap (λ (steps : List Step). Erase (first_in w) ∷ steps)
    (ap (λ (steps : List Step). steps ++ end) (in_turn-append (later_steps w) [] (x ∷ xs) ys)
    ∙ append_assoc front next end ∙ ap (λ (steps : List Step). steps ++ (next ++ end)) (sym here))

pub grows : (t : Target) (xs ys : List Uf2) → is_whole_download xs ≡ false → Grows t xs ys
grows t [] ys few = record { more = download_steps t ys; whole = refl }
grows t (x ∷ xs) ys few = by t.gated refl
  where
    by : (gated : Bool) → t.gated ≡ gated → Grows t (x ∷ xs) ys
    by true is = record {
      more = in_turn (later_steps t.window) (x ∷ xs) ys
          ++ (if is_whole_download (x ∷ xs ++ ys) then final_steps t.window (x ∷ xs ++ ys) else []);
      whole = rw is (gated-more t.window x xs ys few);
    }
    by false is = record {
      more = in_turn (own_steps t.window) (x ∷ xs) ys;
      whole = rw is (in_turn-append (own_steps t.window) [] (x ∷ xs) ys);
    }

-- what stands behind the steps of the first blocks is what the list grows by
pub grown-is : (t : Target) (xs ys : List Uf2) (more : List Step)
    → download_steps t (xs ++ ys) ≡ download_steps t xs ++ more
    → grown t xs (xs ++ ys) ≡ more
grown-is t xs ys more whole = ap (drop (length (download_steps t xs))) whole
    ∙ drop-append_seam (download_steps t xs) more

pub grow : (t : Target) (family count : ℕ) (xs ys : List Uf2) → AreBlocks t family count (xs ++ ys)
    → download_steps t (xs ++ ys) ≡ download_steps t xs ++ grown t xs (xs ++ ys)
grow t family count xs [] are =
    let same : download_steps t (xs ++ []) ≡ download_steps t xs ++ [] = ap (download_steps t) (append-nil xs)
    ∙ sym (append-nil (download_steps t xs)) in
    same ∙ ap (λ (steps : List Step). download_steps t xs ++ steps) (sym (grown-is t xs [] [] same))
grow t family count xs (y ∷ ys) are =
    let few : length xs < count =
    omega (arith, few-blocks t family count (xs ++ y ∷ ys) are, length-append xs (y ∷ ys)) in
    let first = first-blocks t family count xs (y ∷ ys) are in
    let g = grows t xs (y ∷ ys) (not-whole family count xs first.each few) in
    g.whole ∙ ap (λ (steps : List Step). download_steps t xs ++ steps) (sym (grown-is t xs (y ∷ ys) g.more g.whole))

-- all numbers are there exactly where each is
pub whole-has_all : (t : Target) (family count : ℕ) (blocks : List Uf2) → AreBlocks t family count blocks → 1 ≤ count
    → (is_whole_download blocks ≡ true) ↔ ((i : ℕ) → i < count → is_member nat_eq (numbers_of blocks) i ≡ true)
whole-has_all t family count [] are some = (λ whole. cc whole, λ there. cc (there 0 some))
whole-has_all t family count (b ∷ bs) are some =
    let size = length-map (b ∷ bs) (λ (b : Uf2). b.number) in
    let same = are.each.0.same_count in
    let few = few-blocks t family count (b ∷ bs) are in (
      λ whole. each-number count (numbers_of (b ∷ bs)) (numbers-below family count (b ∷ bs) are.each) are.distinct
          (grind (arith, nat_tests, whole, same, size)),
      λ there. grind (arith, nat_tests, same, size, few, all-numbers count (numbers_of (b ∷ bs)) there),
    )
