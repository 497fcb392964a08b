-- A binary and a spec have the first fault that the rules name, or none where the binary is sealed.
use Rattle.std.proofs.Common.{◌≡◌, ℕ, suc, ◌+◌, ◌*◌, ◌≤◌, ◌==◌, ◌&&◌, ◌||◌, Bool, true, false, cond, nat_le, nat_lt, if◌then◌else◌, List, [], ◌∷◌, length, Option, Some, None, Result, Ok, Err, All, refl, sym, ◌∙◌, ap, subst, inl, inr, arith}
use Rattle.std.specs.Prelude.{AllPairs}
use Rattle.std.specs.Option.{option_or}
use Rattle.std.specs.List.{list_all}
use Rattle.std.proofs.lemmas.Bool.{ltb-true, ltb-false, eqb-true, eqb-false, leb-true, le-leb, and_parts, and_from}
use Rattle.std.proofs.lemmas.List.Elements.{All-cons, All-head, All-tail}
use Rattle.std.proofs.lemmas.List.Kept.{AllPairs-cons}
use Rattle.image_def.specs.declared.started.Started.{Started}
use Rattle.otp_roll.specs.Rows.{AreRowsApart, AreRollbackRows}
use Rattle.otp_roll.specs.declared.rows.TheConstants.{FIRST_ROW, LAST_ROW}
use Rattle.image_check.specs.declared.why.Why.{Why}
use Rattle.image_pack.specs.declared.spec.SealError.{SealError}
use Rattle.image_pack.specs.declared.spec.SealError.TheVariants.{BadSpec, Unsealable, TooLarge, BlockTooLong, NotBootable, Displaced}
use Rattle.image_pack.specs.declared.spec.SealSpec.{SealSpec}
use Rattle.image_pack.specs.declared.spec.SpecField.TheVariants.{Rollback, Rows}
use Rattle.image_def.specs.declared.images.TheConstants.{MOST_BLOCK_BYTES}
use Rattle.pico_board.specs.declared.window.TheConstants.{MOST_FLASH_BYTES}
use Rattle.image_pack.specs.Faults.{IsRightRollback, IsRightSpec, IsSealFault, IsSealable, IsSealed, IsShort, new_block_size, block_offset}
use Rattle.image_pack.specs.Filling.{whole_sectors}
use Rattle.image_pack.specs.Sealing.{parts_in, sealed_text}
use Rattle.image_pack.proofs.FaultLemmas.{one-fault, no-fault, sealed-by, fault-by}
use Rattle.cli_tools.specs.Seals.{may_list, is_apart, all_apart, are_listed, goes_with, start_error, alone, sealed_error, binary_error, seal_error}

abbrev MayList : ℕ → Type 0
MayList row = (FIRST_ROW ≤ row) × (row ≤ LAST_ROW)

-- a test that each element passes, by what it tells
tested : (p : ℕ → Bool) (P : ℕ → Type 0) → ((x : ℕ) → p x ≡ true → P x) → (xs : List ℕ) → list_all p xs ≡ true
    → All P xs
tested p P tells [] h = λ k d lt. absurd (omega (arith, lt))
tested p P tells (x ∷ xs) h =
    let both = and_parts (p x) (list_all p xs) h in
    All-cons P x xs (tells x both.0) (tested p P tells xs both.1)

passes : (p : ℕ → Bool) (P : ℕ → Type 0) → ((x : ℕ) → P x → p x ≡ true) → (xs : List ℕ) → All P xs
    → list_all p xs ≡ true
passes p P tells [] all = refl
passes p P tells (x ∷ xs) all =
    and_from (p x) (list_all p xs) (tells x (All-head P x xs all)) (passes p P tells xs (All-tail P x xs all))

in-range : (row : ℕ) → may_list row ≡ true → MayList row
in-range row h =
    let both = and_parts (nat_le FIRST_ROW row) (nat_le row LAST_ROW) h in
    (leb-true FIRST_ROW row both.0, leb-true row LAST_ROW both.1)

range-in : (row : ℕ) → MayList row → may_list row ≡ true
range-in row is =
    and_from (nat_le FIRST_ROW row) (nat_le row LAST_ROW) (le-leb FIRST_ROW row is.0) (le-leb row LAST_ROW is.1)

apart-told : (row other : ℕ) → is_apart row other ≡ true → AreRowsApart row other
apart-told row other h = go (nat_le (row + 3) other) refl h
  where
    go : (t : Bool) → nat_le (row + 3) other ≡ t → (t || nat_le (other + 3) row) ≡ true → AreRowsApart row other
    go true is e = inl (leb-true (row + 3) other is)
    go false is e = inr (leb-true (other + 3) row e)

told-apart : (row other : ℕ) → AreRowsApart row other → is_apart row other ≡ true
told-apart row other (inl far) = ap (λ t. t || nat_le (other + 3) row) (le-leb (row + 3) other far)
told-apart row other (inr far) = go (nat_le (row + 3) other)
  where
    go : (t : Bool) → (t || nat_le (other + 3) row) ≡ true
    go true = refl
    go false = le-leb (other + 3) row far

pairs-told : (rows : List ℕ) → all_apart rows ≡ true → AllPairs AreRowsApart rows
pairs-told [] h = λ i j d below lt. absurd (omega (arith, lt))
pairs-told (row ∷ rows) h =
    let both = and_parts (list_all (is_apart row) rows) (all_apart rows) h in
    AllPairs-cons AreRowsApart row rows (tested (is_apart row) (AreRowsApart row) (apart-told row) rows both.0)
    (pairs-told rows both.1)

told-pairs : (rows : List ℕ) → AllPairs AreRowsApart rows → all_apart rows ≡ true
told-pairs [] pairs = refl
told-pairs (row ∷ rows) pairs =
    and_from (list_all (is_apart row) rows) (all_apart rows)
    (passes (is_apart row) (AreRowsApart row) (told-apart row) rows
    (λ k d lt. pairs 0 (suc k) d (omega arith) (omega (arith, lt))))
    (told-pairs rows (λ i j d below lt. pairs (suc i) (suc j) d (omega (arith, below)) (omega (arith, lt))))

-- rows pass the test exactly where they may be listed
listed-rows : (rows : List ℕ) → are_listed rows ≡ true → AreRollbackRows rows
listed-rows rows h =
    let first = and_parts (nat_le (length rows) 32) (list_all may_list rows && all_apart rows) h in
    let both = and_parts (list_all may_list rows) (all_apart rows) first.1 in
    record {
      few = leb-true (length rows) 32 first.0;
      in_range = tested may_list MayList in-range rows both.0;
      apart = pairs-told rows both.1;
    }

rows-listed : (rows : List ℕ) → AreRollbackRows rows → are_listed rows ≡ true
rows-listed rows are =
    and_from (nat_le (length rows) 32) (list_all may_list rows && all_apart rows) (le-leb (length rows) 32 are.few)
    (and_from (list_all may_list rows) (all_apart rows) (passes may_list MayList range-in rows are.in_range)
    (told-pairs rows are.apart))

goes-right : (rollback : Option ℕ) (rows : List ℕ) → goes_with rollback rows ≡ true → IsRightRollback rollback rows
goes-right None [] h = refl
goes-right None (row ∷ rows) h = cc
goes-right (Some version) [] h = cc
goes-right (Some version) (row ∷ rows) h =
    (λ (e : (row ∷ rows) ≡ []). cc, leb-true version (24 * length (row ∷ rows)) h)

right-goes : (rollback : Option ℕ) (rows : List ℕ) → IsRightRollback rollback rows → goes_with rollback rows ≡ true
right-goes None [] is = refl
right-goes None (row ∷ rows) is = let e : (row ∷ rows) ≡ [] = is in cc
right-goes (Some version) [] is = absurd (is.0 refl)
right-goes (Some version) (row ∷ rows) is = le-leb version (24 * length (row ∷ rows)) is.1

-- the first error is a fault by the rules, or there is none and the binary is sealed
pub data IsJudged (binary : List ℕ) (spec : SealSpec) : Option SealError → Type 0 where
  is_sealed : IsSealed binary spec → IsJudged binary spec None
  has_fault : (error : SealError) → IsSealFault binary spec error → IsJudged binary spec (Some error)

module _ (binary : List ℕ) (spec : SealSpec) where
  start-judged : IsShort binary spec → (r : Result Started Why) → alone spec (sealed_text binary spec) ≡ r
      → IsJudged binary spec (start_error (block_offset binary) r)
  start-judged short (Err why) is = has_fault (NotBootable why) (fault-by binary spec short (NotBootable why) is)
  start-judged short (Ok started) is = go (started.block == block_offset binary) refl
    where
      go : (t : Bool) → (started.block == block_offset binary) ≡ t
          → IsJudged binary spec (cond t None (Some Displaced))
      go true same =
          is_sealed (sealed-by binary spec short (started, is, eqb-true started.block (block_offset binary) same))
      go false other =
          has_fault Displaced (fault-by binary spec short Displaced
          (started, is, eqb-false started.block (block_offset binary) other))

  size-judged : IsSealable binary spec → IsJudged binary spec (sealed_error binary spec)
  size-judged sealable = go (nat_lt MOST_FLASH_BYTES (length (sealed_text binary spec))) refl
    where
      block : length (sealed_text binary spec) ≤ MOST_FLASH_BYTES → (t : Bool)
          → nat_lt MOST_BLOCK_BYTES (new_block_size binary spec) ≡ t
          → IsJudged binary spec (cond t (Some (BlockTooLong (new_block_size binary spec)))
          (start_error (block_offset binary) (alone spec (sealed_text binary spec))))
      block small true long =
          has_fault (BlockTooLong (new_block_size binary spec))
          (sealable, small, ltb-true MOST_BLOCK_BYTES (new_block_size binary spec) long, refl)
      block small false short =
          start-judged
          (record {
            sealable = sealable;
            image = small;
            block = ltb-false MOST_BLOCK_BYTES (new_block_size binary spec) short;
          })
          (alone spec (sealed_text binary spec)) refl

      go : (t : Bool) → nat_lt MOST_FLASH_BYTES (length (sealed_text binary spec)) ≡ t
          → IsJudged binary spec (cond t (Some TooLarge)
          (if nat_lt MOST_BLOCK_BYTES (new_block_size binary spec) then Some (BlockTooLong (new_block_size binary spec))
          else start_error (block_offset binary) (alone spec (sealed_text binary spec))))
      go true large =
          has_fault TooLarge (sealable, ltb-true MOST_FLASH_BYTES (length (sealed_text binary spec)) large)
      go false small =
          block (ltb-false MOST_FLASH_BYTES (length (sealed_text binary spec)) small)
          (nat_lt MOST_BLOCK_BYTES (new_block_size binary spec))
          refl

  binary-judged : {Parts : Type 0} (r : Result Parts Why)
      → ((parts : Parts) → r ≡ Ok parts → IsSealable binary spec)
      → ((why : Why) → r ≡ Err why → IsSealFault binary spec (Unsealable why))
      → IsJudged binary spec (binary_error binary spec r)
  binary-judged (Ok parts) sealable fails = size-judged (sealable parts refl)
  binary-judged (Err why) sealable fails = has_fault (Unsealable why) (fails why refl)

  pub seal-judged : IsJudged binary spec (seal_error binary spec)
  unfolding seal_error
  seal-judged = go (are_listed spec.rows.items) refl
    where
      together : AreRollbackRows spec.rows.items → (t : Bool) → goes_with spec.rollback spec.rows.items ≡ t
          → IsJudged binary spec (option_or (cond t None (Some (BadSpec Rollback)))
          (binary_error binary spec (parts_in spec.cpu (whole_sectors binary))))
      together rows true is =
          let right : IsRightSpec spec =
          record { rows = rows; rollback = goes-right spec.rollback spec.rows.items is } in
          binary-judged (parts_in spec.cpu (whole_sectors binary))
          (λ parts read. record { right = right; parts = parts; read = read }) (λ why read. (right, read))
      together rows false is =
          has_fault (BadSpec Rollback)
          (rows, λ right. let e : true ≡ false = sym (right-goes spec.rollback spec.rows.items right) ∙ is in cc)

      go : (t : Bool) → are_listed spec.rows.items ≡ t
          → IsJudged binary spec (option_or (cond t
          (if goes_with spec.rollback spec.rows.items then None else Some (BadSpec Rollback)) (Some (BadSpec Rows)))
          (binary_error binary spec (parts_in spec.cpu (whole_sectors binary))))
      go true is =
          together (listed-rows spec.rows.items is) (goes_with spec.rollback spec.rows.items) refl
      go false is =
          has_fault (BadSpec Rows)
          (λ rows. let e : true ≡ false = sym (rows-listed spec.rows.items rows) ∙ is in cc)

  -- a fault by the rules is the first error
  pub fault-first : (error : SealError) → IsSealFault binary spec error → seal_error binary spec ≡ Some error
  fault-first error fault = go (seal_error binary spec) seal-judged
    where
      go : (o : Option SealError) → IsJudged binary spec o → o ≡ Some error
      go None (is_sealed sealed) = absurd (no-fault binary spec sealed error fault)
      go (Some _) (has_fault other is) = ap Some (one-fault binary spec other error is fault)

  -- what is sealed has no error
  pub sealed-none : IsSealed binary spec → seal_error binary spec ≡ None
  sealed-none sealed = go (seal_error binary spec) seal-judged
    where
      go : (o : Option SealError) → IsJudged binary spec o → o ≡ None
      go None (is_sealed _) = refl
      go (Some _) (has_fault error is) = absurd (no-fault binary spec sealed error is)

  -- the first error is a fault by the rules
  pub first-fault : (error : SealError) → seal_error binary spec ≡ Some error → IsSealFault binary spec error
  first-fault error is = go (seal_error binary spec) seal-judged is
    where
      go : (o : Option SealError) → IsJudged binary spec o → o ≡ Some error → IsSealFault binary spec error
      go None (is_sealed _) e = cc
      go (Some _) (has_fault other fault) e =
          let same : other ≡ error = cc in subst (IsSealFault binary spec) same fault

  -- without one the binary is sealed
  pub none-sealed : seal_error binary spec ≡ None → IsSealed binary spec
  none-sealed is = go (seal_error binary spec) seal-judged is
    where
      go : (o : Option SealError) → IsJudged binary spec o → o ≡ None → IsSealed binary spec
      go None (is_sealed sealed) e = sealed
      go (Some _) (has_fault other fault) e = cc
