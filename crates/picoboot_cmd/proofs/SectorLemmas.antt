-- The rights to sectors one after another.
use Rattle.std.proofs.Common.{◌≡◌, ℕ, zero, suc, ◌+◌, ◌-◌, ◌*◌, ◌/◌, ◌<◌, ◌≤◌, ◌&&◌, Bool, true, false, cond, None, refl, sym, subst, ◌∙◌, ap, arith, inl, inr}
use Rattle.std.specs.Prelude.{Option}
use Rattle.std.proofs.lemmas.Bool.{cases_eq, ne_eqb}
use Rattle.part_table.specs.declared.table.Right.{Right}
use Rattle.part_table.specs.declared.table.Table.{Table}
use Rattle.part_table.specs.Rights.{allowed_by}
use Rattle.picoboot_cmd.specs.Sectors.{all_allowed, range_allowed, touched}

-- without a table all sectors have each right
pub allowed-without : (right : Right) (first n : ℕ) → all_allowed None right first n ≡ true
allowed-without right first zero = refl
allowed-without right first (suc n) = allowed-without right (first + 1) n

pub allowed-none : (t : Option Table) (right : Right) (first n : ℕ) → t ≡ None → true ≡ all_allowed t right first n
allowed-none t right first n none =
    subst (λ t. true ≡ all_allowed t right first n) (sym none) (sym (allowed-without right first n))

module _ (t : Option Table) (right : Right) (sector end : ℕ) where
  -- the first of the sectors, and those behind it
  pub allowed-first : sector < end
      → all_allowed t right sector (end - sector)
      ≡ (allowed_by t sector right && all_allowed t right (sector + 1) (end - (sector + 1)))
  allowed-first lt =
      let more : end - sector ≡ suc (end - (sector + 1)) = omega arith in
      ap (λ n. all_allowed t right sector n) more

  -- no sector is left
  pub allowed-end : end - sector ≡ 0 → all_allowed t right sector (end - sector) ≡ true
  allowed-end none = ap (λ n. all_allowed t right sector n) none

both : (a b : Bool) → (a && b) ≡ true → (a ≡ true) × (b ≡ true)
both true b e = (refl, e)
both false b e = cc

module _ (t : Option Table) (right : Right) where
  -- each of the sectors has the right
  each : (first n : ℕ) → all_allowed t right first n ≡ true → (j : ℕ) → first ≤ j → j < first + n
      → allowed_by t j right ≡ true
  each first zero all j low high = absurd (omega arith)
  each first (suc n) all j low high =
      let parts = both _ _ all in
      elim (cases_eq j first) [
        | inl same ↦ subst (λ s. allowed_by t s right ≡ true) (sym same) (parts.0)
        | inr ne ↦ each (first + 1) n (parts.1) j (omega arith) (omega arith)
      ]

  all_from : (first n : ℕ) → ((j : ℕ) → first ≤ j → j < first + n → allowed_by t j right ≡ true)
      → all_allowed t right first n ≡ true
  all_from first zero each = refl
  all_from first (suc n) each =
      ap (λ b. b && all_allowed t right (first + 1) n) (each first (omega arith) (omega arith))
      ∙ all_from (first + 1) n (λ j low high. each j (omega arith) (omega arith))

  -- the sector of each byte of a range has the right
  pub range-bytes : (at size : ℕ) → range_allowed t right at size ≡ true → (i : ℕ) → i < size
      → allowed_by t ((at + i) / 4096) right ≡ true
  range-bytes at size all i lt =
      let some : touched at size ≡ (at + size - 1) / 4096 + 1 - at / 4096 = touched_some at size (omega arith) in
      each (at / 4096) (touched at size) all ((at + i) / 4096) (omega arith) (omega (arith, some))
    where
      touched_some : (at size : ℕ) → 0 < size → touched at size ≡ (at + size - 1) / 4096 + 1 - at / 4096
      touched_some at size some =
          ap (λ b. cond b 0 ((at + size - 1) / 4096 + 1 - at / 4096)) (ne_eqb size 0 (omega arith))

  pub range-from_bytes : (at size : ℕ) → ((i : ℕ) → i < size → allowed_by t ((at + i) / 4096) right ≡ true)
      → range_allowed t right at size ≡ true
  range-from_bytes at size bytes = elim (cases_eq size 0) [
    | inl none ↦ ap (λ n. all_allowed t right (at / 4096) (touched at n)) none
    | inr some ↦
        let count : touched at size ≡ (at + size - 1) / 4096 + 1 - at / 4096 =
        ap (λ b. cond b 0 ((at + size - 1) / 4096 + 1 - at / 4096)) (ne_eqb size 0 some) in
        all_from (at / 4096) (touched at size) (λ j low high.
        subst (λ s. allowed_by t s right ≡ true) (omega (arith, low))
        (bytes (4096 * j - at) (omega (arith, high, count, some))))
  ]
