-- The unit that takes a family is that of the first partition that may load it.
use Rattle.std.proofs.Common.{◌≡◌, ◌≢◌, ℕ, zero, suc, ◌+◌, ◌<◌, ◌≤◌, ◌&&◌, Bool, true, false, cond, List, ◌∷◌, length, filter, find, slice_get, Option, Some, arith, refl, sym, ap, ◌∙◌, subst, inl, inr}
use Rattle.std.specs.Prelude.{option_map}
use Rattle.std.specs.List.{range_with_len}
use Rattle.std.proofs.lemmas.Bool.{cases_eq, cases_lt, eqb-true}
use Rattle.std.proofs.lemmas.Option.{same_Some}
use Rattle.part_table.specs.declared.partition.Partition.{Partition}
use Rattle.part_table.specs.declared.table.Table.{Table}
use Rattle.part_table.specs.Families.{accepts}
use Rattle.part_table.specs.Fields.{link_type}
use Rattle.part_table.specs.Links.{is_second}
use Rattle.part_table.specs.Partitions.{part_at}
use Rattle.part_table.proofs.TestLemmas.{differ, mapped_some, never_true, not_true}
use Rattle.slot_choice.specs.declared.unit.SlotUnit.{SlotUnit}
use Rattle.slot_choice.specs.LoadUnits.{accepting_unit, begins_load_unit}
use Rattle.slot_choice.specs.Units.{parts_where, unit_of}
use Rattle.law_targets.specs.Loads.{IsLoadPart}
use Rattle.law_targets.proofs.PairLemmas.{part-is, part-there, part-within}
use Rattle.law_targets.proofs.WordLemmas.{accepts-words, words-accepts}

-- i is the first of n numbers from a on that passes both tests
pub record IsFirst (p q : ℕ → Bool) (a n i : ℕ) : Type 0 where
  pub low : a ≤ i
  pub high : i < a + n
  pub kept : q i ≡ true
  pub passes : p i ≡ true
  pub none : (j : ℕ) → a ≤ j → j < i → (q j && p j) ≡ false

module _ (p q : ℕ → Bool) where
  abbrev sought : ℕ → ℕ → Option ℕ
  sought a n = find p (filter q (range_with_len a n))

  later : (a n i : ℕ) → (q a && p a) ≡ false → IsFirst p q (a + 1) n i → IsFirst p q a (suc n) i
  later a n i fails is =
      let low = is.low in
      let high = is.high in
      record {
        low = omega (arith, low);
        high = omega (arith, high);
        kept = is.kept;
        passes = is.passes;
        none = λ j le lt. elim (cases_eq a j) [
          | inl same ↦ subst (λ k. (q k && p k) ≡ false) same fails
          | inr other ↦ is.none j (omega (arith, le, other)) lt
        ];
      }

  pub find-first : (a n i : ℕ) → sought a n ≡ Some i → IsFirst p q a n i
  find-first a zero i e = cc
  find-first a (suc n) i e = by (find-first (a + 1) n i) (q a) refl (p a) refl e
    where
      by : (sought (a + 1) n ≡ Some i → IsFirst p q (a + 1) n i)
          → (x : Bool) → q a ≡ x → (y : Bool) → p a ≡ y
          → find p (cond x (a ∷ filter q (range_with_len (a + 1) n)) (filter q (range_with_len (a + 1) n))) ≡ Some i
          → IsFirst p q a (suc n) i
      by rest false kept y passes h = later a n i (rw kept refl) (rest h)
      by rest true kept true passes h =
          let here : cond (p a) (Some a) (find p (filter q (range_with_len (a + 1) n))) ≡ Some i = h in
          let same : a ≡ i =
          same_Some a i
          (sym (ap (λ b. cond b (Some a) (find p (filter q (range_with_len (a + 1) n)))) passes) ∙ here) in
          record {
            low = omega (arith, same);
            high = omega (arith, same);
            kept = subst (λ k. q k ≡ true) same kept;
            passes = subst (λ k. p k ≡ true) same passes;
            none = λ j le lt. absurd (omega (arith, same, le, lt));
          }
      by rest true kept false passes h =
          let here : cond (p a) (Some a) (find p (filter q (range_with_len (a + 1) n))) ≡ Some i = h in
          later a n i (rw (kept, passes) refl)
          (rest (sym (ap (λ b. cond b (Some a) (find p (filter q (range_with_len (a + 1) n)))) passes) ∙ here))

  pub first-find : (a n i : ℕ) → IsFirst p q a n i → sought a n ≡ Some i
  first-find a zero i is = absurd (omega (arith, is.low, is.high))
  first-find a (suc n) i is = elim (cases_eq a i) [
    | inl same ↦ here same
    | inr other ↦ there other (first-find (a + 1) n i (next other))
  ]
    where
      next : (a ≡ i → ⊥) → IsFirst p q (a + 1) n i
      next other =
          let low = is.low in
          let high = is.high in
          record {
            low = omega (arith, low, other);
            high = omega (arith, high);
            kept = is.kept;
            passes = is.passes;
            none = λ j le lt. is.none j (omega (arith, le)) lt;
          }

      here : a ≡ i → sought a (suc n) ≡ Some i
      here same =
          ap (λ b. find p (cond b (a ∷ filter q (range_with_len (a + 1) n)) (filter q (range_with_len (a + 1) n))))
          (ap q same ∙ is.kept)
          ∙ ap (λ b. cond b (Some a) (find p (filter q (range_with_len (a + 1) n)))) (ap p same ∙ is.passes)
          ∙ ap Some same

      there : (a ≡ i → ⊥) → sought (a + 1) n ≡ Some i → sought a (suc n) ≡ Some i
      there other rest =
          let low = is.low in
          by (q a) refl (p a) refl (is.none a (omega arith) (omega (arith, low, other)))
        where
          by : (x : Bool) → q a ≡ x → (y : Bool) → p a ≡ y → (q a && p a) ≡ false → sought a (suc n) ≡ Some i
          by false kept y passes fails = ap (λ b. find p
              (cond b (a ∷ filter q (range_with_len (a + 1) n)) (filter q (range_with_len (a + 1) n)))) kept ∙ rest
          by true kept false passes fails =
              ap (λ b. find p
              (cond b (a ∷ filter q (range_with_len (a + 1) n)) (filter q (range_with_len (a + 1) n)))) kept
              ∙ ap (λ b. cond b (Some a) (find p (filter q (range_with_len (a + 1) n)))) passes ∙ rest
          by true kept true passes fails =
              let both : (q a && p a) ≡ true = rw (kept, passes) refl in cc (both, fails)

module _ (t : Table) (family : ℕ) where
  abbrev parts : List Partition
  parts = t.parts.items

  abbrev takes : ℕ → Bool
  takes i = accepts (part_at parts i) family

  abbrev begins : ℕ → Bool
  begins i = begins_load_unit (part_at parts i)

  begins-no_second : (x : Partition) → begins_load_unit x ≡ true → link_type x ≢ 1
  begins-no_second x e = differ (link_type x) 1 (not_true (is_second x) e)

  no_second-begins : (x : Partition) → link_type x ≢ 1 → begins_load_unit x ≡ true
  no_second-begins x other =
      let no : is_second x ≡ false =
      never_true (is_second x) (λ yes. other (eqb-true (link_type x) 1 yes)) in
      rw no refl

  both : (x y : Bool) → x ≡ true → y ≡ true → (x && y) ≡ true
  both x y a b = rw (a, b) refl

  first-load : (i : ℕ) → IsFirst takes begins 0 (length parts) i → IsLoadPart t family i (part_at parts i)
  first-load i is =
      let high = is.high in
      record {
        stands = part-there t i (omega (arith, high));
        may = record {
          first = begins-no_second (part_at parts i) is.kept;
          accepts = accepts-words (part_at parts i) family is.passes;
        };
        earliest = λ j x lt at may.
            let same : part_at parts j ≡ x = part-is t j x at in
            let yes : (begins j && takes j) ≡ true =
            both (begins j) (takes j) (ap begins_load_unit same ∙ no_second-begins x may.first)
            (ap (λ y. accepts y family) same ∙ words-accepts x family may.accepts) in
            let no : (begins j && takes j) ≡ false = is.none j (omega arith) lt in
            cc (yes, no);
      }

  load-first : (i : ℕ) (x : Partition) → IsLoadPart t family i x → IsFirst takes begins 0 (length parts) i
  load-first i x load =
      let within : i < length parts = part-within t i x load.stands in
      let same : part_at parts i ≡ x = part-is t i x load.stands in
      record {
        low = omega arith;
        high = omega (arith, within);
        kept = ap begins_load_unit same ∙ no_second-begins x load.may.first;
        passes = ap (λ y. accepts y family) same ∙ words-accepts x family load.may.accepts;
        none = λ j le lt. never_true (begins j && takes j)
            (λ met. again j lt within met (begins j) refl (takes j) refl);
      }
    where
      again : (j : ℕ) → j < i → i < length parts → (begins j && takes j) ≡ true → (a : Bool) → begins j ≡ a
          → (b : Bool) → takes j ≡ b → ⊥
      again j lt within met true kept true passes =
          load.earliest j (part_at parts j) lt (part-there t j (omega (arith, lt, within)))
          (record {
            first = begins-no_second (part_at parts j) kept;
            accepts = accepts-words (part_at parts j) family passes;
          })
      again j lt within met false kept b passes = let no : (begins j && takes j) ≡ false = rw kept refl in cc (met, no)
      again j lt within met true kept false passes =
          let no : (begins j && takes j) ≡ false = rw (kept, passes) refl in cc (met, no)

  -- the unit of a family is that of its partition
  pub accepting-words : (u : SlotUnit) → accepting_unit parts family ≡ Some u
      → (i : ℕ) × IsLoadPart t family i (part_at parts i) × (u ≡ unit_of parts i)
  accepting-words u e =
      let found : (i : ℕ) × (find takes (parts_where begins_load_unit parts) ≡ Some i) × (u ≡ unit_of parts i) =
      mapped_some (unit_of parts) (find takes (parts_where begins_load_unit parts)) u e in
      (found.0, first-load found.0 (find-first takes begins 0 (length parts) found.0 found.1), found.2)

  pub words-accepting : (i : ℕ) (x : Partition) → IsLoadPart t family i x
      → accepting_unit parts family ≡ Some (unit_of parts i)
  words-accepting i x load =
      ap (option_map (unit_of parts)) (first-find takes begins 0 (length parts) i (load-first i x load))

  -- one partition takes the family
  pub one-load : (i j : ℕ) (x y : Partition) → IsLoadPart t family i x → IsLoadPart t family j y → i ≡ j
  one-load i j x y one other = elim (cases_lt i j) [
    | inl lt ↦ absurd (other.earliest i x lt one.stands one.may)
    | inr ge ↦ elim (cases_lt j i) [
      | inl lt ↦ absurd (one.earliest j y lt other.stands other.may)
      | inr le ↦ omega (arith, ge, le)
    ]
  ]

  pub one-part : (i j : ℕ) (x y : Partition) → IsLoadPart t family i x → IsLoadPart t family j y → x ≡ y
  one-part i j x y one other =
      same_Some x y (sym one.stands ∙ ap (slice_get parts) (one-load i j x y one other) ∙ other.stands)
