-- Owners, and the data of an owner.
use Rattle.std.proofs.Common.{◌≡◌, ◌≢◌, ◌↔◌, ℕ, zero, suc, ◌+◌, add-one, ◌<◌, ◌≤◌, ◌==◌, ◌&&◌, Bool, true, false, cond, if◌then◌else◌, List, [], ◌∷◌, ◌++◌, length, map, filter, refl, sym, ◌∙◌, ap, subst, arith, Option, None, Some, option_map, unwrap_or, slice_get, get_or, inl, inr}
use Rattle.std.specs.List.{All, range_with_len}
use Rattle.std.proofs.lemmas.Bool.{cases_lt, eqb-true, eq-eqb}
use Rattle.std.proofs.lemmas.Bool.Decides.{nat_tests}
use Rattle.std.proofs.lemmas.List.{length-append, length-map}
use Rattle.std.proofs.lemmas.Option.{slice_get-map, slice_get-get_or}
use Rattle.part_table.specs.declared.partition.Partition.{Partition}
use Rattle.part_table.specs.declared.table.Table.{Table}
use Rattle.part_table.specs.Faults.{link_fault}
use Rattle.part_table.specs.Fields.{link_type, link_value}
use Rattle.part_table.specs.Links.{is_owned, owner_of, pair_of}
use Rattle.part_table.specs.Partitions.{part_at}
use Rattle.part_table.specs.Sound.{IsSoundTable}
use Rattle.part_table.specs.Windows.{partition_window}
use Rattle.part_table.proofs.LinkLemmas.{right_owner_of, second_found}
use Rattle.part_table.proofs.TestLemmas.{both_of_two, mapped_some, never_true}
use Rattle.pico_board.specs.Content.{AreApart}
use Rattle.slot_choice.specs.Units.{unit_of, IsMember}
use Rattle.slot_choice.proofs.ListLemmas.{passing-more}
use Rattle.slot_choice.proofs.PartListLemmas.{passing, different, listed}
use Rattle.slot_choice.proofs.UnitLemmas.{units_apart}
use Rattle.owner_data.specs.Owners.{owner_pair, is_owned_by, taken_part, data_parts, IsDataOf}

-- an owner pair, by whether there is an owner
owner_none : (yes : Bool) (v : ℕ) (f : ℕ → ℕ × Option ℕ) → option_map f (if yes then Some v else None) ≡ None
    → yes ≡ false
owner_none true v f e = cc
owner_none false v f e = refl

-- there is no owner pair exactly where there is no owner
pub without_owner : (parts : List Partition) (i : ℕ)
    → (owner_pair parts i ≡ None) ↔ (is_owned (part_at parts i) ≡ false)
without_owner parts i =
    let p : Partition = part_at parts i in (
      owner_none (is_owned p) (link_value p) (λ owner. (owner, pair_of parts owner)),
      λ free. ap (λ b. option_map (λ owner. (owner, pair_of parts owner)) (if b then Some (link_value p) else None))
          free,
    )

-- the owner of an owner pair is right
pub with_owner : (parts : List Partition) → link_fault parts ≡ None → (i o : ℕ) (b : Option ℕ) → i < length parts
    → owner_pair parts i ≡ Some (o, b)
    → (owner_of (part_at parts i) ≡ Some o) × (o < length parts) × (o ≢ i) × (link_type (part_at parts o) ≡ 0)
    × (b ≡ pair_of parts o)
with_owner parts none i o b lt is =
    let found : (v : ℕ) × (owner_of (part_at parts i) ≡ Some v) × ((o, b) ≡ (v, pair_of parts v)) =
    mapped_some (λ owner. (owner, pair_of parts owner)) (owner_of (part_at parts i)) (o, b) is in
    let same : found.0 ≡ o = ap (λ (x : ℕ × Option ℕ). x.0) (sym found.2) in
    let other : b ≡ pair_of parts found.0 = ap (λ (x : ℕ × Option ℕ). x.1) found.2 in
    let owner : owner_of (part_at parts i) ≡ Some o = found.1 ∙ ap Some same in
    let right : (o < length parts) × (o ≢ i) × (link_type (part_at parts o) ≡ 0) =
    right_owner_of parts none i o lt owner in
    (owner, right.0, right.1, right.2, other ∙ ap (pair_of parts) same)

-- a partition is owned by its owner alone
owned_by : (owner : ℕ) (p : Partition) → is_owned_by owner p ≡ true → (is_owned p ≡ true) × (owner_of p ≡ Some owner)
owned_by owner p is =
    let both : (is_owned p ≡ true) × ((link_value p == owner) ≡ true) = both_of_two _ _ is in
    (both.0, ap (λ b. if b then Some (link_value p) else None) both.0 ∙ ap Some (eqb-true _ _ both.1))

owner_is : (yes : Bool) (v o : ℕ) → (if yes then Some v else None) ≡ Some o → (yes && v == o) ≡ true
owner_is true v o e = let same : v ≡ o = cc in eq-eqb v o same
owner_is false v o e = cc

-- an owner does not own itself
pub not_own : (parts : List Partition) → link_fault parts ≡ None → (owner : ℕ) → owner < length parts
    → is_owned_by owner (part_at parts owner) ≡ false
not_own parts none owner lt =
    never_true (is_owned_by owner (part_at parts owner))
    (λ own. (right_owner_of parts none owner owner lt (owned_by owner (part_at parts owner) own).1).1 refl)

-- a partition with an owner is no B
no_second : (type : ℕ) → (type == 2) ≡ true → (type == 1) ≡ false
no_second type two = grind (arith, nat_tests)

-- what is taken of a pair
alone_taken : (parts : List Partition) (second : Bool) (i : ℕ) → pair_of parts i ≡ None → taken_part parts second i ≡ i
alone_taken parts true i none = ap (λ o. unwrap_or o i) none
alone_taken parts false i none = refl

taken_of : (parts : List Partition) (i : ℕ) → i < length parts → (o : Option ℕ) → pair_of parts i ≡ o
    → (unwrap_or o i < length parts) × IsMember (unit_of parts i) (unit_of parts (unwrap_or o i)).a
taken_of parts i lt None is = (lt, inl refl)
taken_of parts i lt (Some b) is =
    ((second_found parts i b is).0, inr (ap (λ o. option_map (λ j. (unit_of parts j).a) o) is))

-- what is taken of a pair is a partition, and a member of the unit of the first
taken : (parts : List Partition) (second : Bool) (i : ℕ) → i < length parts
    → (taken_part parts second i < length parts)
    × IsMember (unit_of parts i) (unit_of parts (taken_part parts second i)).a
taken parts true i lt = taken_of parts i lt (pair_of parts i) refl
taken parts false i lt = (lt, inl refl)

-- the partition that a partition of the data belongs to
record IsListed (parts : List Partition) (owner : ℕ) (second : Bool) (k i j : ℕ) : Type 0 where
  pub place : slice_get (filter (λ l. is_owned_by owner (part_at parts l)) (range_with_len 0 (length parts))) k ≡ Some i
  pub within : i < length parts
  pub owned : is_owned_by owner (part_at parts i) ≡ true
  pub is : j ≡ taken_part parts second i

data_at : (parts : List Partition) (owner : ℕ) (second : Bool) (k j : ℕ)
    → slice_get (data_parts parts owner second) k ≡ Some j
    → (i : ℕ) × IsListed parts owner second k i j
data_at parts owner second k j at =
    let test : ℕ → Bool = λ l. is_owned_by owner (part_at parts l) in
    let numbers : List ℕ = filter test (range_with_len 0 (length parts)) in
    let found : (i : ℕ) × (slice_get numbers k ≡ Some i) × (j ≡ taken_part parts second i) =
    mapped_some (taken_part parts second) (slice_get numbers k) j
    (sym (slice_get-map (taken_part parts second) numbers k) ∙ at) in
    let passes : _ = passing test 0 (length parts) k found.0 found.1 in
    (found.0, record { place = found.1; within = omega (arith, passes.1); owned = passes.2; is = found.2 })

data_of : (parts : List Partition) (owner : ℕ) (second : Bool) (i j : ℕ) → is_owned_by owner (part_at parts i) ≡ true
    → j ≡ taken_part parts second i → IsDataOf parts owner second i j
data_of parts owner second i j own is = record {
  owned = (owned_by owner (part_at parts i) own).1;
  first = λ no. is ∙ ap (λ s. taken_part parts s i) no;
  other = λ b yes pair. is ∙ ap (λ s. taken_part parts s i) yes ∙ ap (λ o. unwrap_or o i) pair;
  alone = λ none. is ∙ alone_taken parts second i none;
}

-- the data of an owner are partitions that it owns or their B's
pub data_listed : (parts : List Partition) (owner : ℕ) (second : Bool) (k j : ℕ)
    → slice_get (data_parts parts owner second) k ≡ Some j
    → (j < length parts) × ((i : ℕ) × (i < length parts) × IsDataOf parts owner second i j)
data_listed parts owner second k j at =
    let of_j : (i : ℕ) × IsListed parts owner second k i j = data_at parts owner second k j at in (
      subst (λ l. l < length parts) (sym of_j.1.is) (taken parts second of_j.0 of_j.1.within).0,
      (of_j.0, of_j.1.within, data_of parts owner second of_j.0 j of_j.1.owned of_j.1.is),
    )

-- of each partition that an owner owns a member is among the owner's data
pub data_whole : (parts : List Partition) (owner : ℕ) (second : Bool) (i : ℕ) → i < length parts
    → owner_of (part_at parts i) ≡ Some owner
    → (k : ℕ) × (j : ℕ) × (slice_get (data_parts parts owner second) k ≡ Some j) × IsDataOf parts owner second i j
data_whole parts owner second i lt is =
    let test : ℕ → Bool = λ l. is_owned_by owner (part_at parts l) in
    let numbers : List ℕ = filter test (range_with_len 0 (length parts)) in
    let own : test i ≡ true = owner_is (is_owned (part_at parts i)) (link_value (part_at parts i)) owner is in
    let at : (k : ℕ) × (slice_get numbers k ≡ Some i) =
    listed test 0 (length parts) i (omega arith) (omega arith) own in (
      at.0,
      taken_part parts second i,
      slice_get-map (taken_part parts second) numbers at.0 ∙ ap (option_map (taken_part parts second)) at.1,
      data_of parts owner second i (taken_part parts second i) own refl,
    )

-- two partitions of the data stand apart
pub data_apart : (t : Table) (n : ℕ) → IsSoundTable t n → (owner : ℕ) (second : Bool) (j k x y : ℕ) → j ≢ k
    → slice_get (data_parts t.parts.items owner second) j ≡ Some x
    → slice_get (data_parts t.parts.items owner second) k ≡ Some y
    → AreApart (partition_window t x) (partition_window t y)
data_apart t n sound owner second j k x y differ one two =
    let parts : List Partition = t.parts.items in
    let a : (i : ℕ) × IsListed parts owner second j i x = data_at parts owner second j x one in
    let b : (i : ℕ) × IsListed parts owner second k i y = data_at parts owner second k y two in
    subst (λ z. AreApart (partition_window t x) (partition_window t z)) (sym b.1.is)
    (subst (λ z. AreApart (partition_window t z) (partition_window t (taken_part parts second b.0))) (sym a.1.is)
    (units_apart t n sound a.0 b.0 a.1.within b.1.within
    (no_second (link_type (part_at parts a.0)) (owned_by owner (part_at parts a.0) a.1.owned).0)
    (no_second (link_type (part_at parts b.0)) (owned_by owner (part_at parts b.0) b.1.owned).0)
    (different (λ l. is_owned_by owner (part_at parts l)) 0 (length parts) j k a.0 b.0 differ a.1.place b.1.place)
    (partition_window t (taken_part parts second a.0)) (partition_window t (taken_part parts second b.0))
    (taken parts second a.0 a.1.within).1 (taken parts second b.0 b.1.within).1))

-- the numbers below n that pass a test are at most n, and fewer where one below n fails
module _ (test : ℕ → Bool) (o : ℕ) (out : test o ≡ false) where
  counted_by : (n : ℕ) (yes : Bool) (xs : List ℕ) → test n ≡ yes → (length xs ≤ n) × (o < n → length xs < n)
      → (length (xs ++ cond yes (n ∷ []) []) ≤ n + 1) × (o < n + 1 → length (xs ++ cond yes (n ∷ []) []) < n + 1)
  counted_by n true xs is few =
      let long : length (xs ++ n ∷ []) ≡ length xs + 1 = length-append xs (n ∷ []) in
      let other : o ≢ n = λ same. let fails : test n ≡ false = subst (λ k. test k ≡ false) same out in cc in (
        omega (arith, long, few.0),
        λ lt. let before : o < n = omega (arith, other, lt) in
            omega (arith, long, few.1 before),
      )
  counted_by n false xs is few =
      let long : length (xs ++ []) ≡ length xs + 0 = length-append xs [] in
      (omega (arith, long, few.0), λ lt. omega (arith, long, few.0))

  pub counted : (n : ℕ) → (length (filter test (range_with_len 0 n)) ≤ n)
      × (o < n → length (filter test (range_with_len 0 n)) < n)
  counted zero = (omega arith, λ lt. absurd (omega (arith, lt)))
  counted (suc n) =
      let step = counted_by n (test n) (filter test (range_with_len 0 n)) refl (counted n) in
      subst (λ m. (length (filter test (range_with_len 0 m)) ≤ m)
      × (o < m → length (filter test (range_with_len 0 m)) < m)) (add-one n)
      (subst (λ xs. (length xs ≤ n + 1) × (o < n + 1 → length xs < n + 1)) (sym (passing-more test n)) step)

-- an owner has fewer data than there are partitions
pub data_few : (parts : List Partition) → link_fault parts ≡ None → (owner : ℕ) (second : Bool) → owner < length parts
    → length (data_parts parts owner second) < length parts
data_few parts none owner second lt =
    let test : ℕ → Bool = λ l. is_owned_by owner (part_at parts l) in
    let long : length (data_parts parts owner second) ≡ length (filter test (range_with_len 0 (length parts))) =
    length-map (filter test (range_with_len 0 (length parts))) (taken_part parts second) in
    let few : length (filter test (range_with_len 0 (length parts))) < length parts =
    (counted test owner (not_own parts none owner lt) (length parts)).1 lt in
    omega (arith, long, few)

-- there is room for one more before partition i, which the owner owns
pub room : (parts : List Partition) → link_fault parts ≡ None → (owner : ℕ) (second : Bool) (i : ℕ)
    → owner < length parts → i < length parts
    → is_owned_by owner (part_at parts i) ≡ true
    → length (map (taken_part parts second)
    (filter (λ l. is_owned_by owner (part_at parts l)) (range_with_len 0 i))) + 1 < length parts
room parts none owner second i lt i_lt own =
    let test : ℕ → Bool = λ l. is_owned_by owner (part_at parts l) in
    let out : test owner ≡ false = not_own parts none owner lt in
    let long : length (map (taken_part parts second) (filter test (range_with_len 0 i)))
    ≡ length (filter test (range_with_len 0 i)) =
    length-map (filter test (range_with_len 0 i)) (taken_part parts second) in
    let few = counted test owner out i in
    let other : owner ≢ i = λ same. let fails : test i ≡ false = subst (λ k. test k ≡ false) same out in cc in
    elim (cases_lt owner i) [
      | inl before ↦ (let less : _ = few.1 before in omega (arith, long, less))
      | inr behind ↦ omega (arith, long, few.0, behind, other)
    ]

-- the data are partitions
pub data_within : (parts : List Partition) (owner : ℕ) (second : Bool) (d : List ℕ) → d ≡ data_parts parts owner second
    → All (λ i. i < length parts) d
data_within parts owner second d is = λ k e lt.
    let there : k < length (data_parts parts owner second) = subst (λ xs. k < length xs) is lt in
    subst (λ xs. get_or xs k e < length parts) (sym is)
    (data_listed parts owner second k (get_or (data_parts parts owner second) k e)
    (slice_get-get_or (data_parts parts owner second) k e there)).0
