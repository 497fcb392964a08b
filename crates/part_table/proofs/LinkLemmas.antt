-- What holds of the links of a table without a fault of links.
use Rattle.std.proofs.Common.{◌≡◌, ◌≢◌, ℕ, ◌<◌, ◌==◌, ◌&&◌, ◌||◌, not, Bool, true, false, List, length, take, refl, sym, ◌∙◌, subst, arith, Option, None, Some, slice_get}
use Rattle.std.specs.List.{list_any}
use Rattle.std.specs.Option.{option_map_or}
use Rattle.std.proofs.lemmas.Bool.Decides.{nat_tests}
use Rattle.std.proofs.lemmas.Bool.{eqb-true}
use Rattle.std.proofs.lemmas.Option.{slice_get_within, get_or_from_slice_get}
use Rattle.std.proofs.lemmas.List.{length-take-le, get_or-take}
use Rattle.std.proofs.lemmas.List.Folds.{list_any_at}
use Rattle.part_table.specs.declared.partition.Partition.{Partition}
use Rattle.part_table.specs.declared.table.TableFault.TheVariants.{Link}
use Rattle.part_table.specs.Fields.{link_type, link_value}
use Rattle.part_table.specs.Partitions.{part_at, no_partition}
use Rattle.part_table.specs.Links.{is_second, is_owned, is_second_of, pair_of, owner_of}
use Rattle.part_table.specs.Faults.{judge_link, is_wrong_link, is_wrong_pair, is_wrong_owner, link_fault}
use Rattle.part_table.proofs.TestLemmas.{fails, some_if, any_of_two, any_of_three, both_of_two, not_false, never_true, differ, passes_at_position, first_position}
use Rattle.part_table.proofs.PartLemmas.{part_none}

-- a link that is not wrong, by its type
right_pair : (type : ℕ) (pair owner : Bool) → (type == 3 || type == 1 && pair || type == 2 && owner) ≡ false → type ≡ 1
    → pair ≡ false
right_pair type pair owner right is = grind (arith, nat_tests)

right_owner : (type : ℕ) (pair owner : Bool) → (type == 3 || type == 1 && pair || type == 2 && owner) ≡ false
    → type ≡ 2 → owner ≡ false
right_owner type pair owner right is = grind (arith, nat_tests)

-- a test of what is there, which fails, has something there
mapped_false : {A : Type 0} (f : A → Bool) (o : Option A) → option_map_or f o true ≡ false → (x : A) × (o ≡ Some x)
    × (f x ≡ false)
mapped_false f None e = cc
mapped_false f (Some x) e = (x, refl, e)

-- the partition that a link names, where it passes no test
named : (test : Partition → Bool) (parts : List Partition) (v : ℕ) → option_map_or test (slice_get parts v) true ≡ false
    → (v < length parts) × (test (part_at parts v) ≡ false)
named test parts v e =
    let found : (x : Partition) × (slice_get parts v ≡ Some x) × (test x ≡ false) =
    mapped_false test (slice_get parts v) e in (
      slice_get_within parts v found.0 found.1,
      subst (λ q. test q ≡ false) (sym (get_or_from_slice_get parts v found.0 no_partition found.1)) found.2,
    )

module _ (parts : List Partition) (none : link_fault parts ≡ None) where
  -- no partition has a wrong link
  no_wrong : (i : ℕ) → i < length parts → is_wrong_link parts (take i parts) (part_at parts i) ≡ false
  no_wrong i lt =
      fails (is_wrong_link parts (take i parts) (part_at parts i)) (Link (length (take i parts)))
      (part_none (judge_link parts) parts i lt none)

  -- a B's link, part by part
  right_second : (i : ℕ) → i < length parts → is_second (part_at parts i) ≡ true
      → (option_map_or is_second (slice_get parts (link_value (part_at parts i))) true ≡ false)
      × ((link_value (part_at parts i) == length (take i parts)) ≡ false)
      × (list_any (is_second_of (link_value (part_at parts i))) (take i parts) ≡ false)
  right_second i lt second =
      any_of_three _ _ _
      (right_pair (link_type (part_at parts i)) (is_wrong_pair parts (take i parts) (part_at parts i))
      (is_wrong_owner parts (take i parts) (part_at parts i))
      (no_wrong i lt) (eqb-true (link_type (part_at parts i)) 1 second))

  -- the A of a pair is a partition, another one than the B, and no B itself
  pub first_of_pair : (a b : ℕ) → b < length parts → is_second_of a (part_at parts b) ≡ true
      → (a < length parts) × (a ≢ b) × (is_second (part_at parts a) ≡ false)
  first_of_pair a b lt is =
      let both : (is_second (part_at parts b) ≡ true) × ((link_value (part_at parts b) == a) ≡ true) =
      both_of_two _ _ is in
      let same : link_value (part_at parts b) ≡ a = eqb-true _ _ both.1 in
      let right : _ = right_second b lt both.0 in
      let there : (link_value (part_at parts b) < length parts)
      × (is_second (part_at parts (link_value (part_at parts b))) ≡ false) =
      named is_second parts (link_value (part_at parts b)) right.0 in
      let other : link_value (part_at parts b) ≢ length (take b parts) = differ _ _ right.1 in
      let long : length (take b parts) ≡ b = length-take-le b parts (omega arith) in (
        subst (λ v. v < length parts) same there.0,
        (λ e. other (same ∙ e ∙ sym long)),
        subst (λ v. is_second (part_at parts v) ≡ false) same there.1,
      )

  -- of two partitions, the later one is not the B of the same A
  no_later_second : (a i j : ℕ) → i < j → j < length parts → is_second_of a (part_at parts i) ≡ true
      → is_second_of a (part_at parts j) ≡ true → ⊥
  no_later_second a i j before lt one two =
      let both : (is_second (part_at parts j) ≡ true) × ((link_value (part_at parts j) == a) ≡ true) =
      both_of_two _ _ two in
      let same : link_value (part_at parts j) ≡ a = eqb-true _ _ both.1 in
      let right : _ = right_second j lt both.0 in
      let none_before : list_any (is_second_of a) (take j parts) ≡ false =
      subst (λ v. list_any (is_second_of v) (take j parts) ≡ false) same right.2 in
      let long : length (take j parts) ≡ j = length-take-le j parts (omega arith) in
      let some_before : list_any (is_second_of a) (take j parts) ≡ true =
      list_any_at (is_second_of a) (take j parts) i no_partition (omega arith)
      (subst (λ q. is_second_of a q ≡ true) (sym (get_or-take j parts i no_partition before)) one) in
      cc

  -- the order of two numbers of B's of one A is refuted either way, so they are one number
  same_place : (a i j : ℕ) → i < length parts → j < length parts → is_second_of a (part_at parts i) ≡ true
      → is_second_of a (part_at parts j) ≡ true
      → (i < j → ⊥) × (j < i → ⊥)
  same_place a i j i_lt j_lt one two =
      ((λ before. no_later_second a i j before j_lt one two), λ behind. no_later_second a j i behind i_lt two one)

  -- an A has at most one B
  pub one_second : (a i j : ℕ) → i < length parts → j < length parts → is_second_of a (part_at parts i) ≡ true
      → is_second_of a (part_at parts j) ≡ true → i ≡ j
  one_second a i j i_lt j_lt one two = let apart : _ =
      same_place a i j i_lt j_lt one two in omega (arith, apart.0, apart.1)

  -- the owner of a partition is a partition, another one, and has no link
  pub right_owner_of : (i v : ℕ) → i < length parts → owner_of (part_at parts i) ≡ Some v
      → (v < length parts) × (v ≢ i) × (link_type (part_at parts v) ≡ 0)
  right_owner_of i v lt is =
      let both : (is_owned (part_at parts i) ≡ true) × (link_value (part_at parts i) ≡ v) = some_if _ _ _ is in
      let right : _ =
      any_of_two _ _
      (right_owner (link_type (part_at parts i)) (is_wrong_pair parts (take i parts) (part_at parts i))
      (is_wrong_owner parts (take i parts) (part_at parts i)) (no_wrong i lt)
      (eqb-true (link_type (part_at parts i)) 2 both.0)) in
      let there : (link_value (part_at parts i) < length parts)
      × (not (link_type (part_at parts (link_value (part_at parts i))) == 0) ≡ false) =
      named (λ q. not (link_type q == 0)) parts (link_value (part_at parts i)) right.0 in
      let other : link_value (part_at parts i) ≢ length (take i parts) = differ _ _ right.1 in
      let long : length (take i parts) ≡ i = length-take-le i parts (omega arith) in (
        subst (λ w. w < length parts) both.1 there.0,
        (λ e. other (both.1 ∙ e ∙ sym long)),
        subst (λ w. link_type (part_at parts w) ≡ 0) both.1 (eqb-true _ 0 (not_false _ there.1)),
      )

-- the B that a pair has is a partition whose link names the A
pub second_found : (parts : List Partition) (a b : ℕ) → pair_of parts a ≡ Some b → (b < length parts)
    × (is_second_of a (part_at parts b) ≡ true)
second_found parts a b at = passes_at_position (is_second_of a) parts b no_partition at

-- a partition whose link names an A is the B that the pair has
pub second_is_found : (parts : List Partition) → link_fault parts ≡ None → (a b : ℕ) → b < length parts
    → is_second_of a (part_at parts b) ≡ true → pair_of parts a ≡ Some b
second_is_found parts none a b lt is =
    (first_position (is_second_of a) parts b no_partition lt is
    (λ k before. never_true (is_second_of a (part_at parts k))
    (λ yes. no_later_second parts none a k b before lt yes is))).1
