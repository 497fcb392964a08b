-- The faults of the rules are those that the functions find.
use Rattle.std.proofs.Common.{◌≡◌, ◌⊎◌, inl, inr, ℕ, suc, [], ◌∷◌, ◌+◌, ◌-◌, ◌<◌, ◌≤◌, ◌==◌, ◌&&◌, ◌||◌, not, nat_lt, nat_le, Bool, true, false, List, length, take, drop, get_or, refl, sym, ◌∙◌, ap, subst, arith, Option, None, Some, option_map, position, slice_get, if◌then◌else◌, get_or-drop, length-drop}
use Rattle.std.specs.List.{list_any}
use Rattle.std.specs.Option.{option_or, option_map_or}
use Rattle.std.proofs.lemmas.Bool.{eq-eqb, eqb-true, ne_eqb, cases_lt}
use Rattle.std.proofs.lemmas.Bool.Decides.{nat_tests}
use Rattle.std.proofs.lemmas.List.{get_or-take}
use Rattle.std.proofs.lemmas.List.Folds.{list_any_at}
use Rattle.std.proofs.lemmas.Option.{slice_get-get_or, slice_get_past, slice_get_within, get_or_from_slice_get, none-some, same_Some}
use Rattle.block_codec.specs.FirstFault.{first_fault, IsFirst}
use Rattle.block_codec.proofs.FirstFaultLemmas.{fault_from_first, first_from_fault}
use Rattle.part_table.specs.declared.partition.Partition.{Partition}
use Rattle.part_table.specs.declared.table.TableFault.{TableFault}
use Rattle.part_table.specs.declared.table.TableFault.TheVariants.{Permissions, Range, Overlap, Link}
use Rattle.part_table.specs.Fields.{first_sector, last_sector, permissions_of, link_type, link_value}
use Rattle.part_table.specs.Faults.{judge_permissions, is_out_of_range, judge_range, judge_overlap, judge_link, is_wrong_pair, is_wrong_owner, is_wrong_link, parts_fault, permissions_fault, range_fault, overlap_fault, link_fault}
use Rattle.part_table.specs.Links.{is_second, is_second_of}
use Rattle.part_table.specs.Partitions.{part_at, no_partition}
use Rattle.part_table.specs.Windows.{shares_sector}
use Rattle.part_table.specs.Rules.{HasSector, IsWrongPair, IsWrongOwner, HasWrongLink, HasNo, IsLeast, PermissionsFault, RangeFault, OverlapFault, LinkFault, IsFirstTableFault, HasNoFault}
use Rattle.part_table.proofs.FaultLemmas.{place_of}
use Rattle.part_table.proofs.PartLemmas.{part_none}
use Rattle.part_table.proofs.TestLemmas.{differ, mapped_some, passes_at_position, fails_before_position, first_position, never_true, both_of_two, not_true, first_none, second_none}

-- a judge of partitions tells of each what a rule says of it
module _ (judge : List Partition → Partition → Option TableFault) (parts : List Partition)
    (Has : ℕ → TableFault → Type 0)
    (to : (i : ℕ) (f : TableFault) → i < length parts → judge (take i parts) (part_at parts i) ≡ Some f → Has i f)
    (back : (i : ℕ) (f : TableFault) → i < length parts → Has i f
    → judge (take i parts) (part_at parts i) ≡ Some f) where
  -- what it tells at a place
  none_at : (i : ℕ) (o : Option TableFault) → i < length parts → judge (take i parts) (part_at parts i) ≡ o
      → ((f : TableFault) → Has i f → ⊥) → o ≡ None
  none_at i None lt is free = refl
  none_at i (Some f) lt is free = absurd (free f (to i f lt is))

  pub least_to_first : (f : TableFault) → IsLeast parts Has f → first_fault judge parts ≡ Some f
  least_to_first f least =
      fault_from_first judge parts least.place f (record {
        here = (
          part_at parts least.place,
          slice_get-get_or parts least.place no_partition least.inside,
          back
              least.place f least.inside least.here,
        );
        before = λ j x lt at.
            let within : j < length parts = slice_get_within parts j x at in
            let is : part_at parts j ≡ x = get_or_from_slice_get parts j x no_partition at in
            subst (λ y. judge (take j parts) y ≡ None) is
            (none_at j (judge (take j parts) (part_at parts j)) within refl (λ g has. least.before j g lt has));
      })

  pub least_from_first : (f : TableFault) → first_fault judge parts ≡ Some f → IsLeast parts Has f
  least_from_first f e =
      let found : (i : ℕ) × IsFirst judge parts i f = first_from_fault judge parts f e in
      let here : (x : Partition) × (slice_get parts found.0 ≡ Some x) × (judge (take found.0 parts) x ≡ Some f) =
      found.1.here in
      let within : found.0 < length parts = slice_get_within parts found.0 here.0 here.1 in
      let is : part_at parts found.0 ≡ here.0 = get_or_from_slice_get parts found.0 here.0 no_partition here.1 in
      record {
        place = found.0;
        inside = within;
        here = to found.0 f within (subst (λ y. judge (take found.0 parts) y ≡ Some f) (sym is) here.2);
        before = λ j g lt has.
            let none : judge (take j parts) (part_at parts j) ≡ None =
            found.1.before j (part_at parts j) lt (slice_get-get_or parts j no_partition (omega arith)) in
            none-some g (sym none ∙ back j g (omega arith) has);
      }

  pub none_to : first_fault judge parts ≡ None → HasNo parts Has
  none_to e i f lt has = none-some f (sym (part_none judge parts i lt e) ∙ back i f lt has)

  none_by : (o : Option TableFault) → first_fault judge parts ≡ o → HasNo parts Has → o ≡ None
  none_by None is free = refl
  none_by (Some f) is free =
      let least : IsLeast parts Has f = least_from_first f is in absurd (free least.place f least.inside least.here)

  pub none_from : HasNo parts Has → first_fault judge parts ≡ None
  none_from free = none_by (first_fault judge parts) refl free

-- what a test with a value tells
if_some : (test : Bool) (F : ℕ → TableFault) (k i : ℕ) (f : TableFault) → k ≡ i
    → (if test then Some (F k) else None) ≡ Some f → (test ≡ true) × (f ≡ F i)
if_some true F k i f same e = (refl, sym (same_Some (F k) f e) ∙ ap F same)
if_some false F k i f same e = cc

some_if : (test : Bool) (F : ℕ → TableFault) (k i : ℕ) (f : TableFault) → k ≡ i → test ≡ true → f ≡ F i
    → (if test then Some (F k) else None) ≡ Some f
some_if true F k i f same e is = ap Some (ap F same ∙ sym is)
some_if false F k i f same e is = cc

unless_some : (test : Bool) (F : ℕ → TableFault) (k i : ℕ) (f : TableFault) → k ≡ i
    → (if test then None else Some (F k)) ≡ Some f → (test ≡ false) × (f ≡ F i)
unless_some true F k i f same e = cc
unless_some false F k i f same e = (refl, sym (same_Some (F k) f e) ∙ ap F same)

some_unless : (test : Bool) (F : ℕ → TableFault) (k i : ℕ) (f : TableFault) → k ≡ i → test ≡ false → f ≡ F i
    → (if test then None else Some (F k)) ≡ Some f
some_unless true F k i f same e is = cc
some_unless false F k i f same e is = ap Some (ap F same ∙ sym is)

-- permissions
pub permissions_to : (parts : List Partition) (i : ℕ) (f : TableFault) → i < length parts
    → judge_permissions (take i parts) (part_at parts i) ≡ Some f → PermissionsFault parts i f
permissions_to parts i f lt e =
    let told : _ =
    unless_some (permissions_of (part_at parts i).location == permissions_of (part_at parts i).flags)
    (λ n. Permissions n) (length (take i parts)) i f (place_of parts i lt) e in
    (told.1, differ _ _ told.0)

pub permissions_back : (parts : List Partition) (i : ℕ) (f : TableFault) → i < length parts
    → PermissionsFault parts i f → judge_permissions (take i parts) (part_at parts i) ≡ Some f
permissions_back parts i f lt has =
    some_unless (permissions_of (part_at parts i).location == permissions_of (part_at parts i).flags)
    (λ n. Permissions n) (length (take i parts)) i f (place_of parts i lt) (ne_eqb _ _ has.1) has.0

-- ranges
range_to_words : (n m a b : ℕ) → (nat_lt a m || nat_lt b a || nat_le n b) ≡ true → (a < m) ⊎ (b < a) ⊎ (n ≤ b)
range_to_words n m a b e = grind (arith, nat_tests)

range_from_words : (n m a b : ℕ) → (a < m) ⊎ (b < a) ⊎ (n ≤ b) → (nat_lt a m || nat_lt b a || nat_le n b) ≡ true
range_from_words n m a b e = grind (arith, nat_tests)

pub range_to : (n m : ℕ) (parts : List Partition) (i : ℕ) (f : TableFault) → i < length parts
    → judge_range n m (take i parts) (part_at parts i) ≡ Some f → RangeFault n m parts i f
range_to n m parts i f lt e =
    let told : _ =
    if_some (is_out_of_range n m (part_at parts i)) (λ k. Range k) (length (take i parts)) i f
    (place_of parts i lt) e in
    (told.1, range_to_words n m (first_sector (part_at parts i)) (last_sector (part_at parts i)) told.0)

pub range_back : (n m : ℕ) (parts : List Partition) (i : ℕ) (f : TableFault) → i < length parts
    → RangeFault n m parts i f → judge_range n m (take i parts) (part_at parts i) ≡ Some f
range_back n m parts i f lt has =
    some_if (is_out_of_range n m (part_at parts i)) (λ k. Range k) (length (take i parts)) i f (place_of parts i lt)
    (range_from_words n m (first_sector (part_at parts i)) (last_sector (part_at parts i)) has.1) has.0

-- sectors that two partitions share, one of which is the greater of their first sectors
common_from : (a b c d : ℕ) → a ≤ b → c ≤ d → (nat_le a d && nat_le c b) ≡ true → (s : ℕ) × ((a ≤ s) × (s ≤ b))
    × ((c ≤ s) × (s ≤ d))
common_from a b c d p q e =
    let both : (a ≤ d) × (c ≤ b) = grind (arith, nat_tests) in
    elim (cases_lt a c) [
      | inl less ↦ (c, (omega arith, omega (arith, both.1)), (omega arith, omega arith))
      | inr more ↦ (a, (omega arith, omega arith), (omega arith, omega (arith, both.0)))
    ]

common_to : (a b c d s : ℕ) → (a ≤ s) × (s ≤ b) → (c ≤ s) × (s ≤ d) → (nat_le a d && nat_le c b) ≡ true
common_to a b c d s one two = grind (arith, nat_tests)

-- overlaps, where each partition has a sector
module _ (parts : List Partition)
    (some : (i : ℕ) → i < length parts → first_sector (part_at parts i) ≤ last_sector (part_at parts i)) where
  -- the partition at a place behind another
  behind : (i k : ℕ) → get_or (drop (i + 1) parts) k no_partition ≡ part_at parts (i + 1 + k)
  behind i k = get_or-drop (i + 1) parts k no_partition

  shares_common : (i j : ℕ) → i < length parts → j < length parts
      → shares_sector (part_at parts i) (part_at parts j) ≡ true
      → (s : ℕ) × HasSector parts i s × HasSector parts j s
  shares_common i j one two e =
      common_from (first_sector (part_at parts i)) (last_sector (part_at parts i)) (first_sector (part_at parts j))
      (last_sector (part_at parts j))
      (some i one) (some j two) e

  common_shares : (i j s : ℕ) → HasSector parts i s → HasSector parts j s
      → shares_sector (part_at parts i) (part_at parts j) ≡ true
  common_shares i j s one two =
      common_to (first_sector (part_at parts i)) (last_sector (part_at parts i)) (first_sector (part_at parts j))
      (last_sector (part_at parts j)) s one two

  pub overlap_to : (i : ℕ) (f : TableFault) → i < length parts
      → judge_overlap parts (take i parts) (part_at parts i) ≡ Some f → OverlapFault parts i f
  overlap_to i f lt e =
      let p : Partition = part_at parts i in
      let rest : List Partition = drop (i + 1) parts in
      let told : option_map (λ k. Overlap i (i + 1 + k)) (position (shares_sector p) rest) ≡ Some f =
      sym (ap (λ n. option_map (λ k. Overlap n (n + 1 + k)) (position (shares_sector p) (drop (n + 1) parts)))
      (place_of parts i lt)) ∙ e in
      let found : (k : ℕ) × (position (shares_sector p) rest ≡ Some k) × (f ≡ Overlap i (i + 1 + k)) =
      mapped_some (λ k. Overlap i (i + 1 + k)) _ f told in
      let here : (found.0 < length rest) × (shares_sector p (get_or rest found.0 no_partition) ≡ true) =
      passes_at_position (shares_sector p) rest found.0 no_partition found.1 in
      let inside : i + 1 + found.0 < length parts = let long = length-drop (i + 1) parts in omega (arith, here.0) in (
        i + 1 + found.0,
        found.2,
        record {
          above = omega arith;
          inside = inside;
          shared = shares_common i (i + 1 + found.0) lt inside
              (subst (λ q. shares_sector p q ≡ true) (behind i found.0) here.1);
          least = λ k s low high one two.
              let place : i + 1 + (k - (i + 1)) ≡ k = omega arith in
              let fails : shares_sector p (get_or rest (k - (i + 1)) no_partition) ≡ false =
              fails_before_position (shares_sector p) rest found.0 no_partition found.1 (k - (i + 1)) (omega arith) in
              let shares : shares_sector p (get_or rest (k - (i + 1)) no_partition) ≡ true =
              subst (λ q. shares_sector p q ≡ true) (sym (behind i (k - (i + 1)) ∙ ap (part_at parts) place))
              (common_shares i k s one two) in
              cc;
        },
      )

  pub overlap_back : (i : ℕ) (f : TableFault) → i < length parts → OverlapFault parts i f
      → judge_overlap parts (take i parts) (part_at parts i) ≡ Some f
  overlap_back i f lt has =
      let p : Partition = part_at parts i in
      let rest : List Partition = drop (i + 1) parts in
      let j : ℕ = has.0 in
      let long = length-drop (i + 1) parts in
      let shared = has.2 in
      let k : ℕ = j - (i + 1) in
      let place : i + 1 + k ≡ j = let above : i < j = shared.above in omega arith in
      let within : k < length rest = let inside : j < length parts = shared.inside in let above : i < j =
      shared.above in omega arith in
      let passes : shares_sector p (get_or rest k no_partition) ≡ true =
      subst (λ q. shares_sector p q ≡ true) (sym (behind i k ∙ ap (part_at parts) place))
      (common_shares i j shared.shared.0 shared.shared.1 shared.shared.2) in
      let none : (h : ℕ) → h < k → shares_sector p (get_or rest h no_partition) ≡ false =
      λ h less. never_true (shares_sector p (get_or rest h no_partition)) (λ yet.
      let common : (s : ℕ) × HasSector parts i s × HasSector parts (i + 1 + h) s =
      shares_common i (i + 1 + h) lt (omega arith) (subst (λ q. shares_sector p q ≡ true) (behind i h) yet) in
      shared.least (i + 1 + h) common.0 (omega arith) (omega arith) common.1 common.2) in
      let found : position (shares_sector p) rest ≡ Some k =
      (first_position (shares_sector p) rest k no_partition within passes none).1 in
      ap (λ n. option_map (λ h. Overlap n (n + 1 + h)) (position (shares_sector p) (drop (n + 1) parts)))
      (place_of parts i lt)
      ∙ ap (λ o. option_map (λ h. Overlap i (i + 1 + h)) o) found ∙ ap (λ n. Some (Overlap i n)) place
      ∙ ap Some (sym has.1)

-- joined tests
either : (one two : Bool) → (one || two) ≡ true → (one ≡ true) ⊎ (two ≡ true)
either true two e = inl refl
either false two e = inr e

left_of : (one two : Bool) → one ≡ true → (one || two) ≡ true
left_of true two e = refl
left_of false two e = cc

right_of : (one two : Bool) → two ≡ true → (one || two) ≡ true
right_of true two e = refl
right_of false two e = e

both_true : (one two : Bool) → one ≡ true → two ≡ true → (one && two) ≡ true
both_true true two e f = f
both_true false two e f = cc

-- an element that passes
any_place : (test : Partition → Bool) (ps : List Partition) → list_any test ps ≡ true → (k : ℕ) × (k < length ps)
    × (test (get_or ps k no_partition) ≡ true)
any_place test [] e = cc
any_place test (p ∷ ps) e =
    elim (either (test p) (list_any test ps) e) [
      | inl here ↦ (0, omega arith, here)
      | inr later ↦ let found : (k : ℕ) × (k < length ps) × (test (get_or ps k no_partition) ≡ true) =
          any_place test ps later in (suc found.0, omega (arith, found.1), found.2)
    ]

-- a partition that a link names is none, or passes a test
named_to : (test : Partition → Bool) (parts : List Partition) (v : ℕ)
    → option_map_or test (slice_get parts v) true ≡ true
    → (length parts ≤ v) ⊎ (test (part_at parts v) ≡ true)
named_to test parts v e =
    elim (cases_lt v (length parts)) [
      | inl within ↦ inr (sym (ap (λ o. option_map_or test o true) (slice_get-get_or parts v no_partition within)) ∙ e)
      | inr past ↦ inl past
    ]

named_past : (test : Partition → Bool) (parts : List Partition) (v : ℕ) → length parts ≤ v
    → option_map_or test (slice_get parts v) true ≡ true
named_past test parts v past = ap (λ o. option_map_or test o true) (slice_get_past parts v past)

named_back : (test : Partition → Bool) (parts : List Partition) (v : ℕ) → test (part_at parts v) ≡ true
    → option_map_or test (slice_get parts v) true ≡ true
named_back test parts v passes =
    elim (cases_lt v (length parts)) [
      | inl within ↦ ap (λ o. option_map_or test o true) (slice_get-get_or parts v no_partition within) ∙ passes
      | inr past ↦ named_past test parts v past
    ]

module _ (parts : List Partition) (i : ℕ) (lt : i < length parts) where
  -- a wrong link "A is"
  pair_to : (v : ℕ)
      → (option_map_or is_second (slice_get parts v) true || v == length (take i parts) || list_any (is_second_of v)
      (take i parts)) ≡ true
      → IsWrongPair parts i v
  pair_to v e =
      elim (either _ _ e) [
        | inl first ↦ elim (either _ _ first) [
          | inl named ↦
              elim (named_to is_second parts v named) [
                | inl past ↦ inl past
                | inr second ↦
                    inr (inr (inl (eqb-true _ 1 second)))
              ]
          | inr itself ↦ inr (inl (eqb-true v (length (take i parts)) itself ∙ place_of parts i lt))
        ]
        | inr taken ↦
            let found : (k : ℕ) × (k < length (take i parts))
            × (is_second_of v (get_or (take i parts) k no_partition) ≡ true) =
            any_place (is_second_of v) (take i parts) taken in
            let before : found.0 < i = let long = place_of parts i lt in omega (arith, found.1) in
            let here : is_second_of v (part_at parts found.0) ≡ true =
            subst (λ q. is_second_of v q ≡ true) (get_or-take i parts found.0 no_partition before) found.2 in
            let both : (is_second (part_at parts found.0) ≡ true)
            × ((link_value (part_at parts found.0) == v) ≡ true) = both_of_two _ _ here in
            inr (inr (inr (found.0, before, eqb-true _ 1 both.0, eqb-true _ v both.1)))
      ]

  pair_back : (v : ℕ) → IsWrongPair parts i v
      → (option_map_or is_second (slice_get parts v) true || v == length (take i parts) || list_any (is_second_of v)
      (take i parts)) ≡ true
  pair_back v (inl past) = left_of _ _ (left_of _ _ (named_past is_second parts v past))
  pair_back v (inr (inl itself)) =
      left_of _ _ (right_of (option_map_or is_second (slice_get parts v) true) _
      (eq-eqb _ _ (itself ∙ sym (place_of parts i lt))))
  pair_back v (inr (inr (inl second))) = left_of _ _ (left_of _ _ (named_back is_second parts v (eq-eqb _ 1 second)))
  pair_back v (inr (inr (inr taken))) =
      let before : taken.0 < length (take i parts) = let long = place_of parts i lt in omega (arith, taken.1) in
      let here : is_second_of v (get_or (take i parts) taken.0 no_partition) ≡ true =
      subst (λ q. is_second_of v q ≡ true) (sym (get_or-take i parts taken.0 no_partition taken.1))
      (both_true _ _ (eq-eqb _ 1 taken.2) (eq-eqb _ v taken.3)) in
      right_of _ _ (list_any_at (is_second_of v) (take i parts) taken.0 no_partition before here)

  -- a wrong owner link
  owner_to : (v : ℕ)
      → (option_map_or (λ q. not (link_type q == 0)) (slice_get parts v) true || v == length (take i parts)) ≡ true
      → IsWrongOwner parts i v
  owner_to v e =
      elim (either _ _ e) [
        | inl named ↦
            elim (named_to (λ q. not (link_type q == 0)) parts v named) [
              | inl past ↦ inl past
              | inr linked ↦
                  inr (inr (differ _ 0 (not_true _ linked)))
            ]
        | inr itself ↦ inr (inl (eqb-true v (length (take i parts)) itself ∙ place_of parts i lt))
      ]

  owner_back : (v : ℕ) → IsWrongOwner parts i v
      → (option_map_or (λ q. not (link_type q == 0)) (slice_get parts v) true || v == length (take i parts)) ≡ true
  owner_back v (inl past) = left_of _ _ (named_past (λ q. not (link_type q == 0)) parts v past)
  owner_back v (inr (inl itself)) =
      right_of (option_map_or (λ q. not (link_type q == 0)) (slice_get parts v) true) _
      (eq-eqb _ _ (itself ∙ sym (place_of parts i lt)))
  owner_back v (inr (inr linked)) =
      left_of _ _ (named_back (λ q. not (link_type q == 0)) parts v (ap (λ b. not b) (ne_eqb _ 0 linked)))

-- a link by its type
type_to : (type : ℕ) (pair owner : Bool) → (type == 3 || type == 1 && pair || type == 2 && owner) ≡ true
    → (type ≡ 3) ⊎ ((type ≡ 1) × (pair ≡ true)) ⊎ ((type ≡ 2) × (owner ≡ true))
type_to type pair owner e = grind (arith, nat_tests)

type_back : (type : ℕ) (pair owner : Bool) → (type ≡ 3) ⊎ ((type ≡ 1) × (pair ≡ true)) ⊎ ((type ≡ 2) × (owner ≡ true))
    → (type == 3 || type == 1 && pair || type == 2 && owner) ≡ true
type_back type pair owner e = grind (arith, nat_tests)

pub link_to : (parts : List Partition) (i : ℕ) (f : TableFault) → i < length parts
    → judge_link parts (take i parts) (part_at parts i) ≡ Some f → LinkFault parts i f
link_to parts i f lt e =
    let p : Partition = part_at parts i in
    let told : (is_wrong_link parts (take i parts) p ≡ true) × (f ≡ Link i) =
    if_some (is_wrong_link parts (take i parts) p) (λ n. Link n)
    (length (take i parts)) i f (place_of parts i lt) e in (
      told.1,
      elim (type_to (link_type p) (is_wrong_pair parts (take i parts) p)
          (is_wrong_owner parts (take i parts) p) told.0) [
            | inl three ↦ inl three
            | inr other ↦ elim other [
              | inl pair ↦ inr (inl (pair.0, pair_to parts i lt (link_value p) pair.1))
              | inr owner ↦ inr (inr (owner.0, owner_to parts i lt (link_value p) owner.1))
            ]
          ],
    )

wrong_back : (parts : List Partition) (i : ℕ) → i < length parts → HasWrongLink parts i
    → is_wrong_link parts (take i parts) (part_at parts i) ≡ true
wrong_back parts i lt (inl three) =
    type_back (link_type (part_at parts i)) (is_wrong_pair parts (take i parts) (part_at parts i))
    (is_wrong_owner parts (take i parts) (part_at parts i)) (inl three)
wrong_back parts i lt (inr (inl pair)) =
    type_back (link_type (part_at parts i)) (is_wrong_pair parts (take i parts) (part_at parts i))
    (is_wrong_owner parts (take i parts) (part_at parts i))
    (inr (inl (pair.0, pair_back parts i lt (link_value (part_at parts i)) pair.1)))
wrong_back parts i lt (inr (inr owner)) =
    type_back (link_type (part_at parts i)) (is_wrong_pair parts (take i parts) (part_at parts i))
    (is_wrong_owner parts (take i parts) (part_at parts i))
    (inr (inr (owner.0, owner_back parts i lt (link_value (part_at parts i)) owner.1)))

pub link_back : (parts : List Partition) (i : ℕ) (f : TableFault) → i < length parts → LinkFault parts i f
    → judge_link parts (take i parts) (part_at parts i) ≡ Some f
link_back parts i f lt has =
    some_if (is_wrong_link parts (take i parts) (part_at parts i)) (λ n. Link n) (length (take i parts)) i f
    (place_of parts i lt) (wrong_back parts i lt has.1) has.0

-- the first of several
first_of : (one two : Option TableFault) (f : TableFault) → option_or one two ≡ Some f → (one ≡ Some f)
    ⊎ ((one ≡ None) × (two ≡ Some f))
first_of None two f e = inr (refl, e)
first_of (Some g) two f e = inl e

module _ (parts : List Partition) (n m : ℕ) where
  -- without a fault of range each partition has a sector
  ordered : HasNo parts (RangeFault n m parts) → (i : ℕ) → i < length parts
      → first_sector (part_at parts i) ≤ last_sector (part_at parts i)
  ordered free i lt =
      elim (cases_lt (last_sector (part_at parts i)) (first_sector (part_at parts i))) [
        | inl empty ↦ absurd (free i (Range i) lt (refl, inr (inl empty)))
        | inr full ↦ full
      ]

  -- of each kind, the first fault or none
  no_permissions : permissions_fault parts ≡ None → HasNo parts (PermissionsFault parts)
  no_permissions =
      none_to judge_permissions parts (PermissionsFault parts) (permissions_to parts) (permissions_back parts)

  no_range : range_fault n m parts ≡ None → HasNo parts (RangeFault n m parts)
  no_range = none_to (judge_range n m) parts (RangeFault n m parts) (range_to n m parts) (range_back n m parts)

  no_overlap_of : HasNo parts (RangeFault n m parts) → overlap_fault parts ≡ None → HasNo parts (OverlapFault parts)
  no_overlap_of free =
      none_to (judge_overlap parts) parts (OverlapFault parts) (overlap_to parts (ordered free))
      (overlap_back parts (ordered free))

  no_link : link_fault parts ≡ None → HasNo parts (LinkFault parts)
  no_link = none_to (judge_link parts) parts (LinkFault parts) (link_to parts) (link_back parts)

  pub first_to_rules : (f : TableFault) → parts_fault parts n m ≡ Some f → IsFirstTableFault parts n m f
  first_to_rules f e =
      elim (first_of (permissions_fault parts) _ f e) [
        | inl one ↦ inl
            (least_from_first judge_permissions parts (PermissionsFault parts) (permissions_to parts)
            (permissions_back parts) f one)
        | inr more ↦ elim (first_of (range_fault n m parts) _ f more.1) [
          | inl two ↦ inr (inl (
            no_permissions more.0,
            least_from_first (judge_range n m) parts (RangeFault n m parts) (range_to n m parts)
                (range_back n m parts) f two,
          ))
          | inr rest ↦
              let free : HasNo parts (RangeFault n m parts) = no_range rest.0 in
              elim (first_of (overlap_fault parts) (link_fault parts) f rest.1) [
                | inl three ↦ inr (inr (inl (
                  no_permissions more.0,
                  free,
                  least_from_first (judge_overlap parts) parts (OverlapFault parts) (overlap_to parts (ordered free))
                      (overlap_back parts (ordered free)) f three,
                )))
                | inr last ↦ inr (inr (inr (
                  no_permissions more.0,
                  free,
                  no_overlap_of free last.0,
                  least_from_first (judge_link parts) parts (LinkFault parts) (link_to parts)
                      (link_back parts) f last.1,
                )))
              ]
        ]
      ]

  none_permissions : HasNo parts (PermissionsFault parts) → permissions_fault parts ≡ None
  none_permissions =
      none_from judge_permissions parts (PermissionsFault parts) (permissions_to parts) (permissions_back parts)

  none_range : HasNo parts (RangeFault n m parts) → range_fault n m parts ≡ None
  none_range = none_from (judge_range n m) parts (RangeFault n m parts) (range_to n m parts) (range_back n m parts)

  none_overlap : HasNo parts (RangeFault n m parts) → HasNo parts (OverlapFault parts) → overlap_fault parts ≡ None
  none_overlap free =
      none_from (judge_overlap parts) parts (OverlapFault parts) (overlap_to parts (ordered free))
      (overlap_back parts (ordered free))

  none_link : HasNo parts (LinkFault parts) → link_fault parts ≡ None
  none_link = none_from (judge_link parts) parts (LinkFault parts) (link_to parts) (link_back parts)

  pub rules_to_first : (f : TableFault) → IsFirstTableFault parts n m f → parts_fault parts n m ≡ Some f
  rules_to_first f (inl one) =
      ap (λ o. option_or o (option_or (range_fault n m parts) (option_or (overlap_fault parts) (link_fault parts))))
      (least_to_first judge_permissions parts (PermissionsFault parts) (permissions_to parts)
      (permissions_back parts) f one)
  rules_to_first f (inr (inl two)) =
      ap (λ o. option_or o (option_or (range_fault n m parts) (option_or (overlap_fault parts) (link_fault parts))))
      (none_permissions two.0)
      ∙ ap (λ o. option_or o (option_or (overlap_fault parts) (link_fault parts)))
      (least_to_first (judge_range n m) parts (RangeFault n m parts) (range_to n m parts)
      (range_back n m parts) f two.1)
  rules_to_first f (inr (inr (inl three))) =
      ap (λ o. option_or o (option_or (range_fault n m parts) (option_or (overlap_fault parts) (link_fault parts))))
      (none_permissions three.0)
      ∙ ap (λ o. option_or o (option_or (overlap_fault parts) (link_fault parts))) (none_range three.1)
      ∙ ap (λ o. option_or o (link_fault parts))
      (least_to_first (judge_overlap parts) parts (OverlapFault parts) (overlap_to parts (ordered three.1))
      (overlap_back parts (ordered three.1)) f three.2)
  rules_to_first f (inr (inr (inr four))) =
      ap (λ o. option_or o (option_or (range_fault n m parts) (option_or (overlap_fault parts) (link_fault parts))))
      (none_permissions four.0)
      ∙ ap (λ o. option_or o (option_or (overlap_fault parts) (link_fault parts))) (none_range four.1)
      ∙ ap (λ o. option_or o (link_fault parts)) (none_overlap four.1 four.2)
      ∙ least_to_first (judge_link parts) parts (LinkFault parts) (link_to parts) (link_back parts) f four.3

  pub none_to_rules : parts_fault parts n m ≡ None → HasNoFault parts n m
  none_to_rules e =
      let later : option_or (range_fault n m parts) (option_or (overlap_fault parts) (link_fault parts)) ≡ None =
      second_none (permissions_fault parts) _ e in
      let last : option_or (overlap_fault parts) (link_fault parts) ≡ None =
      second_none (range_fault n m parts) _ later in
      let free : HasNo parts (RangeFault n m parts) = no_range (first_none (range_fault n m parts) _ later) in
      record {
        permissions = no_permissions (first_none (permissions_fault parts) _ e);
        range = free;
        overlap = no_overlap_of free (first_none (overlap_fault parts) _ last);
        links = no_link (second_none (overlap_fault parts) _ last);
      }

  pub rules_to_none : HasNoFault parts n m → parts_fault parts n m ≡ None
  rules_to_none none =
      ap (λ o. option_or o (option_or (range_fault n m parts) (option_or (overlap_fault parts) (link_fault parts))))
      (none_permissions none.permissions)
      ∙ ap (λ o. option_or o (option_or (overlap_fault parts) (link_fault parts))) (none_range none.range)
      ∙ ap (λ o. option_or o (link_fault parts)) (none_overlap none.range none.overlap)
      ∙ none_link none.links
