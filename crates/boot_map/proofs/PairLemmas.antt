-- The pair of a window, by the function and in the words of the rules.
use Rattle.std.proofs.Common.{◌≡◌, ℕ, zero, suc, ◌<◌, ◌==◌, ◌&&◌, Bool, true, false, List, length, Option, Some, None, option_map, refl, sym, ◌∙◌, ap, subst, arith}
use Rattle.std.specs.Prelude.{if◌then◌else◌}
use Rattle.std.proofs.lemmas.Bool.{eq-eqb, eqb-true}
use Rattle.part_table.specs.declared.partition.Partition.{Partition}
use Rattle.part_table.specs.declared.table.Table.{Table}
use Rattle.part_table.specs.Faults.{link_fault}
use Rattle.part_table.specs.Fields.{link_type, link_value}
use Rattle.part_table.specs.Links.{is_second, is_second_of, pair_of}
use Rattle.part_table.specs.Partitions.{no_partition, part_at}
use Rattle.part_table.proofs.LinkLemmas.{first_of_pair, one_second, second_found}
use Rattle.part_table.proofs.TestLemmas.{both_of_two, none_passes}
use Rattle.slot_choice.specs.declared.unit.Member.{Member}
use Rattle.slot_choice.specs.declared.unit.Member.TheVariants.{A, B}
use Rattle.boot_map.specs.declared.maps.Pairing.{Pairing}
use Rattle.boot_map.specs.declared.places.MapPlace.{MapPlace}
use Rattle.boot_map.specs.declared.places.MapPlace.TheVariants.{Slot, Partition as Part, Whole, Free}
use Rattle.boot_map.specs.Maps.{paired, pairing, part_pairing}
use Rattle.boot_map.specs.MapRules.{ArePair, IsMemberWith, IsNumbered, IsPairing}
use Rattle.boot_map.specs.WindowRules.{IsListed}

-- the links of a table, where there is one, have no fault
abbrev pub AreLinked : Option Table → Type 0
AreLinked None = Unit {0}
AreLinked (Some t) = link_fault t.parts.items ≡ None

-- the link "A is" by its test and by its fields
second-of : (parts : List Partition) (a b : ℕ) → link_type (part_at parts b) ≡ 1 → link_value (part_at parts b) ≡ a
    → is_second_of a (part_at parts b) ≡ true
second-of parts a b type value =
    let one : is_second (part_at parts b) ≡ true = eq-eqb _ _ type in
    let two : (link_value (part_at parts b) == a) ≡ true = eq-eqb _ _ value in
    ap (λ x. x && (link_value (part_at parts b) == a)) one ∙ two

of-second : (parts : List Partition) (a b : ℕ) → is_second_of a (part_at parts b) ≡ true
    → (link_type (part_at parts b) ≡ 1) × (link_value (part_at parts b) ≡ a)
of-second parts a b is =
    let both : (is_second (part_at parts b) ≡ true) × ((link_value (part_at parts b) == a) ≡ true) =
    both_of_two _ _ is in
    (eqb-true _ _ both.0, eqb-true _ _ both.1)

two-tests : (b : Bool) → b ≡ true → b ≡ false → ⊥
two-tests b one two = cc

same-part : (i k : ℕ) → (let p : MapPlace = Part i in let q : MapPlace = Part k in p ≡ q) → i ≡ k
same-part i k e = cc

-- the pair of a partition
part-right : (t : Table) (i : ℕ) → i < length t.parts.items
    → IsPairing (Some t) (Part i) (part_pairing t.parts.items i)
part-right t i lt = go (is_second (part_at t.parts.items i)) refl
  where
    without : is_second (part_at t.parts.items i) ≡ false → pair_of t.parts.items i ≡ None → (m : Member) (k j : ℕ)
        → IsNumbered (Some t) (Part i) k → IsMemberWith (Some t) m k j → ⊥
    without first none A k j is pair =
        let same : i ≡ k = same-part i k is in
        two-tests (is_second_of i (part_at t.parts.items j))
        (second-of t.parts.items i j pair.1 (pair.2 ∙ sym same))
        (none_passes (is_second_of i) t.parts.items none j no_partition pair.0)
    without first none B k j is pair =
        let same : i ≡ k = same-part i k is in
        let one : is_second (part_at t.parts.items k) ≡ true = eq-eqb _ _ pair.1 in
        two-tests (is_second (part_at t.parts.items i))
        (subst (λ x. is_second (part_at t.parts.items x) ≡ true) (sym same) one) first

    of-b : is_second (part_at t.parts.items i) ≡ false → (o : Option ℕ) → pair_of t.parts.items i ≡ o
        → IsPairing (Some t) (Part i) (option_map (paired A) o)
    of-b first None e = without first e
    of-b first (Some j) e =
        let found = second_found t.parts.items i j e in
        let link = of-second t.parts.items i j found.1 in
        (i, refl, (found.0, link.0, link.1))

    go : (b : Bool) → is_second (part_at t.parts.items i) ≡ b
        → IsPairing (Some t) (Part i)
        (if b then Some (paired B (link_value (part_at t.parts.items i)))
        else option_map (paired A) (pair_of t.parts.items i))
    go true e = (i, refl, (lt, eqb-true _ _ e, refl))
    go false e = of-b e (pair_of t.parts.items i) refl

-- what the function tells is right
pub pairing-right : (t : Option Table) (p : MapPlace) → IsListed t p → IsPairing t p (pairing t p)
pairing-right None (Slot zero) named = (0, refl, (refl, refl))
pairing-right None (Slot (suc zero)) named = (1, refl, (refl, refl))
pairing-right None (Slot (suc (suc k))) named = absurd (omega (arith, named))
pairing-right None (Part i) named = λ m k j is pair. cc
pairing-right None Whole named = λ m k j is pair. cc
pairing-right None Free named = λ m k j is pair. cc
pairing-right (Some t) (Slot number) named = λ m k j is pair. cc
pairing-right (Some t) (Part i) named = part-right t i named
pairing-right (Some t) Whole named = λ m k j is pair. cc
pairing-right (Some t) Free named = λ m k j is pair. cc

-- A has one B, B has one A, and none is both
one-b : (t : Option Table) → AreLinked t → (a i j : ℕ) → ArePair t a i → ArePair t a j → i ≡ j
one-b None linked a i j one two = one.1 ∙ sym two.1
one-b (Some t) linked a i j one two =
    one_second t.parts.items linked a i j one.0 two.0 (second-of t.parts.items a i one.1 one.2)
    (second-of t.parts.items a j two.1 two.2)

one-a : (t : Option Table) (i j b : ℕ) → ArePair t i b → ArePair t j b → i ≡ j
one-a None i j b one two = one.0 ∙ sym two.0
one-a (Some t) i j b one two = sym one.2 ∙ two.2

no-both : (t : Option Table) → AreLinked t → (i k j : ℕ) → ArePair t i k → ArePair t k j → ⊥
no-both None linked i k j one two = let a = one.1 in let b = two.0 in omega arith
no-both (Some t) linked i k j one two =
    let first = first_of_pair t.parts.items linked k j two.0 (second-of t.parts.items k j two.1 two.2) in
    let second : is_second (part_at t.parts.items k) ≡ true = eq-eqb _ _ one.1 in
    two-tests (is_second (part_at t.parts.items k)) second first.2

one-number : (t : Option Table) (p : MapPlace) (k l : ℕ) → IsNumbered t p k → IsNumbered t p l → k ≡ l
one-number None p k l one two =
    same k l (sym one ∙ two)
  where
    same : (a b : ℕ) → (let x : MapPlace = Slot a in let y : MapPlace = Slot b in x ≡ y) → a ≡ b
    same a b e = cc
one-number (Some t) p k l one two = same-part k l (sym one ∙ two)

same-pairing : (m : Member) (i j : ℕ) → i ≡ j → paired m i ≡ paired m j
same-pairing m i j e = ap (paired m) e

pub pairing-once : (t : Option Table) (p : MapPlace) → AreLinked t → (x y : Option Pairing) → IsPairing t p x
    → IsPairing t p y → x ≡ y
pairing-once t p linked None None one two = refl
pairing-once t p linked None (Some y) one two = absurd (one y.member two.0 y.other two.1 two.2)
pairing-once t p linked (Some x) None one two = absurd (two x.member one.0 x.other one.1 one.2)
pairing-once t p linked (Some x) (Some y) one two =
    ap Some (by x.member y.member x.other y.other one.2
    (subst (λ k. IsMemberWith t y.member k y.other) (one-number t p two.0 one.0 two.1 one.1) two.2))
  where
    by : (m o : Member) (i j : ℕ) → IsMemberWith t m one.0 i → IsMemberWith t o one.0 j → paired m i ≡ paired o j
    by A A i j a b = same-pairing A i j (one-b t linked one.0 i j a b)
    by A B i j a b = absurd (no-both t linked j one.0 i b a)
    by B A i j a b = absurd (no-both t linked i one.0 j a b)
    by B B i j a b = same-pairing B i j (one-a t i j one.0 a b)
