-- What the tables of the slots say that the model does not read or judges otherwise, by the functions and in the words
-- of the rules.
use Rattle.std.proofs.Common.{◌≡◌, ◌≢◌, ℕ, ◌<◌, ◌==◌, ◌&&◌, not, nat_lt, Bool, true, false, cond, List, [], length, Option, Some, None, Result, Ok, Err, option_map, refl, sym, ap, ◌∙◌, subst, inl, inr, arith}
use Rattle.std.specs.Prelude.{option_to_list}
use lib.Pointwise.{pointwise}
use Rattle.std.specs.Bool.{Decides}
use Rattle.std.specs.List.{filter_map, range_with_len}
use Rattle.std.proofs.lemmas.Bool.{eqb-true, eq-eqb}
use Rattle.std.proofs.lemmas.Bool.Decides.{nat_tests}
use Rattle.std.proofs.lemmas.Slice.Eq.{bytes_eq-Decides, slice_eq-Decides}
use Rattle.arrayvec.specs.ArrayVec.{ArrayVec}
use Rattle.pico_board.specs.declared.window.TheConstants.{MOST_FLASH_BYTES}
use Rattle.block_codec.specs.declared.versions.Version.{Version}
use Rattle.part_table.specs.declared.partition.Partition.{Partition}
use Rattle.part_table.specs.declared.table.Table.{Table}
use Rattle.part_table.specs.declared.table.TableFault.TheVariants.{BadItem, Permissions, Range, Overlap, Link, Hash}
use Rattle.part_table.specs.Fields.{has_bit}
use Rattle.part_table.specs.Partitions.{part_at}
use Rattle.part_table.proofs.TestLemmas.{both_of_two}
use Rattle.boot_rules.specs.declared.slots.SlotFault.{SlotFault}
use Rattle.boot_rules.specs.declared.slots.SlotFault.TheVariants.{Loop, NoTable, Table as Faulty}
use Rattle.slot_caveats.specs.declared.caveat.Caveat.{Caveat}
use Rattle.slot_caveats.specs.declared.caveat.Caveat.TheVariants.{ShortFlash, UnreadTargets}
use Rattle.slot_caveats.specs.Listing.{AreOfEach, caveat_if}
use Rattle.slot_caveats.specs.TableCaveats.{are_tied, is_same_flag, is_same_id, is_same_name, is_same_part, is_same_table, is_same_version, range_of, short_flash, table_tie, unread_caveats, unread_families, unread_side, unread_targets}
use Rattle.slot_caveats.specs.TableRules.{AreOfParts, AreTied, AreUnread, IsShortFlash, IsTableTie, IsUnreadSide, IsUnreadTargets}
use Rattle.slot_caveats.proofs.OtpLemmas.{some-bits}
use Rattle.slot_caveats.proofs.ListingLemmas.{IsJust, both-just, each-one-just, never-just, one-just, where-just}

-- ---- a flash that is shorter than 16 MiB

range-says : (answer : Result Table SlotFault) (i : ℕ) → range_of answer ≡ Some i → answer ≡ Err (Faulty (Range i))
range-says (Ok t) i e = cc
range-says (Err (Loop fault)) i e = cc
range-says (Err NoTable) i e = cc
range-says (Err (Faulty BadItem)) i e = cc
range-says (Err (Faulty (Permissions j))) i e = cc
range-says (Err (Faulty (Range j))) i e = cc
range-says (Err (Faulty (Overlap j k))) i e = cc
range-says (Err (Faulty (Link j))) i e = cc
range-says (Err (Faulty Hash)) i e = cc

pub short-just : (n number : ℕ) (answer : Result Table SlotFault)
    → IsJust (IsShortFlash n number answer) (option_to_list (short_flash n number answer))
short-just n number answer =
    one-just (λ i. (answer ≡ Err (Faulty (Range i))) × (n < MOST_FLASH_BYTES)) (ShortFlash number)
    (short_flash n number answer) (to (nat_lt n MOST_FLASH_BYTES) refl)
    (λ i is. from i is.0 (nat_lt n MOST_FLASH_BYTES) refl is.1)
  where
    told : (o : Option ℕ) → range_of answer ≡ o → n < MOST_FLASH_BYTES → (caveat : Caveat)
        → option_map (ShortFlash number) o ≡ Some caveat
        → (i : ℕ) × ((answer ≡ Err (Faulty (Range i))) × (n < MOST_FLASH_BYTES)) × (caveat ≡ ShortFlash number i)
    told None is lt caveat e = cc
    told (Some i) is lt caveat e = (i, (range-says answer i is, lt), cc)

    to : (b : Bool) → nat_lt n MOST_FLASH_BYTES ≡ b → (caveat : Caveat)
        → (cond b (option_map (ShortFlash number) (range_of answer)) (None)) ≡ Some caveat
        → (i : ℕ) × ((answer ≡ Err (Faulty (Range i))) × (n < MOST_FLASH_BYTES)) × (caveat ≡ ShortFlash number i)
    to true is caveat e = told (range_of answer) refl (below n MOST_FLASH_BYTES is) caveat e
      where
        below : (m k : ℕ) → nat_lt m k ≡ true → m < k
        below m k h = grind (arith, nat_tests)
    to false is caveat e = cc

    from : (i : ℕ) → answer ≡ Err (Faulty (Range i)) → (b : Bool) → nat_lt n MOST_FLASH_BYTES ≡ b → n < MOST_FLASH_BYTES
        → (cond b (option_map (ShortFlash number) (range_of answer)) (None))
        ≡ Some (ShortFlash number i)
    from i is true e lt = ap (λ (a : Result Table SlotFault). option_map (ShortFlash number) (range_of a)) is
    from i is false e lt = absurd (apart n MOST_FLASH_BYTES e lt)
      where
        apart : (m k : ℕ) → nat_lt m k ≡ false → m < k → ⊥
        apart m k h lt = grind (arith, nat_tests)

-- ---- what is not read of a table

targets-just : (t : Table) → IsJust (IsUnreadTargets (Some t)) (option_to_list (unread_targets t))
targets-just t =
    one-just (λ bits. (u : Table) × (Some t ≡ Some u) × (bits ≡ unread_families u.unpartitioned) × (bits ≢ 0))
    UnreadTargets (unread_targets t) (to (not (unread_families t.unpartitioned == 0)) refl)
    (λ bits is. from bits is.0 is.1 is.2 is.3 (not (unread_families t.unpartitioned == 0)) refl)
  where
    to : (b : Bool) → not (unread_families t.unpartitioned == 0) ≡ b → (caveat : Caveat)
        → caveat_if b (UnreadTargets (unread_families t.unpartitioned)) ≡ Some caveat
        → (bits : ℕ) × ((u : Table) × (Some t ≡ Some u) × (bits ≡ unread_families u.unpartitioned) × (bits ≢ 0))
        × (caveat ≡ UnreadTargets bits)
    to true is caveat e = (
      unread_families t.unpartitioned,
      (t, refl, refl, (some-bits (unread_families t.unpartitioned)).0 is),
      cc,
    )
    to false is caveat e = cc

    from : (bits : ℕ) (u : Table) → Some t ≡ Some u → bits ≡ unread_families u.unpartitioned → bits ≢ 0 → (b : Bool)
        → not (unread_families t.unpartitioned == 0) ≡ b
        → caveat_if b (UnreadTargets (unread_families t.unpartitioned)) ≡ Some (UnreadTargets bits)
    from bits u same is some b decides =
        let one : t ≡ u = cc in
        let value : unread_families t.unpartitioned ≡ bits =
        ap (λ (x : Table). unread_families x.unpartitioned) one ∙ sym is in
        go b ((sym decides) ∙ (some-bits (unread_families t.unpartitioned)).1 (λ zero_is. some (sym value ∙ zero_is)))
        value
      where
        go : (c : Bool) → c ≡ true → unread_families t.unpartitioned ≡ bits
            → caveat_if c (UnreadTargets (unread_families t.unpartitioned)) ≡ Some (UnreadTargets bits)
        go true e value = ap (λ x. Some (UnreadTargets x)) value
        go false e value = cc

no-targets : IsJust (IsUnreadTargets None) []
no-targets =
    one-just (λ bits. (u : Table) × (None ≡ Some u) × (bits ≡ unread_families u.unpartitioned) × (bits ≢ 0))
    UnreadTargets None (λ caveat e. cc) (λ bits is. absurd (none-some is.0 is.1))
  where
    none-some : (u : Table) → None ≡ Some u → ⊥
    none-some u e = cc

-- the partitions of a table
pub parts-just : (Is : List Partition → ℕ → List Caveat → Type 0) (f : List Partition → ℕ → Option Caveat)
    → ((parts : List Partition) (i : ℕ) → IsJust (Is parts i) (option_to_list (f parts i))) → (t : Table)
    → IsJust (AreOfParts (Some t) Is) (filter_map (f t.parts.items) (range_with_len 0 (length t.parts.items)))
parts-just Is f just t =
    let each = each-one-just (Is t.parts.items) (f t.parts.items) (just t.parts.items)
    (range_with_len 0 (length t.parts.items)) in record {
      right = inl (t, refl, each.right);
      only = λ other is. elim is [
        | inl of ↦ by other of.0 of.1 of.2
        | inr none ↦ absurd (none.0 t refl)
      ];
    }
  where
    by : (other : List Caveat) (u : Table) → Some t ≡ Some u
        → AreOfEach (Is u.parts.items) (range_with_len 0 (length u.parts.items)) other
        → other ≡ filter_map (f t.parts.items) (range_with_len 0 (length t.parts.items))
    by other u same is =
        let one : t ≡ u = cc in
        (each-one-just (Is t.parts.items) (f t.parts.items) (just t.parts.items)
        (range_with_len 0 (length t.parts.items))).only other
        (subst (λ (x : Table). AreOfEach (Is x.parts.items) (range_with_len 0 (length x.parts.items)) other) (sym one)
        is)

pub no-parts : (Is : List Partition → ℕ → List Caveat → Type 0) → IsJust (AreOfParts None Is) []
no-parts Is = record {
  right = inr (λ t e. none-some t e, refl);
  only = λ other is. elim is [ inl of ↦ absurd (none-some of.0 of.1) | inr none ↦ none.1 ];
}
  where
    none-some : (u : Table) → None ≡ Some u → ⊥
    none-some u e = cc

pub unread-just : (table : Option Table) → IsJust (AreUnread table) (unread_caveats table)
unread-just None = both-just [] [] no-targets (no-parts IsUnreadSide)
unread-just (Some t) =
    both-just _ _ (targets-just t)
    (parts-just IsUnreadSide unread_side
    (λ parts i. where-just _ _ (has_bit (part_at parts i).flags 11) (λ e. e, λ e. e)) t)

-- ---- two tables of one version

flag-decides : (a b : Bool) → Decides (is_same_flag a b) (a ≡ b)
flag-decides true true = (λ e. refl, λ e. refl)
flag-decides true false = (λ e. cc, λ e. cc)
flag-decides false true = (λ e. cc, λ e. cc)
flag-decides false false = (λ e. refl, λ e. refl)

id-decides : (a b : Option ℕ) → Decides (is_same_id a b) (a ≡ b)
id-decides None None = (λ e. refl, λ e. refl)
id-decides None (Some y) = (λ e. cc, λ e. cc)
id-decides (Some x) None = (λ e. cc, λ e. cc)
id-decides (Some x) (Some y) = (λ e. ap Some (eqb-true x y e), λ e. eq-eqb x y cc)

vec-same : (x y : ArrayVec ℕ) → x.items ≡ y.items → x ≡ y
vec-same x y e = ap (λ items. record { items = items }) e

name-decides : (a b : Option (ArrayVec ℕ)) → Decides (is_same_name a b) (a ≡ b)
name-decides None None = (λ e. refl, λ e. refl)
name-decides None (Some y) = (λ e. cc, λ e. cc)
name-decides (Some x) None = (λ e. cc, λ e. cc)
name-decides (Some x) (Some y) = (
  λ e. ap Some (vec-same x y ((bytes_eq-Decides x.items y.items).0 e)),
  λ e. (bytes_eq-Decides x.items y.items).1 (inside x y e),
)
  where
    inside : (x y : ArrayVec ℕ) → Some x ≡ Some y → x.items ≡ y.items
    inside x y e = cc

both : (a b : Bool) → a ≡ true → b ≡ true → (a && b) ≡ true
both true true e f = refl
both true false e f = cc
both false b e f = cc

part-decides : (p q : Partition) → Decides (is_same_part p q) (p ≡ q)
part-decides p q = (to, from)
  where
    join : p.location ≡ q.location → p.flags ≡ q.flags → p.id ≡ q.id → p.families ≡ q.families → p.name ≡ q.name → p ≡ q
    join a b c d e =
        ap (λ x. record { location = x; flags = p.flags; id = p.id; families = p.families; name = p.name }) a
        ∙ (ap (λ x. record { location = q.location; flags = x; id = p.id; families = p.families; name = p.name }) b
        ∙ (ap (λ x. record { location = q.location; flags = q.flags; id = x; families = p.families; name = p.name }) c
        ∙ (ap (λ x. record { location = q.location; flags = q.flags; id = q.id; families = x; name = p.name }) d
        ∙ ap (λ x. record { location = q.location; flags = q.flags; id = q.id; families = q.families; name = x }) e)))

    to : is_same_part p q ≡ true → p ≡ q
    to e =
        let four = both_of_two _ _ e in
        let three = both_of_two _ _ four.0 in
        let two = both_of_two _ _ three.0 in
        let one = both_of_two _ _ two.0 in
        join (eqb-true p.location q.location one.0) (eqb-true p.flags q.flags one.1) ((id-decides p.id q.id).0 two.1)
        (vec-same p.families q.families ((bytes_eq-Decides p.families.items q.families.items).0 three.1))
        ((name-decides p.name q.name).0 four.1)

    from : p ≡ q → is_same_part p q ≡ true
    from e =
        both _ _ (both _ _ (both _ _ (both _ _ (eq-eqb p.location q.location (ap (λ (x : Partition). x.location) e))
        (eq-eqb p.flags q.flags (ap (λ (x : Partition). x.flags) e)))
        ((id-decides p.id q.id).1 (ap (λ (x : Partition). x.id) e)))
        ((bytes_eq-Decides p.families.items q.families.items).1 (ap (λ (x : Partition). x.families.items) e)))
        ((name-decides p.name q.name).1 (ap (λ (x : Partition). x.name) e))

version-decides : (v u : Version) → Decides (is_same_version v u) (v ≡ u)
version-decides v u = (
  λ e. (let two = both_of_two _ _ e in
      ap (λ x. record { major = x; minor = v.minor }) (eqb-true v.major u.major two.0)
      ∙ ap (λ x. record { major = u.major; minor = x }) (eqb-true v.minor u.minor two.1)),
  λ e. both _ _ (eq-eqb v.major u.major (ap (λ (x : Version). x.major) e))
      (eq-eqb v.minor u.minor (ap (λ (x : Version). x.minor) e)),
)

pub table-decides : (t u : Table) → Decides (is_same_table t u) (t ≡ u)
table-decides t u = (to, from)
  where
    parts : Decides (pointwise is_same_part t.parts.items u.parts.items) (t.parts.items ≡ u.parts.items)
    parts = slice_eq-Decides part-decides t.parts.items u.parts.items
        (pointwise is_same_part t.parts.items u.parts.items) refl

    to : is_same_table t u ≡ true → t ≡ u
    to e =
        let three = both_of_two _ _ e in
        let two = both_of_two _ _ three.0 in
        let one = both_of_two _ _ two.0 in
        ap (λ x. record { version = x; singleton = t.singleton; unpartitioned = t.unpartitioned; parts = t.parts })
        ((version-decides t.version u.version).0 one.0)
        ∙ (ap (λ x. record { version = u.version; singleton = x; unpartitioned = t.unpartitioned; parts = t.parts })
        ((flag-decides t.singleton u.singleton).0 one.1)
        ∙ (ap (λ x. record { version = u.version; singleton = u.singleton; unpartitioned = x; parts = t.parts })
        (eqb-true t.unpartitioned u.unpartitioned two.1)
        ∙ ap (λ x. record {
          version = u.version;
          singleton = u.singleton;
          unpartitioned = u.unpartitioned;
          parts = record { items = x };
        })
        (parts.0 three.1)))

    from : t ≡ u → is_same_table t u ≡ true
    from e =
        both _ _ (both _ _ (both _ _ ((version-decides t.version u.version).1 (ap (λ (x : Table). x.version) e))
        ((flag-decides t.singleton u.singleton).1 (ap (λ (x : Table). x.singleton) e)))
        (eq-eqb t.unpartitioned u.unpartitioned (ap (λ (x : Table). x.unpartitioned) e)))
        (parts.1 (ap (λ (x : Table). x.parts.items) e))

not-true : (b : Bool) → not b ≡ true → b ≡ true → ⊥
not-true true e f = cc
not-true false e f = cc

not-is : (b : Bool) → (b ≡ true → ⊥) → not b ≡ true
not-is true never = absurd (never refl)
not-is false never = refl

not-false : (b : Bool) → not b ≡ true → b ≡ false
not-false true e = cc
not-false false e = refl

false-not : (b : Bool) → b ≡ false → not b ≡ true
false-not true e = cc
false-not false e = refl

ok-same : (r : Result Table SlotFault) (x y : Table) → r ≡ Ok x → r ≡ Ok y → x ≡ y
ok-same r x y e f = cc

no-table : (r : Result Table SlotFault) (fault : SlotFault) (x : Table) → r ≡ Err fault → r ≡ Ok x → ⊥
no-table r fault x e f = cc

tied-decides : (t u : Table) → Decides (are_tied t u) (AreTied (Ok t) (Ok u))
tied-decides t u = (
  λ e. forth e,
  λ is. back is,
)
  where
    forth : are_tied t u ≡ true → AreTied (Ok t) (Ok u)
    forth e =
        let two = both_of_two (not t.singleton && is_same_version t.version u.version) (not (is_same_table t u)) e in
        let one = both_of_two (not t.singleton) (is_same_version t.version u.version) two.0 in
        record {
          table = t;
          other = u;
          stands = refl;
          beside = refl;
          plain = not-false t.singleton one.0;
          versions = (version-decides t.version u.version).0 one.1;
          differ = λ same. not-true (is_same_table t u) two.1 ((table-decides t u).1 same);
        }

    back : AreTied (Ok t) (Ok u) → are_tied t u ≡ true
    back is =
        let first : t ≡ is.table = ok-same (Ok t) t is.table refl is.stands in
        let second : u ≡ is.other = ok-same (Ok u) u is.other refl is.beside in
        both _ _ (both _ _ (false-not t.singleton (ap (λ (x : Table). x.singleton) first ∙ is.plain))
        ((version-decides t.version u.version).1 (ap (λ (x : Table). x.version) first ∙ (is.versions
        ∙ sym (ap (λ (x : Table). x.version) second)))))
        (not-is (is_same_table t u) (λ same.
        is.differ (sym first ∙ ((table-decides t u).0 same ∙ second))))

pub tie-just : (first second : Result Table SlotFault)
    → IsJust (IsTableTie first second) (option_to_list (table_tie first second))
tie-just (Ok t) (Ok u) = where-just _ _ (are_tied t u) (tied-decides t u)
tie-just (Ok t) (Err fault) = never-just _ _ (λ is. no-table (Err fault) fault is.other refl is.beside)
tie-just (Err fault) answer = never-just _ _ (λ is. no-table (Err fault) fault is.table refl is.stands)
