-- A partition that was read of a text says what the text says.
use Rattle.std.proofs.Common.{◌≡◌, ℕ, ◌+◌, ◌*◌, ◌/◌, ◌%◌, ◌^◌, ◌<◌, ◌≤◌, Bool, true, false, List, [], ◌∷◌, length, Option, None, Some, Result, Ok, Err, is_some, ok_or, option_map, option_and_then, refl, sym, ap, ◌∙◌, subst, arith, if◌then◌else◌, nat_le, codes}
use Rattle.arrayvec.specs.ArrayVec.{ArrayVec}
use Rattle.serde_json.specs.Data.{Data, Members}
use Rattle.serde_json.specs.Find.{get, as_object, as_bool, as_str}
use Rattle.table_json.specs.declared.families.Families.{Families as FamilyList}
use Rattle.table_json.specs.declared.fault.Place.{Place}
use Rattle.table_json.specs.declared.fault.Field.{Field}
use Rattle.table_json.specs.declared.fault.JsonFault.{JsonFault}
use Rattle.table_json.specs.declared.fault.JsonFault.TheVariants.{Value}
use Rattle.table_json.specs.declared.members.Shape.TheVariants.{OfPermissions}
use Rattle.table_json.specs.Steps.{◌>>=◌}
use Rattle.table_json.specs.Members.{member_name, has_unknown, required_in, required, optional_in, optional}
use Rattle.table_json.specs.Forms.{values_in, number_in, if_below, number_below, link_type_of, link_of, link_in, link_form, rights_of, rights_form, rights_for, permissions_from_rights, permissions_in, permissions_by, permissions_form}
use Rattle.table_json.specs.Families.{bit_if, is_family, family_bits, family_numbers, few_numbers, families_with, families_in, families_form, names_family, no_families}
use Rattle.std.specs.List.{list_any, list_all}
use Rattle.part_table.specs.declared.partition.Partition.{Partition}
use Rattle.part_table.specs.Families.{rp2040_family, absolute_family, data_family, arm_s_family, riscv_family, arm_ns_family}
use Rattle.table_json.specs.declared.members.Shape.TheVariants.{OfPartition}
use Rattle.table_json.specs.declared.fault.Place.TheVariants.{Partition as Numbered}
use Rattle.table_json.specs.declared.fault.Field.TheVariants.{Families, Permissions, First, Last, Id, Name, Link, IgnoreArm, IgnoreRiscv, NoReboot}
use Rattle.table_json.specs.Members.{object_judged}
use Rattle.table_json.specs.Partitions.{location_word, marks_word, flag_word, partition_from_fields, id_form, some_name, marks_of, partition_of_value}
use Rattle.table_json.specs.Says.{SaysText}
use Rattle.table_json.proofs.WordFieldLemmas.{first_back, flags_back, last_back, permissions_back}

-- a step that is done, and the one after it
pub then_ok : {A B : Type 0} (r : Result A JsonFault) (next : A → Result B JsonFault) (b : B) → (r >>= next) ≡ Ok b
    → (a : A) × (r ≡ Ok a) × (next a ≡ Ok b)
then_ok (Ok a) next b is = (a, refl, is)
then_ok (Err fault) next b is = cc

some_if_ok : {A : Type 0} (read : Option A) (fault : JsonFault) (a : A) → ok_or read fault ≡ Ok a → read ≡ Some a
some_if_ok None fault a is = cc
some_if_ok (Some b) fault a is = cc

module _ {A : Type 0} (form : Data → Option A) (P : A → Type 0) (keeps : (x : Data) (a : A) → form x ≡ Some a → P a)
    (place : Place) (field : Field) (d : Data) where
  -- what each value of a form has, a member has too
  required_has : (a : A) → required form place field d ≡ Ok a → P a
  required_has a is = found (get (member_name field) d) is
    where
      found : (o : Option Data) → required_in form place field o ≡ Ok a → P a
      found None is = cc
      found (Some x) is = keeps x a (some_if_ok (form x) (Value place field) a is)

  pub optional_has : (default : A) → P default → (a : A) → optional form default place field d ≡ Ok a → P a
  optional_has default holds a is = found (get (member_name field) d) is
    where
      found : (o : Option Data) → optional_in form default place field o ≡ Ok a → P a
      found None is = let same : default ≡ a = cc in subst P same holds
      found (Some x) is = keeps x a (some_if_ok (form x) (Value place field) a is)

-- a number below a bound is below it
pub if_below_less : (bound m n : ℕ) → if_below bound m ≡ Some n → n < bound
if_below_less bound m n is = grind (arith, is)

pub number_less : (bound : ℕ) (d : Data) (n : ℕ) → number_below bound d ≡ Some n → n < bound
number_less bound d n is = less (number_in d) is
  where
    less : (o : Option ℕ) → option_and_then (if_below bound) o ≡ Some n → n < bound
    less None is = cc
    less (Some m) is = if_below_less bound m n is

-- rights are below 4
rights_less : (text : List ℕ) (n : ℕ) → rights_of text ≡ Some n → n < 4
rights_less text n is = grind (arith, is)

rights_for_less : (name : List ℕ) (d : Data) (n : ℕ) → rights_for name d ≡ Some n → n < 4
rights_for_less name d n is = found (get name d) is
  where
    text : (o : Option (List ℕ)) → option_and_then rights_of o ≡ Some n → n < 4
    text None is = cc
    text (Some t) is = rights_less t n is

    found : (o : Option Data) → option_and_then rights_form o ≡ Some n → n < 4
    found None is = cc
    found (Some x) is = text (as_str x) is

-- permissions are below 64
pub permissions_less : (d : Data) (n : ℕ) → permissions_form d ≡ Some n → n < 64
permissions_less d n is = whole (as_object d) is
  where
    three : (a b c : Option ℕ) → ((k : ℕ) → a ≡ Some k → k < 4) → ((k : ℕ) → b ≡ Some k → k < 4)
        → ((k : ℕ) → c ≡ Some k → k < 4) → permissions_from_rights a b c ≡ Some n → n < 64
    three (Some a) (Some b) (Some c) pa pb pc is =
        let la = pa a refl in
        let lb = pb b refl in
        let lc = pc c refl in
        let same : a + 4 * b + 16 * c ≡ n = cc in
        omega (arith, la, lb, lc, same)
    three None b c pa pb pc is = cc
    three (Some a) None c pa pb pc is = cc
    three (Some a) (Some b) None pa pb pc is = cc

    exact : (unknown : Bool) → (if unknown then None else permissions_in d) ≡ Some n → n < 64
    exact true is = cc
    exact false is =
        three (rights_for (codes "secure") d) (rights_for (codes "nonsecure") d) (rights_for (codes "bootloader") d)
        (rights_for_less (codes "secure") d) (rights_for_less (codes "nonsecure") d)
        (rights_for_less (codes "bootloader") d) is

    whole : (o : Option Members) → permissions_by d o ≡ Some n → n < 64
    whole None is = cc
    whole (Some ms) is = exact (has_unknown OfPermissions ms) is

-- a link is of type 1 or 2 with a value below 16, in its bits
pub record IsLink (n : ℕ) : Type 0 where
  pub kind : ℕ
  pub value : ℕ
  pub bits : n ≡ 2 * kind + 8 * value
  pub small_kind : kind < 4
  pub small_value : value < 16

pub no_link : IsLink 0
no_link = record { kind = 0; value = 0; bits = refl; small_kind = omega arith; small_value = omega arith }

pub link_is : (d : Data) (n : ℕ) → link_form d ≡ Some n → IsLink n
link_is d n is = whole (values_in d) is
  where
    parts : (a b : Option ℕ) → ((k : ℕ) → a ≡ Some k → k < 4) → ((v : ℕ) → b ≡ Some v → v < 16)
        → link_of a b ≡ Some n → IsLink n
    parts (Some k) (Some v) pa pb is = record {
      kind = k;
      value = v;
      bits = let same : 2 * k + 8 * v ≡ n = cc in sym same;
      small_kind = pa k refl;
      small_value = pb v refl;
    }
    parts None b pa pb is = cc
    parts (Some k) None pa pb is = cc

    type_less : (word : List ℕ) (k : ℕ) → link_type_of word ≡ Some k → k < 4
    type_less word k is = grind (arith, is)

    word_less : (o : Option (List ℕ)) (k : ℕ) → option_and_then link_type_of o ≡ Some k → k < 4
    word_less None k is = cc
    word_less (Some word) k is = type_less word k is

    list : (ds : List Data) → link_in ds ≡ Some n → IsLink n
    list [] is = cc
    list (a ∷ []) is = cc
    list (a ∷ b ∷ []) is =
        parts (option_and_then link_type_of (as_str a)) (number_below 16 b) (word_less (as_str a)) (number_less 16 b) is
    list (a ∷ b ∷ c ∷ ds) is = cc

    whole : (o : Option (List Data)) → option_and_then link_in o ≡ Some n → IsLink n
    whole None is = cc
    whole (Some ds) is = list ds is

-- families have six bits and at most three numbers
pub record AreFew (f : FamilyList) : Type 0 where
  pub bits : f.bits < 64
  pub numbers : length f.numbers.items ≤ 3

bit_less : (set : Bool) (bit : ℕ) → bit_if set bit ≤ bit
bit_less true bit = omega arith
bit_less false bit = omega arith

bits_less : (ds : List Data) → family_bits ds < 64
bits_less ds =
    let a = bit_less (list_any (names_family rp2040_family) ds) 1 in
    let b = bit_less (list_any (names_family absolute_family) ds) 2 in
    let c = bit_less (list_any (names_family data_family) ds) 4 in
    let e = bit_less (list_any (names_family arm_s_family) ds) 8 in
    let f = bit_less (list_any (names_family riscv_family) ds) 16 in
    let g = bit_less (list_any (names_family arm_ns_family) ds) 32 in
    omega (arith, a, b, c, e, f, g)

pub families_few : (d : Data) (f : FamilyList) → families_form d ≡ Some f → AreFew f
families_few d f is = whole (values_in d) is
  where
    made : (ds : List Data) (o : Option (ArrayVec ℕ)) → ((ns : ArrayVec ℕ) → o ≡ Some ns → length ns.items ≤ 3)
        → option_map (families_with (family_bits ds)) o ≡ Some f → AreFew f
    made ds None few is = cc
    made ds (Some ns) few is =
        let same : families_with (family_bits ds) ns ≡ f = cc in
        subst AreFew same (record { bits = bits_less ds; numbers = few ns refl })

    counted : (ns : List ℕ) (v : ArrayVec ℕ)
        → (if nat_le (length ns) 3 then Some (record { items = ns }) else None) ≡ Some v
        → length v.items ≤ 3
    counted ns v is = grind (arith, is)

    all : (ds : List Data) (good : Bool)
        → (if good then option_map (families_with (family_bits ds)) (few_numbers ds) else None) ≡ Some f → AreFew f
    all ds true is = made ds (few_numbers ds) (counted (family_numbers ds)) is
    all ds false is = cc

    whole : (o : Option (List Data)) → option_and_then families_in o ≡ Some f → AreFew f
    whole None is = cc
    whole (Some ds) is = all ds (list_all is_family ds) is

pub none_few : AreFew no_families
none_few = record { bits = omega arith; numbers = omega arith }

-- the value of an answer
pub ok_back : {A : Type 0} (a b : A) → (let r : Result A JsonFault = Ok a in r ≡ Ok b) → a ≡ b
ok_back a b is = cc

-- a partition of these parts says them
parts_say : (i : ℕ) (d : Data) (first last permissions : ℕ) (families : FamilyList) (id : Option ℕ)
    (name : Option (ArrayVec ℕ)) (link marks : ℕ) (arm riscv stays : Bool)
    → required (number_below 8192) (Numbered i) First d ≡ Ok first
    → required (number_below 8192) (Numbered i) Last d ≡ Ok last
    → optional families_form no_families (Numbered i) Families d ≡ Ok families
    → required permissions_form (Numbered i) Permissions d ≡ Ok permissions
    → optional id_form None (Numbered i) Id d ≡ Ok id
    → optional some_name None (Numbered i) Name d ≡ Ok name
    → optional link_form 0 (Numbered i) Link d ≡ Ok link
    → optional as_bool false (Numbered i) IgnoreArm d ≡ Ok arm
    → optional as_bool false (Numbered i) IgnoreRiscv d ≡ Ok riscv
    → optional as_bool false (Numbered i) NoReboot d ≡ Ok stays
    → marks_word arm riscv stays ≡ marks
    → SaysText i d (partition_from_fields
    (location_word first last permissions) families permissions id name link marks)
parts_say i d first last permissions families id name link marks arm riscv stays is_first is_last is_families
    is_permissions is_id is_name is_link is_arm is_riscv is_stays is_marks =
    let a = required_has (number_below 8192) (λ n. n < 8192) (number_less 8192) (Numbered i) First d first is_first in
    let b = required_has (number_below 8192) (λ n. n < 8192) (number_less 8192) (Numbered i) Last d last is_last in
    let c = required_has permissions_form (λ n. n < 64) permissions_less (Numbered i) Permissions d permissions
    is_permissions in
    let f : AreFew families =
    optional_has families_form AreFew families_few (Numbered i) Families d no_families none_few families is_families in
    let l : IsLink link = optional_has link_form IsLink link_is (Numbered i) Link d 0 no_link link is_link in
    let word = flag_word (is_some id) (2 * l.kind + 8 * l.value) (length families.numbers.items)
    (marks_word arm riscv stays) (is_some name) families.bits permissions in
    let back = flags_back (is_some id) (is_some name) arm riscv stays l.kind l.value (length families.numbers.items)
    families.bits permissions l.small_kind l.small_value f.numbers f.bits c in
    subst
    (λ (m : ℕ).
    SaysText i d (partition_from_fields (location_word first last permissions) families permissions id name link m))
    is_marks
    (subst
    (λ (n : ℕ).
    SaysText i d
    (partition_from_fields (location_word first last permissions) families permissions id name n
    (marks_word arm riscv stays)))
    (sym l.bits)
    (record {
      first = is_first ∙ ap Ok (sym (first_back first last permissions a b c));
      last = is_last ∙ ap Ok (sym (last_back first last permissions a b c));
      families = is_families ∙ ap (λ (n : ℕ). Ok (families_with n families.numbers)) (sym back.six_is);
      permissions = is_permissions ∙ ap Ok (sym (permissions_back first last permissions a b c));
      again = back.again_is ∙ sym (permissions_back first last permissions a b c);
      id = is_id;
      name = is_name;
      link = is_link ∙ ap Ok l.bits
          ∙ ap (λ (n : ℕ). Ok (2 * n + 8 * l.value)) (sym back.kind_is)
          ∙ ap (λ (n : ℕ). Ok (2 * (word / 2 ^ 1 % 2 ^ 2) + 8 * n)) (sym back.value_is);
      arm = is_arm ∙ ap Ok (sym back.arm_is);
      riscv = is_riscv ∙ ap Ok (sym back.riscv_is);
      stays = is_stays ∙ ap Ok (sym back.stays_is);
    }))

pub says_text : (i : ℕ) (d : Data) (p : Partition) → partition_of_value i d ≡ Ok p → SaysText i d p
says_text i d p is =
    let judged = then_ok (object_judged OfPartition (Numbered i) Families d) _ p is in
    let first = then_ok (required (number_below 8192) (Numbered i) First d) _ p judged.2 in
    let last = then_ok (required (number_below 8192) (Numbered i) Last d) _ p first.2 in
    let families = then_ok (optional families_form no_families (Numbered i) Families d) _ p last.2 in
    let permissions = then_ok (required permissions_form (Numbered i) Permissions d) _ p families.2 in
    let id = then_ok (optional id_form None (Numbered i) Id d) _ p permissions.2 in
    let name = then_ok (optional some_name None (Numbered i) Name d) _ p id.2 in
    let link = then_ok (optional link_form 0 (Numbered i) Link d) _ p name.2 in
    let marks = then_ok (marks_of i d) _ p link.2 in
    let arm = then_ok (optional as_bool false (Numbered i) IgnoreArm d) _ marks.0 marks.1 in
    let riscv = then_ok (optional as_bool false (Numbered i) IgnoreRiscv d) _ marks.0 arm.2 in
    let stays = then_ok (optional as_bool false (Numbered i) NoReboot d) _ marks.0 riscv.2 in
    let marks_are : marks_word arm.0 riscv.0 stays.0 ≡ marks.0 = ok_back _ _ stays.2 in
    let made : partition_from_fields (location_word first.0 last.0 permissions.0) families.0 permissions.0 id.0 name.0
    link.0 marks.0
    ≡ p = ok_back _ _ marks.2 in
    subst (SaysText i d) made
    (parts_say i d first.0 last.0 permissions.0 families.0 id.0 name.0 link.0 marks.0 arm.0 riscv.0 stays.0
    first.1 last.1
    families.1 permissions.1 id.1 name.1 link.1 arm.1 riscv.1 stays.1 marks_are)
