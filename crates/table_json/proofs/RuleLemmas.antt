-- The first rule that a text breaks.
use Rattle.std.proofs.Common.{◌≡◌, ℕ, ◌+◌, Bool, true, false, List, [], ◌∷◌, ◌++◌, length, length-append, Option, None, Some, Result, Ok, Err, is_none, ok_or, option_and_then, refl, sym, ap, ◌∙◌, if◌then◌else◌}
use Rattle.std.specs.Bool.{⊤}
use Rattle.std.specs.Option.{option_or, option_map_or}
use Rattle.std.specs.Result.{result_err}
use Rattle.arrayvec.specs.ArrayVec.{ArrayVec}
use Rattle.serde_json.specs.Data.{Data, Members}
use Rattle.serde_json.specs.Find.{get, as_object, as_bool}
use Rattle.part_table.specs.declared.partition.Partition.{Partition}
use Rattle.table_json.specs.declared.fault.Place.{Place}
use Rattle.table_json.specs.declared.fault.Place.TheVariants.{Top, Unpartitioned as Outside, Partition as Numbered}
use Rattle.table_json.specs.declared.fault.Field.{Field}
use Rattle.table_json.specs.declared.fault.Field.TheVariants.{Version, Singleton, Unpartitioned, Families, Permissions, Partitions, First, Last, Id, Name, Link, IgnoreArm, IgnoreRiscv, NoReboot, Processor, Rollback, Rows, Trial, RollbackRequired, FlashOff, SlotSize, SecureBoot}
use Rattle.table_json.specs.declared.fault.JsonFault.{JsonFault}
use Rattle.table_json.specs.declared.fault.JsonFault.TheVariants.{Unknown, Missing, Value}
use Rattle.table_json.specs.declared.members.Shape.{Shape}
use Rattle.table_json.specs.declared.members.Shape.TheVariants.{OfTable, OfUnpartitioned, OfPartition, OfSpec, OfOtp}
use Rattle.table_json.specs.Steps.{◌>>=◌}
use Rattle.table_json.specs.Members.{member_name, has_unknown, object_judged_as, object_judged, required_in, required, optional_in, optional}
use Rattle.table_json.specs.Forms.{number_below, version_form, link_form, permissions_form}
use Rattle.table_json.specs.Families.{names_form, families_form, no_families}
use Rattle.table_json.specs.Partitions.{id_form, some_name, marks_of, partition_of_value, partitions_after, unpartitioned_of}
use Rattle.table_json.specs.Tables.{no_version, few_form, table_fields}
use Rattle.table_json.specs.Seals.{processor_form, rollback_form, rows_form, no_rows, spec_from}
use Rattle.table_json.specs.Otps.{size_form, pairs_form, otp_from}
use Rattle.table_json.specs.Rules.{otp_rules, Rule, rule, first_broken, object_rules, required_rules, optional_rules, partition_rules, partitions_rules, unpartitioned_rules, rules_if, table_rules, spec_rules}

module _ {B : Type 0} (rest : List Rule) where
  -- an object is judged, and then what comes after it
  object_step_as : (shape : Shape) (place : Place) (field : Field) (found : Option Members)
      (next : ⊤ → Result B JsonFault) → result_err (next (tt {0})) ≡ first_broken rest
      → result_err (object_judged_as shape place field found >>= next)
      ≡ first_broken
      (rule (is_none found) (Value place field) ∷ rule (option_map_or (has_unknown shape) found false) (Unknown place)
      ∷ rest)
  object_step_as shape place field None next later = refl
  object_step_as shape place field (Some ms) next later = unknown_step (has_unknown shape ms)
    where
      unknown_step : (unknown : Bool)
          → result_err ((if unknown then Err (Unknown place) else Ok (tt {0})) >>= next)
          ≡ (if unknown then Some (Unknown place) else first_broken rest)
      unknown_step true = refl
      unknown_step false = later

  object_step : (shape : Shape) (place : Place) (field : Field) (d : Data)
      (next : ⊤ → Result B JsonFault) → result_err (next (tt {0})) ≡ first_broken rest
      → result_err (object_judged shape place field d >>= next)
      ≡ first_broken (object_rules shape place field d ++ rest)
  object_step shape place field d next later = object_step_as shape place field (as_object d) next later

  -- a form is asked for, and then what comes after it
  formed_step : {A : Type 0} (read : Option A) (fault : JsonFault) (next : A → Result B JsonFault)
      → ((a : A) → read ≡ Some a → result_err (next a) ≡ first_broken rest)
      → result_err (ok_or read fault >>= next) ≡ first_broken (rule (is_none read) fault ∷ rest)
  formed_step None fault next later = refl
  formed_step (Some a) fault next later = later a refl

  required_step_in : {A : Type 0} (form : Data → Option A) (place : Place) (field : Field) (found : Option Data)
      (next : A → Result B JsonFault)
      → ((a : A) → option_and_then form found ≡ Some a → result_err (next a) ≡ first_broken rest)
      → result_err (required_in form place field found >>= next)
      ≡ first_broken
      (rule (is_none found) (Missing place field)
      ∷ rule (option_map_or (λ x. is_none (form x)) found false) (Value place field) ∷ rest)
  required_step_in form place field None next later = refl
  required_step_in form place field (Some x) next later = formed_step (form x) (Value place field) next later

  required_step : {A : Type 0} (form : Data → Option A) (place : Place) (field : Field) (d : Data)
      (next : A → Result B JsonFault)
      → ((a : A) → option_and_then form (get (member_name field) d) ≡ Some a → result_err (next a) ≡ first_broken rest)
      → result_err (required form place field d >>= next)
      ≡ first_broken (required_rules form place field d ++ rest)
  required_step form place field d next later = required_step_in form place field (get (member_name field) d) next later

  optional_step_in : {A : Type 0} (form : Data → Option A) (default : A) (place : Place) (field : Field)
      (found : Option Data) (next : A → Result B JsonFault)
      → ((a : A) → result_err (next a) ≡ first_broken rest)
      → result_err (optional_in form default place field found >>= next)
      ≡ first_broken (rule (option_map_or (λ x. is_none (form x)) found false) (Value place field) ∷ rest)
  optional_step_in form default place field None next later = later default
  optional_step_in form default place field (Some x) next later =
      formed_step (form x) (Value place field) next (λ a is. later a)

  optional_step : {A : Type 0} (form : Data → Option A) (default : A) (place : Place) (field : Field) (d : Data)
      (next : A → Result B JsonFault) → ((a : A) → result_err (next a) ≡ first_broken rest)
      → result_err (optional form default place field d >>= next)
      ≡ first_broken (optional_rules form place field d ++ rest)
  optional_step form default place field d next later =
      optional_step_in form default place field (get (member_name field) d) next later

-- the first of some rules and then of others
first_joined : (rs ss : List Rule) → first_broken (rs ++ ss) ≡ option_or (first_broken rs) (first_broken ss)
first_joined [] ss = refl
first_joined (r ∷ rs) ss = joined_if r.broken (Some r.fault) (first_joined rs ss)
  where
    joined_if : (broken : Bool) (fault : Option JsonFault)
        → first_broken (rs ++ ss) ≡ option_or (first_broken rs) (first_broken ss)
        → (if broken then Some r.fault else first_broken (rs ++ ss))
        ≡ option_or (if broken then Some r.fault else first_broken rs) (first_broken ss)
    joined_if true fault later = refl
    joined_if false fault later = later

-- a whole part, and then what comes after it
part_step : {A B : Type 0} (rs rest : List Rule) (r : Result A JsonFault) (next : A → Result B JsonFault)
    → result_err r ≡ first_broken rs → ((a : A) → result_err (next a) ≡ first_broken rest)
    → result_err (r >>= next) ≡ first_broken (rs ++ rest)
part_step rs rest (Err fault) next first later =
    ap (λ (o : Option JsonFault). option_or o (first_broken rest)) first ∙ sym (first_joined rs rest)
part_step rs rest (Ok a) next first later =
    later a ∙ ap (λ (o : Option JsonFault). option_or o (first_broken rest)) first ∙ sym (first_joined rs rest)

-- the rules of a spec from each on
abbrev spec_from_trial : Data → List Rule
spec_from_trial d = optional_rules as_bool Top Trial d

abbrev spec_from_rows : Data → List Rule
spec_from_rows d = optional_rules rows_form Top Rows d ++ spec_from_trial d

abbrev spec_from_rollback : Data → List Rule
spec_from_rollback d = optional_rules rollback_form Top Rollback d ++ spec_from_rows d

abbrev spec_from_version : Data → List Rule
spec_from_version d = optional_rules version_form Top Version d ++ spec_from_rollback d

abbrev spec_from_processor : Data → List Rule
spec_from_processor d = required_rules processor_form Top Processor d ++ spec_from_version d

pub spec_first : (d : Data) → result_err (spec_from d) ≡ first_broken (spec_rules d)
spec_first d =
    object_step (spec_from_processor d) OfSpec Top Processor d _
    (required_step (spec_from_version d) processor_form Top Processor d _
    (λ cpu is. optional_step (spec_from_rollback d) version_form no_version Top Version d _
    (λ version. optional_step (spec_from_rows d) rollback_form None Top Rollback d _
    (λ rollback. optional_step (spec_from_trial d) rows_form no_rows Top Rows d _
    (λ rows. optional_step [] as_bool false Top Trial d _ (λ trial. refl))))))

-- the rules of the marks from each on
abbrev marks_from_stays : ℕ → Data → List Rule
marks_from_stays i d = optional_rules as_bool (Numbered i) NoReboot d

abbrev marks_from_riscv : ℕ → Data → List Rule
marks_from_riscv i d = optional_rules as_bool (Numbered i) IgnoreRiscv d ++ marks_from_stays i d

abbrev marks_from_arm : ℕ → Data → List Rule
marks_from_arm i d = optional_rules as_bool (Numbered i) IgnoreArm d ++ marks_from_riscv i d

marks_first : (i : ℕ) (d : Data) → result_err (marks_of i d) ≡ first_broken (marks_from_arm i d)
marks_first i d =
    optional_step (marks_from_riscv i d) as_bool false (Numbered i) IgnoreArm d _
    (λ arm. optional_step (marks_from_stays i d) as_bool false (Numbered i) IgnoreRiscv d _
    (λ riscv. optional_step [] as_bool false (Numbered i) NoReboot d _ (λ stays. refl)))

-- the rules of a partition from each on
abbrev part_from_marks : ℕ → Data → List Rule
part_from_marks i d = marks_from_arm i d

abbrev part_from_link : ℕ → Data → List Rule
part_from_link i d = optional_rules link_form (Numbered i) Link d ++ part_from_marks i d

abbrev part_from_name : ℕ → Data → List Rule
part_from_name i d = optional_rules some_name (Numbered i) Name d ++ part_from_link i d

abbrev part_from_id : ℕ → Data → List Rule
part_from_id i d = optional_rules id_form (Numbered i) Id d ++ part_from_name i d

abbrev part_from_permissions : ℕ → Data → List Rule
part_from_permissions i d = required_rules permissions_form (Numbered i) Permissions d ++ part_from_id i d

abbrev part_from_families : ℕ → Data → List Rule
part_from_families i d = optional_rules families_form (Numbered i) Families d ++ part_from_permissions i d

abbrev part_from_last : ℕ → Data → List Rule
part_from_last i d = required_rules (number_below 8192) (Numbered i) Last d ++ part_from_families i d

abbrev part_from_first : ℕ → Data → List Rule
part_from_first i d = required_rules (number_below 8192) (Numbered i) First d ++ part_from_last i d

partition_first : (i : ℕ) (d : Data) → result_err (partition_of_value i d) ≡ first_broken (partition_rules i d)
partition_first i d =
    object_step (part_from_first i d) OfPartition (Numbered i) Families d _
    (required_step (part_from_last i d) (number_below 8192) (Numbered i) First d _
    (λ first is. required_step (part_from_families i d) (number_below 8192) (Numbered i) Last d _
    (λ last is. optional_step (part_from_permissions i d) families_form no_families (Numbered i) Families d _
    (λ families. required_step (part_from_id i d) permissions_form (Numbered i) Permissions d _
    (λ permissions is. optional_step (part_from_name i d) id_form None (Numbered i) Id d _
    (λ id. optional_step (part_from_link i d) some_name None (Numbered i) Name d _
    (λ name. optional_step (part_from_marks i d) link_form 0 (Numbered i) Link d _
    (λ link. part_step (marks_from_arm i d) [] (marks_of i d) _ (marks_first i d) (λ marks. refl)))))))))

-- partitions behind those that were read before, whose number is i
partitions_first : (i : ℕ) (done : List Partition) (ds : List Data) → length done ≡ i
    → result_err (partitions_after done ds) ≡ first_broken (partitions_rules i ds)
partitions_first i done [] is = refl
partitions_first i done (d ∷ ds) is =
    part_step (partition_rules i d) (partitions_rules (i + 1) ds) (partition_of_value (length done) d) _
    (ap (λ (k : ℕ). result_err (partition_of_value k d)) is ∙ partition_first i d)
    (λ part. partitions_first (i + 1) (done ++ part ∷ []) ds
    (length-append done (part ∷ []) ∙ ap (λ (k : ℕ). k + 1) is))

-- the rules of what is said of the unpartitioned sectors from each on
abbrev outside_from_permissions : Data → List Rule
outside_from_permissions d = required_rules permissions_form Outside Permissions d

abbrev outside_from_families : Data → List Rule
outside_from_families d = optional_rules names_form Outside Families d ++ outside_from_permissions d

unpartitioned_first : (d : Data) → result_err (unpartitioned_of d) ≡ first_broken (unpartitioned_rules d)
unpartitioned_first d =
    object_step (outside_from_families d) OfUnpartitioned Outside Families d _
    (optional_step (outside_from_permissions d) names_form 0 Outside Families d _
    (λ bits. required_step [] permissions_form Outside Permissions d _ (λ permissions is. refl)))

-- the rules of the parts of a table
abbrev parts_rules : Data → List Rule
parts_rules d =
    rules_if unpartitioned_rules (get (member_name Unpartitioned) d)
    ++ rules_if (partitions_rules 0) (option_and_then few_form (get (member_name Partitions) d))

-- the rules of the parts of a table, where the parts are there
parts_there : (d outside : Data) (list : List Data)
    → option_and_then Some (get (member_name Unpartitioned) d) ≡ Some outside
    → option_and_then few_form (get (member_name Partitions) d) ≡ Some list
    → unpartitioned_rules outside ++ partitions_rules 0 list ≡ parts_rules d
parts_there d outside list found listed =
    let there : get (member_name Unpartitioned) d
    ≡ Some outside = sym (some_of (get (member_name Unpartitioned) d)) ∙ found in
    ap (λ (o : Option Data). rules_if unpartitioned_rules o ++ partitions_rules 0 list) (sym there)
    ∙ ap (λ (o : Option (List Data)). rules_if unpartitioned_rules (get (member_name Unpartitioned) d)
    ++ rules_if (partitions_rules 0) o) (sym listed)
  where
    some_of : (o : Option Data) → option_and_then Some o ≡ o
    some_of None = refl
    some_of (Some x) = refl

-- the rules of a table from each on
abbrev top_from_parts : Data → List Rule
top_from_parts d = parts_rules d

abbrev top_from_partitions : Data → List Rule
top_from_partitions d = required_rules few_form Top Partitions d ++ top_from_parts d

abbrev top_from_unpartitioned : Data → List Rule
top_from_unpartitioned d = required_rules Some Top Unpartitioned d ++ top_from_partitions d

abbrev top_from_singleton : Data → List Rule
top_from_singleton d = optional_rules as_bool Top Singleton d ++ top_from_unpartitioned d

abbrev top_from_version : Data → List Rule
top_from_version d = optional_rules version_form Top Version d ++ top_from_singleton d

pub fields_first : (d : Data) → result_err (table_fields d) ≡ first_broken (table_rules d)
fields_first d =
    object_step (top_from_version d) OfTable Top Partitions d _
    (optional_step (top_from_singleton d) version_form no_version Top Version d _
    (λ version. optional_step (top_from_unpartitioned d) as_bool false Top Singleton d _
    (λ singleton. required_step (top_from_partitions d) Some Top Unpartitioned d _
    (λ outside found. required_step (top_from_parts d) few_form Top Partitions d _
    (λ list listed.
    part_step (unpartitioned_rules outside) (partitions_rules 0 list) (unpartitioned_of outside) _
    (unpartitioned_first outside)
    (λ word. ending list _)
    ∙ ap (λ (rs : List Rule). first_broken rs) (parts_there d outside list found listed))))))
  where
    ending : {C : Type 0} (list : List Data) (make : ArrayVec Partition → C)
        → result_err (partitions_after [] list >>= (λ parts. Ok (make parts))) ≡ first_broken (partitions_rules 0 list)
    ending list make = kept (partitions_after [] list) (partitions_first 0 [] list refl)
      where
        kept : (r : Result (ArrayVec Partition) JsonFault) → result_err r ≡ first_broken (partitions_rules 0 list)
            → result_err (r >>= (λ parts. Ok (make parts))) ≡ first_broken (partitions_rules 0 list)
        kept (Ok parts) is = is
        kept (Err fault) is = is

-- the rules of an OTP from each on
abbrev otp_from_secure : Data → List Rule
otp_from_secure d = optional_rules as_bool Top SecureBoot d

abbrev otp_from_rows : Data → List Rule
otp_from_rows d = optional_rules pairs_form Top Rows d ++ otp_from_secure d

abbrev otp_from_size : Data → List Rule
otp_from_size d = optional_rules size_form Top SlotSize d ++ otp_from_rows d

abbrev otp_from_off : Data → List Rule
otp_from_off d = optional_rules as_bool Top FlashOff d ++ otp_from_size d

abbrev otp_from_required : Data → List Rule
otp_from_required d = optional_rules as_bool Top RollbackRequired d ++ otp_from_off d

pub otp_first : (d : Data) → result_err (otp_from d) ≡ first_broken (otp_rules d)
otp_first d =
    object_step (otp_from_required d) OfOtp Top RollbackRequired d _
    (optional_step (otp_from_off d) as_bool false Top RollbackRequired d _
    (λ required. optional_step (otp_from_size d) as_bool false Top FlashOff d _
    (λ off. optional_step (otp_from_rows d) size_form 0 Top SlotSize d _
    (λ exponent. optional_step (otp_from_secure d) pairs_form [] Top Rows d _
    (λ rows. optional_step [] as_bool false Top SecureBoot d _ (λ secure. refl))))))
