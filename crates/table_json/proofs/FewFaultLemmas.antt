-- A table that was read of a text has no bad item, no fault of permissions and no wrong hash.
use Rattle.std.proofs.Common.{◌≡◌, ◌≢◌, inl, inr, ℕ, zero, suc, false, List, [], ◌∷◌, ◌++◌, length, Some, Ok, Err, refl, sym, subst}
use Rattle.std.specs.List.{AllByRecursion}
use Rattle.arrayvec.specs.ArrayVec.{ArrayVec}
use Rattle.serde_json.specs.Data.{Data}
use Rattle.serde_json.specs.Find.{as_bool}
use Rattle.part_table.specs.declared.partition.Partition.{Partition}
use Rattle.part_table.specs.declared.table.Table.{Table}
use Rattle.part_table.specs.declared.table.TableFault.{TableFault}
use Rattle.part_table.specs.declared.table.TableFault.TheVariants.{BadItem, Permissions, Range, Overlap, Link, Hash}
use Rattle.part_table.specs.Fields.{permissions_of}
use Rattle.part_table.specs.Partitions.{part_at}
use Rattle.part_table.specs.Rules.{IsFirstTableFault}
use Rattle.part_table.proofs.RuleLemmas.{first_to_rules}
use Rattle.table_json.specs.declared.fault.JsonFault.TheVariants.{Table as Faulty}
use Rattle.table_json.specs.declared.fault.Place.TheVariants.{Top}
use Rattle.table_json.specs.declared.fault.Field.TheVariants.{Version as OfVersion, Singleton, Unpartitioned, Partitions}
use Rattle.table_json.specs.declared.members.Shape.TheVariants.{OfTable}
use Rattle.table_json.specs.Members.{object_judged, required, optional}
use Rattle.table_json.specs.Forms.{version_form}
use Rattle.table_json.specs.Partitions.{partition_of_value, partitions_after, unpartitioned_of}
use Rattle.table_json.specs.Tables.{no_version, few_form, table_with_fields, table_fields, table_of_value}
use Rattle.table_json.proofs.PlainLemmas.{table_fault_of}
use Rattle.table_json.proofs.SaysLemmas.{then_ok, ok_back, says_text}

-- a partition has one set of permissions in both its words
pub record HasOne (p : Partition) : Type 0 where
  pub same : permissions_of p.location ≡ permissions_of p.flags

one_more : (done : List Partition) (p : Partition) → AllByRecursion HasOne done → HasOne p
    → AllByRecursion HasOne (done ++ p ∷ [])
one_more [] p all one = (one, tt)
one_more (q ∷ done) p all one = (all.0, one_more done p all.1 one)

-- the partitions of a list have
parts_have_one : (done : List Partition) (ds : List Data) (parts : ArrayVec Partition) → AllByRecursion HasOne done
    → partitions_after done ds ≡ Ok parts → AllByRecursion HasOne parts.items
parts_have_one done [] parts all is =
    let same : record { items = done } ≡ parts = cc in
    subst (λ (v : ArrayVec Partition). AllByRecursion HasOne v.items) same all
parts_have_one done (d ∷ ds) parts all is =
    let part = then_ok (partition_of_value (length done) d) _ parts is in
    parts_have_one (done ++ part.0 ∷ []) ds parts
    (one_more done part.0 all (record { same = sym (says_text (length done) d part.0 part.1).again })) part.2

-- a partition at each place, and past the end, has
one_at : (parts : List Partition) (i : ℕ) → AllByRecursion HasOne parts
    → permissions_of (part_at parts i).location ≡ permissions_of (part_at parts i).flags
one_at [] i all = refl
one_at (p ∷ parts) zero all = all.0.same
one_at (p ∷ parts) (suc i) all = one_at parts i all.1

-- the partitions of a table that was read of a text have
fields_have_one : (d : Data) (t : Table) → table_fields d ≡ Ok t → AllByRecursion HasOne t.parts.items
fields_have_one d t is =
    let judged = then_ok (object_judged OfTable Top Partitions d) _ t is in
    let version = then_ok (optional version_form no_version Top OfVersion d) _ t judged.2 in
    let singleton = then_ok (optional as_bool false Top Singleton d) _ t version.2 in
    let outside = then_ok (required Some Top Unpartitioned d) _ t singleton.2 in
    let list = then_ok (required few_form Top Partitions d) _ t outside.2 in
    let word = then_ok (unpartitioned_of outside.0) _ t list.2 in
    let parts = then_ok (partitions_after [] list.0) _ t word.2 in
    let made : table_with_fields version.0 singleton.0 word.0 parts.0 ≡ t = ok_back _ _ parts.2 in
    subst (λ (u : Table). AllByRecursion HasOne u.parts.items) made (parts_have_one [] list.0 parts.0 tt parts.1)

-- a fault of range, of overlap or of a link
pub record IsOther (f : TableFault) : Type 0 where
  pub items : f ≢ BadItem
  pub permissions : (i : ℕ) → f ≢ Permissions i
  pub hash : f ≢ Hash

range_other : (f : TableFault) (i : ℕ) → f ≡ Range i → IsOther f
range_other f i is = record { items = λ e. cc; permissions = λ k e. cc; hash = λ e. cc }

overlap_other : (f : TableFault) (i j : ℕ) → f ≡ Overlap i j → IsOther f
overlap_other f i j is = record { items = λ e. cc; permissions = λ k e. cc; hash = λ e. cc }

link_other : (f : TableFault) (i : ℕ) → f ≡ Link i → IsOther f
link_other f i is = record { items = λ e. cc; permissions = λ k e. cc; hash = λ e. cc }

first_other : (parts : List Partition) (n m : ℕ) (f : TableFault) → AllByRecursion HasOne parts
    → IsFirstTableFault parts n m f → IsOther f
first_other parts n m f all (inl least) = absurd (least.here.1 (one_at parts least.place all))
first_other parts n m f all (inr (inl range)) = range_other f range.1.place range.1.here.0
first_other parts n m f all (inr (inr (inl overlap))) =
    overlap_other f overlap.2.place overlap.2.here.0 overlap.2.here.1
first_other parts n m f all (inr (inr (inr link))) = link_other f link.3.place link.3.here.0

pub text_other : (d : Data) (f : TableFault) → table_of_value d ≡ Err (Faulty f) → IsOther f
text_other d f is =
    let found = table_fault_of d f is in
    first_other found.0.parts.items 4096 2 f (fields_have_one d found.0 found.1)
    (first_to_rules found.0.parts.items 4096 2 f found.2)
