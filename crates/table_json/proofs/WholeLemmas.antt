-- A whole table is judged as the block that is written for it is read.
use Rattle.std.proofs.Common.{◌≡◌, ◌↔◌, ℕ, ◌<◌, ◌≤◌, Bool, true, false, List, [], if◌then◌else◌, nat_lt, Option, None, Some, Result, Ok, Err, refl, sym, ap, ◌∙◌, arith}
use Rattle.std.proofs.lemmas.Bool.Decides.{nat_tests}
use Rattle.serde_json.specs.Data.{Data}
use Rattle.block_codec.specs.Blocks.{BlockView}
use Rattle.block_codec.specs.FirstFault.{ok_unless}
use Rattle.part_table.specs.declared.table.Table.{Table}
use Rattle.part_table.specs.declared.table.TableFault.{TableFault}
use Rattle.part_table.specs.Faults.{table_fault}
use Rattle.part_table.specs.Judged.{IsJudgedAs}
use Rattle.part_table.specs.TableOf.{table_of}
use Rattle.part_table.specs.Written.{written_table, written_size}
use Rattle.table_json.specs.declared.fault.JsonFault.{JsonFault}
use Rattle.table_json.specs.declared.fault.JsonFault.TheVariants.{TooLong, Table as Faulty}
use Rattle.table_json.specs.Steps.{◌>>=◌}
use Rattle.table_json.specs.Tables.{table_fields, judged, table_of_value, unless_faulty}
use Rattle.table_json.specs.Texts.{IsJsonText}
use Rattle.table_json.specs.Whole.{IsReadWith, json_answer}
use Rattle.table_json.proofs.PlainLemmas.{table_fault_of}

-- a text has one value
pub one_value : (bytes : List ℕ) (d e : Data) → IsJsonText bytes d → IsJsonText bytes e → d ≡ e
one_value bytes d e one two =
    let first = one.reads in
    let second = two.reads in
    cc

-- the two judgements of a table are one
same_judgement : (t : Table) (o : Option TableFault) → unless_faulty t o ≡ json_answer (ok_unless o t)
same_judgement t None = refl
same_judgement t (Some fault) = refl

same_answers : (one two : Result Table TableFault) → json_answer one ≡ json_answer two → one ≡ two
same_answers (Ok t) (Ok u) is = let same : t ≡ u = cc in ap Ok same
same_answers (Ok t) (Err f) is = cc
same_answers (Err f) (Ok t) is = cc
same_answers (Err f) (Err g) is = let same : f ≡ g = cc in ap Err same

small_size : (n : ℕ) → n ≤ 640 → nat_lt 640 n ≡ false
small_size n le = grind (arith, nat_tests)

-- a table whose block is short enough is judged by its partitions
pub judged-short : (d : Data) (t : Table) → table_fields d ≡ Ok t → written_size t ≤ 640
    → table_of_value d ≡ json_answer (ok_unless (table_fault t 4096 2) t)
judged-short d t fields short =
    ap (λ r. r >>= judged) fields
    ∙ ap (λ (b : Bool). if b then Err (TooLong (written_size t)) else unless_faulty t (table_fault t 4096 2))
    (small_size (written_size t) short)
    ∙ same_judgement t (table_fault t 4096 2)

-- what is read of its block is that judgement
module _ (t : Table) (is : IsJudgedAs (written_table t) t 4096 2) where
  read-judged : IsReadWith (written_table t) (ok_unless (table_fault t 4096 2) t)
  read-judged at rest = is at rest

  one-reading : (answer : Result Table TableFault) → IsReadWith (written_table t) answer
      → ok_unless (table_fault t 4096 2) t ≡ answer
  one-reading answer reads =
      let one = is 0 [] in
      let two = reads 0 [] in
      let found : (b c : BlockView) (o : Option BlockView) → o ≡ Some b → o ≡ Some c → b ≡ c = λ b c o x y. cc in
      let same : one.0 ≡ two.0 = found one.0 two.0 _ one.1 two.1 in
      sym one.3 ∙ ap (λ b. table_of b 4096 2) same ∙ two.3

  pub read-exactly : (r : Result Table JsonFault) (answer : Result Table TableFault)
      → r ≡ json_answer (ok_unless (table_fault t 4096 2) t)
      → (r ≡ json_answer answer) ↔ IsReadWith (written_table t) answer
  read-exactly r answer known = (
    λ says at rest.
        let same = same_answers (ok_unless (table_fault t 4096 2) t) answer (sym known ∙ says) in
        let read = is at rest in (read.0, read.1, read.2, read.3 ∙ same),
    λ reads. known ∙ ap json_answer (one-reading answer reads),
  )

-- a table that is written in more than 640 bytes is refused for its size
pub long-exactly : (d : Data) (t : Table) (size : ℕ) → table_fields d ≡ Ok t
    → (table_of_value d ≡ Err (TooLong size)) ↔ ((640 < written_size t) × (size ≡ written_size t))
long-exactly d t size fields = go (nat_lt 640 (written_size t)) refl
  where
    known : (b : Bool) → nat_lt 640 (written_size t) ≡ b
        → table_of_value d ≡ (if b then Err (TooLong (written_size t)) else unless_faulty t (table_fault t 4096 2))
    known b is = ap (λ r. r >>= judged) fields
        ∙ ap (λ (x : Bool). if x then Err (TooLong (written_size t)) else unless_faulty t (table_fault t 4096 2)) is

    never : (o : Option TableFault) → unless_faulty t o ≡ Err (TooLong size) → ⊥
    never None is = cc
    never (Some fault) is = cc

    go : (b : Bool) → nat_lt 640 (written_size t) ≡ b
        → (table_of_value d ≡ Err (TooLong size)) ↔ ((640 < written_size t) × (size ≡ written_size t))
    go true is = (
      λ says.
          let same : (r : Result Table JsonFault) → r ≡ Err (TooLong (written_size t)) → r ≡ Err (TooLong size)
          → size ≡ written_size t = λ r one two. cc in
          (grind (arith, nat_tests, is), same (table_of_value d) (known true is) says),
      λ x. known true is ∙ ap (λ n. Err (TooLong n)) (sym x.1),
    )
    go false is = (
      λ says. absurd (never (table_fault t 4096 2) (sym (known false is) ∙ says)),
      λ x. absurd (let le : written_size t ≤ 640 = grind (arith, nat_tests, is) in omega (arith, le, x.0)),
    )

-- the table that such a fault is of
pub fault-fields : (d : Data) (fault : TableFault) → table_of_value d ≡ Err (Faulty fault)
    → (t : Table) × (table_fields d ≡ Ok t) × (written_size t ≤ 640)
fault-fields d fault is =
    let found = table_fault_of d fault is in
    (found.0, found.1, go (nat_lt 640 (written_size found.0)) refl)
  where
    go : (b : Bool) → nat_lt 640 (written_size (table_fault_of d fault is).0) ≡ b
        → written_size (table_fault_of d fault is).0 ≤ 640
    go false small = grind (arith, nat_tests, small)
    go true many =
        let long = (long-exactly d (table_fault_of d fault is).0 (written_size (table_fault_of d fault is).0)
        (table_fault_of d fault is).1).1 (grind (arith, nat_tests, many), refl) in
        let differ : (r : Result Table JsonFault) (n : ℕ) → r ≡ Err (TooLong n) → r ≡ Err (Faulty fault) → ⊥ =
        λ r n one two. cc in
        absurd (differ (table_of_value d) _ long is)
