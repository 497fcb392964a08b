-- A JSON text gives the spec or the table that the rules name, or has the fault that they name first.
use Rattle.std.proofs.Common.{ℕ, ◌≡◌, ◌≢◌, ◌<◌, ◌≤◌, Bool, true, false, cond, nat_lt, List, Option, Some, None, Result, Ok, Err, IfOk, IfErr, codes, refl, sym, ◌∙◌, ap, subst, inl, inr}
use Rattle.std.specs.Str.{is_utf8}
use Rattle.std.specs.Result.{result_err}
use Rattle.std.proofs.lemmas.Bool.{ltb-true, ltb-false, lt-ltb, le-ltb}
use Rattle.std.proofs.lemmas.Str.{IsUtf8-from_is_utf8, is_utf8-from_IsUtf8}
use Rattle.serde_json.specs.Data.{Data}
use Rattle.serde_json.specs.Read.{read}
use Rattle.part_table.specs.declared.table.Table.{Table}
use Rattle.part_table.specs.declared.table.TableFault.{TableFault}
use Rattle.part_table.specs.Faults.{table_fault}
use Rattle.part_table.specs.Written.{written_size}
use Rattle.part_table.proofs.RuleLemmas.{first_to_rules, rules_to_first, none_to_rules, rules_to_none}
use Rattle.image_pack.specs.declared.spec.SealSpec.{SealSpec}
use Rattle.table_json.specs.declared.fault.JsonFault.{JsonFault}
use Rattle.table_json.specs.declared.fault.JsonFault.TheVariants.{NotJson, Unknown, Missing, Value, TooLong, Table as Faulty, Memory}
use Rattle.table_json.specs.declared.otps.OtpSpec.{OtpSpec}
use Rattle.table_json.specs.Otps.{OtpView, otp_answer, otp_from, otp_spec_from}
use Rattle.table_json.specs.Seals.{spec_from}
use Rattle.table_json.specs.Steps.{◌>>=◌}
use Rattle.table_json.specs.Tables.{table_fields, judged, unless_faulty, table_of_value}
use Rattle.table_json.specs.Texts.{IsJsonText}
use Rattle.table_json.proofs.RuleLemmas.{fields_first, otp_first, spec_first}
use Rattle.cli_inputs.specs.JsonTexts.{json_text}
use Rattle.cli_inputs.specs.Jsons.{IsNoText, IsSpecText, IsTableText, IsOtpText, IsSpecFault, IsTableFault, IsOtpFault, IsTextFault, value_of, read_by, read_fault, spec_read, table_read, otp_read}

-- the value of a text is the one that is read
value-text : (bytes : List ℕ) (d : Data) → value_of bytes ≡ Some d → IsJsonText bytes d
value-text bytes d h = go (is_utf8 bytes) refl h
  where
    go : (t : Bool) → is_utf8 bytes ≡ t → cond t (read bytes) None ≡ Some d → IsJsonText bytes d
    go true is e = record { utf8 = IsUtf8-from_is_utf8 bytes is; reads = e }
    go false is e = cc

text-value : (bytes : List ℕ) (d : Data) → IsJsonText bytes d → value_of bytes ≡ Some d
text-value bytes d is =
    ap (λ t. cond t (read bytes) None) (is_utf8-from_IsUtf8 bytes is.utf8) ∙ is.reads

no-value : (bytes : List ℕ) → value_of bytes ≡ None → IsNoText bytes
no-value bytes h = λ d is. let e : None ≡ Some d = sym h ∙ text-value bytes d is in cc

no-text : (bytes : List ℕ) → IsNoText bytes → value_of bytes ≡ None
no-text bytes no_ = go (value_of bytes) refl
  where
    go : (o : Option Data) → value_of bytes ≡ o → o ≡ None
    go None is = refl
    go (Some d) is = absurd (no_ d (value-text bytes d is))

module _ {A : Type 0} (from : Data → Result A JsonFault) (IsFaultOf : Data → JsonFault → Type 0)
    (wrong : (d : Data) (f : JsonFault) → from d ≡ Err f → IsFaultOf d f)
    (right : (d : Data) (f : JsonFault) → IsFaultOf d f → from d ≡ Err f) where
  -- a fault that is read is one that the rules name
  read-faulty : (bytes text : List ℕ) → read_fault (read_by from (value_of bytes)) ≡ Some text
      → IsTextFault IsFaultOf bytes text
  read-faulty bytes text h = go (value_of bytes) refl h
    where
      of-value : (d : Data) → IsJsonText bytes d → (r : Result A JsonFault) → from d ≡ r → read_fault r ≡ Some text
          → IsTextFault IsFaultOf bytes text
      of-value d is (Ok a) e t = cc
      of-value d is (Err f) e t = let same : text ≡ json_text f = cc in inr (d, is, (f, wrong d f e, same))

      go : (o : Option Data) → value_of bytes ≡ o → read_fault (read_by from o) ≡ Some text
          → IsTextFault IsFaultOf bytes text
      go None is t = let same : text ≡ codes "not-json" = cc in inl (no-value bytes is, same)
      go (Some d) is t = of-value d (value-text bytes d is) (from d) refl t

  -- a fault that the rules name is read
  faulty-read : (bytes text : List ℕ) → IsTextFault IsFaultOf bytes text
      → read_fault (read_by from (value_of bytes)) ≡ Some text
  faulty-read bytes text (inl (no_, is)) =
      ap (λ o. read_fault (read_by from o)) (no-text bytes no_) ∙ ap Some (sym is)
  faulty-read bytes text (inr (d, says, (f, fault, is))) =
      ap (λ o. read_fault (read_by from o)) (text-value bytes d says)
      ∙ (ap (λ (r : Result A JsonFault). read_fault r) (right d f fault) ∙ ap Some (sym is))

  -- what has no fault gives a value
  none-read : (bytes : List ℕ) → read_fault (read_by from (value_of bytes)) ≡ None
      → (a : A) × (read_by from (value_of bytes) ≡ Ok a)
  none-read bytes h = go (read_by from (value_of bytes)) refl h
    where
      go : (r : Result A JsonFault) → read_by from (value_of bytes) ≡ r → read_fault r ≡ None
          → (a : A) × (read_by from (value_of bytes) ≡ Ok a)
      go (Ok a) is t = (a, is)
      go (Err f) is t = cc

  read-gives : (bytes : List ℕ) (a : A) → read_by from (value_of bytes) ≡ Ok a
      → (d : Data) × IsJsonText bytes d × (from d ≡ Ok a)
  read-gives bytes a h = go (value_of bytes) refl h
    where
      go : (o : Option Data) → value_of bytes ≡ o → read_by from o ≡ Ok a
          → (d : Data) × IsJsonText bytes d × (from d ≡ Ok a)
      go None is e = cc
      go (Some d) is e = (d, value-text bytes d is, e)

  gives-read : (bytes : List ℕ) (d : Data) (a : A) → IsJsonText bytes d → from d ≡ Ok a
      → read_by from (value_of bytes) ≡ Ok a
  gives-read bytes d a is e = ap (read_by from) (text-value bytes d is) ∙ e

-- an answer by its fault
err-answer : {A : Type 0} (r : Result A JsonFault) (f : JsonFault) → result_err r ≡ Some f → r ≡ Err f
err-answer (Ok a) f h = cc
err-answer (Err g) f h = let e : g ≡ f = cc in ap Err e

ok-fault : {A : Type 0} (r : Result A JsonFault) (a : A) → r ≡ Ok a → result_err r ≡ None
ok-fault r a is = ap (λ q. result_err q) is

err-fault : {A : Type 0} (r : Result A JsonFault) (f : JsonFault) → r ≡ Err f → result_err r ≡ Some f
err-fault r f is = ap (λ q. result_err q) is

spec-wrong : (d : Data) (f : JsonFault) → spec_from d ≡ Err f → IsSpecFault d f
spec-wrong d f is = sym (spec_first d) ∙ err-fault (spec_from d) f is

spec-right : (d : Data) (f : JsonFault) → IsSpecFault d f → spec_from d ≡ Err f
spec-right d f is = err-answer (spec_from d) f (spec_first d ∙ is)

otp-wrong : (d : Data) (f : JsonFault) → otp_from d ≡ Err f → IsOtpFault d f
otp-wrong d f is = sym (otp_first d) ∙ err-fault (otp_from d) f is

otp-right : (d : Data) (f : JsonFault) → IsOtpFault d f → otp_from d ≡ Err f
otp-right d f is = err-answer (otp_from d) f (otp_first d ∙ is)

-- the fault of the fields of a table, or of a table that they give
judged-wrong : (d : Data) (f : JsonFault) (t : Table) → table_fields d ≡ Ok t → judged t ≡ Err f → IsTableFault d f
judged-wrong d f t is h = go (nat_lt 640 (written_size t)) refl h
  where
    parts : written_size t ≤ 640 → (o : Option TableFault) → table_fault t 4096 2 ≡ o → unless_faulty t o ≡ Err f
        → IsTableFault d f
    parts short None is_none e = cc
    parts short (Some g) is_some e =
        let same : f ≡ Faulty g = cc in
        inr (t, is, inr (short, (g, first_to_rules t.parts.items 4096 2 g is_some, same)))

    go : (b : Bool) → nat_lt 640 (written_size t) ≡ b
        → cond b (Err (TooLong (written_size t))) (unless_faulty t (table_fault t 4096 2)) ≡ Err f → IsTableFault d f
    go true long e =
        let same : f ≡ TooLong (written_size t) = cc in
        inr (t, is, inl (ltb-true 640 (written_size t) long, same))
    go false long e = parts (ltb-false 640 (written_size t) long) (table_fault t 4096 2) refl e

table-wrong : (d : Data) (f : JsonFault) → table_of_value d ≡ Err f → IsTableFault d f
table-wrong d f h = go (table_fields d) refl h
  where
    go : (r : Result Table JsonFault) → table_fields d ≡ r → (r >>= judged) ≡ Err f → IsTableFault d f
    go (Ok t) is e = judged-wrong d f t is e
    go (Err g) is e =
        let same : g ≡ f = cc in
        inl (sym (fields_first d) ∙ (err-fault (table_fields d) g is ∙ ap Some same))

judged-long : (t : Table) → 640 < written_size t → judged t ≡ Err (TooLong (written_size t))
judged-long t long =
    ap (λ b. cond b (Err (TooLong (written_size t))) (unless_faulty t (table_fault t 4096 2)))
    (lt-ltb 640 (written_size t) long)

judged-short : (t : Table) → written_size t ≤ 640 → judged t ≡ unless_faulty t (table_fault t 4096 2)
judged-short t short =
    ap (λ b. cond b (Err (TooLong (written_size t))) (unless_faulty t (table_fault t 4096 2)))
    (le-ltb 640 (written_size t) short)

then-judged : (d : Data) (t : Table) → table_fields d ≡ Ok t → table_of_value d ≡ judged t
then-judged d t is = ap (λ r. r >>= judged) is

table-right : (d : Data) (f : JsonFault) → IsTableFault d f → table_of_value d ≡ Err f
table-right d f (inl broken) = ap (λ r. r >>= judged) (err-answer (table_fields d) f (fields_first d ∙ broken))
table-right d f (inr (t, is, inl (long, same))) = then-judged d t is ∙ (judged-long t long ∙ ap Err (sym same))
table-right d f (inr (t, is, inr (short, (g, first, same)))) =
    then-judged d t is
    ∙ (judged-short t short
    ∙ (ap (unless_faulty t) (rules_to_first t.parts.items 4096 2 g first) ∙ ap Err (sym same)))

-- what a table that is given is
pub record IsGiven (d : Data) (t : Table) : Type 0 where
  pub gives : table_fields d ≡ Ok t
  pub short : written_size t ≤ 640
  pub none : table_fault t 4096 2 ≡ None

judged-given : (d : Data) (t u : Table) → table_fields d ≡ Ok u → judged u ≡ Ok t → IsGiven d t
judged-given d t u is h = go (nat_lt 640 (written_size u)) refl h
  where
    parts : written_size u ≤ 640 → (o : Option TableFault) → table_fault u 4096 2 ≡ o → unless_faulty u o ≡ Ok t
        → IsGiven d t
    parts short None none e =
        let same : u ≡ t = cc in
        subst (IsGiven d) same (record { gives = is; short = short; none = none })
    parts short (Some g) some e = cc

    go : (b : Bool) → nat_lt 640 (written_size u) ≡ b
        → cond b (Err (TooLong (written_size u))) (unless_faulty u (table_fault u 4096 2)) ≡ Ok t → IsGiven d t
    go true long e = cc
    go false long e = parts (ltb-false 640 (written_size u) long) (table_fault u 4096 2) refl e

table-given : (d : Data) (t : Table) → table_of_value d ≡ Ok t → IsGiven d t
table-given d t h = go (table_fields d) refl h
  where
    go : (r : Result Table JsonFault) → table_fields d ≡ r → (r >>= judged) ≡ Ok t → IsGiven d t
    go (Ok u) is e = judged-given d t u is e
    go (Err g) is e = cc

-- the spec of a text
pub spec-formed : (bytes : List ℕ) → read_fault (spec_read bytes) ≡ None → (spec : SealSpec) × IsSpecText bytes spec
unfolding spec_read
spec-formed bytes h =
    let read_is = none-read spec_from IsSpecFault spec-wrong spec-right bytes h in
    let given = read-gives spec_from IsSpecFault spec-wrong spec-right bytes read_is.0 read_is.1 in (
      read_is.0,
      record {
        value = given.0;
        text = given.1;
        unbroken = sym (spec_first given.0) ∙ ok-fault (spec_from given.0) read_is.0 given.2;
        gives = given.2;
      },
    )

pub spec-gives : (bytes : List ℕ) (spec : SealSpec) → IsSpecText bytes spec → spec_read bytes ≡ Ok spec
unfolding spec_read
spec-gives bytes spec is =
    gives-read spec_from IsSpecFault spec-wrong spec-right bytes is.value spec is.text is.gives

pub spec-faulty : (bytes text : List ℕ) → read_fault (spec_read bytes) ≡ Some text
    → IsTextFault IsSpecFault bytes text
unfolding spec_read
spec-faulty bytes text h = read-faulty spec_from IsSpecFault spec-wrong spec-right bytes text h

pub spec-exact : (bytes text : List ℕ) → IsTextFault IsSpecFault bytes text
    → read_fault (spec_read bytes) ≡ Some text
unfolding spec_read
spec-exact bytes text is = faulty-read spec_from IsSpecFault spec-wrong spec-right bytes text is

-- the table of a text
pub table-formed : (bytes : List ℕ) → read_fault (table_read bytes) ≡ None
    → (table : Table) × IsTableText bytes table
unfolding table_read
table-formed bytes h =
    let read_is = none-read table_of_value IsTableFault table-wrong table-right bytes h in
    let given = read-gives table_of_value IsTableFault table-wrong table-right bytes read_is.0 read_is.1 in
    let is = table-given given.0 read_is.0 given.2 in (
      read_is.0,
      record {
        value = given.0;
        text = given.1;
        unbroken = sym (fields_first given.0) ∙ ok-fault (table_fields given.0) read_is.0 is.gives;
        gives = is.gives;
        short = is.short;
        faultless = none_to_rules read_is.0.parts.items 4096 2 is.none;
      },
    )

pub table-gives : (bytes : List ℕ) (table : Table) → IsTableText bytes table → table_read bytes ≡ Ok table
unfolding table_read
table-gives bytes table is =
    gives-read table_of_value IsTableFault table-wrong table-right bytes is.value table is.text
    (then-judged is.value table is.gives
    ∙ (judged-short table is.short
    ∙ ap (unless_faulty table) (rules_to_none table.parts.items 4096 2 is.faultless)))

pub table-faulty : (bytes text : List ℕ) → read_fault (table_read bytes) ≡ Some text
    → IsTextFault IsTableFault bytes text
unfolding table_read
table-faulty bytes text h = read-faulty table_of_value IsTableFault table-wrong table-right bytes text h

pub table-exact : (bytes text : List ℕ) → IsTextFault IsTableFault bytes text
    → read_fault (table_read bytes) ≡ Some text
unfolding table_read
table-exact bytes text is = faulty-read table_of_value IsTableFault table-wrong table-right bytes text is

-- the OTP of a text
pub otp-formed : (bytes : List ℕ) → read_fault (otp_read bytes) ≡ None → (spec : OtpView) × IsOtpText bytes spec
unfolding otp_read
otp-formed bytes h =
    let read_is = none-read otp_from IsOtpFault otp-wrong otp-right bytes h in
    let given = read-gives otp_from IsOtpFault otp-wrong otp-right bytes read_is.0 read_is.1 in (
      read_is.0,
      record {
        value = given.0;
        text = given.1;
        unbroken = sym (otp_first given.0) ∙ ok-fault (otp_from given.0) read_is.0 given.2;
        gives = given.2;
      },
    )

pub otp-gives : (bytes : List ℕ) (spec : OtpView) → IsOtpText bytes spec → otp_read bytes ≡ Ok spec
unfolding otp_read
otp-gives bytes spec is = gives-read otp_from IsOtpFault otp-wrong otp-right bytes is.value spec is.text is.gives

pub otp-text_faulty : (bytes text : List ℕ) → read_fault (otp_read bytes) ≡ Some text
    → IsTextFault IsOtpFault bytes text
unfolding otp_read
otp-text_faulty bytes text h = read-faulty otp_from IsOtpFault otp-wrong otp-right bytes text h

pub otp-text_exact : (bytes text : List ℕ) → IsTextFault IsOtpFault bytes text
    → read_fault (otp_read bytes) ≡ Some text
unfolding otp_read
otp-text_exact bytes text is = faulty-read otp_from IsOtpFault otp-wrong otp-right bytes text is

-- what gives a value has no fault
apart-by : {A : Type 0} (r : Result A JsonFault) (a : A) (text : List ℕ) → r ≡ Ok a → read_fault r ≡ Some text → ⊥
apart-by (Ok b) a text is h = cc
apart-by (Err f) a text is h = cc

pub spec-apart : (bytes text : List ℕ) (spec : SealSpec) → IsSpecText bytes spec
    → IsTextFault IsSpecFault bytes text → ⊥
spec-apart bytes text spec is fault =
    apart-by (spec_read bytes) spec text (spec-gives bytes spec is) (spec-exact bytes text fault)

pub table-apart : (bytes text : List ℕ) (table : Table) → IsTableText bytes table
    → IsTextFault IsTableFault bytes text → ⊥
table-apart bytes text table is fault =
    apart-by (table_read bytes) table text (table-gives bytes table is) (table-exact bytes text fault)

pub otp-text_apart : (bytes text : List ℕ) (spec : OtpView) → IsOtpText bytes spec
    → IsTextFault IsOtpFault bytes text → ⊥
otp-text_apart bytes text spec is fault =
    apart-by (otp_read bytes) spec text (otp-gives bytes spec is) (otp-text_exact bytes text fault)

-- what a reader answers is what is read, by what it says of the value
pub read-exactly : {A : Type 0} (from : Data → Result A JsonFault) (bytes : List ℕ) (r : Result A JsonFault)
    → IfOk r (λ a. (d : Data) × IsJsonText bytes d × (from d ≡ Ok a))
    → IfErr r (λ f. f ≢ NotJson → f ≢ Memory → (d : Data) × IsJsonText bytes d × (from d ≡ Err f))
    → ((d : Data) → IsJsonText bytes d → r ≢ Err Memory → r ≡ from d)
    → r ≢ Err Memory → r ≡ read_by from (value_of bytes)
read-exactly {A} from bytes r ok err exact some = go (value_of bytes) refl
  where
    none : IsNoText bytes → (q : Result A JsonFault) → q ≢ Err Memory
        → IfOk q (λ a. (d : Data) × IsJsonText bytes d × (from d ≡ Ok a))
        → IfErr q (λ f. f ≢ NotJson → f ≢ Memory → (d : Data) × IsJsonText bytes d × (from d ≡ Err f))
        → q ≡ Err NotJson
    none no_ (Ok a) room told wrong = absurd (no_ told.0 told.1)
    none no_ (Err NotJson) room told wrong = refl
    none no_ (Err (Unknown p)) room told wrong =
        let w = wrong (λ (e : Unknown p ≡ NotJson). cc) (λ (e : Unknown p ≡ Memory). cc) in absurd (no_ w.0 w.1)
    none no_ (Err (Missing p f)) room told wrong =
        let w = wrong (λ (e : Missing p f ≡ NotJson). cc) (λ (e : Missing p f ≡ Memory). cc) in absurd (no_ w.0 w.1)
    none no_ (Err (Value p f)) room told wrong =
        let w = wrong (λ (e : Value p f ≡ NotJson). cc) (λ (e : Value p f ≡ Memory). cc) in absurd (no_ w.0 w.1)
    none no_ (Err (TooLong n)) room told wrong =
        let w = wrong (λ (e : TooLong n ≡ NotJson). cc) (λ (e : TooLong n ≡ Memory). cc) in absurd (no_ w.0 w.1)
    none no_ (Err (Faulty f)) room told wrong =
        let w = wrong (λ (e : Faulty f ≡ NotJson). cc) (λ (e : Faulty f ≡ Memory). cc) in absurd (no_ w.0 w.1)
    none no_ (Err Memory) room told wrong = absurd (room refl)

    go : (o : Option Data) → value_of bytes ≡ o → r ≡ read_by from o
    go None is = none (no-value bytes is) r some ok err
    go (Some d) is = exact d (value-text bytes d is) some

pub exact-spec : (bytes : List ℕ) (r : Result SealSpec JsonFault)
    → IfOk r (λ a. (d : Data) × IsJsonText bytes d × (spec_from d ≡ Ok a))
    → IfErr r (λ f. f ≢ NotJson → f ≢ Memory → (d : Data) × IsJsonText bytes d × (spec_from d ≡ Err f))
    → ((d : Data) → IsJsonText bytes d → r ≢ Err Memory → r ≡ spec_from d)
    → r ≢ Err Memory → r ≡ spec_read bytes
unfolding spec_read
exact-spec bytes r ok err exact some = read-exactly spec_from bytes r ok err exact some

pub exact-table : (bytes : List ℕ) (r : Result Table JsonFault)
    → IfOk r (λ a. (d : Data) × IsJsonText bytes d × (table_of_value d ≡ Ok a))
    → IfErr r (λ f. f ≢ NotJson → f ≢ Memory → (d : Data) × IsJsonText bytes d × (table_of_value d ≡ Err f))
    → ((d : Data) → IsJsonText bytes d → r ≢ Err Memory → r ≡ table_of_value d)
    → r ≢ Err Memory → r ≡ table_read bytes
unfolding table_read
exact-table bytes r ok err exact some = read-exactly table_of_value bytes r ok err exact some

no-room : (fault : JsonFault) → fault ≢ Memory → (q : Result OtpView JsonFault) → q ≡ Err fault → q ≢ Err Memory
no-room fault room q is e = let same : fault ≡ Memory = cc in room same

pub exact-otp : (bytes : List ℕ) (r : Result OtpSpec JsonFault)
    → IfOk r (λ a. (d : Data) × IsJsonText bytes d × (otp_from d ≡ Ok (otp_spec_from a)))
    → IfErr r (λ f. f ≢ NotJson → f ≢ Memory → (d : Data) × IsJsonText bytes d × (otp_from d ≡ Err f))
    → ((d : Data) → IsJsonText bytes d → r ≢ Err Memory → otp_answer r ≡ otp_from d)
    → r ≢ Err Memory → otp_answer r ≡ otp_read bytes
unfolding otp_read
exact-otp bytes (Ok spec) ok err exact some =
    read-exactly otp_from bytes (Ok (otp_spec_from spec)) ok err
    (λ d is room. exact d is some) (λ (e : Ok (otp_spec_from spec) ≡ Err Memory). cc)
exact-otp bytes (Err fault) ok err exact some =
    let room : fault ≢ Memory = λ e. some (ap (λ (f : JsonFault). Err f) e) in
    read-exactly otp_from bytes (Err fault) ok err
    (λ d is h. exact d is some) (no-room fault room (Err fault) refl)
