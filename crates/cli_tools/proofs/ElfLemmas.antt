-- The outcome of an ELF file is right by the rules, and no other is.
use Rattle.std.proofs.Common.{◌≡◌, ◌≢◌, ◌⊎◌, ℕ, ◌<◌, get_or, List, length, Option, Some, None, Ok, option_map, refl, sym, ◌∙◌, ap, subst, inl, inr, arith}
use Rattle.std.specs.Option.{option_or}
use Rattle.std.proofs.lemmas.Bool.{cases_lt}
use Rattle.std.proofs.lemmas.List.{get_or_past}
use Rattle.image_pack.specs.declared.spec.SealError.{SealError}
use Rattle.image_pack.specs.declared.spec.SealSpec.{SealSpec}
use Rattle.image_pack.specs.Faults.{IsSealed, block_offset}
use Rattle.image_pack.specs.Sealing.{sealed_text}
use Rattle.table_json.proofs.SpecLemmas.{spec_halves}
use Rattle.elf_pack.specs.declared.fault.ElfFault.{ElfFault}
use Rattle.elf_pack.specs.declared.fault.ElfFault.TheVariants.{NotElf, FileType, Processor, Headers, Segment, Empty, TooMany, Mixed, Overlap, Seal, Memory}
use Rattle.elf_pack.specs.Binaries.{elf_binary}
use Rattle.elf_pack.specs.Faults.{HasBinary, IsElfFault, IsImageFault}
use Rattle.elf_pack.specs.Judging.{elf_fault}
use Rattle.elf_pack.specs.Whole.{IsElfWhole}
use Rattle.elf_pack.proofs.AnswerLemmas.{says-none, says-some}
use Rattle.elf_pack.proofs.FaultLemmas.{elf-fault-is, elf-fault-none}
use Rattle.elf_pack.proofs.WholeLemmas.{whole-told}
use Rattle.cli_course.specs.declared.status.Status.TheVariants.{Done, Input as Refused}
use Rattle.cli_course.specs.Outcomes.{AreBytes, AnswerView, Work, one_file, refused, worked}
use Rattle.cli_inputs.specs.declared.forms.Form.TheVariants.{Spec}
use Rattle.cli_inputs.specs.Forms.{HasForm}
use Rattle.cli_inputs.specs.Jsons.{IsSpecText, spec_read}
use Rattle.cli_inputs.specs.Rules.{IsRefusedOrRight, IsByRules}
use Rattle.cli_inputs.proofs.JsonLemmas.{spec-gives}
use Rattle.cli_inputs.proofs.WorkLemmas.{same-outcome}
use Rattle.cli_tools.specs.Seals.{seal_error, sealed_line}
use Rattle.cli_tools.specs.Elfs.{IsElfOf, IsElfRefused, elf_blamed, elf_text, elf_work, image_fault, packed_work}
use Rattle.cli_tools.proofs.AloneLemmas.{starts-alone}
use Rattle.cli_tools.proofs.SealLemmas.{IsJudged, is_sealed, has_fault, seal-judged, fault-first, sealed-none}

-- the first fault is one by the rules, or there is none and the file has a binary that is sealed
data IsPacked (e : List ℕ) (spec : SealSpec) : Option ElfFault → Type 0 where
  is_packed : HasBinary spec.cpu e → IsSealed (elf_binary spec.cpu e) spec → IsPacked e spec None
  is_faulty : (fault : ElfFault) → IsImageFault e spec fault → IsPacked e spec (Some fault)

-- a fault of the file is one of its image
as-image : (e : List ℕ) (spec : SealSpec) (fault : ElfFault) → IsElfFault spec.cpu e fault → IsImageFault e spec fault
as-image e spec NotElf is = is
as-image e spec FileType is = is
as-image e spec Processor is = is
as-image e spec Headers is = is
as-image e spec (Segment i) is = is
as-image e spec Empty is = is
as-image e spec (TooMany n) is = is
as-image e spec (Mixed i) is = is
as-image e spec (Overlap i j) is = is
as-image e spec (Seal error) is = absurd is
as-image e spec Memory is = absurd is

packed : (e : List ℕ) (spec : SealSpec) → IsPacked e spec (image_fault e spec)
unfolding image_fault
packed e spec = go (elf_fault spec.cpu e) refl
  where
    sealing : HasBinary spec.cpu e → (s : Option SealError) → IsJudged (elf_binary spec.cpu e) spec s
        → IsPacked e spec (option_map Seal s)
    sealing has None (is_sealed sealed) = is_packed has sealed
    sealing has (Some _) (has_fault error fault) = is_faulty (Seal error) (has, fault)

    go : (o : Option ElfFault) → elf_fault spec.cpu e ≡ o
        → IsPacked e spec (option_or o (option_map Seal (seal_error (elf_binary spec.cpu e) spec)))
    go (Some fault) is = is_faulty fault (as-image e spec fault (says-some spec.cpu e fault is))
    go None is =
        sealing (says-none spec.cpu e is) (seal_error (elf_binary spec.cpu e) spec)
        (seal-judged (elf_binary spec.cpu e) spec)

-- the fault that the rules name is the first
pub fault-is : (e : List ℕ) (spec : SealSpec) (fault : ElfFault) → IsImageFault e spec fault
    → image_fault e spec ≡ Some fault
unfolding image_fault
fault-is e spec fault is = go fault is
  where
    first : (f : ElfFault) → IsElfFault spec.cpu e f
        → option_or (elf_fault spec.cpu e) (option_map Seal (seal_error (elf_binary spec.cpu e) spec)) ≡ Some f
    first f here =
        ap (λ o. option_or o (option_map Seal (seal_error (elf_binary spec.cpu e) spec)))
        (elf-fault-is spec.cpu e f here)

    go : (f : ElfFault) → IsImageFault e spec f
        → option_or (elf_fault spec.cpu e) (option_map Seal (seal_error (elf_binary spec.cpu e) spec)) ≡ Some f
    go NotElf here = first NotElf here
    go FileType here = first FileType here
    go Processor here = first Processor here
    go Headers here = first Headers here
    go (Segment i) here = first (Segment i) here
    go Empty here = first Empty here
    go (TooMany n) here = first (TooMany n) here
    go (Mixed i) here = first (Mixed i) here
    go (Overlap i j) here = first (Overlap i j) here
    go (Seal error) here =
        ap (λ o. option_or o (option_map Seal (seal_error (elf_binary spec.cpu e) spec)))
        (elf-fault-none spec.cpu e here.0)
        ∙ ap (λ o. option_map Seal o) (fault-first (elf_binary spec.cpu e) spec error here.1)
    go Memory here = absurd here

pub none-is : (e : List ℕ) (spec : SealSpec) → HasBinary spec.cpu e → IsSealed (elf_binary spec.cpu e) spec
    → image_fault e spec ≡ None
unfolding image_fault
none-is e spec has sealed =
    ap (λ o. option_or o (option_map Seal (seal_error (elf_binary spec.cpu e) spec)))
    (elf-fault-none spec.cpu e has)
    ∙ ap (λ o. option_map Seal o) (sealed-none (elf_binary spec.cpu e) spec sealed)

-- a refusal by the rules, unless there is no memory
pub elf-first : (e : List ℕ) (spec : SealSpec) (fault : ElfFault) → IsImageFault e spec fault ⊎ (fault ≡ Memory)
    → fault ≢ Memory → image_fault e spec ≡ Some fault
elf-first e spec fault (inl wrong) some = fault-is e spec fault wrong
elf-first e spec fault (inr memory) some = absurd (some memory)

bytes-small : (e : List ℕ) → AreBytes e → (k : ℕ) → get_or e k 0 < 256
bytes-small e small k = elim (cases_lt k (length e)) [
  | inl lt ↦ small k 0 lt
  | inr le ↦ subst (λ x. x < 256) (sym (get_or_past e k 0 le)) (omega arith)
]

-- a sealed image of a file of bytes is whole
whole-of : (e s : List ℕ) (asked : SealSpec) → AreBytes e → IsSpecText s asked → HasBinary asked.cpu e
    → IsSealed (elf_binary asked.cpu e) asked → IsElfWhole e asked
whole-of e s asked small says has sealed =
    whole-told {T = Unit {0}} e asked (Ok tt) has sealed (spec_halves says.value asked says.gives) (bytes-small e small)

module _ (elf spec out e s : List ℕ) where
  -- the work by the spec that the text gives
  by-spec : SealSpec → Work
  by-spec asked = packed_work elf spec out e asked (image_fault e asked)

  spec-given : (asked : SealSpec) → IsSpecText s asked
      → worked (elf_work elf spec out e (spec_read s)) ≡ worked (by-spec asked)
  unfolding by-spec
  spec-given asked is = ap (λ r. worked (elf_work elf spec out e r)) (spec-gives s asked is)

  told-elf : SealSpec → AnswerView
  told-elf asked = record {
    status = Done;
    text = sealed_line (length (sealed_text (elf_binary asked.cpu e) asked)) (block_offset (elf_binary asked.cpu e));
    files = one_file out (sealed_text (elf_binary asked.cpu e) asked);
  }

  error-given : (asked : SealSpec) (fault : ElfFault) → image_fault e asked ≡ Some fault
      → worked (by-spec asked) ≡ refused (elf_blamed elf spec fault) (elf_text fault)
  unfolding by-spec
  error-given asked fault is = ap (λ o. worked (packed_work elf spec out e asked o)) is

  none-given : (asked : SealSpec) → image_fault e asked ≡ None → worked (by-spec asked) ≡ told-elf asked
  unfolding by-spec told-elf
  none-given asked is = ap (λ o. worked (packed_work elf spec out e asked o)) is

  abbrev ElfDone : AnswerView → Type 0
  ElfDone o = IsRefusedOrRight (IsElfRefused elf spec e s) (IsElfOf out e s) o

  elf-right : HasForm Spec s → AreBytes e → ElfDone (worked (elf_work elf spec out e (spec_read s)))
  unfolding told-elf
  elf-right form small = go (image_fault e form.1.0) refl (packed e form.1.0)
    where
      go : (o : Option ElfFault) → image_fault e form.1.0 ≡ o → IsPacked e form.1.0 o
          → ElfDone (worked (elf_work elf spec out e (spec_read s)))
      go None is (is_packed has sealed) =
          let same = spec-given form.1.0 form.1.1 ∙ none-given form.1.0 is in
          inr (record {
            asked = form.1.0;
            says = form.1.1;
            binary = has;
            sealed = sealed;
            whole = whole-of e s form.1.0 small form.1.1 has sealed;
            starts = starts-alone (elf_binary form.1.0.cpu e) form.1.0 sealed
                (spec_halves form.1.1.value form.1.0 form.1.1.gives);
            status = ap (λ (o : AnswerView). o.status) same;
            text = ap (λ (o : AnswerView). o.text) same;
            files = ap (λ (o : AnswerView). o.files) same;
          })
      go (Some _) is (is_faulty fault wrong) =
          inl (
            elf_blamed elf spec fault,
            elf_text fault,
            record { asked = form.1.0; says = form.1.1; error = fault; wrong = wrong; blames = refl; tells = refl },
            spec-given form.1.0 form.1.1 ∙ error-given form.1.0 fault is,
          )

  elf-exact : (name fault : List ℕ) → IsElfRefused elf spec e s name fault
      → worked (elf_work elf spec out e (spec_read s)) ≡ refused name fault
  elf-exact name fault is =
      spec-given is.asked is.says
      ∙ (error-given is.asked is.error (fault-is e is.asked is.error is.wrong)
      ∙ (ap (λ n. refused n (elf_text is.error)) (sym is.blames) ∙ ap (λ f. refused name f) (sym is.tells)))

  elf-only : (o : AnswerView) → IsElfOf out e s o → o ≡ worked (elf_work elf spec out e (spec_read s))
  unfolding told-elf
  elf-only o right =
      same-outcome o Done _ _ right.status right.text right.files
      ∙ sym (spec-given right.asked right.says
      ∙ none-given right.asked (none-is e right.asked right.binary right.sealed))

  -- the status is Input only where the rules refuse the file
  elf-refuses : HasForm Spec s → (worked (elf_work elf spec out e (spec_read s))).status ≡ Refused
      → (name : List ℕ) × (fault : List ℕ) × IsElfRefused elf spec e s name fault
  unfolding told-elf
  elf-refuses form h = go (image_fault e form.1.0) refl (packed e form.1.0)
    where
      go : (o : Option ElfFault) → image_fault e form.1.0 ≡ o → IsPacked e form.1.0 o
          → (name : List ℕ) × (fault : List ℕ) × IsElfRefused elf spec e s name fault
      go None is (is_packed has sealed) =
          let same = spec-given form.1.0 form.1.1 ∙ none-given form.1.0 is in
          let e : Done ≡ Refused = sym (ap (λ (o : AnswerView). o.status) same) ∙ h in cc
      go (Some _) is (is_faulty fault wrong) = (
        elf_blamed elf spec fault,
        elf_text fault,
        record { asked = form.1.0; says = form.1.1; error = fault; wrong = wrong; blames = refl; tells = refl },
      )

-- `elf` is right by its rules, where its file is of bytes, since the entry of the file is a word
pub elf-works : (elf spec out e s : List ℕ) → HasForm Spec s
    → IsByRules (AreBytes e) (elf_work elf spec out e (spec_read s)) (IsElfRefused elf spec e s) (IsElfOf out e s)
elf-works elf spec out e s form = record {
  done = elf-right elf spec out e s form;
  only = elf-only elf spec out e s;
  refuses = elf-refuses elf spec out e s form;
  exact = elf-exact elf spec out e s;
}
