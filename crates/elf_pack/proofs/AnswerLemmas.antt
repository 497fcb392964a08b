-- An answer tells each fault exactly, but for want of memory.
use Rattle.std.proofs.Common.{◌≡◌, ◌⊎◌, ℕ, ◌+◌, ◌*◌, ◌≤◌, length, List, Result, Ok, Err, OnOk, IfErr, Option, None, Some, refl, sym, ap, subst, ◌∙◌, inl, inr}
use Rattle.std.specs.Prelude.{IsErrOf}
use Rattle.std.proofs.lemmas.Option.{none-some, same_Some}
use Rattle.pico_board.specs.declared.boot.Cpu.{Cpu}
use Rattle.image_pack.specs.declared.spec.SealError.{SealError}
use Rattle.image_pack.specs.declared.spec.SealError.TheVariants.{BadSpec, Unsealable, TooLarge, BlockTooLong, NotBootable, Displaced, Memory as SealMemory}
use Rattle.image_pack.specs.declared.spec.SealSpec.{SealSpec}
use Rattle.image_pack.specs.Faults.{IsSealFault, IsSealed}
use Rattle.image_pack.proofs.FaultLemmas.{no-fault as no-seal_fault, one-fault as one-seal_fault}
use Rattle.elf_pack.specs.declared.fault.ElfFault.{ElfFault}
use Rattle.elf_pack.specs.declared.fault.ElfFault.TheVariants.{NotElf, FileType, Processor, Headers, Segment, Empty, TooMany, Mixed, Overlap, Seal, Memory}
use Rattle.elf_pack.specs.Binaries.{elf_binary}
use Rattle.elf_pack.specs.Faults.{HasBinary, IsElfFault, IsImageFault, IsRightHead, unsealed}
use Rattle.elf_pack.specs.Fields.{header_count, headers_at}
use Rattle.elf_pack.specs.Judging.{elf_fault, head_fault}
use Rattle.elf_pack.proofs.FaultLemmas.{ElfSays, HeadSays, elf-fault-is, elf-fault-none, elf-says, head-says}

module _ (cpu : Cpu) (elf : List ℕ) where
  pub one-fault : (e f : ElfFault) → IsElfFault cpu elf e → IsElfFault cpu elf f → e ≡ f
  one-fault e f x y = same_Some e f (sym (elf-fault-is cpu elf e x) ∙ elf-fault-is cpu elf f y)

  pub no-fault : HasBinary cpu elf → (e : ElfFault) → IsElfFault cpu elf e → ⊥
  no-fault has e x = none-some e (sym (elf-fault-none cpu elf has) ∙ elf-fault-is cpu elf e x)

  -- what the function answers
  pub says-none : elf_fault cpu elf ≡ None → HasBinary cpu elf
  says-none is = subst (ElfSays cpu elf) is (elf-says cpu elf)

  pub says-some : (e : ElfFault) → elf_fault cpu elf ≡ Some e → IsElfFault cpu elf e
  says-some e is = subst (ElfSays cpu elf) is (elf-says cpu elf)

  pub told : {T : Type 0} (r : Result T ElfFault) → OnOk r (HasBinary cpu elf)
      → IfErr r (λ e. IsElfFault cpu elf e ⊎ (e ≡ Memory)) → (e : ElfFault) → IsElfFault cpu elf e
      → IsErrOf r e ⊎ IsErrOf r Memory
  told (Ok value) has fault e x = absurd (no-fault has e x)
  told (Err f) has fault e x = elim fault [
    | inl y ↦ inl (ap (λ (g : ElfFault). Err g) (one-fault f e y x))
    | inr memory ↦ inr (ap (λ (g : ElfFault). Err g) memory)
  ]

module _ (elf : List ℕ) (spec : SealSpec) where
  abbrev binary : List ℕ
  binary = elf_binary spec.cpu elf

  abbrev IsFileFault : ElfFault → Type 0
  IsFileFault e = IsElfFault spec.cpu elf e

  -- a fault of the image is one of the file, or the binary is not sealed
  abbrev IsEither : ElfFault → Type 0
  IsEither e = IsFileFault e ⊎ ((s : SealError) × (e ≡ Seal s) × HasBinary spec.cpu elf × IsSealFault binary spec s)

  either : (e : ElfFault) → IsImageFault elf spec e → IsEither e
  either NotElf x = inl x
  either FileType x = inl x
  either Processor x = inl x
  either Headers x = inl x
  either (Segment i) x = inl x
  either Empty x = inl x
  either (TooMany n) x = inl x
  either (Mixed i) x = inl x
  either (Overlap i j) x = inl x
  either (Seal s) x = inr (s, refl, x.0, x.1)
  either Memory x = inl x

  pub from-file : (e : ElfFault) → IsFileFault e → IsImageFault elf spec e
  from-file NotElf x = x
  from-file FileType x = x
  from-file Processor x = x
  from-file Headers x = x
  from-file (Segment i) x = x
  from-file Empty x = x
  from-file (TooMany n) x = x
  from-file (Mixed i) x = x
  from-file (Overlap i j) x = x
  from-file (Seal s) x = absurd x
  from-file Memory x = absurd x

  same-image_fault : (e f : ElfFault) → IsEither e → IsEither f → e ≡ f
  same-image_fault e f (inl x) (inl y) = one-fault spec.cpu elf e f x y
  same-image_fault e f (inl x) (inr y) = absurd (no-fault spec.cpu elf y.2 e x)
  same-image_fault e f (inr x) (inl y) = absurd (no-fault spec.cpu elf x.2 f y)
  same-image_fault e f (inr x) (inr y) =
      x.1 ∙ ap (λ (s : SealError). Seal s) (one-seal_fault binary spec x.0 y.0 x.3 y.3) ∙ sym y.1

  none-sealed : HasBinary spec.cpu elf → IsSealed binary spec → (e : ElfFault) → IsEither e → ⊥
  none-sealed has sealed e (inl x) = no-fault spec.cpu elf has e x
  none-sealed has sealed e (inr x) = no-seal_fault binary spec sealed x.0 x.3

  pub one-image_fault : (e f : ElfFault) → IsImageFault elf spec e → IsImageFault elf spec f → e ≡ f
  one-image_fault e f x y = same-image_fault e f (either e x) (either f y)

  pub no-image_fault : HasBinary spec.cpu elf → IsSealed binary spec → (e : ElfFault) → IsImageFault elf spec e → ⊥
  no-image_fault has sealed e x = none-sealed has sealed e (either e x)

  -- a refusal of the binary
  pub unsealed-fault : (s : SealError) → HasBinary spec.cpu elf → IsSealFault binary spec s ⊎ (s ≡ SealMemory)
      → IsImageFault elf spec (unsealed s) ⊎ (unsealed s ≡ Memory)
  unsealed-fault SealMemory has fault = inr refl
  unsealed-fault (BadSpec field) has (inl x) = inl (has, x)
  unsealed-fault (Unsealable why) has (inl x) = inl (has, x)
  unsealed-fault TooLarge has (inl x) = inl (has, x)
  unsealed-fault (BlockTooLong n) has (inl x) = inl (has, x)
  unsealed-fault (NotBootable why) has (inl x) = inl (has, x)
  unsealed-fault Displaced has (inl x) = inl (has, x)
  unsealed-fault s has (inr is) = inr (ap unsealed is)

  pub image-told : {T : Type 0} (r : Result T ElfFault) → OnOk r (HasBinary spec.cpu elf)
      → OnOk r (IsSealed binary spec) → IfErr r (λ e. IsImageFault elf spec e ⊎ (e ≡ Memory)) → (e : ElfFault)
      → IsImageFault elf spec e → IsErrOf r e ⊎ IsErrOf r Memory
  image-told (Ok value) has sealed fault e x = absurd (no-image_fault has sealed e x)
  image-told (Err f) has sealed fault e x = elim fault [
    | inl y ↦ inl (ap (λ (g : ElfFault). Err g) (one-image_fault f e y x))
    | inr memory ↦ inr (ap (λ (g : ElfFault). Err g) memory)
  ]

-- a file whose head has no fault
module _ (cpu : Cpu) (elf : List ℕ) (none : head_fault cpu elf ≡ None) where
  head-right : IsRightHead cpu elf
  head-right = subst (HeadSays cpu elf) none (head-says cpu elf)

  pub head-long : 52 ≤ length elf
  head-long = head-right.begins.long

  pub head-inside : (header_count elf ≡ 0) ⊎ (headers_at elf + 32 * header_count elf ≤ length elf)
  head-inside = elim head-right.headers [ inl none ↦ inl none | inr both ↦ inr (both.1) ]

pub default-none : {X : Type 0} (o : Option X) → ((x : X) → o ≡ Some x → ⊥) → o ≡ None
default-none None other = refl
default-none (Some x) other = absurd (other x refl)

-- a refusal of these bytes, which are the binary
pub put-fault : (elf : List ℕ) (spec : SealSpec) (bytes : List ℕ) (s : SealError) (e : ElfFault)
    → bytes ≡ elf_binary spec.cpu elf → HasBinary spec.cpu elf → e ≡ unsealed s
    → IsSealFault bytes spec s ⊎ (s ≡ SealMemory) → IsImageFault elf spec e ⊎ (e ≡ Memory)
put-fault elf spec bytes s e same has is fault =
    subst (λ (f : ElfFault). IsImageFault elf spec f ⊎ (f ≡ Memory)) (sym is)
    (unsealed-fault elf spec s has
    (subst (λ (ys : List ℕ). IsSealFault ys spec s ⊎ (s ≡ SealMemory)) same fault))
