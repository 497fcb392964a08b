-- Which contents have no accidental image in a window.
use Rattle.std.proofs.Common.{◌≡◌, ◌⊎◌, ◌↔◌, false, Option, Some, None, refl, sym, ◌∙◌, subst, inl, inr}
use Rattle.pico_board.specs.declared.boot.Cpu.{Cpu}
use Rattle.pico_board.specs.declared.window.Window.{Window}
use Rattle.pico_board.specs.Content.{Content, window_bytes}
use Rattle.block_codec.specs.Erased.{IsErasedFrom}
use Rattle.image_def.specs.declared.started.Started.{Started}
use Rattle.image_check.specs.Addressing.{in_flash}
use Rattle.image_check.specs.SameImage.{HoldsImage}
use Rattle.image_check.specs.Valid.{IsValidImage, Valid}
use Rattle.image_check.specs.declared.why.Why.{Why}
use Rattle.image_check.specs.declared.why.Why.TheVariants.{NoBlock}
use Rattle.image_check.proofs.LawLemmas.{at-valid, erased-none, one-image, same-image, valid-holds, valid-window}
use Rattle.std.specs.Prelude.{Result, Ok, Err}
use Rattle.boot_rules.specs.Choosing.{images_in}
use Rattle.boot_rules.specs.Tables.{table_in}
use Rattle.boot_rules.proofs.DecisionLemmas.{found-valid, valid-found}
use Rattle.boot_rules.specs.AccidentalImages.{HasNoImage, IsKnownImage, IsSameImageIn, HasNoAccidentalImage}

-- each image of a window without an accidental image is that of c or that of z; and where each is, and the table is
-- that of c, the window has no accidental image
pub free-image : (c z d : Content) (w : Window) (cpu : Cpu) → HasNoAccidentalImage c z d w cpu → (s : Started)
    → Valid d w cpu false s
    → IsSameImageIn c d w cpu s ⊎ IsSameImageIn z d w cpu s
free-image c z d w cpu no_accident s valid = go no_accident.image
  where
    go : HasNoImage d w cpu ⊎ ((s : Started) × IsKnownImage c z d w cpu s)
        → IsSameImageIn c d w cpu s ⊎ IsSameImageIn z d w cpu s
    go (inl none) = absurd (none s valid)
    go (inr known) =
        let same = one-image in_flash w cpu false d.otp (window_bytes d w) known.0 s known.1.valid valid in
        subst (λ (t : Started). IsSameImageIn c d w cpu t ⊎ IsSameImageIn z d w cpu t) same known.1.known

pub free-by-image : (c z d : Content) (w : Window) (cpu : Cpu) → table_in d ≡ table_in c
    → ((s : Started) → Valid d w cpu false s → IsSameImageIn c d w cpu s ⊎ IsSameImageIn z d w cpu s)
    → HasNoAccidentalImage c z d w cpu
free-by-image c z d w cpu table each = record { table = table; image = go (images_in d cpu w false) refl }
  where
    none : images_in d cpu w false ≡ None → (s : Started) → Valid d w cpu false s → ⊥
    none e s valid = let h : Some s ≡ None = sym (valid-found d cpu w false s valid) ∙ e in cc

    go : (o : Option Started) → images_in d cpu w false ≡ o
        → HasNoImage d w cpu ⊎ ((s : Started) × IsKnownImage c z d w cpu s)
    go None e = inl (none e)
    go (Some s) e =
        let valid = found-valid d cpu w false s e in inr (s, record { valid = valid; known = each s valid })

pub free-exactly : (c z d : Content) (w : Window) (cpu : Cpu) → HasNoAccidentalImage c z d w cpu
    ↔ ((table_in d ≡ table_in c)
    × ((s : Started) → Valid d w cpu false s → IsSameImageIn c d w cpu s ⊎ IsSameImageIn z d w cpu s))
free-exactly c z d w cpu = (
  λ no_accident. (no_accident.table, free-image c z d w cpu no_accident),
  λ both. free-by-image c z d w cpu both.0 both.1,
)

-- two contents with the same bytes in a window and the same rows have the same image there
pub same-there : (c d : Content) (w : Window) (cpu : Cpu) → window_bytes d w ≡ window_bytes c w → d.otp ≡ c.otp
    → (s : Started) → Valid d w cpu false s → IsSameImageIn c d w cpu s
same-there c d w cpu bytes rows s valid =
    let here = valid-window d w cpu false s valid in
    record {
      valid = subst (λ otp. IsValidImage in_flash w cpu false otp (window_bytes c w) s) rows
          (subst (λ xs. IsValidImage in_flash w cpu false d.otp xs s) bytes valid);
      same = same-image d c s cpu
          (subst (λ v. HoldsImage cpu (window_bytes d v) s) (sym here) (valid-holds d w cpu false s valid))
          (subst (λ v. window_bytes d v ≡ window_bytes c v) (sym here) bytes);
    }

pub former-free : (c z d : Content) (w : Window) (cpu : Cpu) → table_in d ≡ table_in c
    → window_bytes d w ≡ window_bytes c w → d.otp ≡ c.otp → HasNoAccidentalImage c z d w cpu
former-free c z d w cpu table bytes rows =
    free-by-image c z d w cpu table (λ s valid. inl (same-there c d w cpu bytes rows s valid))

pub finished-free : (c z d : Content) (w : Window) (cpu : Cpu) → table_in d ≡ table_in c
    → window_bytes d w ≡ window_bytes z w → d.otp ≡ z.otp → HasNoAccidentalImage c z d w cpu
finished-free c z d w cpu table bytes rows =
    free-by-image c z d w cpu table (λ s valid. inr (same-there z d w cpu bytes rows s valid))

-- a window without an image
pub empty-free : (c z d : Content) (w : Window) (cpu : Cpu) → table_in d ≡ table_in c → HasNoImage d w cpu
    → HasNoAccidentalImage c z d w cpu
empty-free c z d w cpu table none = record { table = table; image = inl none }

pub erased-free : (c z d : Content) (w : Window) (cpu : Cpu) → table_in d ≡ table_in c
    → IsErasedFrom (window_bytes d w) 0 4096 → HasNoAccidentalImage c z d w cpu
erased-free c z d w cpu table erased = empty-free c z d w cpu table (λ s valid.
    differ s (at-valid d w cpu false s valid)
    (erased-none in_flash w cpu false d.otp (window_bytes d w) erased))
  where
    differ : {r : Result Started Why} (s : Started) → r ≡ Ok s → r ≡ Err NoBlock → ⊥
    differ s e f = let h : Ok s ≡ Err NoBlock = sym e ∙ f in cc
