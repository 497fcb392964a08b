-- The image of a window is what the rules before the digest rule let pass, and then the last two rules.
use Rattle.std.proofs.Common.{◌≡◌, ℕ, Bool, List, length, Option, Some, None, Result, Ok, Err, refl, sym, ◌∙◌}
use Rattle.pico_board.specs.declared.boot.Cpu.{Cpu}
use Rattle.pico_board.specs.declared.window.Window.{Window}
use Rattle.block_codec.specs.declared.definition.EntryPoint.{EntryPoint}
use Rattle.image_def.specs.declared.started.Started.{Started}
use Rattle.load_map.specs.declared.load.Load.{Load}
use Rattle.image_check.specs.declared.addressing.Addressing.{Addressing}
use Rattle.image_check.specs.declared.examining.Defined.{Defined}
use Rattle.image_check.specs.declared.why.Why.{Why}
use Rattle.image_check.specs.Answers.{and_then, and_unless}
use Rattle.image_check.specs.Examined.{admitted_in, confirmed_in, examined_in, loaded_in}
use Rattle.image_check.specs.Image.{defined_in, entered_in, image_in, started_of}
use Rattle.image_check.specs.Rules.{delta_fault, digest_fault, entry_answer, map_answer, rollback_fault, trial_fault}

-- what follows an answer that follows another
then-then : {A B C F : Type 0} (r : Result A F) (f : A → Result B F) (g : B → Result C F) (h : A → Result C F)
    → ((x : A) → and_then (f x) g ≡ h x) → and_then (and_then r f) g ≡ and_then r h
then-then (Ok x) f g h same = same x
then-then (Err e) f g h same = refl

unless-then : {B C F : Type 0} (o : Option F) (r : Result B F) (g : B → Result C F) (q : Result C F)
    → and_then r g ≡ q → and_then (and_unless o r) g ≡ and_unless o q
unless-then None r g q same = same
unless-then (Some e) r g q same = refl

module _ (a : Addressing) (window : Window) (cpu : Cpu) (trial : Bool) (otp bytes : List ℕ) where
  abbrev started : Defined → EntryPoint → Result Started Why
  started image entry = Ok (started_of window image entry)

  module _ (image : Defined) where
    -- what the last two rules leave of an entry
    abbrev ended : List Load → EntryPoint → Result Started Why
    ended loads entry =
        and_unless (digest_fault bytes image.block image.def loads image.def.digest)
        (and_unless (delta_fault image.def.delta) (started image entry))

    abbrev middle : List Load → Result Started Why
    middle loads = and_then (entry_answer a.base bytes cpu image.block image.def loads) (ended loads)

    loaded : and_then (loaded_in a cpu bytes image) (confirmed_in window bytes)
        ≡ and_then (entered_in a cpu bytes image) (started image)
    loaded =
        then-then (map_answer a (length bytes) image.block image.def) _ (confirmed_in window bytes) middle (λ loads.
        then-then (entry_answer a.base bytes cpu image.block image.def loads) _ (confirmed_in window bytes)
        (ended loads) (λ entry. refl))
        ∙ sym (then-then (map_answer a (length bytes) image.block image.def) _ (started image) middle (λ loads.
        then-then (entry_answer a.base bytes cpu image.block image.def loads) _ (started image) (ended loads) (λ entry.
        unless-then (digest_fault bytes image.block image.def loads image.def.digest) _ (started image) _
        (unless-then (delta_fault image.def.delta) (Ok entry) (started image) (started image entry) refl))))

    admitted : and_then (and_then (admitted_in trial otp image.def) (λ u. loaded_in a cpu bytes image))
        (confirmed_in window bytes)
        ≡ and_unless (trial_fault trial image.def)
        (and_unless (rollback_fault otp image.def) (and_then (entered_in a cpu bytes image) (started image)))
    admitted =
        then-then (admitted_in trial otp image.def) (λ u. loaded_in a cpu bytes image) (confirmed_in window bytes)
        (λ u. and_then (entered_in a cpu bytes image) (started image)) (λ u. loaded)
        ∙ unless-then (trial_fault trial image.def) _ (λ u. and_then (entered_in a cpu bytes image) (started image)) _
        (unless-then (rollback_fault otp image.def) (Ok tt)
        (λ u. and_then (entered_in a cpu bytes image) (started image)) _ refl)

  pub examined-image : and_then (examined_in a cpu trial otp bytes) (confirmed_in window bytes)
      ≡ image_in a window cpu trial otp bytes
  unfolding examined_in image_in
  examined-image = then-then (defined_in cpu bytes) _ (confirmed_in window bytes) _ admitted
