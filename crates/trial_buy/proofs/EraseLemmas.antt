-- When the other member's first sector is erased.
use Rattle.std.proofs.Common.{◌≡◌, ◌↔◌, ◌/◌, Bool, true, false, not, ◌&&◌, cond, [], ◌∷◌, Option, Some, None, Result, Ok, Err, refl, ap, ◌∙◌}
use Rattle.std.specs.Prelude.{if◌then◌else◌}
use Rattle.std.specs.Result.{result_ok}
use Rattle.pico_board.specs.declared.Step.TheVariants.{Erase}
use Rattle.pico_board.specs.declared.boot.Cpu.{Cpu}
use Rattle.pico_board.specs.declared.window.Window.{Window}
use Rattle.pico_board.specs.Content.{Content}
use Rattle.block_codec.specs.declared.versions.Version.{Version}
use Rattle.image_def.specs.declared.started.Started.{Started}
use Rattle.image_check.specs.declared.why.Why.{Why}
use Rattle.image_check.specs.Image.{image_at}
use Rattle.image_check.specs.Valid.{Valid}
use Rattle.image_check.proofs.LawLemmas.{at-valid, valid-at}
use Rattle.slot_choice.specs.declared.unit.Member.{Member}
use Rattle.slot_choice.specs.declared.unit.Member.TheVariants.{A, B}
use Rattle.slot_choice.specs.declared.choice.Choice.{Choice}
use Rattle.slot_choice.specs.Versions.{better, better_of}
use Rattle.trial_buy.specs.Starting.{erase_of, is_other_better, is_second, other_erase, other_image}

better-by : (m : Member) → (is_second m ≡ true) ↔ (Some m ≡ Some B)
better-by A = (λ e. cc, λ e. cc)
better-by B = (λ e. refl, λ e. refl)

first-by : (m : Member) → (not (is_second m) ≡ true) ↔ (Some m ≡ Some A)
first-by A = (λ e. refl, λ e. refl)
first-by B = (λ e. cc, λ e. cc)

pub beside-a : (v w : Version) → (is_other_better A v w ≡ true) ↔ (better (Some v) (Some w) ≡ Some B)
beside-a v w = better-by (better_of v w)

pub beside-b : (v w : Version) → (is_other_better B v w ≡ true) ↔ (better (Some w) (Some v) ≡ Some A)
beside-b v w = first-by (better_of w v)

-- an image that is valid is the other member's image
valid-image : (c : Content) (cpu : Cpu) (w : Window) (s : Started) → Valid c w cpu false s
    → other_image c cpu (Some w) ≡ Some s
valid-image c cpu w s v = ap result_ok (at-valid c w cpu false s v)

no-image : (c : Content) (cpu : Cpu) (w : Window) → ((s : Started) → Valid c w cpu false s → ⊥)
    → other_image c cpu (Some w) ≡ None
no-image c cpu w none = go (image_at c w cpu false) refl
  where
    go : (r : Result Started Why) → image_at c w cpu false ≡ r → result_ok r ≡ None
    go (Ok s) e = absurd (none s (valid-at c w cpu false s e))
    go (Err y) e = refl

erase-by : (c : Content) (cpu : Cpu) (choice : Choice) (o : Option Window) (i : Option Started) → choice.other ≡ o
    → other_image c cpu o ≡ i
    → other_erase c cpu choice ≡ erase_of choice o i
erase-by c cpu choice o i other image = ap (λ p. erase_of choice p (other_image c cpu p)) other
    ∙ ap (erase_of choice o) image

both : (a b : Bool) → a ≡ true → b ≡ true → (a && b) ≡ true
both true true e f = refl
both true false e f = cc
both false b e f = cc

either : (a b : Bool) → b ≡ false → (a && b) ≡ false
either true b e = e
either false b e = refl

pub erased : (c : Content) (cpu : Cpu) (choice : Choice) (w : Window) (s : Started) → choice.updated ≡ true
    → choice.other ≡ Some w
    → Valid c w cpu false s → is_other_better choice.member choice.image.version s.version ≡ true
    → other_erase c cpu choice ≡ Erase (w.start / 4096) ∷ []
erased c cpu choice w s updated other valid is =
    erase-by c cpu choice (Some w) (Some s) other (valid-image c cpu w s valid)
    ∙ ap (λ yes. if yes then Erase (w.start / 4096) ∷ [] else []) (both choice.updated _ updated is)

pub not-better : (c : Content) (cpu : Cpu) (choice : Choice) (w : Window) (s : Started) → choice.other ≡ Some w
    → Valid c w cpu false s → is_other_better choice.member choice.image.version s.version ≡ false
    → other_erase c cpu choice ≡ []
not-better c cpu choice w s other valid is =
    erase-by c cpu choice (Some w) (Some s) other (valid-image c cpu w s valid)
    ∙ ap (λ yes. if yes then Erase (w.start / 4096) ∷ [] else []) (either choice.updated _ is)

pub unheld : (c : Content) (cpu : Cpu) (choice : Choice) (w : Window) → choice.other ≡ Some w
    → ((s : Started) → Valid c w cpu false s → ⊥)
    → other_erase c cpu choice ≡ []
unheld c cpu choice w other none = erase-by c cpu choice (Some w) None other (no-image c cpu w none)

pub alone : (c : Content) (cpu : Cpu) (choice : Choice) → choice.other ≡ None → other_erase c cpu choice ≡ []
alone c cpu choice other = erase-by c cpu choice None None other refl

pub not-updated : (c : Content) (cpu : Cpu) (choice : Choice) → choice.updated ≡ false → other_erase c cpu choice ≡ []
not-updated c cpu choice plain = go choice.other (other_image c cpu choice.other)
  where
    go : (o : Option Window) (i : Option Started) → erase_of choice o i ≡ []
    go None i = refl
    go (Some w) None = refl
    go (Some w) (Some s) =
        ap (λ yes. if yes && is_other_better choice.member choice.image.version s.version then Erase (w.start / 4096)
        ∷ [] else []) plain
