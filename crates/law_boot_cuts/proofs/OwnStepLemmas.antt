-- Where a cut falls in a list of three parts, and what the parts of a start's and a buy's writes are.
use Rattle.std.proofs.Common.{◌≡◌, ◌⊎◌, ℕ, zero, suc, ◌+◌, ◌*◌, ◌/◌, ◌<◌, ◌≤◌, Bool, true, false, List, [], ◌∷◌, ◌++◌, slice_get, Option, Some, None, Result, Ok, Err, refl, sym, ap, ◌∙◌, subst, arith, inl, inr}
use Rattle.std.specs.List.{AllByRecursion}
use Rattle.pico_board.specs.declared.Step.{Step}
use Rattle.pico_board.specs.declared.Step.TheVariants.{Erase, Program, Raise}
use Rattle.pico_board.specs.declared.boot.Cpu.{Cpu}
use Rattle.pico_board.specs.declared.window.Window.{Window}
use Rattle.pico_board.specs.Content.{Content, window_bytes}
use Rattle.pico_board.specs.Sessions.{Confined, IsConfined}
use Rattle.pico_board.specs.Steps.{CutOf, IsCutAt, IsStepIn, MayLeave, after, after_all}
use Rattle.pico_board.proofs.StepLemmas.{CutOf-append_cases, after_all-append}
use Rattle.image_def.specs.declared.started.Started.{Started}
use Rattle.image_check.specs.declared.why.Why.{Why}
use Rattle.image_check.specs.Image.{image_at}
use Rattle.image_check.specs.Valid.{Valid}
use Rattle.image_check.specs.Addressing.{in_flash}
use Rattle.image_check.proofs.LawLemmas.{at-valid, one-image, valid-at}
use Rattle.part_table.specs.Windows.{IsPlacedWindow}
use Rattle.slot_choice.specs.declared.choice.Choice.{Choice}
use Rattle.trial_buy.specs.Buying.{clearing, rewrite_steps}
use Rattle.trial_buy.specs.Starting.{is_other_better, other_erase}
use Rattle.trial_buy.proofs.EraseLemmas.{alone, erased, not-better, unheld}
use Rattle.trial_buy.proofs.StepLemmas.{programs-all, programs_from}

-- a cut of two lists falls in the first one or in the second one
pub cut-parts : (c : Content) (xs ys : List Step) (k : ℕ) (step : Step) (d : Content) → IsCutAt c (xs ++ ys) k step d
    → IsCutAt c xs k step d ⊎ ((j : ℕ) × IsCutAt (after_all c xs) ys j step d)
cut-parts c [] ys k step d at = inr (k, at)
cut-parts c (x ∷ xs) ys zero step d at = inl (record { stands = at.stands; torn = at.torn })
cut-parts c (x ∷ xs) ys (suc k) step d at =
    elim (cut-parts (after c x) xs ys k step d (record { stands = at.stands; torn = at.torn })) [
      | inl first ↦ inl (record { stands = first.stands; torn = first.torn })
      | inr second ↦ inr second
    ]

pub left-parts : (c : Content) (xs ys : List Step) (d : Content) → MayLeave c (xs ++ ys) d
    → CutOf c xs d ⊎ MayLeave (after_all c xs) ys d
left-parts c xs ys d (inl done) = inr (inl (done ∙ after_all-append c xs ys))
left-parts c xs ys d (inr cut) = elim (CutOf-append_cases c xs ys d cut) [
  | inl first ↦ inl first
  | inr second ↦ inr (inr second)
]

-- what holds of all elements holds of the one at a place
pub all-there : {X : Type 0} (P : X → Type 0) (xs : List X) (k : ℕ) (x : X) → AllByRecursion P xs
    → slice_get xs k ≡ Some x → P x
all-there P [] k x all at = cc
all-there P (y ∷ xs) zero x all at = let same : y ≡ x = cc in subst P same all.0
all-there P (y ∷ xs) (suc k) x all at = all-there P xs k x all.1 at

-- steps that are confined to a window inside the flash are in range
confined-in : (n : ℕ) (w : Window) → w.start + w.len ≤ n → (step : Step) → IsConfined w step → IsStepIn n step
confined-in n w inside (Erase s) is = omega (arith, is.1)
confined-in n w inside (Program p d) is = omega (arith, is.1)
confined-in n w inside (Raise r b) is = absurd is

pub confined-range : (n : ℕ) (w : Window) → w.start + w.len ≤ n → (steps : List Step) → Confined steps w
    → AllByRecursion (IsStepIn n) steps
confined-range n w inside [] all = tt
confined-range n w inside (step ∷ steps) all =
    (confined-in n w inside step all.0, confined-range n w inside steps all.1)

-- the rewrite of a sector keeps to a window that holds the sector
programs-confined : (s : ℕ) (bytes : List ℕ) (w : Window) → w.start ≤ 4096 * s → 4096 * s + 4096 ≤ w.start + w.len
    → (i n : ℕ) → i + n ≤ 16
    → Confined (programs_from s bytes i n) w
programs-confined s bytes w low high i zero few = tt
programs-confined s bytes w low high i (suc n) few =
    ((omega arith, omega arith), programs-confined s bytes w low high (i + 1) n (omega arith))

pub rewrite-confined : (s : ℕ) (bytes : List ℕ) (w : Window) → w.start ≤ 4096 * s
    → 4096 * s + 4096 ≤ w.start + w.len → Confined (rewrite_steps s bytes) w
rewrite-confined s bytes w low high = (
  (low, high),
  subst (λ steps. Confined steps w) (sym (programs-all s bytes))
      (programs-confined s bytes w low high 0 16 (omega arith)),
)

-- the sector of a place in a window of whole sectors lies in the window
pub clearing-confined : (flash : List ℕ) (place n : ℕ) (w : Window) → IsPlacedWindow w n 0 → w.start ≤ place
    → place < w.start + w.len
    → Confined (clearing flash place) w
clearing-confined flash place n w placed low high =
    let starts = placed.starts in
    let whole = placed.whole in
    rewrite-confined (place / 4096) _ w (omega arith) (omega arith)

-- the first sector of a window of whole sectors lies in it
pub first-confined : (n : ℕ) (w : Window) → IsPlacedWindow w n 0 → Confined (Erase (w.start / 4096) ∷ []) w
first-confined n w placed =
    let starts = placed.starts in
    let some = placed.some in
    ((omega arith, omega arith), tt)

-- the other member keeps what it has: no image that is better
pub record Keeps (c : Content) (cpu : Cpu) (choice : Choice) : Type 0 where
  pub none : other_erase c cpu choice ≡ []
  pub worse : (w : Window) (t : Started) → choice.other ≡ Some w → Valid c w cpu false t
      → is_other_better choice.member choice.image.version t.version ≡ false

-- the other member's better image is erased
pub record Erases (c : Content) (cpu : Cpu) (choice : Choice) : Type 0 where
  pub window : Window
  pub image : Started
  pub other : choice.other ≡ Some window
  pub valid : Valid c window cpu false image
  pub better : is_other_better choice.member choice.image.version image.version ≡ true
  pub steps : other_erase c cpu choice ≡ Erase (window.start / 4096) ∷ []

pub erase-cases : (c : Content) (cpu : Cpu) (choice : Choice) → choice.updated ≡ true
    → Keeps c cpu choice ⊎ Erases c cpu choice
erase-cases c cpu choice updated = by_other choice.other refl
  where
    same-window : (v w : Window) → choice.other ≡ Some v → choice.other ≡ Some w → v ≡ w
    same-window v w e f = let h : Some v ≡ Some w = sym e ∙ f in cc

    by_version : (v : Window) (t : Started) (yes : Bool) → choice.other ≡ Some v → Valid c v cpu false t
        → is_other_better choice.member choice.image.version t.version ≡ yes
        → Keeps c cpu choice ⊎ Erases c cpu choice
    by_version v t true other valid is = inr (record {
      window = v;
      image = t;
      other = other;
      valid = valid;
      better = is;
      steps = erased c cpu choice v t updated other valid is;
    })
    by_version v t false other valid is = inl (record {
      none = not-better c cpu choice v t other valid is;
      worse = λ w s at there.
          let here : Valid c v cpu false s = subst (λ x. Valid c x cpu false s) (same-window w v at other) there in
          ap (λ (x : Started). is_other_better choice.member choice.image.version x.version)
          (one-image in_flash v cpu false c.otp (window_bytes c v) s t here valid) ∙ is;
    })

    by_image : (v : Window) → choice.other ≡ Some v → (r : Result Started Why) → image_at c v cpu false ≡ r
        → Keeps c cpu choice ⊎ Erases c cpu choice
    by_image v other (Ok t) is =
        by_version v t (is_other_better choice.member choice.image.version t.version) other
        (valid-at c v cpu false t is) refl
    by_image v other (Err y) is = inl (record {
      none = unheld c cpu choice v other (λ s there. never s there);
      worse = λ w s at there. absurd (never s (subst (λ x. Valid c x cpu false s) (same-window w v at other) there));
    })
      where
        never : (s : Started) → Valid c v cpu false s → ⊥
        never s there = let h : Ok s ≡ Err y = sym (at-valid c v cpu false s there) ∙ is in cc

    by_other : (o : Option Window) → choice.other ≡ o → Keeps c cpu choice ⊎ Erases c cpu choice
    by_other None other = inl (record {
      none = alone c cpu choice other;
      worse = λ w s at there. let h : None ≡ Some w = sym other ∙ at in cc;
    })
    by_other (Some v) other = by_image v other (image_at c v cpu false) refl
