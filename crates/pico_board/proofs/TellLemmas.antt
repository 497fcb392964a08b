-- A board that tells its armed cut does with a step what the cut says.
use Rattle.std.proofs.Common.{◌≡◌, ℕ, ◌+◌, ◌-◌, ◌^◌, ◌≤◌, ◌==◌, min, Bool, true, false, cond, Option, None, Some, List, [], ◌∷◌, ◌++◌, length, refl, sym, ◌∙◌, ap, subst, arith}
use Rattle.std.specs.Option.{option_map}
use Rattle.std.specs.Prelude.{Vec, vec_len}
use Rattle.std.specs.Vec.{with_items}
use Rattle.std.proofs.lemmas.List.{with_items_is}
use Rattle.pico_board.specs.declared.supply.Supply.{Supply}
use Rattle.pico_board.specs.Content.{Content}
use Rattle.pico_board.specs.Steps.{Step, Torn, after}
use Rattle.pico_board.specs.Cuts.{Cut, CutOutcome, cut_by, nearer, cut_step, torn_by}
use Rattle.pico_board.specs.Board.{State, HasCutOutcome, IsCutAsArmed, Does}
use Rattle.pico_board.specs.Supply.{armed_of, due_of}
use Rattle.pico_board.proofs.ContentLemmas.{length-after}

done_by : (b : Bool) (cut : Cut) (lost : CutOutcome) (c : Content) (step : Step) → cond b (Some cut.within) None ≡ None
    → cond b lost (record { answer = true; content = after c step; armed = Some (nearer cut) })
    ≡ record { answer = true; content = after c step; armed = Some (nearer cut) }
done_by true cut lost c step e = cc
done_by false cut lost c step e = refl

-- where no cut falls due the step completes, and an armed cut is nearer
told-done : (a : Option Cut) (c : Content) (step : Step) → due_of a ≡ None
    → cut_step a c step ≡ record { answer = true; content = after c step; armed = option_map nearer a }
told-done None c step e = refl
told-done (Some cut) c step e =
    done_by (cut.left == 0) cut (record { answer = false; content = cut_by cut c step; armed = None }) c step e

-- where a cut falls due it decides what is left, and is gone
told-lost : (cut : Cut) (c : Content) (step : Step) → (cut.left == 0) ≡ true
    → cut_step (Some cut) c step ≡ record { answer = false; content = cut_by cut c step; armed = None }
told-lost cut c step e =
    ap (λ b. cond b (record { answer = false; content = cut_by cut c step; armed = None })
    (record { answer = true; content = after c step; armed = Some (nearer cut) })) e

-- what a cut that falls due is
pub record IsDue (s : Supply) (cut : Cut) (within : Bool) : Type 0 where
  pub armed : armed_of s ≡ Some cut
  pub now : (cut.left == 0) ≡ true
  pub part : cut.within ≡ within

due_now : (b : Bool) (cut : Cut) (within : Bool) → cond b (Some cut.within) None ≡ Some within
    → (b ≡ true) × (cut.within ≡ within)
due_now true cut within e = (refl, cc)
due_now false cut within e = cc

due_armed : (b : Bool) (cut : Cut) (within : Bool) → due_of (cond b (Some cut) None) ≡ Some within
    → (cond b (Some cut) None ≡ Some cut) × ((cut.left == 0) ≡ true) × (cut.within ≡ within)
due_armed true cut within e = let both = due_now (cut.left == 0) cut within e in (refl, both.0, both.1)
due_armed false cut within e = cc

-- the cut that falls due, where one does
abbrev pub due_cut : Supply → Cut
due_cut s = record { left = s.left; within = s.within; pattern = s.pattern.items }

pub IsDue-from : (s : Supply) (within : Bool) → due_of (armed_of s) ≡ Some within
    → IsDue s (record { left = s.left; within = s.within; pattern = s.pattern.items }) within
IsDue-from s within e =
    let parts = due_armed s.is_armed
    (record { left = s.left; within = s.within; pattern = s.pattern.items }) within e in
    record { armed = parts.0; now = parts.1; part = parts.2 }

-- a list that a cut left
left_by : (within : Bool) (cut : Cut) (c d : Content) (step : Step) → cut.within ≡ within
    → d ≡ cond within (torn_by cut.pattern c step) c → d ≡ cut_by cut c step
left_by within cut c d step part e = e ∙ sym (ap (λ b. cond b (torn_by cut.pattern c step) c) part)

-- what stands behind a vector that was lent as a slice
lent_items : {Z : Type 0} (v : Vec ℕ Z) (lent ws : List ℕ) → length lent ≡ vec_len v → length ws ≡ length lent
    → (with_items v ws).items ≡ ws
lent_items v lent ws len same = with_items_is v ws (same ∙ len)

-- the content after a step that was done on the lent flash
pub flash_done : {Z : Type 0} (v : Vec ℕ Z) (otp lent ws : List ℕ) (F : List ℕ → List ℕ) → lent ≡ v.items
    → length lent ≡ vec_len v → length ws ≡ length lent
    → ws ≡ F lent → ◌≡◌ {A = Content} (record { flash = (with_items v ws).items; otp = otp })
    (record { flash = F v.items; otp = otp })
flash_done v otp lent ws F value len same e =
    ap (λ (xs : List ℕ). record { flash = xs; otp = otp }) (lent_items v lent ws len same ∙ (e ∙ ap F value))

-- the content after a cut that was done on the lent flash
pub flash_cut : {Z : Type 0} (v : Vec ℕ Z) (otp lent ws pattern : List ℕ) (s : Supply) (within : Bool) (step : Step)
    (F : List ℕ → List ℕ → List ℕ)
    → lent ≡ v.items → length lent ≡ vec_len v → length ws ≡ length lent → pattern ≡ s.pattern.items
    → IsDue s (due_cut s) within
    → torn_by s.pattern.items (record { flash = v.items; otp = otp }) step
    ≡ record { flash = F s.pattern.items v.items; otp = otp }
    → ws ≡ cond within (F pattern lent) lent
    → record { flash = (with_items v ws).items; otp = otp }
    ≡ cut_by (due_cut s) (record { flash = v.items; otp = otp }) step
flash_cut v otp lent ws pattern s within step F value len same is_pattern due torn e =
    left_by within (due_cut s) (record { flash = v.items; otp = otp })
    (record { flash = (with_items v ws).items; otp = otp }) step due.part
    (ap (λ (xs : List ℕ). record { flash = xs; otp = otp })
    (lent_items v lent ws len same
    ∙ (e ∙ (ap (λ (p : List ℕ). cond within (F p lent) lent) is_pattern
    ∙ ap (λ (xs : List ℕ). cond within (F s.pattern.items xs) xs) value))) ∙ choose within)
  where
    choose : (w : Bool) → ◌≡◌ {A = Content} (record { flash = cond w (F s.pattern.items v.items) v.items; otp = otp })
        (cond w (torn_by s.pattern.items (record { flash = v.items; otp = otp }) step)
        (record { flash = v.items; otp = otp }))
    choose true = sym torn
    choose false = refl

-- the content after a cut that was done on the lent OTP
pub otp_cut : {Z : Type 0} (v : Vec ℕ Z) (flash lent ws pattern : List ℕ) (s : Supply) (within : Bool) (step : Step)
    (F : List ℕ → List ℕ → List ℕ)
    → lent ≡ v.items → length lent ≡ vec_len v → length ws ≡ length lent → pattern ≡ s.pattern.items
    → IsDue s (due_cut s) within
    → torn_by s.pattern.items (record { flash = flash; otp = v.items }) step
    ≡ record { flash = flash; otp = F s.pattern.items v.items }
    → ws ≡ cond within (F pattern lent) lent
    → record { flash = flash; otp = (with_items v ws).items }
    ≡ cut_by (due_cut s) (record { flash = flash; otp = v.items }) step
otp_cut v flash lent ws pattern s within step F value len same is_pattern due torn e =
    left_by within (due_cut s) (record { flash = flash; otp = v.items })
    (record { flash = flash; otp = (with_items v ws).items }) step due.part
    (ap (λ (xs : List ℕ). record { flash = flash; otp = xs })
    (lent_items v lent ws len same
    ∙ (e ∙ (ap (λ (p : List ℕ). cond within (F p lent) lent) is_pattern
    ∙ ap (λ (xs : List ℕ). cond within (F s.pattern.items xs) xs) value))) ∙ choose within)
  where
    choose : (w : Bool) → ◌≡◌ {A = Content} (record { flash = flash; otp = cond w (F s.pattern.items v.items) v.items })
        (cond w (torn_by s.pattern.items (record { flash = flash; otp = v.items }) step)
        (record { flash = flash; otp = v.items }))
    choose true = sym torn
    choose false = refl

module _ {B : Type 0} {state : B → State} {history : B → List Step → Type 0} {old new : B} {step : Step} where
  -- a step that completes
  pub Does-done : (a : Option Cut) → (state old).armed ≡ Some a → due_of a ≡ None
      → (state new).content ≡ after (state old).content step
      → (state new).powered ≡ true → (state new).cuts ≡ (state old).cuts
      → (state new).armed ≡ Some (option_map nearer a)
      → ((h : List Step) → history old h → history new (h ++ step ∷ [])) → Does state history old step true new
  Does-done a armed due content powered cuts nearer_cut recorded = record {
    done = content;
    torn = tt;
    size = ap (λ (c : Content). length c.flash) content ∙ length-after (state old).content step;
    power = powered;
    later = omega arith;
    rose = tt;
    told = subst (λ b. IsCutAsArmed b (state old).content step true (state new)) (sym armed) tells;
    recorded = recorded;
  }
    where
      is : HasCutOutcome
          (record { answer = true; content = after (state old).content step; armed = option_map nearer a }) true
          (state new)
      is = record { answer = refl; content = content; armed = nearer_cut }

      tells : HasCutOutcome (cut_step a (state old).content step) true (state new)
      tells = subst (λ o. HasCutOutcome o true (state new)) (sym (told-done a (state old).content step due)) is

  -- a step that power is lost in
  pub Does-lost : (cut : Cut) → (state old).armed ≡ Some (Some cut) → (cut.left == 0) ≡ true
      → (state new).content ≡ cut_by cut (state old).content step
      → Torn (state old).content step (cut_by cut (state old).content step)
      → length (cut_by cut (state old).content step).flash ≡ length (state old).content.flash
      → (state new).powered ≡ false → (state old).cuts ≤ (state new).cuts
      → (state new).cuts ≡ min ((state old).cuts + 1) (2 ^ 64 - 1)
      → (state new).armed ≡ Some None → Does state history old step false new
  Does-lost cut armed now content torn size powered later cuts gone = record {
    done = tt;
    torn = subst (Torn (state old).content step) (sym content) torn;
    size = ap (λ (c : Content). length c.flash) content ∙ size;
    power = powered;
    later = later;
    rose = omega arith;
    told = subst (λ b. IsCutAsArmed b (state old).content step false (state new)) (sym armed) tells;
    recorded = tt;
  }
    where
      is : HasCutOutcome (record { answer = false; content = cut_by cut (state old).content step; armed = None }) false
          (state new)
      is = record { answer = refl; content = content; armed = gone }

      tells : HasCutOutcome (cut_step (Some cut) (state old).content step) false (state new)
      tells = subst (λ o. HasCutOutcome o false (state new)) (sym (told-lost cut (state old).content step now)) is
