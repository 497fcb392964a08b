-- A session is refused exactly for the reason that holds of it.
use Rattle.std.proofs.Common.{◌≡◌, inl, inr, ℕ, zero, suc, ◌+◌, Bool, true, false, List, [], ◌∷◌, take, Option, Some, None, refl, sym, ap, ◌∙◌, subst, arith}
use Rattle.std.specs.Prelude.{drop, if◌then◌else◌}
use Rattle.std.proofs.lemmas.Bool.{cases_eq, cases_lt}
use Rattle.std.proofs.lemmas.List.{take-append-drop, take-take}
use Rattle.std.proofs.lemmas.Option.{same_Some}
use Rattle.pico_board.specs.declared.Step.{Step}
use Rattle.pico_board.specs.declared.window.Window.{Window}
use Rattle.pico_board.specs.Sessions.{Confined, Gated, IsConfined}
use Rattle.pico_board.proofs.GateLemmas.{Gated-left}
use Rattle.boot_sweep.specs.Refusals.{IsFirstOutside, IsFirstUngated, ungated_in}
use Rattle.boot_session.specs.Slots.{is_confined, outside_from}
use Rattle.boot_sweep.proofs.GateLemmas.{first-ungated, gated-none, none-gated}
use Rattle.boot_session.proofs.SlotLemmas.{confined-is, is-confined}

-- the first step outside the window, by its place
pub first-outside : (w : Window) (k : ℕ) (steps : List Step) (j : ℕ) → outside_from k (Some w) steps ≡ Some j
    → (i : ℕ) × (j ≡ k + i) × IsFirstOutside steps w i
first-outside w k [] j e = cc
first-outside w k (step ∷ steps) j e =
    go (λ e. first-outside w (k + 1) steps j e) (is_confined w step) refl e
  where
    go : (outside_from (k + 1) (Some w) steps ≡ Some j → (i : ℕ) × (j ≡ k + 1 + i) × IsFirstOutside steps w i)
        → (b : Bool) → is_confined w step ≡ b
        → (if b then outside_from (k + 1) (Some w) steps else Some k) ≡ Some j
        → (i : ℕ) × (j ≡ k + i) × IsFirstOutside (step ∷ steps) w i
    go ih false is e =
        let same : k ≡ j = same_Some k j e in (
          0,
          omega (arith, same),
          record {
            step = step;
            stands = refl;
            outside = λ c. let f : true ≡ false = sym (is-confined w step c) ∙ is in cc;
            before = tt;
          },
        )
    go ih true is e =
        let rest = ih e in
        let n = rest.1 in (
          suc rest.0,
          omega (arith, n),
          record {
            step = rest.2.step;
            stands = rest.2.stands;
            outside = rest.2.outside;
            before = (confined-is w step is, rest.2.before);
          },
        )

pub outside-first : (w : Window) (k : ℕ) (steps : List Step) (i : ℕ) → IsFirstOutside steps w i
    → outside_from k (Some w) steps ≡ Some (k + i)
outside-first w k [] i is = let e = is.stands in cc
outside-first w k (step ∷ steps) zero is =
    let same : step ≡ is.step = same_Some step is.step is.stands in
    let n : k ≡ k + 0 = omega arith in
    go (is_confined w step) refl same n
  where
    go : (b : Bool) → is_confined w step ≡ b → step ≡ is.step → k ≡ k + 0
        → (if b then outside_from (k + 1) (Some w) steps else Some k) ≡ Some (k + 0)
    go true c same n = absurd (is.outside (subst (IsConfined w) same (confined-is w step c)))
    go false c same n = ap (λ m. Some m) n
outside-first w k (step ∷ steps) (suc i) is =
    let rest = outside-first w (k + 1) steps i (record {
      step = is.step;
      stands = is.stands;
      outside = is.outside;
      before = is.before.1;
    }) in
    let n : k + 1 + i ≡ k + suc i = omega arith in
    ap (λ b. if b then outside_from (k + 1) (Some w) steps else Some k) (is-confined w step is.before.0)
    ∙ (rest ∙ ap (λ m. Some m) n)

pub confined-take : (w : Window) (n : ℕ) (steps : List Step) → Confined steps w → Confined (take n steps) w
confined-take w zero steps all = tt
confined-take w (suc n) [] all = tt
confined-take w (suc n) (step ∷ steps) all = (all.0, confined-take w n steps all.1)

gated-take : (w : Window) (n : ℕ) (steps : List Step) → Gated steps w → Gated (take n steps) w
gated-take w n steps gated =
    Gated-left (take n steps) (drop n steps) w (subst (λ xs. Gated xs w) (sym (take-append-drop n steps)) gated)

-- the step that is named is the first up to which the steps are not gated
pub named-first : (w : Window) (steps : List Step) (k : ℕ) → Confined steps w → ungated_in w steps ≡ Some k
    → IsFirstUngated steps w k
named-first w steps k confined e =
    let f = first-ungated w steps k e in record {
      inside = f.0;
      before = none-gated w (take k steps) (confined-take w k steps confined) f.1;
      ungated = λ gated. let g : None ≡ Some k = sym (gated-none w (take (suc k) steps) gated) ∙ f.2 in cc;
    }

pub first-named : (w : Window) (steps : List Step) (k : ℕ) → Confined steps w → IsFirstUngated steps w k
    → ungated_in w steps ≡ Some k
first-named w steps k confined is = go (ungated_in w steps) refl
  where
    same : (j : ℕ) → IsFirstUngated steps w j → j ≡ k
    same j other = elim (cases_lt j k) [
      | inl lt ↦ absurd (other.ungated (subst (λ xs. Gated xs w) (take-take (suc j) k steps (omega (arith, lt)))
          (gated-take w (suc j) (take k steps) is.before)))
      | inr ge ↦ elim (cases_eq j k) [
        | inl e ↦ e
        | inr differ ↦ absurd (is.ungated (subst (λ xs. Gated xs w)
            (take-take (suc k) j steps (omega (arith, ge, differ))) (gated-take w (suc k) (take j steps) other.before)))
      ]
    ]

    go : (o : Option ℕ) → ungated_in w steps ≡ o → o ≡ Some k
    go None e = absurd (is.ungated (gated-take w (suc k) steps (none-gated w steps confined e)))
    go (Some j) e = ap (λ n. Some n) (same j (named-first w steps j confined e))
