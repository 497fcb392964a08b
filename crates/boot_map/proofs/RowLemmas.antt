-- The row of a window, by the function and in the words of the rules.
use Rattle.std.proofs.Common.{◌≡◌, ◌⊎◌, inl, inr, ◌==◌, ◌&&◌, Bool, true, false, List, [], ◌∷◌, length, map, Option, Some, None, Result, refl, sym, ◌∙◌, ap, subst}
use Rattle.std.specs.Prelude.{if◌then◌else◌}
use Rattle.std.specs.List.{AllByRecursion}
use Rattle.std.proofs.lemmas.Bool.{eq-eqb, eqb-true}
use Rattle.pico_board.specs.declared.boot.Cpu.{Cpu}
use Rattle.pico_board.specs.declared.window.Window.{Window}
use Rattle.pico_board.specs.Content.{Content}
use Rattle.image_def.specs.declared.started.Started.{Started}
use Rattle.image_check.specs.declared.why.Why.{Why}
use Rattle.image_check.specs.Image.{image_at}
use Rattle.otp_roll.specs.Flags.{slot_size}
use Rattle.part_table.specs.declared.table.Table.{Table}
use Rattle.part_table.proofs.TestLemmas.{both_of_two}
use Rattle.boot_rules.specs.declared.decision.Decision.{Decision}
use Rattle.boot_rules.specs.declared.decision.Decision.TheVariants.{Start, Bootsel}
use Rattle.boot_reasons.proofs.LookLemmas.{image-told, told-image}
use Rattle.boot_map.specs.declared.maps.MapRow.{MapRow}
use Rattle.boot_map.specs.declared.maps.Pairing.{Pairing}
use Rattle.boot_map.specs.declared.places.MapWindow.{MapWindow}
use Rattle.boot_map.specs.declared.places.MapPlace.{MapPlace}
use Rattle.boot_map.specs.declared.places.MapPlace.TheVariants.{Slot, Partition as Part, Whole, Free}
use Rattle.boot_map.specs.WindowRules.{IsListed, IsWindowOf}
use Rattle.pico_board.specs.Windows.{is_same_window}
use Rattle.boot_map.specs.Maps.{has_image, pairing, row_image, row_of, starts}
use Rattle.boot_map.specs.MapRules.{DoesStart, IsBare, IsRow, IsRowImage}
use Rattle.boot_map.proofs.LaidLemmas.{same-window}
use Rattle.boot_map.proofs.PairLemmas.{AreLinked, pairing-once, pairing-right}

-- a window is the started one
pub window-is : (v w : Window) → is_same_window v w ≡ true → v ≡ w
window-is v w e =
    let both : ((v.start == w.start) ≡ true) × ((v.len == w.len) ≡ true) = both_of_two _ _ e in
    same-window v.start v.len w.start w.len (eqb-true _ _ both.0) (eqb-true _ _ both.1)

pub is-window : (v w : Window) → v ≡ w → is_same_window v w ≡ true
is-window v w e =
    let one : (v.start == w.start) ≡ true = eq-eqb _ _ (ap (λ (x : Window). x.start) e) in
    let two : (v.len == w.len) ≡ true = eq-eqb _ _ (ap (λ (x : Window). x.len) e) in
    ap (λ b. b && (v.len == w.len)) one ∙ two

starts-true : (d : Decision) (w : Window) → starts d w ≡ true → DoesStart d w
starts-true (Start choice) w e = window-is choice.image.window w e
starts-true (Bootsel fall) w e = cc

true-starts : (d : Decision) (w : Window) → DoesStart d w → starts d w ≡ true
true-starts (Start choice) w e = is-window choice.image.window w e
true-starts (Bootsel fall) w e = absurd e

same-test : (a b : Bool) → (a ≡ true → b ≡ true) → (b ≡ true → a ≡ true) → a ≡ b
same-test true b to back = sym (to refl)
same-test false true to back = back refl
same-test false false to back = refl

-- which windows have an image
bare-is : (t : Option Table) (p : MapPlace)
    → ((has_image t p ≡ true) × (IsBare t p → ⊥)) ⊎ ((has_image t p ≡ false) × IsBare t p)
bare-is None (Slot number) = inl (refl, λ bare. bare)
bare-is None (Part i) = inl (refl, λ bare. bare)
bare-is None Whole = inl (refl, λ bare. bare)
bare-is None Free = inr (refl, tt)
bare-is (Some t) (Slot number) = inr (refl, tt)
bare-is (Some t) (Part i) = inl (refl, λ bare. bare)
bare-is (Some t) Whole = inl (refl, λ bare. bare)
bare-is (Some t) Free = inr (refl, tt)

-- the window of a row
abbrev pub shell : MapRow → MapWindow
shell r = record { place = r.place; window = r.window }

module _ (c : Content) (cpu : Cpu) (t : Option Table) where
  image-right : (m : MapWindow) → IsRowImage c cpu t m.place m.window (row_image c cpu t m)
  image-right m = by (bare-is t m.place)
    where
      by : ((has_image t m.place ≡ true) × (IsBare t m.place → ⊥)) ⊎ ((has_image t m.place ≡ false) × IsBare t m.place)
          → IsRowImage c cpu t m.place m.window (row_image c cpu t m)
      by (inl has) =
          subst (λ b. IsRowImage c cpu t m.place m.window (if b then Some (image_at c m.window cpu false) else None))
          (sym has.0) (has.1, image-told c cpu m.window false)
      by (inr bare) =
          subst (λ b. IsRowImage c cpu t m.place m.window (if b then Some (image_at c m.window cpu false) else None))
          (sym bare.0) bare.1

  image-only : (m : MapWindow) (o : Option (Result Started Why)) → IsRowImage c cpu t m.place m.window o
      → o ≡ row_image c cpu t m
  image-only m o is = by o is (bare-is t m.place)
    where
      by : (o : Option (Result Started Why)) → IsRowImage c cpu t m.place m.window o
          → ((has_image t m.place ≡ true) × (IsBare t m.place → ⊥)) ⊎ ((has_image t m.place ≡ false) × IsBare t m.place)
          → o ≡ row_image c cpu t m
      by None is (inl has) = absurd (has.1 is)
      by None is (inr bare) =
          sym (ap (λ b. if b then Some (image_at c m.window cpu false) else None) bare.0)
      by (Some r) is (inl has) =
          ap Some (told-image c cpu m.window false r is.1)
          ∙ sym (ap (λ b. if b then Some (image_at c m.window cpu false) else None) has.0)
      by (Some r) is (inr bare) = absurd (is.0 bare.1)

  listed : (p : MapPlace) (w : Window) → IsWindowOf t (length c.flash) (slot_size c.otp (length c.flash)) p w
      → IsListed t p
  listed (Slot number) w is = is.1
  listed (Part i) w is = is.0
  listed Whole w is = tt
  listed Free w is = tt

  module _ (linked : AreLinked t) (d : Decision) where
    pub row-right : (m : MapWindow)
        → IsWindowOf t (length c.flash) (slot_size c.otp (length c.flash)) m.place m.window
        → IsRow c cpu t d (row_of c cpu t d m)
    row-right m is = record {
      window = is;
      image = image-right m;
      pair = pairing-right t m.place (listed m.place m.window is);
      starts = (starts-true d m.window, true-starts d m.window);
    }

    same-row : (p : MapPlace) (w : Window) (i j : Option (Result Started Why)) (x y : Option Pairing) (a b : Bool)
        → i ≡ j → x ≡ y → a ≡ b
        → (let r : MapRow = record { place = p; window = w; image = i; pair = x; starts = a } in
        let s : MapRow = record { place = p; window = w; image = j; pair = y; starts = b } in r ≡ s)
    same-row p w i j x y a b one two three = cc

    pub row-only : (r : MapRow) → IsRow c cpu t d r → r ≡ row_of c cpu t d (shell r)
    row-only r is =
        same-row r.place r.window r.image (row_image c cpu t (shell r)) r.pair (pairing t r.place) r.starts
        (starts d r.window) (image-only (shell r) r.image is.image)
        (pairing-once t r.place linked r.pair (pairing t r.place) is.pair
        (pairing-right t r.place (listed r.place r.window is.window)))
        (same-test r.starts (starts d r.window) (λ e. true-starts d r.window (is.starts.0 e))
        (λ e. is.starts.1 (starts-true d r.window e)))

    pub rows-right : (ms : List MapWindow)
        → AllByRecursion
        (λ m. IsWindowOf t (length c.flash) (slot_size c.otp (length c.flash)) m.place m.window) ms
        → AllByRecursion (IsRow c cpu t d) (map (row_of c cpu t d) ms)
    rows-right [] all = tt
    rows-right (m ∷ ms) all = (row-right m all.0, rows-right ms all.1)

    pub rows-only : (rs : List MapRow) → AllByRecursion (IsRow c cpu t d) rs
        → rs ≡ map (row_of c cpu t d) (map shell rs)
    rows-only [] all = refl
    rows-only (r ∷ rs) all =
        ap (λ x. x ∷ rs) (row-only r all.0)
        ∙ ap (λ xs. row_of c cpu t d (shell r) ∷ xs) (rows-only rs all.1)

    -- rows are those of windows that are right
    pub shells-right : (rs : List MapRow) → AllByRecursion (IsRow c cpu t d) rs
        → AllByRecursion
        (λ m. IsWindowOf t (length c.flash) (slot_size c.otp (length c.flash)) m.place m.window) (map shell rs)
    shells-right [] all = tt
    shells-right (r ∷ rs) all = (all.0.window, shells-right rs all.1)

    pub shell-windows : (rs : List MapRow) → map (λ r. r.window) rs ≡ map (λ m. m.window) (map shell rs)
    shell-windows [] = refl
    shell-windows (r ∷ rs) = ap (λ ws. r.window ∷ ws) (shell-windows rs)

    pub row-windows : (ms : List MapWindow) → map (λ m. m.window) ms ≡ map (λ r. r.window) (map (row_of c cpu t d) ms)
    row-windows [] = refl
    row-windows (m ∷ ms) = ap (λ ws. m.window ∷ ws) (row-windows ms)
