-- A confined step, done or torn, changes nothing outside its window and no row.
use Rattle.std.proofs.Common.{◌≡◌, ℕ, ◌+◌, ◌-◌, ◌*◌, ◌<◌, ◌≤◌, min, List, [], ◌∷◌, ◌++◌, length, drop, get_or, slice_index, slice_range, bit_and, refl, sym, ◌∙◌, ap, subst, inl, inr, arith}
use Rattle.std.proofs.lemmas.List.{ext_get_or, get_or-take, get_or-drop, length-take, length-drop}
use Rattle.pico_board.specs.declared.window.Window.{Window}
use Rattle.pico_board.specs.Content.{Content, AreApart, window_bytes}
use Rattle.pico_board.specs.Steps.{Step, Erase, Program, Raise, SameOutside, Torn, CutOf, MayLeave, after, after_all}
use Rattle.pico_board.specs.Sessions.{IsConfined, Confined, SameButWindow}
use Rattle.pico_board.proofs.ChangedLemmas.{changed-same}
use Rattle.pico_board.proofs.TornStepLemmas.{SameOutside-refl}

-- what is the same outside a range is so outside a wider one
pub SameOutside-wider : {at n low high : ℕ} {xs ys : List ℕ} → low ≤ at → at + n ≤ low + high → SameOutside at n xs ys
    → SameOutside low high xs ys
SameOutside-wider {at} {n} {low} {high} {xs} {ys} left right same = record {
  long = same.long;
  below = λ i lt. same.below i (omega arith);
  above = λ i le. same.above i (omega arith);
}

pub SameOutside-then : {at n : ℕ} {xs ys zs : List ℕ} → SameOutside at n xs ys → SameOutside at n ys zs
    → SameOutside at n xs zs
SameOutside-then first second = record {
  long = second.long ∙ first.long;
  below = λ i lt. second.below i lt ∙ first.below i lt;
  above = λ i le. second.above i le ∙ first.above i le;
}

pub SameOutside-back : {at n : ℕ} {xs ys : List ℕ} → SameOutside at n xs ys → SameOutside at n ys xs
SameOutside-back same = record {
  long = sym same.long;
  below = λ i lt. sym (same.below i lt);
  above = λ i le. sym (same.above i le);
}

-- ranges with the same elements are the same
pub slice_range_ext : (xs ys : List ℕ) (a b : ℕ) → length xs ≡ length ys
    → ((i : ℕ) → a ≤ i → i < b → get_or xs i 0 ≡ get_or ys i 0)
    → slice_range xs a b ≡ slice_range ys a b
slice_range_ext xs ys a b long same =
    ext_get_or 0 (slice_range xs a b) (slice_range ys a b)
    (length-take (b - a) (drop a xs)
    ∙ (ap (λ (n : ℕ). min (b - a) n) (length-drop a xs ∙ (ap (λ (n : ℕ). n - a) long ∙ sym (length-drop a ys)))
    ∙ sym (length-take (b - a) (drop a ys))))
    (λ k lt. each k (omega (arith, lt, length-take (b - a) (drop a xs))))
  where
    each : (k : ℕ) → k < b - a → get_or (slice_range xs a b) k 0 ≡ get_or (slice_range ys a b) k 0
    each k lt =
        get_or-take (b - a) (drop a xs) k 0 lt ∙ (get_or-drop a xs k 0 ∙ (same (a + k) (omega arith) (omega arith)
        ∙ (sym (get_or-drop a ys k 0) ∙ sym (get_or-take (b - a) (drop a ys) k 0 lt))))

-- what differs in one window alone has the same bytes in a window apart from it
pub window_bytes-apart : (c d : Content) (w v : Window) → SameOutside w.start w.len c.flash d.flash → AreApart w v
    → window_bytes d v ≡ window_bytes c v
window_bytes-apart c d w v same (inl before) =
    slice_range_ext d.flash c.flash v.start (v.start + v.len) same.long (λ i low high. same.above i (omega arith))
window_bytes-apart c d w v same (inr behind) =
    slice_range_ext d.flash c.flash v.start (v.start + v.len) same.long (λ i low high. same.below i (omega arith))

pub SameButWindow-refl : (w : Window) (c : Content) → SameButWindow w c c
SameButWindow-refl w c = record { outside = SameOutside-refl w.start w.len c.flash; rows = refl }

pub SameButWindow-then : {w : Window} {c d e : Content} → SameButWindow w c d → SameButWindow w d e
    → SameButWindow w c e
SameButWindow-then first second =
    record { outside = SameOutside-then first.outside second.outside; rows = second.rows ∙ first.rows }

-- a confined step that completes
pub confined-after : (c : Content) (w : Window) (step : Step) → IsConfined w step → SameButWindow w c (after c step)
confined-after c w (Erase s) inside = record {
  outside = SameOutside-wider inside.0 inside.1 (changed-same (λ i b. 255) (4096 * s) 4096 c.flash);
  rows = refl;
}
confined-after c w (Program p d) inside = record {
  outside = SameOutside-wider inside.0 inside.1
      (changed-same (λ i b. bit_and b (slice_index d i)) (256 * p) 256 c.flash);
  rows = refl;
}
confined-after c w (Raise r b) inside = absurd inside

-- a confined step that power is lost in
pub confined-torn : (c : Content) (w : Window) (step : Step) (d : Content) → IsConfined w step → Torn c step d
    → SameButWindow w c d
confined-torn c w (Erase s) d inside torn =
    record { outside = SameOutside-wider inside.0 inside.1 torn.outside; rows = torn.rows }
confined-torn c w (Program p bytes) d inside torn =
    record { outside = SameOutside-wider inside.0 inside.1 torn.outside; rows = torn.rows }
confined-torn c w (Raise r b) d inside torn = absurd inside

-- confined steps that all complete
pub confined-after_all : (c : Content) (w : Window) (steps : List Step) → Confined steps w
    → SameButWindow w c (after_all c steps)
confined-after_all c w [] all = SameButWindow-refl w c
confined-after_all c w (step ∷ steps) all =
    SameButWindow-then (confined-after c w step all.0) (confined-after_all (after c step) w steps all.1)

-- confined steps of which power is lost in one
pub confined-CutOf : (c : Content) (w : Window) (steps : List Step) (d : Content) → Confined steps w → CutOf c steps d
    → SameButWindow w c d
confined-CutOf c w [] d all cut = absurd cut
confined-CutOf c w (step ∷ steps) d all (inl torn) = confined-torn c w step d all.0 torn
confined-CutOf c w (step ∷ steps) d all (inr later) =
    SameButWindow-then (confined-after c w step all.0) (confined-CutOf (after c step) w steps d all.1 later)

-- whatever confined steps leave
pub confined-MayLeave : (c : Content) (w : Window) (steps : List Step) (d : Content) → Confined steps w
    → MayLeave c steps d → SameButWindow w c d
confined-MayLeave c w steps d all (inl done) = subst (SameButWindow w c) (sym done) (confined-after_all c w steps all)
confined-MayLeave c w steps d all (inr cut) = confined-CutOf c w steps d all cut

-- two lists of confined steps, one after the other
pub Confined-append : (xs ys : List Step) (w : Window) → Confined xs w → Confined ys w → Confined (xs ++ ys) w
Confined-append [] ys w first second = second
Confined-append (x ∷ xs) ys w first second = (first.0, Confined-append xs ys w first.1 second)

pub Confined-left : (xs ys : List Step) (w : Window) → Confined (xs ++ ys) w → Confined xs w
Confined-left [] ys w all = tt
Confined-left (x ∷ xs) ys w all = (all.0, Confined-left xs ys w all.1)

pub Confined-right : (xs ys : List Step) (w : Window) → Confined (xs ++ ys) w → Confined ys w
Confined-right [] ys w all = all
Confined-right (x ∷ xs) ys w all = Confined-right xs ys w all.1
