-- Cuts of a gated list that leave its first sector blank, and so nothing unfinished.
use Rattle.std.proofs.Common.{◌≡◌, ℕ, zero, suc, ◌+◌, ◌*◌, ◌<◌, ◌≤◌, List, [], ◌∷◌, ◌++◌, length, take, slice_get, slice_index, Some, sym, ◌∙◌, ap, subst, arith}
use Rattle.std.specs.List.{AllByRecursion}
use Rattle.std.proofs.lemmas.List.{take-append-le, take_all}
use Rattle.pico_board.specs.declared.window.Window.{Window}
use Rattle.pico_board.specs.Content.{Content}
use Rattle.pico_board.specs.Steps.{Step, Erase, IsCutAt, Torn, after, after_all}
use Rattle.pico_board.specs.Sessions.{IsBlank, IsElsewhere, IsGated, Unfinished}
use Rattle.pico_board.proofs.PhaseLemmas.{IsBlank-erase, IsBlank-kept, blank_elsewhere, elsewhere-after, elsewhere-torn, first_inside}

-- a content whose first sector is blank is not unfinished
not_unfinished : (c : Content) (steps : List Step) (w : Window) (s : ℕ) (d : Content) → 4096 * s ≡ w.start → IsBlank s d
    → Unfinished c steps w d → ⊥
not_unfinished c steps w s d first blank unfinished =
    let i = unfinished.touched.0 in
    unfinished.touched.2 (ap (λ (n : ℕ). slice_index d.flash (n + i)) (sym first) ∙ blank i unfinished.touched.1)

-- a cut in one of the first steps, which stand elsewhere, keeps the sector blank
blank_cut : (c : Content) (s : ℕ) (xs ys : List Step) (j : ℕ) (step : Step) (d : Content)
    → AllByRecursion (IsElsewhere s) xs
    → j < length xs → IsBlank s c → slice_get (xs ++ ys) j ≡ Some step → Torn (after_all c (take j (xs ++ ys))) step d
    → IsBlank s d
blank_cut c s [] ys j step d all lt blank stands torn = absurd (omega arith)
blank_cut c s (x ∷ xs) ys zero step d all lt blank stands torn =
    let same : x ≡ step = cc in
    IsBlank-kept s c d blank (elsewhere-torn c s step d (subst (IsElsewhere s) same all.0) torn)
blank_cut c s (x ∷ xs) ys (suc j) step d all lt blank stands torn =
    blank_cut (after c x) s xs ys j step d all.1 (omega arith)
    (IsBlank-kept s c (after c x) blank (elsewhere-after c s x all.0)) stands torn

pub cut_elsewhere : (c : Content) (steps : List Step) (w : Window) (s : ℕ) (elsewhere last : List Step) (k : ℕ)
    (step : Step) (d : Content)
    → IsGated steps w s elsewhere last → w.start + w.len ≤ length c.flash → 1 ≤ k → k ≤ length elsewhere
    → IsCutAt c steps k step d
    → Unfinished c steps w d → ⊥
cut_elsewhere c steps w s elsewhere last zero step d gated inside some few at = absurd (omega arith)
cut_elsewhere c steps w s elsewhere last (suc j) step d gated inside some few at =
    let here = subst (λ (xs : List Step). IsCutAt c xs (suc j) step d) gated.whole at in
    let blank = IsBlank-erase c s (first_inside c steps w s elsewhere last gated inside) in
    not_unfinished c steps w s d gated.first
    (blank_cut (after c (Erase s)) s elsewhere last j step d gated.apart (omega arith) blank here.stands here.torn)

-- the steps before the final programs
front_of : (steps elsewhere last : List Step) (s : ℕ) → steps ≡ Erase s ∷ (elsewhere ++ last)
    → take (suc (length elsewhere)) steps ≡ Erase s ∷ elsewhere
front_of steps elsewhere last s whole =
    ap (λ (xs : List Step). take (suc (length elsewhere)) xs) whole
    ∙ ap (λ (xs : List Step). Erase s ∷ xs)
    (take-append-le (length elsewhere) elsewhere last (omega arith)
    ∙ take_all (length elsewhere) elsewhere (omega arith))

pub cut_before_final : (c : Content) (steps : List Step) (w : Window) (s : ℕ) (elsewhere last : List Step)
    → IsGated steps w s elsewhere last → w.start + w.len ≤ length c.flash
    → Unfinished c steps w (after_all c (take (1 + length elsewhere) steps)) → ⊥
cut_before_final c steps w s elsewhere last gated inside =
    let front = front_of steps elsewhere last s gated.whole in
    let blank = blank_elsewhere c s elsewhere (first_inside c steps w s elsewhere last gated inside) gated.apart in
    let counted : suc (length elsewhere) ≡ 1 + length elsewhere = omega arith in
    not_unfinished c steps w s (after_all c (take (1 + length elsewhere) steps)) gated.first
    (subst (λ (n : ℕ). IsBlank s (after_all c (take n steps))) counted
    (subst (λ (xs : List Step). IsBlank s (after_all c xs)) (sym front) blank))
