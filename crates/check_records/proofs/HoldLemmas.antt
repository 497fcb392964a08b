-- A block erases more than it programs exactly where it begins a gated download.
use Rattle.std.proofs.Common.{◌≡◌, Bool, true, false, cond, List, [], ◌∷◌, ◌++◌, length, drop, refl, sym, ap, ◌∙◌, append_assoc, append-nil}
use Rattle.std.specs.Prelude.{map}
use Rattle.std.specs.List.{list_any}
use Rattle.pico_board.specs.declared.Step.{Step}
use Rattle.pico_board.specs.declared.step.Step.TheVariants.{Erase, Program}
use Rattle.pico_board.specs.declared.Window.{Window}
use Rattle.part_table.specs.declared.Target.{Target}
use Rattle.uf2_place.specs.declared.block.Uf2.{Uf2}
use Rattle.uf2_place.specs.Placement.{final_steps, first_in, fresh_steps, gated_steps, grown, in_turn, is_whole_download, later_steps, lies_in, own_steps, page_in, sector_in}
use Rattle.boot_sweep.specs.Moving.{Done}
use Rattle.check_records.specs.Caveats.{holds_back}
use Rattle.check_records.proofs.CaveatLemmas.{behind-front}

-- whether steps hold back
abbrev holds : List Step → Bool
holds steps = holds_back (map (λ (s : Step). Done s) steps)

-- the first block
first-gated : (w : Window) (b : Uf2) (lies whole : Bool) (final : List Step) → whole ≡ false
    → holds (Erase (first_in w) ∷ ((cond lies [] (Erase (sector_in w b) ∷ Program (page_in w b) b.page ∷ []) ++ [])
    ++ cond whole final [])) ≡ true
first-gated w b lies true final no_more = cc
first-gated w b true false final more = refl
first-gated w b false false final more = refl

pub first-holds : (t : Target) (b : Uf2) → is_whole_download (b ∷ []) ≡ false → holds (grown t [] (b ∷ [])) ≡ t.gated
first-holds t b more = go t.gated
  where
    go : (gated : Bool)
        → holds (cond gated (gated_steps t.window (b ∷ [])) (in_turn (own_steps t.window) [] (b ∷ []))) ≡ gated
    go true =
        first-gated t.window b (lies_in t.window (first_in t.window) b) (is_whole_download (b ∷ []))
        (final_steps t.window (b ∷ [])) more
    go false = refl

-- one block more
turn-more : (steps : List Uf2 → Uf2 → List Step) (before bs : List Uf2) (b : Uf2)
    → in_turn steps before (bs ++ b ∷ []) ≡ in_turn steps before bs ++ steps (before ++ bs) b
turn-more steps before [] b =
    append-nil (steps before b) ∙ ap (λ xs. steps xs b) (sym (append-nil before))
turn-more steps before (x ∷ bs) b =
    ap (λ ss. steps before x ++ ss) (turn-more steps (before ++ x ∷ []) bs b)
    ∙ (ap (λ xs. steps before x ++ (in_turn steps (before ++ x ∷ []) bs ++ steps xs b)) (append_assoc before (x ∷ []) bs)
    ∙ sym (append_assoc (steps before x) (in_turn steps (before ++ x ∷ []) bs) (steps (before ++ x ∷ bs) b)))

own-plain : (w : Window) (before : List Uf2) (b : Uf2) → holds (own_steps w before b) ≡ false
own-plain w before b = go (list_any (lies_in w (sector_in w b)) before)
  where
    go : (erased : Bool) → holds (fresh_steps erased (sector_in w b) (page_in w b) b.page) ≡ false
    go true = refl
    go false = refl

later-plain : (w : Window) (before : List Uf2) (b : Uf2) → holds (later_steps w before b) ≡ false
later-plain w before b = go (lies_in w (first_in w) b)
  where
    go : (lies : Bool) → holds (cond lies [] (own_steps w before b)) ≡ false
    go true = refl
    go false = own-plain w before b

-- the steps of a gated download that is not whole
gated-part : (w : Window) (blocks : List Uf2) → is_whole_download blocks ≡ false
    → gated_steps w blocks ≡ Erase (first_in w) ∷ in_turn (later_steps w) [] blocks
gated-part w blocks more =
    ap (λ whole. Erase (first_in w) ∷ (in_turn (later_steps w) [] blocks ++ cond whole (final_steps w blocks) [])) more
    ∙ ap (λ ss. Erase (first_in w) ∷ ss) (append-nil (in_turn (later_steps w) [] blocks))

-- what grows by one block
grows : (xs ys zs : List Step) → ys ≡ xs ++ zs → drop (length xs) ys ≡ zs
grows xs ys zs is = ap (drop (length xs)) is ∙ behind-front xs zs

pub later-holds : (t : Target) (first b : Uf2) (former : List Uf2) → is_whole_download (first ∷ former) ≡ false
    → is_whole_download (first ∷ (former ++ b ∷ [])) ≡ false
    → holds (grown t (first ∷ former) (first ∷ (former ++ b ∷ []))) ≡ false
later-holds t first b former more still = go t.gated
  where
    gated : holds (drop (length (gated_steps t.window (first ∷ former))) (gated_steps t.window (first ∷ (former ++ b ∷ [])))) ≡ false
    gated =
        ap holds (grows (gated_steps t.window (first ∷ former)) (gated_steps t.window (first ∷ (former ++ b ∷ [])))
        (later_steps t.window (first ∷ former) b)
        (gated-part t.window (first ∷ (former ++ b ∷ [])) still
        ∙ (ap (λ ss. Erase (first_in t.window) ∷ ss) (turn-more (later_steps t.window) [] (first ∷ former) b)
        ∙ ap (λ ss. ss ++ later_steps t.window (first ∷ former) b) (sym (gated-part t.window (first ∷ former) more)))))
        ∙ later-plain t.window (first ∷ former) b

    plain : holds (drop (length (in_turn (own_steps t.window) [] (first ∷ former)))
        (in_turn (own_steps t.window) [] (first ∷ (former ++ b ∷ [])))) ≡ false
    plain =
        ap holds (grows (in_turn (own_steps t.window) [] (first ∷ former))
        (in_turn (own_steps t.window) [] (first ∷ (former ++ b ∷ []))) (own_steps t.window (first ∷ former) b)
        (turn-more (own_steps t.window) [] (first ∷ former) b))
        ∙ own-plain t.window (first ∷ former) b

    go : (g : Bool) → holds (drop (length (cond g (gated_steps t.window (first ∷ former))
        (in_turn (own_steps t.window) [] (first ∷ former))))
        (cond g (gated_steps t.window (first ∷ (former ++ b ∷ [])))
        (in_turn (own_steps t.window) [] (first ∷ (former ++ b ∷ []))))) ≡ false
    go true = gated
    go false = plain
