-- What one more block adds to the steps of a download.
use Rattle.std.proofs.Common.{◌≡◌, ◌≢◌, ◌+◌, ◌≤◌, ◌<◌, ◌&&◌, ◌==◌, Bool, true, false, is_some, if◌then◌else◌, Option, None, Some, List, [], ◌∷◌, ◌++◌, length, arith, refl, sym, ap, ◌∙◌}
use Rattle.std.specs.List.{list_any}
use Rattle.std.proofs.lemmas.Bool.Decides.{nat_tests}
use Rattle.std.proofs.lemmas.List.{append-nil}
use Rattle.pico_board.specs.declared.Step.{Step}
use Rattle.pico_board.specs.declared.Step.TheVariants.{Erase}
use Rattle.part_table.specs.declared.Target.{Target}
use Rattle.sector_pool.specs.Pool.{Pool}
use Rattle.uf2_place.specs.declared.block.Uf2.{Uf2}
use Rattle.uf2_place.specs.declared.current.Current.{Current}
use Rattle.uf2_place.specs.declared.current.Held.{Held}
use Rattle.uf2_place.specs.Marks.{MarksView, is_marked}
use Rattle.uf2_place.specs.Downloads.{Follows, HoldsLease}
use Rattle.uf2_place.specs.Placement.{final_steps, first_in, gated_steps, grown, is_whole_download, later_steps, lies_in, own_steps, download_steps, sector_in}
use Rattle.uf2_place.specs.Progress.{is_held_back, open_steps, put_steps}
use Rattle.uf2_place.proofs.GrowingLemmas.{gated-more, grown-is, in_turn-append, not-whole}

abbrev pub is_empty : List Uf2 → Bool
is_empty [] = true
is_empty (b ∷ bs) = false

-- the first erase, a block's own steps and the last part, each where it is there
abbrev pub opening : Target → List Uf2 → List Step
opening t blocks = if t.gated && is_empty blocks then Erase (first_in t.window) ∷ [] else []

abbrev pub own_part : Target → List Uf2 → Uf2 → List Step
own_part t blocks b = if t.gated then later_steps t.window blocks b else own_steps t.window blocks b

abbrev pub last_part : Target → List Uf2 → List Step
last_part t blocks = if t.gated then (if is_whole_download blocks then final_steps t.window blocks else []) else []

abbrev pub added : Target → List Uf2 → Uf2 → List Step
added t blocks b = opening t blocks ++ (own_part t blocks b ++ last_part t (blocks ++ b ∷ []))

gated-added : (t : Target) (blocks : List Uf2) (b : Uf2) → t.gated ≡ true → is_whole_download blocks ≡ false
    → download_steps t (blocks ++ b ∷ []) ≡ download_steps t blocks ++ added t blocks b
gated-added t [] b gated few =
    rw gated (ap (λ (steps : List Step). Erase (first_in t.window) ∷ (steps ++ (if is_whole_download
    (b ∷ []) then final_steps t.window (b ∷ []) else [])))
    (append-nil (later_steps t.window [] b)))
gated-added t (x ∷ xs) b gated few =
    rw gated (gated-more t.window x xs (b ∷ []) few
    ∙ ap (λ (steps : List Step). gated_steps t.window (x ∷ xs)
    ++ (steps ++ (if is_whole_download (x ∷ xs ++ b ∷ []) then final_steps t.window (x ∷ xs ++ b ∷ []) else [])))
    (append-nil (later_steps t.window (x ∷ xs) b)))

plain-added : (t : Target) (blocks : List Uf2) (b : Uf2) → t.gated ≡ false
    → download_steps t (blocks ++ b ∷ []) ≡ download_steps t blocks ++ added t blocks b
plain-added t [] b plain = rw plain refl
plain-added t (x ∷ xs) b plain = rw plain (in_turn-append (own_steps t.window) [] (x ∷ xs) (b ∷ []))

placed-added : (t : Target) (blocks : List Uf2) (b : Uf2) → is_whole_download blocks ≡ false
    → download_steps t (blocks ++ b ∷ []) ≡ download_steps t blocks ++ added t blocks b
placed-added t blocks b few = by t.gated refl
  where
    by : (g : Bool) → t.gated ≡ g → download_steps t (blocks ++ b ∷ []) ≡ download_steps t blocks ++ added t blocks b
    by true is = gated-added t blocks b is few
    by false is = plain-added t blocks b is

module _ (pool : Pool) (marks : MarksView) (c : Current) (blocks : List Uf2) (b : Uf2)
    (f : Follows pool marks c blocks) (some : 1 ≤ c.left) where
  pub few : length blocks < c.count
  few = omega (arith, f.left, some)

  pub grown-added : grown c.target blocks (blocks ++ b ∷ []) ≡ added c.target blocks b
  grown-added =
      grown-is c.target blocks (b ∷ []) (added c.target blocks b)
      (placed-added c.target blocks b (not-whole c.family c.count blocks f.are.each few))

  -- a gated target is one with held pages
  pub held-gated : (held : Option Held) → HoldsLease pool c.target blocks held → is_some held ≡ c.target.gated
  held-gated None plain = sym plain
  held-gated (Some h) holds = sym holds.gated

  empty-left : (bs : List Uf2) → length bs + c.left ≡ c.count → (c.left == c.count) ≡ is_empty bs
  empty-left [] sum = grind (arith, nat_tests, sum)
  empty-left (x ∷ xs) sum = grind (arith, nat_tests, sum)

  pub open-is : open_steps c ≡ opening c.target blocks
  open-is = rw (held-gated c.held f.held, empty-left blocks f.left) refl

  other-sector : (gated : Bool) → (gated && lies_in c.target.window (first_in c.target.window) b) ≡ false
      → gated ≡ true → sector_in c.target.window b ≢ first_in c.target.window
  other-sector true away is same = grind (arith, nat_tests, away, same)
  other-sector false away is same = cc is

  put-here : (gated : Bool) → (gated && lies_in c.target.window (first_in c.target.window) b) ≡ true
      → [] ≡ (if gated then later_steps c.target.window blocks b else own_steps c.target.window blocks b)
  put-here true here = rw here refl
  put-here false here = cc here

  put-there : (gated : Bool) → (gated && lies_in c.target.window (first_in c.target.window) b) ≡ false
      → own_steps c.target.window blocks b
      ≡ (if gated then later_steps c.target.window blocks b else own_steps c.target.window blocks b)
  put-there true there = rw there refl
  put-there false there = refl

  pub put-is : put_steps c marks b ≡ own_part c.target blocks b
  put-is = by (is_held_back c b) refl
    where
      gate : (held : Option Held) → is_some held ≡ c.target.gated → (x : Bool)
          → (is_some held && lies_in c.target.window (first_in c.target.window) b) ≡ x
          → (c.target.gated && lies_in c.target.window (first_in c.target.window) b) ≡ x
      gate held same x is = rw (← same) is

      by : (x : Bool) → is_held_back c b ≡ x → put_steps c marks b ≡ own_part c.target blocks b
      by true is = rw is (put-here c.target.gated (gate c.held (held-gated c.held f.held) true is))
      by false is =
          let away = gate c.held (held-gated c.held f.held) false is in
          let erased : is_marked marks.sectors (sector_in c.target.window b)
          ≡ list_any (lies_in c.target.window (sector_in c.target.window b)) blocks =
          f.sectors (sector_in c.target.window b) (other-sector c.target.gated away) in
          rw (is, erased) (put-there c.target.gated away)

  pub grown-parts : grown c.target blocks (blocks ++ b ∷ [])
      ≡ open_steps c ++ (put_steps c marks b ++ last_part c.target (blocks ++ b ∷ []))
  grown-parts = grown-added
      ∙ ap (λ (steps : List Step). steps ++ (own_part c.target blocks b ++ last_part c.target (blocks ++ b ∷ [])))
      (sym open-is)
      ∙ ap (λ (steps : List Step). open_steps c ++ (steps ++ last_part c.target (blocks ++ b ∷ []))) (sym put-is)
