-- What BOOTSEL does for a host's UF2 block on two contents that give its family the same target.
use Rattle.std.proofs.Common.{◌≡◌, ℕ, zero, suc, ◌+◌, ◌*◌, Bool, true, false, cond, List, [], ◌∷◌, ◌++◌, length, drop, flat_map, Option, Some, None, Result, Ok, Err, refl, ap, ◌∙◌, arith}
use Rattle.std.specs.Prelude.{max}
use Rattle.std.specs.List.{list_any, range_with_len}
use Rattle.pico_board.specs.declared.Step.{Step}
use Rattle.pico_board.specs.declared.step.Step.TheVariants.{Erase, Program}
use Rattle.pico_board.specs.declared.boot.Cpu.{Cpu}
use Rattle.pico_board.specs.declared.window.Window.{Window}
use Rattle.pico_board.specs.Content.{Content}
use Rattle.part_table.specs.declared.table.Table.{Table}
use Rattle.part_table.specs.declared.target.Target.{Target}
use Rattle.uf2_place.specs.declared.block.Uf2.{Uf2}
use Rattle.uf2_place.specs.declared.block.Uf2Fault.{Uf2Fault}
use Rattle.uf2_place.specs.declared.answer.Accepted.TheVariants.{Skipped}
use Rattle.uf2_place.specs.declared.answer.Ruling.{Ruling}
use Rattle.uf2_place.specs.declared.answer.Ruling.TheVariants.{Answered, Begins, Continues}
use Rattle.uf2_place.specs.Placement.{download_steps, erase_steps, final_steps, first_in, fresh_steps, gated_steps, grown, in_turn, is_whole_download, last_for, later_steps, lies_in, own_steps, page_in, program_of, programs_in, sector_in}
use Rattle.uf2_place.specs.Rulings.{begun, is_skipped}
use Rattle.boot_rules.specs.Targets.{target_of}
use Rattle.boot_machine.specs.Machines.{Host, Placing}
use Rattle.boot_machine.specs.Serving.{ServedEvent, block_served, blocks_of, carried_on, is_like, ruled_on, ruling_on, table_of_found, taken_in, uf2_served}
use Rattle.law_updates.specs.Targets.{IsAsked, continues_download}
use Rattle.law_updates.proofs.RowBitLemmas.{added, added-append}
use Rattle.law_updates.proofs.ServedLemmas.{IsExact}

-- a ruling on a block by a target that it asks for alone
ruled-same : (t : Option Table) (x y : Option Target) (placing : Option Placing) (b : Uf2)
    → (continues_download placing b ≡ false → x ≡ y) → ruled_on t x placing b ≡ ruled_on t y placing b
ruled-same t x y None b same = ap (begun t b) (same refl)
ruled-same t x y (Some placing) b same = go (is_like placing.blocks b) refl
  where
    go : (like : Bool) → is_like placing.blocks b ≡ like
        → cond like (carried_on t placing b) (begun t b x) ≡ cond like (carried_on t placing b) (begun t b y)
    go true is = refl
    go false is = ap (begun t b) (same is)

ruling-same : (n : ℕ) (t : Option Table) (x y : Option Target) (placing : Option Placing) (b : Uf2)
    → (is_skipped n b ≡ false → continues_download placing b ≡ false → x ≡ y)
    → ruling_on n t x placing b ≡ ruling_on n t y placing b
ruling-same n t x y placing b same = go (is_skipped n b) refl
  where
    go : (skipped : Bool) → is_skipped n b ≡ skipped
        → cond skipped (Answered (Ok Skipped)) (ruled_on t x placing b)
        ≡ cond skipped (Answered (Ok Skipped)) (ruled_on t y placing b)
    go true is = refl
    go false is = ruled-same t x y placing b (same is)

-- what is served the same
exact-from : (s t : ServedEvent) → t ≡ s → IsExact s t
exact-from s t is = record {
  steps = ap (λ (v : ServedEvent). v.steps) is;
  place = ap (λ (v : ServedEvent). v.place) is;
  boot = ap (λ (v : ServedEvent). v.boot) is;
}

-- a block that has the same target, if it asks for one
pub block-same : (c d : Content) (cpu : Cpu) (host : Host) → length d.flash ≡ length c.flash
    → (r : Result Uf2 Uf2Fault)
    → ((family : ℕ) → IsAsked (length c.flash) host family r
    → target_of d (table_of_found host.found) cpu family ≡ target_of c (table_of_found host.found) cpu family)
    → IsExact (uf2_served c cpu host r) (uf2_served d cpu host r)
block-same c d cpu host flash (Err fault) same = record { steps = refl; place = refl; boot = refl }
block-same c d cpu host flash (Ok b) same =
    let table = table_of_found host.found in
    exact-from (uf2_served c cpu host (Ok b)) (uf2_served d cpu host (Ok b))
    (ap (λ n. block_served host b (ruling_on n table (target_of d table cpu b.family) host.placing b)) flash
    ∙ ap (block_served host b)
    (ruling-same (length c.flash) table (target_of d table cpu b.family) (target_of c table cpu b.family) host.placing b
    (λ kept begins. same b.family (record { kept = kept; begins = begins }, refl))))

-- a download raises no row
module _ (n row k : ℕ) where
  abbrev RaisesNone : List Step → Type 0
  RaisesNone steps = added n steps row k ≡ 0

  both-none : (xs ys : List Step) → RaisesNone xs → RaisesNone ys → RaisesNone (xs ++ ys)
  both-none xs ys first rest = let parts = added-append n xs ys row k in omega (arith, parts, first, rest)

  drop-none : (m : ℕ) (steps : List Step) → RaisesNone steps → RaisesNone (drop m steps)
  drop-none zero steps none = none
  drop-none (suc m) [] none = refl
  drop-none (suc m) (step ∷ steps) none =
      drop-none m steps (zero-right _ (added n steps row k) none)
    where
      zero-right : (a b : ℕ) → max a b ≡ 0 → b ≡ 0
      zero-right a b e = omega (arith, e)

  erase-none : (erased : Bool) (sector : ℕ) → RaisesNone (erase_steps erased sector)
  erase-none true sector = refl
  erase-none false sector = refl

  fresh-none : (erased : Bool) (sector page : ℕ) (bytes : List ℕ) → RaisesNone (fresh_steps erased sector page bytes)
  fresh-none erased sector page bytes =
      both-none (erase_steps erased sector) (Program page bytes ∷ []) (erase-none erased sector) refl

  own-none : (w : Window) (before : List Uf2) (b : Uf2) → RaisesNone (own_steps w before b)
  own-none w before b =
      fresh-none (list_any (lies_in w (sector_in w b)) before) (sector_in w b) (page_in w b) b.page

  later-none : (w : Window) (before : List Uf2) (b : Uf2) → RaisesNone (later_steps w before b)
  later-none w before b = go (lies_in w (first_in w) b)
    where
      go : (first : Bool) → RaisesNone (cond first [] (own_steps w before b))
      go true = refl
      go false = own-none w before b

  turn-none : (steps : List Uf2 → Uf2 → List Step) → ((before : List Uf2) (b : Uf2) → RaisesNone (steps before b))
      → (before blocks : List Uf2) → RaisesNone (in_turn steps before blocks)
  turn-none steps none before [] = refl
  turn-none steps none before (b ∷ blocks) =
      both-none (steps before b) (in_turn steps (before ++ b ∷ []) blocks) (none before b)
      (turn-none steps none (before ++ b ∷ []) blocks)

  program-none : (page : ℕ) (bytes : Option (List ℕ)) → RaisesNone (program_of page bytes)
  program-none page None = refl
  program-none page (Some bytes) = refl

  each-none : (f : ℕ → List Step) → ((i : ℕ) → RaisesNone (f i)) → (places : List ℕ) → RaisesNone (flat_map f places)
  each-none f none [] = refl
  each-none f none (i ∷ places) = both-none (f i) (flat_map f places) (none i) (each-none f none places)

  programs-none : (sector : ℕ) (bytes_of : ℕ → Option (List ℕ)) → RaisesNone (programs_in sector bytes_of)
  unfolding programs_in
  programs-none sector bytes_of =
      each-none (λ i. program_of (16 * sector + i) (bytes_of i))
      (λ i. program-none (16 * sector + i) (bytes_of i)) (range_with_len 0 16)

  last-none : (w : Window) (blocks : List Uf2) (whole : Bool) → RaisesNone (cond whole (final_steps w blocks) [])
  last-none w blocks true = programs-none (first_in w) (λ i. last_for w (16 * first_in w + i) blocks)
  last-none w blocks false = refl

  gated-none : (w : Window) (blocks : List Uf2) → RaisesNone (gated_steps w blocks)
  gated-none w blocks =
      let end = cond (is_whole_download blocks) (final_steps w blocks) [] in
      both-none (Erase (first_in w) ∷ []) (in_turn (later_steps w) [] blocks ++ end) refl
      (both-none (in_turn (later_steps w) [] blocks) end (turn-none (later_steps w) (later-none w) [] blocks)
      (last-none w blocks (is_whole_download blocks)))

  download-none : (t : Target) (blocks : List Uf2) → RaisesNone (download_steps t blocks)
  download-none t [] = refl
  download-none t (b ∷ blocks) = go t.gated
    where
      go : (gated : Bool)
          → RaisesNone (cond gated (gated_steps t.window (b ∷ blocks)) (in_turn (own_steps t.window) [] (b ∷ blocks)))
      go true = gated-none t.window (b ∷ blocks)
      go false = turn-none (own_steps t.window) (own-none t.window) [] (b ∷ blocks)

  grown-none : (t : Target) (former now : List Uf2) → RaisesNone (grown t former now)
  grown-none t former now =
      drop-none (length (download_steps t former)) (download_steps t now) (download-none t now)

  either-none : (whole : Bool) (a b : ServedEvent) → RaisesNone a.steps → RaisesNone b.steps
      → RaisesNone (cond whole a b).steps
  either-none true a b first rest = first
  either-none false a b first rest = rest

  taken-none : (host : Host) (t : Target) (blocks : List Uf2) (b : Uf2) (steps : List Step) → RaisesNone steps
      → RaisesNone (taken_in host t blocks b steps).steps
  taken-none host t blocks b steps none = either-none (is_whole_download blocks) _ _ none none

  ruled-none : (host : Host) (b : Uf2) (r : Ruling) → RaisesNone (block_served host b r).steps
  ruled-none host b (Answered answer) = refl
  ruled-none host b (Begins t) =
      taken-none host t (b ∷ []) b (grown t [] (b ∷ [])) (grown-none t [] (b ∷ []))
  ruled-none host b (Continues t) =
      taken-none host t (blocks_of host.placing ++ b ∷ []) b
      (grown t (blocks_of host.placing) (blocks_of host.placing ++ b ∷ []))
      (grown-none t (blocks_of host.placing) (blocks_of host.placing ++ b ∷ []))

  pub block-unnamed : (c : Content) (cpu : Cpu) (host : Host) (r : Result Uf2 Uf2Fault)
      → RaisesNone (uf2_served c cpu host r).steps
  block-unnamed c cpu host (Err fault) = refl
  block-unnamed c cpu host (Ok b) =
      ruled-none host b
      (ruling_on (length c.flash) (table_of_found host.found) (target_of c (table_of_found host.found) cpu b.family)
      host.placing b)
