-- The events of the script that copies a file, and its session.
use Rattle.std.proofs.Common.{◌≡◌, ℕ, ◌*◌, ◌/◌, ◌^◌, ◌<◌, ◌≤◌, true, false, ◌==◌, ◌&&◌, List, [], ◌∷◌, ◌++◌, length, map, take, drop, Ok, refl, sym, ap, ◌∙◌, subst, arith, append-nil, length-append}
use Rattle.std.specs.Prelude.{not}
use Rattle.std.specs.List.{AllByRecursion, flat_map}
use Rattle.std.proofs.Math.Seq.{drop-append_seam, take-append_seam}
use Rattle.std.proofs.lemmas.Bool.Decides.{nat_tests}
use Rattle.pico_board.specs.declared.window.TheConstants.{MOST_FLASH_BYTES}
use Rattle.pico_board.specs.declared.boot.BootKind.TheVariants.{Bootsel}
use Rattle.pico_board.specs.declared.boot.Cpu.{Cpu}
use Rattle.pico_board.specs.Content.{Content}
use Rattle.part_table.specs.declared.table.Right.TheVariants.{BootWrite}
use Rattle.part_table.specs.declared.Target.{Target}
use Rattle.part_table.specs.Families.{absolute_family}
use Rattle.part_table.specs.Rights.{allowed_by}
use Rattle.part_table.specs.Windows.{IsPlacedIn}
use Rattle.uf2_place.specs.declared.block.Uf2.{Uf2}
use Rattle.uf2_place.specs.Blocks.{uf2_of, written_block}
use Rattle.uf2_place.specs.Files.{file_block, file_blocks, file_bytes, page_count}
use Rattle.uf2_place.specs.Placement.{AreBlocks, HasWholeSectors, download_steps, sector_in}
use Rattle.uf2_place.specs.Rulings.{is_skipped, is_page_within}
use Rattle.uf2_place.proofs.FileLemmas.{file_block-is}
use Rattle.uf2_place.proofs.ReadBackLemmas.{written-read, written-size}
use Rattle.boot_script.specs.Events.{EventView, PowerOn, Reset}
use Rattle.boot_script.specs.Scripts.{IsBeforeEnd, events, events_read}
use Rattle.boot_script.proofs.FollowingLemmas.{whole-script}
use Rattle.boot_script.specs.Written as records
use Rattle.boot_rules.specs.Tables.{table_in}
use Rattle.boot_rules.specs.Targets.{is_executable, target_of}
use Rattle.boot_machine.specs.Serving.{table_of_found}
use Rattle.boot_session.specs.Scripts.{script_session}
use Rattle.boot_session.specs.Sessions.{entered_host, session}
use Rattle.law_downloads.specs.Copied.{IsDownload, copied_script, copied_session}
use Rattle.script_text.specs.Reading.{script_of}
use Rattle.cli_scripts.specs.Copies.{blocks_in, copy_events}
use Rattle.law_downloads.proofs.FileLemmas.{are-blocks, block-inside, blocks-long, each-block}
use Rattle.law_downloads.proofs.ServedBlockLemmas.{Goes, whole-download}

-- a file of blocks has these blocks
pub pieces : (bs : List Uf2) → AllByRecursion (λ b. length (written_block b) ≡ 512) bs
    → (length (flat_map written_block bs) ≡ 512 * length bs)
    × (blocks_in (length bs) (flat_map written_block bs) ≡ map written_block bs)
pieces [] long = (refl, refl)
pieces (b ∷ bs) long =
    let rest = pieces bs long.1 in
    let behind = flat_map written_block bs in
    let first : take 512 (written_block b ++ behind) ≡ written_block b =
    ap (λ n. take n (written_block b ++ behind)) (sym long.0) ∙ take-append_seam (written_block b) behind in
    let next : drop 512 (written_block b ++ behind) ≡ behind =
    ap (λ n. drop n (written_block b ++ behind)) (sym long.0) ∙ drop-append_seam (written_block b) behind in (
      length-append (written_block b) behind ∙ omega (arith, long.0, rest.0),
      ap (λ x. x ∷ blocks_in (length bs) (drop 512 (written_block b ++ behind))) first
          ∙ ap (λ xs. written_block b ∷ blocks_in (length bs) xs) next ∙ ap (λ xs. written_block b ∷ xs) rest.1,
    )

events-inside : (bs : List Uf2) → AllByRecursion (λ b. length (written_block b) ≡ 512) bs
    → AllByRecursion IsBeforeEnd (map (λ block. EventView.Uf2 block) (map written_block bs))
events-inside [] long = tt
events-inside (b ∷ bs) long = (record { well = long.0; more = refl }, events-inside bs long.1)

events-same : (bs : List Uf2)
    → map (λ block. EventView.Uf2 block) (map written_block bs) ≡ map (λ b. EventView.Uf2 (written_block b)) bs
events-same [] = refl
events-same (b ∷ bs) = ap (λ es. EventView.Uf2 (written_block b) ∷ es) (events-same bs)

-- the script of a copy is read as its events
pub copy-read : (bs : List Uf2) → AllByRecursion (λ b. length (written_block b) ≡ 512) bs
    → events (copied_script (flat_map written_block bs)) ≡ Ok (copy_events (map written_block bs))
copy-read bs long =
    let size : length (flat_map written_block bs) / 512
    ≡ length bs = (let n = (pieces bs long).0 in omega (arith, n)) in
    ap (λ n. events (script_of (copy_events (blocks_in n (flat_map written_block bs))))) size
    ∙ ap (λ xs. events (script_of (copy_events xs))) (pieces bs long).1
    ∙ ap (λ xs. events (flat_map records.written_event (copy_events (map written_block bs)) ++ xs))
    (sym (append-nil (records.written_event EventView.End)))
    ∙ whole-script (copy_events (map written_block bs)) []
    (record { well = tt; more = refl }, (record { well = omega arith; more = refl }, events-inside bs long))

-- an executable family has a number that fits a word, and is not the absolute one
pub family-low : (family : ℕ) → is_executable family ≡ true → family < 2 ^ 32
family-low family is = grind (arith, nat_tests, is)

not-absolute : (family : ℕ) → is_executable family ≡ true → (family == absolute_family) ≡ false
not-absolute family is = grind (arith, nat_tests, is)

module _ (c : Content) (cpu : Cpu) (family : ℕ) (target : Target) (image : List ℕ)
    (is : IsDownload c cpu family target image) (stands : IsPlacedIn c target.window) where
  abbrev n : ℕ
  n = page_count (length image)

  whole : HasWholeSectors target.window
  whole = record { start = stands.starts; len = stands.whole; some = stands.some }

  few : length image ≤ MOST_FLASH_BYTES
  few =
      let inside = stands.inside in
      let most = is.right.flash_length.most in
      omega (arith, is.room, inside, most)

  low : family < 2 ^ 32
  low = family-low family is.executable

  sized : AllByRecursion (λ b. length (written_block b) ≡ 512) (file_blocks image family)
  sized =
      each-block image family few low (λ b. length (written_block b) ≡ 512)
      (λ i lt. written-size (file_block image family i) (file_block-is image family i few low lt))

  read : AllByRecursion (λ b. uf2_of (written_block b) ≡ Ok b) (file_blocks image family)
  read =
      each-block image family few low (λ b. uf2_of (written_block b) ≡ Ok b)
      (λ i lt. written-read (file_block image family i) (file_block-is image family i few low lt))

  kept : (i m : ℕ) → is_skipped m (file_block image family i) ≡ false
  kept i m = ap (λ x. x && not (is_page_within m (file_block image family i))) (not-absolute family is.executable)

  within : (i : ℕ) → i < n → is_page_within target.window.len (file_block image family i) ≡ true
  within i lt =
      let inside = block-inside image family few low target whole is.room i lt in
      grind (arith, nat_tests, inside.above, inside.below)

  permitted : (i : ℕ) → i < n
      → allowed_by (table_of_found (table_in c)) (sector_in target.window (file_block image family i)) BootWrite ≡ true
  permitted i lt =
      let inside = block-inside image family few low target whole is.room i lt in
      let start = stands.starts in
      let below = inside.below in
      is.rights (sector_in target.window (file_block image family i)) (omega (arith, start))
      (omega (arith, start, below))

  goes : AllByRecursion (Goes (table_of_found (table_in c)) target) (file_blocks image family)
  goes =
      each-block image family few low (Goes (table_of_found (table_in c)) target)
      (λ i lt. record { kept = kept i; inside = within i lt; right = permitted i lt })

  copied-blocks : (bs : List Uf2) → file_blocks image family ≡ bs
      → session c cpu (copy_events (map written_block (file_blocks image family)))
      ≡ download_steps target (file_blocks image family)
  copied-blocks [] e =
      let none : length (file_blocks image family) ≡ 0 = ap (λ (bs : List Uf2). length bs) e in
      absurd (omega (arith, none, is.some, blocks-long image family few low))
  copied-blocks (b ∷ bs) e =
      let size : length (b ∷ bs) ≡ n = ap (λ (xs : List Uf2). length xs) (sym e) ∙ blocks-long image family few low in
      let first : b.family ≡ family =
      (subst (AllByRecursion (λ (x : Uf2). x.family ≡ family)) e
      (each-block image family few low (λ (x : Uf2). x.family ≡ family) (λ i lt. refl))).0 in
      ap (λ xs. session c cpu (PowerOn ∷ Reset Bootsel ∷ xs)) (events-same (file_blocks image family))
      ∙ ap (λ xs. session c cpu (PowerOn ∷ Reset Bootsel ∷ map (λ x. EventView.Uf2 (written_block x)) xs)) e
      ∙ whole-download cpu (table_in c) (entered_host c).ram target family n c b bs
      (ap (target_of c (table_of_found (table_in c)) cpu) first ∙ is.aimed)
      (subst (AreBlocks target family n) e (are-blocks image family few low target whole)) size
      (subst (AllByRecursion (λ x. uf2_of (written_block x) ≡ Ok x)) e read)
      (subst (AllByRecursion (Goes (table_of_found (table_in c)) target)) e goes)
      ∙ ap (download_steps target) (sym e)

  -- the script is read as its events
  pub script-read : events (copied_script (file_bytes image family))
      ≡ Ok (copy_events (map written_block (file_blocks image family)))
  script-read = copy-read (file_blocks image family) sized

  -- the session of the copy
  pub copy-placed : copied_session c cpu family image ≡ download_steps target (file_blocks image family)
  unfolding script_session
  copy-placed =
      ap (λ r. session c cpu (events_read r)) (copy-read (file_blocks image family) sized)
      ∙ copied-blocks (file_blocks image family) refl
