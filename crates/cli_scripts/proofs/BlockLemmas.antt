-- The blocks of a file of whole blocks.
use Rattle.std.proofs.Common.{◌≡◌, ℕ, zero, suc, ◌*◌, ◌/◌, List, [], ◌∷◌, ◌++◌, length, map, take, drop, refl, sym, ap, ◌∙◌, arith}
use Rattle.std.specs.List.{AllByRecursion, flat_map}
use Rattle.std.proofs.lemmas.List.{append_assoc, length-append, length-drop, length-take, take-append-drop}
use Rattle.std.proofs.Math.Seq.{take-append_seam, drop-append_seam}
use Rattle.pico_board.specs.declared.boot.BootKind.TheVariants.{Bootsel}
use Rattle.boot_script.specs.Events.{End, PowerOn, Reset, Uf2}
use Rattle.boot_script.specs.Written.{written_event}
use Rattle.script_text.specs.Reading.{script_of}
use Rattle.cli_scripts.specs.Copies.{blocks_in, copy_events}

abbrev pub AreBlocks : List (List ℕ) → Type 0
AreBlocks blocks = AllByRecursion (λ (block : List ℕ). length block ≡ 512) blocks

-- the file of blocks
abbrev pub joined : List (List ℕ) → List ℕ
joined blocks = flat_map (λ (block : List ℕ). block) blocks

-- the blocks in a file are blocks, and make up the file
pub blocks-right : (n : ℕ) (bytes : List ℕ) → length bytes ≡ 512 * n
    → AreBlocks (blocks_in n bytes) × (bytes ≡ joined (blocks_in n bytes)) × (length (blocks_in n bytes) ≡ n)
blocks-right zero [] long = (tt, refl, refl)
blocks-right zero (b ∷ bytes) long = absurd (omega (arith, long))
blocks-right (suc n) bytes long =
    let behind : length (drop 512 bytes) ≡ 512 * n = length-drop 512 bytes ∙ omega (arith, long) in
    let front : length (take 512 bytes) ≡ 512 = length-take 512 bytes ∙ omega (arith, long) in
    let r = blocks-right n (drop 512 bytes) behind in (
      (front, r.0),
      sym (take-append-drop 512 bytes) ∙ ap (λ xs. take 512 bytes ++ xs) r.1,
      ap suc r.2,
    )

-- a file of blocks has these blocks
pub blocks-only : (blocks : List (List ℕ)) → AreBlocks blocks → blocks_in (length blocks) (joined blocks) ≡ blocks
blocks-only [] all = refl
blocks-only (b ∷ blocks) all =
    let first : take 512 (b ++ joined blocks) ≡ b =
    ap (λ n. take n (b ++ joined blocks)) (sym all.0) ∙ take-append_seam b (joined blocks) in
    let rest : drop 512 (b ++ joined blocks) ≡ joined blocks =
    ap (λ n. drop n (b ++ joined blocks)) (sym all.0) ∙ drop-append_seam b (joined blocks) in
    ap (λ x. x ∷ blocks_in (length blocks) (drop 512 (b ++ joined blocks))) first
    ∙ (ap (λ xs. b ∷ blocks_in (length blocks) xs) rest ∙ ap (λ xs. b ∷ xs) (blocks-only blocks all.1))

pub blocks-long : (blocks : List (List ℕ)) → AreBlocks blocks → length (joined blocks) ≡ 512 * length blocks
blocks-long [] all = refl
blocks-long (b ∷ blocks) all =
    let rest = blocks-long blocks all.1 in let first = all.0 in
    length-append b (joined blocks) ∙ omega arith

-- so many blocks
pub count-of : (n m : ℕ) → n ≡ 512 * m → n / 512 ≡ m
count-of n m is = omega (arith, is)

pub blocks-count : (n : ℕ) (bytes : List ℕ) → length (blocks_in n bytes) ≡ n
blocks-count zero bytes = refl
blocks-count (suc n) bytes = ap suc (blocks-count n (drop 512 bytes))

-- the bytes of the events of the first n blocks
abbrev pub copied : ℕ → List ℕ → List ℕ
copied n bytes = flat_map (λ (block : List ℕ). written_event (Uf2 block)) (blocks_in n bytes)

-- one block more was copied
pub copied-more : (n m : ℕ) (old new rest block behind all : List ℕ) → m ≡ suc n → block ≡ take 512 rest
    → behind ≡ drop 512 rest → new ≡ old ++ written_event (Uf2 block) → old ++ copied m rest ≡ all
    → new ++ copied n behind ≡ all
copied-more n m old new rest block behind all more first others is same =
    ap (λ xs. xs ++ copied n behind) is
    ∙ (append_assoc old (written_event (Uf2 block)) (copied n behind)
    ∙ (ap (λ b. old ++ (written_event (Uf2 b) ++ copied n behind)) first
    ∙ (ap (λ xs. old ++ (written_event (Uf2 (take 512 rest)) ++ copied n xs)) others
    ∙ (ap (λ k. old ++ copied k rest) (sym more) ∙ same))))

-- the bytes of the blocks' events, one after another
joined-events : (blocks : List (List ℕ))
    → flat_map (λ (block : List ℕ). written_event (Uf2 block)) blocks
    ≡ flat_map written_event (map (λ (block : List ℕ). Uf2 block) blocks)
joined-events [] = refl
joined-events (b ∷ blocks) = ap (λ xs. written_event (Uf2 b) ++ xs) (joined-events blocks)

-- the script that copies blocks was written event by event
pub copied-whole : (blocks : List (List ℕ)) (a b c d e : List ℕ) → a ≡ [] → b ≡ a ++ written_event PowerOn
    → c ≡ b ++ written_event (Reset Bootsel) → d ≡ c ++ flat_map (λ (block : List ℕ). written_event (Uf2 block)) blocks
    → e ≡ d ++ written_event End → e ≡ script_of (copy_events blocks)
copied-whole blocks a b c d e none power reset sent end_ =
    end_
    ∙ (ap (λ x. x ++ written_event End) (sent
    ∙ ap (λ x. x ++ flat_map (λ (block : List ℕ). written_event (Uf2 block)) blocks) (reset
    ∙ ap (λ x. x ++ written_event (Reset Bootsel)) (power ∙ ap (λ x. x ++ written_event PowerOn) none)))
    ∙ ap (λ x. (written_event PowerOn ++ written_event (Reset Bootsel)) ++ (x ++ written_event End))
    (joined-events blocks))
