-- Blocks that differ in their family alone: how they are read, and the steps that they bring.
use Rattle.std.proofs.Common.{◌≡◌, ℕ, ◌+◌, ◌*◌, ◌%◌, ◌==◌, not, Bool, true, false, if◌then◌else◌, Result, Ok, Err, List, [], ◌∷◌, ◌++◌, drop, map, refl, sym, ap, ◌∙◌}
use Rattle.std.specs.List.{list_any}
use Rattle.std.proofs.lemmas.List.{length-map, map-append}
use Rattle.byteorder.specs.Endian.{little_number}
use Rattle.pico_board.specs.declared.Step.{Step}
use Rattle.pico_board.specs.declared.Step.TheVariants.{Erase}
use Rattle.pico_board.specs.declared.Window.{Window}
use Rattle.part_table.specs.declared.Target.{Target}
use Rattle.uf2_place.specs.declared.block.Uf2.{Uf2}
use Rattle.uf2_place.specs.declared.block.Uf2Fault.{Uf2Fault}
use Rattle.uf2_place.specs.declared.block.Uf2Fault.TheVariants.{Magic, Payload, Alignment, Number}
use Rattle.uf2_place.specs.declared.block.TheConstants.{PAYLOAD}
use Rattle.uf2_place.specs.Blocks.{uf2_fields, has_magic, is_number, uf2_of, word_at}
use Rattle.uf2_place.specs.OtherFamilies.{SameButFamily, with_family}
use Rattle.uf2_place.specs.Placement.{final_steps, first_in, gated_steps, in_turn, is_whole_download, last_for, later_steps, lies_in, own_steps, download_steps, programs_in, sector_in}
use Rattle.uf2_place.proofs.ReadOfLemmas.{answer, front-word, same-word}

-- the fault of the first test that fails, or the block
abbrev judged : Bool → Bool → Bool → Bool → Uf2 → Result Uf2 Uf2Fault
judged magic payload aligned number b =
    if not magic then Err Magic
    else if not payload then Err Payload
    else if not aligned then Err Alignment
    else if not number then Err Number
    else Ok b

judged-read : (magic payload aligned number : Bool) (a b : Uf2) (family : ℕ)
    → judged magic payload aligned number a ≡ Ok b
    → judged magic payload aligned number (with_family a family) ≡ Ok (with_family b family)
judged-read false p a n x b family is = cc is
judged-read true false a n x b family is = cc is
judged-read true true false n x b family is = cc is
judged-read true true true false x b family is = cc is
judged-read true true true true x b family is =
    let same : x ≡ b = cc is in ap (λ (u : Uf2). Ok (with_family u family)) same

judged-fault : (magic payload aligned number : Bool) (a : Uf2) (fault : Uf2Fault) (family : ℕ)
    → judged magic payload aligned number a ≡ Err fault
    → judged magic payload aligned number (with_family a family) ≡ Err fault
judged-fault false p a n x fault family is = is
judged-fault true false a n x fault family is = is
judged-fault true true false n x fault family is = is
judged-fault true true true false x fault family is = is
judged-fault true true true true x fault family is = cc is

-- the other bytes are judged as these are, and give their block with the other family
other-judged : (one other : List ℕ) → SameButFamily one other
    → uf2_of other ≡ judged (has_magic one) (word_at one 16 == PAYLOAD) (word_at one 12 % 256 == 0)
    (is_number (word_at one 20) (word_at one 24)) (with_family (uf2_fields one) (word_at other 28))
other-judged one other same =
    let start = same-word 28 one other same.front 0 24 refl in
    let second = same-word 28 one other same.front 4 20 refl in
    let flags = same-word 28 one other same.front 8 16 refl in
    let address = same-word 28 one other same.front 12 12 refl in
    let payload = same-word 28 one other same.front 16 8 refl in
    let number = same-word 28 one other same.front 20 4 refl in
    let count = same-word 28 one other same.front 24 0 refl in
    let end : word_at one 508 ≡ word_at other 508 =
    sym (front-word 0 (drop 508 one)) ∙ ap (little_number 4) same.end ∙ front-word 0 (drop 508 other) in
    sym (λ t. answer (start t) (second t) (flags t) (address t) (payload t) (number t) (count t) (word_at other 28)
    (end t) (same.page t))

pub read-other : (one other : List ℕ) (b : Uf2) → SameButFamily one other → uf2_of one ≡ Ok b
    → uf2_of other ≡ Ok (with_family b (word_at other 28))
read-other one other b same is =
    other-judged one other same ∙ judged-read (has_magic one) (word_at one 16 == PAYLOAD) (word_at one 12 % 256 == 0)
    (is_number (word_at one 20) (word_at one 24)) (uf2_fields one) b (word_at other 28) is

pub fault-other : (one other : List ℕ) (fault : Uf2Fault) → SameButFamily one other → uf2_of one ≡ Err fault
    → uf2_of other ≡ Err fault
fault-other one other fault same is =
    other-judged one other same ∙ judged-fault (has_magic one) (word_at one 16 == PAYLOAD) (word_at one 12 % 256 == 0)
    (is_number (word_at one 20) (word_at one 24)) (uf2_fields one) fault (word_at other 28) is

-- the blocks with another family
module _ (w : Window) (family : ℕ) where
  abbrev other : Uf2 → Uf2
  other b = with_family b family

  any-other : (sector : ℕ) (blocks : List Uf2)
      → list_any (lies_in w sector) (map other blocks) ≡ list_any (lies_in w sector) blocks
  any-other sector [] = refl
  any-other sector (b ∷ bs) = rw (any-other sector bs) refl

  last-other : (page : ℕ) (blocks : List Uf2) → last_for w page (map other blocks) ≡ last_for w page blocks
  last-other page [] = refl
  last-other page (b ∷ bs) = rw (last-other page bs) refl

  own-other : (before : List Uf2) (b : Uf2) → own_steps w (map other before) (other b) ≡ own_steps w before b
  own-other before b = rw (any-other (sector_in w b) before) refl

  later-other : (before : List Uf2) (b : Uf2) → later_steps w (map other before) (other b) ≡ later_steps w before b
  later-other before b = rw (any-other (sector_in w b) before) refl

  turn-other : (steps : List Uf2 → Uf2 → List Step)
      → ((before : List Uf2) (b : Uf2) → steps (map other before) (other b) ≡ steps before b)
      → (before blocks : List Uf2) → in_turn steps (map other before) (map other blocks) ≡ in_turn steps before blocks
  turn-other steps same before [] = refl
  turn-other steps same before (b ∷ bs) =
      let rest : in_turn steps (map other before ++ other b ∷ []) (map other bs) ≡ in_turn steps (before ++ b ∷ []) bs =
      ap (λ (xs : List Uf2). in_turn steps xs (map other bs)) (sym (map-append other before (b ∷ [])))
      ∙ turn-other steps same (before ++ b ∷ []) bs in
      λ t. same before b t ++ rest t

  whole-other : (blocks : List Uf2) → is_whole_download (map other blocks) ≡ is_whole_download blocks
  whole-other [] = refl
  whole-other (b ∷ bs) = rw (length-map bs other) refl

  programs-other : (blocks : List Uf2) → final_steps w (map other blocks) ≡ final_steps w blocks
  programs-other blocks =
      λ t. programs_in (first_in w) (λ i. last-other (16 * first_in w + i) blocks t)

  gated-other : (blocks : List Uf2) → gated_steps w (map other blocks) ≡ gated_steps w blocks
  gated-other blocks =
      λ t. Erase (first_in w) ∷ (turn-other (later_steps w) later-other [] blocks t
      ++ (if whole-other blocks t then programs-other blocks t else []))

pub placed-other : (t : Target) (blocks : List Uf2) (family : ℕ)
    → download_steps t (map (λ (b : Uf2). with_family b family) blocks) ≡ download_steps t blocks
placed-other t [] family = refl
placed-other t (b ∷ bs) family =
    λ x. if t.gated then gated-other t.window family (b ∷ bs) x
    else turn-other t.window family (own_steps t.window) (own-other t.window family) [] (b ∷ bs) x
