-- Bytes that are the same in two lists, in ranges and in pieces of them.
use Rattle.std.proofs.Common.{◌≡◌, ◌↔◌, ℕ, suc, zero, ◌+◌, ◌-◌, ◌<◌, ◌≤◌, Bool, true, false, ◌&&◌, List, [], ◌∷◌, length, take, get_or, slice_get, slice_range, Some, Result, Ok, Err, refl, sym, ap, ◌∙◌, subst, arith, inl, inr}
use Rattle.std.specs.Prelude.{bytes_eq}
use Rattle.std.specs.List.{AllByRecursion}
use Rattle.std.proofs.lemmas.Bool.{cases_lt}
use Rattle.std.proofs.lemmas.List.{ext_get_or, take_all}
use Rattle.std.proofs.lemmas.List.Edits.{get_or-between, length-between}
use Rattle.std.proofs.lemmas.Slice.Eq.{bytes_eq-Decides}
use Rattle.std.proofs.lemmas.Option.{same_Some}
use Rattle.pico_board.specs.declared.boot.Cpu.{Cpu}
use Rattle.block_codec.specs.Blocks.{BlockView, block_size}
use Rattle.block_codec.specs.Reading.{block_at}
use Rattle.block_codec.proofs.AtLemmas.{BlockAt-from_found, BlockAt-room}
use Rattle.block_loop.specs.Loop.{loop_of}
use Rattle.block_loop.specs.Offsets.{AreLoop, loop_offsets, offsets_of}
use Rattle.block_loop.specs.declared.fault.LoopFault.{LoopFault}
use Rattle.arrayvec.specs.ArrayVec.{ArrayVec}
use Rattle.image_check.specs.Examined.{map_answered}
use Rattle.block_loop.proofs.ChainLemmas.{loop_of-loop}
use Rattle.image_def.specs.declared.started.Started.{Started}
use Rattle.load_map.specs.declared.load.Load.{Load}
use Rattle.image_check.specs.declared.examining.Defined.{Defined}
use Rattle.image_check.specs.declared.why.Why.{Why}
use Rattle.image_check.specs.declared.why.Why.TheVariants.{Map}
use Rattle.image_check.specs.Addressing.{in_flash}
use Rattle.image_check.specs.Image.{defined_in}
use Rattle.image_check.specs.Rules.{map_answer, map_loads}
use Rattle.image_check.specs.SameImage.{AgreeFrom, AgreeOnBlocks, AgreeOnStorage, HoldsImage, HoldSameImage}
use Rattle.image_check.proofs.AnswerLemmas.{ok-fault_as}
use Rattle.image_check.proofs.AnsweredLemmas.{defined-ok}
use Rattle.block_loop.proofs.PlaceLemmas.{at-place}

-- a byte of a piece
in_piece : (xs : List ℕ) (at n i : ℕ) → at ≤ i → i < at + n
    → get_or (slice_range xs at (at + n)) (i - at) 0 ≡ get_or xs i 0
in_piece xs at n i above below =
    let e : at + (i - at) ≡ i = omega arith in
    get_or-between xs at (at + n) (i - at) 0 (omega arith) ∙ ap (λ k. get_or xs k 0) e

-- two pieces are equal exactly where the lists agree in their range
pub pieces-agree : (one two xs ys : List ℕ) (at n : ℕ) → xs ≡ slice_range one at (at + n)
    → ys ≡ slice_range two at (at + n)
    → at + n ≤ length one → at + n ≤ length two → (same : Bool) → same ≡ bytes_eq xs ys
    → (same ≡ true) ↔ AgreeFrom one two at (at + n)
pieces-agree one two xs ys at n first second in_one in_two same is = (forth, back)
  where
    forth : same ≡ true → AgreeFrom one two at (at + n)
    forth passes i above below =
        let equal : xs ≡ ys = (bytes_eq-Decides xs ys).0 (sym is ∙ passes) in
        let pieces : slice_range one at (at + n) ≡ slice_range two at (at + n) = sym first ∙ equal ∙ second in
        sym (in_piece two at n i above below) ∙ ap (λ zs. get_or zs (i - at) 0) (sym pieces)
        ∙ in_piece one at n i above below

    back : AgreeFrom one two at (at + n) → same ≡ true
    back agree =
        let long_one = length-between one at (at + n) in_one in
        let long_two = length-between two at (at + n) in_two in
        let pieces : slice_range one at (at + n) ≡ slice_range two at (at + n) =
        ext_get_or 0 (slice_range one at (at + n)) (slice_range two at (at + n)) (long_one ∙ sym long_two) (λ k lt.
        let e : at + k - at ≡ k = omega arith in
        let below : at + k < at + n = omega (arith, lt, long_one) in
        ap (λ j. get_or (slice_range one at (at + n)) j 0) (sym e) ∙ in_piece one at n (at + k) (omega arith) below
        ∙ sym (agree (at + k) (omega arith) below)
        ∙ sym (in_piece two at n (at + k) (omega arith) below)
        ∙ ap (λ j. get_or (slice_range two at (at + n)) j 0) e) in
        is ∙ (bytes_eq-Decides xs ys).1 (first ∙ pieces ∙ sym second)

-- a range that agrees, and then a further piece of it
pub agree-more : (one two : List ℕ) (from mid end : ℕ) → AgreeFrom one two from mid → AgreeFrom one two mid end
    → AgreeFrom one two from end
agree-more one two from mid end front back i above below = elim (cases_lt i mid) [
  | inl early ↦ front i above early
  | inr late ↦ back i late below
]

pub agree-part : (one two : List ℕ) (from end at to : ℕ) → from ≤ at → to ≤ end → AgreeFrom one two from end
    → AgreeFrom one two at to
agree-part one two from end at to low high agree i above below =
    agree i (omega (arith, low, above)) (omega (arith, high, below))

-- one more element of a list of which all have it
pub all-more : {X : Type 0} (P : X → Type 0) (xs : List X) (i : ℕ) (x : X) → slice_get xs i ≡ Some x
    → AllByRecursion P (take i xs) → P x
    → AllByRecursion P (take (i + 1) xs)
all-more P [] i x at all here = cc
all-more P (y ∷ ys) zero x at all here =
    let e : y ≡ x = cc in
    (subst P (sym e) here, tt)
all-more P (y ∷ ys) (suc i) x at all here =
    let e : suc i + 1 ≡ suc (i + 1) = omega arith in
    subst (λ n. AllByRecursion P (take n (y ∷ ys))) (sym e) (all.0, all-more P ys i x at all.1 here)

pub all-at : {X : Type 0} (P : X → Type 0) (xs : List X) (i : ℕ) (x : X) → slice_get xs i ≡ Some x → AllByRecursion P xs
    → P x
all-at P [] i x at all = cc
all-at P (y ∷ ys) zero x at all = let e : y ≡ x = cc in subst P e all.0
all-at P (y ∷ ys) (suc i) x at all = all-at P ys i x at all.1

-- a load of a list by its place, where lists are read by a default
pub all-whole : {X : Type 0} (P : X → Type 0) (xs : List X) (n : ℕ) → length xs ≤ n → AllByRecursion P (take n xs)
    → AllByRecursion P xs
all-whole P xs n le all = subst (AllByRecursion P) (take_all n xs le) all

-- a block that stands lies inside
pub block-room : (w : List ℕ) (x p n : ℕ) (b : BlockView) → block_at w x ≡ Some b → p ≡ b.at → n ≡ block_size b
    → p + n ≤ length w
block-room w x p n b found place size =
    let stands = BlockAt-from_found w x b found in
    let room = BlockAt-room w x b stands in
    omega (arith, room, stands.placed, place, size)

module _ (one two offsets : List ℕ) (are : AreLoop one offsets) (i x : ℕ) (at : slice_get offsets i
    ≡ Some x) (b : BlockView)
    (stands : block_at one x ≡ Some b) (p n : ℕ) (place : p ≡ b.at) (size : n ≡ block_size b) where
  loop-at : (loop : List BlockView) → loop_of one ≡ Ok loop → slice_get loop i ≡ Some b
  loop-at loop is =
      let here = at-place one offsets i x are at loop is in
      here.1 ∙ ap Some (same_Some here.0 b (sym here.2 ∙ stands))

  agree-here : AgreeFrom one two p (p + n) → AgreeFrom one two b.at (b.at + block_size b)
  agree-here agree j above below = agree j (omega (arith, above, place)) (omega (arith, below, place, size))

  pub block-agrees : (loop : List BlockView) → loop_of one ≡ Ok loop → AgreeOnBlocks one two loop
      → AgreeFrom one two p (p + n)
  block-agrees loop is agree j above below =
      all-at (λ (c : BlockView). AgreeFrom one two c.at (c.at + block_size c)) loop i b (loop-at loop is) agree j
      (omega (arith, above, place)) (omega (arith, below, place, size))

  pub blocks-more : (loop : List BlockView) → loop_of one ≡ Ok loop → AgreeOnBlocks one two (take i loop)
      → AgreeFrom one two p (p + n)
      → AgreeOnBlocks one two (take (i + 1) loop)
  blocks-more loop is before agree =
      all-more (λ (c : BlockView). AgreeFrom one two c.at (c.at + block_size c)) loop i b (loop-at loop is) before
      (agree-here agree)

-- the one loop, definition and list of loads of an image that is held
pub held-loop : (cpu : Cpu) (bytes : List ℕ) (s : Started) (h : HoldsImage cpu bytes s)
    → loop_of bytes ≡ Ok h.sound.loop
held-loop cpu bytes s h = loop_of-loop bytes h.sound.loop h.sound.defined.closes

pub held-image : (cpu : Cpu) (bytes : List ℕ) (s : Started) (h : HoldsImage cpu bytes s)
    → defined_in cpu bytes ≡ Ok h.image
held-image cpu bytes s h = defined-ok cpu bytes h.sound.loop h.image h.sound.defined

same_ok : {A : Type 0} (x y : A) (r : Result A Why) → r ≡ Ok x → r ≡ Ok y → x ≡ y
same_ok x y r e f = cc

pub the-image : (cpu : Cpu) (bytes : List ℕ) (s : Started) (h : HoldsImage cpu bytes s) (image : Defined)
    → defined_in cpu bytes ≡ Ok image → h.image ≡ image
the-image cpu bytes s h image is = same_ok h.image image (defined_in cpu bytes) (held-image cpu bytes s h) is

pub the-loads : (cpu : Cpu) (bytes : List ℕ) (s : Started) (h : HoldsImage cpu bytes s) (image : Defined)
    → defined_in cpu bytes ≡ Ok image
    → (loads : List Load) → map_answer in_flash (length bytes) image.block image.def ≡ Ok loads → h.sound.loads ≡ loads
the-loads cpu bytes s h image is loads loaded =
    let same = the-image cpu bytes s h image is in
    same_ok h.sound.loads loads (map_answer in_flash (length bytes) image.block image.def)
    (ap (λ (i : Defined). map_answer in_flash (length bytes) i.block i.def) (sym same)
    ∙ ok-fault_as Map (map_loads in_flash (length bytes) h.image.block h.image.def) h.sound.loads h.sound.map) loaded

-- no fault of the map of an image that is held
pub no-map-fault : (cpu : Cpu) (bytes : List ℕ) (s : Started) (h : HoldsImage cpu bytes s) (image : Defined)
    → defined_in cpu bytes ≡ Ok image
    → (why : Why) → map_answer in_flash (length bytes) image.block image.def ≡ Err why → ⊥
no-map-fault cpu bytes s h image is why wrong =
    let same = the-image cpu bytes s h image is in
    apart (map_answer in_flash (length bytes) image.block image.def)
    (ap (λ (i : Defined). map_answer in_flash (length bytes) i.block i.def) (sym same)
    ∙ ok-fault_as Map (map_loads in_flash (length bytes) h.image.block h.image.def) h.sound.loads h.sound.map) wrong
  where
    apart : (r : Result (List Load) Why) → r ≡ Ok h.sound.loads → r ≡ Err why → ⊥
    apart r e f = cc

-- what is the same of the image as the code found it is the same of it as it is held
module _ (cpu : Cpu) (one two : List ℕ) (s : Started) (image : Defined) (defined : defined_in cpu one
    ≡ Ok image) (loads : List Load)
    (loaded : map_answer in_flash (length one) image.block image.def ≡ Ok loads) where
  pub storage-held : (h : HoldsImage cpu one s) → AgreeOnStorage one two image.def.map_item loads
      → AgreeOnStorage one two h.image.def.map_item h.sound.loads
  storage-held h agree =
      subst (λ (ls : List Load). AgreeOnStorage one two h.image.def.map_item ls)
      (sym (the-loads cpu one s h image defined loads loaded))
      (subst (λ (i : Defined). AgreeOnStorage one two i.def.map_item loads)
      (sym (the-image cpu one s h image defined)) agree)

  pub storage-found : (h : HoldsImage cpu one s) → AgreeOnStorage one two h.image.def.map_item h.sound.loads
      → AgreeOnStorage one two image.def.map_item loads
  storage-found h agree =
      subst (λ (i : Defined). AgreeOnStorage one two i.def.map_item loads) (the-image cpu one s h image defined)
      (subst (λ (ls : List Load). AgreeOnStorage one two h.image.def.map_item ls)
      (the-loads cpu one s h image defined loads loaded) agree)

  pub same-exactly : (held : HoldsImage cpu one s) (long : length two ≡ length one) (blocks storage : Bool)
      → ((loop : List BlockView) → loop_of one ≡ Ok loop → (blocks ≡ true) ↔ AgreeOnBlocks one two loop)
      → (storage ≡ true) ↔ AgreeOnStorage one two image.def.map_item loads
      → ((blocks && storage) ≡ true) ↔ HoldSameImage cpu one two s
  same-exactly held long true true b t = (
    λ e. record {
      held = held;
      long = long;
      blocks = (b held.sound.loop (held-loop cpu one s held)).0 refl;
      storage = storage-held held (t.0 refl);
    },
    λ h. refl,
  )
  same-exactly held long true false b t = (λ e. cc, λ h. t.1 (storage-found h.held h.storage))
  same-exactly held long false storage b t =
      (λ e. cc, λ h. (b h.held.sound.loop (held-loop cpu one s h.held)).1 h.blocks)

  -- what is the same of the image, by the code's two answers, of which the second counts where the first is yes
  pub same-then : (held : HoldsImage cpu one s) (long : length two ≡ length one) (blocks storage : Bool)
      → ((loop : List BlockView) → loop_of one ≡ Ok loop → (blocks ≡ true) ↔ AgreeOnBlocks one two loop)
      → (storage ≡ true) ↔ AgreeOnStorage one two image.def.map_item loads
      → blocks ≡ true → (storage ≡ true) ↔ HoldSameImage cpu one two s
  same-then held long true storage b t is = same-exactly held long true storage b t
  same-then held long false storage b t is = cc

  pub same-else : (held : HoldsImage cpu one s) (long : length two ≡ length one) (blocks storage : Bool)
      → ((loop : List BlockView) → loop_of one ≡ Ok loop → (blocks ≡ true) ↔ AgreeOnBlocks one two loop)
      → (storage ≡ true) ↔ AgreeOnStorage one two image.def.map_item loads
      → blocks ≡ false → (blocks ≡ true) ↔ HoldSameImage cpu one two s
  same-else held long false storage b t is = same-exactly held long false storage b t
  same-else held long true storage b t is = cc

-- the walk of a loop that closes has no fault
pub no-loop-fault : (w : List ℕ) (loop : List BlockView) (r : Result (List ℕ) LoopFault) (fault : LoopFault)
    → loop_of w ≡ Ok loop
    → r ≡ loop_offsets (loop_of w) → r ≡ Err fault → ⊥
no-loop-fault w loop r fault closes is wrong = go r (is ∙ ap loop_offsets closes) wrong
  where
    go : (q : Result (List ℕ) LoopFault) → q ≡ Ok (offsets_of loop) → q ≡ Err fault → ⊥
    go q e f = cc

pub not-undefined : (cpu : Cpu) (w : List ℕ) (s : Started) (h : HoldsImage cpu w s) (r : Result Defined Why) (why : Why)
    → r ≡ defined_in cpu w → r ≡ Err why → ⊥
not-undefined cpu w s h r why is wrong = go r (is ∙ held-image cpu w s h) wrong
  where
    go : (q : Result Defined Why) → q ≡ Ok h.image → q ≡ Err why → ⊥
    go q e f = cc

-- the answer on the map, with the loads as a list
pub answered-err : (r : Result (ArrayVec Load) Why) (q : Result (List Load) Why) (why : Why) → map_answered r ≡ q
    → r ≡ Err why → q ≡ Err why
answered-err r q why is wrong = sym is ∙ ap map_answered wrong

pub answered-ok : (r : Result (ArrayVec Load) Why) (q : Result (List Load) Why) (loads : ArrayVec Load)
    → map_answered r ≡ q → r ≡ Ok loads → q ≡ Ok loads.items
answered-ok r q loads is found = sym is ∙ ap map_answered found

-- each place of an image that is the same in both
pub same-block : (cpu : Cpu) (one two : List ℕ) (s : Started) → HoldSameImage cpu one two s → (loop : List BlockView)
    → loop_of one ≡ Ok loop
    → (k : ℕ) (b : BlockView) → slice_get loop k ≡ Some b → AgreeFrom one two b.at (b.at + block_size b)
same-block cpu one two s h loop is k b at =
    let same : h.held.sound.loop ≡ loop = same_loop h.held.sound.loop loop (loop_of one)
    (held-loop cpu one s h.held) is in
    all-at (λ (c : BlockView). AgreeFrom one two c.at (c.at + block_size c)) loop k b at
    (subst (AgreeOnBlocks one two) same h.blocks)
  where
    same_loop : (x y : List BlockView) (r : Result (List BlockView) LoopFault) → r ≡ Ok x → r ≡ Ok y → x ≡ y
    same_loop x y r e f = cc

pub same-storage : (cpu : Cpu) (one two : List ℕ) (s : Started) → HoldSameImage cpu one two s → (image : Defined)
    → defined_in cpu one ≡ Ok image
    → (loads : List Load) → map_answer in_flash (length one) image.block image.def ≡ Ok loads
    → AgreeOnStorage one two image.def.map_item loads
same-storage cpu one two s h image defined loads loaded =
    storage-found cpu one two s image defined loads loaded h.held h.storage
