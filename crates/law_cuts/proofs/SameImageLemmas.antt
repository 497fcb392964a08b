-- Where two windows hold one image, and the second has the bytes of the first in all places of it, so has the first.
use Rattle.std.proofs.Common.{◌≡◌, ℕ, zero, suc, ◌+◌, ◌-◌, ◌<◌, ◌≤◌, pos, List, [], ◌∷◌, ◌++◌, length, take, drop, Option, Some, None, Ok, refl, sym, ap, ◌∙◌, subst, inl, inr, arith, length-drop}
use Rattle.std.specs.List.{slice_get}
use Rattle.std.proofs.lemmas.Bool.{cases_lt}
use Rattle.std.proofs.lemmas.List.{ext_get_or, length-take}
use Rattle.std.proofs.lemmas.Option.{same_Some, slice_get_within}
use Rattle.pico_board.specs.declared.boot.Cpu.{Cpu}
use Rattle.block_codec.specs.Blocks.{BlockAt, BlockView, block_size}
use Rattle.block_codec.proofs.AtLemmas.{BlockAt-local, BlockAt-room, BlockAt-unique, block_byte}
use Rattle.block_loop.specs.Cycles.{BeginsAmong, KeepsLinks}
use Rattle.block_loop.specs.Loop.{IsLoop, loop_of, target}
use Rattle.block_loop.proofs.ChainLemmas.{ends, some_at}
use Rattle.block_loop.proofs.CycleLemmas.{IsSameCycle-from_links}
use Rattle.load_map.specs.declared.load.Load.{Load}
use Rattle.image_def.specs.declared.started.Started.{Started}
use Rattle.image_check.specs.declared.why.Why.TheVariants.{Map}
use Rattle.image_check.specs.Addressing.{in_flash}
use Rattle.image_check.specs.Answers.{and_then, fault_as}
use Rattle.image_check.specs.Image.{defined_in}
use Rattle.image_check.specs.Rules.{definition_answer, items_answer, loop_answer, map_answer}
use Rattle.image_check.specs.SameImage.{AgreeFrom, AgreeOnBlocks, AgreeOnLoad, AgreeOnLoads, AgreeOnStorage, HoldsImage, HoldSameImage}
use Rattle.image_check.proofs.HoldLemmas.{hold-same}
use Rattle.image_check.proofs.SameLemmas.{all-at, held-image, held-loop}

same_place : (x y : ℕ) → pos x ≡ pos y → x ≡ y
same_place x y e = cc

-- a piece that agrees
same-front : (one two : List ℕ) (x n : ℕ) → AgreeFrom one two x (x + n) → x + n ≤ length one → length two ≡ length one
    → take n (drop x one) ≡ take n (drop x two)
same-front one two x n agree room long =
    let a = length-take n (drop x one) in
    let b = length-drop x one in
    let c = length-take n (drop x two) in
    let d = length-drop x two in
    ext_get_or 0 (take n (drop x one)) (take n (drop x two)) (omega (arith, a, b, c, d, room, long))
    (λ k lt.
    let low : k < n = omega (arith, lt, a) in
    block_byte one x n k low
    ∙ (sym (agree (x + k) (omega arith) (omega (arith, low))) ∙ sym (block_byte two x n k low)))

-- an element behind others
get-middle : (before behind : List BlockView) (b : BlockView) → slice_get (before ++ b ∷ behind) (length before) ≡ Some b
get-middle [] behind b = refl
get-middle (x ∷ before) behind b = get-middle before behind b

same-blocks : (bs cs : List BlockView) → length cs ≡ length bs
    → ((k : ℕ) (b c : BlockView) → slice_get bs k ≡ Some b → slice_get cs k ≡ Some c → c ≡ b) → cs ≡ bs
same-blocks [] [] long each = refl
same-blocks [] (c ∷ cs) long each = absurd (omega (arith, long))
same-blocks (b ∷ bs) [] long each = absurd (omega (arith, long))
same-blocks (b ∷ bs) (c ∷ cs) long each =
    ap (λ x. x ∷ cs) (each 0 b c refl refl)
    ∙ ap (λ xs. b ∷ xs) (same-blocks bs cs (omega (arith, long)) (λ k d e here there. each (suc k) d e here there))

-- what agrees from one side agrees from the other
blocks-back : (one two : List ℕ) (blocks : List BlockView) → AgreeOnBlocks one two blocks → AgreeOnBlocks two one blocks
blocks-back one two [] all = tt
blocks-back one two (b ∷ blocks) all = (λ i low high. sym (all.0 i low high), blocks-back one two blocks all.1)

load-back : (one two : List ℕ) (o : Option ℕ) (n : ℕ) → AgreeOnLoad one two o n → AgreeOnLoad two one o n
load-back one two None n agree = tt
load-back one two (Some start) n agree = λ i low high. sym (agree i low high)

loads-back : (one two : List ℕ) (loads : List Load) → AgreeOnLoads one two loads → AgreeOnLoads two one loads
loads-back one two [] all = tt
loads-back one two (l ∷ loads) all = (load-back one two l.storage l.size all.0, loads-back one two loads all.1)

storage-back : (one two : List ℕ) (o : Option ℕ) (loads : List Load) → length two ≡ length one
    → AgreeOnStorage one two o loads → AgreeOnStorage two one o loads
storage-back one two None loads long agree = λ i low high. sym (agree i low (omega (arith, high, long)))
storage-back one two (Some item) loads long agree = loads-back one two loads agree

module _ (cpu : Cpu) (one two : List ℕ) (s : Started) (same : HoldSameImage cpu one two s)
    (there : HoldsImage cpu two s) where
  abbrev bs : List BlockView
  bs = same.held.sound.loop

  abbrev cs : List BlockView
  cs = there.sound.loop

  loop : IsLoop one bs
  loop = same.held.sound.defined.closes

  other : IsLoop two cs
  other = there.sound.defined.closes

  -- the blocks of the one loop stand in the other window too
  stands : (i : ℕ) (b : BlockView) → slice_get bs i ≡ Some b → BlockAt two b.at b
  stands i b at =
      let agree = all-at (λ (c : BlockView). AgreeFrom one two c.at (c.at + block_size c)) bs i b at same.blocks in
      let here = loop.chain.stand i b at in
      BlockAt-local one two b.at b
      (same-front one two b.at (block_size b) agree (BlockAt-room one b.at b here) same.long) here

  at-place : (j : ℕ) (d c : BlockView) → slice_get bs j ≡ Some d → d.at ≡ c.at → BlockAt two c.at c
      → (i : ℕ) × (slice_get bs i ≡ Some c)
  at-place j d c at e stood = (
    j,
    at ∙ ap (λ x. Some x) (BlockAt-unique two c.at d c (subst (λ x. BlockAt two x d) e (stands j d at)) stood),
  )

  -- a block to which one of the loop leads is of the loop
  next : (i : ℕ) (b c : BlockView) → slice_get bs i ≡ Some b → BlockAt two c.at c → target b ≡ pos c.at
      → (j : ℕ) × (slice_get bs j ≡ Some c)
  next i b c at stood leads = elim (cases_lt (i + 1) (length bs)) [
    | inl more ↦
        let (d, behind) = some_at bs (i + 1) more in
        at-place (i + 1) d c behind (same_place d.at c.at (sym (loop.chain.linked i b d at behind) ∙ leads)) stood
    | inr end_ ↦
        let within = slice_get_within bs i b at in
        let (f, z, front, last) = ends one bs loop.chain in
        let e : length bs - 1 ≡ i = omega (arith, within, end_) in
        let home = loop.closed f b front (ap (slice_get bs) e ∙ at) in
        at-place 0 f c front (same_place f.at c.at (sym home ∙ leads)) stood
  ]

  -- from a block of the other loop that is of this one, all are
  among : (p : ℕ) → ((c : BlockView) → slice_get cs p ≡ Some c → (i : ℕ) × (slice_get bs i ≡ Some c)) → (m : ℕ)
      (c : BlockView) → slice_get cs (p + m) ≡ Some c → (i : ℕ) × (slice_get bs i ≡ Some c)
  among p first zero c at = let e : p ≡ p + 0 = omega arith in first c (ap (slice_get cs) e ∙ at)
  among p first (suc m) c at =
      let inside = slice_get_within cs (p + suc m) c at in
      let (d, before) = some_at cs (p + m) (omega (arith, inside)) in
      let held = among p first m d before in
      let e : p + m + 1 ≡ p + suc m = omega arith in
      next held.0 d c held.1 (other.chain.stand (p + suc m) c at)
      (other.chain.linked (p + m) d c before (ap (slice_get cs) e ∙ at))

  -- the definition is of both
  abbrev place : ℕ
  place = length there.sound.defined.defines.before

  define-there : slice_get cs place ≡ Some there.image.block
  define-there =
      ap (λ xs. slice_get xs place) there.sound.defined.defines.whole
      ∙ get-middle there.sound.defined.defines.before there.sound.defined.defines.behind there.image.block

  define-here : slice_get bs (length same.held.sound.defined.defines.before) ≡ Some same.held.image.block
  define-here =
      ap (λ xs. slice_get xs (length same.held.sound.defined.defines.before)) same.held.sound.defined.defines.whole
      ∙ get-middle same.held.sound.defined.defines.before same.held.sound.defined.defines.behind same.held.image.block

  same-offset : same.held.image.block.at ≡ there.image.block.at
  same-offset = sym (ap (λ (t : Started). t.block) same.held.started) ∙ ap (λ (t : Started). t.block) there.started

  shared : (c : BlockView) → slice_get cs place ≡ Some c → (i : ℕ) × (slice_get bs i ≡ Some c)
  shared c at =
      let is : there.image.block ≡ c = same_Some there.image.block c (sym define-there ∙ at) in
      at-place (length same.held.sound.defined.defines.before) same.held.image.block c define-here
      (same-offset ∙ ap (λ (b : BlockView). b.at) is) (other.chain.stand place c at)

  -- so the loops are the same
  front : (c : BlockView) → slice_get cs 0 ≡ Some c → (i : ℕ) × (slice_get bs i ≡ Some c)
  front c first =
      let within = slice_get_within cs place there.image.block define-there in
      let (f, z, head, last) = ends two cs other.chain in
      let e : place + (length cs - 1 - place) ≡ length cs - 1 = omega (arith, within) in
      let held = among place shared (length cs - 1 - place) z (ap (slice_get cs) e ∙ last) in
      next held.0 z c held.1 (other.chain.stand 0 c first) (other.closed c z first last)

  begins : BeginsAmong bs cs
  begins = record { begins = λ c first. let held = front c first in (held.0, c, held.1, refl) }

  keeps : KeepsLinks bs two
  keeps = record {
    links = λ i b c here stood. ap (λ (x : BlockView). x.link) (BlockAt-unique two b.at c b stood (stands i b here));
  }

  same-loop : cs ≡ bs
  same-loop =
      let cycle = IsSameCycle-from_links one two bs cs loop other begins keeps in
      same-blocks bs cs cycle.count
      (λ k b c here at. BlockAt-unique two b.at c b
      (subst (λ x. BlockAt two x c) (cycle.each k b c here at).place (other.chain.stand k c at)) (stands k b here))

  closes : loop_of two ≡ Ok bs
  closes = held-loop cpu two s there ∙ ap (λ xs. Ok xs) same-loop

  defines : defined_in cpu two ≡ Ok same.held.image
  defines =
      ap (λ r. and_then (loop_answer r) (λ found.
      and_then (definition_answer cpu found) (λ block.
      and_then (items_answer block) (λ def.
      Ok (record { block = block; def = def }))))) (closes ∙ sym (held-loop cpu one s same.held))
      ∙ held-image cpu one s same.held

  loads : map_answer in_flash (length two) same.held.image.block same.held.image.def ≡ Ok same.held.sound.loads
  loads =
      ap (λ n. map_answer in_flash n same.held.image.block same.held.image.def) same.long
      ∙ ap (fault_as Map) same.held.sound.map

  -- the first window has the bytes of the second one in all places of the image
  pub same-back : HoldSameImage cpu two one s
  same-back =
      hold-same cpu two one s bs same.held.image same.held.sound.loads there closes defines loads (sym same.long)
      (blocks-back one two bs same.blocks)
      (storage-back one two same.held.image.def.map_item same.held.sound.loads same.long same.storage)
