-- A cut of a gated session that writes a firm image leaves no image by chance.
use Rattle.std.proofs.Common.{◌≡◌, inl, inr, ℕ, zero, suc, ◌+◌, ◌-◌, ◌*◌, ◌<◌, ◌≤◌, true, false, List, [], ◌∷◌, ◌++◌, length, take, drop, slice_index, get_or, Option, Some, None, Result, Ok, refl, sym, ap, ◌∙◌, subst, arith, append_assoc, length-drop}
use Rattle.std.specs.Prelude.{Contains, IfSome, IsSome, slice_get, slice_range}
use Rattle.std.specs.List.{flat_map}
use Rattle.std.proofs.lemmas.Bool.{cases_lt}
use Rattle.std.proofs.lemmas.List.{ext_get_or, get_or-drop, get_or_append_left, get_or_past}
use Rattle.std.proofs.lemmas.List.Edits.{get_or-between, length-between}
use Rattle.std.proofs.lemmas.Option.{none-some}
use Rattle.sha2.specs.Sha256.{sha256}
use Rattle.pico_board.specs.declared.Step.{Step}
use Rattle.pico_board.specs.declared.boot.Cpu.{Cpu}
use Rattle.pico_board.specs.declared.window.Window.{Window}
use Rattle.pico_board.specs.Content.{Content, IsContent, window_bytes}
use Rattle.pico_board.specs.Sessions.{Confined, Gated, IsClosing, IsGated, SameButSector, Unfinished}
use Rattle.pico_board.specs.declared.step.Step.TheVariants.{Erase}
use Rattle.pico_board.specs.Steps.{IsCutAt, after, after_all}
use Rattle.pico_board.proofs.CuttingLemmas.{CutOf-from, length-after_all}
use Rattle.pico_board.proofs.PhaseLemmas.{IsBlank-erase, IsBlank-kept, IsClosing-from, blank_elsewhere, elsewhere-CutOf, first_inside}
use Rattle.pico_board.proofs.StepLemmas.{CutOf-append_cases, after_all-append}
use Rattle.pico_board.proofs.RangeLemmas.{get_or-window_bytes, length-window_bytes}
use Rattle.block_codec.specs.Blocks.{BlockAt, BlockView, block_size, block_words}
use Rattle.block_codec.specs.Reading.{block_at}
use Rattle.block_codec.specs.Words.{bytes_of}
use Rattle.block_codec.specs.Pages.{HasHeadersOf}
use Rattle.block_codec.proofs.AtLemmas.{BlockAt-from_found, BlockAt-local, BlockAt-room, BlockAt-unique, no_block-from_none}
use Rattle.block_codec.specs.declared.definition.Def.{Def}
use Rattle.block_codec.specs.declared.definition.EntryPoint.{EntryPoint}
use Rattle.block_loop.specs.Cycles.{BeginsAmong, IsSameCycle, KeepsLinks}
use Rattle.block_loop.specs.Loop.{IsLoop}
use Rattle.block_loop.proofs.CycleLemmas.{IsSameCycle-from_links}
use Rattle.image_def.specs.Definition.{def_of}
use Rattle.image_def.specs.Suits.{does_suit}
use Rattle.image_def.specs.declared.started.Started.{Started}
use Rattle.load_map.specs.Covered.{covered, covered_digest, covered_load, covered_piece, masked_words}
use Rattle.load_map.specs.declared.load.Load.{Load}
use Rattle.image_check.specs.Addressing.{in_flash}
use Rattle.image_check.specs.Rules.{map_loads}
use Rattle.image_check.specs.SameImage.{HoldsImage}
use Rattle.image_check.specs.Valid.{IsLastWith, IsSound}
use Rattle.image_check.specs.declared.examining.Defined.{Defined}
use Rattle.boot_rules.specs.Chosen.{IsBootMember}
use Rattle.boot_rules.specs.Tables.{table_in}
use Rattle.boot_rules.specs.declared.tables.Found.{Found}
use Rattle.boot_rules.specs.AccidentalImages.{HasNoImage, HasNoAccidentalImage}
use Rattle.boot_sweep.specs.Firms.{Firm, HasOwnDigests, IsFirm, LoadsFront, Stray, covered_by}
use Rattle.boot_sweep.proofs.ChanceLemmas.{gated-confined}
use Rattle.boot_session.proofs.ConfinedLaws.{confined-table}
use Rattle.boot_sweep.proofs.LikeBlockLemmas.{both-from, decide-headers, decide-words, last-pair, same-suit}
use Rattle.boot_session.proofs.NeighbourLemmas.{placed}

-- an element of a list stands at a place of it
held-at : (xs : List BlockView) (x : BlockView) (k : ℕ) → k < length xs → get_or xs k x ≡ x → slice_get xs k ≡ Some x
held-at [] x k lt is = absurd (omega (arith, lt))
held-at (y ∷ xs) x zero lt is = ap (λ z. Some z) is
held-at (y ∷ xs) x (suc k) lt is = held-at xs x k (omega (arith, lt)) is

-- lists of bytes that are the same from the first sector's end on
module _ (u v : List ℕ) (long : length v ≡ length u)
    (behind : (k : ℕ) → 4096 ≤ k → slice_index v k ≡ slice_index u k) where
  drop-same : (x : ℕ) → 4096 ≤ x → drop x v ≡ drop x u
  drop-same x far =
      let one = length-drop x v in
      let two = length-drop x u in
      ext_get_or 0 (drop x v) (drop x u) (omega (arith, one, two, long))
      (λ k lt. get_or-drop x v k 0 ∙ (behind (x + k) (omega (arith, far)) ∙ sym (get_or-drop x u k 0)))

  -- a block that stands there stands in both
  block-behind : (x : ℕ) (b : BlockView) → 4096 ≤ x → BlockAt v x b → BlockAt u x b
  block-behind x b far at = BlockAt-local v u x b (ap (take (block_size b)) (drop-same x far)) at

  module _ (low : (b : BlockView) → b.at < 4096 → BlockAt v b.at b
      → (a : BlockView) × BlockAt u b.at a × HasHeadersOf b a) where
    -- each block of v has one of u at its place, with its headers and its link, and behind the first sector it is it
    pub record IsLikeIn (b a : BlockView) : Type 0 where
      stands : BlockAt u b.at a
      headers : HasHeadersOf b a
      same : 4096 ≤ b.at → a ≡ b

    like-of : (x : ℕ) (b : BlockView) → BlockAt v x b → (a : BlockView) × IsLikeIn b a
    like-of x b at = elim (cases_lt b.at 4096) [
      | inl near ↦
          let found = low b near (subst (λ y. BlockAt v y b) (sym at.placed) at) in
          (found.0, record { stands = found.1; headers = found.2; same = λ far. absurd (omega (arith, near, far)) })
      | inr far ↦
          let here = subst (λ y. BlockAt v y b) (sym at.placed) at in (
            b,
            record {
              stands = block-behind b.at b far here;
              headers = record { place = refl; count = refl; headers = refl; link = refl };
              same = λ again. refl;
            },
          )
    ]

    -- the block of u at a place is like the one of v
    like-at : (a b : BlockView) → BlockAt u b.at a → BlockAt v b.at b → IsLikeIn b a
    like-at a b one two =
        let found = like-of b.at b two in
        subst (λ x. IsLikeIn b x) (BlockAt-unique u b.at found.0 a found.1.stands one) found.1

    module _ (bs cs : List BlockView) (loop : IsLoop u bs) (other : IsLoop v cs)
        (alone : (x : ℕ) (a : BlockView) → x < 4096 → BlockAt u x a → Contains bs a) where
      begins : BeginsAmong bs cs
      begins = record {
        begins = λ c first.
            let is = other.chain.first c first in
            let found = like-of c.at c is.stands in
            let held = alone c.at found.0 is.low found.1.stands in (
              held.0,
              found.0,
              held-at bs found.0 held.0 held.1 held.2,
              sym found.1.headers.place,
            );
      }

      keeps : KeepsLinks bs v
      keeps = record {
        links = λ i b c here there.
            let at : BlockAt v c.at c = subst (λ y. BlockAt v y c) (sym there.placed) there in
            let stands : BlockAt u c.at b = subst (λ y. BlockAt u y b) (sym there.placed) (loop.chain.stand i b here) in
            sym (like-at b c stands at).headers.link;
      }

      cycle : IsSameCycle bs cs
      cycle = IsSameCycle-from_links u v bs cs loop other begins keeps

      -- so the last blocks that suit are like each other
      pub definitions-like : (cpu : Cpu) (image found : BlockView) → IsLastWith (does_suit cpu) bs image
          → IsLastWith (does_suit cpu) cs found → IsLikeIn found image
      definitions-like cpu image found one two =
          last-pair (does_suit cpu) (λ b c. IsLikeIn c b) (λ b c like. sym (same-suit cpu c b like.headers)) bs cs image
          found (both-from (does_suit cpu) (λ b c. IsLikeIn c b) bs cs cycle.count each) one two
        where
          each : (k : ℕ) (b c : BlockView) → slice_get bs k ≡ Some b → slice_get cs k ≡ Some c → IsLikeIn c b
          each k b c here there =
              let place = (cycle.each k b c here there).place in
              like-at b c (subst (λ y. BlockAt u y b) (sym place) (loop.chain.stand k b here))
              (other.chain.stand k c there)

-- without a stray block each block of the first sector is one of the finished window
not-stray : (z d : Content) (w : Window) → (Stray z d w → ⊥) → (b : BlockView) → b.at < 4096
    → BlockAt (window_bytes d w) b.at b → (a : BlockView) × BlockAt (window_bytes z w) b.at a × HasHeadersOf b a
not-stray z d w none b low stands = go (block_at (window_bytes z w) b.at) refl
  where
    go : (o : Option BlockView) → block_at (window_bytes z w) b.at ≡ o
        → (a : BlockView) × BlockAt (window_bytes z w) b.at a × HasHeadersOf b a
    go None is = absurd (none (
      b,
      record {
        low = low;
        stands = stands;
        new = λ a at like. no_block-from_none (window_bytes z w) b.at a is at;
      },
    ))
    go (Some a) is = elim (decide-headers b a) [
      | inl like ↦ (a, BlockAt-from_found (window_bytes z w) b.at a is, like)
      | inr other ↦ absurd (none (
        b,
        record {
          low = low;
          stands = stands;
          new = λ x at like. other (subst (λ y. HasHeadersOf b y)
              (BlockAt-unique (window_bytes z w) b.at x a at (BlockAt-from_found (window_bytes z w) b.at a is)) like);
        },
      ))
    ]

same-ok : {A E : Type 0} (x y : A) (r : Result A E) → r ≡ Ok x → r ≡ Ok y → x ≡ y
same-ok x y r e f = cc

-- a definition with a digest that is the same in both has the same digest
same-digests : (u v : List ℕ) (b : BlockView) (def : Def) (loads : List Load) → (o : Option (List ℕ)) → IsSome o
    → IfSome o (λ value. value ≡ covered_digest u b def loads)
    → IfSome o (λ value. value ≡ covered_digest v b def loads)
    → sha256 (covered v loads b def.hash_words def.image_word)
    ≡ sha256 (covered u loads b def.hash_words def.image_word)
unfolding covered_digest
same-digests u v b def loads None some one two = let e : false ≡ true = some in cc
same-digests u v b def loads (Some value) some one two = sym two ∙ one

-- the first of the covered bytes are those of the window
front-byte : (u : List ℕ) (e n : ℕ) (loads : List Load) (rest : List ℕ) → LoadsFront e loads → e ≤ length u → n < e
    → get_or (flat_map (covered_load u) loads ++ rest) n 0 ≡ get_or u n 0
front-byte u e n [] rest front inside lt = absurd front
front-byte u e n (load ∷ loads) rest front inside lt =
    ap (λ xs. get_or ((xs ++ flat_map (covered_load u) loads) ++ rest) n 0) piece
    ∙ (ap (λ xs. get_or xs n 0) (append_assoc (slice_range u 0 (0 + e)) (flat_map (covered_load u) loads) rest)
    ∙ (get_or_append_left (slice_range u 0 (0 + e)) (flat_map (covered_load u) loads ++ rest) 0 n
    (omega (arith, long, lt))
    ∙ (get_or-between u 0 (0 + e) n 0 (omega (arith, lt)) ∙ ap (λ j. get_or u j 0) none)))
  where
    piece : covered_piece u load.storage load.size ≡ slice_range u 0 (0 + e)
    piece = ap (λ o. covered_piece u o load.size) front.0 ∙ ap (λ k. covered_piece u (Some 0) k) front.1

    long : length (slice_range u 0 (0 + e)) ≡ 0 + e - 0
    long = length-between u 0 (0 + e) (omega (arith, inside))

    none : 0 + n ≡ n
    none = omega arith

same-image : (i j : Defined) → i.block ≡ j.block → i.def ≡ j.def → i ≡ j
same-image i j e f = made i.block i.def j.block j.def e f
  where
    made : (b : BlockView) (x : Def) (c : BlockView) (y : Def) → b ≡ c → x ≡ y
        → (let one : Defined = record { block = b; def = x } in
        let two : Defined = record { block = c; def = y } in one ≡ two)
    made b x c y e f = cc

split-at : (before behind : List BlockView) (x : BlockView)
    → slice_get (before ++ x ∷ behind) (length before) ≡ Some x
split-at [] behind x = refl
split-at (y ∷ before) behind x = split-at before behind x

-- a window with the finished image, where no stray block stands in its first sector
module _ (cpu : Cpu) (u v : List ℕ) (s : Started) (firm : IsFirm cpu u s) (long : length v ≡ length u)
    (behind : (k : ℕ) → 4096 ≤ k → slice_index v k ≡ slice_index u k)
    (low : (b : BlockView) → b.at < 4096 → BlockAt v b.at b
    → (a : BlockView) × BlockAt u b.at a × HasHeadersOf b a) where
  -- the definition stands behind the first sector, in the window
  defined-late : 4096 ≤ firm.held.image.block.at
  defined-late =
      let at : s.block ≡ firm.held.image.block.at = ap (λ (t : Started). t.block) firm.held.started in
      let late = firm.late in
      omega (arith, at, late)

  defined-room : s.block ≤ length u
  defined-room =
      let last = firm.held.sound.defined.defines in
      let block = firm.held.image.block in
      let here : slice_get firm.held.sound.loop (length last.before) ≡ Some block =
      ap (λ bs. slice_get bs (length last.before)) last.whole ∙ split-at last.before last.behind block in
      let room = BlockAt-room u block.at block
      (firm.held.sound.defined.closes.chain.stand (length last.before) block here) in
      let at : s.block ≡ block.at = ap (λ (t : Started). t.block) firm.held.started in
      omega (arith, at, room)

  -- an image of v has the definition of the finished one
  module _ (image : Defined) (entry : EntryPoint) (sound : IsSound in_flash cpu v image entry) where
    blocks-same : firm.held.image.block ≡ image.block
    blocks-same =
        let like = definitions-like u v long behind low firm.held.sound.loop sound.loop
        firm.held.sound.defined.closes sound.defined.closes firm.alone cpu firm.held.image.block image.block
        firm.held.sound.defined.defines sound.defined.defines in
        let place = like.headers.place in
        let late = defined-late in
        like.same (omega (arith, place, late))

    images-same : image ≡ firm.held.image
    images-same =
        same-image image firm.held.image (sym blocks-same)
        (same-ok image.def firm.held.image.def (def_of image.block) sound.defined.items
        (ap def_of (sym blocks-same) ∙ firm.held.sound.defined.items))

    here : IsSound in_flash cpu v firm.held.image entry
    here = subst (λ i. IsSound in_flash cpu v i entry) images-same sound

    loads-same : here.loads ≡ firm.held.sound.loads
    loads-same =
        same-ok here.loads firm.held.sound.loads
        (map_loads in_flash (length v) firm.held.image.block firm.held.image.def) here.map
        (ap (λ n. map_loads in_flash n firm.held.image.block firm.held.image.def) long ∙ firm.held.sound.map)

    -- the digest of an image of v is that of the finished one
    digests-same : sha256 (covered_by v firm.held.image firm.held.sound.loads)
        ≡ sha256 (covered_by u firm.held.image firm.held.sound.loads)
    digests-same =
        same-digests u v firm.held.image.block firm.held.image.def firm.held.sound.loads firm.held.image.def.digest
        firm.hashed firm.held.sound.digest
        (subst (λ ls. IfSome firm.held.image.def.digest
        (λ value. value ≡ covered_digest v firm.held.image.block firm.held.image.def ls)) loads-same here.digest)

    -- where what it covers is the same, so are the bytes of the first sector
    first-same : covered_by v firm.held.image firm.held.sound.loads ≡ covered_by u firm.held.image firm.held.sound.loads
        → (n : ℕ) → n < 4096 → slice_index v n ≡ slice_index u n
    first-same same n lt =
        let late = firm.late in
        let room = defined-room in
        let below : n < s.block = omega (arith, lt, late) in
        sym (front-byte v s.block n firm.held.sound.loads rest firm.front (omega (arith, room, long)) below)
        ∙ (ap (λ xs. get_or xs n 0) same
        ∙ front-byte u s.block n firm.held.sound.loads rest firm.front room below)
      where
        rest : List ℕ
        rest = bytes_of (take firm.held.image.def.hash_words
            (masked_words (block_words firm.held.image.block) firm.held.image.def.image_word))

made-content : (f o g p : List ℕ) → f ≡ g → o ≡ p
    → (let c : Content = record { flash = f; otp = o } in
    let d : Content = record { flash = g; otp = p } in c ≡ d)
made-content f o g p e h = cc

-- contents that differ in the window's first sector alone
module _ (z d : Content) (w : Window) (s : ℕ) (first : 4096 * s ≡ w.start) (room : 4096 ≤ w.len)
    (same : SameButSector s z d) (in_z : w.start + w.len ≤ length z.flash) where
  in_d : w.start + w.len ≤ length d.flash
  in_d = let n = same.outside.long in omega (arith, n, in_z)

  windows-long : length (window_bytes d w) ≡ length (window_bytes z w)
  windows-long = length-window_bytes d w in_d ∙ sym (length-window_bytes z w in_z)

  bytes-behind : (k : ℕ) → 4096 ≤ k → slice_index (window_bytes d w) k ≡ slice_index (window_bytes z w) k
  bytes-behind k far = elim (cases_lt k w.len) [
    | inl lt ↦
        get_or-window_bytes d w k lt
        ∙ (same.outside.above (w.start + k) (omega (arith, first, far)) ∙ sym (get_or-window_bytes z w k lt))
    | inr ge ↦
        let one = length-window_bytes d w in_d in
        let two = length-window_bytes z w in_z in
        get_or_past (window_bytes d w) k 0 (omega (arith, ge, one))
        ∙ sym (get_or_past (window_bytes z w) k 0 (omega (arith, ge, two)))
  ]

  -- where the first sector is the same too, they are the same
  contents-same : ((n : ℕ) → n < 4096 → slice_index (window_bytes d w) n ≡ slice_index (window_bytes z w) n) → d ≡ z
  contents-same bytes =
      made-content d.flash d.otp z.flash z.otp (ext_get_or 0 d.flash z.flash same.outside.long each) same.rows
    where
      inside : (i : ℕ) → 4096 * s ≤ i → i < 4096 * s + 4096 → get_or d.flash i 0 ≡ get_or z.flash i 0
      inside i low high =
          let n = i - w.start in
          let e : w.start + n ≡ i = omega (arith, first, low) in
          let lt : n < w.len = omega (arith, first, low, high, room) in
          ap (λ j. get_or d.flash j 0) (sym e)
          ∙ (sym (get_or-window_bytes d w n lt) ∙ (bytes n (omega (arith, first, low, high))
          ∙ (get_or-window_bytes z w n lt ∙ ap (λ j. get_or z.flash j 0) e)))

      each : (i : ℕ) → i < length d.flash → get_or d.flash i 0 ≡ get_or z.flash i 0
      each i lt = elim (cases_lt i (4096 * s)) [
        | inl below ↦ same.outside.below i below
        | inr low ↦ elim (cases_lt i (4096 * s + 4096)) [
          | inl high ↦ inside i low high
          | inr above ↦ same.outside.above i above
        ]
      ]

-- a cut in a step of a gated list other than the first leaves the finished content but for the first sector, where
-- it leaves an unfinished one
closing-of : (c : Content) (steps : List Step) (w : Window) (s : ℕ) (elsewhere last : List Step) (k : ℕ) (step : Step)
    (d : Content) → IsGated steps w s elsewhere last → w.start + w.len ≤ length c.flash
    → IsCutAt c steps k step d → 1 ≤ k
    → Unfinished c steps w d → (p : ℕ) × IsClosing (after_all c steps) s p d
closing-of c steps w s elsewhere last k step d g inside at some unfinished =
    go k some (subst (λ xs. IsCutAt c xs k step d) g.whole at)
  where
    within : 4096 * s + 4096 ≤ length c.flash
    within = first_inside c steps w s elsewhere last g inside

    finished : after_all (after_all (after c (Erase s)) elsewhere) last ≡ after_all c steps
    finished = sym (ap (λ xs. after_all c xs) g.whole ∙ after_all-append (after c (Erase s)) elsewhere last)

    go : (k : ℕ) → 1 ≤ k → IsCutAt c (Erase s ∷ (elsewhere ++ last)) k step d
        → (p : ℕ) × IsClosing (after_all c steps) s p d
    go zero some at = absurd (omega (arith, some))
    go (suc j) some at =
        let later = CutOf-from (after c (Erase s)) (elsewhere ++ last) d
        (j, step, record { stands = at.stands; torn = at.torn }) in
        elim (CutOf-append_cases (after c (Erase s)) elsewhere last d later) [
          | inl middle ↦
              let blank = IsBlank-kept s (after c (Erase s)) d (IsBlank-erase c s within)
              (elsewhere-CutOf (after c (Erase s)) s elsewhere d g.apart middle) in
              absurd (unfinished.touched.2
              (ap (λ n. slice_index d.flash (n + unfinished.touched.0)) (sym g.first)
              ∙ blank unfinished.touched.0 unfinished.touched.1))
          | inr end_ ↦
              let found = IsClosing-from s (after_all (after c (Erase s)) elsewhere) last d
              (blank_elsewhere c s elsewhere within g.apart) g.final g.distinct end_ in
              (found.0, subst (λ z. IsClosing z s found.0 d) finished found.1)
        ]

-- a gated list whose finished image is firm leaves no image by chance
pub firm-none : (c : Content) (w : Window) (cpu : Cpu) (steps : List Step) (s : Started) (k : ℕ) (step : Step)
    (d : Content) → w.start + w.len ≤ length c.flash → Gated steps w → Firm (after_all c steps) w cpu s
    → IsCutAt c steps k step d → 1 ≤ k → (Stray (after_all c steps) d w → ⊥)
    → HasOwnDigests (after_all c steps) d w cpu s → Unfinished c steps w d → HasNoImage d w cpu
firm-none c w cpu steps s k step d inside (inl none) firm at some clean own unfinished t valid =
    absurd (none-some step (ap (λ xs. slice_get xs k) (sym none) ∙ at.stands))
firm-none c w cpu steps s k step d inside (inr (sector, elsewhere, last, g)) firm at some clean own unfinished t valid =
    elim (decide-words (covered_by v held.image held.sound.loads) (covered_by u held.image held.sound.loads)) [
      | inl same ↦
          unfinished.short (contents-same z d w sector g.first room closing.1.same in_z
          (first-same cpu u v s firm.firm (windows-long z d w sector g.first room closing.1.same in_z)
          (bytes-behind z d w sector g.first room closing.1.same in_z) (not-stray z d w clean) valid.image valid.entry
          valid.sound same))
      | inr differ ↦
          own held differ
          (digests-same cpu u v s firm.firm (windows-long z d w sector g.first room closing.1.same in_z)
          (bytes-behind z d w sector g.first room closing.1.same in_z) (not-stray z d w clean) valid.image valid.entry
          valid.sound)
    ]
  where
    z : Content
    z = after_all c steps

    u : List ℕ
    u = window_bytes z w

    v : List ℕ
    v = window_bytes d w

    held : HoldsImage cpu u s
    held = firm.firm.held

    closing : (p : ℕ) × IsClosing z sector p d
    closing = closing-of c steps w sector elsewhere last k step d g inside at some unfinished

    in_z : w.start + w.len ≤ length z.flash
    in_z = let n = length-after_all c steps in omega (arith, n, inside)

    room : 4096 ≤ w.len
    room =
        let head = (subst (λ xs. Confined xs w) g.whole g.confined).0 in
        let high = head.1 in
        let f = g.first in
        omega (arith, f, high)

pub firm-free : (c : Content) (w : Window) (cpu : Cpu) (steps : List Step) (s : Started) (k : ℕ) (step : Step)
    (d : Content) (found : Found) → IsContent c → table_in c ≡ Some found → IsBootMember c w cpu → Gated steps w
    → Firm (after_all c steps) w cpu s → IsCutAt c steps k step d → 1 ≤ k
    → (Stray (after_all c steps) d w → ⊥) → HasOwnDigests (after_all c steps) d w cpu s → Unfinished c steps w d
    → HasNoAccidentalImage c (after_all c steps) d w cpu
firm-free c w cpu steps s k step d found right table boot_member gated firm at some clean own unfinished =
    let inside = (placed c w cpu right boot_member).inside in
    let cut = CutOf-from c steps d (k, step, at) in record {
      table = confined-table c w cpu steps d found right boot_member (gated-confined w steps gated) (inr cut) table
          ∙ sym table;
      image = inl (firm-none c w cpu steps s k step d (omega (arith, inside)) gated firm at some clean own unfinished);
    }
