-- Before each step of a staged session a normal boot decides as before it.
use Rattle.std.proofs.Common.{◌≡◌, ◌⊎◌, inl, inr, ℕ, ◌+◌, ◌*◌, ◌/◌, ◌<◌, ◌≤◌, List, [], ◌∷◌, ◌++◌, length, slice_index, refl, sym, ap, ◌∙◌, subst, arith, append_assoc}
use Rattle.std.specs.List.{AllByRecursion}
use Rattle.std.proofs.lemmas.Bool.{cases_lt}
use Rattle.pico_board.specs.declared.boot.Cpu.{Cpu}
use Rattle.pico_board.specs.declared.window.Window.{Window}
use Rattle.pico_board.specs.Content.{Content, IsContent, window_bytes}
use Rattle.pico_board.specs.Sessions.{Confined, Gated, IsBlank, IsClosing, IsGated, IsPartial, SameButWindow}
use Rattle.pico_board.specs.declared.Step.{Step}
use Rattle.pico_board.specs.declared.step.Step.TheVariants.{Erase, Program, Raise}
use Rattle.pico_board.specs.Steps.{CutOf, IsStepIn, Torn, after, after_all}
use Rattle.pico_board.specs.ViewedWindows.{IsViewed-window}
use Rattle.pico_board.proofs.ConfinementLemmas.{Confined-left, confined-CutOf, confined-after_all}
use Rattle.pico_board.proofs.CuttingLemmas.{IsContent-after_all, length-after_all}
use Rattle.pico_board.proofs.GateLemmas.{AllByRecursion-left}
use Rattle.pico_board.proofs.PhaseLemmas.{IsBlank-erase, IsBlank-kept, IsClosing-from, blank_elsewhere, elsewhere-CutOf, first_inside, prefix_phase}
use Rattle.pico_board.proofs.StepLemmas.{CutOf-append_cases, CutOf-append_right, after_all-append}
use Rattle.pico_board.proofs.RangeLemmas.{get_or-window_bytes}
use Rattle.block_codec.specs.Blocks.{BlockAt, BlockView}
use Rattle.part_table.specs.Windows.{IsPlacedIn}
use Rattle.block_codec.specs.Erased.{IsErasedFrom}
use Rattle.block_codec.specs.Pages.{IsBlankWindowPage, IsPartlyWritten, IsSameWindowPage}
use Rattle.block_codec.proofs.PageLemmas.{block_written}
use Rattle.block_loop.specs.Loop.{IsLoop}
use Rattle.block_loop.proofs.ChainLemmas.{loop_of-loop}
use Rattle.block_loop.proofs.SameLoopLemmas.{loop_of-blank}
use Rattle.boot_rules.specs.declared.decision.Decision.{Decision}
use Rattle.boot_sweep.specs.Firms.{Stray}
use Rattle.boot_session.proofs.NeighbourLemmas.{placed}
use Rattle.law_staged.specs.Staged.{IsOffPage, Staged, StagedSession, StartsAsBefore}
use Rattle.law_staged.proofs.ByteLemmas.{AllByRecursion-right, IsLater, front-of, kept-byte, kept-torn, later-both, later-elsewhere, later-programs}
use Rattle.law_staged.proofs.KeptLemmas.{former-same, loopless-same}
use Rattle.law_staged.proofs.LoneLoopLemmas.{no-loop}
use Rattle.law_staged.proofs.WindowLemmas.{behind, unstray, windows-long}

-- confined steps lie in the flash
steps-inside : (w : Window) (n : ℕ) (steps : List Step) → w.start + w.len ≤ n → Confined steps w
    → AllByRecursion (IsStepIn n) steps
steps-inside w n [] inside all = tt
steps-inside w n (Erase t ∷ steps) inside all =
    let high = all.0.1 in (omega (arith, inside, high), steps-inside w n steps inside all.1)
steps-inside w n (Program p bytes ∷ steps) inside all =
    let high = all.0.1 in (omega (arith, inside, high), steps-inside w n steps inside all.1)
steps-inside w n (Raise r bits ∷ steps) inside all = absurd all.0

-- an erased first sector has no loop
blank-loop : (v : List ℕ) → IsErasedFrom v 0 4096 → (bs : List BlockView) → IsLoop v bs → ⊥
blank-loop v erased bs loop =
    let e = sym (loop_of-loop v bs loop) ∙ loop_of-blank v erased in cc

module _ (c : Content) (w : Window) (cpu : Cpu) (steps : List Step) (e : Decision) (session : StagedSession c w cpu steps e)
    (s : ℕ) (elsewhere last : List Step) (gated : IsGated steps w s elsewhere last)
    (inside : w.start + w.len ≤ length c.flash) (room : 4096 ≤ w.len) where
  abbrev staged : Staged c steps w cpu
  staged = session.staged

  abbrev z : Content
  z = after_all c steps

  abbrev page : ℕ
  page = (w.start + staged.first.at) / 256

  in_z : w.start + w.len ≤ length z.flash
  in_z = let n = length-after_all c steps in omega (arith, n, inside)

  z-right : IsContent z
  z-right = IsContent-after_all c steps session.right (steps-inside w (length c.flash) steps inside gated.confined)

  -- the steps done are the erase of the first sector and others
  module _ (x : Step) (done others : List Step) (step : Step) (split : steps ≡ (x ∷ done) ++ step ∷ others) where
    abbrev d : Content
    d = after_all c (x ∷ done)

    both : x ∷ (done ++ step ∷ others) ≡ Erase s ∷ (elsewhere ++ last)
    both = sym split ∙ gated.whole

    head : x ≡ Erase s
    head = cc

    tail : done ++ step ∷ others ≡ elsewhere ++ last
    tail = cc

    later : AllByRecursion (IsLater s) done
    later =
        AllByRecursion-left (IsLater s) done (step ∷ others)
        (subst (AllByRecursion (IsLater s)) (sym tail)
        (later-both s elsewhere last (later-elsewhere s elsewhere gated.apart) (later-programs s last gated.final)))

    off : AllByRecursion (IsOffPage page) done
    off =
        let r = front-of (x ∷ done) step others staged.before (Program page staged.bytes) (sym split ∙ staged.last) in
        (AllByRecursion-left (IsOffPage page) (x ∷ done) r.0 (subst (AllByRecursion (IsOffPage page)) r.1 staged.off)).1

    -- the first byte of the first block is erased
    erased-byte : slice_index d.flash (w.start + staged.first.at) ≡ 255
    erased-byte =
        let low = staged.begins.low in
        let f = gated.first in
        let i = w.start + staged.first.at in
        let blank : slice_index (after c (Erase s)).flash i ≡ 255 =
        ap (λ n. slice_index (after c (Erase s)).flash (n + staged.first.at)) (sym f)
        ∙ IsBlank-erase c s (first_inside c steps w s elsewhere last gated inside) staged.first.at low in
        kept-byte s page i (omega (arith, f)) (omega (arith, f, low)) (omega arith) (omega arith) (after c x) done later off
        ∙ ap (λ (y : Step). slice_index (after c y).flash i) head ∙ blank

    same : SameButWindow w c d
    same =
        confined-after_all c w (x ∷ done)
        (Confined-left (x ∷ done) (step ∷ others) w (subst (λ xs. Confined xs w) split gated.confined))

    in_d : w.start + w.len ≤ length d.flash
    in_d = let n = length-after_all c (x ∷ done) in omega (arith, n, inside)

    abbrev u : List ℕ
    u = window_bytes z w

    abbrev v : List ℕ
    v = window_bytes d w

    window-byte : (k : ℕ) → k < w.len → slice_index v k ≡ slice_index d.flash (w.start + k)
    window-byte k lt = get_or-window_bytes d w k lt

    -- the finished content but for pages of the first sector
    module _ (partial : IsPartial z s d) where
      page-of : (q : ℕ) → IsBlankWindowPage q v ⊎ IsSameWindowPage q u v
      page-of q = elim (cases_lt q 16) [
        | inl near ↦
            let f = gated.first in
            let place : (i : ℕ) → w.start + (256 * q + i) ≡ 256 * (16 * s + q) + i = λ i. omega (arith, f) in
            elim (partial.pages (16 * s + q) (omega (arith, near), omega (arith, near))) [
              | inl blank ↦ inl (λ i lt.
                  window-byte (256 * q + i) (omega (arith, near, lt, room))
                  ∙ (ap (λ j. slice_index d.flash j) (place i) ∙ blank i lt))
              | inr done ↦ inr (λ i lt.
                  window-byte (256 * q + i) (omega (arith, near, lt, room))
                  ∙ (ap (λ j. slice_index d.flash j) (place i) ∙ (done i lt
                  ∙ (ap (λ j. slice_index z.flash j) (sym (place i))
                  ∙ sym (get_or-window_bytes z w (256 * q + i) (omega (arith, near, lt, room)))))))
            ]
        | inr far ↦ inr (λ i lt. behind z d w s gated.first in_z in_d partial.same (256 * q + i) (omega (arith, far)))
      ]

      partly : IsPartlyWritten u v
      partly = record { long = windows-long z d w s gated.first in_z in_d partial.same; pages = page-of }

      like : (x : ℕ) (b : BlockView) → BlockAt v x b → (a : BlockView) × BlockAt u x a × (a.link ≡ b.link)
      like x b at =
          let f = block_written u v x b partly (IsViewed-window z w z-right in_z).bytes at in (f.0, f.1, f.2.link)

      partial-loop : (bs : List BlockView) → IsLoop v bs → ⊥
      partial-loop bs loop =
          let low = staged.begins.low in
          no-loop u v like staged.loop bs staged.closes loop staged.alone staged.first staged.begins
          (window-byte staged.first.at (omega (arith, low, room)) ∙ erased-byte)

    blank-window : IsBlank s d → IsErasedFrom v 0 4096
    blank-window blank i low lt =
        window-byte i (omega (arith, lt, room))
        ∙ (ap (λ n. slice_index d.flash (n + i)) (sym gated.first) ∙ blank i lt)

    -- the same of a content that the loss of power in the next step leaves, where that is not the last one
    module _ (next : List Step) (after_next : Step) (more : others ≡ after_next ∷ next) (t : Content)
        (torn : Torn d step t) (clean : Stray z t w → ⊥) where
      cut : CutOf c steps t
      cut =
          subst (λ xs. CutOf c xs t) (sym split)
          (CutOf-append_right c (x ∷ done) (step ∷ others) t (inl torn))

      torn-same : SameButWindow w c t
      torn-same = confined-CutOf c w steps t gated.confined cut

      in_t : w.start + w.len ≤ length t.flash
      in_t = let n = torn-same.outside.long in omega (arith, n, inside)

      torn-later : IsLater s step
      torn-later =
          (AllByRecursion-right (IsLater s) done (step ∷ others)
          (subst (AllByRecursion (IsLater s)) (sym tail)
          (later-both s elsewhere last (later-elsewhere s elsewhere gated.apart)
          (later-programs s last gated.final)))).0

      torn-off : IsOffPage page step
      torn-off =
          let whole : ((x ∷ done) ++ step ∷ []) ++ after_next ∷ next
          ≡ staged.before ++ Program page staged.bytes ∷ [] =
          append_assoc (x ∷ done) (step ∷ []) (after_next ∷ next)
          ∙ (ap (λ ys. (x ∷ done) ++ step ∷ ys) (sym more) ∙ (sym split ∙ staged.last)) in
          let r = front-of ((x ∷ done) ++ step ∷ []) after_next next staged.before (Program page staged.bytes) whole in
          (AllByRecursion-right (IsOffPage page) (x ∷ done) (step ∷ [])
          (AllByRecursion-left (IsOffPage page) ((x ∷ done) ++ step ∷ []) r.0
          (subst (AllByRecursion (IsOffPage page)) r.1 staged.off))).0

      torn-byte : slice_index t.flash (w.start + staged.first.at) ≡ 255
      torn-byte =
          let low = staged.begins.low in
          let f = gated.first in
          kept-torn s page (w.start + staged.first.at) (omega (arith, f)) (omega (arith, f, low)) (omega arith)
          (omega arith) d step t torn-later torn-off torn
          ∙ erased-byte

      torn-phase : IsBlank s t ⊎ ((p : ℕ) × IsClosing z s p t)
      torn-phase =
          let within = first_inside c steps w s elsewhere last gated inside in
          let begun_at : CutOf (after c (Erase s)) (elsewhere ++ last) t =
          subst (λ xs. CutOf (after c (Erase s)) xs t) tail
          (subst (λ (y : Step). CutOf (after c y) (done ++ step ∷ others) t) head
          (CutOf-append_right (after c x) done (step ∷ others) t (inl torn))) in
          let finished : after_all (after_all (after c (Erase s)) elsewhere) last ≡ z =
          sym (ap (λ xs. after_all c xs) gated.whole ∙ after_all-append (after c (Erase s)) elsewhere last) in
          elim (CutOf-append_cases (after c (Erase s)) elsewhere last t begun_at) [
            | inl middle ↦ inl (IsBlank-kept s (after c (Erase s)) t (IsBlank-erase c s within)
                (elsewhere-CutOf (after c (Erase s)) s elsewhere t gated.apart middle))
            | inr end_ ↦
                let found = IsClosing-from s (after_all (after c (Erase s)) elsewhere) last t
                (blank_elsewhere c s elsewhere within gated.apart) gated.final gated.distinct end_ in
                inr (found.0, subst (λ y. IsClosing y s found.0 t) finished found.1)
          ]

      torn-loopless : (bs : List BlockView) → IsLoop (window_bytes t w) bs → ⊥
      torn-loopless bs loop = elim torn-phase [
        | inl blank ↦
            blank-loop (window_bytes t w) (λ i low lt.
            get_or-window_bytes t w i (omega (arith, lt, room))
            ∙ (ap (λ n. slice_index t.flash (n + i)) (sym gated.first) ∙ blank i lt)) bs loop
        | inr closing ↦
            let low = staged.begins.low in
            no-loop u (window_bytes t w) (unstray z t w s gated.first in_z in_t closing.1.same clean) staged.loop bs
            staged.closes loop staged.alone staged.first staged.begins
            (get_or-window_bytes t w staged.first.at (omega (arith, low, room)) ∙ torn-byte)
      ]

      pub torn-begun : StartsAsBefore c t cpu e
      torn-begun =
          loopless-same c w cpu session.right session.boot_member e session.former session.elsewhere t torn-same
          torn-loopless

    loopless : (bs : List BlockView) → IsLoop v bs → ⊥
    loopless = elim (prefix_phase c steps w s elsewhere last (x ∷ done) (step ∷ others) gated inside split) [
      | inl none ↦ cc
      | inr phase ↦ elim phase [
        | inl blank ↦ blank-loop v (blank-window blank)
        | inr partial ↦ partial-loop partial
      ]
    ]

    pub begun : StartsAsBefore c d cpu e
    begun = loopless-same c w cpu session.right session.boot_member e session.former session.elsewhere d same loopless

  pub cut-at : (done others : List Step) (step : Step) → steps ≡ done ++ step ∷ others
      → StartsAsBefore c (after_all c done) cpu e
  cut-at [] others step split =
      former-same c w cpu session.right session.boot_member e session.former session.elsewhere
  cut-at (x ∷ done) others step split = begun x done others step split

-- power that is lost before a step of a staged session
pub staged-cut : (c : Content) (w : Window) (cpu : Cpu) (steps done others : List Step) (step : Step) (e : Decision)
    → StagedSession c w cpu steps e → steps ≡ done ++ step ∷ others → StartsAsBefore c (after_all c done) cpu e
staged-cut c w cpu steps done others step e session split = go session.staged.gated
  where
    place : IsPlacedIn c w
    place = placed c w cpu session.right session.boot_member

    go : Gated steps w → StartsAsBefore c (after_all c done) cpu e
    go (inl none) = absurd (nowhere done (sym none ∙ split))
      where
        nowhere : (xs : List Step) → [] ≡ xs ++ step ∷ others → ⊥
        nowhere [] h = cc
        nowhere (x ∷ xs) h = cc
    go (inr (s, elsewhere, last, gated)) =
        let whole = session.right.flash_length.whole in
        let inside = place.inside in
        cut-at c w cpu steps e session s elsewhere last gated (omega (arith, whole, inside)) place.some done others step split

-- power that is lost in a step of a staged session other than the first and the last
pub staged-torn : (c : Content) (w : Window) (cpu : Cpu) (steps done others : List Step) (first step next : Step)
    (d : Content) (e : Decision) → StagedSession c w cpu steps e
    → steps ≡ (first ∷ done) ++ step ∷ next ∷ others → Torn (after_all c (first ∷ done)) step d
    → (Stray (after_all c steps) d w → ⊥) → StartsAsBefore c d cpu e
staged-torn c w cpu steps done others first step next d e session split torn clean = go session.staged.gated
  where
    place : IsPlacedIn c w
    place = placed c w cpu session.right session.boot_member

    go : Gated steps w → StartsAsBefore c d cpu e
    go (inl none) = let never : [] ≡ (first ∷ done) ++ step ∷ next ∷ others = sym none ∙ split in cc
    go (inr (s, elsewhere, last, gated)) =
        let whole = session.right.flash_length.whole in
        let inside = place.inside in
        torn-begun c w cpu steps e session s elsewhere last gated (omega (arith, whole, inside)) place.some first done
        (next ∷ others) step split others next refl d torn clean
