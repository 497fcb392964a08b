-- What a valid image says of its rows and of the place of its trial bit.
use Rattle.std.proofs.Common.{◌≡◌, ℕ, ◌+◌, ◌*◌, ◌<◌, ◌≤◌, Bool, List, [], ◌∷◌, ◌++◌, length, slice_get, Some, refl, sym, ap, ◌∙◌, subst, arith}
use Rattle.std.specs.Prelude.{IfSome}
use Rattle.std.proofs.lemmas.List.Edits.{length-between}
use Rattle.pico_board.specs.declared.boot.Cpu.{Cpu}
use Rattle.pico_board.specs.declared.window.Window.{Window}
use Rattle.pico_board.specs.Content.{Content, window_bytes}
use Rattle.block_codec.specs.declared.definition.Def.{Def}
use Rattle.block_codec.specs.Blocks.{BlockAt, BlockView}
use Rattle.block_codec.proofs.AtLemmas.{BlockAt-room}
use Rattle.image_def.specs.declared.started.Started.{Started}
use Rattle.image_def.specs.Guarantees.{IsDefinition}
use Rattle.image_def.proofs.GuaranteeLemmas.{definition_from_ok}
use Rattle.image_check.specs.Valid.{Valid}
use Rattle.image_check.proofs.RuleLemmas.{suits-type}
use Rattle.otp_roll.specs.Rows.{AreRollbackRows, IsRollbackVersion}
use Rattle.trial_buy.specs.Buying.{trial_place}
use Rattle.part_table.specs.Windows.{IsPlacedIn}

at-split : {X : Type 0} (before behind : List X) (x : X) → slice_get (before ++ x ∷ behind) (length before) ≡ Some x
at-split [] behind x = refl
at-split (y ∷ before) behind x = at-split before behind x

-- the definition of a valid image: its block stands in the window, and it is sound
record IsDefinedBy (bytes : List ℕ) (s : Started) : Type 0 where
  pub block : BlockView
  pub def : Def
  pub stands : BlockAt bytes block.at block
  pub sound : IsDefinition block def
  pub place : s.image_at ≡ block.at + 4 * def.image_word
  pub rows : s.rows.items ≡ def.rows.items
  pub rollback : s.rollback ≡ def.rollback

defined-by : (c : Content) (w : Window) (cpu : Cpu) (trial : Bool) (s : Started) → Valid c w cpu trial s
    → IsDefinedBy (window_bytes c w) s
defined-by c w cpu trial s v =
    let d = v.sound.defined in
    let last = d.defines in
    let at : slice_get v.sound.loop (length last.before) ≡ Some v.image.block =
    ap (λ xs. slice_get xs (length last.before)) last.whole ∙ at-split last.before last.behind v.image.block in
    let stands = d.closes.chain.stand (length last.before) v.image.block at in
    record {
      block = v.image.block;
      def = v.image.def;
      stands = stands;
      sound = definition_from_ok v.image.block v.image.def stands.stands.whole
          (suits-type cpu v.image.block last.here) d.items;
      place = ap (λ (x : Started). x.image_at) v.started;
      rows = ap (λ (x : Started). x.rows.items) v.started;
      rollback = ap (λ (x : Started). x.rollback) v.started;
    }

module _ (c : Content) (w : Window) (cpu : Cpu) (trial : Bool) (s : Started) (v : Valid c w cpu trial s) where
  -- the rows of a valid image are rollback rows, and its rollback version is one of theirs
  pub valid-rows : AreRollbackRows s.rows.items
  valid-rows = let d = defined-by c w cpu trial s v in subst AreRollbackRows (sym d.rows) d.sound.rows

  pub valid-version : IfSome s.rollback (λ version. IsRollbackVersion version s.rows.items)
  valid-version =
      let d = defined-by c w cpu trial s v in
      subst (λ o. IfSome o (λ version. IsRollbackVersion version s.rows.items)) (sym d.rollback)
      (subst (λ rows. IfSome d.def.rollback (λ version. IsRollbackVersion version rows)) (sym d.rows) d.sound.rollback)

  -- the byte of its trial bit lies in its window
  pub trial-inside : s.window ≡ w → IsPlacedIn c w → trial_place s < length c.flash
  trial-inside same placed =
      let d = defined-by c w cpu trial s v in
      let room = BlockAt-room (window_bytes c w) d.block.at d.block d.stands in
      let item = d.sound.image.1 in
      let low = item.inside in
      let long = length-between c.flash w.start (w.start + w.len) in
      let inside = placed.inside in
      let start : s.window.start ≡ w.start = ap (λ (x : Window). x.start) same in
      let place = d.place in
      omega (arith, room, low, long, inside, start, place)

  pub trial-within : IsPlacedIn c w → w.start + w.len ≤ length c.flash → s.image_at + 3 < w.len
  trial-within placed inside =
      let d = defined-by c w cpu trial s v in
      let room = BlockAt-room (window_bytes c w) d.block.at d.block d.stands in
      let item = d.sound.image.1 in
      let low = item.inside in
      let long = length-between c.flash w.start (w.start + w.len) inside in
      let place = d.place in
      omega (arith, room, low, long, inside, place)
