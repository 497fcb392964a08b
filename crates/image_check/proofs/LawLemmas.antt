-- The laws of valid images.
use Rattle.std.proofs.Common.{◌≡◌, ◌↔◌, ◌⊎◌, ℕ, Bool, true, false, List, [], ◌∷◌, Option, Some, None, Result, Ok, Err, length, slice_get, slice_index, refl, sym, ◌∙◌, ap, subst, inl, inr}
use Rattle.pico_board.specs.declared.boot.Cpu.{Cpu}
use Rattle.pico_board.specs.declared.window.Window.{Window}
use Rattle.pico_board.specs.Content.{Content, window_bytes}
use Rattle.image_def.specs.declared.started.Started.{Started}
use Rattle.image_def.specs.Flags.{is_trial}
use Rattle.block_codec.specs.Erased.{IsErasedFrom}
use Rattle.block_loop.specs.declared.fault.LoopFault.TheVariants.{NoBlock as NoFirst}
use Rattle.block_loop.proofs.SameLoopLemmas.{IsFault-from_answer, loop_of-blank}
use Rattle.image_check.specs.declared.why.Why.TheVariants.{NoBlock}
use Rattle.image_check.specs.declared.addressing.Addressing.{Addressing}
use Rattle.image_check.specs.declared.why.Why.{Why}
use Rattle.image_check.specs.Addressing.{in_flash}
use Rattle.image_check.specs.Image.{image_at, image_in, started_of}
use Rattle.image_check.specs.NotBelow.{NotBelow}
use Rattle.image_check.specs.SameImage.{AgreeFrom, AgreeOnBlocks, AgreeOnLoad, AgreeOnLoads, AgreeOnStorage, HoldsImage, SameImage}
use Rattle.block_codec.specs.Blocks.{BlockView}
use Rattle.block_codec.specs.Items.{items_of}
use Rattle.block_codec.specs.declared.definition.Def.{Def}
use Rattle.block_codec.specs.declared.items.Item.{Item}
use Rattle.load_map.specs.Reading.{loads_of}
use Rattle.image_check.specs.Rules.{item_loads, map_loads}
use Rattle.std.specs.Option.{option_and_then}
use Rattle.load_map.specs.declared.load.Load.{Load}
use Rattle.image_check.specs.Valid.{IsRecordOfImage, IsValidImage, Valid}
use Rattle.image_check.specs.WhyNot.{IsWhyNot}
use Rattle.image_check.proofs.AnsweredLemmas.{valid-answered, why-answered}
use Rattle.image_check.proofs.JudgedLemmas.{SaysImage, image-says}

module _ (a : Addressing) (w : Window) (cpu : Cpu) (trial : Bool) (otp bytes : List ℕ) where
  -- what is answered is a valid image, or the answer of the first rule that fails
  pub answered-valid : (s : Started) → image_in a w cpu trial otp bytes ≡ Ok s → IsValidImage a w cpu trial otp bytes s
  answered-valid s is = subst (SaysImage a cpu trial otp bytes w) is (image-says a cpu trial otp bytes w)

  pub answered-why : (y : Why) → image_in a w cpu trial otp bytes ≡ Err y → IsWhyNot a cpu trial otp bytes y
  answered-why y is = subst (SaysImage a cpu trial otp bytes w) is (image-says a cpu trial otp bytes w)

  pub valid-exactly : (s : Started) → IsValidImage a w cpu trial otp bytes s ↔ (image_in a w cpu trial otp bytes ≡ Ok s)
  valid-exactly s = (valid-answered cpu bytes a w trial otp s, answered-valid s)

  pub why-exactly : (y : Why) → IsWhyNot a cpu trial otp bytes y ↔ (image_in a w cpu trial otp bytes ≡ Err y)
  why-exactly y = (why-answered cpu bytes a w trial otp y, answered-why y)

  pub some-answer : ((s : Started) × IsValidImage a w cpu trial otp bytes s)
      ⊎ ((y : Why) × IsWhyNot a cpu trial otp bytes y)
  some-answer = go (image_in a w cpu trial otp bytes) (image-says a cpu trial otp bytes w)
    where
      go : (r : Result Started Why) → SaysImage a cpu trial otp bytes w r
          → ((s : Started) × IsValidImage a w cpu trial otp bytes s) ⊎ ((y : Why) × IsWhyNot a cpu trial otp bytes y)
      go (Ok s) valid = inl (s, valid)
      go (Err y) why = inr (y, why)

  pub not-both : (s : Started) (y : Why) → IsValidImage a w cpu trial otp bytes s → IsWhyNot a cpu trial otp bytes y → ⊥
  not-both s y valid why =
      apart (image_in a w cpu trial otp bytes) (valid-answered cpu bytes a w trial otp s valid)
      (why-answered cpu bytes a w trial otp y why)
    where
      apart : (r : Result Started Why) → r ≡ Ok s → r ≡ Err y → ⊥
      apart r e f = cc

  pub one-image : (s t : Started) → IsValidImage a w cpu trial otp bytes s → IsValidImage a w cpu trial otp bytes t
      → s ≡ t
  one-image s t one two =
      same (image_in a w cpu trial otp bytes) (valid-answered cpu bytes a w trial otp s one)
      (valid-answered cpu bytes a w trial otp t two)
    where
      same : (r : Result Started Why) → r ≡ Ok s → r ≡ Ok t → s ≡ t
      same r e f = cc

  pub one-reason : (y z : Why) → IsWhyNot a cpu trial otp bytes y → IsWhyNot a cpu trial otp bytes z → y ≡ z
  one-reason y z one two =
      same (image_in a w cpu trial otp bytes) (why-answered cpu bytes a w trial otp y one)
      (why-answered cpu bytes a w trial otp z two)
    where
      same : (r : Result Started Why) → r ≡ Err y → r ≡ Err z → y ≡ z
      same r e f = cc

  -- a valid image is not below its rows
  pub not-below : (s : Started) → IsValidImage a w cpu trial otp bytes s → NotBelow otp s
  not-below s v = subst (NotBelow otp) (sym v.started) (record { version = v.reached; required = v.listed })

pub trial-more : (a : Addressing) (w : Window) (cpu : Cpu) (otp bytes : List ℕ) (s : Started)
    → IsValidImage a w cpu false otp bytes s
    → IsValidImage a w cpu true otp bytes s
trial-more a w cpu otp bytes s v = record {
  image = v.image;
  entry = v.entry;
  sound = v.sound;
  tried = λ e. refl;
  listed = v.listed;
  reached = v.reached;
  started = v.started;
}

-- an image that is valid where no trial is allowed is none, and one that is none is valid where no trial is allowed
pub trial-none : (a : Addressing) (w : Window) (cpu : Cpu) (otp bytes : List ℕ) (s : Started)
    → IsValidImage a w cpu false otp bytes s → s.trial ≡ false
trial-none a w cpu otp bytes s v =
    ap (λ (t : Started). t.trial) v.started ∙ go (is_trial v.image.def.flags) v.tried
  where
    go : (t : Bool) → (t ≡ true → false ≡ true) → t ≡ false
    go false may = refl
    go true may = sym (may refl)

pub trial-less : (a : Addressing) (w : Window) (cpu : Cpu) (otp bytes : List ℕ) (s : Started) → s.trial ≡ false
    → IsValidImage a w cpu true otp bytes s → IsValidImage a w cpu false otp bytes s
trial-less a w cpu otp bytes s none v = record {
  image = v.image;
  entry = v.entry;
  sound = v.sound;
  tried = λ is. sym none ∙ ap (λ (t : Started). t.trial) v.started ∙ is;
  listed = v.listed;
  reached = v.reached;
  started = v.started;
}

-- validity by what the window holds, the trial bit and the rollback rows
pub valid-parts : (w : Window) (cpu : Cpu) (trial : Bool) (otp bytes : List ℕ) (s : Started)
    → IsValidImage in_flash w cpu trial otp bytes s
    → (s.window ≡ w) × HoldsImage cpu bytes s × (s.trial ≡ true → trial ≡ true) × NotBelow otp s
valid-parts w cpu trial otp bytes s v =
    let here : s.window ≡ w = ap (λ (t : Started). t.window) v.started in (
      here,
      record {
        image = v.image;
        entry = v.entry;
        sound = v.sound;
        started = v.started ∙ ap (λ (x : Window). started_of x v.image v.entry) (sym here);
      },
      (λ is. v.tried (sym (ap (λ (t : Started). t.trial) v.started) ∙ is)),
      not-below in_flash w cpu trial otp bytes s v,
    )

pub parts-valid : (w : Window) (cpu : Cpu) (trial : Bool) (otp bytes : List ℕ) (s : Started) → s.window ≡ w
    → HoldsImage cpu bytes s
    → (s.trial ≡ true → trial ≡ true) → NotBelow otp s → IsValidImage in_flash w cpu trial otp bytes s
parts-valid w cpu trial otp bytes s here h may not =
    let rows = subst (NotBelow otp) h.started not in
    record {
      image = h.image;
      entry = h.entry;
      sound = h.sound;
      tried = λ is. may (ap (λ (t : Started). t.trial) h.started ∙ is);
      listed = rows.required;
      reached = rows.version;
      started = h.started ∙ ap (λ (x : Window). started_of x h.image h.entry) here;
    }

-- a window that begins with an erased sector
pub erased-none : (a : Addressing) (w : Window) (cpu : Cpu) (trial : Bool) (otp bytes : List ℕ)
    → IsErasedFrom bytes 0 4096
    → image_in a w cpu trial otp bytes ≡ Err NoBlock
erased-none a w cpu trial otp bytes erased =
    why-answered cpu bytes a w trial otp NoBlock (IsFault-from_answer bytes NoFirst (loop_of-blank bytes erased))

-- an image that is answered of a window of a flash is valid there
pub valid-at : (c : Content) (w : Window) (cpu : Cpu) (trial : Bool) (s : Started) → image_at c w cpu trial ≡ Ok s
    → Valid c w cpu trial s
valid-at c w cpu trial s is = answered-valid in_flash w cpu trial c.otp (window_bytes c w) s is

pub at-valid : (c : Content) (w : Window) (cpu : Cpu) (trial : Bool) (s : Started) → Valid c w cpu trial s
    → image_at c w cpu trial ≡ Ok s
at-valid c w cpu trial s v = valid-answered cpu (window_bytes c w) in_flash w trial c.otp s v

pub image-local : (c d : Content) (w : Window) (cpu : Cpu) (trial : Bool) → window_bytes c w ≡ window_bytes d w
    → c.otp ≡ d.otp
    → image_at c w cpu trial ≡ image_at d w cpu trial
image-local c d w cpu trial bytes rows =
    ap (λ otp. image_in in_flash w cpu trial otp (window_bytes c w)) rows
    ∙ ap (image_in in_flash w cpu trial d.otp) bytes

-- a valid image is held, and the same bytes hold the same image
pub valid-held : (c : Content) (w : Window) (cpu : Cpu) (s : Started) → Valid c w cpu true s
    → HoldsImage cpu (window_bytes c w) s
valid-held c w cpu s v =
    let here : s.window ≡ w = ap (λ (t : Started). t.window) v.started in
    record {
      image = v.image;
      entry = v.entry;
      sound = v.sound;
      started = v.started ∙ ap (λ (x : Window). started_of x v.image v.entry) (sym here);
    }

-- lists that are equal agree everywhere
agree-all : (one two : List ℕ) → one ≡ two → (from end : ℕ) → AgreeFrom one two from end
agree-all one two same from end i above below = ap (λ xs. slice_index xs i) (sym same)

agree-blocks : (one two : List ℕ) → one ≡ two → (blocks : List BlockView) → AgreeOnBlocks one two blocks
agree-blocks one two same [] = tt
agree-blocks one two same (b ∷ blocks) = (agree-all one two same _ _, agree-blocks one two same blocks)

agree-load : (one two : List ℕ) → one ≡ two → (storage : Option ℕ) (size : ℕ) → AgreeOnLoad one two storage size
agree-load one two same None size = tt
agree-load one two same (Some start) size = agree-all one two same _ _

agree-loads : (one two : List ℕ) → one ≡ two → (loads : List Load) → AgreeOnLoads one two loads
agree-loads one two same [] = tt
agree-loads one two same (load ∷ loads) =
    (agree-load one two same load.storage load.size, agree-loads one two same loads)

agree-storage : (one two : List ℕ) → one ≡ two → (item : Option ℕ) (loads : List Load)
    → AgreeOnStorage one two item loads
agree-storage one two same None loads = agree-all one two same _ _
agree-storage one two same (Some item) loads = agree-loads one two same loads

pub same-image : (c d : Content) (s : Started) (cpu : Cpu) → HoldsImage cpu (window_bytes c s.window) s
    → window_bytes c s.window ≡ window_bytes d s.window → SameImage c d s cpu
same-image c d s cpu held bytes = record {
  held = held;
  long = sym (ap (λ xs. length xs) bytes);
  blocks = agree-blocks _ _ bytes held.sound.loop;
  storage = agree-storage _ _ bytes held.image.def.map_item held.sound.loads;
}

-- what is held of an image that is valid, whether a trial is allowed or not
pub valid-holds : (c : Content) (w : Window) (cpu : Cpu) (trial : Bool) (s : Started) → Valid c w cpu trial s
    → HoldsImage cpu (window_bytes c w) s
valid-holds c w cpu trial s v =
    let here : s.window ≡ w = ap (λ (t : Started). t.window) v.started in
    record {
      image = v.image;
      entry = v.entry;
      sound = v.sound;
      started = v.started ∙ ap (λ (x : Window). started_of x v.image v.entry) (sym here);
    }

pub valid-window : (c : Content) (w : Window) (cpu : Cpu) (trial : Bool) (s : Started) → Valid c w cpu trial s
    → s.window ≡ w
valid-window c w cpu trial s v = ap (λ (t : Started). t.window) v.started

-- what a valid image's record says is what its definition and its entry say
pub record-of-valid : (a : Addressing) (w : Window) (cpu : Cpu) (trial : Bool) (otp bytes : List ℕ) (s : Started)
    → IsValidImage a w cpu trial otp bytes s → IsRecordOfImage a w cpu bytes s
record-of-valid a w cpu trial otp bytes s v = subst (IsRecordOfImage a w cpu bytes) (sym v.started) (record {
  loop = v.sound.loop;
  loads = v.sound.loads;
  image = v.image;
  entry = v.entry;
  defined = v.sound.defined;
  enters = v.sound.enters;
  window_is = refl;
  block_is = refl;
  place_is = refl;
  pc_is = refl;
  sp_is = refl;
  limit_is = refl;
  version_is = refl;
  rollback_is = refl;
  rows_are = refl;
  trial_is = refl;
})

-- what an image's load map item loads, and that one without such an item loads nothing
pub map-none : (a : Addressing) (n : ℕ) (b : BlockView) (def : Def) → def.map_item ≡ None → map_loads a n b def ≡ Ok []
map-none a n b def none = ap (λ o. item_loads a n b (option_and_then (slice_get (items_of b.items)) o)) none

pub map-some : (a : Addressing) (n : ℕ) (b : BlockView) (def : Def) (i : ℕ) (item : Item) → def.map_item ≡ Some i
    → slice_get (items_of b.items) i ≡ Some item → map_loads a n b def ≡ loads_of a.base a.in_place n b item
map-some a n b def i item some at =
    ap (λ o. item_loads a n b (option_and_then (slice_get (items_of b.items)) o)) some ∙ ap (item_loads a n b) at
