-- A valid image, and the answer of the first rule that fails, are what the function answers.
use Rattle.std.proofs.Common.{◌≡◌, ℕ, pos, Bool, List, length, Some, None, Result, Ok, Err, refl, sym, ap, inl, inr}
use Rattle.std.proofs.lemmas.List.Folds.{list_any-from_Any}
use Rattle.pico_board.specs.declared.boot.Cpu.{Cpu}
use Rattle.pico_board.specs.declared.window.Window.{Window}
use Rattle.block_codec.specs.declared.definition.Def.{Def}
use Rattle.block_codec.specs.declared.definition.EntryPoint.{EntryPoint}
use Rattle.block_codec.specs.Blocks.{BlockView}
use Rattle.block_loop.specs.Loop.{IsLoop, loop_of}
use Rattle.block_loop.specs.declared.fault.LoopFault.TheVariants.{NoBlock as NoFirst, Broken, TooMany, Overlap}
use Rattle.block_loop.proofs.ChainLemmas.{loop_of-fault, loop_of-loop}
use Rattle.image_def.specs.declared.fault.DefFault.{DefFault}
use Rattle.image_def.specs.declared.started.Started.{Started}
use Rattle.image_def.specs.Suits.{does_suit, has_image_type}
use Rattle.image_def.specs.Definition.{def_of}
use Rattle.load_map.specs.declared.load.Load.{Load}
use Rattle.image_check.specs.declared.addressing.Addressing.{Addressing}
use Rattle.image_check.specs.declared.why.Why.{Why}
use Rattle.image_check.specs.declared.why.Why.TheVariants.{NoBlock, Loop, NoDefinition, NotForProcessor, Items, Trial, RollbackRequired, Below, Map, Entry, Digest, Delta}
use Rattle.image_check.specs.Answers.{and_then, and_unless}
use Rattle.image_check.specs.Entry.{entry_of}
use Rattle.image_check.specs.Entering.{IsEntry}
use Rattle.image_check.specs.declared.examining.Defined.{Defined}
use Rattle.image_check.specs.Image.{defined_in, entered_in, image_in, started_of}
use Rattle.image_check.specs.Rules.{definition_answer, delta_fault, digest_fault, entry_answer, items_answer, loop_answer, map_answer, map_loads, rollback_fault, trial_fault}
use Rattle.image_check.specs.Valid.{HasItsDigest, IsDefined, IsLastWith, IsSound, IsValidImage, ListsRequiredRows, MayBeTried, ReachesItsRows}
use Rattle.image_check.specs.WhyNot.{IsAdmitted, IsBelow, IsTried, IsWhyNot}
use Rattle.image_check.proofs.AnswerLemmas.{ok-and_then, err-and_then, ok-and_unless, err-and_unless, ok-fault_as, err-fault_as}
use Rattle.image_check.proofs.EntryLemmas.{entry-err, entry-ok}
use Rattle.image_check.proofs.LastLemmas.{found-last, none-any, passes-none, weaker-any}
use Rattle.image_check.proofs.RuleLemmas.{below-some, delta-says, digest-says, listed-none, listed-some, reached-none, suits-type, trial-says}

-- the trial rule
trial-none : (allowed : Bool) (def : Def) → MayBeTried allowed def → trial_fault allowed def ≡ None
trial-none allowed def may = elim (trial-says allowed def) [ inl holds ↦ holds.0 | inr fails ↦ absurd (fails.1 may) ]

trial-some : (allowed : Bool) (def : Def) → (MayBeTried allowed def → ⊥) → trial_fault allowed def ≡ Some Trial
trial-some allowed def never =
    elim (trial-says allowed def) [ inl holds ↦ absurd (never holds.1) | inr fails ↦ fails.0 ]

-- the rollback rule
rolled-none : (otp : List ℕ) (def : Def) → ListsRequiredRows otp def → ReachesItsRows otp def
    → rollback_fault otp def ≡ None
rolled-none otp def lists reaches = rw (listed-none otp def lists, reached-none otp def reaches) refl

rolled-required : (otp : List ℕ) (def : Def) → (ListsRequiredRows otp def → ⊥)
    → rollback_fault otp def ≡ Some RollbackRequired
rolled-required otp def lacks = rw (listed-some otp def lacks) refl

rolled-below : (otp : List ℕ) (image : Defined) (version raised : ℕ) → ListsRequiredRows otp image.def
    → IsBelow otp image version raised
    → rollback_fault otp image.def ≡ Some (Below version raised)
rolled-below otp image version raised lists below =
    rw (listed-none otp image.def lists, below-some otp image version raised below) refl

digest-none : (bytes : List ℕ) (image : Defined) (loads : List Load) → HasItsDigest bytes image loads
    → digest_fault bytes image.block image.def loads image.def.digest ≡ None
digest-none bytes image loads has =
    elim (digest-says bytes image loads image.def.digest refl)
    [ inl holds ↦ holds.0 | inr fails ↦ absurd (fails.1 has) ]

digest-some : (bytes : List ℕ) (image : Defined) (loads : List Load) → (HasItsDigest bytes image loads → ⊥)
    → digest_fault bytes image.block image.def loads image.def.digest ≡ Some Digest
digest-some bytes image loads lacks =
    elim (digest-says bytes image loads image.def.digest refl)
    [ inl holds ↦ absurd (lacks holds.1) | inr fails ↦ fails.0 ]

module _ (cpu : Cpu) (bytes : List ℕ) where
  loop-ok : (loop : List BlockView) → IsLoop bytes loop → loop_answer (loop_of bytes) ≡ Ok loop
  loop-ok loop closes = ap loop_answer (loop_of-loop bytes loop closes)

  definition-ok : (loop : List BlockView) (b : BlockView) → IsLastWith (does_suit cpu) loop b
      → definition_answer cpu loop ≡ Ok b
  definition-ok loop b last =
      rw (
        weaker-any (does_suit cpu) has_image_type (suits-type cpu) loop b last,
        found-last
            (does_suit cpu) loop b last,
      ) refl

  pub defined-ok : (loop : List BlockView) (image : Defined) → IsDefined cpu bytes loop image
      → defined_in cpu bytes ≡ Ok image
  defined-ok loop image defined =
      ok-and_then (loop_answer (loop_of bytes)) _ loop (Ok image) (loop-ok loop defined.closes)
      (ok-and_then (definition_answer cpu loop) _ image.block (Ok image)
      (definition-ok loop image.block defined.defines)
      (ok-and_then (items_answer image.block) _ image.def (Ok image)
      (ok-fault_as Items (def_of image.block) image.def defined.items) refl))

  no-definition : (loop : List BlockView) (y : Why) → IsLoop bytes loop → definition_answer cpu loop ≡ Err y
      → defined_in cpu bytes ≡ Err y
  no-definition loop y closes is =
      ok-and_then (loop_answer (loop_of bytes)) _ loop (Err y) (loop-ok loop closes)
      (err-and_then (definition_answer cpu loop) _ y is)

  wrong-items : (loop : List BlockView) (b : BlockView) (fault : DefFault) → IsLoop bytes loop
      → IsLastWith (does_suit cpu) loop b
      → def_of b ≡ Err fault → defined_in cpu bytes ≡ Err (Items fault)
  wrong-items loop b fault closes last is =
      ok-and_then (loop_answer (loop_of bytes)) _ loop (Err (Items fault)) (loop-ok loop closes)
      (ok-and_then (definition_answer cpu loop) _ b (Err (Items fault)) (definition-ok loop b last)
      (err-and_then (items_answer b) _ (Items fault) (err-fault_as Items (def_of b) fault is)))

  module _ (a : Addressing) where
    loaded : (image : Defined) (loads : List Load) (y : Result EntryPoint Why)
        → map_loads a (length bytes) image.block image.def ≡ Ok loads
        → and_then (entry_answer a.base bytes cpu image.block image.def loads) (λ entry.
        and_unless (digest_fault bytes image.block image.def loads image.def.digest)
        (and_unless (delta_fault image.def.delta) (Ok entry))) ≡ y
        → entered_in a cpu bytes image ≡ y
    loaded image loads y map rest =
        ok-and_then (map_answer a (length bytes) image.block image.def) _ loads y
        (ok-fault_as Map (map_loads a (length bytes) image.block image.def) loads map) rest

    entered : (image : Defined) (loads : List Load) (entry : EntryPoint) (y : Result EntryPoint Why)
        → map_loads a (length bytes) image.block image.def ≡ Ok loads
        → IsEntry a.base bytes cpu image.block image.def loads entry
        → and_unless (digest_fault bytes image.block image.def loads image.def.digest)
        (and_unless (delta_fault image.def.delta) (Ok entry)) ≡ y
        → entered_in a cpu bytes image ≡ y
    entered image loads entry y map enters rest =
        loaded image loads y map (ok-and_then (entry_answer a.base bytes cpu image.block image.def loads) _ entry y
        (ok-fault_as Entry (entry_of a.base bytes cpu image.block image.def loads) entry
        (entry-ok a.base bytes loads cpu image.block image.def entry enters)) rest)

    delta-none : (image : Defined) → image.def.delta ≡ pos 0 → delta_fault image.def.delta ≡ None
    delta-none image zero = ap delta_fault zero

    pub entered-ok : (image : Defined) (entry : EntryPoint) → IsSound a cpu bytes image entry
        → entered_in a cpu bytes image ≡ Ok entry
    entered-ok image entry s =
        entered image s.loads entry (Ok entry) s.map s.enters
        (ok-and_unless _ _ (Ok entry) (digest-none bytes image s.loads s.digest)
        (ok-and_unless _ _ (Ok entry) (delta-none image s.delta) refl))

    module _ (window : Window) (trial : Bool) (otp : List ℕ) where
      defined : (loop : List BlockView) (image : Defined) (y : Result Started Why) → IsDefined cpu bytes loop image
          → and_unless (trial_fault trial image.def) (and_unless (rollback_fault otp image.def)
          (and_then (entered_in a cpu bytes image) (λ entry. Ok (started_of window image entry)))) ≡ y
          → image_in a window cpu trial otp bytes ≡ y
      unfolding image_in
      defined loop image y is rest = ok-and_then (defined_in cpu bytes) _ image y (defined-ok loop image is) rest

      undefined : (y : Why) → defined_in cpu bytes ≡ Err y → image_in a window cpu trial otp bytes ≡ Err y
      unfolding image_in
      undefined y is = err-and_then (defined_in cpu bytes) _ y is

      tried : (image : Defined) (y : Result Started Why) → IsTried cpu trial bytes image
          → and_unless (rollback_fault otp image.def)
          (and_then (entered_in a cpu bytes image) (λ entry. Ok (started_of window image entry))) ≡ y
          → image_in a window cpu trial otp bytes ≡ y
      tried image y t rest =
          defined t.loop image y t.defined (ok-and_unless _ _ y (trial-none trial image.def t.tried) rest)

      admitted : (image : Defined) (y : Result Started Why) → IsAdmitted cpu trial otp bytes image
          → and_then (entered_in a cpu bytes image) (λ entry. Ok (started_of window image entry)) ≡ y
          → image_in a window cpu trial otp bytes ≡ y
      admitted image y is rest =
          tried image y is.tried (ok-and_unless _ _ y (rolled-none otp image.def is.listed is.reached) rest)

      not-entered : (image : Defined) (y : Why) → IsAdmitted cpu trial otp bytes image
          → entered_in a cpu bytes image ≡ Err y
          → image_in a window cpu trial otp bytes ≡ Err y
      not-entered image y is wrong = admitted image (Err y) is (err-and_then (entered_in a cpu bytes image) _ y wrong)

      -- a valid image is what is answered
      pub valid-answered : (s : Started) → IsValidImage a window cpu trial otp bytes s
          → image_in a window cpu trial otp bytes ≡ Ok s
      valid-answered s v =
          admitted v.image (Ok s) (record {
            tried = record { loop = v.sound.loop; defined = v.sound.defined; tried = v.tried };
            listed = v.listed;
            reached = v.reached;
          })
          (ok-and_then (entered_in a cpu bytes v.image) _ v.entry (Ok s) (entered-ok v.image v.entry v.sound)
          (ap Ok (sym v.started)))

      -- the first rule that fails is what is answered
      pub why-answered : (y : Why) → IsWhyNot a cpu trial otp bytes y → image_in a window cpu trial otp bytes ≡ Err y
      why-answered NoBlock none =
          undefined NoBlock (err-and_then (loop_answer (loop_of bytes)) _ NoBlock
          (ap loop_answer (loop_of-fault bytes NoFirst none)))
      why-answered (Loop NoFirst) (other, none) = absurd (other refl)
      why-answered (Loop (Broken x)) (other, broken) =
          undefined _ (err-and_then (loop_answer (loop_of bytes)) _ _
          (ap loop_answer (loop_of-fault bytes (Broken x) broken)))
      why-answered (Loop TooMany) (other, many) =
          undefined _ (err-and_then (loop_answer (loop_of bytes)) _ _
          (ap loop_answer (loop_of-fault bytes TooMany many)))
      why-answered (Loop (Overlap i j)) (other, shared) =
          undefined _ (err-and_then (loop_answer (loop_of bytes)) _ _
          (ap loop_answer (loop_of-fault bytes (Overlap i j) shared)))
      why-answered NoDefinition (loop, closes, none) =
          undefined NoDefinition (no-definition loop NoDefinition closes (rw (none-any has_image_type loop none) refl))
      why-answered NotForProcessor (loop, closes, another) =
          undefined NotForProcessor (no-definition loop NotForProcessor closes
          (rw (list_any-from_Any has_image_type loop another.some, passes-none (does_suit cpu) loop another.none) refl))
      why-answered (Items fault) (loop, b, closes, last, is) =
          undefined (Items fault) (wrong-items loop b fault closes last is)
      why-answered Trial (loop, image, is, never) =
          defined loop image (Err Trial) is (err-and_unless _ _ Trial (trial-some trial image.def never))
      why-answered RollbackRequired (image, is, lacks) =
          tried image (Err RollbackRequired) is (err-and_unless _ _ RollbackRequired
          (rolled-required otp image.def lacks))
      why-answered (Below version raised) (image, is, lists, below) =
          tried image (Err (Below version raised)) is
          (err-and_unless _ _ (Below version raised) (rolled-below otp image version raised lists below))
      why-answered (Map fault) (image, is, wrong) =
          not-entered image (Map fault) is (err-and_then (map_answer a (length bytes) image.block image.def) _
          (Map fault)
          (err-fault_as Map (map_loads a (length bytes) image.block image.def) fault wrong))
      why-answered (Entry fault) (image, loads, is, wrong) =
          not-entered image (Entry fault) is.admitted (loaded image loads (Err (Entry fault)) is.map
          (err-and_then (entry_answer a.base bytes cpu image.block image.def loads) _ (Entry fault)
          (err-fault_as Entry (entry_of a.base bytes cpu image.block image.def loads) fault
          (entry-err a.base bytes loads cpu image.block image.def fault wrong))))
      why-answered Digest (image, loads, is, lacks) =
          not-entered image Digest is.loaded.admitted (entered image loads is.entry (Err Digest) is.loaded.map is.enters
          (err-and_unless _ _ Digest (digest-some bytes image loads lacks)))
      why-answered Delta (image, loads, is, has, other) =
          not-entered image Delta is.loaded.admitted (entered image loads is.entry (Err Delta) is.loaded.map is.enters
          (ok-and_unless _ _ (Err Delta) (digest-none bytes image loads has)
          (elim (delta-says image.def.delta) [
            | inl zero ↦ absurd (other zero.1)
            | inr some ↦ err-and_unless _ _ Delta some.0
          ])))
