-- What the function that judges rule by rule answers, in the words of the rules.
use Rattle.std.proofs.Common.{◌≡◌, ℕ, pos, Bool, true, false, if◌then◌else◌, List, length, Option, Some, None, Result, Ok, Err, refl, sym, subst, inl, inr}
use Rattle.std.specs.List.{list_any}
use Rattle.std.proofs.lemmas.List.Folds.{Any-from_list_any}
use Rattle.pico_board.specs.declared.boot.Cpu.{Cpu}
use Rattle.pico_board.specs.declared.window.Window.{Window}
use Rattle.block_codec.specs.declared.definition.Def.{Def}
use Rattle.block_codec.specs.declared.definition.EntryPoint.{EntryPoint}
use Rattle.block_codec.specs.Blocks.{BlockView}
use Rattle.block_loop.specs.Loop.{IsLoop, loop_of}
use Rattle.block_loop.specs.declared.fault.LoopFault.{LoopFault}
use Rattle.block_loop.specs.declared.fault.LoopFault.TheVariants.{NoBlock as NoFirst, Broken, TooMany, Overlap}
use Rattle.block_loop.proofs.ChainLemmas.{Says, loop_of-says}
use Rattle.image_def.specs.declared.fault.DefFault.{DefFault}
use Rattle.image_def.specs.declared.started.Started.{Started}
use Rattle.image_def.specs.Suits.{does_suit, has_image_type, last_suiting}
use Rattle.image_def.specs.Definition.{def_of}
use Rattle.load_map.specs.declared.load.Load.{Load}
use Rattle.load_map.specs.declared.load.MapFault.{MapFault}
use Rattle.image_check.specs.declared.addressing.Addressing.{Addressing}
use Rattle.image_check.specs.declared.why.EntryFault.{EntryFault}
use Rattle.image_check.specs.declared.why.Why.{Why}
use Rattle.image_check.specs.declared.why.Why.TheVariants.{NotForProcessor, NoDefinition, Items, Map, Entry}
use Rattle.image_check.specs.Answers.{and_then, and_unless, fault_as, or_fault}
use Rattle.image_check.specs.Entry.{entry_of}
use Rattle.image_check.specs.Entering.{IsEntry}
use Rattle.image_check.specs.declared.examining.Defined.{Defined}
use Rattle.image_check.specs.Image.{defined_in, entered_in, image_in, started_of}
use Rattle.image_check.specs.Rules.{delta_fault, digest_fault, loop_answer, map_loads, rollback_fault, trial_fault}
use Rattle.image_check.specs.Valid.{HasItsDigest, IsDefined, IsLastWith, IsValidImage}
use Rattle.image_check.specs.WhyNot.{IsAdmitted, IsLoaded, IsTried, IsWhyNot}
use Rattle.image_check.proofs.EntryLemmas.{SaysEntry, entry-says}
use Rattle.image_check.proofs.LastLemmas.{any-none, last-found, none-passes}
use Rattle.image_check.proofs.RuleLemmas.{SaysRolled, delta-says, digest-says, rolled-says, trial-says}

module _ (a : Addressing) (cpu : Cpu) (trial : Bool) (otp bytes : List ℕ) where
  -- the definition and its record, or the answer of one of the first five rules
  abbrev SaysDefined : Result Defined Why → Type 0
  SaysDefined (Ok image) = (loop : List BlockView) × IsDefined cpu bytes loop image
  SaysDefined (Err y) = IsWhyNot a cpu trial otp bytes y

  says-items : (loop : List BlockView) → IsLoop bytes loop → (b : BlockView) → IsLastWith (does_suit cpu) loop b
      → (r : Result Def DefFault) → def_of b ≡ r
      → SaysDefined (and_then (fault_as Items r) (λ def. Ok (record { block = b; def = def })))
  says-items loop closes b last (Ok def) is = (loop, record { closes = closes; defines = last; items = is })
  says-items loop closes b last (Err fault) is = (loop, b, closes, last, is)

  says-suiting : (loop : List BlockView) → IsLoop bytes loop → (typed : Bool) → list_any has_image_type loop ≡ typed
      → (suiting : Option BlockView) → last_suiting cpu loop ≡ suiting
      → SaysDefined (and_then (if typed then or_fault suiting NotForProcessor else Err NoDefinition)
      (λ block. and_then (fault_as Items (def_of block)) (λ def. Ok (record { block = block; def = def }))))
  says-suiting loop closes false none suiting is = (loop, closes, any-none has_image_type loop none)
  says-suiting loop closes true some None is = (
    loop,
    closes,
    record {
      some = Any-from_list_any has_image_type loop some;
      none = none-passes
          (does_suit cpu) loop is;
    },
  )
  says-suiting loop closes true some (Some b) is =
      says-items loop closes b (last-found (does_suit cpu) loop b is) (def_of b) refl

  says-loop : (r : Result (List BlockView) LoopFault) → Says bytes r
      → SaysDefined (and_then (loop_answer r) (λ loop.
      and_then (if list_any has_image_type loop then or_fault
      (last_suiting cpu loop) NotForProcessor else Err NoDefinition)
      (λ block. and_then (fault_as Items (def_of block)) (λ def. Ok (record { block = block; def = def })))))
  says-loop (Ok loop) closes = says-suiting loop closes (list_any has_image_type loop) refl (last_suiting cpu loop) refl
  says-loop (Err NoFirst) none = none
  says-loop (Err (Broken x)) broken = ((λ e. cc), broken)
  says-loop (Err TooMany) many = ((λ e. cc), many)
  says-loop (Err (Overlap i j)) shared = ((λ e. cc), shared)

  defined-says : SaysDefined (defined_in cpu bytes)
  defined-says = says-loop (loop_of bytes) (loop_of-says bytes)

  -- where the image starts, or the answer of one of the last four rules
  abbrev SaysEntered : Defined → Result EntryPoint Why → Type 0
  SaysEntered image (Ok entry) =
      (loads : List Load) × (map_loads a (length bytes) image.block image.def ≡ Ok loads)
      × IsEntry a.base bytes cpu image.block image.def loads entry × HasItsDigest bytes image loads
      × (image.def.delta ≡ pos 0)
  SaysEntered image (Err y) = IsWhyNot a cpu trial otp bytes y

  says-delta : (image : Defined) (loads : List Load) (entry : EntryPoint) → IsLoaded a cpu trial otp bytes image loads
      → IsEntry a.base bytes cpu image.block image.def loads entry → HasItsDigest bytes image loads
      → SaysEntered image (and_unless (delta_fault image.def.delta) (Ok entry))
  says-delta image loads entry loaded enters digest = elim (delta-says image.def.delta) [
    | inl (none, zero) ↦ subst (λ o. SaysEntered image (and_unless o (Ok entry))) (sym none)
        (loads, loaded.map, enters, digest, zero)
    | inr (some, other) ↦
        subst (λ o. SaysEntered image (and_unless o (Ok entry))) (sym some)
        (image, loads, record { loaded = loaded; entry = entry; enters = enters }, digest, other)
  ]

  says-digest : (image : Defined) (loads : List Load) (entry : EntryPoint) → IsLoaded a cpu trial otp bytes image loads
      → IsEntry a.base bytes cpu image.block image.def loads entry
      → SaysEntered image (and_unless (digest_fault bytes image.block image.def loads image.def.digest)
      (and_unless (delta_fault image.def.delta) (Ok entry)))
  says-digest image loads entry loaded enters = elim (digest-says bytes image loads image.def.digest refl) [
    | inl (none, digest) ↦
        subst (λ o. SaysEntered image (and_unless o (and_unless (delta_fault image.def.delta) (Ok entry)))) (sym none)
        (says-delta image loads entry loaded enters digest)
    | inr (some, other) ↦
        subst (λ o. SaysEntered image (and_unless o (and_unless (delta_fault image.def.delta) (Ok entry)))) (sym some)
        (image, loads, record { loaded = loaded; entry = entry; enters = enters }, other)
  ]

  says-entry : (image : Defined) (loads : List Load) → IsLoaded a cpu trial otp bytes image loads
      → (r : Result EntryPoint EntryFault) → SaysEntry a.base bytes loads cpu image.block image.def r
      → SaysEntered image (and_then (fault_as Entry r) (λ entry.
      and_unless (digest_fault bytes image.block image.def loads image.def.digest)
      (and_unless (delta_fault image.def.delta) (Ok entry))))
  says-entry image loads loaded (Ok entry) enters = says-digest image loads entry loaded enters
  says-entry image loads loaded (Err fault) wrong = (image, loads, loaded, wrong)

  says-map : (image : Defined) → IsAdmitted cpu trial otp bytes image → (r : Result (List Load) MapFault)
      → map_loads a (length bytes) image.block image.def ≡ r
      → SaysEntered image (and_then (fault_as Map r) (λ loads.
      and_then (fault_as Entry (entry_of a.base bytes cpu image.block image.def loads)) (λ entry.
      and_unless (digest_fault bytes image.block image.def loads image.def.digest)
      (and_unless (delta_fault image.def.delta) (Ok entry)))))
  says-map image admitted (Ok loads) is =
      says-entry image loads (record { admitted = admitted; map = is })
      (entry_of a.base bytes cpu image.block image.def loads)
      (entry-says a.base bytes loads cpu image.block image.def)
  says-map image admitted (Err fault) is = (image, admitted, is)

  entered-says : (image : Defined) → IsAdmitted cpu trial otp bytes image
      → SaysEntered image (entered_in a cpu bytes image)
  entered-says image admitted = says-map image admitted (map_loads a (length bytes) image.block image.def) refl

  module _ (window : Window) where
    -- a valid image, or the answer of the first rule that fails
    abbrev pub SaysImage : Result Started Why → Type 0
    SaysImage (Ok s) = IsValidImage a window cpu trial otp bytes s
    SaysImage (Err y) = IsWhyNot a cpu trial otp bytes y

    says-entered : (image : Defined) (admitted : IsAdmitted cpu trial otp bytes image) (r : Result EntryPoint Why)
        → SaysEntered image r → SaysImage (and_then r (λ entry. Ok (started_of window image entry)))
    says-entered image admitted (Ok entry) (loads, map, enters, digest, delta) = record {
      image = image;
      entry = entry;
      sound = record {
        loop = admitted.tried.loop;
        loads = loads;
        defined = admitted.tried.defined;
        map = map;
        enters = enters;
        digest = digest;
        delta = delta;
      };
      tried = admitted.tried.tried;
      listed = admitted.listed;
      reached = admitted.reached;
      started = refl;
    }
    says-entered image admitted (Err y) why = why

    says-rolled : (image : Defined) → IsTried cpu trial bytes image → (o : Option Why) → SaysRolled otp image o
        → SaysImage (and_unless o (and_then (entered_in a cpu bytes image)
        (λ entry. Ok (started_of window image entry))))
    says-rolled image tried None (lists, reaches) =
        let admitted : IsAdmitted cpu trial otp bytes
        image = record { tried = tried; listed = lists; reached = reaches } in
        says-entered image admitted (entered_in a cpu bytes image) (entered-says image admitted)
    says-rolled image tried (Some y) (inl (is, lacks)) =
        subst (λ z. IsWhyNot a cpu trial otp bytes z) (sym is) (image, tried, lacks)
    says-rolled image tried (Some y) (inr (lists, (version, raised, is, below))) =
        subst (λ z. IsWhyNot a cpu trial otp bytes z) (sym is) (image, tried, lists, below)

    says-tried : (loop : List BlockView) (image : Defined) → IsDefined cpu bytes loop image
        → SaysImage (and_unless (trial_fault trial image.def) (and_unless (rollback_fault otp image.def)
        (and_then (entered_in a cpu bytes image) (λ entry. Ok (started_of window image entry)))))
    says-tried loop image defined = elim (trial-says trial image.def) [
      | inl (none, may) ↦
          subst (λ o. SaysImage (and_unless o (and_unless (rollback_fault otp image.def)
          (and_then (entered_in a cpu bytes image) (λ entry. Ok (started_of window image entry)))))) (sym none)
          (says-rolled image (record { loop = loop; defined = defined; tried = may }) (rollback_fault otp image.def)
          (rolled-says otp image))
      | inr (some, never) ↦
          subst (λ o. SaysImage (and_unless o (and_unless (rollback_fault otp image.def)
          (and_then (entered_in a cpu bytes image) (λ entry. Ok (started_of window image entry)))))) (sym some)
          (loop, image, defined, never)
    ]

    says-image : (r : Result Defined Why) → SaysDefined r
        → SaysImage (and_then r (λ image. and_unless (trial_fault trial image.def)
        (and_unless (rollback_fault otp image.def)
        (and_then (entered_in a cpu bytes image) (λ entry. Ok (started_of window image entry))))))
    says-image (Ok image) (loop, defined) = says-tried loop image defined
    says-image (Err y) why = why

    pub image-says : SaysImage (image_in a window cpu trial otp bytes)
    unfolding image_in
    image-says = says-image (defined_in cpu bytes) defined-says
