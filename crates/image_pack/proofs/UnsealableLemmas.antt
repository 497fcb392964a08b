-- The first rule that a binary fails, by the parts that a sealed image takes over.
use Rattle.std.proofs.Common.{◌≡◌, Bool, if◌then◌else◌, ◌⊎◌, ℕ, true, false, List, length, Option, Some, None, Result, Ok, Err, refl, sym, ap, subst, ◌∙◌, inl, inr}
use Rattle.std.specs.List.{list_any}
use Rattle.std.proofs.lemmas.List.Folds.{list_any-from_Any}
use Rattle.pico_board.specs.declared.boot.Cpu.{Cpu}
use Rattle.block_codec.specs.Blocks.{BlockView}
use Rattle.block_loop.specs.declared.fault.LoopFault.{LoopFault}
use Rattle.block_loop.specs.declared.fault.LoopFault.TheVariants.{NoBlock as NoFirst, Broken, TooMany, Overlap}
use Rattle.block_loop.specs.Loop.{IsLoopFault, IsLoop, loop_of}
use Rattle.block_loop.proofs.ChainLemmas.{loop_of-fault, loop_of-loop}
use Rattle.block_loop.proofs.SameLoopLemmas.{IsLoop-from_answer}
use Rattle.image_def.specs.Definition.{def_of}
use Rattle.image_def.specs.Suits.{does_suit, has_image_type, last_suiting}
use Rattle.image_check.specs.declared.examining.Defined.{Defined}
use Rattle.image_check.specs.declared.why.Why.{Why}
use Rattle.image_check.specs.declared.why.Why.TheVariants.{NoBlock, Loop, NoDefinition, NotForProcessor, Items, Trial, RollbackRequired, Below, Map, Entry, Digest, Delta}
use Rattle.image_check.specs.Addressing.{in_flash}
use Rattle.image_check.specs.Answers.{and_then, fault_as, or_fault}
use Rattle.image_check.specs.Image.{defined_in, image_in}
use Rattle.image_check.specs.Rules.{definition_answer, items_answer, loop_answer, map_answer, map_loads}
use Rattle.image_check.specs.Valid.{IsDefined}
use Rattle.image_check.proofs.AnswerLemmas.{err-and_then, err-fault_as, ok-and_then, ok-fault_as}
use Rattle.image_check.proofs.AnsweredLemmas.{defined-ok}
use Rattle.image_check.proofs.LastLemmas.{last-found, none-any, passes-none, found-last, weaker-any}
use Rattle.image_check.proofs.LawLemmas.{answered-why}
use Rattle.image_check.proofs.RuleLemmas.{suits-type}
use Rattle.image_pack.specs.declared.parts.Parts.{Parts}
use Rattle.image_pack.specs.Faults.{whole_window, zero_otp}
use Rattle.image_pack.specs.Sealing.{parts_in, parts_taken_over}
use Rattle.image_pack.proofs.PartLemmas.{parts_in-loop}
use Rattle.image_pack.proofs.WithinLemmas.{loop_answered}
use Rattle.image_pack.specs.Unsealable.{FailsRuleFirst, IsUnsealable, KeepsRules}

-- two answers one after another, the whole of which is known
and_then-ok : {A B F : Type 0} (r : Result A F) (f : A → Result B F) (y : B) → and_then r f ≡ Ok y
    → (x : A) × (r ≡ Ok x) × (f x ≡ Ok y)
and_then-ok (Ok x) f y is = (x, refl, is)
and_then-ok (Err e) f y is = cc

and_then-err : {A B F : Type 0} (r : Result A F) (f : A → Result B F) (e : F) → and_then r f ≡ Err e
    → (r ≡ Err e) ⊎ ((x : A) × (r ≡ Ok x) × (f x ≡ Err e))
and_then-err (Ok x) f e is = inr (x, refl, is)
and_then-err (Err d) f e is = let same : d ≡ e = cc in inl (ap Err same)

fault_as-ok : {A F G : Type 0} (name : F → G) (r : Result A F) (x : A) → fault_as name r ≡ Ok x → r ≡ Ok x
fault_as-ok name (Ok y) x is = let same : y ≡ x = cc in ap Ok same
fault_as-ok name (Err e) x is = cc

fault_as-err : {A F G : Type 0} (name : F → G) (r : Result A F) (g : G) → fault_as name r ≡ Err g
    → (e : F) × (r ≡ Err e) × (name e ≡ g)
fault_as-err name (Ok y) g is = cc
fault_as-err name (Err e) g is = (e, refl, let same : name e ≡ g = cc in same)

suiting-is : (typed : Bool) (o : Option BlockView) (b : BlockView)
    → (if typed then or_fault o NotForProcessor else Err NoDefinition) ≡ Ok b → o ≡ Some b
suiting-is true (Some c) b is = let same : c ≡ b = cc in ap Some same
suiting-is true None b is = cc
suiting-is false o b is = cc

-- the rules that a binary is asked for, but that on the load map
abbrev IsEarly : Why → Type 0
IsEarly NoBlock = Unit {0}
IsEarly (Loop fault) = Unit {0}
IsEarly NoDefinition = Unit {0}
IsEarly NotForProcessor = Unit {0}
IsEarly (Items fault) = Unit {0}
IsEarly why = ⊥

early-loop : (r : Result (List BlockView) LoopFault) (why : Why) → loop_answer r ≡ Err why → IsEarly why
early-loop (Ok loop) why is = cc
early-loop (Err NoFirst) why is = let same : NoBlock ≡ why = cc in subst IsEarly same tt
early-loop (Err (Broken x)) why is = let same : Loop (Broken x) ≡ why = cc in subst IsEarly same tt
early-loop (Err TooMany) why is = let same : Loop TooMany ≡ why = cc in subst IsEarly same tt
early-loop (Err (Overlap i j)) why is = let same : Loop (Overlap i j) ≡ why = cc in subst IsEarly same tt

early-definition : (typed : Bool) (o : Option BlockView) (why : Why)
    → (if typed then or_fault o NotForProcessor else Err NoDefinition) ≡ Err why → IsEarly why
early-definition true (Some c) why is = cc
early-definition true None why is = let same : NotForProcessor ≡ why = cc in subst IsEarly same tt
early-definition false o why is = let same : NoDefinition ≡ why = cc in subst IsEarly same tt

module _ (cpu : Cpu) (bytes : List ℕ) where
  -- the definition that is found keeps the first five rules
  pub defined-is : (image : Defined) → defined_in cpu bytes ≡ Ok image → (loop : List BlockView)
      × IsDefined cpu bytes loop image
  defined-is image is =
      let one = and_then-ok (loop_answer (loop_of bytes)) _ image is in
      let two = and_then-ok (definition_answer cpu one.0) _ image one.2 in
      let three = and_then-ok (items_answer two.0) _ image two.2 in
      let same : record { block = two.0; def = three.0 } ≡ image = (let made = three.2 in cc) in
      let closes = IsLoop-from_answer bytes one.0 (loop_answered (loop_of bytes) one.0 one.1) in
      let last = last-found (does_suit cpu) one.0 two.0
      (suiting-is (list_any has_image_type one.0) (last_suiting cpu one.0) two.0 two.1) in (
        one.0,
        subst (λ (i : Defined). IsDefined cpu bytes one.0 i) same
            (record { closes = closes; defines = last; items = fault_as-ok Items (def_of two.0) three.0 three.1 }),
      )

  early-why : (why : Why) → defined_in cpu bytes ≡ Err why → IsEarly why
  early-why why is = elim (and_then-err (loop_answer (loop_of bytes)) _ why is) [
    | inl none ↦ early-loop (loop_of bytes) why none
    | inr (loop, closed, next) ↦ elim (and_then-err (definition_answer cpu loop) _ why next) [
      | inl none ↦ early-definition (list_any has_image_type loop) (last_suiting cpu loop) why none
      | inr (b, found, last) ↦ elim (and_then-err (items_answer b) _ why last) [
        | inl wrong ↦
            let fault = fault_as-err Items (def_of b) why wrong in
            subst IsEarly fault.2 tt
        | inr (def, read, end_) ↦ cc
      ]
    ]
  ]

  -- the answer of the first five rules is that of the first that fails
  fails-by : (why : Why) → defined_in cpu bytes ≡ Err why → FailsRuleFirst cpu bytes why
  unfolding image_in
  fails-by why is =
      answered-why in_flash (whole_window bytes) cpu true zero_otp bytes why
      (err-and_then (defined_in cpu bytes) _ why is)

  early-unsealable : (why : Why) → IsEarly why → FailsRuleFirst cpu bytes why → IsUnsealable cpu bytes why
  early-unsealable NoBlock early fails = fails
  early-unsealable (Loop fault) early fails = fails
  early-unsealable NoDefinition early fails = fails
  early-unsealable NotForProcessor early fails = fails
  early-unsealable (Items fault) early fails = fails
  early-unsealable Trial early fails = absurd early
  early-unsealable RollbackRequired early fails = absurd early
  early-unsealable (Below version raised) early fails = absurd early
  early-unsealable (Map fault) early fails = absurd early
  early-unsealable (Entry fault) early fails = absurd early
  early-unsealable Digest early fails = absurd early
  early-unsealable Delta early fails = absurd early

  -- where the loop does not close, nothing is defined
  open-loop : (fault : LoopFault) (why : Why) → IsLoopFault bytes fault → loop_answer (Err fault) ≡ Err why
      → defined_in cpu bytes ≡ Err why
  open-loop fault why is answer =
      err-and_then (loop_answer (loop_of bytes)) _ why (ap loop_answer (loop_of-fault bytes fault is) ∙ answer)

  no-definition : (loop : List BlockView) (why : Why) → IsLoop bytes loop → definition_answer cpu loop ≡ Err why
      → defined_in cpu bytes ≡ Err why
  no-definition loop why closes is =
      ok-and_then (loop_answer (loop_of bytes)) _ loop (Err why) (ap loop_answer (loop_of-loop bytes loop closes))
      (err-and_then (definition_answer cpu loop) _ why is)

  -- the first rule that the binary fails is answered
  undefined-by : (why : Why) → IsEarly why → IsUnsealable cpu bytes why → defined_in cpu bytes ≡ Err why
  undefined-by NoBlock early none = open-loop NoFirst NoBlock none refl
  undefined-by (Loop NoFirst) early fails = absurd (fails.0 refl)
  undefined-by (Loop (Broken x)) early fails = open-loop (Broken x) (Loop (Broken x)) fails.1 refl
  undefined-by (Loop TooMany) early fails = open-loop TooMany (Loop TooMany) fails.1 refl
  undefined-by (Loop (Overlap i j)) early fails = open-loop (Overlap i j) (Loop (Overlap i j)) fails.1 refl
  undefined-by NoDefinition early (loop, closes, none) =
      no-definition loop NoDefinition closes (rw (none-any has_image_type loop none) refl)
  undefined-by NotForProcessor early (loop, closes, another) =
      no-definition loop NotForProcessor closes
      (rw (list_any-from_Any has_image_type loop another.some, passes-none (does_suit cpu) loop another.none) refl)
  undefined-by (Items fault) early (loop, b, closes, last, is) =
      let suiting : definition_answer cpu loop ≡ Ok b = rw (
        weaker-any (does_suit cpu) has_image_type (suits-type cpu) loop b last,
        found-last (does_suit cpu) loop b last,
      ) refl in
      ok-and_then (loop_answer (loop_of bytes)) _ loop (Err (Items fault))
      (ap loop_answer (loop_of-loop bytes loop closes))
      (ok-and_then (definition_answer cpu loop) _ b (Err (Items fault)) suiting
      (err-and_then (items_answer b) _ (Items fault) (err-fault_as Items (def_of b) fault is)))
  undefined-by Trial early fails = absurd early
  undefined-by RollbackRequired early fails = absurd early
  undefined-by (Below version raised) early fails = absurd early
  undefined-by (Map fault) early fails = absurd early
  undefined-by (Entry fault) early fails = absurd early
  undefined-by Digest early fails = absurd early
  undefined-by Delta early fails = absurd early

  -- what is not defined has no parts, for the same reason
  undefined-parts : (why : Why) → defined_in cpu bytes ≡ Err why → parts_in cpu bytes ≡ Err why
  undefined-parts why is = go (loop_answer (loop_of bytes)) refl
    where
      go : (r : Result (List BlockView) Why) → loop_answer (loop_of bytes) ≡ r → parts_in cpu bytes ≡ Err why
      go (Ok loop) closed =
          ok-and_then (loop_answer (loop_of bytes)) _ loop (Err why) closed
          (err-and_then (defined_in cpu bytes) _ why is)
      go (Err e) open_ =
          let errs : (r : Result Defined Why) → r ≡ Err e → r ≡ Err why → e ≡ why = λ r one two. cc in
          let same : e ≡ why = errs (defined_in cpu bytes) (err-and_then (loop_answer (loop_of bytes)) _ e open_) is in
          err-and_then (loop_answer (loop_of bytes)) _ e open_ ∙ ap Err same

  -- a binary that fails a rule has no parts
  pub unsealable-parts : (why : Why) → IsUnsealable cpu bytes why → parts_in cpu bytes ≡ Err why
  unsealable-parts NoBlock fails = undefined-parts NoBlock (undefined-by NoBlock tt fails)
  unsealable-parts (Loop fault) fails = undefined-parts (Loop fault) (undefined-by (Loop fault) tt fails)
  unsealable-parts NoDefinition fails = undefined-parts NoDefinition (undefined-by NoDefinition tt fails)
  unsealable-parts NotForProcessor fails = undefined-parts NotForProcessor (undefined-by NotForProcessor tt fails)
  unsealable-parts (Items fault) fails = undefined-parts (Items fault) (undefined-by (Items fault) tt fails)
  unsealable-parts (Map fault) fails =
      ok-and_then (loop_answer (loop_of bytes)) _ fails.loop (Err (Map fault))
      (ap loop_answer (loop_of-loop bytes fails.loop fails.defined.closes))
      (ok-and_then (defined_in cpu bytes) _ fails.image (Err (Map fault))
      (defined-ok cpu bytes fails.loop fails.image fails.defined)
      (err-and_then (map_answer in_flash (length bytes) fails.image.block fails.image.def) _ (Map fault)
      (err-fault_as Map (map_loads in_flash (length bytes) fails.image.block fails.image.def) fault fails.wrong)))
  unsealable-parts Trial fails = absurd fails
  unsealable-parts RollbackRequired fails = absurd fails
  unsealable-parts (Below version raised) fails = absurd fails
  unsealable-parts (Entry fault) fails = absurd fails
  unsealable-parts Digest fails = absurd fails
  unsealable-parts Delta fails = absurd fails

  -- a binary without parts fails a rule
  pub parts-unsealable : (why : Why) → parts_in cpu bytes ≡ Err why → IsUnsealable cpu bytes why
  parts-unsealable why is = go (defined_in cpu bytes) refl
    where
      go : (r : Result Defined Why) → defined_in cpu bytes ≡ r → IsUnsealable cpu bytes why
      go (Err e) none =
          let same : Err e ≡ Err why = sym (undefined-parts e none) ∙ is in
          let is_why : e ≡ why = cc in
          subst (IsUnsealable cpu bytes) is_why (early-unsealable e (early-why e none) (fails-by e none))
      go (Ok image) found =
          let defined = defined-is image found in
          let closed = loop_of-loop bytes defined.0 defined.1.closes in
          let next : and_then (map_answer in_flash (length bytes) image.block image.def)
          (λ loads. Ok (parts_taken_over defined.0 image.block loads)) ≡ Err why =
          sym (ok-and_then (loop_answer (loop_of bytes)) _ defined.0 _ (ap loop_answer closed)
          (ok-and_then (defined_in cpu bytes) _ image _ found refl)) ∙ is in
          elim (and_then-err (map_answer in_flash (length bytes) image.block image.def)
          (λ loads. Ok (parts_taken_over defined.0 image.block loads)) why next) [
            | inl wrong ↦
                let fault =
                fault_as-err Map (map_loads in_flash (length bytes) image.block image.def) why wrong in
                subst (IsUnsealable cpu bytes) fault.2
                (record { loop = defined.0; image = image; defined = defined.1; wrong = fault.1 })
            | inr (loads, mapped, end_) ↦ cc
          ]

  -- a binary that keeps the rules has parts, and none other has
  pub keeps-parts : (keeps : KeepsRules cpu bytes)
      → parts_in cpu bytes ≡ Ok (parts_taken_over keeps.loop keeps.image.block keeps.loads)
  keeps-parts keeps =
      parts_in-loop bytes cpu keeps.loop keeps.image keeps.loads
      (loop_of-loop bytes keeps.loop keeps.defined.closes)
      (defined-ok cpu bytes keeps.loop keeps.image keeps.defined)
      (ok-fault_as Map (map_loads in_flash (length bytes) keeps.image.block keeps.image.def) keeps.loads keeps.map)

  pub kept-parts : KeepsRules cpu bytes → (p : Parts) × (parts_in cpu bytes ≡ Ok p)
  kept-parts keeps = (parts_taken_over keeps.loop keeps.image.block keeps.loads, keeps-parts keeps)

  pub parts-kept : (p : Parts) → parts_in cpu bytes ≡ Ok p → KeepsRules cpu bytes
  parts-kept p is =
      let one = and_then-ok (loop_answer (loop_of bytes)) _ p is in
      let two = and_then-ok (defined_in cpu bytes) _ p one.2 in
      let three = and_then-ok (map_answer in_flash (length bytes) two.0.block two.0.def) _ p two.2 in
      let defined = defined-is two.0 two.1 in
      record {
        loop = defined.0;
        image = two.0;
        loads = three.0;
        defined = defined.1;
        map = fault_as-ok Map (map_loads in_flash (length bytes) two.0.block two.0.def) three.0 three.1;
      }

  pub kept-or-not : KeepsRules cpu bytes ⊎ ((why : Why) × IsUnsealable cpu bytes why)
  kept-or-not = go (parts_in cpu bytes) refl
    where
      go : (r : Result Parts Why) → parts_in cpu bytes ≡ r
          → KeepsRules cpu bytes ⊎ ((why : Why) × IsUnsealable cpu bytes why)
      go (Ok p) is = inl (parts-kept p is)
      go (Err why) is = inr (why, parts-unsealable why is)

  pub not-kept : (why : Why) → KeepsRules cpu bytes → IsUnsealable cpu bytes why → ⊥
  not-kept why keeps fails =
      let differ : (r : Result Parts Why) (p : Parts) → r ≡ Ok p → r ≡ Err why → ⊥ = λ r p one two. cc in
      differ (parts_in cpu bytes) (kept-parts keeps).0 (kept-parts keeps).1 (unsealable-parts why fails)

  pub one-why : (why other : Why) → IsUnsealable cpu bytes why → IsUnsealable cpu bytes other → why ≡ other
  one-why why other x y =
      let same : (r : Result Parts Why) → r ≡ Err why → r ≡ Err other → why ≡ other = λ r one two. cc in
      same (parts_in cpu bytes) (unsealable-parts why x) (unsealable-parts other y)
