-- What is seen of the blocks of a loop, one after another.
use Rattle.std.proofs.Common.{◌≡◌, ℕ, ◌+◌, ◌≤◌, Bool, true, false, ◌||◌, if◌then◌else◌, List, [], ◌∷◌, ◌++◌, length, take, slice_get, Option, Some, None, Result, Ok, Err, refl, sym, ap, ◌∙◌, subst, arith}
use Rattle.std.specs.Prelude.{find, IfOk}
use Rattle.std.specs.List.{list_any}
use Rattle.std.proofs.lemmas.List.{reverse-append, take_more, take_all}
use Rattle.std.proofs.lemmas.List.Folds.{list_any-append}
use Rattle.std.proofs.lemmas.Option.{slice_get_within, get_or_from_slice_get, same_Some}
use Rattle.pico_board.specs.declared.boot.Cpu.{Cpu}
use Rattle.block_codec.specs.Blocks.{BlockView}
use Rattle.block_codec.specs.Reading.{block_at}
use Rattle.block_loop.specs.Loop.{loop_of}
use Rattle.block_loop.specs.Offsets.{AreLoop}
use Rattle.block_loop.proofs.ChainLemmas.{loop_of-loop}
use Rattle.block_loop.proofs.PlaceLemmas.{as-many, at-place}
use Rattle.image_check.specs.declared.why.Why.{Why}
use Rattle.image_check.specs.declared.why.Why.TheVariants.{Items, NotForProcessor}
use Rattle.image_check.specs.Answers.{or_fault}
use Rattle.image_check.specs.Image.{defined_in}
use Rattle.image_check.specs.Rules.{definition_answer, items_answer, loop_answer}
use Rattle.image_check.proofs.AnswerLemmas.{err-and_then, err-fault_as, ok-and_then}
use Rattle.image_def.specs.declared.fault.DefFault.{DefFault}
use Rattle.image_def.specs.Definition.{def_of}
use Rattle.image_check.proofs.LastLemmas.{last-found}
use Rattle.image_check.proofs.RuleLemmas.{suits-type}
use Rattle.image_def.specs.Suits.{does_suit, has_image_type, last_suiting}

-- the element at a place, after those before it
pub one-more : {X : Type 0} (xs : List X) (i : ℕ) (x : X) → slice_get xs i ≡ Some x
    → take (i + 1) xs ≡ take i xs ++ x ∷ []
one-more xs i x at =
    take_more xs i x (slice_get_within xs i x at) ∙ ap (λ y. take i xs ++ y ∷ []) (get_or_from_slice_get xs i x x at)

-- the last block that suits, with one more block
pub suiting-more : (cpu : Cpu) (loop : List BlockView) (b : BlockView)
    → last_suiting cpu (loop ++ b ∷ []) ≡ (if does_suit cpu b then Some b else last_suiting cpu loop)
suiting-more cpu loop b = ap (find (does_suit cpu)) (reverse-append loop (b ∷ []))

-- a block has an IMAGE_TYPE item, with one more block
or-false : (t : Bool) → (t || false) ≡ t
or-false true = refl
or-false false = refl

pub typed-more : (loop : List BlockView) (b : BlockView)
    → list_any has_image_type (loop ++ b ∷ []) ≡ (list_any has_image_type loop || has_image_type b)
typed-more loop b =
    list_any-append has_image_type loop (b ∷ []) ∙ ap (λ t. list_any has_image_type loop || t)
    (or-false (has_image_type b))

-- what is seen of the first blocks, and then of one more
module _ (w offsets : List ℕ) (are : AreLoop w offsets) (cpu : Cpu) (i x : ℕ) (at : slice_get offsets i
    ≡ Some x) (b : BlockView) (stands : block_at w x ≡ Some b) where
  more-blocks : (loop : List BlockView) → loop_of w ≡ Ok loop → take (i + 1) loop ≡ take i loop ++ b ∷ []
  more-blocks loop is =
      let here = at-place w offsets i x are at loop is in
      let same : here.0 ≡ b = same_Some here.0 b (sym here.2 ∙ stands) in
      one-more loop i b (here.1 ∙ ap Some same)

  pub typed-step : (loop : List BlockView) → loop_of w ≡ Ok loop → (old new : Bool)
      → old ≡ list_any has_image_type (take i loop)
      → new ≡ (old || has_image_type b) → new ≡ list_any has_image_type (take (i + 1) loop)
  typed-step loop is old new was now =
      now ∙ ap (λ t. t || has_image_type b) was ∙ sym (typed-more (take i loop) b)
      ∙ ap (list_any has_image_type) (sym (more-blocks loop is))

  pub suiting-step : (loop : List BlockView) → loop_of w ≡ Ok loop → (old new : Option BlockView)
      → old ≡ last_suiting cpu (take i loop)
      → new ≡ (if does_suit cpu b then Some b else old) → new ≡ last_suiting cpu (take (i + 1) loop)
  suiting-step loop is old new was now =
      now ∙ ap (λ o. if does_suit cpu b then Some b else o) was ∙ sym (suiting-more cpu (take i loop) b)
      ∙ ap (last_suiting cpu) (sym (more-blocks loop is))

-- all blocks were seen
pub all-blocks : (w offsets : List ℕ) → AreLoop w offsets → (i : ℕ) → length offsets ≤ i → (loop : List BlockView)
    → loop_of w ≡ Ok loop → take i loop ≡ loop
all-blocks w offsets are i le loop is =
    let long = as-many w offsets are loop is in
    take_all i loop (omega arith)

-- a block that suits has an IMAGE_TYPE item
pub suiting-typed : (cpu : Cpu) (loop : List BlockView) (b : BlockView) → last_suiting cpu loop ≡ Some b
    → has_image_type b ≡ true
suiting-typed cpu loop b is = suits-type cpu b (last-found (does_suit cpu) loop b is).here

typed-if : (o : Option BlockView) (cpu : Cpu) (loop : List BlockView) → o ≡ last_suiting cpu loop
    → IfOk (or_fault o NotForProcessor) (λ b. has_image_type b ≡ true)
typed-if None cpu loop is = tt
typed-if (Some b) cpu loop is = suiting-typed cpu loop b (sym is)

pub definition-typed : (w offsets : List ℕ) → AreLoop w offsets → (cpu : Cpu) (o : Option BlockView)
    → ((loop : List BlockView) → loop_of w ≡ Ok loop → o ≡ last_suiting cpu loop)
    → (r : Result BlockView Why) → r ≡ or_fault o NotForProcessor → IfOk r (λ b. has_image_type b ≡ true)
definition-typed w offsets are cpu o suiting r is =
    let found = are.blocks in
    subst (λ (q : Result BlockView Why). IfOk q (λ b. has_image_type b ≡ true)) (sym is)
    (typed-if o cpu found.0 (suiting found.0 (loop_of-loop w found.0 found.1)))

-- where the definition is found and its items are not read, their fault is the answer
pub wrong-items : (w offsets : List ℕ) → AreLoop w offsets → (cpu : Cpu) (b : BlockView) (fault : DefFault)
    → ((loop : List BlockView) → loop_of w ≡ Ok loop → Ok b ≡ definition_answer cpu loop) → def_of b ≡ Err fault
    → Err (Items fault) ≡ defined_in cpu w
wrong-items w offsets are cpu b fault found is =
    let loop = are.blocks in
    let closes = loop_of-loop w loop.0 loop.1 in
    sym (ok-and_then (loop_answer (loop_of w)) _ loop.0 (Err (Items fault)) (ap loop_answer closes)
    (ok-and_then (definition_answer cpu loop.0) _ b (Err (Items fault)) (sym (found loop.0 closes))
    (err-and_then (items_answer b) _ (Items fault) (err-fault_as Items (def_of b) fault is))))
