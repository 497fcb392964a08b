-- The events of a stage.
use Rattle.std.proofs.Common.{◌≡◌, ℕ, ◌+◌, ◌-◌, ◌*◌, ◌≤◌, Bool, true, false, cond, List, [], ◌∷◌, ◌++◌, length, drop, Ok, refl, arith, length-take, length-drop}
use Rattle.std.specs.Prelude.{slice_range, ◌==◌}
use Rattle.std.specs.List.{AllByRecursion}
use Rattle.pico_board.specs.declared.window.TheConstants.{MOST_FLASH_BYTES}
use Rattle.boot_script.specs.Events.{EventView}
use Rattle.boot_script.specs.Scripts.{IsBeforeEnd, events}
use Rattle.boot_script.proofs.FollowingLemmas.{whole-script}
use Rattle.script_plan.specs.Commands.{erase_cmd, update_cmd, write_cmd}
use Rattle.script_plan.specs.Plans.{in_sectors}
use Rattle.script_stage.specs.Stages.{Call, buy_events, erase_call, part_calls, rest_calls, stage_calls, stage_events, stage_text, update_call, with_tokens, write_call}
use Rattle.script_plan.proofs.PlanLaws.{Insides, inside}

-- the command is an event of its own, whatever its token
abbrev IsCall : Call → Type 0
IsCall call = (token : ℕ) → IsBeforeEnd (call token)

erase-is : (at size : ℕ) → IsCall (erase_call at size)
erase-is at size = λ token. inside (erase_cmd token at size) [] refl (omega arith)

write-is : (at : ℕ) (bytes : List ℕ) → length bytes ≤ MOST_FLASH_BYTES → IsCall (write_call at bytes)
write-is at bytes small = λ token. inside (write_cmd token at (length bytes)) bytes refl (omega (arith, small))

update-is : (at : ℕ) → IsCall (update_call at)
update-is at = λ token. inside (update_cmd token at) [] refl (omega arith)

-- two lists of commands one after another
joined : (xs ys : List Call) → AllByRecursion IsCall xs → AllByRecursion IsCall ys → AllByRecursion IsCall (xs ++ ys)
joined [] ys one two = two
joined (x ∷ xs) ys one two = (one.0, joined xs ys one.1 two)

rest-are : (at : ℕ) (bytes : List ℕ) → length bytes ≤ MOST_FLASH_BYTES → AllByRecursion IsCall (rest_calls at bytes)
rest-are at bytes small = go (length bytes == 0)
  where
    go : (t : Bool) → AllByRecursion IsCall
        (cond t [] (erase_call at (in_sectors (length bytes)) ∷ write_call at bytes ∷ []))
    go true = tt
    go false = (erase-is at (in_sectors (length bytes)), (write-is at bytes small, tt))

part-are : (at : ℕ) (bytes : List ℕ) → length bytes ≤ MOST_FLASH_BYTES → AllByRecursion IsCall (part_calls at bytes)
part-are at bytes small = go (length bytes == 0)
  where
    go : (t : Bool) → AllByRecursion IsCall (cond t [] (write_call at bytes ∷ []))
    go true = tt
    go false = (write-is at bytes small, tt)

-- a part of an image is no longer than the image
part-few : (xs : List ℕ) (i j : ℕ) → length (slice_range xs i j) ≤ length xs
part-few xs i j =
    let e = length-take (j - i) (drop i xs) in
    let f = length-drop i xs in omega (arith, e, f)

-- the commands with their tokens, and then other events
tokens-inside : (calls : List Call) (token : ℕ) (more : List EventView) → AllByRecursion IsCall calls → Insides more
    → Insides (with_tokens token calls ++ more)
tokens-inside [] token more all rest = rest
tokens-inside (call ∷ calls) token more all rest = (all.0 token, tokens-inside calls (token + 1) more all.1 rest)

buy-inside : (is_bought : Bool) → Insides (buy_events is_bought)
buy-inside true = (record { well = tt; more = refl }, (record { well = (omega arith); more = refl }, tt))
buy-inside false = tt

stage-are : (at page : ℕ) (image : List ℕ) → length image ≤ MOST_FLASH_BYTES
    → AllByRecursion IsCall (stage_calls at page image)
stage-are at page image small =
    let few : (i j : ℕ) → length (slice_range image i j) ≤ MOST_FLASH_BYTES =
    λ i j. let e = part-few image i j in omega (arith, e, small) in (
      erase-is at 4096,
      joined (rest_calls (at + 4096) (slice_range image 4096 (length image))) _
          (rest-are (at + 4096) _ (few 4096 (length image)))
          (joined (part_calls at (slice_range image 0 (256 * page))) _ (part-are at _ (few 0 (256 * page)))
          (joined (part_calls (at + 256 * (page + 1)) (slice_range image (256 * (page + 1)) 4096)) _
          (part-are (at + 256 * (page + 1)) _ (few (256 * (page + 1)) 4096))
          (write-is (at + 256 * page) _ (few (256 * page) (256 * (page + 1))), (update-is at, tt)))),
    )

pub stage-is : (at page : ℕ) (is_bought : Bool) (image : List ℕ) → length image ≤ MOST_FLASH_BYTES
    → events (stage_text at page is_bought image) ≡ Ok (stage_events at page is_bought image)
stage-is at page is_bought image small =
    whole-script (stage_events at page is_bought image) [] (
      record { well = tt; more = refl },
      (
        record { well = (omega arith); more = refl },
        tokens-inside (stage_calls at page image) 1 (buy_events is_bought) (stage-are at page image small)
            (buy-inside is_bought),
      ),
    )
