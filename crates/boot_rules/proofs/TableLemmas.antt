-- The table of a slot and of a content.
use Rattle.std.proofs.Common.{◌≡◌, ℕ, zero, suc, ◌+◌, ◌*◌, ◌/◌, ◌≤◌, Bool, true, false, if◌then◌else◌, List, [], ◌∷◌, ◌++◌, length, take, slice_get, Option, Some, None, Result, Ok, Err, refl, sym, ap, ◌∙◌, subst, arith}
use Rattle.std.specs.Prelude.{find, reverse, IfSome}
use Rattle.std.specs.Result.{result_ok}
use Rattle.std.proofs.lemmas.List.{reverse-append, take_all, take_more}
use Rattle.std.proofs.lemmas.Option.{slice_get_within, get_or_from_slice_get, same_Some}
use Rattle.block_codec.specs.Blocks.{BlockView}
use Rattle.block_codec.proofs.SearchLemmas.{find-passes}
use Rattle.block_loop.specs.Loop.{loop_of}
use Rattle.block_loop.specs.Offsets.{AreLoop}
use Rattle.block_loop.proofs.PlaceLemmas.{as-many}
use Rattle.block_loop.proofs.ChainLemmas.{loop_of-loop}
use Rattle.block_loop.specs.declared.fault.LoopFault.{LoopFault}
use Rattle.otp_roll.specs.Flags.{slot_size}
use Rattle.part_table.specs.declared.table.Table.{Table}
use Rattle.part_table.specs.declared.table.TableFault.{TableFault}
use Rattle.part_table.specs.Faults.{table_fault}
use Rattle.part_table.specs.Sound.{IsSoundTable}
use Rattle.part_table.specs.TableOf.{has_table, table_of}
use Rattle.part_table.proofs.TableLemmas.{faultless_from_table_of, sound_from_faultless}
use Rattle.pico_board.specs.Content.{Content, window_bytes}
use Rattle.boot_rules.specs.declared.tables.Found.{Found}
use Rattle.boot_rules.specs.Tables.{answer_in_block, answer_in_loop, block_answer, found_of, is_first_taken, slot_answer, slot_window, table_in}

module _ (w offsets : List ℕ) (are : AreLoop w offsets) where
  -- the last block with a table, with one more block
  pub last-step : (loop : List BlockView) → loop_of w ≡ Ok loop → (i : ℕ) (b : BlockView) → slice_get loop i ≡ Some b
      → (old new : Option BlockView) → old ≡ find has_table (reverse (take i loop))
      → new ≡ (if has_table b then Some b else old) → new ≡ find has_table (reverse (take (i + 1) loop))
  last-step loop is i b at old new was now =
      let more : take (i + 1) loop ≡ take i loop ++ b ∷ [] =
      take_more loop i b (slice_get_within loop i b at)
      ∙ ap (λ y. take i loop ++ y ∷ []) (get_or_from_slice_get loop i b b at) in
      now ∙ ap (λ o. if has_table b then Some b else o) was
      ∙ sym (ap (λ xs. find has_table (reverse xs)) more ∙ ap (find has_table) (reverse-append (take i loop) (b ∷ [])))

  -- all blocks were seen
  pub last-all : (loop : List BlockView) → loop_of w ≡ Ok loop → (i : ℕ) → length offsets ≤ i → (old : Option BlockView)
      → old ≡ find has_table (reverse (take i loop)) → old ≡ find has_table (reverse loop)
  last-all loop is i le old was =
      let long = as-many w offsets are loop is in
      was ∙ ap (λ xs. find has_table (reverse xs)) (take_all i loop (omega arith))

  -- the block that is found has a table
  pub last-has : (o : Option BlockView)
      → ((loop : List BlockView) → loop_of w ≡ Ok loop → o ≡ find has_table (reverse loop))
      → IfSome o (λ b. has_table b ≡ true)
  last-has o last =
      let found = are.blocks in
      go o (last found.0 (loop_of-loop w found.0 found.1))
    where
      go : (o : Option BlockView) → o ≡ find has_table (reverse are.blocks.0) → IfSome o (λ b. has_table b ≡ true)
      go None e = tt
      go (Some b) e = find-passes has_table (reverse are.blocks.0) b (sym e)

-- the table of a slot with these bytes: its answer, of which the reason is forgotten
abbrev pub slot_table : ℕ → ℕ → List ℕ → Option Table
slot_table sectors first bytes = result_ok (slot_answer sectors first bytes)

-- it has no fault
from-block : (s m : ℕ) (b : BlockView) (r : Result Table TableFault) → table_of b s m ≡ r → (t : Table)
    → result_ok (block_answer r) ≡ Some t → table_fault t s m ≡ None
from-block s m b (Ok x) is t e = faultless_from_table_of b s m t (is ∙ ap Ok (same_Some x t e))
from-block s m b (Err f) is t e = cc

from-option : (s m : ℕ) (o : Option BlockView) (t : Table) → result_ok (answer_in_block s m o) ≡ Some t
    → table_fault t s m ≡ None
from-option s m None t e = cc
from-option s m (Some b) t e = from-block s m b (table_of b s m) refl t e

from-loop : (s m : ℕ) (r : Result (List BlockView) LoopFault) (t : Table) → result_ok (answer_in_loop s m r) ≡ Some t
    → table_fault t s m ≡ None
from-loop s m (Ok blocks) t e = from-option s m (find has_table (reverse blocks)) t e
from-loop s m (Err f) t e = cc

pub slot-faultless : (s m : ℕ) (bytes : List ℕ) (t : Table) → slot_table s m bytes ≡ Some t → table_fault t s m ≡ None
slot-faultless s m bytes t e = from-loop s m (loop_of bytes) t e

-- the table that is found is that of slot 0 or that of slot 1; so it has no fault either
pub record IsFoundIn (one two : Option Table) (f : Found) : Type 0 where
  pub slot : f.slot ≤ 1
  pub lower : f.slot ≡ 0 → one ≡ Some f.table
  pub other : f.slot ≡ 1 → two ≡ Some f.table

found-from : (one two : Option Table) (f : Found) → found_of one two ≡ Some f → IsFoundIn one two f
found-from None None f e = cc
found-from None (Some t) f e =
    subst (λ g. IsFoundIn None (Some t) g) (same_Some (record { slot = 1; table = t }) f e)
    (record { slot = omega arith; lower = λ (h : 1 ≡ 0). absurd (omega arith); other = λ h. refl })
found-from (Some t) None f e =
    subst (λ g. IsFoundIn (Some t) None g) (same_Some (record { slot = 0; table = t }) f e)
    (record { slot = omega arith; lower = λ h. refl; other = λ (h : 0 ≡ 1). absurd (omega arith) })
found-from (Some t) (Some u) f e = go (is_first_taken t u) e
  where
    go : (first : Bool) → (if first then Some (record { slot = 0; table = t }) else Some
        (record { slot = 1; table = u })) ≡ Some f → IsFoundIn (Some t) (Some u) f
    go true h =
        subst (λ g. IsFoundIn (Some t) (Some u) g) (same_Some (record { slot = 0; table = t }) f h)
        (record { slot = omega arith; lower = λ k. refl; other = λ (k : 0 ≡ 1). absurd (omega arith) })
    go false h =
        subst (λ g. IsFoundIn (Some t) (Some u) g) (same_Some (record { slot = 1; table = u }) f h)
        (record { slot = omega arith; lower = λ (k : 1 ≡ 0). absurd (omega arith); other = λ k. refl })

found-faultless : (s m : ℕ) (one two : Option Table) (f : Found)
    → ((t : Table) → one ≡ Some t → table_fault t s m ≡ None) → ((t : Table) → two ≡ Some t → table_fault t s m ≡ None)
    → IsFoundIn one two f → table_fault f.table s m ≡ None
found-faultless s m one two f of_one of_two found = go f.slot refl
  where
    go : (n : ℕ) → f.slot ≡ n → table_fault f.table s m ≡ None
    go zero e = of_one f.table (found.lower e)
    go (suc zero) e = of_two f.table (found.other e)
    go (suc (suc n)) e = let low = found.slot in absurd (omega arith)

-- what is found of a content: a table without a fault for its sectors and its first free one
pub found-in : (c : Content) (f : Found) → table_in c ≡ Some f
    → (f.slot ≤ 1) × (table_fault f.table (length c.flash / 4096) (2 * slot_size c.otp (length c.flash) / 4096) ≡ None)
unfolding table_in
found-in c f e =
    let size = slot_size c.otp (length c.flash) in
    let s = length c.flash / 4096 in
    let m = 2 * size / 4096 in
    let found = found-from (slot_table s m (window_bytes c (slot_window size 0)))
    (slot_table s m (window_bytes c (slot_window size 1))) f e in (
      found.slot,
      found-faultless s m _ _ f (slot-faultless s m (window_bytes c (slot_window size 0)))
          (slot-faultless s m (window_bytes c (slot_window size 1))) found,
    )

pub found-sound : (c : Content) (f : Found) → table_in c ≡ Some f → IsSoundTable f.table (length c.flash / 4096)
found-sound c f e = sound_from_faultless f.table (length c.flash / 4096) (2 * slot_size c.otp (length c.flash) / 4096)
    (found-in c f e).1

pub found-some : (c : Content) (o : Option Found) → o ≡ table_in c
    → IfSome o (λ f. IsSoundTable f.table (length c.flash / 4096))
found-some c None e = tt
found-some c (Some f) e = found-sound c f (sym e)

pub found-slot : (c : Content) (o : Option Found) → o ≡ table_in c → IfSome o (λ f. f.slot ≤ 1)
found-slot c None e = tt
found-slot c (Some f) e = (found-in c f (sym e)).0
