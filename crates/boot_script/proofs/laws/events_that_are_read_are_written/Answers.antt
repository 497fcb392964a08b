use Rattle.std.proofs.Common.{◌≡◌, ℕ, ◌+◌, ◌≤◌, List, ◌++◌, length, take, drop, arith, sym, ap, ◌∙◌}
use Rattle.std.proofs.lemmas.List.{take-append-drop, drop-drop, length-drop}
use Rattle.std.proofs.Math.Seq.{drop-append_seam}
use Rattle.boot_script.specs.Events.{EventView, IsWellFormed}
use Rattle.boot_script.specs.Written.{written_event}
use Rattle.boot_script.proofs.NumberLemmas.{bytes-drop}
use Rattle.boot_script.proofs.SpelledLemmas.{IsSpelled, event-spelled, spelled-inside, are-bytes, read-at}
use Rattle.boot_script.proofs.laws.events_that_are_read_are_written.Goals as goal

found : (bytes : List ℕ) (at : ℕ) (e : EventView) (next : ℕ) → at ≤ length bytes → next ≡ at + length (written_event e)
    → IsSpelled (drop at bytes) e
    → IsWellFormed e × (next ≡ at + length (written_event e)) × (next ≤ length bytes)
    × (bytes ≡ take at bytes ++ (written_event e ++ drop next bytes))
found bytes at e next inside is spelled =
    let behind : drop next bytes ≡ spelled.rest =
    ap (λ n. drop n bytes) is ∙ sym (drop-drop (length (written_event e)) at bytes)
    ∙ ap (λ xs. drop (length (written_event e)) xs) spelled.bytes ∙ drop-append_seam (written_event e) spelled.rest in (
      spelled.well,
      is,
      omega (arith, is, spelled-inside (drop at bytes) e spelled, length-drop at bytes),
      sym (take-append-drop at bytes)
          ∙ ap (λ xs. take at bytes ++ xs) (spelled.bytes ∙ ap (λ xs. written_event e ++ xs) (sym behind)),
    )

pub returns : goal.returns
returns c = λ bytes at e next small inside read.
    let one = read-at bytes at e next read in
    found bytes at e next inside one.1
    (event-spelled at (drop at bytes) e (bytes-drop at bytes (are-bytes bytes small)) one.0)
