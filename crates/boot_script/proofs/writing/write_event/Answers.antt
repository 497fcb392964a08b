use Rattle.std.proofs.Common.{◌≡◌, ℕ, ◌+◌, ◌++◌, List, length, sym, ap, ◌∙◌, append_assoc, length-append}
use Rattle.std.specs.Prelude.{Ok}
use Rattle.boot_script.specs.Events.{EventView, IsWellFormed}
use Rattle.boot_script.specs.Written.{written_event}
use Rattle.boot_script.specs.Reading.{event_at}
use Rattle.boot_script.proofs.ReadBackLemmas.{back-at}
use Rattle.boot_script.proofs.writing.write_event.Goals as goal

again : (old new rest : List ℕ) (e : EventView) → IsWellFormed e → new ≡ old ++ written_event e
    → event_at (new ++ rest) (length old) ≡ Ok (e, length new)
again old new rest e well is =
    let size : length old + length (written_event e)
    ≡ length new = sym (ap length is ∙ length-append old (written_event e)) in
    ap (λ bs. event_at (bs ++ rest) (length old)) is
    ∙ ap (λ bs. event_at bs (length old)) (append_assoc old (written_event e) rest)
    ∙ back-at old rest e well ∙ ap (λ n. Ok (e, n)) size

pub returns-in-Ok-clause-again : goal.returns-in-Ok-clause-again
returns-in-Ok-clause-again c = λ rest. again _ _ rest _ c.append.ensures.well c.in-Ok.ensures.ok
