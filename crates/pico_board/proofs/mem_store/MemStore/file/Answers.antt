-- The first file of the name has its bytes.
use Rattle.std.proofs.Common.{List, ℕ, Some, sym, ◌∙◌, ap, subst}
use Rattle.pico_board.specs.MemFiles.{IsFirstOf}
use Rattle.pico_board.proofs.FileListLemmas.{Entry, found}
use Rattle.pico_board.proofs.mem_store.MemStore.file.Goals as goal

pub returns-in-Some : goal.returns-in-Some
returns-in-Some c =
    let entries = c.args.self.now.files.items in
    let is : IsFirstOf entries c.args.name.now c.in-Some.place =
    subst (λ (es : List Entry). IsFirstOf es c.args.name.now c.in-Some.place) c.deref.ensures.value
    c.in-Some.ensures in
    found entries c.args.name.now c.in-Some.place c.index.result.now is.inside is.before (is.here c.index.result.now)
    ∙ (ap (λ (x : Entry). Some x.1.items) (sym c.index.ensures)
    ∙ ap (λ (b : List ℕ). Some b) (sym c.as_slice.ensures.value))
