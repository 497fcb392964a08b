-- The bytes replace those of the first file of the name, or stand at the end under a new name.
use Rattle.std.proofs.Common.{◌≡◌, List, None, sym, ◌∙◌, ap, subst}
use Rattle.std.specs.Prelude.{string_bytes}
use Rattle.pico_board.specs.Files.{HasWritten, file_of}
use Rattle.pico_board.specs.MemFiles.{IsFirstOf, files_from}
use Rattle.pico_board.proofs.FileListLemmas.{Entry, HasWritten-set, HasWritten-push}
use Rattle.pico_board.proofs.mem_store.put_file.Goals as goal

pub returns-in-Some-clause-ok : goal.returns-in-Some-clause-ok
returns-in-Some-clause-ok c =
    let entries = c.args.files.now.items in
    let is : IsFirstOf entries c.args.name.now c.in-Some.place =
    subst (λ (es : List Entry). IsFirstOf es c.args.name.now c.in-Some.place) c.deref.ensures.value
    c.in-Some.ensures in
    HasWritten-set entries c.args.name.now c.args.bytes.now c.in-Some.place (c.index_mut.result.now.0, c.in-Ok.copy) is
    (ap (λ (x : Entry). string_bytes x.0) c.index_mut.ensures.value ∙ is.here c.index_mut.result.now)
    c.in-Ok.ensures.items

pub returns-clause-ok : goal.returns-clause-ok
returns-clause-ok c =
    let entries = c.args.files.now.items in
    let none : file_of (files_from entries) c.args.name.now ≡ None =
    subst (λ (es : List Entry). file_of (files_from es) c.args.name.now ≡ None) c.deref.ensures.value
    c.in_default-find_file.ensures in
    subst (λ (es : List Entry). HasWritten (files_from entries) c.args.name.now c.args.bytes.now (files_from es))
    (sym c.in-Ok-push.ensures.items)
    (HasWritten-push entries c.args.name.now c.args.bytes.now
    (c.in-Ok-from_str.name, c.in-Ok.copy) none c.in-Ok-from_str.ensures.ok c.in-Ok.ensures.items)
