-- One more file has another name.
use Rattle.std.proofs.Common.{◌≡◌, List, ℕ, false, sym, ◌∙◌, ap, subst}
use Rattle.std.specs.Prelude.{string_bytes}
use Rattle.std.specs.Str.{bytes_eq}
use Rattle.pico_board.proofs.FileListLemmas.{Entry, lacks-more}
use Rattle.pico_board.proofs.mem_store.find_file.Goals as goal

pub loop-i-preserved : goal.loop-i-preserved
loop-i-preserved c =
    let here : bytes_eq (string_bytes c.index-files-i.result.0) c.args.name.now ≡ false =
    ap (λ (s : List ℕ). bytes_eq s c.args.name.now) (sym c.as_str.ensures.value) ∙ (sym c.eq.ensures ∙ c.if-eq.false) in
    lacks-more c.args.files.now c.args.name.now c.loop-i.i c.index-files-i.result c.loop-i-test.true c.loop-i.invariant
    (subst (λ (x : Entry). bytes_eq (string_bytes x.0) c.args.name.now ≡ false) c.index-files-i.is here)
