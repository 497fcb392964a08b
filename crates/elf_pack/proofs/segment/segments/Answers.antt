use Rattle.std.proofs.Common.{◌∙◌, ◌∷◌, [], List, Vec, Global, arith, sym, ap, length, length-append}
use Rattle.elf_pack.specs.declared.segment.Segment.{Segment}
use Rattle.elf_pack.specs.Segments.{segment_at}
use Rattle.elf_pack.proofs.ListLemmas.{made-none, made-some}
use Rattle.elf_pack.proofs.segment.segments.Goals as goal
use Rattle.elf_pack.proofs.segment.segments.Goals.{in-Some+in_ok-push, in_default}

pub loop-number-preserved : goal.loop-number-preserved
loop-number-preserved c = elim c.match-segment_at.branch [
  | in-Some+in_ok-push w ↦
      let pushed = ap (λ (v : Vec Segment Global). v.items) w.found-is ∙ w.in_ok-push.ensures.items in record {
        so_far =
            made-some (segment_at c.args.elf.now) c.loop-number.number w.in-Some.segment c.loop-number.found.items
            c.match-segment_at.found.items (sym c.segment_at.ensures ∙ w.in-Some.is) c.loop-number.invariant.so_far
            pushed;
        few =
            let long = ap (λ (ys : List Segment). length ys) pushed in
            let sum = length-append c.loop-number.found.items (w.in-Some.segment ∷ []) in
            omega (arith, long, sum, c.loop-number.invariant.few);
      }
  | in_default w ↦
      let same = ap (λ (v : Vec Segment Global). v.items) w.found-is in record {
        so_far =
            same ∙ made-none (segment_at c.args.elf.now) c.loop-number.number c.loop-number.found.items
            (sym c.segment_at.ensures ∙ w.in_default.is) c.loop-number.invariant.so_far;
        few = let long = ap (λ (ys : List Segment). length ys) same in omega (arith, long, c.loop-number.invariant.few);
      }
]
