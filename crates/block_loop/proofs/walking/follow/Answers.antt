use Rattle.std.proofs.Common.{◌<◌, [], ◌∷◌, ◌++◌, Some, None, Err, ap, arith, rules, sym, ◌∙◌}
use Rattle.std.specs.Prelude.{FitsSigned}
use Rattle.std.specs.Int.{w64}
use Rattle.block_loop.proofs.WalkLemmas.{walked_first, walked_closed, walked_many, walked_broken, walked_overlap, walked_more, leads_back, leads_on, found_to, same_search}
use Rattle.block_loop.specs.declared.fault.LoopFault.TheVariants.{Broken}
use Rattle.block_loop.proofs.walking.follow.Goals as goal

pub loop-count-init : goal.loop-count-init
loop-count-init g c =
    record {
      few = omega arith;
      walked = walked_first (g.V.View.bytes c.args.view.now) c.at-start.result c.args.first c.push.new.self.items
          c.requires c.at-start.ensures.value
          (c.push.ensures.items ∙ ap (λ xs. xs ++ c.span_in.result ∷ []) c.new-spans.ensures
          ∙ ap (λ s. s ∷ []) c.span_in.ensures);
    }

pub returns-then-to-from : goal.returns-then-to-from
returns-then-to-from g c =
    let f : FitsSigned w64 c.target_of-to.result = search rules in
    let h : FitsSigned w64 c.from.result = search rules in
    walked_closed (g.V.View.bytes c.args.view.now) c.at-start.result c.loop-count.count c.loop-count.spans.items
    c.loop-count.last c.loop-count.invariant.walked
    (leads_back c.loop-count.last c.at-start.result c.target_of-to.result c.from.result f h c.target_of-to.ensures
    c.from.ensures c.if-to-from.true)

pub returns-then-count-eq32 : goal.returns-then-count-eq32
returns-then-count-eq32 g c =
    walked_many (g.V.View.bytes c.args.view.now) c.at-start.result c.loop-count.count c.loop-count.spans.items
    c.loop-count.last c.loop-count.invariant.walked c.if-count-eq32.true
    (leads_on c.loop-count.last c.at-start.result c.target_of-to.result c.from.result c.target_of-to.ensures
    c.from.ensures c.if-to-from.false)

pub returns-in_default : goal.returns-in_default
returns-in_default g c =
    let f : FitsSigned w64 c.target_of-to.result = search rules in
    let few : c.loop-count.count < 32 = omega arith in
    ap (λ x. Err (Broken x)) c.at.ensures.value
    ∙ walked_broken (g.V.View.bytes c.args.view.now) c.at-start.result c.loop-count.count c.loop-count.spans.items
    c.loop-count.last c.loop-count.invariant.walked few
    (leads_on c.loop-count.last c.at-start.result c.target_of-to.result c.from.result c.target_of-to.ensures
    c.from.ensures c.if-to-from.false)
    (found_to (g.V.View.bytes c.args.view.now) c.loop-count.last c.target_of-to.result None f c.target_of-to.ensures
    (sym c.in_default.is ∙ c.block_to.ensures.exact))

pub returns-in-Some-first_shared : goal.returns-in-Some-first_shared
returns-in-Some-first_shared g c =
    let f : FitsSigned w64 c.target_of-to.result = search rules in
    let few : c.loop-count.count < 32 = omega arith in
    walked_overlap (g.V.View.bytes c.args.view.now) c.at-start.result c.loop-count.count c.loop-count.spans.items
    c.loop-count.last c.loop-count.invariant.walked few
    (leads_on c.loop-count.last c.at-start.result c.target_of-to.result c.from.result c.target_of-to.ensures
    c.from.ensures c.if-to-from.false) c.in-Some.next
    c.in-Some-first_shared.i
    (found_to (g.V.View.bytes c.args.view.now) c.loop-count.last c.target_of-to.result
    (Some c.in-Some.next) f c.target_of-to.ensures c.in-Some.ensures.exact)
    (same_search (Some c.in-Some-first_shared.i) c.span_in-place.result _ c.as_slice.result.now _
    c.as_slice.ensures.value c.span_in-place.ensures c.in-Some-first_shared.ensures)

pub loop-count-preserved : goal.loop-count-preserved
loop-count-preserved g c =
    let f : FitsSigned w64 c.target_of-to.result = search rules in
    let few : c.loop-count.count < 32 = omega arith in
    record {
      few = omega arith;
      walked =
          walked_more (g.V.View.bytes c.args.view.now) c.at-start.result c.loop-count.count c.loop-count.spans.items
          c.loop-count.last c.loop-count.invariant.walked few
          (leads_on c.loop-count.last c.at-start.result c.target_of-to.result c.from.result c.target_of-to.ensures
          c.from.ensures c.if-to-from.false) c.in-Some.next
          c.push-in-loop-count.new.self.items
          (found_to (g.V.View.bytes c.args.view.now) c.loop-count.last c.target_of-to.result
          (Some c.in-Some.next) f c.target_of-to.ensures c.in-Some.ensures.exact)
          (same_search None c.span_in-place.result _ c.as_slice.result.now _ c.as_slice.ensures.value
          c.span_in-place.ensures (sym c.in_default-first_shared.is ∙ c.first_shared.ensures))
          (c.push-in-loop-count.ensures.items ∙ ap (λ s. c.loop-count.spans.items ++ s ∷ []) c.span_in-place.ensures);
    }
