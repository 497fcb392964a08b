use Rattle.std.proofs.Common.{◌<◌, arith}
use Rattle.std.proofs.lemmas.List.Elements.{All-from_get_or}
use Rattle.boot_session.specs.Scripts.{content_of, script_session}
use Rattle.boot_sweep.proofs.SweepLemmas.{says-refused, says-sweep, says-taken}
use Rattle.boot_sweep.proofs.script.sweep.Goals as goal

pub returns-clause-swept : goal.returns-clause-swept
returns-clause-swept c =
    let start = content_of c.args.flash.now.items c.args.otp.now.items in
    says-sweep start c.args.cpu c.args.pattern.now (script_session start c.args.cpu c.args.script.now)
    c.requires.content
    (All-from_get_or (λ b. b < 256) c.args.pattern.now 0 (λ i lt. omega (arith, c.type_inv.pattern i)))
    c.push_sweep.result c.args.out.now.items c.push_sweep.new.out.items c.push_sweep.ensures.swept
    c.push_sweep.ensures.text

pub returns-clause-taken : goal.returns-clause-taken
returns-clause-taken c =
    let start = content_of c.args.flash.now.items c.args.otp.now.items in
    says-taken start c.args.cpu c.args.pattern.now (script_session start c.args.cpu c.args.script.now)
    c.requires.content
    (All-from_get_or (λ b. b < 256) c.args.pattern.now 0 (λ i lt. omega (arith, c.type_inv.pattern i)))
    c.push_sweep.result c.push_sweep.ensures.swept

pub returns-clause-refused : goal.returns-clause-refused
returns-clause-refused c = λ e is other.
    let start = content_of c.args.flash.now.items c.args.otp.now.items in (
      says-refused start c.args.cpu c.args.pattern.now (script_session start c.args.cpu c.args.script.now)
          c.requires.content
          (All-from_get_or (λ b. b < 256) c.args.pattern.now 0 (λ i lt. omega (arith, c.type_inv.pattern i)))
          c.push_sweep.result e c.push_sweep.ensures.swept is other,
      c.push_sweep.ensures.refused e is other,
    )
