use Rattle.std.proofs.Common.{length, sym, ap, ◌∙◌}
use Rattle.std.specs.Prelude.{replicate}
use Rattle.ram_start.proofs.RamLemmas.{cleared-whole}
use Rattle.ram_start.proofs.ram.Ram.clear.Goals as goal

pub returns : goal.returns
returns c = cleared-whole c.self.inside.bytes.items c.clear.new.bytes c.self.inside.bytes.len c.self.invariant.long
    c.self.inside.bytes.ok.0 (c.clear.ensures
    ∙ ap (λ k. replicate k 0) (ap length c.as_mut_slice.ensures.value ∙ sym c.self.inside.bytes.ok.0))
