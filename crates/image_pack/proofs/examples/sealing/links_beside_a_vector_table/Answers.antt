use Rattle.std.proofs.Common.{ℕ, ◌+◌, ◌<◌, inl, inr, refl, arith}
use Rattle.image_pack.specs.Starts.{AreRangesApart}
use Rattle.image_pack.proofs.TableExampleLemmas.{loaded-at, no-load, stored-at}
use Rattle.image_pack.proofs.examples.sealing.links_beside_a_vector_table.Goals as goal

not_apart : (x size y other : ℕ) → y < x + size → x < y + other → AreRangesApart x size y other → ⊥
not_apart x size y other one two (inl under) = omega (arith, one, under)
not_apart x size y other one two (inr over) = omega (arith, two, over)

pub returns-clause-behind : goal.returns-clause-behind
returns-clause-behind c = record {
  flash = inl (omega arith);
  loaded = λ i offset lt from. absurd (no-load (0x10000000 + i) offset from);
}

pub returns-clause-last_byte : goal.returns-clause-last_byte
returns-clause-last_byte c = λ out. not_apart 0x10000000 8 0x10000007 4 (omega arith) (omega arith) out.flash

pub returns-clause-before : goal.returns-clause-before
returns-clause-before c = record {
  flash = inr (omega arith);
  loaded = λ i offset lt from. absurd (no-load (0x10000008 + i) offset from);
}

pub returns-clause-first_byte : goal.returns-clause-first_byte
returns-clause-first_byte c = λ out. not_apart 0x10000008 8 0x10000005 4 (omega arith) (omega arith) out.flash

pub returns-clause-loaded_behind : goal.returns-clause-loaded_behind
returns-clause-loaded_behind c = record {
  flash = inr (omega arith);
  loaded = λ i offset lt from. (let is = stored-at 0x20 i offset from in inl (omega (arith, is, lt)));
}

pub returns-clause-loaded_last_byte : goal.returns-clause-loaded_last_byte
returns-clause-loaded_last_byte c = λ out.
    not_apart 0x27 1 0x27 4 (omega arith) (omega arith)
    (out.loaded 7 0x27 (omega arith) (loaded-at 0x20 7 refl))

pub returns-clause-loaded_before : goal.returns-clause-loaded_before
returns-clause-loaded_before c = record {
  flash = inr (omega arith);
  loaded = λ i offset lt from. (let is = stored-at 0x20 i offset from in inr (omega (arith, is, lt)));
}

pub returns-clause-loaded_first_byte : goal.returns-clause-loaded_first_byte
returns-clause-loaded_first_byte c = λ out.
    not_apart 0x20 1 0x1d 4 (omega arith) (omega arith)
    (out.loaded 0 0x20 (omega arith) (loaded-at 0x20 0 refl))
