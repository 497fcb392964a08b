use Rattle.std.proofs.Common.{◌≡◌, ℕ, ◌+◌, ◌*◌, ◌/◌, true, Some, refl, subst, arith}
use Rattle.part_table.specs.declared.table.Right.TheVariants.{BootWrite}
use Rattle.part_table.specs.Examples.{guarded_table}
use Rattle.part_table.specs.Rights.{allowed_by}
use Rattle.picoboot_cmd.proofs.examples.well_formed_commands.Goals as goal

pub returns-clause-erase : goal.returns-clause-erase
returns-clause-erase c = record {
  id = refl;
  arg_size = refl;
  transfer = refl;
  address = refl;
  size = refl;
  inside = omega arith;
  allowed = λ i lt. refl;
}

pub returns-clause-erase_none : goal.returns-clause-erase_none
returns-clause-erase_none c = record {
  id = refl;
  arg_size = refl;
  transfer = refl;
  address = refl;
  size = refl;
  inside = omega arith;
  allowed = λ i lt. refl;
}

pub returns-clause-erase_first : goal.returns-clause-erase_first
returns-clause-erase_first c = record {
  id = refl;
  arg_size = refl;
  transfer = refl;
  address = refl;
  size = refl;
  inside = omega arith;
  allowed = λ i lt.
      let sector : 32 ≡ (4096 * 32 + i) / 4096 = omega (arith, lt) in
      subst (λ (s : ℕ). allowed_by (Some guarded_table) s BootWrite ≡ true) sector refl;
}

pub returns-clause-erase_last : goal.returns-clause-erase_last
returns-clause-erase_last c = record {
  id = refl;
  arg_size = refl;
  transfer = refl;
  address = refl;
  size = refl;
  inside = omega arith;
  allowed = λ i lt.
      let sector : 61 ≡ (4096 * 61 + i) / 4096 = omega (arith, lt) in
      subst (λ (s : ℕ). allowed_by (Some guarded_table) s BootWrite ≡ true) sector refl;
}

pub returns-clause-write : goal.returns-clause-write
returns-clause-write c = record {
  id = refl;
  arg_size = refl;
  transfer = refl;
  address = refl;
  size = refl;
  inside = omega arith;
  allowed = λ i lt. refl;
}

pub returns-clause-write_first : goal.returns-clause-write_first
returns-clause-write_first c = record {
  id = refl;
  arg_size = refl;
  transfer = refl;
  address = refl;
  size = refl;
  inside = omega arith;
  allowed = λ i lt.
      let sector : 32 ≡ (256 * 512 + i) / 4096 = omega (arith, lt) in
      subst (λ (s : ℕ). allowed_by (Some guarded_table) s BootWrite ≡ true) sector refl;
}

pub returns-clause-write_right : goal.returns-clause-write_right
returns-clause-write_right c = record {
  id = refl;
  arg_size = refl;
  transfer = refl;
  address = refl;
  size = refl;
  inside = omega arith;
  allowed = λ i lt.
      let last : 61 ≡ (256 * 991 + i) / 4096 = omega (arith, lt) in
      subst (λ (s : ℕ). allowed_by (Some guarded_table) s BootWrite ≡ true) last refl;
}

pub returns-clause-reboot : goal.returns-clause-reboot
returns-clause-reboot c = record { id = refl; arg_size = refl; transfer = refl; flags = refl }
