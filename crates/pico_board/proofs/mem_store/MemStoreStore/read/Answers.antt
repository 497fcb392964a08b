-- A listed read is at fault.
use Rattle.std.proofs.Common.{◌≡◌, ℕ, List, true, refl, sym, ◌∙◌, subst, inl}
use Rattle.pico_board.specs.MemFiles.{is_listed, reads_of}
use Rattle.pico_board.proofs.mem_store.MemStoreStore.read.Goals as goal

pub returns-then-is_bad-clause-exact : goal.returns-then-is_bad-clause-exact
returns-then-is_bad-clause-exact c = (
  λ h. inl (subst (λ (bad : List ℕ). is_listed bad (reads_of c.args.self.now) ≡ true) c.deref.ensures.value
      (sym c.contains-is_bad.ensures.value ∙ c.if-is_bad.true)),
  λ h. refl,
)
