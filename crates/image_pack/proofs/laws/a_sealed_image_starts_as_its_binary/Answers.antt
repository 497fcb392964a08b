use Rattle.image_pack.proofs.SameStartLaws.{entry-starts, flash-starts, link-outside, loaded-starts, riscv-starts}
use Rattle.image_pack.proofs.laws.a_sealed_image_starts_as_its_binary.Goals as goal

pub returns-clause-entry : goal.returns-clause-entry
returns-clause-entry c = λ binary spec sealed halves g erased w trial otp s valid e has v.
    entry-starts binary spec sealed halves g erased w trial otp s valid e has v

pub returns-clause-riscv : goal.returns-clause-riscv
returns-clause-riscv c = λ binary spec sealed halves g erased w trial otp s valid is v.
    riscv-starts binary spec sealed halves g erased w trial otp s valid is v

pub returns-clause-flash : goal.returns-clause-flash
returns-clause-flash c = λ binary spec sealed halves g erased w trial otp s valid few p read low out v.
    flash-starts binary spec sealed halves g erased w trial otp s valid few p read low out v

pub returns-clause-loaded : goal.returns-clause-loaded
returns-clause-loaded c = λ binary spec sealed halves g erased w trial otp s valid few p read within out v.
    loaded-starts binary spec sealed halves g erased w trial otp s valid few p read within out v

pub returns-clause-outside : goal.returns-clause-outside
returns-clause-outside c = λ binary g erased w trial otp s valid none p read last.
    link-outside binary g erased w trial otp s valid none p read last
