use Rattle.cli_otp.proofs.CaveatLemmas.{secure-all, secure-first, secure-told}
use Rattle.cli_otp.proofs.laws.secure_boots_are_told.Goals as goal

pub returns-clause-all : goal.returns-clause-all
returns-clause-all c = secure-all

pub returns-clause-caveat : goal.returns-clause-caveat
returns-clause-caveat c = λ spec list secure outside is. secure-told spec secure outside list is

pub returns-clause-first : goal.returns-clause-first
returns-clause-first c =
    λ content cpu kind spec list otp secure outside are. secure-first spec secure outside content cpu kind list otp are
