use Rattle.boot_machine.proofs.AnsweredTargetLemmas.{info-told, block-moves, block-refused, block-begins, begun-outside, begun-forbidden, begun-taken}
use Rattle.std.proofs.Common.{None, Some, refl}
use Rattle.boot_machine.specs.Serving.{table_of_found}
use Rattle.uf2_place.specs.declared.answer.PlaceFault.TheVariants.{NoTarget, NotPermitted, Outside}
use Rattle.boot_machine.proofs.laws.run.answered_target_is_taken.Goals as goal

pub returns-clause-told : goal.returns-clause-told
returns-clause-told c = λ m n host command payload outcome family answer at is moves.
    info-told m n host command payload outcome family answer at is moves

pub returns-clause-moves : goal.returns-clause-moves
returns-clause-moves c = λ m n o host command payload bytes outcome told family answer b at is begins moves next.
    block-moves m n host command payload outcome family answer at is moves o bytes told b begins next

pub returns-clause-refused : goal.returns-clause-refused
returns-clause-refused c = λ m n o host command payload bytes outcome told family b at is begins moves next.
    block-refused m n host command payload outcome family None at is moves o bytes told b begins next NoTarget refl

pub returns-clause-outside : goal.returns-clause-outside
returns-clause-outside c = λ m n o host command payload bytes outcome told family t b at is begins out moves next.
    block-refused m n host command payload outcome family (Some t) at is moves o bytes told b begins next Outside
    (begun-outside (table_of_found host.found) b t out)

pub returns-clause-forbidden : goal.returns-clause-forbidden
returns-clause-forbidden c = λ m n o host command payload bytes outcome told family t b at is begins inside may moves next.
    block-refused m n host command payload outcome family (Some t) at is moves o bytes told b begins next NotPermitted
    (begun-forbidden (table_of_found host.found) b t inside may)

pub returns-clause-taken : goal.returns-clause-taken
returns-clause-taken c = λ m n o host command payload bytes outcome told family t b at is begins inside may moves next.
    block-begins m n host command payload outcome family (Some t) at is moves o bytes told b begins next t
    (begun-taken (table_of_found host.found) b t inside may)
