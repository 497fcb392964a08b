use Rattle.boot_rules.specs.Targets.{target_of}
use Rattle.std.proofs.Common.{◌≡◌, ◌/◌, Bor, IsTrue, Some, length, refl, subst, sym, ap, ◌∙◌}
use Rattle.std.specs.Option.{ForSome}
use Rattle.part_table.specs.Sound.{IsSoundTable}
use Rattle.uf2_place.specs.Downloads.{IsTargetIn}
use Rattle.uf2_place.specs.Rulings.{wanted}
use Rattle.boot_machine.specs.Serving.{places, wanted_in}
use Rattle.boot_machine.specs.Standing.{IsServedBlock}
use Rattle.boot_machine.proofs.BlockLemmas.{came-told, done-in, each-meant, promised-of, same-ruling}
use Rattle.boot_machine.proofs.CarriedLemmas.{carried, sound-of}
use Rattle.boot_machine.proofs.RoomLemmas.{room-free, room_handed, room-kept}
use Rattle.std.specs.Option.{option_map}
use Rattle.part_table.specs.declared.Table.{Table}
use Rattle.uf2_place.specs.Accepting.{rules}
use Rattle.boot_machine.specs.Serving.{table_of_found}
use Rattle.boot_machine.proofs.placing.place_block.Goals as goal

pub wanted_target-target-requires-clause-lease : goal.wanted_target-target-requires-clause-lease
wanted_target-target-requires-clause-lease g c = room-free _ _ c.requires.room

pub accept-answer-requires-clause-free : goal.accept-answer-requires-clause-free
accept-answer-requires-clause-free g c =
    λ none. room-free _ _ (room-kept _ _ _ c.wanted_target-target.ensures.kept c.requires.room)

-- the board that the target was asked of is the one before
pub accept-answer-requires-clause-table : goal.accept-answer-requires-clause-table
accept-answer-requires-clause-table g c =
    subst (λ b. (x : Bor Table) → c.table_of_found-table.result ≡ Some x
    → IsSoundTable x.now (length (g.B.Board.state b).content.flash / 4096)) (sym c.wanted_target-target.ensures.same)
    (sound-of _ _ _ c.table_of_found-table.ensures c.requires.sound)

pub accept-answer-requires-clause-target : goal.accept-answer-requires-clause-target
accept-answer-requires-clause-target g c =
    subst (λ b. ForSome c.wanted_target-target.result (IsTargetIn (length (g.B.Board.state b).content.flash)))
    (sym c.wanted_target-target.ensures.same) c.wanted_target-target.ensures.placed

pub block_answer-requires : goal.block_answer-requires
block_answer-requires g c =
    let state = g.B.Board.state in
    let mid = c.wanted_target-target.new.board in
    let back = sym c.wanted_target-target.ensures.same in
    let s = state mid in
    let table = option_map (λ (t : Bor Table). t.now) c.table_of_found-table.result in
    let given = c.wanted_target-target.result in
    let d = c.args.download.now in
    let pool = c.wanted_target-target.new.pool in
    let b = c.args.block.now in
    let placing = c.requires.carries.0 in
    let carries = carried d c.args.pool.now pool placing c.wanted_target-target.ensures.kept c.requires.carries.1 in
    let exact = subst (λ x. given
    ≡ wanted_in (state x).content table c.args.cpu (wanted (length (state x).content.flash) d.current b)) back
    c.wanted_target-target.ensures.exact in
    done-in state g.B.Board.history mid c.accept-answer.new.board s table given placing b d
    c.accept-answer.new.self pool c.accept-answer.new.pool _ c.accept-answer.result (rules s table given d b) _ refl
    (same-ruling s table (table_of_found c.args.found.now) given c.args.cpu d pool placing b c.table_of_found-table.ensures
    exact carries)
    (each-meant (length s.content.flash) (table_of_found c.args.found.now)
    (target_of s.content (table_of_found c.args.found.now) c.args.cpu b.family) placing b)
    (g.met.B.Board.is_content mid).flash_length.most
    (subst (λ x. ForSome given (IsTargetIn (length (state x).content.flash))) back c.wanted_target-target.ensures.placed)
    (subst (λ x. ForSome d.current (λ c. IsTargetIn (length (state x).content.flash) c.target)) back c.requires.current)
    carries c.accept-answer.ensures.answered c.accept-answer.ensures.begins c.accept-answer.ensures.continues

pub returns-clause-served : goal.returns-clause-served
returns-clause-served g c = λ host found carries.
    let state = g.B.Board.state in
    let mid = c.wanted_target-target.new.board in
    let back = sym c.wanted_target-target.ensures.same in
    let s = state mid in
    let table = option_map (λ (t : Bor Table). t.now) c.table_of_found-table.result in
    let given = c.wanted_target-target.result in
    let d = c.args.download.now in
    let pool = c.wanted_target-target.new.pool in
    let b = c.args.block.now in
    let after = carried d c.args.pool.now pool host.placing c.wanted_target-target.ensures.kept carries in
    let exact = subst (λ x. given
    ≡ wanted_in (state x).content table c.args.cpu (wanted (length (state x).content.flash) d.current b)) back
    c.wanted_target-target.ensures.exact in
    let same = same-ruling s table (table_of_found host.found) given c.args.cpu d pool host.placing b
    (c.table_of_found-table.ensures ∙ ap table_of_found (sym found)) exact after in
    subst (λ x. IsServedBlock state g.B.Board.history (places (state x).content c.args.cpu host b) x c.block_answer.result
    c.accept-answer.new.board c.accept-answer.new.self c.accept-answer.new.pool)
    c.wanted_target-target.ensures.same
    (came-told state g.B.Board.history mid c.accept-answer.new.board host b d
    c.accept-answer.new.self pool c.accept-answer.new.pool c.accept-answer.result _ c.block_answer.result
    (each-meant (length s.content.flash) (table_of_found host.found)
    (target_of s.content (table_of_found host.found) c.args.cpu b.family) host.placing b)
    (promised-of _ _ mid c.accept-answer.new.board host b d c.accept-answer.new.self pool pool
    c.accept-answer.new.pool c.accept-answer.result (rules s table given d b) _ same
    c.accept-answer.ensures.answered c.accept-answer.ensures.begins c.accept-answer.ensures.continues)
    (subst (λ x. IsTrue (state x).powered) back c.requires.power) after c.block_answer.ensures)

pub returns-clause-room : goal.returns-clause-room
returns-clause-room g c =
    room_handed _ _ _ _ (room-kept _ _ _ c.wanted_target-target.ensures.kept c.requires.room)
    c.accept-answer.ensures.pool
