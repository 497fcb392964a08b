use Rattle.std.proofs.Common.{◌≡◌, Some, [], length, sym, ap, subst, ◌∙◌}
use Rattle.std.specs.Option.{option_map}
use Rattle.part_table.specs.declared.Target.{Target}
use Rattle.sector_pool.specs.Keeping.{HandsOver}
use Rattle.sector_pool.proofs.HandedLemmas.{HandsOver-trans}
use Rattle.uf2_place.specs.Accepting.{DownloadView, Places}
use Rattle.uf2_place.specs.Downloads.{Follows, IsTargetIn, lease_of}
use Rattle.uf2_place.specs.Marks.{MarksView}
use Rattle.uf2_place.specs.Placement.{IsPageInside}
use Rattle.uf2_place.proofs.RuledLemmas.{rules-begins, rules-continues, next-first, next-after}
use Rattle.uf2_place.proofs.RulingLaws.{answered-power}
use Rattle.uf2_place.proofs.download.Download.accept.Goals as goal

pub place-requires-clause-inside : goal.place-requires-clause-inside
place-requires-clause-inside g c =
    let begun = rules-begins (g.B.Board.state c.args.board.now) (option_map (λ t. t.now) c.args.table) c.args.target
    c.args.self.now c.args.block.now c.in-Begins.target (sym c.rule.ensures ∙ c.in-Begins.is) in
    subst (λ (t : Target). IsPageInside t.window c.args.block.now)
    (sym c.begin-current.ensures.target) begun.aimed.inside

pub place-requires-clause-target : goal.place-requires-clause-target
place-requires-clause-target g c =
    let begun = rules-begins (g.B.Board.state c.args.board.now) (option_map (λ t. t.now) c.args.table) c.args.target
    c.args.self.now c.args.block.now c.in-Begins.target (sym c.rule.ensures ∙ c.in-Begins.is) in
    subst (λ (t : Target). IsTargetIn (length (g.B.Board.state c.args.board.now).content.flash) t)
    (sym c.begin-current.ensures.target) (c.requires.target c.in-Begins.target begun.given_is)

pub returns-in-Begins-clause-pool : goal.returns-in-Begins-clause-pool
returns-in-Begins-clause-pool g c =
    subst (λ former. HandsOver former (lease_of c.place.new.self.current) c.args.pool.now c.place.new.pool)
    (ap lease_of (c.take.ensures.value ∙ ap (λ (k : DownloadView). k.current) c.self.view_is))
    (HandsOver-trans c.begin-current.ensures.pool c.place.ensures.pool)

pub returns-in-Begins-clause-begins : goal.returns-in-Begins-clause-begins
returns-in-Begins-clause-begins g c = λ t is.
    let same : c.in-Begins.target ≡ t = cc (c.rule.ensures, c.in-Begins.is, is) in
    let begun = rules-begins (g.B.Board.state c.args.board.now) (option_map (λ t. t.now) c.args.table) c.args.target
    c.args.self.now c.args.block.now c.in-Begins.target (sym c.rule.ensures ∙ c.in-Begins.is) in
    subst (λ u. Places g.B.Board.state g.B.Board.history u [] c.args.block.now c.args.board.now c.place.result
    c.place.new.board c.place.new.self c.place.new.pool) (c.begin-current.ensures.target ∙ same)
    (c.place.ensures.places [] (c.begin-current.ensures.follows
    (c.requires.target c.in-Begins.target begun.given_is).whole)
    (next-first c.begin-current.result c.args.block.now c.begin-current.ensures.family c.begin-current.ensures.count))

pub place-requires-in-Some-clause-target : goal.place-requires-in-Some-clause-target
place-requires-in-Some-clause-target g c =
    c.requires.current c.in-Some.current
    (sym (ap (λ (k : DownloadView). k.current) c.self.view_is) ∙ sym c.take-in-Continues.ensures.value ∙ c.in-Some.is)

pub returns-in-Some-clause-continues : goal.returns-in-Some-clause-continues
returns-in-Some-clause-continues g c = λ t blocks is stands.
    let here : c.args.self.now.current ≡ Some c.in-Some.current =
    sym (ap (λ (k : DownloadView). k.current) c.self.view_is) ∙ sym c.take-in-Continues.ensures.value ∙ c.in-Some.is in
    let same : stands.current ≡ c.in-Some.current = cc (here, stands.is) in
    let follows : Follows c.args.pool.now c.args.self.now.marks c.in-Some.current blocks =
    subst (λ d. Follows c.args.pool.now c.args.self.now.marks d blocks) same stands.follows in
    let continued = rules-continues (g.B.Board.state c.args.board.now) (option_map
    (λ t. t.now) c.args.table) c.args.target
    c.args.self.now c.args.block.now t c.in-Some.current here is in
    let next = next-after c.args.pool.now c.args.self.now.marks (option_map (λ t. t.now) c.args.table) c.in-Some.current
    blocks c.args.block.now t follows continued in
    subst (λ u. Places g.B.Board.state g.B.Board.history u blocks c.args.block.now c.args.board.now
    c.place-in-Some.result
    c.place-in-Some.new.board c.place-in-Some.new.self c.place-in-Some.new.pool) continued.target
    (c.place-in-Some.ensures.places blocks
    (subst (λ (m : MarksView). Follows c.args.pool.now m c.in-Some.current blocks)
    (sym (ap (λ (k : DownloadView). k.marks) c.self.view_is)) follows) next)

pub returns-in-Answered-clause-power : goal.returns-in-Answered-clause-power
returns-in-Answered-clause-power g c =
    c.requires.power ∙ sym (answered-power (length (g.B.Board.state c.args.board.now).content.flash)
    (option_map (λ t. t.now) c.args.table) c.args.target c.args.self.now.marks.numbers c.args.self.now.current
    c.args.block.now c.in-Answered.answer (sym c.rule.ensures ∙ c.in-Answered.is))

pub returns-in-Begins-clause-free : goal.returns-in-Begins-clause-free
returns-in-Begins-clause-free g c = c.place.ensures.free c.begin-current.ensures.free
