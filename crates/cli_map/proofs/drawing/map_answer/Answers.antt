use Rattle.cli_map.proofs.drawing.map_answer.Goals as goal

pub drawn-requires : goal.drawn-requires
drawn-requires g c = λ k d lt. (c.gather_map-shown.ensures.readable.rows k d lt).listed
