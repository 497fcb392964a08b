-- Whatever raises the rows from here on raises all of them from the start.
use Rattle.std.proofs.Common.{◌≡◌, ◌+◌, Bool, true, drop}
use Rattle.block_codec.specs.Words.{words_of}
use Rattle.pico_board.specs.Board.{DoesAll}
use Rattle.picoboot_cmd.specs.Rows.{are_row_words, word_raises}
use Rattle.picoboot_cmd.proofs.working.raise_rows.Given as goal

abbrev pub invariant-loop-k : goal.invariant-loop-k
invariant-loop-k g l = record {
  power : (g.B.Board.state l.board).powered ≡ true;
  bits : are_row_words (drop l.k (words_of l.words)) ≡ true;
  rest : (ok : Bool) (u : _)
      → DoesAll g.B.Board.state g.B.Board.history l.board
      (word_raises (l.first + l.k) (drop l.k (words_of l.words))) ok u
      → DoesAll g.B.Board.state g.B.Board.history l.fn.board (word_raises l.first (words_of l.words)) ok u;
}
