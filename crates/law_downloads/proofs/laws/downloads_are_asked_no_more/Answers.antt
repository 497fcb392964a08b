use Rattle.law_downloads.proofs.laws.downloads_are_asked_no_more.Goals as goal

pub returns : goal.returns
returns c = λ content cpu family target image right executable aimed gated rights bytes some room. record {
  right = right;
  executable = executable;
  aimed = aimed;
  gated = gated;
  rights = rights;
  bytes = bytes;
  some = some;
  room = room;
}
