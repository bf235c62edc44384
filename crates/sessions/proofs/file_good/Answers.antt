-- `sessions::file_good` meets its contract: rule by rule, the code is the definition.
use Rattle.sessions.specs.Grouped.{open_good}
use Rattle.sessions.proofs.file_good.Goals as goal

pub returns : goal.returns
unfolding open_good
returns c = rw (c.is_marked.ensures, c.place_good.ensures, c.place_good-2.ensures)
