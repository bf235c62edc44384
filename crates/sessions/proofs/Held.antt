-- What it says that a file holds a sector in its buffer: its state holds one, and its kind has a buffer.
use mathlib.Core.Path.{◌≡◌}
use mathlib.Core.Bool.{true, false, and-false}
use Rattle.geometry.proofs.Tests.{and_left, and_right, and_both}
use Rattle.directory.specs.declared.Entry.{Entry}
use Rattle.sessions.specs.Session.{has_buffer, holds_one}
use Rattle.sessions.specs.declared.BufferedFile.{BufferedFile}

module _ (e : Entry) (b : BufferedFile) where
  pub one_holds : holds_one e b ≡ true → b.holds ≡ true
  unfolding holds_one
  one_holds h = and_left b.holds (has_buffer e) h

  pub one-buffer : holds_one e b ≡ true → has_buffer e ≡ true
  unfolding holds_one
  one-buffer h = and_right b.holds (has_buffer e) h

  pub holds-one : b.holds ≡ true → has_buffer e ≡ true → holds_one e b ≡ true
  unfolding holds_one
  holds-one h k = and_both b.holds (has_buffer e) h k

  pub no-buffer-none : has_buffer e ≡ false → holds_one e b ≡ false
  unfolding holds_one
  no-buffer-none k = rw (k, and-false b.holds)

-- the kind is all that it goes by of an entry
pub kind-holds : (a e : Entry) (b : BufferedFile) → a.kind ≡ e.kind → holds_one a b ≡ holds_one e b
unfolding holds_one
kind-holds a e b k = rw k
