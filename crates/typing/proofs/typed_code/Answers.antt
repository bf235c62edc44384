-- `typing::typed_code` meets its contract: it tests what the definition tests.
use Rattle.typing.proofs.Letters.{comes_back, does_not}
use Rattle.typing.proofs.typed_code.Goals as goal

pub returns-then-to_ascii-c : goal.returns-then-to_ascii-c
returns-then-to_ascii-c c = comes_back _ _ _ c.to_ebcdic-e.ensures c.to_ascii.ensures c.if-to_ascii-c.true

pub returns-else-to_ascii-c : goal.returns-else-to_ascii-c
returns-else-to_ascii-c c = does_not _ _ _ c.to_ebcdic-e.ensures c.to_ascii.ensures c.if-to_ascii-c.false
