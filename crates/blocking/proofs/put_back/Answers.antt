-- `blocking::put_back` meets its contract: where the file has a buffer, and 360 bytes are lent for it, it goes back; else nothing does.
use mathlib.Core.Path.{◌∙◌}
use Rattle.blocking.specs.Blocking.{lent}
use Rattle.blocking.proofs.Cases.{put-there, put-nowhere}
use Rattle.blocking.proofs.put_back.Goals as goal

pub returns-then-buffer-has_buffer : goal.returns-then-buffer-has_buffer
returns-then-buffer-has_buffer c =
    let a = c.args in
    c.lay_back.ensures ∙ put-there a.e (lent a.image.now a.h a.buffer.now) _ c.has_buffer.ensures c.if-buffer-has_buffer.true

pub returns : goal.returns
returns c =
    let a = c.args in
    put-nowhere a.e (lent a.image.now a.h a.buffer.now) _ c.has_buffer.ensures c.if-buffer-has_buffer.false
