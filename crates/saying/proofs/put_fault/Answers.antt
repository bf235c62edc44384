-- `saying::put_fault` meets its contract: the text of the shape.
use Rattle.texts.specs.Texts.{spelled}
use Rattle.saying.specs.Said.{fault_words}
use Rattle.saying.proofs.put_fault.Goals as goal

pub returns-in-Shape : goal.returns-in-Shape
unfolding spelled fault_words
returns-in-Shape c = rw c.in-Shape.is c.put_all.ensures
