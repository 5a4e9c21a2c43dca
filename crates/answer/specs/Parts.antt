-- The part of a record that is gathered by itself. It serves the private functions only, and need not be believed.
use Rattle.answer.specs.declared.Answer.{Answer}
use Rattle.answer.specs.declared.Links.{Links}

unfoldable pub links_of : Answer → Links
links_of a =
    record { mast = a.mast; prev = a.prev; rela = a.rela; list = a.list; bask = a.bask; prog = a.prog; comm = a.comm }
