-- `original::witness::section_as_original` meets its contract, by `section`'s promises alone. Assumes nothing.
use Rattle.section.specs.Tables.{lent_by}
use Rattle.original.proofs.Equal.{call_equal}
use Rattle.original.proofs.witness.section_as_original.Goals as goal

pub returns : goal.returns
returns c =
    let promised = c.section.ensures in
    let a = c.args in
    call_equal (lent_by a.tables) a.s a.n a.output.now _ _ promised.answer promised.written promised.typed
