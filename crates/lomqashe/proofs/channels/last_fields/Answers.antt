-- `lomqashe::channels::last_fields` meets its contract. Assumes nothing.
use mathlib.Core.Path.{ap, ◌∙◌}
use borrow.Author.Rules.{rules}
use mir.Syntax.{w8}
use mir.Val.{SFits}
use mir.Facts.{to_z-of_z}
use Rattle.tune.proofs.Bytes.{flag_byte}
use Rattle.tune.specs.Transposition.{signed_byte}
use Rattle.lomqashe.proofs.channels.last_fields.Goals as goal

pub returns : goal.returns
returns c =
    let f : SFits w8 c.args.c.fixed.transposition = record { sfits = search rules } in
    simp (flag_byte, c.from.ensures, c.waveform_byte.ensures, c.waveform_byte-2.ensures, c.from-2.ensures, c.from-3.ensures, c.from-4.ensures, c.from-5.ensures, c.from-6.ensures, c.from-7.ensures, c.signed_byte.ensures ∙ ap signed_byte (to_z-of_z f))
