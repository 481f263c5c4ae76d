-- `lomqashe::channels::oscillator_of` meets its contract. Assumes nothing.
use Rattle.lomqashe.specs.Channels.{oscillator_of}
use Rattle.lomqashe.proofs.channels.oscillator_of.Goals as goal

pub returns : goal.returns
unfolding oscillator_of
returns c = simp c.waveform_of.ensures
