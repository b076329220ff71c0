-- Soundness of a machine record, the test for number 9: that of its parts (`numbers`).
use Rattle.std.specs.Prelude.{Bool}
use Rattle.numbers.specs.Sound.{sound_by}
use Rattle.sequencer.specs.declared.Machine.{Machine}

abbrev pub sound_of : Machine → Bool
sound_of m = sound_by m.configured m.config m.past m.counters m.control m.queue.count
