use Rattle.heap.proofs.RunLemmas.{abstract_heap_stays_sound}
use Rattle.heap.proofs.abstract_heap_stays_sound.Goals as goal

pub returns : goal.returns
returns c = abstract_heap_stays_sound
