use Rattle.heap.proofs.RunLemmas.{abstract_frontier_is_peak}
use Rattle.heap.proofs.abstract_frontier_is_peak.Goals as goal

pub returns : goal.returns
returns c = abstract_frontier_is_peak
