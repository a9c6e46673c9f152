use Rattle.port_rooms_proof.specs.Claims.{OrdersFit}
use Rattle.port_rooms_proof.proofs.OrderSizes.{order_within}
use Rattle.port_rooms_proof.proofs.Answering.{enough_room, variables_stay}
use Rattle.port_rooms_proof.proofs.orders_fit.Goals as goal

holds : OrdersFit
holds = record { within_records = order_within; enough_room = enough_room; variables_stay = variables_stay }

pub returns : goal.returns
returns c = holds
