use Rattle.print_i64_proof.proofs.Printing.{print_keeps_all_variables}
use Rattle.print_i64_proof.proofs.print_keeps_all_variables.Goals as goal

pub returns : goal.returns
returns c = print_keeps_all_variables
