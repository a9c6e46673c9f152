-- What is written is read back, operation by operation.
use Rattle.records.specs.Contexts.{checked_context}
use Rattle.emit_proof.specs.Claims.{WrittenIsRead}
use Rattle.emit_proof.proofs.Lists.{readable}
use Rattle.emit_proof.proofs.Operations.{operation_reads}
use Rattle.emit_proof.proofs.Trees.{store_reads, load_reads, erase_reads, share_reads, print_reads, order_reads}
use Rattle.emit_proof.proofs.Routines.{routine_reads}

pub written_is_read : WrittenIsRead
written_is_read = record {
  lists = readable;
  operations = operation_reads;
  stores = store_reads;
  loads = load_reads;
  erases = erase_reads;
  shares = share_reads;
  prints = λ G sup room newline w context e. print_reads G sup room newline w context (checked_context context) e;
  orders = order_reads;
  routines = routine_reads;
}
