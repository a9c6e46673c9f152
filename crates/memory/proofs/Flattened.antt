-- The records of `next_block` as the emitter writes them are its records.
use Prim.Native.Nat.{ℕ, zero, suc, ◌+◌, ◌*◌}
use mathlib.Core.Path.{◌≡◌, refl, ◌∙◌, ap}
use mathlib.Core.List.{List, [], ◌∷◌, ◌++◌, append_assoc}
use native.Mathlib.Omega.{arith}
use Rattle.records.specs.declared.code.Code.{Code}
use Rattle.records.specs.declared.code.Code.TheVariants.{ADDI, MOV, JMPL, LAB}
use Rattle.emit.specs.Emitted.{fields_list}
use Rattle.emit.proofs.Laws.{fields_append}
use Rattle.trees.specs.Tree.{labels, size, flat}
use Rattle.layout.specs.declared.config.Shape.{Shape}
use Rattle.layout.specs.Config.{HEAP, FREE, block_bytes}
use Rattle.memory.specs.Blocks.{erase_fields, next_block}
use Rattle.memory.specs.NextBlock.{next_begin, next_end}

pub fields_size : (f : ℕ) → (labels (erase_fields f) ≡ 3 * f) × (size (erase_fields f) ≡ 12 * f)
fields_size zero = (refl, refl)
fields_size (suc f) = let z = fields_size f in (omega arith, omega arith)

pub next_flat : (g : Shape) (r c : ℕ) → (fields_list (next_begin (3 * g.fields) r c) ++ fields_list (flat (erase_fields g.fields) c)) ++ fields_list (next_end (3 * g.fields) (block_bytes g) c) ≡ fields_list (flat (next_block g r) c)
next_flat g r c =
    let f : ℕ = g.fields in
    let z : labels (erase_fields f) ≡ 3 * f = (fields_size f).0 in
    let e₁ : c + (0 + 0 + (0 + labels (erase_fields f)) + 1) ≡ c + (3 * f + 1) = omega arith in
    let e₂ : c + (0 + 0 + (0 + labels (erase_fields f)) + 2) ≡ c + (3 * f + 2) = omega arith in
    let e₃ : c + (0 + (0 + (0 + (0 + (0 + labels (erase_fields f)) + 2))) + 0 + 1) ≡ c + (3 * f + 3) = omega arith in
    let e₄ : c + (0 + (0 + (0 + (0 + (0 + labels (erase_fields f)) + 2))) + 0 + 2) ≡ c + (3 * f + 4) = omega arith in
    let F : List Code = flat (erase_fields f) c in
    let R : List Code = JMPL (c + (3 * f + 2)) ∷ LAB (c + (3 * f + 1)) ∷ MOV FREE HEAP ∷ ADDI FREE (16 + 16 * f) ∷ LAB (c + (3 * f + 2)) ∷ [] in
    let S : List Code = LAB (c + (3 * f + 4)) ∷ [] in
    let e₅ : fields_list ((F ++ R) ++ S) ≡ fields_list F ++ fields_list (R ++ S) = ap fields_list (append_assoc F R S) ∙ fields_append F (R ++ S) in
    rw (e₁, e₂, e₃, e₄, e₅)
