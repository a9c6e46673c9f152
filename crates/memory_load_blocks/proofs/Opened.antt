-- A block is loaded out of its own register, or out of register 4, which is set aside before and restored after it: its records in a row are the tree's.
use Prim.Native.Nat.{ℕ}
use mathlib.Core.Path.{◌≡◌, refl, ap}
use mathlib.Core.Bool.{Bool, true, false, ◌||◌, cond}
use mathlib.Core.List.{List, append-nil}
use native.Mathlib.Omega.{arith}
use lib.Dec.{ltb}
use Rattle.records.specs.declared.code.Code.TheVariants.{MOVL}
use Rattle.trees.specs.Tree.{Tree, nop, leaf, seq, flat}
use Rattle.emit.specs.declared.cursor.Cursor.{Cursor}
use Rattle.emit.specs.Emitted.{fields_list, Emits}
use Rattle.emit.proofs.Laws.{◌⨟◌, listed, grown}
use Rattle.layout.specs.declared.config.Shape.{Shape}
use Rattle.layout.specs.Config.{STACK, RETURN1, stack_offset}
use Rattle.memory.specs.Objects.{fst, set_aside, restore, load_body, load_block}

-- nothing before and after it
alone : {o o' : List ℕ} {p q : Cursor} (t : Tree) → Emits o p o' q (seq nop (seq nop (seq t nop))) → Emits o p o' q t
alone {p = p} t d = grown t (listed d) (ap fields_list (append-nil (flat t p.counter))) (omega arith)

module _ (g : Shape) (ext : ℕ → Bool) (shared other aside : Bool) (v k : ℕ) where
  abbrev borrowed : Bool → ℕ → Tree
  borrowed b w = cond b nop (leaf (MOVL RETURN1 STACK (stack_offset g w)) refl)

  pub opened : {o o₁ o₂ o₃ o₄ : List ℕ} {p p₁ p₂ p₃ p₄ : Cursor} {w r : ℕ} {keep back : Bool} → w ≡ fst v → r ≡ cond (ltb w 16) w RETURN1
      → keep ≡ (ltb w 16 || aside) → back ≡ (ltb w 16 || other)
      → Emits o p o₁ p₁ (set_aside g keep)
      → Emits o₁ p₁ o₂ p₂ (borrowed (ltb w 16) w)
      → Emits o₂ p₂ o₃ p₃ (load_body g ext shared other v k r)
      → Emits o₃ p₃ o₄ p₄ (restore g back)
      → Emits o p o₄ p₄ (load_block g ext shared other aside v k)
  opened {o} {o₁} {o₂} {o₃} {o₄} {p} {p₁} {p₂} {p₃} {p₄} {w} {r} {keep} {back} e er ek eb a b c d =
      rw (← e) (by (ltb w 16) refl)
    where
      by : (x : Bool) → ltb w 16 ≡ x → Emits o p o₄ p₄ (cond x (load_body g ext shared other v k w) (seq (set_aside g aside) (seq (leaf (MOVL RETURN1 STACK (stack_offset g w)) refl) (seq (load_body g ext shared other v k RETURN1) (restore g other)))))
      by true z =
          let h = rw (ek, z) at a in
          let i = rw z at b in
          let j = rw (er, z) at c in
          let l = rw (eb, z) at d in
          alone (load_body g ext shared other v k w) (h ⨟ i ⨟ j ⨟ l)
      by false z =
          let h = rw (ek, z) at a in
          let i = rw z at b in
          let j = rw (er, z) at c in
          let l = rw (eb, z) at d in
          h ⨟ i ⨟ j ⨟ l
