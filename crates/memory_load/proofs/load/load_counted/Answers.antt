use Prim.Native.Nat.{ℕ, ◌+◌, ◌-◌, ◌≤◌}
use mathlib.Core.Path.{◌≡◌, refl}
use mathlib.Core.Bool.{true, false}
use mathlib.Core.List.{List, [], ◌∷◌}
use native.Mathlib.Omega.{arith}
use Rattle.records.specs.declared.code.Code.TheVariants.{ADDIM, CMPIM, JEL, JMPL, LAB}
use Rattle.records.specs.Contexts.{ext_at}
use Rattle.trees.specs.Tree.{Tree, leaf, seq, if_zero}
use Rattle.emit.specs.declared.cursor.Cursor.{Cursor}
use Rattle.emit.specs.Emitted.{fields_list, Emitted, Emits}
use Rattle.emit.proofs.Laws.{chosen}
use Rattle.layout.specs.declared.config.Shape.{Shape}
use Rattle.layout.specs.Config.{Supported, MINUSONE}
use Rattle.memory.specs.Objects.{ext_in, load_some}
use Rattle.memory.proofs.Sizes.{some_size}
use Rattle.memory_load.specs.Linked.{linked_in}
use Rattle.memory_load.proofs.Labels.{released_labels, shared_labels}
use Rattle.memory_load.proofs.load.load_counted.Goals as goal

module _ (g : Shape) (f : Supported g) (s : List ℕ) (v n r : ℕ) where
  abbrev released : Tree
  released = load_some g (ext_in s v) false v n

  abbrev shared : Tree
  shared = seq (leaf (ADDIM r 0 MINUSONE) refl) (load_some g (ext_in s v) true v n)

  -- the last label's number is the counter after both branches
  by_count : {o o₁ o₂ o₃ o₄ o₅ : List ℕ} {p p₁ p₂ p₃ p₄ p₅ : Cursor} (k : ℕ)
      → k ≡ linked_in (ext_at s) 0 n
      → Emitted o p o₁ p₁ (fields_list (CMPIM r 0 0 ∷ JEL (p.counter + k + 2 - 1) ∷ [])) 0
      → Emits o₁ p₁ o₂ p₂ shared
      → Emitted o₂ p₂ o₃ p₃ (fields_list (JMPL (p.counter + k + 2) ∷ LAB (p.counter + k + 2 - 1) ∷ [])) 0
      → Emits o₃ (record { at = p₃.at; counter = p.counter }) o₄ p₄ released
      → Emitted o₄ p₄ o₅ p₅ (fields_list (LAB (p.counter + k + 2) ∷ [])) 0
      → Emits o p o₅ (record { at = p₅.at; counter = p.counter + k + 2 }) (if_zero (CMPIM r 0 0) refl released shared)
  by_count {p = p} k m a b d e z =
      let x = released_labels g (ext_in s v) f v n in
      let y = shared_labels g f s v n in
      chosen refl (p.counter + k + 2 - 1) (p.counter + k + 2) {t = released} {e = shared} a refl (omega (arith, a.drawn)) b d refl refl e
      (record { bytes = z.bytes; place = z.place; drawn = omega (arith, e.drawn) })
      (omega arith)
      (omega arith)

pub emit2-t-requires : goal.emit2-t-requires
emit2-t-requires c = let a = c.args in let w = c.requires in let h : a.n ≤ 261 = omega (arith, w.1, w.4.frame) in let z = some_size a.g (ext_in a.kinds.now a.v) true w.4 a.v a.n in omega (arith, w.2, c.emit2-q.ensures.place, c.load_shared-s.ensures.place, z.1)

pub load_some-u-requires : goal.load_some-u-requires
load_some-u-requires c = let a = c.args in let w = c.requires in let h : a.n ≤ 261 = omega (arith, w.1, w.4.frame) in let z = some_size a.g (ext_in a.kinds.now a.v) true w.4 a.v a.n in (omega arith, omega (arith, w.0), w.1, omega (arith, w.2, c.emit2-q.ensures.place, c.load_shared-s.ensures.place, c.emit2-t.ensures.place, z.1), omega (arith, w.3), w.4)

pub emit-w-requires : goal.emit-w-requires
emit-w-requires c = let a = c.args in let w = c.requires in let h : a.n ≤ 261 = omega (arith, w.1, w.4.frame) in let z = some_size a.g (ext_in a.kinds.now a.v) true w.4 a.v a.n in let y = some_size a.g (ext_in a.kinds.now a.v) false w.4 a.v a.n in omega (arith, w.2, c.emit2-q.ensures.place, c.load_shared-s.ensures.place, c.emit2-t.ensures.place, c.load_some-u.ensures.place, z.1, y.1)

pub shape_of-out : goal.shape_of-out
shape_of-out c = omega (arith, c.emit2-q.auto, c.load_shared-s.auto, c.emit2-t.auto, c.load_some-u.auto, c.emit-w.auto)

pub returns : goal.returns
returns c = let a = c.args in let k = c.linked in by_count a.g c.requires.4 a.kinds.now a.v a.n a.r k.result k.ensures.0 c.emit2-q.ensures c.load_shared-s.ensures c.emit2-t.ensures c.load_some-u.ensures c.emit-w.ensures
