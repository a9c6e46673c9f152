-- All blocks of an object loaded one after the other: those before the last, then the last.
use Prim.Native.Nat.{ℕ, ◌+◌, ◌*◌, ◌-◌, ◌≤◌, ◌<◌}
use mathlib.Core.Path.{◌≡◌, sym, ap, ◌∙◌}
use mathlib.Core.Bool.{Bool, true, false, not, ◌&&◌, cond}
use mathlib.Core.List.{List}
use native.Mathlib.Nat.{mul-le-mul_left}
use native.Mathlib.Omega.{arith}
use native.Mathlib.Decide.{dec_lt}
use lib.Dec.{leb, ltb}
use borrow.Author.Tests.{lt-ltb, le-ltb, le-leb, lt-leb}
use Rattle.trees.specs.Tree.{Tree}
use Rattle.emit.specs.declared.cursor.Cursor.{Cursor}
use Rattle.emit.specs.Emitted.{Emits}
use Rattle.emit.proofs.Laws.{◌⨟◌}
use Rattle.layout.specs.declared.config.Shape.{Shape}
use Rattle.layout.specs.Config.{positions}
use Rattle.memory.specs.Objects.{fst, chunks, capacity, load_block, freed, load_others, load_some}
use Rattle.memory.proofs.Sizes.{chunks_fill}
use Rattle.memory.proofs.Unfolded.{next_loaded_other, freed_of}
use Rattle.memory_load_blocks.specs.Blocks.{AllBlocks}

pub not_below : (a b : ℕ) → leb a b ≡ not (ltb b a)
not_below a b = by (dec_lt b a)
  where
    by : Dec (b < a) → leb a b ≡ not (ltb b a)
    by (yes h) = rw (lt-leb a b h, lt-ltb b a h)
    by (no h) = rw (le-leb a b (omega arith), le-ltb b a (omega arith))

-- one block more
pub more : (c i m : ℕ) → i < m → c * i + c ≤ c * m
more c i m h = let p = mul-le-mul_left {m = i + 1} {n = m} c (omega arith) in omega arith

-- where the block i begins and ends, if it is one before the last, and where the last begins
pub record Place (each m rest i from to : ℕ) : Type 0 where
  pub ends : to + each * m ≡ rest + each + each * i
  pub begins : from ≡ to - each

module _ {g : Shape} {first v n bytes each m rest : ℕ} (all : AllBlocks g first v n bytes each m rest) where
  pub filled : (rest ≤ each * m) × (each * m < rest + each)
  filled =
      let c : g.fields - 1 ≡ each = omega (arith, all.linked_by_last) in
      rw (c, ← (rw c at all.blocks)) at (chunks_fill (g.fields - 1) rest (omega (arith, all.supported.some)))

  module _ {i from to : ℕ} (at : Place each m rest i from to) where
    pub other_place : i < m → (to ≤ rest) × (to ≤ from + each) × (from ≤ to)
    other_place h = let p = more each i m h in let f = filled in (omega (arith, at.ends, p), omega (arith, at.begins), omega (arith, at.begins))

    pub end_most : i ≤ m → to ≤ rest + each
    end_most h = omega (arith, at.ends, mul-le-mul_left {m = i} {n = m} each h)

    pub last_place : i ≤ m → m ≤ i → from ≡ rest
    last_place l h =
        let e : i ≡ m = omega arith in
        omega (arith, at.ends, at.begins, ap (λ (x : ℕ). each * x) e)

  module _ (ext : ℕ → Bool) (shared : Bool) where
    -- the first i blocks
    pub loaded : ℕ → ℕ → Tree
    loaded i from = cond (leb i m) (load_others g ext shared i v from) (load_some g ext shared v n)

    pub none_yet : loaded 0 0 ≡ load_others g ext shared 0 v 0
    unfolding loaded
    none_yet = rw (le-leb 0 m (omega arith))

    pub all_loaded : (i from : ℕ) → m < i → loaded i from ≡ load_some g ext shared v n
    unfolding loaded
    all_loaded i from h = rw (lt-leb i m h)

    pub one_more : {o o₁ o₂ : List ℕ} {p p₁ p₂ : Cursor} {end : ℕ} {other aside : Bool} (i from to : ℕ) → i ≤ m → Place each m rest i from to
        → other ≡ ltb i m → end ≡ cond other to n → aside ≡ (ltb 0 from && not (ltb (fst (v + (from - each))) 16))
        → Emits o p o₁ p₁ (loaded i from)
        → Emits o₁ p₁ o₂ p₂ (load_block g ext shared other aside (v + from) (end - from))
        → Emits o p o₂ p₂ (loaded (i + 1) to)
    unfolding loaded
    one_more {o} {o₁} {o₂} {p} {p₁} {p₂} {end} {other} {aside} i from to l at eo ee ea d e = by (dec_lt i m)
      where
        before : Emits o p o₁ p₁ (load_others g ext shared i v from)
        before = rw (le-leb i m l) at d

        freed_here : aside ≡ freed g ext v from
        freed_here = ea ∙ sym (freed_of g ext each all.linked_by_last v from)

        by : Dec (i < m) → Emits o p o₂ p₂ (cond (leb (i + 1) m) (load_others g ext shared (i + 1) v to) (load_some g ext shared v n))
        by (yes h) =
            let t : other ≡ true = eo ∙ lt-ltb i m h in
            let f : end ≡ to = rw t at ee in
            let b : to - each ≡ from = sym at.begins in
            let x = rw (t, f, freed_here) at e in
            rw (le-leb (i + 1) m (omega arith), next_loaded_other g ext each all.linked_by_last shared i v to, b)
            (◌⨟◌ {u = load_block g ext shared true (freed g ext v from) (v + from) (to - from)} before x)
        by (no h) =
            let t : other ≡ false = eo ∙ le-ltb i m (omega arith) in
            let f : end ≡ n = rw t at ee in
            let b : from ≡ n - g.fields = last_place at l (omega arith) ∙ all.before_last in
            let same : i ≡ m = omega arith in
            let k : i ≡ chunks (g.fields - 1) (n - g.fields) = same ∙ all.blocks ∙ ap (chunks (g.fields - 1)) all.before_last in
            let x = rw (t, f, freed_here, b) at e in
            let y = rw (k, b) at before in
            rw (lt-leb (i + 1) m (omega arith)) (y ⨟ x)

-- a block of those, whichever it is: where it begins and ends, and that it holds its variables
pub record Bounded (g : Shape) (v n from end : ℕ) (other : Bool) : Type 0 where
  pub from_before : from ≤ end
  pub end_known : end ≤ n
  pub end_placed : 2 * (v + end) < positions g
  pub end_held : end - from ≤ capacity g other
  pub end_few : end - from ≤ 7

module _ {g : Shape} {first v n bytes each m rest : ℕ} (all : AllBlocks g first v n bytes each m rest) {i from to : ℕ} (at : Place each m rest i from to) where
  pub bounded : {end : ℕ} {other : Bool} → i ≤ m → other ≡ ltb i m → end ≡ cond other to n → Bounded g v n from end other
  bounded {end} {other} l eo ee = by (dec_lt i m)
    where
      by : Dec (i < m) → Bounded g v n from end other
      by (yes h) =
          let t : other ≡ true = eo ∙ lt-ltb i m h in
          let f : end ≡ to = rw t at ee in
          let p = other_place all at h in
          let few = all.supported.few in
          record {
            from_before = omega (arith, f, p.2);
            end_known = omega (arith, f, p.0, all.before_last);
            end_placed = omega (arith, f, p.0, all.before_last, all.placed);
            end_held = rw t (omega (arith, f, p.1, all.linked_by_last));
            end_few = omega (arith, f, p.1, all.linked_by_last, few);
          }
      by (no h) =
          let t : other ≡ false = eo ∙ le-ltb i m (omega arith) in
          let f : end ≡ n = rw t at ee in
          let b = last_place all at l (omega arith) in
          let few = all.supported.few in
          record {
            from_before = omega (arith, f, b, all.before_last);
            end_known = omega (arith, f);
            end_placed = omega (arith, f, all.placed);
            end_held = rw t (omega (arith, f, b, all.before_last));
            end_few = omega (arith, f, b, all.before_last, few);
          }
