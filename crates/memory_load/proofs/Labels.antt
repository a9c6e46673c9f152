-- How many labels a load draws: one for each linked variable where its children are shared, else none.
use Prim.Native.Nat.{ℕ, zero, suc, ◌+◌, ◌*◌, ◌-◌, ◌≤◌}
use mathlib.Core.Path.{◌≡◌, refl, ap, ◌∙◌}
use mathlib.Core.Bool.{Bool, true, false}
use mathlib.Core.List.{List}
use native.Mathlib.Nat.{add-zero, add-suc}
use native.Mathlib.Omega.{arith}
use lib.Dec.{ltb}
use Rattle.records.specs.Contexts.{ext_at}
use Rattle.records.proofs.Conditions.{both_ways}
use Rattle.trees.specs.Tree.{Tree, labels}
use Rattle.layout.specs.declared.config.Shape.{Shape}
use Rattle.layout.specs.Config.{Supported}
use Rattle.memory.specs.Objects.{fst, snd, ext_in, load_fst, load_value, load_values, load_body, load_spilled, load_block, freed, load_others, load_some, capacity, chunks}
use Rattle.memory.proofs.Sizes.{chunks_fill, load_field_size, release_size, link_size, aside_size, restore_size}
use Rattle.memory_load.specs.Linked.{one_if_linked, linked_in}

-- n where the children are shared
abbrev drawn : Bool → ℕ → ℕ
drawn true n = n
drawn false n = 0

drawn_none : (shared : Bool) → 0 ≡ drawn shared 0
drawn_none true = refl
drawn_none false = refl

drawn_add : (shared : Bool) (m n : ℕ) → drawn shared m + drawn shared n ≡ drawn shared (m + n)
drawn_add true m n = refl
drawn_add false m n = refl

fst_labels : (g : Shape) (integer shared : Bool) (v t r : ℕ) → labels (load_fst g integer shared v t r) ≡ drawn shared (one_if_linked integer)
fst_labels g true true v t r = refl
fst_labels g true false v t r = refl
fst_labels g false true v t r = let a = load_field_size g (fst v) r (16 + 16 * t) in omega arith
fst_labels g false false v t r = let a = load_field_size g (fst v) r (16 + 16 * t) in omega arith

-- the variables of two parts in a row
linked_append : (ext : ℕ → Bool) (v m n : ℕ) → linked_in ext v m + linked_in ext (v + m) n ≡ linked_in ext v (m + n)
linked_append ext v m zero = rw (add-zero m) (add-zero (linked_in ext v m))
linked_append ext v m (suc n) =
    let e : v + m + n ≡ v + (m + n) = omega arith in
    let z = linked_append ext v m n in
    let f : one_if_linked (ext (v + m + n)) ≡ one_if_linked (ext (v + (m + n))) = ap (λ (i : ℕ). one_if_linked (ext i)) e in
    rw (add-suc m n) (omega arith)

module _ (g : Shape) (ext : ℕ → Bool) (shared : Bool) where
  value_labels : (v t r : ℕ) → labels (load_value g ext shared v t r) ≡ drawn shared (one_if_linked (ext v))
  value_labels v t r =
      let a = load_field_size g (snd v) r (24 + 16 * t) in
      let z = fst_labels g (ext v) shared v t r in
      omega arith

  values_labels : (v k free r : ℕ) → labels (load_values g ext shared v k free r) ≡ drawn shared (linked_in ext v k)
  values_labels v zero free r = drawn_none shared
  values_labels v (suc k) free r =
      let a = value_labels (v + k) (free - 1) r in
      let z = values_labels v k (free - 1) r in
      let d = drawn_add shared (linked_in ext v k) (one_if_linked (ext (v + k))) in
      omega arith

  module _ (other : Bool) where
    body_labels : (v k r : ℕ) → labels (load_body g ext shared other v k r) ≡ drawn shared (linked_in ext v k)
    body_labels v k r =
        let a = release_size shared r in
        let l = link_size g other (v + k) r in
        let z = values_labels v k (capacity g other) r in
        omega (arith, a.0, l.0)

    spilled_labels : (aside : Bool) (v k : ℕ) → labels (load_spilled g ext shared other aside v k) ≡ drawn shared (linked_in ext v k)
    spilled_labels aside v k =
        let a = aside_size g aside in
        let z = body_labels v k 4 in
        let q = restore_size g other in
        omega (arith, a.0, q.0)

    block_labels : (aside : Bool) (v k : ℕ) → labels (load_block g ext shared other aside v k) ≡ drawn shared (linked_in ext v k)
    block_labels aside v k =
        both_ways (λ (t : Tree). labels t ≡ drawn shared (linked_in ext v k)) (ltb (fst v) 16) (body_labels v k (fst v)) (spilled_labels aside v k)

  -- the variables before n - c and those from there on
  parts : (v n c : ℕ) → drawn shared (linked_in ext v (n - c)) + drawn shared (linked_in ext (v + (n - c)) (n - (n - c))) ≡ drawn shared (linked_in ext v n)
  parts v n c =
      let e : n - c + (n - (n - c)) ≡ n = omega arith in
      drawn_add shared (linked_in ext v (n - c)) (linked_in ext (v + (n - c)) (n - (n - c)))
      ∙ ap (drawn shared) (linked_append ext v (n - c) (n - (n - c)) ∙ ap (linked_in ext v) e)

  others_labels : (m v n : ℕ) → n ≤ (g.fields - 1) * m → labels (load_others g ext shared m v n) ≡ drawn shared (linked_in ext v n)
  others_labels zero v n h = let e : n ≡ 0 = omega arith in rw e (drawn_none shared)
  others_labels (suc m) v n h =
      let c : ℕ = g.fields - 1 in
      let a = block_labels true (freed g ext v (n - c)) (v + (n - c)) (n - (n - c)) in
      let z = others_labels m v (n - c) (omega arith) in
      let p = parts v n c in
      omega arith

  some_labels : Supported g → (v n : ℕ) → labels (load_some g ext shared v n) ≡ drawn shared (linked_in ext v n)
  some_labels s v n =
      let f : ℕ = g.fields in
      let c : ℕ = g.fields - 1 in
      let a = block_labels false (freed g ext v (n - f)) (v + (n - f)) (n - (n - f)) in
      let z = others_labels (chunks c (n - f)) v (n - f) (chunks_fill c (n - f) (omega (arith, s.some))).0 in
      let p = parts v n f in
      omega arith

pub released_labels : (g : Shape) (ext : ℕ → Bool) → Supported g → (v n : ℕ) → labels (load_some g ext false v n) ≡ 0
released_labels g ext s v n = some_labels g ext false s v n

-- the variables from v on, of which the first binding record is variable v's
linked_from : (s : List ℕ) (v n : ℕ) → linked_in (ext_in s v) v n ≡ linked_in (ext_at s) 0 n
linked_from s v zero = refl
linked_from s v (suc n) = let e : v + n - v ≡ 0 + n = omega arith in rw (linked_from s v n, e)

pub shared_labels : (g : Shape) → Supported g → (s : List ℕ) (v n : ℕ) → labels (load_some g (ext_in s v) true v n) ≡ linked_in (ext_at s) 0 n
shared_labels g f s v n = some_labels g (ext_in s v) true f v n ∙ linked_from s v n
