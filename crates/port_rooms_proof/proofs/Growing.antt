-- A store of linked variables has no fewer records where they stand later, or where it begins a variable earlier: the most are those of a store of all.
use Prim.Native.Nat.{ℕ, zero, suc, ◌+◌, ◌*◌, ◌-◌, ◌≤◌, ◌<◌}
use mathlib.Core.Path.{◌≡◌, refl, sym, ◌∙◌, ap, fun_ext}
use mathlib.Core.Bool.{Bool, true, false, cond}
use native.Mathlib.Nat.{zero-add}
use native.Mathlib.Omega.{arith}
use native.Mathlib.Decide.{dec_lt}
use lib.Dec.{ltb, eqb}
use borrow.Author.Tests.{ltb-true, ltb-false, ne_eqb}
use Rattle.records.specs.declared.binding.Kind.TheVariants.{Linked}
use Rattle.records.specs.declared.code.Code.TheVariants.{MOV, MOVS, MOVL}
use Rattle.records.specs.Bytes.{le}
use Rattle.records.specs.Contexts.{binding_bytes, ext_at}
use Rattle.records.proofs.Conditions.{both_ways}
use Rattle.trees.specs.Tree.{Tree, leaf, seq, size}
use Rattle.layout.specs.declared.config.Shape.{Shape}
use Rattle.layout.specs.Config.{Supported, STACK, TEMP, HEAP, most_variables, stack_offset, fst_offset, snd_offset}
use Rattle.layout.specs.Positions.{location}
use Rattle.memory.specs.Blocks.{take_block, store_field, acquire_block}
use Rattle.memory.specs.Objects.{fst, snd, ext_in, store_value, store_values, store_other, store_others, store_some, store_object, chunks}
use Rattle.memory.proofs.Flattened.{fields_size}
use Rattle.memory.proofs.Sizes.{acquire_size, immediate_size, zeros_size, chunks_fill}
use Rattle.memory_bounds.specs.Bounds.{linked}
use Rattle.memory_bounds.proofs.StoreSizes.{some_record, store_linked}
use Rattle.order_spec.specs.Writes.{tree_of}
use Rattle.port_rooms_proof.specs.Sizes.{variables, store_of_all}

location_later : (p q : ℕ) → p ≤ q → location p ≤ location q
unfolding location
location_later p q h = by (ltb p 12) refl (ltb q 12) refl
  where
    by : (b : Bool) → ltb p 12 ≡ b → (c : Bool) → ltb q 12 ≡ c → cond b (p + 4) (p + 5) ≤ cond c (q + 4) (q + 5)
    by true e true f = omega arith
    by true e false f = omega arith
    by false e true f = omega (arith, ltb-false p 12 e, ltb-true q 12 f)
    by false e false f = omega arith

-- of trees by whether an operand is a register: those of a later operand are no shorter
choice_later : (w x : ℕ) (t u t' u' : Tree) → w ≤ x → size t ≤ size t' → size t ≤ size u' → size u ≤ size u' → size (cond (ltb w 16) t u) ≤ size (cond (ltb x 16) t' u')
choice_later w x t u t' u' h p q r = by (ltb w 16) refl (ltb x 16) refl
  where
    by : (b : Bool) → ltb w 16 ≡ b → (c : Bool) → ltb x 16 ≡ c → size (cond b t u) ≤ size (cond c t' u')
    by true e true f = p
    by true e false f = q
    by false e true f = absurd (omega (arith, ltb-false w 16 e, ltb-true x 16 f))
    by false e false f = r

-- no product of a positive number is less than it but 0
none : (c m : ℕ) → c * m < c → m ≡ 0
none c zero h = refl
none c (suc m) h = absurd (omega arith)

module _ (g : Shape) where
  field_later : (w x r offset : ℕ) → w ≤ x → size (store_field g w r offset) ≤ size (store_field g x r offset)
  field_later w x r offset h =
      choice_later w x (leaf (MOVS w r offset) refl) (seq (leaf (MOVL TEMP STACK (stack_offset g w)) refl) (leaf (MOVS TEMP r offset) refl))
      (leaf (MOVS x r offset) refl) (seq (leaf (MOVL TEMP STACK (stack_offset g x)) refl) (leaf (MOVS TEMP r offset) refl)) h (omega arith) (omega arith) (omega arith)

  acquire_later : (w x : ℕ) → w ≤ x → size (acquire_block g w) ≤ size (acquire_block g x)
  acquire_later w x h =
      let z =
      choice_later w x (leaf (MOV w HEAP) refl) (seq (leaf (MOV TEMP HEAP) refl) (leaf (MOVS HEAP STACK (stack_offset g w)) refl))
      (leaf (MOV x HEAP) refl) (seq (leaf (MOV TEMP HEAP) refl) (leaf (MOVS HEAP STACK (stack_offset g x)) refl)) h (omega arith) (omega arith) (omega arith) in
      omega arith

  -- at least one record takes the block
  pub acquire_least : (w : ℕ) → 12 * g.fields + 18 ≤ size (acquire_block g w)
  acquire_least w =
      let z : 1 ≤ size (take_block g w) = both_ways (λ (t : Tree). 1 ≤ size t) (ltb w 16) (omega arith) (omega arith) in
      omega (arith, (fields_size g.fields).1)

  -- so many a block
  others_least : (m v n : ℕ) → (12 * g.fields + 18) * m ≤ size (store_others g linked m v n)
  others_least zero v n = omega arith
  others_least (suc m) v n = omega (arith, acquire_least (fst (v + (n - (g.fields - 1)))), others_least m v (n - (g.fields - 1)))

  pub some_least : (v n : ℕ) → (12 * g.fields + 18) * (chunks (g.fields - 1) (n - g.fields) + 1) ≤ size (store_some g linked v n)
  some_least v n =
      omega (arith, acquire_least (fst (v + (n - g.fields))), others_least (chunks (g.fields - 1) (n - g.fields)) v (n - g.fields))

  -- where the variables stand later
  value_later : (v w t : ℕ) → v ≤ w → size (store_value g linked v t) ≤ size (store_value g linked w t)
  value_later v w t h =
      omega (arith, field_later (snd v) (snd w) HEAP (snd_offset t) (location_later (2 * v + 1) (2 * w + 1) (omega arith)), field_later (fst v) (fst w) HEAP (fst_offset t) (location_later (2 * v) (2 * w) (omega arith)))

  values_later : (v w k free : ℕ) → v ≤ w → size (store_values g linked v k free) ≤ size (store_values g linked w k free)
  values_later v w zero free h = omega arith
  values_later v w (suc k) free h = omega (arith, value_later (v + k) (w + k) (free - 1) (omega arith), values_later v w k (free - 1) h)

  other_later : (v w k : ℕ) → v ≤ w → size (store_other g linked v k) ≤ size (store_other g linked w k)
  other_later v w k h =
      omega (arith, field_later (fst (v + k)) (fst (w + k)) HEAP (fst_offset (g.fields - 1)) (location_later (2 * (v + k)) (2 * (w + k)) (omega arith)), values_later v w k (g.fields - 1) h, acquire_later (fst v) (fst w) (location_later (2 * v) (2 * w) (omega arith)))

  others_later : (m v w n : ℕ) → v ≤ w → size (store_others g linked m v n) ≤ size (store_others g linked m w n)
  others_later zero v w n h = omega arith
  others_later (suc m) v w n h =
      let rest : ℕ = n - (g.fields - 1) in
      omega (arith, other_later (v + rest) (w + rest) (n - rest) (omega arith), others_later m v w rest h)

  some_later : (v w n : ℕ) → v ≤ w → size (store_some g linked v n) ≤ size (store_some g linked w n)
  some_later v w n h =
      let rest : ℕ = n - g.fields in
      omega (arith, values_later (v + rest) (w + rest) (n - rest) g.fields (omega arith), acquire_later (fst (v + rest)) (fst (w + rest)) (location_later (2 * (v + rest)) (2 * (w + rest)) (omega arith)), others_later (chunks (g.fields - 1) rest) v w rest h)

  -- where a variable before them is stored too: its field had a zero, and where the pointer then goes is a record fewer at most
  value_least : (v t : ℕ) → 2 ≤ size (store_value g linked v t)
  value_least v t = omega (arith, some_record g (snd v) HEAP (snd_offset t), some_record g (fst v) HEAP (fst_offset t))

  values_grow : (v k free : ℕ) → suc k ≤ free → size (store_values g linked (suc v) k free) + 1 ≤ size (store_values g linked v (suc k) free)
  values_grow v zero free h = omega (arith, value_least (v + 0) (free - 1), (zeros_size free).1, (zeros_size (free - 1)).1)
  values_grow v (suc k) free h = omega (arith, value_later (suc v + k) (v + suc k) (free - 1) (omega arith), values_grow v k (free - 1) (omega arith))

  acquire_near : (w x : ℕ) → size (acquire_block g w) ≤ size (acquire_block g x) + 1
  acquire_near w x = omega (arith, (acquire_size g w).1, acquire_least x)

  other_grow : (v k : ℕ) → suc k ≤ g.fields - 1 → size (store_other g linked (suc v) k) ≤ size (store_other g linked v (suc k))
  other_grow v k h =
      omega (arith, field_later (fst (suc v + k)) (fst (v + suc k)) HEAP (fst_offset (g.fields - 1)) (location_later (2 * (suc v + k)) (2 * (v + suc k)) (omega arith)), values_grow v k (g.fields - 1) h, acquire_near (fst (suc v)) (fst v))

  -- the same numbers, the same records
  other_is : (v w k l : ℕ) → v ≡ w → k ≡ l → size (store_other g linked v k) ≡ size (store_other g linked w l)
  other_is v w k l e f = ap (λ (x : ℕ). size (store_other g linked x k)) e ∙ ap (λ (x : ℕ). size (store_other g linked w x)) f

  values_is : (v w k l : ℕ) → v ≡ w → k ≡ l → size (store_values g linked v k g.fields) ≡ size (store_values g linked w l g.fields)
  values_is v w k l e f = ap (λ (x : ℕ). size (store_values g linked x k g.fields)) e ∙ ap (λ (x : ℕ). size (store_values g linked w x g.fields)) f

  others_none : (m v n : ℕ) → m ≡ 0 → size (store_others g linked m v n) ≡ 0
  others_none m v n e = ap (λ (x : ℕ). size (store_others g linked x v n)) e

  -- the blocks before the last, as many as n variables fill, and as many as one more
  others_grow : (m m' v n n' : ℕ) → n' ≡ suc n → (g.fields - 1) * m < n + (g.fields - 1) → n' ≤ (g.fields - 1) * m'
      → size (store_others g linked m (suc v) n) ≤ size (store_others g linked m' v n')
  others_grow zero m' v n n' next fill more = omega arith
  others_grow (suc m) zero v n n' next fill more = absurd (omega arith)
  others_grow (suc m) (suc m') v n n' next fill more =
      by (dec_lt n (g.fields - 1)) (λ e f h. others_grow m m' v (n - (g.fields - 1)) (n' - (g.fields - 1)) e f h)
    where
      by : Dec (n < g.fields - 1)
          → (n' - (g.fields - 1) ≡ suc (n - (g.fields - 1)) → (g.fields - 1) * m < n - (g.fields - 1) + (g.fields - 1) → n' - (g.fields - 1) ≤ (g.fields - 1) * m'
          → size (store_others g linked m (suc v) (n - (g.fields - 1))) ≤ size (store_others g linked m' v (n' - (g.fields - 1))))
          → size (store_others g linked (suc m) (suc v) n) ≤ size (store_others g linked (suc m') v n')
      by (yes l) before =
          let c : ℕ = g.fields - 1 in
          omega (arith, other_grow v n l, other_is (suc v + (n - c)) (suc v) (n - (n - c)) n (omega arith) (omega arith), other_is (v + (n' - c)) v (n' - (n' - c)) (suc n) (omega arith) (omega arith), others_none m (suc v) (n - c) (none c m (omega arith)))
      by (no l) before =
          let c : ℕ = g.fields - 1 in
          omega (arith, before (omega arith) (omega arith) (omega arith), other_is (suc v + (n - c)) (v + (n' - c)) (n - (n - c)) (n' - (n' - c)) (omega arith) (omega arith))

  module _ (sup : Supported g) where
    some_grow : (v n : ℕ) → size (store_some g linked (suc v) n) ≤ size (store_some g linked v (suc n))
    some_grow v n = by (dec_lt n g.fields)
      where
        by : Dec (n < g.fields) → size (store_some g linked (suc v) n) ≤ size (store_some g linked v (suc n))
        by (yes l) =
            let a : ℕ = n - g.fields in
            let b : ℕ = suc n - g.fields in
            let c : ℕ = g.fields - 1 in
            let z : chunks c a ≡ 0 = none c (chunks c a) (omega (arith, (chunks_fill c a (omega (arith, sup.some))).1)) in
            omega (arith, values_grow v n g.fields l, values_is (suc v + a) (suc v) (n - a) n (omega arith) (omega arith), values_is (v + b) v (suc n - b) (suc n) (omega arith) (omega arith), acquire_near (fst (suc v + a)) (fst (v + b)), others_none (chunks c a) (suc v) a z)
        by (no l) =
            let a : ℕ = n - g.fields in
            let b : ℕ = suc n - g.fields in
            let c : ℕ = g.fields - 1 in
            let s : 1 ≤ c = omega (arith, sup.some) in
            omega (arith, values_is (suc v + a) (v + b) (n - a) (suc n - b) (omega arith) (omega arith), acquire_later (fst (suc v + a)) (fst (v + b)) (location_later (2 * (suc v + a)) (2 * (v + b)) (omega arith)), others_grow (chunks c a) (chunks c b) v a b (omega arith) (chunks_fill c a s).1 (chunks_fill c b s).0)

    from_first : (v n most : ℕ) → v + n ≡ most → size (store_some g linked v n) ≤ size (store_some g linked 0 most)
    from_first zero n most e = omega (arith, ap (λ (x : ℕ). size (store_some g linked 0 x)) (sym (zero-add n) ∙ e))
    from_first (suc v) n most e = omega (arith, some_grow v n, from_first v (suc n) most (omega arith))

    some_most : (v n most : ℕ) → v + n ≤ most → size (store_some g linked v n) ≤ size (store_some g linked 0 most)
    some_most v n most h =
        omega (arith, some_later v (most - n) n (omega arith), from_first (most - n) n most (omega arith))

    -- no store has more records than that of all variables, all linked
    pub store_most_lem : (ext : ℕ → Bool) (v n most : ℕ) → v + n ≤ most → 1 ≤ most → size (store_object g ext v n) ≤ size (store_object g linked 0 most)
    store_most_lem ext v n most h o =
        let z : size (store_object g linked v n) ≤ size (store_some g linked 0 most) =
        both_ways (λ (t : Tree). size t ≤ size (store_some g linked 0 most)) (eqb n 0) (omega (arith, (immediate_size g (fst v) 0).1, some_least 0 most)) (some_most v n most h) in
        rw (ne_eqb most 0 (λ e. omega arith)) (omega (arith, store_linked g ext v n))

-- it in a context of so many linked bindings, with the tag's record
all_linked : (n v : ℕ) → ext_at (variables Linked n) v ≡ false
unfolding binding_bytes le
all_linked zero v = refl
all_linked (suc n) zero = refl
all_linked (suc n) (suc v) = let e : 8 * suc v + 2 ≡ suc (suc (suc (suc (suc (suc (suc (suc (8 * v + 2)))))))) = omega arith in rw e (all_linked n v)

pub linked_in_lem : (n : ℕ) → ext_in (variables Linked n) 0 ≡ linked
linked_in_lem n = fun_ext (λ v. all_linked n (v - 0))

module _ (g : Shape) where
  pub all_size : size (store_of_all g) ≡ size (store_object g linked 0 (most_variables g)) + 1
  unfolding tree_of location
  all_size = let e : most_variables g - most_variables g ≡ 0 = omega arith in rw (e, linked_in_lem (most_variables g))

  pub all_least : Supported g → (12 * g.fields + 18) * (chunks (g.fields - 1) (most_variables g - g.fields) + 1) ≤ size (store_object g linked 0 (most_variables g))
  all_least sup = rw (ne_eqb (most_variables g) 0 (λ e. omega (arith, sup.aside))) (some_least g 0 (most_variables g))
