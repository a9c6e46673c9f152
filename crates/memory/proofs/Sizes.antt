-- How many records and labels the trees of memory.rs have.
use Prim.Native.Nat.{ℕ, zero, suc, ◌+◌, ◌*◌, ◌-◌, ◌≤◌, ◌<◌}
use mathlib.Core.Bool.{Bool, true, false}
use mathlib.Core.Path.{◌≡◌, refl, ap}
use native.Mathlib.Nat.{mul-le-mul_right, div-add-mod, mod-lt}
use native.Mathlib.Omega.{arith}
use lib.Dec.{ltb, eqb}
use Rattle.records.specs.declared.code.Code.TheVariants.{ADDIM, MOVL, CMPIM}
use Rattle.records.proofs.Conditions.{both_ways}
use Rattle.trees.specs.Tree.{Tree, nop, leaf, seq, if_zero, labels, size}
use Rattle.layout.specs.declared.config.Shape.{Shape}
use Rattle.layout.specs.Config.{Supported, STACK, TEMP, MINUSONE, stack_offset, register_for}
use Rattle.code.specs.Code.{load_immediate}
use Rattle.memory.specs.Objects.{fst, snd, store_zeros, store_fst, store_value, store_values, store_other, store_others, store_some, store_object, chunks, share_loaded, load_fst, load_value, load_values, release_unless, load_link, capacity, set_aside, restore, load_body, load_spilled, load_block, freed, load_others, load_some, load_object}
use Rattle.memory.proofs.Flattened.{fields_size}
use Rattle.memory.specs.Blocks.{erase_block, share_block, take_block, acquire_block, store_field, load_field}

-- how many records are enough for a store of n variables: for each block those that store its fields and acquire it
abbrev pub object_records : Shape → ℕ → ℕ
object_records g n = (16 * g.fields + 17) * (chunks (g.fields - 1) (n - g.fields) + 1) + 4

-- so many labels, and at most so many records
abbrev pub Sized : ℕ → ℕ → Tree → Type 0
Sized n m t = (labels t ≡ n) × (size t ≤ m)

-- at most so many of both
abbrev pub Within : ℕ → ℕ → Tree → Type 0
Within n m t = (labels t ≤ n) × (size t ≤ m)

pub erase_size : (g : Shape) (w : ℕ) → (labels (erase_block g w) ≡ 3) × (size (erase_block g w) ≤ 12)
erase_size g w = both_ways (Sized 3 12) (ltb w 16) (omega arith) (omega arith)

pub share_size : (g : Shape) (w n : ℕ) → (labels (share_block g w n) ≡ 1) × (size (share_block g w n) ≤ 5)
share_size g w n = both_ways (Sized 1 5) (ltb w 16) (omega arith) (omega arith)

pub take_size : (g : Shape) (w : ℕ) → (labels (take_block g w) ≡ 0) × (size (take_block g w) ≤ 2)
take_size g w = both_ways (Sized 0 2) (ltb w 16) (omega arith) (omega arith)

pub acquire_size : (g : Shape) (w : ℕ) → (labels (acquire_block g w) ≡ 3 * g.fields + 4) × (size (acquire_block g w) ≤ 12 * g.fields + 19)
acquire_size g w =
    let z = take_size g w in
    let y = fields_size g.fields in
    (omega arith, omega arith)

module _ (g : Shape) where
  pub store_field_size : (w r offset : ℕ) → (labels (store_field g w r offset) ≡ 0) × (size (store_field g w r offset) ≤ 2)
  store_field_size w r offset = both_ways (Sized 0 2) (ltb w 16) (omega arith) (omega arith)

  pub load_field_size : (w r offset : ℕ) → (labels (load_field g w r offset) ≡ 0) × (size (load_field g w r offset) ≤ 2)
  load_field_size w r offset = both_ways (Sized 0 2) (ltb w 16) (omega arith) (omega arith)

pub zeros_size : (n : ℕ) → (labels (store_zeros n) ≡ 0) × (size (store_zeros n) ≡ n)
zeros_size zero = (refl, refl)
zeros_size (suc n) = let z = zeros_size n in (omega arith, omega arith)

-- what m blocks of c variables hold, where m is as few as hold n of them
pub chunks_fill : (c n : ℕ) → 1 ≤ c → (n ≤ c * chunks c n) × (c * chunks c n < n + c)
chunks_fill c n h =
    let d = div-add-mod (n + (c - 1)) c in
    let l = mod-lt (n + (c - 1)) {m = c} h in
    (omega arith, omega arith)

-- and how many they are
pub chunks_few : (c n : ℕ) → 1 ≤ c → chunks c n < n + c
chunks_few c n h =
    let a : 1 * chunks c n ≤ c * chunks c n = mul-le-mul_right (chunks c n) h in
    let b = (chunks_fill c n h).1 in
    omega arith

-- c is a block's fields less one, and c * m is the only product
most_records_lem : (f c m n : ℕ) → 2 ≤ f → f ≡ c + 1 → c * m < n + c → (16 * f + 17) * m ≤ 49 * (n + c)
most_records_lem f c m n h e l =
    let a : 1 * m ≤ c * m = mul-le-mul_right m (omega arith) in
    let q : (16 * f + 17) * m ≡ 16 * (c * m) + 33 * m = omega (arith, ap (λ (x : ℕ). x * m) e) in
    omega arith

most_labels_lem : (f c m n : ℕ) → 2 ≤ f → f ≡ c + 1 → c * m < n + c → (3 * f + 4) * m ≤ 10 * (n + c)
most_labels_lem f c m n h e l =
    let a : 1 * m ≤ c * m = mul-le-mul_right m (omega arith) in
    let q : (3 * f + 4) * m ≡ 3 * (c * m) + 7 * m = omega (arith, ap (λ (x : ℕ). x * m) e) in
    omega arith

-- which are fewer than so many a variable
pub object_records_few : (g : Shape) → Supported g → (n : ℕ) → object_records g n ≤ 49 * n + 600
object_records_few g s n =
    let f : ℕ = g.fields in
    let c : ℕ = g.fields - 1 in
    let m : ℕ = chunks c (n - f) in
    let y = most_records_lem f c m (n - f) s.some (omega (arith, s.some)) (chunks_fill c (n - f) (omega (arith, s.some))).1 in
    omega (arith, s.few)

pub most_loaded : (c m n : ℕ) → 1 ≤ c → c * m < n + c → (8 * c + 7) * m ≤ 15 * (n + c)
most_loaded c m n h l =
    let a : 1 * m ≤ c * m = mul-le-mul_right m h in
    let q : (8 * c + 7) * m ≡ 8 * (c * m) + 7 * m = omega arith in
    omega arith

module _ (g : Shape) (ext : ℕ → Bool) where
  pub store_value_size : (v t : ℕ) → (labels (store_value g ext v t) ≡ 0) × (size (store_value g ext v t) ≤ 4)
  store_value_size v t =
      let a = store_field_size g (snd v) 2 (24 + 16 * t) in
      let b = store_field_size g (fst v) 2 (16 + 16 * t) in
      let c : Sized 0 2 (store_fst g (ext v) v t) = both_ways (Sized 0 2) (ext v) (omega arith) b in
      (omega arith, omega arith)

  pub store_values_size : (v k free : ℕ) → k ≤ free → (labels (store_values g ext v k free) ≡ 0) × (size (store_values g ext v k free) ≤ 3 * k + free)
  store_values_size v zero free h = let z = zeros_size free in (z.0, omega arith)
  store_values_size v (suc k) free h =
      let a = store_value_size (v + k) (free - 1) in
      let z = store_values_size v k (free - 1) (omega arith) in
      (omega arith, omega arith)

  pub store_other_size : Supported g → (v k : ℕ) → k ≤ g.fields - 1 → (labels (store_other g ext v k) ≡ 3 * g.fields + 4) × (size (store_other g ext v k) ≤ 16 * g.fields + 17)
  store_other_size s v k h =
      let a = store_field_size g (fst (v + k)) 2 (16 + 16 * (g.fields - 1)) in
      let z = store_values_size v k (g.fields - 1) h in
      let q = acquire_size g (fst v) in
      (omega arith, omega (arith, s.some))

  pub store_others_size : Supported g → (m v n : ℕ) → (labels (store_others g ext m v n) ≡ (3 * g.fields + 4) * m) × (size (store_others g ext m v n) ≤ (16 * g.fields + 17) * m)
  store_others_size s zero v n = (omega arith, omega arith)
  store_others_size s (suc m) v n =
      let a = store_other_size s (v + (n - (g.fields - 1))) (n - (n - (g.fields - 1))) (omega arith) in
      let z = store_others_size s m v (n - (g.fields - 1)) in
      (omega arith, omega arith)

  -- of a store of n variables
  pub store_some_size : Supported g → (v n : ℕ) → (labels (store_some g ext v n) ≤ 10 * n + 100) × (size (store_some g ext v n) ≤ object_records g n)
  store_some_size s v n =
      let f : ℕ = g.fields in
      let c : ℕ = g.fields - 1 in
      let m : ℕ = chunks c (n - f) in
      let a = store_values_size (v + (n - f)) (n - (n - f)) f (omega arith) in
      let q = acquire_size g (fst (v + (n - f))) in
      let z = store_others_size s m v (n - f) in
      let l = (chunks_fill c (n - f) (omega (arith, s.some))).1 in
      let x = most_labels_lem f c m (n - f) s.some (omega (arith, s.some)) l in
      (omega (arith, s.few), omega arith)

pub immediate_size : (g : Shape) (w value : ℕ) → (labels (load_immediate g w value) ≤ 0) × (size (load_immediate g w value) ≤ 1)
immediate_size g w value = both_ways (Within 0 1) (ltb w 16) (omega arith) (omega arith)

module _ (g : Shape) (ext : ℕ → Bool) (s : Supported g) (v n : ℕ) where
  pub store_object_records : (labels (store_object g ext v n) ≤ 10 * n + 100) × (size (store_object g ext v n) ≤ object_records g n)
  store_object_records =
      let a = immediate_size g (fst v) 0 in
      let z = store_some_size g ext s v n in
      both_ways (Within (10 * n + 100) (object_records g n)) (eqb n 0) (omega arith) z

  pub store_object_size : (labels (store_object g ext v n) ≤ 10 * n + 100) × (size (store_object g ext v n) ≤ 49 * n + 600)
  store_object_size = let z = store_object_records in (z.0, omega (arith, z.1, object_records_few g s n))

pub share_loaded_size : (shared : Bool) (w : ℕ) → (labels (share_loaded shared w) ≤ 1) × (size (share_loaded shared w) ≤ 4)
share_loaded_size shared w = both_ways (Within 1 4) shared (omega arith) (omega arith)

pub load_fst_size : (g : Shape) (integer shared : Bool) (v t r : ℕ) → (labels (load_fst g integer shared v t r) ≤ 1) × (size (load_fst g integer shared v t r) ≤ 6)
load_fst_size g integer shared v t r =
    let a = load_field_size g (fst v) r (16 + 16 * t) in
    let s = share_loaded_size shared (fst v) in
    both_ways (Within 1 6) integer (omega arith) (omega arith)

module _ (g : Shape) (ext : ℕ → Bool) (shared : Bool) where
  pub load_value_size : (v t r : ℕ) → (labels (load_value g ext shared v t r) ≤ 1) × (size (load_value g ext shared v t r) ≤ 8)
  load_value_size v t r =
      let a = load_field_size g (snd v) r (24 + 16 * t) in
      let z = load_fst_size g (ext v) shared v t r in
      (omega arith, omega arith)

  pub load_values_size : (v k free r : ℕ) → (labels (load_values g ext shared v k free r) ≤ k) × (size (load_values g ext shared v k free r) ≤ 8 * k)
  load_values_size v zero free r = (omega arith, omega arith)
  load_values_size v (suc k) free r =
      let a = load_value_size (v + k) (free - 1) r in
      let z = load_values_size v k (free - 1) r in
      (omega arith, omega arith)

pub release_size : (shared : Bool) (r : ℕ) → (labels (release_unless shared r) ≤ 0) × (size (release_unless shared r) ≤ 2)
release_size shared r = both_ways (Within 0 2) shared (omega arith) (omega arith)

pub link_size : (g : Shape) (other : Bool) (v r : ℕ) → (labels (load_link g other v r) ≤ 0) × (size (load_link g other v r) ≤ 2)
link_size g other v r =
    let a = load_field_size g (fst v) r (16 + 16 * (g.fields - 1)) in
    both_ways (Within 0 2) other (omega arith) (omega arith)

pub aside_size : (g : Shape) (aside : Bool) → (labels (set_aside g aside) ≤ 0) × (size (set_aside g aside) ≤ 1)
aside_size g aside = both_ways (Within 0 1) aside (omega arith) (omega arith)

pub restore_size : (g : Shape) (other : Bool) → (labels (restore g other) ≤ 0) × (size (restore g other) ≤ 1)
restore_size g other = both_ways (Within 0 1) other (omega arith) (omega arith)

module _ (g : Shape) (ext : ℕ → Bool) (shared other : Bool) where
  pub body_size : (v k r : ℕ) → (labels (load_body g ext shared other v k r) ≤ k) × (size (load_body g ext shared other v k r) ≤ 8 * k + 4)
  body_size v k r =
      let a = release_size shared r in
      let l = link_size g other (v + k) r in
      let z = load_values_size g ext shared v k (capacity g other) r in
      (omega arith, omega arith)

  pub spilled_size : (aside : Bool) (v k : ℕ) → (labels (load_spilled g ext shared other aside v k) ≤ k) × (size (load_spilled g ext shared other aside v k) ≤ 8 * k + 7)
  spilled_size aside v k =
      let a = aside_size g aside in
      let z = body_size v k 4 in
      let q = restore_size g other in
      (omega arith, omega arith)

  pub block_size : (aside : Bool) (v k : ℕ) → (labels (load_block g ext shared other aside v k) ≤ k) × (size (load_block g ext shared other aside v k) ≤ 8 * k + 7)
  block_size aside v k =
      let a = body_size v k (fst v) in
      let z = spilled_size aside v k in
      both_ways (Within k (8 * k + 7)) (ltb (fst v) 16) (omega arith) z

module _ (g : Shape) (ext : ℕ → Bool) (shared : Bool) where
  pub others_size : (m v n : ℕ) → (labels (load_others g ext shared m v n) ≤ (g.fields - 1) * m) × (size (load_others g ext shared m v n) ≤ (8 * (g.fields - 1) + 7) * m)
  others_size zero v n = (omega arith, omega arith)
  others_size (suc m) v n =
      let c : ℕ = g.fields - 1 in
      let a = block_size g ext shared true (freed g ext v (n - c)) (v + (n - c)) (n - (n - c)) in
      let z = others_size m v (n - c) in
      (omega arith, omega arith)

  -- of a load of n variables, by its blocks
  some_records : (v n : ℕ) → size (load_some g ext shared v n) ≤ (8 * (g.fields - 1) + 7) * chunks (g.fields - 1) (n - g.fields) + (8 * g.fields + 7)
  some_records v n =
      let f : ℕ = g.fields in
      let a = block_size g ext shared false (freed g ext v (n - f)) (v + (n - f)) (n - (n - f)) in
      let z = others_size (chunks (f - 1) (n - f)) v (n - f) in
      omega arith

  -- and by its variables
  pub some_size : Supported g → (v n : ℕ) → (labels (load_some g ext shared v n) ≤ n + 20) × (size (load_some g ext shared v n) ≤ 15 * n + 200)
  some_size s v n =
      let f : ℕ = g.fields in
      let c : ℕ = g.fields - 1 in
      let m : ℕ = chunks c (n - f) in
      let a = block_size g ext shared false (freed g ext v (n - f)) (v + (n - f)) (n - (n - f)) in
      let z = others_size m v (n - f) in
      let h : 1 ≤ c = omega (arith, s.some) in
      let l = (chunks_fill c (n - f) h).1 in
      let y = most_loaded c m (n - f) h l in
      (omega (arith, s.few), omega (arith, some_records v n, s.few))

module _ (g : Shape) (ext : ℕ → Bool) (s : Supported g) (v n : ℕ) where
  -- of a load, from those of its two ways
  two_ways : (l m : ℕ) → labels (load_some g ext false v n) + labels (load_some g ext true v n) + 2 ≤ l → size (load_some g ext false v n) + size (load_some g ext true v n) + 7 ≤ m
      → (labels (load_object g ext v n) ≤ l) × (size (load_object g ext v n) ≤ m)
  two_ways l m a b =
      let r : ℕ = register_for (fst v) in
      let p : Tree = leaf (MOVL TEMP STACK (stack_offset g (fst v))) refl in
      let c : Tree = if_zero (CMPIM r 0 0) refl (load_some g ext false v n) (seq (leaf (ADDIM r 0 MINUSONE) refl) (load_some g ext true v n)) in
      let y = both_ways (Within 0 1) (ltb (fst v) 16) {x = nop} {y = p} (omega arith) (omega arith) in
      both_ways (Within l m) (eqb n 0) (omega arith) (omega (arith, a, b, y))

  pub object_size : (labels (load_object g ext v n) ≤ 2 * n + 42) × (size (load_object g ext v n) ≤ 30 * n + 410)
  object_size =
      let a = some_size g ext false s v n in
      let b = some_size g ext true s v n in
      two_ways (2 * n + 42) (30 * n + 410) (omega arith) (omega arith)
