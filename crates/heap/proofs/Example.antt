-- A run of three orders from the fresh heap, in any layout.
-- An integer is put, stored in a block, and loaded, which releases the block.
use mathlib.Core.Path.{◌≡◌, refl, ap}
use mathlib.Core.Logic.{◌≢◌}
use mathlib.Core.Bool.{cond}
use mathlib.Core.List.{List, [], ◌∷◌}
use Prim.Native.Nat.{ℕ, zero, suc}
use lib.Dec.{eqb}
use borrow.Author.Tests.{eq-eqb, ne_eqb}
use Rattle.heap.specs.Blocks.{Layout, cell, Memory}
use Rattle.heap.specs.Values.{integer, nil, cons}
use Rattle.heap.specs.Operations.{from_frontier, push_linear}
use Rattle.heap.specs.Orders.{put, store, load, plain, Legal, Performs, puts, stores_some, loads_last, fresh, next}
use Rattle.heap.specs.Claims.{RunsExist}

-- every object in one block
abbrev one_chunk : ℕ → List ℕ
one_chunk zero = []
one_chunk (suc n) = suc n ∷ []

abbrev update : {A : Type 0} → (ℕ → A) → ℕ → A → ℕ → A
update g a x b = cond (eqb b a) x (g b)

update_same : {A : Type 0} (g : ℕ → A) (a : ℕ) (x : A) → update g a x a ≡ x
update_same g a x = rw (eq-eqb a a refl)

update_other : {A : Type 0} (g : ℕ → A) (a : ℕ) (x : A) (b : ℕ) → b ≢ a → update g a x b ≡ g b
update_other g a x b n = rw (ne_eqb b a n)

module _ (L : Layout) where
  abbrev at_first : Memory
  at_first = record { header = λ b. 0; fields = λ b. []; linear_head = L.address 0; lazy_head = L.address 1 }

  abbrev after_store : Memory
  after_store = record { header = λ b. 0; fields = update (λ b. []) (L.address 0) (cell 0 7 ∷ []); linear_head = L.address 1; lazy_head = L.address 2 }

  abbrev after_load : Memory
  after_load = push_linear after_store (L.address 0) (update (λ b. 0) (L.address 0) (L.address 1))

  stored : Performs one_chunk L at_first (store 1 9) (cell 0 7 ∷ []) after_store (cell (L.address 0) 9 ∷ [])
  stored = stores_some [] (cell 0 7 ∷ []) [] after_store (L.address 0) 9 refl (
    refl,
    [],
    (λ b nz. refl),
    record {
      written = update_same (λ b. []) (L.address 0) (cell 0 7 ∷ []);
      elsewhere = update_other (λ b. []) (L.address 0) (cell 0 7 ∷ []);
      acquired = from_frontier refl refl refl (λ n e. ap (λ (x : ℕ). L.address (suc x)) (L.distinct 1 n e));
    },
  )

  loaded : Performs one_chunk L after_store (load 1) (cell (L.address 0) 9 ∷ []) after_load (cell 0 7 ∷ [])
  loaded = loads_last [] (cell (L.address 0) 9) 1 (cell 0 7 ∷ []) [] after_load refl ([], update_same (λ b. []) (L.address 0) (cell 0 7 ∷ [])) refl
      (update (λ b. 0) (L.address 0) (L.address 1), update_same (λ b. 0) (L.address 0) (L.address 1), update_other (λ b. 0) (L.address 0) (L.address 1), refl)

pub runs_exist : RunsExist
unfolding RunsExist plain Legal
runs_exist L = (
  one_chunk,
  refl,
  _,
  refl,
  _,
  refl,
  next (load 1) (next (store 1 9) (next (put 7) (fresh {M = at_first L} (record { zeroed = λ b. refl; first = refl; second = refl })) tt (puts 7 [])) tt (stored L)) (9, cons (integer 7) nil, refl, refl) (loaded L),
)
