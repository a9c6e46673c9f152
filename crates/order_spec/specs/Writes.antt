-- What each order writes, which context it leaves, and what it asks of the context before. From the scope, 'Order record'.
-- `context` is the bytes of k bindings, `bindings` those that follow a load; variables go by place, from 0, and a made variable's id is its place.
use Rattle.std.specs.Prelude.{ℕ, zero, suc, ◌+◌, ◌*◌, ◌-◌, Bool, true, not, ◌&&◌, cond, List, [], ◌++◌, ltb, leb, eqb, take}
use Rattle.records.specs.declared.binding.Kind.{Kind}
use Rattle.records.specs.declared.binding.Kind.TheVariants.{Linked, Ext}
use Rattle.records.specs.declared.order.Order.{Order}
use Rattle.records.specs.declared.order.Order.TheVariants.{Put, Compute, Copy, Drop, Store, Load, Print}
use Rattle.records.specs.Contexts.{binding_bytes, ext_at}
use Rattle.records.specs.Names.{most_count}
use Rattle.trees.specs.Tree.{Tree, nop, seq}
use Rattle.layout.specs.declared.config.Shape.{Shape}
use Rattle.code.specs.Code.{load_immediate, mov_tree, arithmetic}
use Rattle.memory.specs.Blocks.{erase_block, share_block}
use Rattle.memory.specs.Objects.{fst, snd, ext_in, store_object, load_object}
use Rattle.print_i64.specs.Print.{print_i64}

-- the bytes of a made variable's binding
abbrev pub made : Kind → ℕ → List ℕ
made kind place = binding_bytes (record { kind = kind; id = place })

abbrev pub made_all : Kind → ℕ → ℕ → List ℕ
made_all kind place zero = []
made_all kind place (suc n) = made kind place ++ made_all kind (suc place) n

-- 7: a copy's n is at most 2^31−1
abbrev pub count_ok : Order → Bool
count_ok (Put value) = true
count_ok (Compute operation a b) = true
count_ok (Copy a n) = leb n most_count
count_ok Drop = true
count_ok (Store n tag) = true
count_ok (Load n) = true
count_ok (Print newline a) = true

module _ (g : Shape) where
  -- variable a into variable v: an integer's Snd alone, else Fst before Snd
  abbrev pub copy_variable : Bool → ℕ → ℕ → Tree
  copy_variable ext a v = cond ext (mov_tree g (snd v) (snd a)) (seq (mov_tree g (fst v) (fst a)) (mov_tree g (snd v) (snd a)))

  -- and into the n variables from v on
  abbrev pub copy_to : Bool → ℕ → ℕ → ℕ → Tree
  copy_to ext a v zero = nop
  copy_to ext a v (suc n) = seq (copy_variable ext a v) (copy_to ext a (suc v) n)

  module _ (context : List ℕ) (k : ℕ) (bindings : List ℕ) where
    -- its records, as a tree
    unfoldable pub tree_of : Order → Tree
    tree_of (Put value) = load_immediate g (snd k) value
    tree_of (Compute operation a b) = arithmetic g operation (snd k) (snd a) (snd b)
    tree_of (Copy a n) = seq (cond (ext_at context a) nop (share_block g (fst a) n)) (copy_to (ext_at context a) a k n)
    tree_of Drop = cond (ext_at context (k - 1)) nop (erase_block g (fst (k - 1)))
    tree_of (Store n tag) = seq (store_object g (ext_in context 0) (k - n) n) (load_immediate g (snd (k - n)) tag)
    tree_of (Load n) = load_object g (ext_in bindings (k - 1)) (k - 1) n
    tree_of (Print newline a) = print_i64 g newline (snd a) (ext_at context) k

-- whether a variable's binding is an integer's, as its kind
abbrev pub kind_at : List ℕ → ℕ → Kind
kind_at context a = cond (ext_at context a) Ext Linked

module _ (context : List ℕ) (k : ℕ) (bindings : List ℕ) where
  -- the context after it
  unfoldable pub context_after : Order → List ℕ
  context_after (Put value) = context ++ made Ext k
  context_after (Compute operation a b) = context ++ made Ext k
  context_after (Copy a n) = context ++ made_all (kind_at context a) k n
  context_after Drop = take (8 * (k - 1)) context
  context_after (Store n tag) = take (8 * (k - n)) context ++ made Linked (k - n)
  context_after (Load n) = take (8 * (k - 1)) context ++ bindings
  context_after (Print newline a) = context

  -- 4: its places are in the context, and a store's n is at most its length
  unfoldable pub present : Order → Bool
  present (Put value) = true
  present (Compute operation a b) = ltb a k && ltb b k
  present (Copy a n) = ltb a k
  present Drop = ltb 0 k
  present (Store n tag) = leb n k
  present (Load n) = ltb 0 k
  present (Print newline a) = ltb a k

  -- 5: compute and print take integers, load a linked variable
  unfoldable pub kinds_ok : Order → Bool
  kinds_ok (Put value) = true
  kinds_ok (Compute operation a b) = ext_at context a && ext_at context b
  kinds_ok (Copy a n) = true
  kinds_ok Drop = true
  kinds_ok (Store n tag) = true
  kinds_ok (Load n) = not (ext_at context (k - 1))
  kinds_ok (Print newline a) = ext_at context a

  -- 8: one past the highest position that it asks for, 0 where it asks for none
  unfoldable pub asked : Order → ℕ
  asked (Put value) = 2 * k + 2
  asked (Compute operation a b) = 2 * k + 2
  asked (Copy a n) = cond (eqb n 0) (cond (ext_at context a) 0 (2 * a + 1)) (2 * (k + n))
  asked Drop = cond (ext_at context (k - 1)) 0 (2 * (k - 1) + 1)
  asked (Store n tag) = cond (eqb n 0) (2 * k + 2) (2 * k)
  asked (Load n) = cond (eqb n 0) 0 (2 * (k - 1 + n))
  asked (Print newline a) = 2 * a + 2
