-- Code that stores variables into an object of as many blocks as they need, and loads them again, as trees. From memory.rs.
-- Variable v has the positions 2v and 2v+1; `ext v` says that it is an integer. The last block of an object holds g.fields variables, each other one
-- fewer and, in its last field, the link to the next. The last variables are stored first, into the last block, and the first are loaded first.
use Rattle.std.specs.Prelude.{ℕ, zero, suc, ◌+◌, ◌*◌, ◌-◌, ◌/◌, refl, Bool, true, false, not, ◌&&◌, cond, List, [], ◌∷◌, ltb, eqb}
use Rattle.records.specs.declared.code.Code.TheVariants.{ADDIM, MOVS, MOVL, MOVIM, CMPIM}
use Rattle.records.specs.Contexts.{ext_at}
use Rattle.trees.specs.Tree.{Tree, nop, leaf, seq, if_zero}
use Rattle.layout.specs.declared.config.Shape.{Shape}
use Rattle.layout.specs.Config.{STACK, TEMP, HEAP, RETURN1, SPILLTEMP, stack_offset, fst_offset, snd_offset, MINUSONE, register_for}
use Rattle.layout.specs.Positions.{location}
use Rattle.code.specs.Code.{load_immediate}
use Rattle.memory.specs.Blocks.{share_register, acquire_block, store_field, load_field, release_block}

abbrev pub fst : ℕ → ℕ
fst v = location (2 * v)

abbrev pub snd : ℕ → ℕ
snd v = location (2 * v + 1)

-- whether variable v is an integer, where the binding records s start with that of variable `first`
abbrev pub ext_in : List ℕ → ℕ → ℕ → Bool
ext_in s first v = ext_at s (v - first)

-- a zero in the Fst of each of the first n fields
abbrev pub store_zeros : ℕ → Tree
store_zeros zero = nop
store_zeros (suc n) = seq (store_zeros n) (leaf (MOVIM HEAP (fst_offset n) 0) refl)

-- how many blocks of c variables n of them fill
abbrev pub chunks : ℕ → ℕ → ℕ
chunks c n = (n + (c - 1)) / c

-- how an object's variables lie in its blocks, first block first: as many as a block has fields in the last one, one fewer in each other one but the first, and what is left in the first.
-- n variables in m blocks of c, before the blocks of the sizes xs
abbrev pub other_sizes : ℕ → ℕ → ℕ → List ℕ → List ℕ
other_sizes c zero n xs = xs
other_sizes c (suc m) n xs = other_sizes c m (n - c) ((n - (n - c)) ∷ xs)

abbrev pub some_sizes : Shape → ℕ → List ℕ
some_sizes g n = other_sizes (g.fields - 1) (chunks (g.fields - 1) (n - g.fields)) (n - g.fields) ((n - (n - g.fields)) ∷ [])

abbrev pub object_sizes : Shape → ℕ → List ℕ
object_sizes g zero = []
object_sizes g (suc n) = some_sizes g (suc n)

-- a variable's pointer into field t of HEAP's block, or zero where it is an integer
abbrev pub store_fst : Shape → Bool → ℕ → ℕ → Tree
store_fst g integer v t = cond integer (leaf (MOVIM HEAP (fst_offset t) 0) refl) (store_field g (fst v) HEAP (fst_offset t))

-- a pointer just loaded to an operand is shared where it stays in its block too
abbrev pub share_loaded : Bool → ℕ → Tree
share_loaded shared w = cond shared (share_register (register_for w) 1) nop

-- field t's pointer into variable v, unless it is an integer
abbrev pub load_fst : Shape → Bool → Bool → ℕ → ℕ → ℕ → Tree
load_fst g integer shared v t r =
    cond integer nop (seq (load_field g (fst v) r (fst_offset t)) (share_loaded shared (fst v)))

abbrev pub release_unless : Bool → ℕ → Tree
release_unless shared r = cond shared nop (release_block r)

-- `other` says that a block is not the last: the link to the next one goes into variable v's Fst
abbrev pub load_link : Shape → Bool → ℕ → ℕ → Tree
load_link g other v r = cond other (load_field g (fst v) r (fst_offset (g.fields - 1))) nop

-- how many variables a block holds
abbrev pub capacity : Shape → Bool → ℕ
capacity g other = cond other (g.fields - 1) g.fields

-- register 4 into spill 0, unless it is there already; and back after the last block
abbrev pub set_aside : Shape → Bool → Tree
set_aside g aside = cond aside nop (leaf (MOVS RETURN1 STACK (stack_offset g SPILLTEMP)) refl)

abbrev pub restore : Shape → Bool → Tree
restore g other = cond other nop (leaf (MOVL RETURN1 STACK (stack_offset g SPILLTEMP)) refl)

module _ (g : Shape) (ext : ℕ → Bool) where
  -- variable v into field t of HEAP's block
  abbrev pub store_value : ℕ → ℕ → Tree
  store_value v t = seq (store_field g (snd v) HEAP (snd_offset t)) (store_fst g (ext v) v t)

  -- the k variables from v on into the last of the first `free` fields, and zeros before them
  abbrev pub store_values : ℕ → ℕ → ℕ → Tree
  store_values v zero free = store_zeros free
  store_values v (suc k) free = seq (store_value (v + k) (free - 1)) (store_values v k (free - 1))

  -- the link to the block just stored, then k variables from v on, into a block that goes into variable v's Fst
  abbrev pub store_other : ℕ → ℕ → Tree
  store_other v k =
      seq (store_field g (fst (v + k)) HEAP (fst_offset (g.fields - 1)))
      (seq (store_values v k (g.fields - 1)) (acquire_block g (fst v)))

  -- the n variables from v on, in m blocks before the last
  abbrev pub store_others : ℕ → ℕ → ℕ → Tree
  store_others zero v n = nop
  store_others (suc m) v n =
      seq (store_other (v + (n - (g.fields - 1))) (n - (n - (g.fields - 1)))) (store_others m v (n - (g.fields - 1)))

  -- the last block of n variables from v on, and those before it
  abbrev pub store_some : ℕ → ℕ → Tree
  store_some v n =
      seq (store_values (v + (n - g.fields)) (n - (n - g.fields)) g.fields)
      (seq (acquire_block g (fst (v + (n - g.fields)))) (store_others (chunks (g.fields - 1) (n - g.fields)) v (n - g.fields)))

  -- n variables from v on into an object whose pointer goes into variable v's Fst; zero for none
  abbrev pub store_object : ℕ → ℕ → Tree
  store_object v n =
      cond (eqb n 0)
      (load_immediate g (fst v) 0)
      (store_some v n)

  -- field t of the block in register r into variable v; a pointer that stays in the block too is shared
  abbrev pub load_value : Bool → ℕ → ℕ → ℕ → Tree
  load_value shared v t r = seq (load_field g (snd v) r (snd_offset t)) (load_fst g (ext v) shared v t r)

  abbrev pub load_values : Bool → ℕ → ℕ → ℕ → ℕ → Tree
  load_values shared v zero free r = nop
  load_values shared v (suc k) free r = seq (load_value shared (v + k) (free - 1) r) (load_values shared v k (free - 1) r)

  -- k variables from v on out of the block in register r, released unless it is shared; before them the link to the next block
  abbrev pub load_body : Bool → Bool → ℕ → ℕ → ℕ → Tree
  load_body shared other v k r =
      seq (release_unless shared r) (seq (load_link g other (v + k) r) (load_values shared v k (capacity g other) r))

  -- the same out of a block in a spill, which goes through register 4: that is set aside unless it was before, and restored after the last block
  abbrev pub load_spilled : Bool → Bool → Bool → ℕ → ℕ → Tree
  load_spilled shared other aside v k =
      seq (set_aside g aside)
      (seq (leaf (MOVL RETURN1 STACK (stack_offset g (fst v))) refl) (seq (load_body shared other v k RETURN1) (restore g other)))

  -- the same out of the block in variable v's Fst
  abbrev pub load_block : Bool → Bool → Bool → ℕ → ℕ → Tree
  load_block shared other aside v k =
      cond (ltb (fst v) 16) (load_body shared other v k (fst v)) (load_spilled shared other aside v k)

  -- whether a block before the one that starts with variable v + n lay in a spill
  abbrev pub freed : ℕ → ℕ → Bool
  freed v n = ltb 0 n && not (ltb (fst (v + (n - (g.fields - 1)))) 16)

  abbrev pub load_others : Bool → ℕ → ℕ → ℕ → Tree
  load_others shared zero v n = nop
  load_others shared (suc m) v n =
      seq (load_others shared m v (n - (g.fields - 1)))
      (load_block shared true (freed v (n - (g.fields - 1))) (v + (n - (g.fields - 1))) (n - (n - (g.fields - 1))))

  abbrev pub load_some : Bool → ℕ → ℕ → Tree
  load_some shared v n =
      seq (load_others shared (chunks (g.fields - 1) (n - g.fields)) v (n - g.fields))
      (load_block shared false (freed v (n - g.fields)) (v + (n - g.fields)) (n - (n - g.fields)))

  -- n variables from v on out of the object in variable v's Fst: its blocks released where no other pointer names it, else its children shared
  abbrev pub load_object : ℕ → ℕ → Tree
  load_object v n =
      cond (eqb n 0) nop
      (seq (cond (ltb (fst v) 16) nop (leaf (MOVL TEMP STACK (stack_offset g (fst v))) refl))
      (if_zero (CMPIM (register_for (fst v)) 0 0) refl
      (load_some false v n)
      (seq (leaf (ADDIM (register_for (fst v)) 0 MINUSONE) refl) (load_some true v n))))
