-- print_i64 of a position of the context: the source to TEMP if it is a spill, and the call with the registers of the first four variables saved around it.
use Rattle.std.specs.Prelude.{Ok}
use Prim.Native.Nat.{ℕ, zero, suc, ◌+◌, ◌*◌, ◌≤◌, ◌<◌, min}
use mathlib.Core.Path.{◌≡◌, refl, sym, ap, ◌∙◌}
use mathlib.Core.Logic.{◌≢◌}
use mathlib.Core.Bool.{Bool, true, false, cond}
use mathlib.Core.List.{List, [], ◌∷◌, ◌++◌}
use native.Mathlib.Decide.{dec_lt}
use native.Mathlib.Omega.{arith}
use lib.Dec.{ltb}
use lib.ListN.{length}
use borrow.Author.Tests.{ltb-true, ltb-false}
use Rattle.records.specs.declared.code.Code.TheVariants.{MOV, MOVL, CALL}
use Rattle.records.specs.Contexts.{ext_at}
use Rattle.trees.specs.Tree.{nop, leaf, seq}
use Rattle.layout.specs.declared.config.Shape.{Shape}
use Rattle.layout.specs.Config.{Supported, STACK, TEMP, operands, positions, frame_pointer, stack_offset}
use Rattle.layout.specs.Positions.{location}
use Rattle.layout.specs.Frame.{stack_word}
use Rattle.word.specs.Words.{choose}
use Rattle.print_i64.specs.Registers.{registers_to_save, first_backup, backups_used}
use Rattle.print_i64.proofs.Sizes.{registers_most}
use Rattle.print_i64.specs.Print.{save_registers, restore_registers, print_name, print_i64, print_records}
use Rattle.machine_step.specs.View.{View}
use Rattle.machine_step.specs.Step.{Call, Config}
use Rattle.layout_proof.specs.Held.{held, PlacedAt, Placed}
use Rattle.layout_proof.proofs.Operands.{with_register}
use Rattle.layout_proof.proofs.HeldLemmas.{upd_other, held_register, held_spill, location_low, location_high, location_fits}
use Rattle.layout_proof.proofs.RecordLemmas.{spill_MOVL}
use Rattle.layout_proof.proofs.Runs.{Does, go, so}
use Rattle.emit_proof.proofs.Trees.{print_readable}
use Rattle.machine.specs.Run.{starting}
use Rattle.code_proof.proofs.Ran.{placed, ends}
use Rattle.heap.specs.Blocks.{Cell, cell}
use Rattle.memory_proof.proofs.Variables.{variable, variables}
use Rattle.memory_proof.proofs.Shown.{heap_of}
use Rattle.print_i64_proof.specs.Claims.{PrintLeaves, PrintKeepsAllVariables}
use Rattle.print_i64_proof.proofs.Each.{saved_of, registers_low}
use Rattle.print_i64_proof.proofs.Stack.{stack_address}
use Rattle.print_i64_proof.proofs.Saved.{Room}
use Rattle.print_i64_proof.proofs.Called.{call_of}
use Rattle.print_i64_proof.proofs.Around.{Around, around_does}

-- the stack's word that STACK is at after setup
abbrev frame_word : Shape → ℕ
frame_word G = G.spills + 6

-- STACK after setup, and the words below it
stack_after_setup : (G : Shape) → Supported G → (x : ℕ) → x ≡ frame_pointer G → x ≡ stack_address (frame_word G)
unfolding stack_address
stack_after_setup G h x e = omega (arith, h.frame)

room_after_setup : {G : Shape} {N x y : ℕ} (o : View) → PlacedAt G N x o.depth y → Room (frame_word G) o
room_after_setup o v = record { room = omega (arith, v.deep); small = omega (arith, v.deep, v.shape.frame) }

-- where o is c's state but for TEMP
module _ (G : Shape) (ext : ℕ → Bool) (n : ℕ) (c : Config) (o : View) (z : List Call) (e : Config)
    (registers : (j : ℕ) → j ≢ 1 → o.reg j ≡ c.state.reg j) (stack : o.stk ≡ c.state.stk) (r : Around (frame_word G) o z (first_backup n) (registers_to_save ext n) e) where
  register_at : (j : ℕ) → j < 16 → j ≢ 1 → e.state.reg j ≡ o.reg j → held e j ≡ held c j
  register_at j h i q = held_register e.state.reg e.state.stk j h ∙ q ∙ registers j i ∙ sym (held_register c.state.reg c.state.stk j h)

  spill_at : (l : ℕ) → 16 ≤ l → l < operands G → held e l ≡ held c l
  spill_at l h k =
      held_spill e.state.reg e.state.stk l h ∙ r.beside.spills (stack_word l) (omega arith) ∙ ap (λ (g : ℕ → ℕ). g (stack_word l)) stack
      ∙ sym (held_spill c.state.reg c.state.stk l h)

  -- a position, where those of the first four variables are known
  position_at : (p : ℕ) → p < 2 * n → p < positions G → (p < 8 → e.state.reg (4 + p) ≡ o.reg (4 + p)) → held e (location p) ≡ held c (location p)
  position_at p h k low = by (dec_lt p 8) (dec_lt p 12)
    where
      by : Dec (p < 8) → Dec (p < 12) → held e (location p) ≡ held c (location p)
      by (yes a) b =
          let q : location p ≡ 4 + p = omega (arith, location_low p (omega arith)) in
          rw q (register_at (4 + p) (omega arith) (omega arith) (low a))
      by (no a) (yes b) =
          let q : location p ≡ 4 + p = omega (arith, location_low p b) in
          rw q (register_at (4 + p) (omega arith) (omega arith) (r.high (4 + p) (omega arith) (omega arith)))
      by (no a) (no b) = spill_at (location p) (omega (arith, location_high p (omega arith))) (omega (arith, location_high p (omega arith)))

  saved : (v : ℕ) → v < n → v < 4 → (e.state.reg (5 + 2 * v) ≡ o.reg (5 + 2 * v)) × (ext v ≡ false → e.state.reg (4 + 2 * v) ≡ o.reg (4 + 2 * v))
  saved v h k = saved_of (λ j. e.state.reg j ≡ o.reg j) ext (min n 4) v (omega arith) r.saved

  snd_at : (v : ℕ) → v < n → 2 * v + 1 < positions G → held e (location (2 * v + 1)) ≡ held c (location (2 * v + 1))
  snd_at v h k =
      let q : 4 + (2 * v + 1) ≡ 5 + 2 * v = omega arith in
      position_at (2 * v + 1) (omega arith) k (λ l. rw q (saved v h (omega arith)).0)

  fst_at : (v : ℕ) → v < n → 2 * v < positions G → ext v ≡ false → held e (location (2 * v)) ≡ held c (location (2 * v))
  fst_at v h k x = position_at (2 * v) (omega arith) k (λ l. (saved v h (omega arith)).1 x)

  pub prints : (newline : Bool) (w : ℕ) → Supported G → c.state.reg 0 ≡ frame_pointer G → z ≡ c.calls ++ (call_of newline w ∷ []) → o.mem ≡ c.state.mem → o.size ≡ c.state.size → o.depth ≡ c.state.depth
      → PrintLeaves G newline w ext n c e
  prints newline w h s q m t y = record {
    called = r.beside.calls_are ∙ q;
    snd_kept = snd_at;
    fst_kept = fst_at;
    spills_kept = spill_at;
    stack_kept = r.stack_at ∙ sym (stack_after_setup G h (c.state.reg 0) s);
    HEAP-kept = r.reserved 2 (omega arith) (omega arith) (omega arith) ∙ registers 2 (omega arith);
    FREE-kept = r.reserved 3 (omega arith) (omega arith) (omega arith) ∙ registers 3 (omega arith);
    heap_kept = r.beside.heap_kept ∙ m;
    size_kept = r.beside.size_kept ∙ t;
    depth_kept = r.beside.depth_kept ∙ y;
  }

module _ (words : ℕ → ℕ) {G : Shape} {N : ℕ} (ext : ℕ → Bool) (newline : Bool) (c : Config) (n : ℕ) (v : Placed G N c) where
  abbrev f : ℕ
  f = first_backup n

  abbrev used : ℕ
  used = backups_used n (length (registers_to_save ext n))

  -- the source in register x
  from_register : (x : ℕ) (d : Config) → Room (frame_word G) d.state → x ≢ 0 → x < f → d.state.reg 0 ≡ stack_address (frame_word G)
      → Does words (seq (save_registers f used (registers_to_save ext n)) (seq (seq (leaf (MOV 7 x) refl) (leaf (CALL (print_name newline)) refl)) (restore_registers f used (registers_to_save ext n)))) d
      (Around (frame_word G) d.state (d.calls ++ (call_of newline (d.state.reg x) ∷ [])) f (registers_to_save ext n))
  from_register = around_does words (frame_word G) (omega (arith, v.shape.even)) f (omega arith) newline used (registers_to_save ext n) (registers_low ext (min n 4) (omega arith)) (omega (arith, registers_most ext (min n 4)))

  module _ (p : ℕ) (h : p < 2 * n) (k : p < positions G) where
    abbrev w : ℕ
    w = location p

    fits : (4 ≤ w) × (w < operands G) × (w ≢ 16)
    fits = location_fits G p k

    below : w < 16 → w < f
    below l = by (dec_lt p 12)
      where
        by : Dec (p < 12) → w < f
        by (yes a) = omega (arith, location_low p a)
        by (no a) = absurd (omega (arith, location_high p (omega arith)))

    -- of any position
    pub position_printed : Does words (print_i64 G newline w ext n) c (PrintLeaves G newline (held c w) ext n c)
    position_printed = by (ltb w 16) refl
      where
        by : (t : Bool) → ltb w 16 ≡ t
            → Does words (seq (cond t nop (leaf (MOVL TEMP STACK (stack_offset G w)) refl))
            (seq (save_registers f used (registers_to_save ext n)) (seq (seq (leaf (MOV 7 (cond t w TEMP)) refl) (leaf (CALL (print_name newline)) refl)) (restore_registers f used (registers_to_save ext n))))) c
            (PrintLeaves G newline (held c w) ext n c)
        by true e =
            let l : w < 16 = ltb-true w 16 e in
            let q : c.state.reg w ≡ held c w = sym (held_register c.state.reg c.state.stk w l) in
            go refl (so (from_register w c (room_after_setup c.state v) (omega (arith, fits)) (below l) (stack_after_setup G v.shape (c.state.reg 0) v.stack))
            (λ d r. prints G ext n c c.state (c.calls ++ (call_of newline (c.state.reg w) ∷ [])) d (λ j i. refl) refl r newline (held c w) v.shape v.stack (ap (λ (y : ℕ). c.calls ++ (call_of newline y ∷ [])) q) refl refl refl))
        by false e =
            let d : Config = with_register c 1 (held c w) in
            go (spill_MOVL words c v w (ltb-false w 16 e) fits.1 1) (so (from_register 1 d (room_after_setup d.state v) (omega arith) (omega arith) (stack_after_setup G v.shape (c.state.reg 0) v.stack))
            (λ g r. prints G ext n c d.state (c.calls ++ (call_of newline (held c w) ∷ [])) g (λ j i. upd_other c.state.reg 1 (held c w) j i) refl r newline (held c w) v.shape v.stack refl refl refl refl))

-- the variables of a context as cells
module _ {G : Shape} {newline : Bool} {w : ℕ} (ext : ℕ → Bool) (n : ℕ) (c d : Config) (s : PrintLeaves G newline w ext n c d) where
  variable_kept : (v : ℕ) → v < n → 2 * v + 1 < positions G → variable ext d v ≡ variable ext c v
  variable_kept v h k = by (ext v) refl
    where
      by : (x : Bool) → ext v ≡ x
          → cell (choose x 0 (held d (location (2 * v)))) (held d (location (2 * v + 1))) ≡ cell (choose x 0 (held c (location (2 * v)))) (held c (location (2 * v + 1)))
      by true e = rw (s.snd_kept v h k)
      by false e = rw (s.snd_kept v h k, s.fst_kept v h (omega arith) e)

  variables_printed : (v k : ℕ) → v + k ≤ n → 2 * (v + k) < positions G → variables ext d v k ≡ variables ext c v k
  variables_printed v zero h b = refl
  variables_printed v (suc k) h b =
      ap (λ (x : Cell). x ∷ variables ext d (suc v) k) (variable_kept v (omega arith) (omega arith))
      ∙ ap (λ (l : List Cell). variable ext c v ∷ l) (variables_printed (suc v) k (omega arith) (omega arith))

-- the Snd of an integer
pub print_does : (words : ℕ → ℕ) {G : Shape} {N : ℕ} (ext : ℕ → Bool) (newline : Bool) (c : Config) (k a : ℕ) → Placed G N c → a < k → 2 * k < positions G → ext a ≡ true
    → Does words (print_i64 G newline (location (2 * a + 1)) ext k) c
    (λ d. (variables ext d 0 k ≡ variables ext c 0 k) × (heap_of G d ≡ heap_of G c) × Placed G N d × (d.calls ≡ c.calls ++ (record { name = print_name newline; number = held c (location (2 * a + 1)) } ∷ [])))
print_does words {G} ext newline c k a v h b x =
    so (position_printed words ext newline c k v (2 * a + 1) (omega arith) (omega arith))
    (λ d s. (
      variables_printed ext k c d s 0 k (omega arith) (omega arith),
      rw (s.heap_kept, s.HEAP-kept, s.FREE-kept),
      record { shape = v.shape; stack = s.stack_kept ∙ v.stack; deep = s.depth_kept ∙ v.deep; words = s.size_kept ∙ v.words; fits = v.fits },
      s.called,
    ))

pub print_keeps_all_variables : PrintKeepsAllVariables
unfolding PrintKeepsAllVariables
print_keeps_all_variables G sup words v s n p newline h q l k =
    rw q (ends G words v h (print_records G newline (location p) s (Ok n)) (print_readable G sup newline (location p) s n) (print_i64 G newline (location p) (ext_at s) n) refl
    (position_printed words (ext_at s) newline (starting v) n (placed G sup v h) p l k))
